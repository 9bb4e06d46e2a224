use Rattle.std.specs.Prelude.{Some}
use Rattle.lease_table.specs.internals.Publications.{owned_in}
use Rattle.lease_table.proofs.KeysInSets.{keys_owned}
use Rattle.lease_table.proofs.keyed_assignment.KeyedAssignment.keys.Goals as goal

pub returns-in-Some : goal.returns-in-Some
returns-in-Some c =
    let owned = keys_owned (owned_in (Some c.self.inside.assignment)) c.args.task c.in-Some.keys.now _ c.self.invariant c.in-Some.ensures in
    rw (← c.self.view_is, ← owned) c.copy.ensures
