use Rattle.lease_table.specs.internals.Publications.{owned_in_both}
use Rattle.lease_table.proofs.KeysInSets.{keys_owned}
use Rattle.lease_table.proofs.publication.Publication.bridge_keys.Goals as goal

pub returns-in-Some : goal.returns-in-Some
returns-in-Some c =
    let owned = keys_owned (owned_in_both c.args.self.now) c.args.task c.in-Some.keys.now _ (rw c.self.view_is at c.self.invariant) c.in-Some.ensures in
    rw (← owned) c.copy.ensures
