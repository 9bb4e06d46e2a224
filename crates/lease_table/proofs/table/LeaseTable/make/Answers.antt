use Rattle.lease_table.proofs.Deadlines.{ends_later, few_grants}
use Rattle.lease_table.proofs.table.LeaseTable.make.Goals as goal

pub add_row-requires-clause-spare : goal.add_row-requires-clause-spare
add_row-requires-clause-spare c =
    few_grants c.args.self.now c.args.at (rw (← c.self.view_is) c.policy_law.ensures) c.requires.accepted

pub add_row-requires-clause-runs : goal.add_row-requires-clause-runs
add_row-requires-clause-runs c =
    let later = ends_later c.args.self.now c.args.self.now.pending c.args.grant.now.task c.args.grant.now.life c.args.at (rw (← c.self.view_is) c.policy_law.ensures) in
    rw (c.row.ensures, c.requires.next) later
