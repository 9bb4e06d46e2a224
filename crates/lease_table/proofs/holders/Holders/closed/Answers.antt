use Rattle.std.proofs.Common.{◌≡◌, rules, subst}
use Rattle.lease_table.specs.internals.Holders.{holder_in, rows_held}
use Rattle.lease_table.specs.internals.RowOrder.{NumbersRise}
use Rattle.lease_table.proofs.holders.Holders.closed.Goals as goal

pub rows_up_to-requires : goal.rows_up_to-requires
rows_up_to-requires c =
    let same : rows_held c.args.self.now (holder_in c.args.note.now) ≡ c.as_slice.result.now = search rules in
    subst NumbersRise same c.requires
