use Rattle.std.proofs.Common.{◌≡◌, ◌∙◌, ◌<◌, List, filter, length, ap}
use Rattle.std.specs.Prelude.{nat_le}
use Rattle.std.specs.Map.{values_of}
use Rattle.grants.specs.declared.values.Row.{Row}
use Rattle.grants.specs.Rows.{runs_at, running_rows, closes}
use Rattle.lease_table.specs.internals.Holders.{holder_in, holds, unfreed}
use Rattle.lease_table.proofs.FreedRows.{closed_of, closed_running}
use Rattle.lease_table.proofs.RowOrder.{rise_filter}
use Rattle.lease_table.proofs.rows.Rows.count_closed.Goals as goal

pub closed-requires : goal.closed-requires
closed-requires c =
    rw (c.self.invariant.listed (holder_in c.args.note.now))
    (rise_filter (λ row later. row.number < later.number) (holds (holder_in c.args.note.now)) _
    (rise_filter (λ row later. row.number < later.number) (runs_at 0) _ c.self.invariant.numbers))

pub returns : goal.returns
returns c =
    let rows = values_of c.self.inside.map.entries in
    let closed : c.closed.result.now ≡ filter (closes c.args.note.now) (unfreed rows) =
    c.closed.ensures ∙ ap (λ (rs : List Row). filter (λ row. nat_le row.number c.args.note.now.number) rs) (c.self.invariant.listed (holder_in c.args.note.now)) ∙ closed_of c.args.note.now (unfreed rows) in
    c.count_running.ensures ∙ ap (λ (rs : List Row). length (running_rows c.args.at rs)) closed ∙ ap (λ (rs : List Row). length rs) (closed_running c.args.note.now c.args.at rows)
    ∙ ap (λ (rs : List Row). length (filter (closes c.args.note.now) (running_rows c.args.at rs))) c.self.view_is
