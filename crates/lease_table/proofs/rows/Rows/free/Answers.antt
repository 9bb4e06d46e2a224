use Rattle.std.proofs.Common.{◌≡◌, ◌∙◌, ◌<◌, List, filter, ap}
use Rattle.std.specs.Prelude.{nat_le}
use Rattle.std.specs.Map.{values_of}
use Rattle.grants.specs.declared.values.Row.{Row}
use Rattle.grants.specs.Rows.{runs_at, closes}
use Rattle.lease_table.specs.internals.Holders.{holder_in, holds, rows_freed, unfreed, entries_freed}
use Rattle.lease_table.proofs.FreedRows.{closed_of, freed_values, keyed_freed, listed_freed}
use Rattle.lease_table.proofs.RowOrder.{rise_filter, numbers_freed, generations_freed, ended_freed}
use Rattle.lease_table.proofs.rows.Rows.free.Goals as goal

pub closed-requires : goal.closed-requires
closed-requires c =
    rw (c.self.invariant.listed (holder_in c.args.note.now))
    (rise_filter (λ row later. row.number < later.number) (holds (holder_in c.args.note.now)) _
    (rise_filter (λ row later. row.number < later.number) (runs_at 0) _ c.self.invariant.numbers))

freed : (c : goal.After-keep_open) → values_of c.mark_freed.new.map.entries ≡ rows_freed c.args.note.now (values_of c.self.inside.map.entries)
freed c =
    let rows = values_of c.self.inside.map.entries in
    let closed : c.closed.result.now ≡ filter (closes c.args.note.now) (unfreed rows) =
    c.closed.ensures ∙ ap (λ (rs : List Row). filter (λ row. nat_le row.number c.args.note.now.number) rs) (c.self.invariant.listed (holder_in c.args.note.now)) ∙ closed_of c.args.note.now (unfreed rows) in
    ap values_of (c.mark_freed.ensures ∙ ap (λ (rs : List Row). entries_freed rs c.self.inside.map.entries) closed)
    ∙ freed_values c.args.note.now c.self.inside.map.entries c.self.invariant.keyed c.self.invariant.numbers

pub invariant_of-self : goal.invariant_of-self
invariant_of-self c = record {
  keyed = rw c.mark_freed.ensures (keyed_freed c.closed.result.now c.self.inside.map.entries c.self.invariant.keyed);
  numbers = rw (freed c) (numbers_freed c.args.note.now _ c.self.invariant.numbers);
  rising = rw (freed c) (generations_freed c.args.note.now _ c.self.invariant.rising);
  ended = rw (freed c) (ended_freed c.args.note.now _ _ _ c.self.invariant.ended);
  listed = rw (freed c) (λ holder. c.keep_open.ensures holder ∙ listed_freed c.args.note.now holder _ _ (c.self.invariant.listed holder));
}

pub returns : goal.returns
returns c = freed c ∙ ap (rows_freed c.args.note.now) c.self.view_is
