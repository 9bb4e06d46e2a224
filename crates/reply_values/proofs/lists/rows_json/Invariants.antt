use Rattle.std.proofs.Common.{◌≡◌, map, take}
use Rattle.serde_json.specs.View.{view}
use Rattle.wire.specs.declared.numerals.Numerals.TheVariants.{Quoted}
use Rattle.wire.specs.Rows.{row_data}
use Rattle.reply_values.proofs.lists.rows_json.Given as goal

abbrev pub invariant-loop-row : goal.invariant-loop-row
invariant-loop-row l = map view l.list.items ≡ map (row_data Quoted) (take l.row-index l.rows)
