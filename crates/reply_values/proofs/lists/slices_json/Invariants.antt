use Rattle.std.proofs.Common.{◌≡◌, map, take}
use Rattle.serde_json.specs.View.{view}
use Rattle.wire.specs.declared.numerals.Numerals.TheVariants.{Quoted}
use Rattle.wire.specs.Assignments.{slice_data}
use Rattle.reply_values.proofs.lists.slices_json.Given as goal

abbrev pub invariant-loop-slice : goal.invariant-loop-slice
invariant-loop-slice l = map view l.list.items ≡ map (slice_data Quoted) (take l.slice-index l.slices)
