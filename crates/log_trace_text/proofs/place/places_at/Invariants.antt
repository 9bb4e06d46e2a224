use Rattle.std.proofs.Common.{◌≡◌, map, take}
use Rattle.log_trace_text.specs.Places.{place_at}
use Rattle.log_trace_text.proofs.place.places_at.Given as goal

abbrev pub invariant-loop-at : goal.invariant-loop-at
invariant-loop-at l = l.lines.items ≡ map place_at (take l.at-index l.positions)
