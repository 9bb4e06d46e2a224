use Rattle.std.proofs.Common.{◌≡◌, map, take}
use Rattle.log_trace_text.specs.Places.{place_of}
use Rattle.log_trace_text.proofs.place.places_of.Given as goal

abbrev pub invariant-loop-entry : goal.invariant-loop-entry
invariant-loop-entry l = l.places.items ≡ map place_of (take l.entry-index l.entries)
