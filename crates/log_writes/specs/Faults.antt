-- The first write of a log that the law of fencing tokens rules out.
use Rattle.std.specs.Prelude.{◌≡◌, Bool, List, map, length, Option, Some, None, option_and_then, option_map, slice_get}
use Rattle.cluster.specs.continued.Jobs.{Continued}
use Rattle.store_writes.specs.Writes.{IsFirstRuledOut, NoneBefore}
use Rattle.store_writes.specs.declared.ruled_out.RuledOut.{RuledOut}
use Rattle.store_writes.specs.declared.ruled_out.WriteFault.{WriteFault}
use Rattle.store_writes.specs.declared.ruled_out.WriteFault.TheVariants as rule
use Rattle.log_line.specs.declared.entry.LinePosition.{LinePosition}
use Rattle.log_line.specs.declared.entry.LogEntry.{LogEntry}
use Rattle.log_line.specs.declared.entry.WriteEntry.{WriteEntry}
use Rattle.log_writes.specs.declared.fault.FenceFault.{FenceFault}
use Rattle.log_writes.specs.declared.fault.FenceReason.{FenceReason}
use Rattle.log_writes.specs.declared.fault.FenceReason.TheVariants.{NotGiven, Overtaken}
use Rattle.log_writes.specs.declared.turns.Turn.{Turn}
use Rattle.log_writes.specs.Given.{AreGivenIn}
use Rattle.log_writes.specs.Turns.{IsInTurn, event_of, turns_of}

-- why a write is ruled out, with the position of the other write
abbrev pub reason_of : List Turn → WriteFault → Option FenceReason
reason_of turns rule.NotGiven = Some NotGiven
reason_of turns (rule.Overtaken index) = option_map (λ by. Overtaken by.place) (slice_get turns index)

abbrev pub fault_with : LinePosition → FenceReason → FenceFault
fault_with place why = record { place = place; why = why }

-- the write that is ruled out, by its position
abbrev pub fault_of : List Turn → RuledOut → Option FenceFault
fault_of turns found = option_and_then (λ turn. option_map (fault_with turn.place) (reason_of turns found.why)) (slice_get turns found.index)

-- the law rules out no write of these turns, or this is the first one that it rules out
abbrev pub IsFound : List Turn → Option FenceFault → Type 0
IsFound turns None = NoneBefore (map event_of turns) (length (map event_of turns))
IsFound turns (Some fault) = (found : RuledOut) × IsFirstRuledOut (map event_of turns) found × (fault_of turns found ≡ Some fault)

-- THE VERDICT: entries gave tasks these tokens, and this is the first write that the law rules out, in the order of the tickets, if there is one
pub record IsFenced (job : Continued) (goes_on : Bool) (entries : List LogEntry) (writes : List WriteEntry) (fault : Option FenceFault) : Type 0 where
  pub given : List Turn
  pub are_given : AreGivenIn job entries given
  pub turns : List Turn
  pub in_turn : IsInTurn (turns_of goes_on given writes) turns
  pub found : IsFound turns fault
