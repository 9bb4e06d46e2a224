use Rattle.std.proofs.Common.{◌≡◌, ◌∙◌, List, Option, Some, None, length, map, subst}
use Rattle.std.specs.Prelude.{MatchOption}
use Rattle.store_writes.specs.declared.ruled_out.RuledOut.{RuledOut}
use Rattle.store_writes.specs.declared.write.WriteEvent.{WriteEvent}
use Rattle.store_writes.specs.Writes.{IsFirstRuledOut, NoneBefore}
use Rattle.log_writes.specs.declared.turns.Turn.{Turn}
use Rattle.log_writes.specs.Faults.{IsFound}
use Rattle.log_writes.specs.Turns.{event_of}
use Rattle.log_writes.proofs.fault.found_in.Goals as goal

none_found : (turns : List Turn) (events : List WriteEvent) (found : Option RuledOut) → found ≡ None → events ≡ map event_of turns
    → MatchOption found (NoneBefore events (length events)) (IsFirstRuledOut events) → IsFound turns None
none_found turns events None is same none = subst (λ (es : List WriteEvent). NoneBefore es (length es)) same none
none_found turns events (Some it) is same none = absurd (cc)

pub returns-in-None : goal.returns-in-None
returns-in-None c =
    none_found c.args.turns.now c.as_slice.result.now c.in_ok-found.found c.in-None.is (c.as_slice.ensures.value ∙ c.in_ok-events.ensures) c.in_ok-found.ensures
