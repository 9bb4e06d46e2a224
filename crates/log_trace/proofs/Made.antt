-- What the calls of one entry make of the machines and of the places.
use Rattle.std.proofs.Common.{◌≡◌, ◌∙◌, ℕ, Bool, true, false, List, [], ◌∷◌, ◌++◌, map, refl, ap}
use Rattle.std.specs.Prelude.{Option, Some, None}
use Rattle.machines.specs.Numbers.{is_within}
use Rattle.job_calls.specs.Jobs.{Job}
use Rattle.job_calls.specs.declared.call.ClusterCall.TheVariants as call
use Rattle.job_calls.specs.declared.reply.ClusterReply.{ClusterReply}
use Rattle.job_calls.specs.declared.reply.ClusterReply.TheVariants as reply
use Rattle.grants.specs.declared.slicelet_call.SliceletCall.TheVariants.{Hear}
use Rattle.grants.specs.declared.table_call.TableCall.TheVariants as table_call
use Rattle.cluster.specs.Pasts.{Past, event, is_accepted}
use Rattle.cluster.specs.continued.Deliveries.{knows_grant}
use Rattle.cluster.specs.continued.Jobs.{Continued}
use Rattle.cluster.specs.continued.Runs.{IsReply}
use Rattle.reasons.specs.declared.places.CallPlaces.{CallPlaces}
use Rattle.reasons.specs.declared.reason.Reason.{Reason}
use Rattle.reasons.specs.Placed.{ArePlaces, Placed}
use Rattle.log_line.specs.declared.line.BareGrant.{BareGrant}
use Rattle.log_line.specs.declared.line.LoggedCall.{LoggedCall}
use Rattle.log_line.specs.declared.line.LoggedCall.TheVariants.{Whole, HearBare, LearnBare, Restore, Sample}
use Rattle.log_line.specs.declared.restored.KeptNumbers.{KeptNumbers}
use Rattle.log_line.specs.declared.restored.RestoreFault.{RestoreFault}
use Rattle.log_line.specs.declared.told.CallerReply.{CallerReply}
use Rattle.log_run.specs.Calls.{whole_grant}
use Rattle.log_run.specs.Played.{IsCalled, StandsFor}
use Rattle.log_run.specs.Restores.{IsTaken}
use Rattle.log_run.proofs.Unknown.{hears, refused_so, why_unsent}
use Rattle.log_trace.specs.Calls.{AreMadeAt, placed_at}
use Rattle.log_trace.specs.Lines.{IsAnsweredFor, IsLineReason}
use Rattle.log_trace.specs.internals.Making.{is_single}
use Rattle.log_trace.proofs.Unmoved.{nobody_places}

-- ONE CALL

pub single_stands : (job : Job) (past after : Past) (c : LoggedCall) (told : CallerReply) → is_single c ≡ true → IsCalled past c told after
    → StandsFor job past c told after
single_stands job past after (Whole w) told single called = called
single_stands job past after (HearBare task grant at) told single called = called
single_stands job past after (LearnBare clerk generation) told single called = called
single_stands job past after (Restore numbers) told single called = absurd (cc)
single_stands job past after (Sample taken) told single called = absurd (cc)

pub single_reason : (job : Continued) (past : Past) (placed : List Placed) (c : LoggedCall) (told : CallerReply) (reason : Option Reason) → is_single c ≡ true
    → IsAnsweredFor job past placed c told reason → IsLineReason job past placed c told reason
single_reason job past placed (Whole w) told reason single answered = answered
single_reason job past placed (HearBare task grant at) told reason single answered = answered
single_reason job past placed (LearnBare clerk generation) told reason single answered = answered
single_reason job past placed (Restore numbers) told reason single answered = absurd (cc)
single_reason job past placed (Sample taken) told reason single answered = absurd (cc)

-- a grant that the machines do not know is refused
never_accepted : (within : Bool) → is_accepted (reply.Refused (why_unsent within)) ≡ false
never_accepted true = refl
never_accepted false = refl

pub unknown_refused : (job : Continued) (past : Past) (task at : ℕ) (g : BareGrant) (answer : ClusterReply) → knows_grant job.forgotten past (whole_grant past g) ≡ false
    → IsReply job past (event (call.Task task (Hear (whole_grant past g) at)) answer) → is_accepted answer ≡ false
unknown_refused job past task at g answer unknown replied =
    let refused : answer ≡ reply.Refused (why_unsent (is_within task job.tasks)) =
    replied.2 ∙ ap (hears job past task at g) unknown ∙ refused_so (is_within task job.tasks) in
    ap is_accepted refused ∙ never_accepted (is_within task job.tasks)

-- OTHERS

-- calls that leave the places of tasks as they are, at a place
pub record AreOthersAt (many place : ℕ) (past : Past) (placed : List Placed) (after : Past) (places : CallPlaces) : Type 0 where
  pub placed_after : List Placed
  pub at : AreMadeAt place past placed after placed_after
  pub same : ArePlaces many placed_after places

none_made : (many place : ℕ) (past after : Past) (placed : List Placed) (places : CallPlaces) → after ≡ past → ArePlaces many placed places
    → AreOthersAt many place past placed after places
none_made many place past after placed places none are = record { placed_after = placed; at = record { made = []; calls = none; places = refl }; same = are }

taken_places : (many place granted : ℕ) (fault : Option RestoreFault) (numbers : KeptNumbers) (past after : Past) (placed : List Placed) (places : CallPlaces)
    → IsTaken fault granted numbers past after → ArePlaces many placed places → AreOthersAt many place past placed after places
taken_places many place granted None numbers past after placed places taken are = record {
  placed_after = map (placed_at place) (event (call.Table table_call.Restart) taken.lost ∷ taken.ahead) ++ placed;
  at = record { made = event (call.Table table_call.Restart) taken.lost ∷ taken.ahead; calls = taken.events; places = refl };
  same = nobody_places many place numbers.last taken.ahead placed places taken.nobody are;
}
taken_places many place granted (Some fault) numbers past after placed places taken are = none_made many place past after placed places taken are

pub others_places : (job : Job) (many place : ℕ) (past after : Past) (placed : List Placed) (places : CallPlaces) (c : LoggedCall) (told : CallerReply)
    → is_single c ≡ false → StandsFor job past c told after → ArePlaces many placed places → AreOthersAt many place past placed after places
others_places job many place past after placed places (Whole w) told others stands are = absurd (cc)
others_places job many place past after placed places (HearBare task grant at) told others stands are = absurd (cc)
others_places job many place past after placed places (LearnBare clerk generation) told others stands are = absurd (cc)
others_places job many place past after placed places (Restore numbers) told others stands are =
    taken_places many place _ stands.fault numbers past after placed places stands.taken are
others_places job many place past after placed places (Sample taken) told others stands are = none_made many place past after placed places stands.made are

pub others_reason : (job : Continued) (past : Past) (placed : List Placed) (c : LoggedCall) (told : CallerReply) → is_single c ≡ false
    → IsLineReason job past placed c told None
others_reason job past placed (Whole w) told others = absurd (cc)
others_reason job past placed (HearBare task grant at) told others = absurd (cc)
others_reason job past placed (LearnBare clerk generation) told others = absurd (cc)
others_reason job past placed (Restore numbers) told others = refl
others_reason job past placed (Sample taken) told others = refl
