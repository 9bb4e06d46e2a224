-- Calls that are played one after another, until one takes the key of a handle away.
use Rattle.std.proofs.Common.{◌≡◌, ℕ, ◌+◌, ◌<◌, ◌≤◌, Bool, true, false, List, [], length, get_or, take, reverse, inl, inr, refl, sym, subst, arith}
use Rattle.std.specs.Prelude.{Option, option_map}
use Rattle.std.proofs.lemmas.Bool.{cases_lt}
use Rattle.key_handle.specs.declared.handle.KeyHandle.{KeyHandle}
use Rattle.cluster.specs.continued.Jobs.{Continued, job_in}
use Rattle.job_calls.specs.declared.call.ClusterCall.TheVariants as call
use Rattle.cluster.specs.Pasts.{Past}
use Rattle.cluster.specs.continued.Runs.{IsRun}
use Rattle.log_run.specs.declared.log_machines.LogMachines.{LogMachines}
use Rattle.log_line.specs.declared.told.CallerReply.{CallerReply}
use Rattle.log_line.specs.declared.entry.LogEntry.{LogEntry}
use Rattle.log_run.specs.Played.{AreCallsOf}
use Rattle.log_causes.specs.declared.cause.Cause.{Cause}
use Rattle.log_causes.specs.declared.cause.Cause.TheVariants.{TakenAway}
use Rattle.log_line.specs.declared.line.LoggedCall.{LoggedCall}
use Rattle.log_line.specs.declared.line.LoggedCall.TheVariants.{Whole}
use Rattle.log_causes.specs.Broken.{is_taken_away, IsBreakCause, IsKeptTo, IsLostBy, IsTaking, IsTakingOr}
use Rattle.log_run.specs.internals.Answers.{IsAnswered}
use Rattle.log_run.specs.internals.Machines.{HavePlayed}
use Rattle.log_run.proofs.Replaying.{one_more}

-- what is known once so many calls were played, none of which took the key away
pub record IsPlayedWith (job : Continued) (entries : List LogEntry) (i task : ℕ) (handle : KeyHandle) (machines : LogMachines) : Type 0 where
  pub past : Past
  pub made : AreCallsOf job (reverse (take i entries)) past
  pub played : HavePlayed job past machines
  pub kept : IsKeptTo job entries task handle i

pub first_played : (job : Continued) (entries : List LogEntry) (task : ℕ) (handle : KeyHandle) (machines : LogMachines) → HavePlayed job job.earlier machines
    → IsPlayedWith job entries 0 task handle machines
first_played job entries task handle machines played = record { past = job.earlier; made = refl; played = played; kept = λ before less. absurd (omega (arith, less)) }

module _ (entries : List LogEntry) (i : ℕ) (entry : LogEntry) (low : i < length entries) (here : entry ≡ get_or entries i entry) where
  made_more : (job : Continued) (past : Past) (next : LogMachines) (other : Option CallerReply) → AreCallsOf job (reverse (take i entries)) past
      → (answered : IsAnswered job past entry.line other next) → AreCallsOf job (reverse (take (i + 1) entries)) answered.played.after
  made_more job past next other made answered =
      subst (λ (es : List LogEntry). AreCallsOf job es answered.played.after) (sym (one_more entries i entry low here))
      (past, answered.told, answered.played.stands, made)

  lost_by : (job : Continued) (task : ℕ) (handle : KeyHandle) (lost : Bool) (machines next : LogMachines) (known : IsPlayedWith job entries i task handle machines)
      (other : Option CallerReply) (answered : IsAnswered job known.past entry.line other next) → IsRun job answered.played.after
      → is_taken_away (job_in job) answered.played.after task handle ≡ lost → IsLostBy job entries task handle i lost
  lost_by job task handle lost machines next known other answered run is = record {
    past = answered.played.after;
    made = made_more job known.past next other known.made answered;
    answered = run;
    state = is;
  }

  -- a call that takes the key away
  pub takes_here : (job : Continued) (task : ℕ) (handle : KeyHandle) (machines next : LogMachines) (known : IsPlayedWith job entries i task handle machines)
      (other : Option CallerReply) (answered : IsAnswered job known.past entry.line other next) → IsRun job answered.played.after
      → is_taken_away (job_in job) answered.played.after task handle ≡ true → IsTaking job entries task handle i
  takes_here job task handle machines next known other answered run is = record {
    within = low;
    kept = known.kept;
    lost = lost_by job task handle true machines next known other answered run is;
  }

  -- a call that does not
  pub kept_more : (job : Continued) (task : ℕ) (handle : KeyHandle) (machines next : LogMachines) (known : IsPlayedWith job entries i task handle machines)
      (other : Option CallerReply) (answered : IsAnswered job known.past entry.line other next) → IsRun job answered.played.after
      → is_taken_away (job_in job) answered.played.after task handle ≡ false → IsPlayedWith job entries (i + 1) task handle next
  kept_more job task handle machines next known other answered run is = record {
    past = answered.played.after;
    made = made_more job known.past next other known.made answered;
    played = answered.played.played;
    kept = λ before less. elim (cases_lt before i) [
      | inl lower ↦ known.kept before lower
      | inr higher ↦ subst (λ (n : ℕ). IsLostBy job entries task handle n false) (let last : i ≡ before = omega (arith, less, higher) in last)
          (lost_by job task handle false machines next known other answered run is)
    ];
  }

-- none of the calls does
pub none_takes : (job : Continued) (entries : List LogEntry) (i task : ℕ) (handle : KeyHandle) (machines : LogMachines) → IsPlayedWith job entries i task handle machines
    → length entries ≤ i → IsKeptTo job entries task handle (length entries)
none_takes job entries i task handle machines known all = λ before less. known.kept before (omega (arith, less, all))

-- why the handle of a check is broken
pub check_cause : (job : Continued) (before : List LogEntry) (c : LoggedCall) (task : ℕ) (handle : KeyHandle) (at : ℕ) (place : Option ℕ) (cause : Option Cause)
    → c ≡ Whole (call.Check task handle at) → IsTakingOr job before task handle place → cause ≡ option_map (λ (p : ℕ). TakenAway p) place
    → IsBreakCause job before c cause
check_cause job before c task handle at place cause is taking same = subst (λ (k : LoggedCall). IsBreakCause job before k cause) (sym is) (place, taking, same)
