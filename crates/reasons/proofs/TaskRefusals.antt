-- What the refusal of a call by a task says of what its slicelet stands at.
use Rattle.std.proofs.Common.{◌≡◌, ℕ, ◌<◌, Bool, true, List, [], ◌∷◌, refl, arith}
use Rattle.std.specs.Prelude.{Option, Some, None, Err, not, ◌==◌, nat_lt, nat_le, is_none}
use Rattle.std.proofs.lemmas.Bool.Decides.{nat_tests}
use Rattle.machines.specs.Refusals.{when, first_of}
use Rattle.lease_rule.specs.declared.lease.Kind.{Kind}
use Rattle.grants.specs.declared.slicelet_call.SliceletCall.{SliceletCall}
use Rattle.grants.specs.declared.slicelet_call.SliceletCall.TheVariants.{Start, Hear, Release, Resume}
use Rattle.grants.specs.declared.slicelet_error.SliceletError.{SliceletError}
use Rattle.grants.specs.declared.slicelet_error.SliceletError.TheVariants.{NotStarted, OldLife, ClockBack, OtherTask, OtherLife, Old, TooLate, NothingHeld, HistoryFull}
use Rattle.grants.specs.declared.values.Grant.{Grant}
use Rattle.slicelet.specs.declared.slicelet.TheConstants.{CALLS}
use Rattle.slicelet.specs.States.{SliceletState, greatest_in, held_in}
use Rattle.slicelet.specs.Steps.{old_number, start_checks, hear_checks, release_checks, resume_checks, slicelet_step}
use Rattle.job_calls.specs.declared.call.ClusterCall.TheVariants as call
use Rattle.reasons.specs.Reasons.{by_task, IsTaskReading}
use Rattle.reasons.proofs.Checks.{first_check, passed, holds, never, no_check}

module _ (s : SliceletState) (at : ℕ) where
  abbrev full : Bool
  full = nat_le CALLS s.count

  full_only : first_of (when full HistoryFull ∷ []) ≡ Some ClockBack → ⊥
  full_only = never ClockBack full HistoryFull [] (λ x. cc) (no_check ClockBack)

  -- of checks that begin with another one and that of the reading
  back_second : (b : Bool) (why : SliceletError) (checks : List (Option SliceletError)) → (why ≡ ClockBack → ⊥) → (first_of checks ≡ Some ClockBack → ⊥)
      → first_of (when b why ∷ when (nat_lt at s.last) ClockBack ∷ checks) ≡ Some ClockBack → at < s.last
  back_second b why checks other none is =
      let test : nat_lt at s.last ≡ true = holds ClockBack (nat_lt at s.last) ClockBack checks none
      (passed ClockBack b why (when (nat_lt at s.last) ClockBack ∷ checks) other is) in
      grind (arith, nat_tests)

  start_back : (life : ℕ) → first_of (start_checks s life at) ≡ Some ClockBack → at < s.last
  start_back life is = back_second (nat_le life s.life) OldLife (when full HistoryFull ∷ []) (λ x. cc) full_only is

  by_number : (number : ℕ) (o : Option ℕ) (checks : List (Option SliceletError)) → (first_of checks ≡ Some ClockBack → ⊥)
      → first_of (old_number number o ∷ checks) ≡ Some ClockBack → ⊥
  by_number number None checks none = none
  by_number number (Some greatest) checks none = never ClockBack (nat_le number greatest) (Old greatest) checks (λ x. cc) none

  hear_back : (grant : Grant) → first_of (hear_checks s grant at) ≡ Some ClockBack → at < s.last
  hear_back grant is =
      let e4 : List (Option SliceletError) = when full HistoryFull ∷ [] in
      let e3 : List (Option SliceletError) = when (nat_le grant.lease.ends at) TooLate ∷ e4 in
      let e2 : List (Option SliceletError) = old_number grant.number (greatest_in s grant.lease.kind) ∷ e3 in
      let e1 : List (Option SliceletError) = when (not (grant.life == s.life)) OtherLife ∷ e2 in
      back_second (not s.up) NotStarted (when (not (grant.task == s.task)) OtherTask ∷ e1) (λ x. cc)
      (never ClockBack (not (grant.task == s.task)) OtherTask e1 (λ x. cc)
      (never ClockBack (not (grant.life == s.life)) OtherLife e2 (λ x. cc)
      (by_number grant.number (greatest_in s grant.lease.kind) e3
      (never ClockBack (nat_le grant.lease.ends at) TooLate e4 (λ x. cc) full_only)))) is

  release_back : (kind : Kind) → first_of (release_checks s kind at) ≡ Some ClockBack → at < s.last
  release_back kind is =
      let e1 : List (Option SliceletError) = when full HistoryFull ∷ [] in
      back_second (not s.up) NotStarted (when (is_none (held_in s kind)) NothingHeld ∷ e1) (λ x. cc)
      (never ClockBack (is_none (held_in s kind)) NothingHeld e1 (λ x. cc) full_only) is

pub task_back : (s : SliceletState) (task : ℕ) (c : SliceletCall) → slicelet_step s c ≡ Err ClockBack
    → IsTaskReading s (call.Task task c) (by_task ClockBack) s.last
task_back s task (Start life at) is =
    record { told = refl; is = refl; at = at; reads = refl; below = start_back s at life (first_check _ _ ClockBack (first_of (start_checks s life at)) is) }
task_back s task (Hear grant at) is =
    record { told = refl; is = refl; at = at; reads = refl; below = hear_back s at grant (first_check _ _ ClockBack (first_of (hear_checks s grant at)) is) }
task_back s task (Release kind at) is =
    record { told = refl; is = refl; at = at; reads = refl; below = release_back s at kind (first_check _ _ ClockBack (first_of (release_checks s kind at)) is) }
task_back s task (Resume life) is =
    absurd (never ClockBack (nat_lt life s.life) OldLife [] (λ x. cc) (no_check ClockBack) (first_check _ _ ClockBack (first_of (resume_checks s life)) is))
