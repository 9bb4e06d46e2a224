-- The calls of this process say all that a task's calls say, but for its lives.
use Rattle.std.proofs.Common.{◌≡◌, ◌∙◌, ℕ, ◌<◌, ◌≤◌, Bool, true, false, List, [], ◌∷◌, ◌++◌, refl, sym, ap, arith}
use Rattle.std.specs.List.{AllByRecursion}
use Rattle.std.proofs.lemmas.Bool.{true≢false}
use Rattle.std.proofs.lemmas.Bool.Decides.{nat_tests}
use Rattle.std.specs.Prelude.{not, nat_le, nat_lt, ◌==◌, ◌&&◌, ◌||◌}
use Rattle.lease_rule.specs.Rule.{SeenHolding, rule, is_allowed}
use Rattle.lease_rule.proofs.Permitting.{permitted_down}
use Rattle.grants.specs.declared.values.Grant.{Grant}
use Rattle.grants.specs.declared.values.Row.{Row}
use Rattle.grants.specs.declared.policy.TheConstants.{MOST_GRANTS}
use Rattle.grants.specs.Rows.{closes}
use Rattle.lease_rule.specs.Leases.{same_kind}
use Rattle.grants.specs.SliceletCalls.{ended_note}
use Rattle.key_handle.specs.declared.handle.KeyHandle.{KeyHandle}
use Rattle.grants.specs.declared.slicelet_call.SliceletCall.{SliceletCall}
use Rattle.grants.specs.declared.slicelet_call.SliceletCall.TheVariants.{Start, Hear, Release, Resume}
use Rattle.slicelet.specs.Calls.{is_resume, ends_life, this_process, this_life, is_started, last_reading, life_of, resumed_of}
use Rattle.slicelet.specs.Rules.{holding_after, is_permitted}
use Rattle.slicelet.specs.Continuity.{IsContinuous, is_strange}
use Rattle.slicelet.specs.Accepted.{AreAccepted}
use Rattle.slicelet.specs.States.{state_after}
use Rattle.slicelet.proofs.Accepting.{resume_accepted}
use Rattle.slicelet.proofs.OwnLeases.{life_rises, lives_rise, same_itself}

life_in_process : (h : List SliceletCall) → this_life (this_process h) ≡ this_life h
life_in_process [] = refl
life_in_process (Start life at ∷ h) = refl
life_in_process (Hear grant at ∷ h) = ap (λ (calls : List SliceletCall). Hear grant at ∷ calls) (life_in_process h)
life_in_process (Release kind at ∷ h) = ap (λ (calls : List SliceletCall). Release kind at ∷ calls) (life_in_process h)
life_in_process (Resume life ∷ h) = refl

started_in_process : (h : List SliceletCall) → is_started (this_process h) ≡ is_started h
started_in_process [] = refl
started_in_process (Start life at ∷ h) = refl
started_in_process (Hear grant at ∷ h) = started_in_process h
started_in_process (Release kind at ∷ h) = started_in_process h
started_in_process (Resume life ∷ h) = refl

last_in_process : (h : List SliceletCall) → last_reading (this_process h) ≡ last_reading h
last_in_process [] = refl
last_in_process (Start life at ∷ h) = refl
last_in_process (Hear grant at ∷ h) = refl
last_in_process (Release kind at ∷ h) = refl
last_in_process (Resume life ∷ h) = refl

-- what is held and what is permitted is the same
pub holding_in_process : (covers : Grant → Bool) (h : List SliceletCall) → holding_after covers (this_process h) ≡ holding_after covers h
holding_in_process covers h = rw (started_in_process h, last_in_process h, life_in_process h) refl

pub permitted_in_process : (covers : Grant → Bool) (h : List SliceletCall) (at : ℕ) → is_permitted covers (this_process h) at ≡ is_permitted covers h at
permitted_in_process covers h at = ap (λ (seen : SeenHolding). is_allowed (rule seen at)) (holding_in_process covers h)

-- one call more of a process
pub process_longer : (c : SliceletCall) (h : List SliceletCall) → is_resume c ≡ false → this_process (c ∷ h) ≡ c ∷ this_process h
process_longer c h e = rw e refl

-- CALLS OF ONE LIFE

-- a call ends no life
abbrev pub IsWithinLife : SliceletCall → Type 0
IsWithinLife c = ends_life c ≡ false

-- a task that was started, and is in the life that it was in after earlier calls, is in it ever since
one_life : (task : ℕ) (later h : List SliceletCall) → AreAccepted task (later ++ h) → is_started (later ++ h) ≡ true → life_of (later ++ h) ≤ life_of h
    → AllByRecursion IsWithinLife later
one_life task [] h a started l = tt
one_life task (Start life at ∷ later) h a started l =
    let rise = lives_rise task later h a.1 in
    let newer = life_rises task life at (later ++ h) a.0 in
    absurd (omega (arith, rise, newer, l))
one_life task (Hear grant at ∷ later) h a started l = (refl, one_life task later h a.1 started l)
one_life task (Release kind at ∷ later) h a started l = (refl, one_life task later h a.1 started l)
one_life task (Resume life ∷ later) h a started l = absurd (true≢false (sym started))

started_before : (later h : List SliceletCall) → AllByRecursion IsWithinLife later → is_started (later ++ h) ≡ is_started h
started_before [] h a = refl
started_before (Start life at ∷ later) h a = absurd (true≢false a.0)
started_before (Hear grant at ∷ later) h a = started_before later h a.1
started_before (Release kind at ∷ later) h a = started_before later h a.1
started_before (Resume life ∷ later) h a = absurd (true≢false a.0)

-- the calls of one life are of one process
pub process_before : (later h : List SliceletCall) → AllByRecursion IsWithinLife later → this_process (later ++ h) ≡ later ++ this_process h
process_before [] h a = refl
process_before (Start life at ∷ later) h a = absurd (true≢false a.0)
process_before (Hear grant at ∷ later) h a = ap (λ (calls : List SliceletCall). Hear grant at ∷ calls) (process_before later h a.1)
process_before (Release kind at ∷ later) h a = ap (λ (calls : List SliceletCall). Release kind at ∷ calls) (process_before later h a.1)
process_before (Resume life ∷ later) h a = absurd (true≢false a.0)

pub accepted_before : (task : ℕ) (later h : List SliceletCall) → AreAccepted task (later ++ h) → AreAccepted task h
accepted_before task [] h a = a
accepted_before task (c ∷ later) h a = accepted_before task later h a.1

permitted_started : (covers : Grant → Bool) (h : List SliceletCall) (at : ℕ) → is_permitted covers h at ≡ true → is_started h ≡ true
permitted_started covers h at permitted = by_test (is_started h) refl
  where
    by_test : (b : Bool) → is_started h ≡ b → b ≡ true
    by_test true e = refl
    by_test false e = absurd (true≢false (sym permitted ∙ permitted_down (holding_after covers h) at e))

-- the calls since a continuous handle was taken are of its life
pub record AreOfOneLife (later before : List SliceletCall) : Type 0 where
  pub later_calls : AllByRecursion IsWithinLife later
  pub calls_before : AllByRecursion IsWithinLife before

pub continuous_in_life : (task : ℕ) (covers : Grant → Bool) (later before h : List SliceletCall) (handle : KeyHandle) (at : ℕ) → AreAccepted task (later ++ (before ++ h))
    → handle.life ≡ life_of h → IsContinuous covers (later ++ (before ++ h)) handle at → AreOfOneLife later before
continuous_in_life task covers later before h handle at accepted lives k =
    let earlier = accepted_before task later (before ++ h) accepted in
    let started = permitted_started covers (later ++ (before ++ h)) at k.now in
    let rise : life_of h ≤ life_of (before ++ h) = lives_rise task before h earlier in
    let rise_on : life_of (before ++ h) ≤ life_of (later ++ (before ++ h)) = lives_rise task later (before ++ h) accepted in
    let same : life_of h ≡ life_of (later ++ (before ++ h)) = sym lives ∙ k.life in
    let after = one_life task later (before ++ h) accepted started (omega (arith, rise, rise_on, same)) in
    let started_there = sym (started_before later (before ++ h) after) ∙ started in
    record {
      later_calls = after;
      calls_before = one_life task before h earlier started_there (omega (arith, rise, rise_on, same));
    }

-- WHAT A PROCESS LEAVES THE NEXT ONE

pub resumed_below : (task : ℕ) (h : List SliceletCall) → AreAccepted task h → resumed_of h ≤ life_of h
resumed_below task [] a = omega arith
resumed_below task (Start life at ∷ h) a =
    let before = resumed_below task h a.1 in
    let newer = life_rises task life at h a.0 in
    omega (arith, before, newer)
resumed_below task (Hear grant at ∷ h) a = resumed_below task h a.1
resumed_below task (Release kind at ∷ h) a = resumed_below task h a.1
resumed_below task (Resume life ∷ h) a = omega arith

pub start_above : (task life at : ℕ) (h : List SliceletCall) → AreAccepted task (Start life at ∷ h) → resumed_of h < life
start_above task life at h a =
    let before = resumed_below task h a.1 in
    let newer = life_rises task life at h a.0 in
    omega (arith, before, newer)

resumed_rises : (task life : ℕ) (later h : List SliceletCall) → AreAccepted task (later ++ Resume life ∷ h) → life ≤ resumed_of (later ++ Resume life ∷ h)
resumed_rises task life [] h a = omega arith
resumed_rises task life (Start next at ∷ later) h a = resumed_rises task life later h a.1
resumed_rises task life (Hear grant at ∷ later) h a = resumed_rises task life later h a.1
resumed_rises task life (Release kind at ∷ later) h a = resumed_rises task life later h a.1
resumed_rises task life (Resume next ∷ later) h a =
    let rise : life ≤ life_of (later ++ Resume life ∷ h) = lives_rise task later (Resume life ∷ h) a.1 in
    let newer : life_of (later ++ Resume life ∷ h) ≤ next = resume_accepted (state_after task (later ++ Resume life ∷ h)) next a.0 in
    omega (arith, rise, newer)

-- a handle of an earlier process is strange
pub earlier_strange : (task life : ℕ) (later h : List SliceletCall) (handle : KeyHandle) → AreAccepted task (later ++ Resume life ∷ h) → handle.life ≤ life
    → is_strange (state_after task (later ++ Resume life ∷ h)) handle ≡ true
earlier_strange task life later h handle a l =
    let rise = resumed_rises task life later h a in
    let low : nat_le handle.life (resumed_of (later ++ Resume life ∷ h)) ≡ true = grind (arith, nat_tests) in
    rw low (either_way (not (handle.task == task)))
  where
    either_way : (b : Bool) → (b || true || nat_lt (life_of (later ++ Resume life ∷ h)) handle.life || (handle.life == life_of (later ++ Resume life ∷ h) && nat_lt (state_after task (later ++ Resume life ∷ h)).count handle.position)) ≡ true
    either_way true = refl
    either_way false = refl

-- the notes for a life that ended close all its rows
pub ended_closes : (task life : ℕ) (row : Row) → row.task ≡ task → row.life ≡ life → row.number ≤ MOST_GRANTS → closes (ended_note task life row.kind) row ≡ true
ended_closes task life row tasks lives numbers =
    let of_task : (task == row.task) ≡ true = grind (arith, nat_tests) in
    let of_life : (life == row.life) ≡ true = grind (arith, nat_tests) in
    let of_kind : same_kind row.kind row.kind ≡ true = same_itself row.kind in
    let of_number : nat_le row.number MOST_GRANTS ≡ true = grind (arith, nat_tests) in
    rw (of_task, of_life, of_kind, of_number) refl
