-- Values that are saved ahead are those of a table after grants to nobody.
use Rattle.std.proofs.Common.{◌≡◌, ◌∙◌, ℕ, zero, suc, ◌+◌, ◌-◌, ◌<◌, ◌≤◌, true, false, List, [], ◌∷◌, ◌++◌, length, refl, sym, ap, arith, max, length-append, inl, inr}
use Rattle.std.specs.Prelude.{Option, Some, None, Ok, is_some, is_none, nat_lt, nat_le, ◌&&◌, ◌||◌}
use Rattle.std.specs.List.{AllByRecursion}
use Rattle.std.proofs.lemmas.Bool.Decides.{nat_tests}
use Rattle.machines.specs.Refusals.{first_of}
use Rattle.machines.specs.Calls.{answered_call}
use Rattle.assignment.specs.Slices.{Slicing}
use Rattle.grants.specs.declared.table_call.TableCall.TheVariants as call
use Rattle.grants.specs.declared.table_call.TableReply.TheVariants.{Granted}
use Rattle.grants.specs.declared.kept.Kept.{Kept}
use Rattle.grants.specs.declared.values.Grant.{Grant}
use Rattle.grants.specs.declared.values.JobTerm.{JobTerm}
use Rattle.grants.specs.declared.policy.TheConstants.{READINGS}
use Rattle.grants.specs.Policies.{Terms}
use Rattle.lease_table.specs.Tables.{Standing}
use Rattle.lease_table.specs.Steps.{grant_with, grant_checks}
use Rattle.lease_table.specs.Calls.{AnsweredTableCall, last_reading, last_term, committed_in, pending_in, grants_sent, greatest_end, deadline_in, standing_after}
use Rattle.lease_table.specs.Runs.{IsRun}
use Rattle.lease_table.specs.KeptValues.{kept_of, IsToNobody, IsKeptAhead}
use Rattle.grants.specs.KeptValues.{lease_term, IsAhead, Covers}
use Rattle.lease_table.proofs.Deadlines.{greatest_push}
use Rattle.lease_table.proofs.KeptValues.{when_not}

-- one more grant to nobody
abbrev pub one_ahead : Terms → List AnsweredTableCall → ℕ → AnsweredTableCall
one_ahead policy past at = answered_call (call.Grant 1 0 at) (Ok (Granted (grant_with (standing_after policy past) (pending_in past) 1 0 at)))

-- so many of them
abbrev pub grants_ahead : Terms → List AnsweredTableCall → ℕ → ℕ → List AnsweredTableCall
grants_ahead policy past at zero = []
grants_ahead policy past at (suc n) = one_ahead policy (grants_ahead policy past at n ++ past) at ∷ grants_ahead policy past at n

row_ends : (t : Standing) (p : Option Slicing) (at : ℕ) → (grant_with t p 1 0 at).table_ends ≡ at + lease_term t.policy p
row_ends t None at = refl
row_ends t (Some next) at = refl

-- no check refuses it
grant_free : (t : Standing) (at : ℕ) → t.last ≤ at → at < READINGS → (is_none t.committed && is_none t.pending) ≡ false → t.granted < t.policy.numbers
    → first_of (grant_checks t at) ≡ None
grant_free t at later high assigned spare =
    let range : nat_le READINGS at ≡ false = grind (arith, nat_tests) in
    let back : nat_lt at t.last ≡ false = grind (arith, nat_tests) in
    let spent : nat_le t.policy.numbers t.granted ≡ false = grind (arith, nat_tests) in
    rw (when_not _ _ range, when_not _ _ back, when_not _ _ assigned, when_not _ _ spent) refl

module _ (policy : Terms) (past : List AnsweredTableCall) (at : ℕ) (run : IsRun policy past) (later : last_reading past ≤ at) (high : at < READINGS)
    (assigned : (is_none (committed_in past) && is_none (pending_in past)) ≡ false) where
  -- what so many grants leave
  record IsLed (n : ℕ) (all : List AnsweredTableCall) : Type 0 where
    pub goes : IsRun policy all
    pub last : last_reading all ≤ at
    pub term : last_term all ≡ last_term past
    pub committed : committed_in all ≡ committed_in past
    pub pending : pending_in all ≡ pending_in past
    pub granted : length (grants_sent all) ≡ length (grants_sent past) + n
    pub deadline : max (deadline_in all) (at + lease_term policy (pending_in past)) ≡ max (deadline_in past) (at + lease_term policy (pending_in past))

  goes_on : (n : ℕ) (all : List AnsweredTableCall) → IsLed n all → length (grants_sent past) + n < policy.numbers → IsLed (suc n) (one_ahead policy all at ∷ all)
  goes_on n all h spare =
      let grant = grant_with (standing_after policy all) (pending_in all) 1 0 at in
      let grants : length (grants_sent all) ≡ length (grants_sent past) + n = h.granted in
      let own : (is_none (committed_in all) && is_none (pending_in all)) ≡ false = rw (h.committed, h.pending) assigned in
      let free : first_of (grant_checks (standing_after policy all) at) ≡ None = grant_free (standing_after policy all) at h.last high own (omega arith) in
      let ends : grant.table_ends ≡ at + lease_term policy (pending_in all) = row_ends (standing_after policy all) (pending_in all) at in
      let greatest : greatest_end (grants_sent all ++ grant ∷ []) ≡ max (greatest_end (grants_sent all)) grant.table_ends = greatest_push (grants_sent all) grant in
      let same : lease_term policy (pending_in all) ≡ lease_term policy (pending_in past) = ap (lease_term policy) h.pending in
      let before = h.deadline in
      let longer : length (grants_sent all ++ grant ∷ []) ≡ length (grants_sent all) + 1 = length-append (grants_sent all) (grant ∷ []) in
      record {
        goes = (rw free refl, h.goes);
        last = omega arith;
        term = h.term;
        committed = h.committed;
        pending = h.pending;
        granted = omega arith;
        deadline = omega arith;
      }

  led : (n : ℕ) → length (grants_sent past) + n ≤ policy.numbers → IsLed n (grants_ahead policy past at n ++ past)
  led zero spare = record { goes = run; last = later; term = refl; committed = refl; pending = refl; granted = omega arith; deadline = refl }
  led (suc n) spare = goes_on n (grants_ahead policy past at n ++ past) (led n (omega arith)) (omega arith)

  to_nobody : (n : ℕ) → AllByRecursion IsToNobody (grants_ahead policy past at n)
  to_nobody zero = tt
  to_nobody (suc n) = ((at, refl), to_nobody n)

is_assigned : (committed pending : Option Slicing) → (is_some committed || is_some pending) ≡ true → (is_none committed && is_none pending) ≡ false
is_assigned None None e = absurd (cc)
is_assigned None (Some next) e = refl
is_assigned (Some slicing) pending e = refl

kept_ahead_of : (policy : Terms) (past : List AnsweredTableCall) (saved : Kept) → IsRun policy past → IsAhead (kept_of (standing_after policy past)) saved
    → (m : ℕ) → saved.granted ≡ length (grants_sent past) + suc m → IsKeptAhead policy past saved
kept_ahead_of policy past saved run a m counts =
    let at : ℕ = saved.last in
    let assigned = is_assigned (committed_in past) (pending_in past) a.assigned in
    let spare : saved.granted ≤ policy.numbers = a.spare in
    let before : List AnsweredTableCall = grants_ahead policy past at m ++ past in
    let below = led policy past at run a.later a.range assigned m (omega arith) in
    let h = led policy past at run a.later a.range assigned (suc m) (omega arith) in
    let all : List AnsweredTableCall = grants_ahead policy past at (suc m) ++ past in
    let grant : Grant = grant_with (standing_after policy before) (pending_in before) 1 0 at in
    let ends : grant.table_ends ≡ at + lease_term policy (pending_in before) = row_ends (standing_after policy before) (pending_in before) at in
    let same : lease_term policy (pending_in before) ≡ lease_term policy (pending_in past) = ap (lease_term policy) below.pending in
    let greatest : deadline_in all ≡ max (deadline_in before) grant.table_ends = greatest_push (grants_sent before) grant in
    let most = h.deadline in
    let deadline : deadline_in all ≡ max (deadline_in past) (at + lease_term policy (pending_in past)) = omega arith in
    let number = h.granted in
    let granted : length (grants_sent all) ≡ saved.granted = omega arith in
    let values : Option JobTerm → Option Slicing → Option Slicing → ℕ → ℕ → Kept =
    λ t c p g d. record { policy = policy; last = at; term = t; committed = c; pending = p; granted = g; deadline = d } in
    let is : kept_of (standing_after policy all) ≡ values (last_term past) (committed_in past) (pending_in past) saved.granted (max (deadline_in past) (at + lease_term policy (pending_in past))) =
    λ j. values (h.term j) (h.committed j) (h.pending j) (granted j) (deadline j) in
    record {
      ahead = grants_ahead policy past at (suc m);
      nobody = to_nobody policy past at run a.later a.range assigned (suc m);
      run = h.goes;
      is = a.same ∙ sym is;
    }

-- what covers the kept values is what is kept after some grants to nobody
pub covering : (policy : Terms) (past : List AnsweredTableCall) (saved : Kept) → IsRun policy past → Covers (kept_of (standing_after policy past)) saved
    → IsKeptAhead policy past saved
covering policy past saved run (inl is) = record { ahead = []; nobody = tt; run = run; is = is }
covering policy past saved run (inr a) =
    let more : length (grants_sent past) < saved.granted = a.more in
    kept_ahead_of policy past saved run a (saved.granted - length (grants_sent past) - 1) (omega arith)
