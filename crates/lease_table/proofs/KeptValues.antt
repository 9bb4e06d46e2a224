-- The kept values of a table have no fault, and values with no fault are in range.
use Rattle.std.proofs.Common.{◌≡◌, ℕ, suc, ◌+◌, ◌<◌, ◌≤◌, Bool, true, false, List, [], ◌∷◌, ◌++◌, length, refl, sym, subst, arith, max, length-append}
use Rattle.std.specs.Prelude.{Option, Some, None, Ok, Contains, not, is_some, is_none, nat_lt, nat_le, ◌&&◌, ◌||◌}
use Rattle.std.specs.List.{AllByRecursion}
use Rattle.std.proofs.lemmas.Bool.Decides.{nat_tests}
use Rattle.machines.specs.Refusals.{when, first_of}
use Rattle.machines.specs.Calls.{answered_call}
use Rattle.machines.proofs.Refused.{all_none, not_when}
use Rattle.assignment.specs.Slices.{Slicing}
use Rattle.grants.specs.declared.table_call.TableCall.{TableCall}
use Rattle.grants.specs.declared.table_call.TableCall.TheVariants as call
use Rattle.grants.specs.declared.table_call.TableReply.{TableReply}
use Rattle.grants.specs.declared.kept.Kept.{Kept}
use Rattle.grants.specs.declared.kept.KeptFault.{KeptFault}
use Rattle.grants.specs.declared.values.Grant.{Grant}
use Rattle.grants.specs.declared.values.JobTerm.{JobTerm}
use Rattle.grants.specs.declared.policy.TheConstants.{READINGS, LONGEST_TERM, MOST_GRANTS}
use Rattle.grants.specs.Policies.{Terms, is_policy}
use Rattle.grants.specs.Assignments.{generation_of}
use Rattle.grants.specs.JobTerms.{last_number}
use Rattle.lease_table.specs.Steps.{job_held, is_holder, renewed_term, grant_with}
use Rattle.lease_table.specs.Calls.{AnsweredTableCall, last_reading, last_term, committed_in, pending_in, grants_sent, greatest_end, standing_after}
use Rattle.lease_table.specs.Runs.{IsRun, commits_in}
use Rattle.lease_table.specs.Generations.{HasFewOwners}
use Rattle.lease_table.specs.OpenRows.{IsSent}
use Rattle.lease_table.specs.KeptValues.{kept_of}
use Rattle.grants.specs.KeptValues.{kept_checks, same_terms, is_term, is_committed, is_next, has_many_owners, is_deadline}
use Rattle.lease_table.specs.internals.Numbers.{IsTermInRange, IsInRange, newest_of}
use Rattle.lease_table.proofs.Acceptance.{IsAcceptedAfter}
use Rattle.lease_table.proofs.Induction.{after_run, of_each_sent}
use Rattle.lease_table.proofs.Assignments.{counted, few_owners, assignment_committed, assignment_proposed}
use Rattle.lease_table.proofs.Leading.{row_runs}
use Rattle.lease_table.proofs.Leases.{granted_by, leased}
use Rattle.lease_table.proofs.Deadlines.{at_most}
use Rattle.grants.proofs.Members.{here}

unnot : (b : Bool) → not b ≡ false → b ≡ true
unnot true e = refl
unnot false e = absurd (cc)

term_in_range : (policy : Terms) (last : ℕ) (term : Option JobTerm) → is_policy policy ≡ true → last < READINGS → is_term last policy.job term ≡ true → IsTermInRange last policy.job term
term_in_range policy last None within low e = tt
term_in_range policy last (Some term) within low e =
    let job : policy.job ≤ LONGEST_TERM = grind (arith, nat_tests) in
    let number : term.number ≤ term.until = grind (arith, nat_tests) in
    let ends : term.until ≤ last + policy.job = grind (arith, nat_tests) in
    (number, ends, omega arith)

-- values with no fault are in range
pub in_range : (policy : Terms) (k : Kept) → is_policy k.policy ≡ true → first_of (kept_checks policy k) ≡ None
    → IsInRange k.last k.policy.job k.granted (newest_of k.committed k.pending) k.term []
in_range policy k within e =
    let none = all_none (kept_checks policy k) e in
    let range : nat_le READINGS k.last ≡ false = not_when _ _ none.1.0 in
    let reading : k.last < READINGS = grind (arith, nat_tests) in
    let term : is_term k.last k.policy.job k.term ≡ true = unnot _ (not_when _ _ none.1.1.1.0) in
    let spare : nat_lt k.policy.numbers k.granted ≡ false = not_when _ _ none.1.1.1.1.1.1.1.0 in
    let numbers : k.policy.numbers ≤ MOST_GRANTS = grind (arith, nat_tests) in
    record {
      reading = reading;
      term = term_in_range k.policy k.last k.term within reading term;
      grants = grind (arith, nat_tests);
      rows = tt;
      generations = tt;
    }

-- THE VALUES OF EVERY TABLE HAVE NO FAULT

-- a term has a number from 1 up to its end, which is at most a job term after the last reading
abbrev pub IsTerm : ℕ → ℕ → Option JobTerm → Type 0
IsTerm last job None = Unit {0}
IsTerm last job (Some term) = (1 ≤ term.number) × (term.number ≤ term.until) × (term.until ≤ last + job)

-- what holds of the values of every table
pub record IsKeepable (policy : Terms) (last granted : ℕ) (term : Option JobTerm) (committed pending : Option Slicing) : Type 0 where
  pub reading : last < READINGS
  pub short : IsTerm last policy.job term
  pub under : (is_none term && (is_some committed || is_some pending)) ≡ false
  pub first : is_committed committed ≡ true
  pub assigned : (nat_lt 0 granted && not (is_some committed || is_some pending)) ≡ false
  pub spare : granted ≤ policy.numbers

abbrev pub IsKeepableAfter : Terms → List AnsweredTableCall → Type 0
IsKeepableAfter policy past = IsKeepable policy (last_reading past) (length (grants_sent past)) (last_term past) (committed_in past) (pending_in past)

term_later : (last at job : ℕ) (term : Option JobTerm) → last ≤ at → IsTerm last job term → IsTerm at job term
term_later last at job None l h = tt
term_later last at job (Some term) l h = (h.0, h.1, omega (arith, h))

term_taken : (last at job assigner : ℕ) (term : Option JobTerm) → 1 ≤ job → job_held at term ≡ None → IsTerm last job term
    → IsTerm at job (Some (record { number = last_number term + 1; assigner = assigner; until = at + job }))
term_taken last at job assigner None positive unheld h = (omega arith, omega arith, omega arith)
term_taken last at job assigner (Some term) positive unheld h =
    let test : nat_lt at term.until ≡ false = not_when _ _ unheld in
    let over : term.until ≤ at = grind (arith, nat_tests) in
    (omega arith, omega (arith, h, over), omega arith)

term_renewed : (last at job number : ℕ) (term : Option JobTerm) → last ≤ at → is_holder number at term ≡ true → IsTerm last job term
    → IsTerm at job (Some (renewed_term (at + job) term))
term_renewed last at job number None l holder h = absurd (cc)
term_renewed last at job number (Some term) l holder h = (h.0, omega (arith, h), omega arith)

-- a holder has a term
held_under : (number at : ℕ) (term : Option JobTerm) (b : Bool) → is_holder number at term ≡ true → (is_none term && b) ≡ false
held_under number at None b holder = absurd (cc)
held_under number at (Some term) b holder = refl

proposed_assigned : (b : Bool) (committed : Option Slicing) (slicing : Slicing) → (b && not (is_some committed || is_some (Some slicing))) ≡ false
proposed_assigned true None slicing = refl
proposed_assigned true (Some other) slicing = refl
proposed_assigned false committed slicing = refl

committed_assigned : (b : Bool) (pending : Option Slicing) → is_none pending ≡ false → (b && not (is_some pending || false)) ≡ false
committed_assigned b None e = absurd (cc)
committed_assigned true (Some slicing) e = refl
committed_assigned false (Some slicing) e = refl

first_committed : (n : ℕ) (pending : Option Slicing) → ((slicing : Slicing) → pending ≡ Some slicing → slicing.generation ≡ n + 1) → is_committed pending ≡ true
first_committed n None h = refl
first_committed n (Some slicing) h = let e = h slicing refl in grind (arith, nat_tests)

granted_assigned : (n : ℕ) (committed pending : Option Slicing) → (is_none committed && is_none pending) ≡ false
    → (nat_lt 0 n && not (is_some committed || is_some pending)) ≡ false
granted_assigned n None None e = absurd (cc)
granted_assigned n None (Some slicing) e = grind (arith, nat_tests)
granted_assigned n (Some other) pending e = grind (arith, nat_tests)

pub when_not : {E : Type 0} (b : Bool) (e : E) → b ≡ false → when b e ≡ None
when_not true e h = absurd (cc)
when_not false e h = refl

-- if no check finds a fault, there is none
no_fault : (checks : List (Option KeptFault)) → AllByRecursion (λ (c : Option KeptFault). c ≡ None) checks → first_of checks ≡ None
no_fault [] h = refl
no_fault (None ∷ checks) h = no_fault checks h.1
no_fault (Some fault ∷ checks) h = absurd (let e : Some fault ≡ None = h.0 in cc)

is_term_test : (last job : ℕ) (term : Option JobTerm) → IsTerm last job term → is_term last job term ≡ true
is_term_test last job None h = refl
is_term_test last job (Some term) h =
    let low : 1 ≤ term.number = h.0 in
    let high : term.number ≤ term.until = h.1 in
    let short : term.until ≤ last + job = h.2 in
    grind (arith, nat_tests)

is_next_test : (n : ℕ) (committed pending : Option Slicing) → generation_of committed ≡ n → ((slicing : Slicing) → pending ≡ Some slicing → slicing.generation ≡ n + 1)
    → is_next (generation_of committed) pending ≡ true
is_next_test n committed None e h = refl
is_next_test n committed (Some slicing) e h = let next = h slicing refl in grind (arith, nat_tests)

negated : (b : Bool) → b ≡ true → not b ≡ false
negated true e = refl
negated false e = absurd (cc)

both : (a b : Bool) → a ≡ true → b ≡ true → (a && b) ≡ true
both true true e f = refl
both true false e f = f
both false b e f = e

neither : (a b : Bool) → a ≡ false → b ≡ false → (a || b) ≡ false
neither true b e f = e
neither false true e f = f
neither false false e f = refl

-- the greatest deadline of grants whose deadlines are above 0
deadline_of : (most : ℕ) (grants : List Grant) → ((grant : Grant) → Contains grants grant → 1 ≤ grant.table_ends)
    → greatest_end grants ≤ most → is_deadline most (length grants) (greatest_end grants) ≡ true
deadline_of most [] late l = refl
deadline_of most (grant ∷ grants) late l =
    let own = late grant (here grant grants) in
    let some : 0 < suc (length grants) = omega arith in
    let low : 1 ≤ max grant.table_ends (greatest_end grants) = omega (arith, own) in
    grind (arith, nat_tests)

module _ (policy : Terms) (within : is_policy policy ≡ true) where
  job_runs : 1 ≤ policy.job
  job_runs = grind (arith, nat_tests)

  keepable_call : (past : List AnsweredTableCall) (c : TableCall) (reply : TableReply) → IsRun policy past → IsKeepableAfter policy past
      → IsAcceptedAfter policy past c reply → IsKeepableAfter policy (answered_call c (Ok reply) ∷ past)
  keepable_call past (call.JobTake assigner at) reply run h a =
      subst (λ (r : TableReply). IsKeepableAfter policy (answered_call (call.JobTake assigner at) (Ok r) ∷ past)) (sym a.replies) (record {
        reading = a.reading.high;
        short = term_taken (last_reading past) at policy.job assigner (last_term past) job_runs a.unheld h.short;
        under = refl;
        first = h.first;
        assigned = h.assigned;
        spare = h.spare;
      })
  keepable_call past (call.JobRenew number at) reply run h a =
      subst (λ (r : TableReply). IsKeepableAfter policy (answered_call (call.JobRenew number at) (Ok r) ∷ past)) (sym a.replies) (record {
        reading = a.reading.high;
        short = term_renewed (last_reading past) at policy.job number (last_term past) a.reading.low a.holder h.short;
        under = refl;
        first = h.first;
        assigned = h.assigned;
        spare = h.spare;
      })
  keepable_call past (call.Propose number slicing at) reply run h a =
      subst (λ (r : TableReply). IsKeepableAfter policy (answered_call (call.Propose number slicing at) (Ok r) ∷ past)) (sym a.replies) (record {
        reading = a.reading.high;
        short = term_later (last_reading past) at policy.job (last_term past) a.reading.low h.short;
        under = held_under number at (last_term past) _ a.holder;
        first = h.first;
        assigned = proposed_assigned (nat_lt 0 (length (grants_sent past))) (committed_in past) slicing;
        spare = h.spare;
      })
  keepable_call past (call.Commit number at) reply run h a =
      subst (λ (r : TableReply). IsKeepableAfter policy (answered_call (call.Commit number at) (Ok r) ∷ past)) (sym a.replies) (record {
        reading = a.reading.high;
        short = term_later (last_reading past) at policy.job (last_term past) a.reading.low h.short;
        under = held_under number at (last_term past) _ a.holder;
        first = first_committed (commits_in past) (pending_in past) (counted policy past run).pending;
        assigned = committed_assigned (nat_lt 0 (length (grants_sent past))) (pending_in past) a.proposed;
        spare = h.spare;
      })
  keepable_call past (call.Grant task life at) reply run h a =
      subst (λ (r : TableReply). IsKeepableAfter policy (answered_call (call.Grant task life at) (Ok r) ∷ past)) (sym a.replies) (record {
        reading = a.reading.high;
        short = term_later (last_reading past) at policy.job (last_term past) a.reading.low h.short;
        under = h.under;
        first = h.first;
        assigned = granted_assigned _ (committed_in past) (pending_in past) a.assigned;
        spare =
            let counted : length (grants_sent past ++ grant_with (standing_after policy past) (pending_in past) task life at ∷ []) ≡ length (grants_sent past) + 1 = length-append (grants_sent past) _ in
            let spare = a.spare in
            omega (arith, counted, spare);
      })
  keepable_call past (call.Free note at) reply run h a =
      subst (λ (r : TableReply). IsKeepableAfter policy (answered_call (call.Free note at) (Ok r) ∷ past)) (sym a.replies) (record {
        reading = a.reading.high;
        short = term_later (last_reading past) at policy.job (last_term past) a.reading.low h.short;
        under = h.under;
        first = h.first;
        assigned = h.assigned;
        spare = h.spare;
      })
  keepable_call past call.Restart reply run h a =
      subst (λ (r : TableReply). IsKeepableAfter policy (answered_call call.Restart (Ok r) ∷ past)) (sym a.replies) (record {
        reading = h.reading;
        short = h.short;
        under = h.under;
        first = h.first;
        assigned = h.assigned;
        spare = h.spare;
      })

  keepable : (past : List AnsweredTableCall) → IsRun policy past → IsKeepableAfter policy past
  keepable =
      after_run policy (IsKeepableAfter policy)
      (record { reading = omega arith; short = tt; under = refl; first = refl; assigned = refl; spare = omega arith })
      (λ past c refusal h. record { reading = h.reading; short = h.short; under = h.under; first = h.first; assigned = h.assigned; spare = h.spare })
      (λ past c reply run h a. keepable_call past c reply run h a)

  -- a grant's deadline is above 0
  abbrev EndsLate : List AnsweredTableCall → Grant → Type 0
  EndsLate past grant = 1 ≤ grant.table_ends

  ends_late : (past : List AnsweredTableCall) → IsRun policy past → (grant : Grant) → IsSent past grant → EndsLate past grant
  ends_late =
      of_each_sent policy EndsLate (λ past e grant run sent h. h)
      (λ past grant run task life at a.
      let runs = row_runs policy past task life at within in
      let is = granted_by (standing_after policy past) task life at grant a in
      subst (λ (g : Grant). 1 ≤ g.table_ends) (sym is) (grind (arith, nat_tests)))

  same_itself : same_terms policy policy ≡ true
  same_itself = grind (arith, nat_tests)

  -- the values that a table keeps have no fault
  pub taken : (past : List AnsweredTableCall) → IsRun policy past → first_of (kept_checks policy (kept_of (standing_after policy past))) ≡ None
  taken past run =
      let h = keepable past run in
      let numbers = counted policy past run in
      let few_committed : has_many_owners policy.high (committed_in past) ≡ false = subst (HasFewOwners policy) (assignment_committed past) (few_owners policy past run (commits_in past)) in
      let few_pending : has_many_owners policy.high (pending_in past) ≡ false = subst (HasFewOwners policy) (assignment_proposed past) (few_owners policy past run (commits_in past + 1)) in
      let reading : last_reading past < READINGS = h.reading in
      let range : nat_le READINGS (last_reading past) ≡ false = grind (arith, nat_tests) in
      let spare : length (grants_sent past) ≤ policy.numbers = h.spare in
      let grants : nat_lt policy.numbers (length (grants_sent past)) ≡ false = grind (arith, nat_tests) in
      let deadline = deadline_of _ (grants_sent past) (λ grant sent. ends_late past run grant sent) (at_most _ (grants_sent past) (λ grant sent. (leased policy within past run grant sent).ends)) in
      no_fault (kept_checks policy (kept_of (standing_after policy past))) (
        when_not _ _ (negated _ same_itself),
        (
          when_not _ _ range,
          (
            when_not _ _ h.under,
            (
              when_not _ _ (negated _ (is_term_test (last_reading past) policy.job (last_term past) h.short)),
              (
                when_not _ _ (negated _ (both _ _ h.first (is_next_test (commits_in past) (committed_in past) (pending_in past) numbers.committed numbers.pending))),
                (
                  when_not _ _ (neither _ _ few_committed few_pending),
                  (
                    when_not _ _ h.assigned,
                    (
                      when_not _ _ grants,
                      (
                        when_not _ _ (negated _ deadline),
                        tt,
                      ),
                    ),
                  ),
                ),
              ),
            ),
          ),
        ),
      )
