-- The committed assignments are the proposals, in order.
use Rattle.std.proofs.Common.{◌≡◌, ℕ, zero, suc, ◌+◌, ◌-◌, ◌<◌, ◌≤◌, Bool, true, false, List, [], ◌∷◌, ◌++◌, length, refl, sym, ◌∙◌, ap, subst, arith, length-append}
use Rattle.std.specs.Prelude.{Option, Some, None, Ok, Err, is_ok, is_none, ◌==◌, nat_le, slice_get, if◌then◌else◌}
use Rattle.std.specs.Option.{option_or}
use Rattle.std.proofs.lemmas.Bool.Decides.{nat_tests}
use Rattle.std.proofs.lemmas.Option.{slice_get_past}
use Rattle.machines.specs.Calls.{answered_call}
use Rattle.assignment.specs.Slices.{Slicing}
use Rattle.grants.specs.declared.table_call.TableCall.{TableCall}
use Rattle.grants.specs.declared.table_call.TableCall.TheVariants as call
use Rattle.grants.specs.declared.table_call.TableReply.{TableReply}
use Rattle.grants.specs.declared.table_error.TableError.{TableError}
use Rattle.grants.specs.Policies.{Terms}
use Rattle.grants.specs.Assignments.{generation_of}
use Rattle.lease_table.specs.Calls.{AnsweredTableCall, standing_after, committed_in, pending_in}
use Rattle.lease_table.specs.Runs.{IsRun, commits_in}
use Rattle.lease_table.specs.Generations.{published_in}
use Rattle.lease_table.proofs.Acceptance.{IsAccepted}
use Rattle.lease_table.proofs.Induction.{after_run}
use Rattle.lease_table.proofs.Assignments.{counted}
use Rattle.machines.specs.Numbers.{is_within}
use Rattle.cluster.specs.Numbers.{with_number, kept_with_number}
use Rattle.cluster.specs.continued.Clusters.{AreAfter}
use Rattle.cluster.proofs.Keeping.{kept_number}
use Rattle.cluster.proofs.ActorLists.{get_left, get_last}
use Rattle.cluster.specs.internals.Proposals.{proposals_in, published_of}

append_nil : {A : Type 0} (xs : List A) → xs ++ [] ≡ xs
append_nil [] = refl
append_nil (x ∷ xs) = ap (λ (ys : List _). x ∷ ys) (append_nil xs)

-- the assignment that is proposed, as a list
abbrev waiting : Option Slicing → List Slicing
waiting None = []
waiting (Some slicing) = slicing ∷ []

-- the committed assignments, in order
abbrev published_with : TableCall → List AnsweredTableCall → List Slicing → List Slicing
published_with (call.Commit number at) past before = before ++ waiting (pending_in past)
published_with _ past before = before

abbrev published_list : List AnsweredTableCall → List Slicing
published_list [] = []
published_list (e ∷ past) = if is_ok e.answer then published_with e.call past (published_list past) else published_list past

record IsPublished (calls : List AnsweredTableCall) : Type 0 where
  all : proposals_in calls ≡ published_list calls ++ waiting (pending_in calls)
  many : length (published_list calls) ≡ commits_in calls
  each : (generation : ℕ) → published_in generation calls ≡ with_number generation (published_list calls)

-- one more is published
more : (published : List Slicing) (slicing : Slicing) (commits generation : ℕ) (before : Option Slicing) → length published ≡ commits
    → before ≡ with_number generation published
    → (if commits + 1 == generation then Some slicing else before) ≡ with_number generation (published ++ slicing ∷ [])
more published slicing commits zero before many e =
    let other : (commits + 1 == 0) ≡ false = grind (arith, nat_tests) in
    rw other e
more published slicing commits (suc i) before many e = by_test (commits + 1 == suc i) refl
  where
    place : suc i - 1 ≡ i
    place = omega arith

    here : (suc i == 0) ≡ false
    here = grind (arith, nat_tests)

    now : with_number (suc i) (published ++ slicing ∷ []) ≡ slice_get (published ++ slicing ∷ []) i
    now = rw (here, place) refl

    old : with_number (suc i) published ≡ slice_get published i
    old = rw (here, place) refl

    by_test : (b : Bool) → b ≡ (commits + 1 == suc i) → (if b then Some slicing else before) ≡ with_number (suc i) (published ++ slicing ∷ [])
    by_test true t =
        let same : i ≡ length published = grind (arith, nat_tests) in
        sym (now ∙ ap (slice_get (published ++ slicing ∷ [])) same ∙ get_last published slicing)
    by_test false t = e ∙ old ∙ sym (now ∙ by_place (nat_le (length published) i) refl)
      where
        by_place : (c : Bool) → c ≡ nat_le (length published) i → slice_get (published ++ slicing ∷ []) i ≡ slice_get published i
        by_place true l =
            let past : length published + 1 ≤ i = grind (arith, nat_tests) in
            slice_get_past (published ++ slicing ∷ []) i (let n = length-append published (slicing ∷ []) in omega (arith, n)) ∙ sym (slice_get_past published i (omega arith))
        by_place false l = get_left published (slicing ∷ []) i (grind (arith, nat_tests))

accepted_step : (policy : Terms) (past : List AnsweredTableCall) (c : TableCall) (reply : TableReply) → IsRun policy past → IsPublished past
    → IsAccepted (standing_after policy past) c reply → IsPublished (answered_call c (Ok reply) ∷ past)
accepted_step policy past (call.Propose number slicing at) reply run h a = record {
  all = ap (λ (xs : List Slicing). xs ++ slicing ∷ []) (h.all ∙ ap (λ (p : Option Slicing). published_list past ++ waiting p) a.alone ∙ append_nil (published_list past));
  many = h.many;
  each = h.each;
}
accepted_step policy past (call.Commit number at) reply run h a = by_pending (pending_in past) refl
  where
    by_pending : (p : Option Slicing) → p ≡ pending_in past → IsPublished (answered_call (call.Commit number at) (Ok reply) ∷ past)
    by_pending None e = absurd (let f : is_none (pending_in past) ≡ false = a.proposed in let t : is_none (pending_in past) ≡ true = ap is_none (sym e) in let g : true ≡ false = sym t ∙ f in cc)
    by_pending (Some slicing) e = record {
      all = h.all ∙ sym (append_nil (published_list past ++ waiting (pending_in past)));
      many =
          ap (λ (p : Option Slicing). length (published_list past ++ waiting p)) (sym e) ∙ length-append (published_list past) (slicing ∷ []) ∙ ap (λ (n : ℕ). n + 1) h.many;
      each = λ generation.
          subst (λ (p : Option Slicing). (if commits_in past + 1 == generation then p else published_in generation past) ≡ with_number generation (published_list past ++ waiting p)) e
          (more (published_list past) slicing (commits_in past) generation (published_in generation past) h.many (h.each generation));
    }
accepted_step policy past (call.JobTake assigner at) reply run h a = record { all = h.all; many = h.many; each = h.each }
accepted_step policy past (call.JobRenew number at) reply run h a = record { all = h.all; many = h.many; each = h.each }
accepted_step policy past (call.Grant task life at) reply run h a = record { all = h.all; many = h.many; each = h.each }
accepted_step policy past (call.Free note at) reply run h a = record { all = h.all; many = h.many; each = h.each }
accepted_step policy past call.Restart reply run h a = record { all = h.all; many = h.many; each = h.each }

refused_step : (past : List AnsweredTableCall) (c : TableCall) (refusal : TableError) → IsPublished past → IsPublished (answered_call c (Err refusal) ∷ past)
refused_step past (call.Propose number slicing at) refusal h = record { all = h.all; many = h.many; each = h.each }
refused_step past (call.Commit number at) refusal h = record { all = h.all; many = h.many; each = h.each }
refused_step past (call.JobTake assigner at) refusal h = record { all = h.all; many = h.many; each = h.each }
refused_step past (call.JobRenew number at) refusal h = record { all = h.all; many = h.many; each = h.each }
refused_step past (call.Grant task life at) refusal h = record { all = h.all; many = h.many; each = h.each }
refused_step past (call.Free note at) refusal h = record { all = h.all; many = h.many; each = h.each }
refused_step past call.Restart refusal h = record { all = h.all; many = h.many; each = h.each }

start_is : (generation : ℕ) → published_in generation [] ≡ with_number generation []
start_is zero = refl
start_is (suc i) = let here : (suc i == 0) ≡ false = grind (arith, nat_tests) in rw here refl

are_published : (policy : Terms) (calls : List AnsweredTableCall) → IsRun policy calls → IsPublished calls
are_published policy = after_run policy IsPublished (record { all = refl; many = refl; each = start_is }) (λ past c refusal h. refused_step past c refusal h) (λ past c reply run h a. accepted_step policy past c reply run h a)

-- a number up to the length is found before what is added
numbered_left : (xs ys : List Slicing) (number : ℕ) → number ≤ length xs → with_number number (xs ++ ys) ≡ with_number number xs
numbered_left xs ys zero l = refl
numbered_left xs ys (suc i) l =
    let here : (suc i == 0) ≡ false = grind (arith, nat_tests) in
    let place : suc i - 1 ≡ i = omega arith in
    rw (here, place) (get_left xs ys i (omega arith))

numbered_past : (xs : List Slicing) (number : ℕ) → length xs < number → with_number number xs ≡ None
numbered_past xs zero l = refl
numbered_past xs (suc i) l =
    let here : (suc i == 0) ≡ false = grind (arith, nat_tests) in
    let place : suc i - 1 ≡ i = omega arith in
    rw (here, place) (slice_get_past xs i (omega arith))

either : (b : Bool) → (if b then (let none : Option Slicing = None in none) else None) ≡ None
either true = refl
either false = refl

pub published_is : (policy : Terms) (calls : List AnsweredTableCall) → IsRun policy calls → generation_of (committed_in calls) ≡ commits_in calls
    → (generation first : ℕ) (kept : List Slicing) → AreAfter first (proposals_in calls) kept
    → published_of generation (standing_after policy calls) first kept ≡ (if is_within generation first then None else published_in generation calls)
published_is policy calls run counted generation first kept are = by_test (nat_le generation (generation_of (committed_in calls))) refl
  where
    h : IsPublished calls
    h = are_published policy calls run

    by_test : (b : Bool) → b ≡ nat_le generation (generation_of (committed_in calls))
        → (if b then kept_with_number generation first kept else None) ≡ (if is_within generation first then None else published_in generation calls)
    by_test true t =
        let low : generation ≤ generation_of (committed_in calls) = grind (arith, nat_tests) in
        let many : length (published_list calls) ≡ commits_in calls = h.many in
        let few : generation ≤ length (published_list calls) = omega (arith, low, counted, many) in
        kept_number first (proposals_in calls) kept generation are
        ∙ ap (λ (o : Option Slicing). if is_within generation first then None else o) (ap (with_number generation) h.all ∙ numbered_left (published_list calls) (waiting (pending_in calls)) generation few ∙ sym (h.each generation))
    by_test false t =
        let high : generation_of (committed_in calls) < generation = grind (arith, nat_tests) in
        let many : length (published_list calls) ≡ commits_in calls = h.many in
        let beyond : length (published_list calls) < generation = omega (arith, high, counted, many) in
        sym (ap (λ (o : Option Slicing). if is_within generation first then None else o) (h.each generation ∙ numbered_past (published_list calls) generation beyond)
        ∙ either (is_within generation first))

-- a published generation is one of the commits
pub known_generation : (policy : Terms) (calls : List AnsweredTableCall) → IsRun policy calls → (generation : ℕ) (slicing : Slicing) → published_in generation calls ≡ Some slicing
    → generation ≤ commits_in calls
known_generation policy calls run generation slicing e = by_test (nat_le generation (commits_in calls)) refl
  where
    h : IsPublished calls
    h = are_published policy calls run

    by_test : (b : Bool) → b ≡ nat_le generation (commits_in calls) → generation ≤ commits_in calls
    by_test true t = grind (arith, nat_tests)
    by_test false t =
        let high : commits_in calls < generation = grind (arith, nat_tests) in
        let many : length (published_list calls) ≡ commits_in calls = h.many in
        let beyond : length (published_list calls) < generation = omega (arith, high, many) in
        absurd (let none : None ≡ Some slicing = sym (numbered_past (published_list calls) generation beyond) ∙ (sym (h.each generation) ∙ e) in cc)

-- there are as many proposals as generations
pub proposals_counted : (policy : Terms) (calls : List AnsweredTableCall) → IsRun policy calls
    → length (proposals_in calls) ≡ generation_of (option_or (pending_in calls) (committed_in calls))
proposals_counted policy calls run = by_pending (pending_in calls) refl
  where
    h : IsPublished calls
    h = are_published policy calls run

    by_pending : (p : Option Slicing) → p ≡ pending_in calls → length (proposals_in calls) ≡ generation_of (option_or p (committed_in calls))
    by_pending None e =
        ap (λ (xs : List Slicing). length xs) (h.all ∙ ap (λ (p : Option Slicing). published_list calls ++ waiting p) (sym e) ∙ append_nil (published_list calls))
        ∙ h.many ∙ sym (counted policy calls run).committed
    by_pending (Some next) e =
        ap (λ (xs : List Slicing). length xs) (h.all ∙ ap (λ (p : Option Slicing). published_list calls ++ waiting p) (sym e))
        ∙ length-append (published_list calls) (next ∷ []) ∙ ap (λ (n : ℕ). n + 1) h.many ∙ sym ((counted policy calls run).pending next (sym e))
