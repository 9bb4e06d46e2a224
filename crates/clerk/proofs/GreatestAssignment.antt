-- The last assignment that a clerk accepted is the greatest.
use Rattle.std.proofs.Common.{◌≡◌, ◌∙◌, ℕ, zero, suc, ◌<◌, ◌≤◌, Bool, true, false, List, [], ◌∷◌, length, get_or, refl, sym, ap, subst, arith}
use Rattle.std.specs.Prelude.{Option, Some, None, Result, Ok, Err, is_ok, if◌then◌else◌, nat_le, nat_lt}
use Rattle.std.specs.List.{AllByRecursion}
use Rattle.std.proofs.lemmas.Bool.Decides.{nat_tests}
use Rattle.std.proofs.lemmas.List.Elements.{All-from_recursion}
use Rattle.machines.specs.Refusals.{when, first_of, unless_refused}
use Rattle.machines.proofs.Every.{all_weaker}
use Rattle.assignment.specs.Slices.{Slicing}
use Rattle.assignment.proofs.SliceOrder.{some_is}
use Rattle.clerk.specs.declared.call.ClerkCall.{ClerkCall}
use Rattle.clerk.specs.declared.call.ClerkCall.TheVariants.{Learn, Forget}
use Rattle.clerk.specs.declared.call.ClerkReply.{ClerkReply}
use Rattle.clerk.specs.declared.call.ClerkReply.TheVariants.{Learnt, Forgotten}
use Rattle.clerk.specs.declared.error.ClerkError.{ClerkError}
use Rattle.clerk.specs.declared.error.ClerkError.TheVariants.{Old}
use Rattle.machines.specs.Answers.{Answers, with_named_reply}
use Rattle.machines.specs.Calls.{LeadsOn}
use Rattle.clerk.specs.Calls.{AnsweredClerkCall, LeadsTo, clerk_step}
use Rattle.clerk.specs.Knowledge.{IsGreatest, accepted_since_forget, accepted_with, greater, greatest_of}

-- the step of a call leads on
pub leads_on : (past : List AnsweredClerkCall) (state : Option Slicing) (call : ClerkCall) (step : Result (Option Slicing × ClerkReply) ClerkError) → clerk_step state call ≡ step → LeadsTo past state → LeadsOn LeadsTo past state call step
leads_on past state call (Ok p) e h = (state, h, e)
leads_on past state call (Err refusal) e h = (state, h, (e, refl))

-- these are of generations below this one
AllBelow : ℕ → List Slicing → Type 0
AllBelow generation slicings = AllByRecursion (λ s. s.generation < generation) slicings

-- what is kept is the first of these, and the others are below it
pub IsFirst : List Slicing → Option Slicing → Type 0
IsFirst [] state = state ≡ None
IsFirst (s ∷ slicings) state = (state ≡ Some s) × AllBelow s.generation slicings

-- what is below a generation is below a greater one
below_more : (low high : ℕ) (slicings : List Slicing) → low ≤ high → AllBelow low slicings → AllBelow high slicings
unfolding AllBelow
below_more low high slicings l h = all_weaker (λ s. s.generation < low) (λ s. s.generation < high) slicings (λ s below. omega arith) h

-- what a call leaves
abbrev left_by : Result (Option Slicing × ClerkReply) ClerkError → Option Slicing
left_by (Ok p) = p.0
left_by (Err refusal) = None

-- an answered call leaves what its step leaves
left_is : (step : Result (Option Slicing × ClerkReply) ClerkError) (state : Option Slicing) (reply : ClerkReply) → step ≡ Ok (state, reply) → state ≡ left_by step
left_is step state reply e = sym (ap left_by e)

-- what is kept is of a greater generation than all others
all_below : (incumbent : Slicing) (slicings : List Slicing) (generation : ℕ) → IsFirst slicings (Some incumbent) → incumbent.generation < generation → AllBelow generation slicings
unfolding IsFirst AllBelow
all_below incumbent [] generation first l = tt
all_below incumbent (s ∷ slicings) generation first l =
    let same : incumbent ≡ s = some_is first.0 in
    let below : s.generation < generation = let P : Slicing → Type 0 = λ x. x.generation < generation in subst P same l in
    (below, below_more s.generation generation slicings (omega arith) first.1)

-- an accepted assignment is above all that were accepted before it
first_after_learn : (slicing : Slicing) (before state : Option Slicing) (reply : ClerkReply) (slicings : List Slicing) → IsFirst slicings before
    → clerk_step before (Learn slicing) ≡ Ok (state, reply) → IsFirst (slicing ∷ slicings) state
unfolding IsFirst AllBelow
first_after_learn slicing None state reply [] first e = (left_is (Ok (Some slicing, Learnt)) state reply e, tt)
first_after_learn slicing None state reply (s ∷ slicings) first e = absurd (cc)
first_after_learn slicing (Some last) state reply slicings first e = by_test (nat_le slicing.generation last.generation) refl e
  where
    by_test : (b : Bool) → b ≡ nat_le slicing.generation last.generation
        → (let left : Option Slicing × Unit {0} = (Some slicing, tt) in let named : Unit {0} → ClerkReply = λ _. Learnt in with_named_reply named (unless_refused (first_of (when b (Old last.generation) ∷ [])) left)) ≡ Ok (state, reply) → IsFirst (slicing ∷ slicings) state
    by_test true test e = absurd (cc)
    by_test false test e = (left_is (Ok (Some slicing, Learnt)) state reply e, all_below last slicings slicing.generation first (grind (arith, nat_tests)))

-- each call keeps the last accepted assignment the first
first_after : (call : ClerkCall) (answer : Result ClerkReply ClerkError) (before state : Option Slicing) (slicings : List Slicing) → IsFirst slicings before
    → Answers (clerk_step before call) before answer state → IsFirst (if is_ok answer then accepted_with call slicings else slicings) state
unfolding IsFirst
first_after call (Err refusal) before state slicings first a = rw a.1 first
first_after (Learn slicing) (Ok reply) before state slicings first a = first_after_learn slicing before state reply slicings first a
first_after Forget (Ok reply) before state slicings first a = left_is (Ok (None, Forgotten)) state reply a

-- a clerk keeps the last assignment that it accepted since it last forgot
pub leads_to_first : (past : List AnsweredClerkCall) (state : Option Slicing) → LeadsTo past state → IsFirst (accepted_since_forget past) state
unfolding IsFirst
leads_to_first [] state h = h
leads_to_first (e ∷ past) state h = first_after e.call e.answer h.0 state (accepted_since_forget past) (leads_to_first past h.0 h.1) h.2

-- the greatest of some that are below a generation is below it
greatest_below : (generation : ℕ) (s : Slicing) (slicings : List Slicing) → s.generation < generation → AllBelow generation slicings → (greater s (greatest_of slicings)).generation < generation
unfolding AllBelow
greatest_below generation s [] l h = l
greatest_below generation s (t ∷ slicings) l h = by_test (nat_lt s.generation (greater t (greatest_of slicings)).generation) (greatest_below generation t slicings h.0 h.1)
  where
    by_test : (b : Bool) → (greater t (greatest_of slicings)).generation < generation → (if b then greater t (greatest_of slicings) else s).generation < generation
    by_test true r = r
    by_test false r = l

-- what is above all of these is greater than their greatest
greater_is : (s : Slicing) (slicings : List Slicing) → AllBelow s.generation slicings → greater s (greatest_of slicings) ≡ s
unfolding AllBelow
greater_is s [] h = refl
greater_is s (t ∷ slicings) h =
    let below : (greater t (greatest_of slicings)).generation < s.generation = greatest_below s.generation t slicings h.0 h.1 in
    let test : nat_lt s.generation (greater t (greatest_of slicings)).generation ≡ false = grind (arith, nat_tests) in
    rw test refl

-- the first is what `greatest_of` finds
pub first_is_greatest_of : (slicings : List Slicing) (state : Option Slicing) → IsFirst slicings state → state ≡ greatest_of slicings
unfolding IsFirst
first_is_greatest_of [] state first = first
first_is_greatest_of (s ∷ slicings) state first = first.0 ∙ sym (ap Some (greater_is s slicings first.1))

-- what is kept is the greatest
pub first_is_greatest : (slicings : List Slicing) (state : Option Slicing) (slicing : Slicing) → IsFirst slicings state → state ≡ Some slicing → IsGreatest slicings slicing
unfolding IsFirst AllBelow
first_is_greatest [] state slicing first e = absurd (cc)
first_is_greatest (s ∷ slicings) state slicing first e =
    let here : IsGreatest (s ∷ slicings) s = record {
      listed = (0, omega arith, refl);
      greatest = All-from_recursion (λ o. o.generation ≤ s.generation) (s ∷ slicings) (omega arith, all_weaker (λ o. o.generation < s.generation) (λ o. o.generation ≤ s.generation) slicings (λ o below. omega arith) first.1);
    } in
    subst (IsGreatest (s ∷ slicings)) (some_is (sym first.0 ∙ e)) here

-- the first is the only one that is not below it
first_at : (s slicing : Slicing) (slicings : List Slicing) (k : ℕ) → AllBelow s.generation slicings → s.generation ≤ slicing.generation → k < length (s ∷ slicings) → get_or (s ∷ slicings) k slicing ≡ slicing → s ≡ slicing
unfolding AllBelow
first_at s slicing slicings zero h most l e = e
first_at s slicing slicings (suc k) h most l e =
    let below : (get_or slicings k slicing).generation < s.generation = All-from_recursion (λ o. o.generation < s.generation) slicings h k slicing (omega arith) in
    let P : Slicing → Type 0 = λ x. x.generation < s.generation in
    absurd (let b : slicing.generation < s.generation = subst P e below in omega arith)

-- the greatest is what is kept
pub greatest_is_first : (slicings : List Slicing) (state : Option Slicing) (slicing : Slicing) → IsFirst slicings state → IsGreatest slicings slicing → state ≡ Some slicing
unfolding IsFirst AllBelow
greatest_is_first [] state slicing first g = absurd (let l : g.listed.0 < 0 = g.listed.1 in omega arith)
greatest_is_first (s ∷ slicings) state slicing first g =
    first.0 ∙ ap Some (first_at s slicing slicings g.listed.0 first.1 (g.greatest 0 s (omega arith)) g.listed.1 g.listed.2)

-- nothing is kept exactly where nothing was accepted
pub nothing_accepted : (slicings : List Slicing) (state : Option Slicing) → IsFirst slicings state → state ≡ None → slicings ≡ []
unfolding IsFirst
nothing_accepted [] state first e = refl
nothing_accepted (s ∷ slicings) state first e = absurd (cc)

pub nothing_kept : (slicings : List Slicing) (state : Option Slicing) → IsFirst slicings state → slicings ≡ [] → state ≡ None
unfolding IsFirst
nothing_kept [] state first e = first
nothing_kept (s ∷ slicings) state first e = absurd (cc)
