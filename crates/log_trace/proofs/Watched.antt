-- Handles that are watched while the entries of a log are played.
use Rattle.std.proofs.Common.{◌≡◌, ◌∙◌, ℕ, ◌+◌, ◌<◌, ◌≤◌, Bool, true, false, List, [], ◌∷◌, ◌++◌, length, get_or, map, min, take, reverse, inl, inr, refl, sym, ap, subst, arith}
use Rattle.std.specs.Prelude.{⊤, MatchOption, Option, Some, None, nat_lt, if◌then◌else◌}
use Rattle.std.specs.List.{All, Contains}
use Rattle.std.proofs.lemmas.Bool.{cases_lt}
use Rattle.std.proofs.Math.ListN.{get_or-append, get_or-map}
use Rattle.std.proofs.lemmas.List.{length-append, length-map, length-take, take-take}
use Rattle.std.proofs.lemmas.Bool.Decides.{nat_tests}
use Rattle.std.proofs.lemmas.List.Quantifiers.{Any-push}
use Rattle.std.proofs.lemmas.List.Elements.{All-contains, All-map}
use Rattle.key_handle.specs.declared.handle.KeyHandle.{KeyHandle}
use Rattle.job_calls.specs.Jobs.{Job}
use Rattle.cluster.specs.Pasts.{Past}
use Rattle.cluster.specs.continued.Jobs.{Continued, job_in}
use Rattle.cluster.specs.continued.Runs.{IsRun}
use Rattle.log_line.specs.declared.entry.LogEntry.{LogEntry}
use Rattle.log_line.specs.declared.told.CallerReply.{CallerReply}
use Rattle.log_run.specs.Played.{AreCallsOf, StandsFor}
use Rattle.log_run.proofs.Replaying.{one_more}
use Rattle.log_causes.specs.Broken.{IsKeptTo, IsLostBy, IsTakingOr, is_taken_away}
use Rattle.log_trace.specs.declared.breaking.BrokenHandle.{BrokenHandle}
use Rattle.log_trace.specs.declared.takings.Taking.{Taking}
use Rattle.log_trace.specs.Takings.{AreAllWatched, IsTakingOf, IsWatched, told_broken}
use Rattle.log_trace.specs.internals.Taking.{IsTakenBy, first_after, first_below, taking_after}

-- BEFORE THE FIRST ENTRY

taken_none : (job : Continued) (entries : List LogEntry) (broken : BrokenHandle) → IsTakenBy job entries 0 broken None
taken_none job entries broken = λ before less. absurd (omega (arith, less))

pub none_taken : (job : Continued) (entries : List LogEntry) (takings : List Taking) → All (λ t. t.first ≡ None) takings
    → All (λ t. IsTakenBy job entries 0 t.broken t.first) takings
none_taken job entries takings none = λ k d low. subst (λ (first : Option ℕ). IsTakenBy job entries 0 (get_or takings k d).broken first) (sym (none k d low))
    (taken_none job entries (get_or takings k d).broken)

-- ONE ENTRY MORE

module _ (job : Continued) (entries : List LogEntry) (i : ℕ) (entry : LogEntry) (low : i < length entries) (here : entry ≡ get_or entries i entry)
    (past : Past) (made : AreCallsOf job (reverse (take i entries)) past) (told : CallerReply) (after : Past)
    (stands : StandsFor (job_in job) past entry.line.call told after) (run : IsRun job after) where
  pub made_more : AreCallsOf job (reverse (take (i + 1) entries)) after
  made_more = subst (λ (es : List LogEntry). AreCallsOf job es after) (sym (one_more entries i entry low here)) (past, told, stands, made)

  lost_by : (task : ℕ) (handle : KeyHandle) (lost : Bool) → is_taken_away (job_in job) after task handle ≡ lost → IsLostBy job entries task handle i lost
  lost_by task handle lost is = record { past = after; made = made_more; answered = run; state = is }

  kept_more : (task : ℕ) (handle : KeyHandle) → IsKeptTo job entries task handle i → is_taken_away (job_in job) after task handle ≡ false
      → IsKeptTo job entries task handle (i + 1)
  kept_more task handle kept is = λ before less. elim (cases_lt before i) [
    | inl lower ↦ kept before lower
    | inr higher ↦ subst (λ (n : ℕ). IsLostBy job entries task handle n false) (let last : i ≡ before = omega (arith, less, higher) in last)
        (lost_by task handle false is)
  ]

  by_test : (broken : BrokenHandle) (lost : Bool) → is_taken_away (job_in job) after broken.task broken.handle ≡ lost
      → IsKeptTo job entries broken.task broken.handle i → IsTakenBy job entries (i + 1) broken (if lost then Some i else None)
  by_test broken true is kept = record { within = low; kept = kept; lost = lost_by broken.task broken.handle true is }
  by_test broken false is kept = kept_more broken.task broken.handle kept is

  taken_more : (broken : BrokenHandle) (first : Option ℕ) → IsTakenBy job entries i broken first
      → IsTakenBy job entries (i + 1) broken (first_after (job_in job) after i broken first)
  taken_more broken (Some place) taken = taken
  taken_more broken None kept = by_test broken (is_taken_away (job_in job) after broken.task broken.handle) refl kept

  pub each_more : (takings : List Taking) → All (λ t. IsTakenBy job entries i t.broken t.first) takings
      → All (λ t. IsTakenBy job entries (i + 1) t.broken t.first) (map (taking_after (job_in job) after i) takings)
  each_more takings each = All-map (λ t. IsTakenBy job entries (i + 1) t.broken t.first) (taking_after (job_in job) after i) takings
      (λ k d less. taken_more (get_or takings k d).broken (get_or takings k d).first (each k d less))

-- AFTER THE LAST ENTRY

taken_last : (job : Continued) (entries : List LogEntry) (i : ℕ) (broken : BrokenHandle) (first : Option ℕ) → length entries ≤ i → IsTakenBy job entries i broken first
    → IsTakingOr job entries broken.task broken.handle first
taken_last job entries i broken (Some place) all taken = taken
taken_last job entries i broken None all kept = λ before less. kept before (omega (arith, less, all))

pub each_last : (job : Continued) (entries : List LogEntry) (i : ℕ) (takings : List Taking) → length entries ≤ i
    → All (λ t. IsTakenBy job entries i t.broken t.first) takings → All (IsTakingOf job entries) takings
each_last job entries i takings all each = λ k d low. taken_last job entries i (get_or takings k d).broken (get_or takings k d).first all (each k d low)

-- THE FIRST ENTRIES OF A LOG

module _ (job : Continued) (entries : List LogEntry) (index task : ℕ) (handle : KeyHandle) where
  abbrev first_ones : List LogEntry
  first_ones = take index entries

  long : length first_ones ≡ min index (length entries)
  long = length-take index entries

  lost_before : (place : ℕ) (lost : Bool) → place < length first_ones → IsLostBy job entries task handle place lost → IsLostBy job first_ones task handle place lost
  lost_before place lost low is = record {
    past = is.past;
    made = subst (λ (es : List LogEntry). AreCallsOf job (reverse es) is.past) (sym (take-take (place + 1) index entries (omega (arith, low, long)))) is.made;
    answered = is.answered;
    state = is.state;
  }

  kept_before : (end : ℕ) → length first_ones ≤ end → IsKeptTo job entries task handle end → IsKeptTo job first_ones task handle (length first_ones)
  kept_before end low kept = λ place less. lost_before place false less (kept place (omega (arith, low, less)))

  first_by : (place : ℕ) (lower : Bool) → nat_lt place (length first_ones) ≡ lower → IsTakingOr job entries task handle (Some place)
      → IsTakingOr job first_ones task handle (if lower then Some place else None)
  first_by place true is taking =
      let low : place < length first_ones = grind (arith, nat_tests, is) in
      record {
        within = low;
        kept = λ earlier less. lost_before earlier false (omega (arith, low, less)) (taking.kept earlier less);
        lost = lost_before place true low taking.lost;
      }
  first_by place false is taking =
      let high : length first_ones ≤ place = grind (arith, nat_tests, is) in
      kept_before place high taking.kept

  pub first_before : (first : Option ℕ) → IsTakingOr job entries task handle first → IsTakingOr job first_ones task handle (first_below first (length first_ones))
  first_before (Some place) taking = first_by place (nat_lt place (length first_ones)) refl taking
  first_before None kept = kept_before (length entries) (omega (arith, long)) kept

-- a handle that is watched, before one of the entries
pub taken_by : (job : Continued) (entries : List LogEntry) (index : ℕ) (before : List LogEntry) (broken : BrokenHandle) (takings : List Taking) (taking : Taking)
    → All (IsTakingOf job entries) takings → Contains takings taking → taking.broken ≡ broken → before ≡ take index entries
    → IsTakingOr job before broken.task broken.handle (first_below taking.first (length before))
taken_by job entries index before broken takings taking each contains is same =
    let own : IsTakingOf job entries taking = All-contains (IsTakingOf job entries) takings taking each contains in
    let its : IsTakingOr job entries broken.task broken.handle taking.first =
    subst (λ (b : BrokenHandle). IsTakingOr job entries b.task b.handle taking.first) is own in
    subst (λ (es : List LogEntry). IsTakingOr job es broken.task broken.handle (first_below taking.first (length es))) (sym same)
    (first_before job entries index broken.task broken.handle taking.first its)

-- THE HANDLES THAT ARE WATCHED

pub if_some : {A : Type 0} (P Q : A → Type 0) (o : Option A) → ((a : A) → P a → Q a) → MatchOption o ⊤ P → MatchOption o ⊤ Q
if_some P Q None weaker h = tt
if_some P Q (Some a) weaker h = weaker a h

pub watched_more : (takings : List Taking) (t : Taking) (broken : BrokenHandle) → IsWatched takings broken → IsWatched (takings ++ t ∷ []) broken
watched_more takings t broken is =
    let low : is.0 < length (takings ++ t ∷ []) = omega (arith, is.2, length-append takings (t ∷ [])) in
    (is.0, is.1, low, get_or-append takings (t ∷ []) is.1 is.0 is.2 ∙ is.3, is.4)

pub watched_push : (takings : List Taking) (t : Taking) → IsWatched (takings ++ t ∷ []) t.broken
watched_push takings t = Any-push (λ u. u.broken ≡ t.broken) takings t refl

one_after : (f : Taking → Taking) (takings : List Taking) (broken : BrokenHandle) → ((t : Taking) → (f t).broken ≡ t.broken) → IsWatched takings broken
    → IsWatched (map f takings) broken
one_after f takings broken same is =
    let at = is.0 in
    let t = is.1 in
    let low : at < length (map f takings) = subst (λ (n : ℕ). at < n) (sym (length-map takings f)) is.2 in
    (at, f t, low, get_or-map f takings at t ∙ ap f is.3, same t ∙ is.4)

pub watched_after : (job : Job) (past : Past) (index : ℕ) (entries : List LogEntry) (takings : List Taking) → AreAllWatched entries takings
    → AreAllWatched entries (map (taking_after job past index) takings)
watched_after job past index entries takings all = λ k d low. if_some (IsWatched takings) (IsWatched (map (taking_after job past index) takings)) (told_broken (get_or entries k d))
    (λ broken is. one_after (taking_after job past index) takings broken (λ t. refl) is) (all k d low)
