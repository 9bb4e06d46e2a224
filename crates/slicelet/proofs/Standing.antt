-- An accepted step leads from a state after calls to the state after one call more.
use Rattle.std.proofs.Common.{◌≡◌, ◌∙◌, ℕ, suc, ◌+◌, ◌<◌, ◌≤◌, Bool, true, false, List, [], ◌∷◌, ◌++◌, length, refl, sym, ap, subst, arith}
use Rattle.std.specs.Prelude.{Option, Some, None, Ok, Err, is_some, option_map, if◌then◌else◌, MatchBool, ◌==◌, ◌&&◌}
use Rattle.std.specs.List.{AllByRecursion}
use Rattle.slice_ranges.specs.declared.key.TheConstants.{KEYS}
use Rattle.machines.specs.Refusals.{first_of, unless_refused}
use Rattle.machines.specs.Answers.{with_named_reply}
use Rattle.lease_rule.specs.declared.lease.Kind.{Kind}
use Rattle.lease_rule.specs.declared.lease.Kind.TheVariants.{Guard, Bridge}
use Rattle.grants.specs.declared.values.Grant.{Grant}
use Rattle.grants.specs.declared.values.ReleaseNote.{ReleaseNote}
use Rattle.key_handle.specs.declared.handle.KeyHandle.{KeyHandle}
use Rattle.key_handle.specs.Stamps.{stamp_after_change}
use Rattle.key_handle.specs.Handles.{is_up_to}
use Rattle.grants.specs.declared.slicelet_error.SliceletError.{SliceletError}
use Rattle.grants.specs.declared.slicelet_call.SliceletReply.{SliceletReply}
use Rattle.grants.specs.declared.slicelet_call.SliceletReply.TheVariants.{Started, Heard, Released, Resumed}
use Rattle.grants.specs.declared.slicelet_call.SliceletCall.{SliceletCall}
use Rattle.grants.specs.declared.slicelet_call.SliceletCall.TheVariants.{Start, Hear, Release, Resume}
use Rattle.slicelet.specs.Calls.{is_resume, this_process, count_of, life_of, reading_of, held_grant, greatest_heard}
use Rattle.slicelet.specs.Rules.{covers_key, rule_after, is_permitted}
use Rattle.slicelet.specs.Stamping.{turns, stamp_after, stamp_of, stamps_where}
use Rattle.slicelet.specs.States.{SliceletState, resumed, state_after, held_in, greatest_in, stamp_in, rule_in_state}
use Rattle.slicelet.specs.Steps.{start_checks, hear_checks, release_checks, resume_checks, old_number, with_grant, with_greatest, moved_by, read_at, state_with_count, next_state, note_of, slicelet_step}
use Rattle.grants.specs.SliceletCalls.{ended_notes}
use Rattle.slicelet.specs.Accepted.{checks_of, AreAccepted, StandsAfter, notes_of, notes_after}
use Rattle.slicelet.specs.Continuity.{IsContinuous, is_strange, is_kept, checked_in, IsChecked}
use Rattle.slicelet.proofs.Accepting.{hear_accepted, resume_allowed}
use Rattle.slicelet.proofs.States.{same_stamps, stamp_among_where, held_after, greatest_after}
use Rattle.slicelet.proofs.Stamping.{length-turns, continuous_as_stamped}
use Rattle.slicelet.proofs.OwnLeases.{greatest_above, own_leases}
use Rattle.slicelet.proofs.Processes.{permitted_in_process, process_longer}

pub restamped_same : (o p : Option ℕ) (b c a d : Bool) (m n : ℕ) → o ≡ p → b ≡ c → a ≡ d → m ≡ n → stamp_after_change o b a m ≡ stamp_after_change p c d n
restamped_same o p b c a d m n e f g i = rw (e, f, g, i) refl

-- the state after one call more, where the call is not counted yet
abbrev uncounted : ℕ → List SliceletCall → SliceletCall → SliceletState
uncounted task h c = record (state_after task (c ∷ h)) { count = count_of h; stamps = stamps_where (λ key. stamp_of (covers_key key) h) }

moved_is : (task : ℕ) (h : List SliceletCall) (c : SliceletCall) → is_resume c ≡ false → first_of (checks_of (state_after task h) c) ≡ None
    → read_at (reading_of c) (moved_by (state_after task h) c) ≡ uncounted task h c
moved_is task h (Start life at) n e = refl
moved_is task h (Hear grant at) n e = by_kind grant.lease.kind refl (hear_accepted (state_after task h) grant at e).newer
  where
    by_kind : (kind : Kind) → grant.lease.kind ≡ kind → old_number grant.number (greatest_in (state_after task h) kind) ≡ None
        → read_at at (with_greatest kind grant.number (with_grant kind (Some grant) (state_after task h))) ≡ uncounted task h (Hear grant at)
    by_kind Guard k n = rw (k, greatest_above grant.number (greatest_heard Guard h) n) refl
    by_kind Bridge k n = rw (k, greatest_above grant.number (greatest_heard Bridge h) n) refl
moved_is task h (Resume life) n e = absurd (cc)
moved_is task h (Release kind at) n e = by_kind kind
  where
    by_kind : (kind : Kind) → read_at at (with_grant kind None (state_after task h)) ≡ uncounted task h (Release kind at)
    by_kind Guard = refl
    by_kind Bridge = refl

counted_after : (task : ℕ) (h : List SliceletCall) (c : SliceletCall) → is_resume c ≡ false → first_of (checks_of (state_after task h) c) ≡ None
    → state_with_count (state_after task h) (read_at (reading_of c) (moved_by (state_after task h) c)) (reading_of c) ≡ state_after task (c ∷ h)
counted_after task h c goes e =
    ap (λ (s : SliceletState). state_with_count (state_after task h) s (reading_of c)) (moved_is task h c goes e)
    ∙ ap (λ (stamps : List (Option ℕ)). with_stamps (count_of h + 1) stamps) stamps_are
    ∙ ap (λ (n : ℕ). with_stamps n (state_after task (c ∷ h)).stamps) one_more
  where
    with_stamps : ℕ → List (Option ℕ) → SliceletState
    with_stamps n stamps = record (state_after task (c ∷ h)) { count = n; stamps = stamps }

    one_more : count_of h + 1 ≡ count_of (c ∷ h)
    one_more = (let more : length (this_process h) + 1 ≡ suc (length (this_process h)) = omega arith in more) ∙ ap (λ (calls : List SliceletCall). length calls) (sym (process_longer c h goes))

    stamp_is : (key : ℕ) → stamp_after (turns (covers_key key) (c ∷ this_process h)) ≡ stamp_of (covers_key key) (c ∷ h)
    stamp_is key = ap (λ (calls : List SliceletCall). stamp_after (turns (covers_key key) calls)) (sym (process_longer c h goes))

    permitted_before : (key : ℕ) → is_permitted (covers_key key) h (reading_of c) ≡ is_permitted (covers_key key) (this_process h) (reading_of c)
    permitted_before key = sym (permitted_in_process (covers_key key) h (reading_of c))

    permitted_now : (key : ℕ) → is_permitted (covers_key key) (c ∷ h) (reading_of c) ≡ is_permitted (covers_key key) (c ∷ this_process h) (reading_of c)
    permitted_now key = sym (permitted_in_process (covers_key key) (c ∷ h) (reading_of c)) ∙ ap (λ (calls : List SliceletCall). is_permitted (covers_key key) calls (reading_of c)) (process_longer c h goes)

    stamps_are : stamps_where (λ key. stamp_after_change (stamp_in (state_after task h) key) (is_permitted (covers_key key) h (reading_of c)) (is_permitted (covers_key key) (c ∷ h) (reading_of c)) (count_of h + 1))
        ≡ stamps_where (λ key. stamp_of (covers_key key) (c ∷ h))
    stamps_are = same_stamps _ _ (λ key l. restamped_same _ _ _ _ _ _ _ _
        (stamp_among_where (λ key. stamp_of (covers_key key) h) key l) (permitted_before key) (permitted_now key)
        (ap (λ (n : ℕ). n + 1) (sym (length-turns (covers_key key) (this_process h)))) ∙ stamp_is key)

pub next_after : (task : ℕ) (h : List SliceletCall) (c : SliceletCall) → first_of (checks_of (state_after task h) c) ≡ None
    → next_state (state_after task h) c ≡ state_after task (c ∷ h)
next_after task h (Start life at) e = counted_after task h (Start life at) refl e
next_after task h (Hear grant at) e = counted_after task h (Hear grant at) refl e
next_after task h (Release kind at) e = counted_after task h (Release kind at) refl e
next_after task h (Resume life) e = refl

-- a slicelet of a new process stands after all calls of the processes before it
pub resumes : (task life : ℕ) (h : List SliceletCall) → AreAccepted task h → life_of h ≤ life → StandsAfter (Resume life ∷ h) (resumed task life)
resumes task life h accepted l = record { state = refl; accepted = (resume_allowed (state_after task h) life l, accepted) }

pub opens : (task : ℕ) → StandsAfter [] (state_after task [])
opens task = record { state = refl; accepted = tt }

pub leads_on : (h : List SliceletCall) (s : SliceletState) (c : SliceletCall) → StandsAfter h s → first_of (checks_of s c) ≡ None → StandsAfter (c ∷ h) (next_state s c)
leads_on h s c k e =
    let accepted : first_of (checks_of (state_after s.task h) c) ≡ None = subst (λ (x : SliceletState). first_of (checks_of x c) ≡ None) k.state e in
    let stands : StandsAfter (c ∷ h) (state_after s.task (c ∷ h)) = record { state = refl; accepted = (accepted, k.accepted) } in
    subst (λ (x : SliceletState). StandsAfter (c ∷ h) (next_state x c)) (sym k.state)
    (subst (λ (x : SliceletState). StandsAfter (c ∷ h) x) (sym (next_after s.task h c accepted)) stands)

-- a check answers by the calls
check_after : (task : ℕ) (h : List SliceletCall) (handle : KeyHandle) (at : ℕ) → handle.key < KEYS → IsChecked task h handle at (checked_in (state_after task h) handle at)
check_after task h handle at l = by_tests (is_strange (state_after task h) handle) (is_kept (state_after task h) handle at) refl kept
  where
    kept : MatchBool (is_kept (state_after task h) handle at) (IsContinuous (covers_key handle.key) h handle at) (IsContinuous (covers_key handle.key) h handle at → ⊥)
    kept = continuous_as_stamped (covers_key handle.key) h handle at _ (stamp_in (state_after task h) handle.key)
        (handle.life == (state_after task h).life && is_up_to handle.position (stamp_in (state_after task h) handle.key)) (is_permitted (covers_key handle.key) h at)
        refl (stamp_among_where (λ key. stamp_of (covers_key key) h) handle.key l) refl refl

    by_tests : (strange is : Bool) → is_strange (state_after task h) handle ≡ strange
        → MatchBool is (IsContinuous (covers_key handle.key) h handle at) (IsContinuous (covers_key handle.key) h handle at → ⊥)
        → IsChecked task h handle at (if strange then Err (record {}) else Ok is)
    by_tests true is e k = e
    by_tests false true e k = (e, k)
    by_tests false false e k = (e, k)

pub checks_after : (h : List SliceletCall) (s : SliceletState) (handle : KeyHandle) (at : ℕ) → handle.key < KEYS → StandsAfter h s → IsChecked s.task h handle at (checked_in s handle at)
checks_after h s handle at l k = subst (λ (x : SliceletState). IsChecked s.task h handle at (checked_in x handle at)) (sym k.state) (check_after s.task h handle at l)

-- an accepted step is refused by nothing, and leaves the next state
taken : {A R : Type 0} (o : Option SliceletError) (name : A → R) (next : SliceletState) (answer : A) (p : SliceletState × R)
    → with_named_reply name (unless_refused {A = SliceletState × A} o (next, answer)) ≡ Ok p → (o ≡ None) × (next ≡ p.0)
taken {A} {R} None name next answer p e = let same : (next, name answer) ≡ p = cc in (refl, ap (λ (q : SliceletState × R). q.0) same)
taken (Some refusal) name next answer p e = absurd (cc)

pub accepted_step : (s : SliceletState) (c : SliceletCall) (p : SliceletState × SliceletReply) → slicelet_step s c ≡ Ok p → (first_of (checks_of s c) ≡ None) × (next_state s c ≡ p.0)
accepted_step s (Start life at) p e = taken (first_of (start_checks s life at)) (λ _. Started) (next_state s (Start life at)) tt p e
accepted_step s (Hear grant at) p e = taken (first_of (hear_checks s grant at)) (λ _. Heard) (next_state s (Hear grant at)) tt p e
accepted_step s (Release kind at) p e = taken (first_of (release_checks s kind at)) Released (next_state s (Release kind at)) (note_of s kind) p e
accepted_step s (Resume life) p e = taken (first_of (resume_checks s life)) Resumed (next_state s (Resume life)) (ended_notes s.task life) p e

-- it answers the notes that it sends, which are of its task
pub record SendsNotes (s : SliceletState) (c : SliceletCall) (notes : List ReleaseNote) (sent : List ReleaseNote) : Type 0 where
  pub answered : notes_after s c sent ≡ notes ++ sent
  pub own : AllByRecursion (λ (note : ReleaseNote). note.task ≡ s.task) notes

replied : {A R : Type 0} (o : Option SliceletError) (name : A → R) (next : SliceletState) (answer : A) (p : SliceletState × R)
    → with_named_reply name (unless_refused {A = SliceletState × A} o (next, answer)) ≡ Ok p → name answer ≡ p.1
replied {A} {R} None name next answer p e = let same : (next, name answer) ≡ p = cc in ap (λ (q : SliceletState × R). q.1) same
replied (Some refusal) name next answer p e = absurd (cc)

pub sends_notes : (s : SliceletState) (c : SliceletCall) (p : SliceletState × SliceletReply) (sent : List ReleaseNote) → slicelet_step s c ≡ Ok p → SendsNotes s c (notes_of p.1) sent
sends_notes s (Start life at) p sent e =
    let told = replied (first_of (start_checks s life at)) (λ _. Started) (next_state s (Start life at)) tt p e in
    subst (λ (r : SliceletReply). SendsNotes s (Start life at) (notes_of r) sent) told (record { answered = refl; own = tt })
sends_notes s (Hear grant at) p sent e =
    let told = replied (first_of (hear_checks s grant at)) (λ _. Heard) (next_state s (Hear grant at)) tt p e in
    subst (λ (r : SliceletReply). SendsNotes s (Hear grant at) (notes_of r) sent) told (record { answered = refl; own = tt })
sends_notes s (Release kind at) p sent e =
    let told = replied (first_of (release_checks s kind at)) Released (next_state s (Release kind at)) (note_of s kind) p e in
    subst (λ (r : SliceletReply). SendsNotes s (Release kind at) (notes_of r) sent) told (record { answered = refl; own = (refl, tt) })
sends_notes s (Resume life) p sent e =
    let told = replied (first_of (resume_checks s life)) Resumed (next_state s (Resume life)) (ended_notes s.task life) p e in
    subst (λ (r : SliceletReply). SendsNotes s (Resume life) (notes_of r) sent) told (record { answered = refl; own = (refl, (refl, tt)) })

pub steps_on : (h : List SliceletCall) (s : SliceletState) (c : SliceletCall) (p : SliceletState × SliceletReply) → StandsAfter h s → slicelet_step s c ≡ Ok p → StandsAfter (c ∷ h) p.0
steps_on h s c p k e = let step = accepted_step s c p e in subst (λ (x : SliceletState). StandsAfter (c ∷ h) x) step.1 (leads_on h s c k step.0)

pub held_by_calls : (h : List SliceletCall) (s : SliceletState) (kind : Kind) → StandsAfter h s → held_in s kind ≡ held_grant kind h
held_by_calls h s kind k = ap (λ (x : SliceletState). held_in x kind) k.state ∙ held_after s.task h kind

pub greatest_by_calls : (h : List SliceletCall) (s : SliceletState) (kind : Kind) → StandsAfter h s → greatest_in s kind ≡ greatest_heard kind h
greatest_by_calls h s kind k = ap (λ (x : SliceletState). greatest_in x kind) k.state ∙ greatest_after s.task h kind

pub rule_by_calls : (covers : Grant → Bool) (h : List SliceletCall) (s : SliceletState) (at : ℕ) → StandsAfter h s → rule_in_state covers s at ≡ rule_after covers h at
rule_by_calls covers h s at k = ap (λ (x : SliceletState). rule_in_state covers x at) k.state

-- the number of a held lease is the greatest heard of its kind
pub number_held : (h : List SliceletCall) (s : SliceletState) → StandsAfter h s → (kind : Kind) → is_some (held_in s kind) ≡ true
    → greatest_in s kind ≡ option_map (λ (grant : Grant). grant.number) (held_in s kind)
number_held h s k kind e = by_held (held_in s kind) refl e
  where
    by_held : (o : Option Grant) → held_in s kind ≡ o → is_some o ≡ true → greatest_in s kind ≡ option_map (λ (grant : Grant). grant.number) o
    by_held None q e = absurd (cc)
    by_held (Some grant) q e =
        greatest_by_calls h s kind k ∙ ((own_leases s.task h k.accepted).own kind grant (sym (held_by_calls h s kind k) ∙ q)).greatest
