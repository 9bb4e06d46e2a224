-- What is kept of all that was made, and what stays known.
use Rattle.std.proofs.Common.{◌≡◌, ℕ, zero, suc, ◌+◌, ◌-◌, ◌<◌, Bool, true, false, ◌||◌, ◌&&◌, List, [], ◌∷◌, ◌++◌, length, refl, sym, ◌∙◌, ap, subst, arith}
use Rattle.std.specs.Prelude.{◌==◌, nat_le, None, slice_get, if◌then◌else◌, Result, Ok, Err}
use Rattle.std.specs.List.{list_any}
use Rattle.std.proofs.lemmas.Bool.Decides.{nat_tests}
use Rattle.std.proofs.lemmas.List.{append_assoc, append-nil}
use Rattle.machines.specs.Numbers.{is_within}
use Rattle.grants.specs.declared.table_call.TableCall.{TableCall}
use Rattle.grants.specs.declared.table_call.TableCall.TheVariants as table_call
use Rattle.grants.specs.declared.table_call.TableReply.{TableReply}
use Rattle.grants.specs.declared.table_call.TableReply.TheVariants as table_told
use Rattle.grants.specs.declared.table_error.TableError.{TableError}
use Rattle.grants.specs.declared.values.Grant.{Grant}
use Rattle.grants.specs.declared.values.ReleaseNote.{ReleaseNote}
use Rattle.lease_table.specs.Calls.{grants_after}
use Rattle.assignment.specs.Slices.{Slicing}
use Rattle.key_handle.specs.declared.handle.KeyHandle.{KeyHandle}
use Rattle.slicelet.specs.Accepted.{notes_of}
use Rattle.job_calls.specs.declared.call.ClusterCall.{ClusterCall}
use Rattle.job_calls.specs.declared.call.ClusterCall.TheVariants as call
use Rattle.job_calls.specs.declared.reply.ClusterReply.{ClusterReply}
use Rattle.job_calls.specs.declared.reply.ClusterReply.TheVariants as reply
use Rattle.std.proofs.lemmas.List.Folds.{list_any-append}
use Rattle.job_calls.specs.Jobs.{Job}
use Rattle.cluster.specs.Numbers.{with_number, kept_with_number}
use Rattle.cluster.specs.Pasts.{Event, event, Past}
use Rattle.cluster.specs.Made.{note_told, with_note, notes_made, handle_told, with_handle, handles_made, same_note, same_handle}
use Rattle.cluster.specs.internals.Proposals.{proposals_with}
use Rattle.cluster.specs.continued.Jobs.{Continued, Counts, from_start, no_counts}
use Rattle.cluster.specs.continued.Deliveries.{knows_note, knows_handle}
use Rattle.cluster.specs.continued.Clusters.{AreAfter, AreSince, IsSteady}

-- LISTS

pub after_same : {A : Type 0} (first other : ℕ) (made kept new : List A) → other ≡ first → new ≡ kept → AreAfter first made kept → AreAfter other made new
after_same first other made kept new count same are =
    record { before = are.before; many = are.many ∙ sym count; all = are.all ∙ ap (λ (xs : List _). are.before ++ xs) (sym same) }

pub after_more : {A : Type 0} (first : ℕ) (made kept : List A) (new : A) → AreAfter first made kept → AreAfter first (made ++ new ∷ []) (kept ++ new ∷ [])
after_more first made kept new are = record {
  before = are.before;
  many = are.many;
  all = ap (λ (xs : List _). xs ++ new ∷ []) are.all ∙ append_assoc are.before kept (new ∷ []);
}

pub since_same : {A : Type 0} (first other : ℕ) (made kept new : List A) → other ≡ first → new ≡ kept → AreSince first made kept → AreSince other made new
since_same first other made kept new count same are =
    record { before = are.before; many = are.many ∙ sym count; all = are.all ∙ ap (λ (xs : List _). xs ++ are.before) (sym same) }

pub since_front : {A : Type 0} (first : ℕ) (made kept front : List A) → AreSince first made kept → AreSince first (front ++ made) (front ++ kept)
since_front first made kept front are = record {
  before = are.before;
  many = are.many;
  all = ap (λ (xs : List _). front ++ xs) are.all ∙ sym (append_assoc front kept are.before);
}

pub since_made : {A : Type 0} (first : ℕ) (made other kept : List A) → other ≡ made → AreSince first made kept → AreSince first other kept
since_made first made other kept same are = record { before = are.before; many = are.many; all = same ∙ are.all }

pub after_made : {A : Type 0} (first : ℕ) (made other kept : List A) → other ≡ made → AreAfter first made kept → AreAfter first other kept
after_made first made other kept same are = record { before = are.before; many = are.many; all = same ∙ are.all }

-- GRANTS AND PROPOSALS

pub after_grants : (first : ℕ) (sent kept : List Grant) (answer : Result TableReply TableError) → AreAfter first sent kept
    → AreAfter first (grants_after answer sent) (grants_after answer kept)
after_grants first sent kept (Ok (table_told.Granted grant)) are = after_more first sent kept grant are
after_grants first sent kept (Ok (table_told.Term term)) are = are
after_grants first sent kept (Ok table_told.Proposed) are = are
after_grants first sent kept (Ok (table_told.Committed generation)) are = are
after_grants first sent kept (Ok (table_told.Freed many)) are = are
after_grants first sent kept (Ok (table_told.Lost many)) are = are
after_grants first sent kept (Err why) are = are

pub after_proposals : (first : ℕ) (made kept : List Slicing) (c : TableCall) → AreAfter first made kept
    → AreAfter first (proposals_with c true made) (proposals_with c true kept)
after_proposals first made kept (table_call.Propose number slicing at) are = after_more first made kept slicing are
after_proposals first made kept (table_call.JobTake assigner at) are = are
after_proposals first made kept (table_call.JobRenew number at) are = are
after_proposals first made kept (table_call.Commit number at) are = are
after_proposals first made kept (table_call.Grant task life at) are = are
after_proposals first made kept (table_call.Free note at) are = are
after_proposals first made kept table_call.Restart are = are

-- NOTES AND HANDLES

note_in_front : (told : ClusterReply) (before : List ReleaseNote) → note_told told before ≡ note_told told [] ++ before
note_in_front (reply.Task told) before = ap (λ (xs : List ReleaseNote). xs ++ before) (sym (append-nil (notes_of told)))
note_in_front _ before = refl

pub notes_in_front : (c : ClusterCall) (told : ClusterReply) (before : List ReleaseNote) → with_note c told before ≡ with_note c told [] ++ before
notes_in_front (call.Task task c) told before = note_in_front told before
notes_in_front _ told before = refl

handle_in_front : (told : ClusterReply) (before : List KeyHandle) → handle_told told before ≡ handle_told told [] ++ before
handle_in_front (reply.Holding handle) before = refl
handle_in_front _ before = refl

pub handles_in_front : (c : ClusterCall) (told : ClusterReply) (before : List KeyHandle) → with_handle c told before ≡ with_handle c told [] ++ before
handles_in_front (call.Hold task key at) told before = handle_in_front told before
handles_in_front _ told before = refl

pub no_note_more : (c : ClusterCall) (told : ClusterReply) (before : List ReleaseNote) → with_note c told [] ≡ [] → with_note c told before ≡ before
no_note_more c told before none = notes_in_front c told before ∙ ap (λ (xs : List ReleaseNote). xs ++ before) none

pub no_handle_more : (c : ClusterCall) (told : ClusterReply) (before : List KeyHandle) → with_handle c told [] ≡ [] → with_handle c told before ≡ before
no_handle_more c told before none = handles_in_front c told before ∙ ap (λ (xs : List KeyHandle). xs ++ before) none

-- WHAT STAYS KNOWN

module _ (job : Continued) (past : Past) (earlier : Counts) (s : IsSteady job past earlier) where
  one_more : (later : Past) (e : Event) → later ++ e ∷ past ≡ (later ++ e ∷ []) ++ past
  one_more later e = sym (append_assoc later (e ∷ []) past)

  pub steady_next : (e : Event) → IsSteady job (e ∷ past) earlier
  steady_next e = record {
    grants = λ later number. ap (λ (p : Past). job.forgotten.grant p number) (one_more later e) ∙ s.grants (later ++ e ∷ []) number;
    generations = λ later generation. ap (λ (p : Past). job.forgotten.generation p generation) (one_more later e) ∙ s.generations (later ++ e ∷ []) generation;
    notes = λ later new note.
        subst (λ (p : Past). knows_note job.forgotten (new ∷ p) note ≡ (list_any (same_note note) (with_note new.call new.reply []) || knows_note job.forgotten p note))
        (sym (one_more later e)) (s.notes (later ++ e ∷ []) new note);
    handles = λ later new handle.
        subst (λ (p : Past). knows_handle job.forgotten (new ∷ p) handle ≡ (list_any (same_handle handle) (with_handle new.call new.reply []) || knows_handle job.forgotten p handle))
        (sym (one_more later e)) (s.handles (later ++ e ∷ []) new handle);
  }

  pub steady_same : (other : Counts) → other ≡ earlier → IsSteady job past other
  steady_same other same = subst (λ (c : Counts). IsSteady job past c) (sym same) s

  pub note_known : (c : ClusterCall) (told : ClusterReply) (note : ReleaseNote) → with_note c told [] ≡ []
      → knows_note job.forgotten (event c told ∷ past) note ≡ knows_note job.forgotten past note
  note_known c told note none =
      s.notes [] (event c told) note ∙ ap (λ (xs : List ReleaseNote). list_any (same_note note) xs || knows_note job.forgotten past note) none

  pub handle_known : (c : ClusterCall) (told : ClusterReply) (handle : KeyHandle) → with_handle c told [] ≡ []
      → knows_handle job.forgotten (event c told ∷ past) handle ≡ knows_handle job.forgotten past handle
  handle_known c told handle none =
      s.handles [] (event c told) handle ∙ ap (λ (xs : List KeyHandle). list_any (same_handle handle) xs || knows_handle job.forgotten past handle) none

-- NUMBERS

get_right : {A : Type 0} (xs ys : List A) (place i : ℕ) → place ≡ length xs + i → slice_get (xs ++ ys) place ≡ slice_get ys i
get_right [] ys place i e = ap (slice_get ys) (let same : place ≡ i = omega (arith, e) in same)
get_right (x ∷ xs) ys zero i e = absurd (omega (arith, e))
get_right (x ∷ xs) ys (suc place) i e = get_right xs ys place i (omega (arith, e))

-- what is kept is found by its number
pub kept_number : {A : Type 0} (first : ℕ) (made kept : List A) (number : ℕ) → AreAfter first made kept
    → kept_with_number number first kept ≡ (if is_within number first then None else with_number number made)
kept_number first made kept number are = by_test (is_within number first) refl
  where
    beyond : is_within number first ≡ false → (number == 0) ≡ false → first < number
    beyond out some = grind (arith, nat_tests, out, some)

    found : first < number → with_number (number - first) kept ≡ with_number number made
    found high =
        let some : (number == 0) ≡ false = grind (arith, nat_tests, high) in
        let other : (number - first == 0) ≡ false = grind (arith, nat_tests, high) in
        let many : length are.before ≡ first = are.many in
        let place : number - 1 ≡ length are.before + (number - first - 1) = omega (arith, high, many) in
        rw (some, other)
        (sym (ap (λ (xs : List _). slice_get xs (number - 1)) are.all ∙ get_right are.before kept (number - 1) (number - first - 1) place))

    zero_number : (number == 0) ≡ true → with_number (number - first) kept ≡ with_number number made
    zero_number is =
        let none : (number - first == 0) ≡ true = grind (arith, nat_tests, is) in
        rw (is, none) refl

    by_zero : (z : Bool) → (number == 0) ≡ z → is_within number first ≡ false → with_number (number - first) kept ≡ with_number number made
    by_zero true is out = zero_number is
    by_zero false is out = found (beyond out is)

    by_test : (b : Bool) → is_within number first ≡ b → (if b then None else with_number (number - first) kept) ≡ (if b then None else with_number number made)
    by_test true out = refl
    by_test false out = by_zero (number == 0) refl out

pub none_within : (n : ℕ) → is_within n 0 ≡ false
none_within n = by_tests (nat_le 1 n) (nat_le n 0) refl refl
  where
    by_tests : (a b : Bool) → nat_le 1 n ≡ a → nat_le n 0 ≡ b → (a && b) ≡ false
    by_tests true true e f = absurd (grind (arith, nat_tests, e, f))
    by_tests true false e f = refl
    by_tests false b e f = refl

-- from the start on nothing is forgotten
pub steady_start : (job : Job) → IsSteady (from_start job) [] no_counts
steady_start job = record {
  grants = λ later number. sym (none_within number);
  generations = λ later generation. sym (none_within generation);
  notes = λ later e note.
      ap (λ (xs : List ReleaseNote). list_any (same_note note) xs) (notes_in_front e.call e.reply (notes_made (later ++ [])))
      ∙ list_any-append (same_note note) (with_note e.call e.reply []) (notes_made (later ++ []));
  handles = λ later e handle.
      ap (λ (xs : List KeyHandle). list_any (same_handle handle) xs) (handles_in_front e.call e.reply (handles_made (later ++ [])))
      ∙ list_any-append (same_handle handle) (with_handle e.call e.reply []) (handles_made (later ++ []));
}
