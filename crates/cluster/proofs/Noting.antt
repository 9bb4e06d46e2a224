-- Every note that was made, or freed, was sent by its task.
use Rattle.std.proofs.Common.{◌≡◌, ℕ, Bool, true, false, List, [], ◌∷◌, ◌++◌, refl, sym, ◌∙◌, ap, subst, inl, inr, arith}
use Rattle.std.specs.Prelude.{None, ◌==◌, Contains, Result, if◌then◌else◌}
use Rattle.std.specs.List.{AllByRecursion}
use Rattle.std.proofs.lemmas.Bool.Decides.{nat_tests}
use Rattle.std.proofs.lemmas.List.{append_assoc}
use Rattle.std.proofs.lemmas.List.Elements.{Contains-append_left, Contains-append_right}
use Rattle.machines.specs.Calls.{answered_call}
use Rattle.machines.proofs.Every.{all_weaker}
use Rattle.grants.specs.declared.table_call.TableCall.{TableCall}
use Rattle.grants.specs.declared.table_call.TableCall.TheVariants.{Free}
use Rattle.grants.specs.declared.table_call.TableReply.{TableReply}
use Rattle.grants.specs.declared.table_error.TableError.{TableError}
use Rattle.grants.specs.declared.values.ReleaseNote.{ReleaseNote}
use Rattle.lease_table.specs.Calls.{AnsweredTableCall}
use Rattle.grants.proofs.Members.{here, there, nowhere, first_or_rest}
use Rattle.grants.specs.declared.slicelet_call.SliceletCall.{SliceletCall}
use Rattle.grants.specs.declared.slicelet_call.SliceletCall.TheVariants.{Start, Hear, Release, Resume}
use Rattle.grants.specs.declared.slicelet_call.SliceletReply.{SliceletReply}
use Rattle.lease_rule.specs.declared.lease.Kind.TheVariants.{Guard, Bridge}
use Rattle.grants.specs.SliceletCalls.{ended_note}
use Rattle.slicelet.specs.Accepted.{notes_of, notes_after, notes_sent}
use Rattle.slicelet.proofs.Standing.{SendsNotes, sends_notes}
use Rattle.cluster.specs.continued.Jobs.{Continued}
use Rattle.job_calls.specs.declared.error.ClusterError.TheVariants as error
use Rattle.job_calls.specs.declared.call.ClusterCall.TheVariants as call
use Rattle.job_calls.specs.declared.reply.ClusterReply.TheVariants as reply
use Rattle.cluster.specs.Pasts.{Event, event, Past, table_calls, task_calls, history}
use Rattle.cluster.specs.Made.{notes_made, same_note, is_made}
use Rattle.cluster.specs.continued.Deliveries.{knows_note, table_refusal}
use Rattle.cluster.specs.continued.Runs.{IsReply, IsRun}
use Rattle.cluster.specs.Promises.{IsNoteOf}
use Rattle.cluster.proofs.Sameness.{equal_notes, is_member}
use Rattle.cluster.proofs.Taking.{known_made, unless_true, table_taken, task_taken}
use Rattle.cluster.proofs.Adding.{adds_to_table, adds_to_task, adds_to_notes}

pub member : {X : Type 0} (P : X → Type 0) (xs : List X) (x : X) → AllByRecursion P xs → Contains xs x → P x
member P [] x all i = absurd (nowhere x i)
member P (y ∷ ys) x all i = elim (first_or_rest y x ys i) [ inl same ↦ subst P same all.0 | inr rest ↦ member P ys x all.1 rest ]

-- NOTES STAY SENT

pub note_stays : (task : ℕ) (c : SliceletCall) (h : List SliceletCall) (note : ReleaseNote) → Contains (notes_sent task h) note
    → Contains (notes_sent task (c ∷ h)) note
note_stays task (Start life at) h note i = i
note_stays task (Hear grant at) h note i = i
note_stays task (Release kind at) h note i = there _ note (notes_sent task h) i
note_stays task (Resume life) h note i = there (ended_note task life Bridge) note (ended_note task life Guard ∷ notes_sent task h) (there (ended_note task life Guard) note (notes_sent task h) i)

note_later : (e : Event) (past : Past) (note : ReleaseNote) → IsNoteOf past note → IsNoteOf (e ∷ past) note
note_later e past note i =
    elim (adds_to_task note.task past e) [
      | inl same ↦ subst (λ (calls : List SliceletCall). Contains (notes_sent note.task calls) note) (sym same) i
      | inr new ↦ subst (λ (calls : List SliceletCall). Contains (notes_sent note.task calls) note) (sym new.added) (note_stays note.task new.made (task_calls note.task past) note i)
    ]

-- WHAT WAS MADE WAS SENT

pub same_number : (n : ℕ) → (n == n) ≡ true
same_number n = grind (arith, nat_tests)

-- the call of a task that was told of is among those that it accepted
notes_told : (past : Past) (task : ℕ) (c : SliceletCall) (told : SliceletReply) (note : ReleaseNote) → Contains (notes_sent task (c ∷ task_calls task past)) note
    → Contains (notes_sent task (task_calls task (event (call.Task task c) (reply.Task told) ∷ past))) note
notes_told past task c told note i = by_test (task == task) (same_number task)
  where
    by_test : (b : Bool) → b ≡ true → Contains (notes_sent task (if b then c ∷ task_calls task past else task_calls task past)) note
    by_test true e = i
    by_test false e = absurd (cc)

-- notes that a call was told are among those that it sent
new_notes : (past : Past) (task : ℕ) (c : SliceletCall) (told : SliceletReply) (notes front : List ReleaseNote)
    → notes_after (history task past) c (notes_sent task (task_calls task past)) ≡ (front ++ notes) ++ notes_sent task (task_calls task past)
    → AllByRecursion (λ (note : ReleaseNote). note.task ≡ task) notes → AllByRecursion (IsNoteOf (event (call.Task task c) (reply.Task told) ∷ past)) notes
new_notes past task c told [] front sent own = tt
new_notes past task c told (note ∷ notes) front sent own =
    let calls = notes_sent task (task_calls task past) in
    let among : Contains ((front ++ note ∷ notes) ++ calls) note = Contains-append_left (front ++ note ∷ notes) calls note (Contains-append_right front (note ∷ notes) note (here note notes)) in
    let now = subst (λ (xs : List ReleaseNote). Contains xs note) (sym sent) among in (
      subst (λ (n : ℕ). Contains (notes_sent n (task_calls n (event (call.Task task c) (reply.Task told) ∷ past))) note) (sym own.0) (notes_told past task c told note now),
      new_notes past task c told notes (front ++ note ∷ []) (sent ∙ ap (λ (xs : List ReleaseNote). xs ++ calls) (sym (append_assoc front (note ∷ []) notes))) own.1,
    )

made_now : (job : Continued) (past : Past) (task : ℕ) (c : SliceletCall) (told : SliceletReply) → IsReply job past (event (call.Task task c) (reply.Task told))
    → AllByRecursion (IsNoteOf (event (call.Task task c) (reply.Task told) ∷ past)) (notes_of told)
made_now job past task c told h =
    let t = task_taken job past task c (reply.Task told) h refl in
    let named : t.left.1 ≡ told = let f : reply.Task told ≡ reply.Task t.left.1 = t.is in cc in
    let sends = subst (λ (r : SliceletReply). SendsNotes (history task past) c (notes_of r) (notes_sent task (task_calls task past))) named
    (sends_notes (history task past) c t.left (notes_sent task (task_calls task past)) t.taken) in
    new_notes past task c told (notes_of told) [] sends.answered sends.own

all_with : {X : Type 0} (P : X → Type 0) (xs ys : List X) → AllByRecursion P xs → AllByRecursion P ys → AllByRecursion P (xs ++ ys)
all_with P [] ys first rest = rest
all_with P (x ∷ xs) ys first rest = (first.0, all_with P xs ys first.1 rest)

all_made_sent : (job : Continued) (past : Past) → IsRun job past → AllByRecursion (IsNoteOf past) (notes_made past)
all_made_sent job [] run = tt
all_made_sent job (e ∷ past) run =
    let before = all_weaker (IsNoteOf past) (IsNoteOf (e ∷ past)) (notes_made past) (note_later e past) (all_made_sent job past run.1) in
    elim (adds_to_notes past e) [
      | inl same ↦ subst (λ (notes : List ReleaseNote). AllByRecursion (IsNoteOf (e ∷ past)) notes) (sym same) before
      | inr new ↦ (
          let now = made_now job past new.task new.made new.told (subst (λ (x : Event). IsReply job past x) new.is run.0) in
          let here_now = subst (λ (x : Event). AllByRecursion (IsNoteOf (x ∷ past)) (notes_of new.told)) (sym new.is) now in
          subst (λ (notes : List ReleaseNote). AllByRecursion (IsNoteOf (e ∷ past)) notes) (sym new.added) (all_with (IsNoteOf (e ∷ past)) (notes_of new.told) (notes_made past) here_now before))
    ]

-- every note that can be delivered was sent by its task
pub made_note_sent : (job : Continued) (past : Past) (note : ReleaseNote) → IsRun job past → Contains (notes_made past) note → IsNoteOf past note
made_note_sent job past note run i = member (IsNoteOf past) (notes_made past) note (all_made_sent job past run) i

-- WHAT WAS FREED WAS SENT

-- what a call frees was sent
abbrev pub FreesSent : Past → TableCall → Type 0
FreesSent past (Free note at) = IsNoteOf past note
FreesSent past _ = Unit {0}

frees_later : (e : Event) (past : Past) (c : TableCall) → FreesSent past c → FreesSent (e ∷ past) c
frees_later e past (Free note at) h = note_later e past note h
frees_later e past _ h = tt

frees_now : (job : Continued) (past : Past) (c : TableCall) → IsRun job past → table_refusal job past c ≡ None → FreesSent past c
frees_now job past (Free note at) run came =
    made_note_sent job past note run (is_member same_note equal_notes note (notes_made past) (known_made (job.forgotten.note past note) (is_made past note) (unless_true (knows_note job.forgotten past note) error.NotSent came)))
frees_now job past _ run came = tt

abbrev FreesOnlySent : Past → AnsweredTableCall → Type 0
FreesOnlySent past a = FreesSent past a.call

all_freed_sent : (job : Continued) (past : Past) → IsRun job past → AllByRecursion (FreesOnlySent past) (table_calls past)
all_freed_sent job [] run = tt
all_freed_sent job (e ∷ past) run =
    let before = all_freed_sent job past run.1 in
    all_weaker (FreesOnlySent past) (FreesOnlySent (e ∷ past)) (table_calls (e ∷ past)) (λ a h. frees_later e past a.call h)
    (elim (adds_to_table past e) [
      | inl same ↦ subst (λ (calls : List AnsweredTableCall). AllByRecursion (FreesOnlySent past) calls) (sym same) before
      | inr new ↦ (
          let t = table_taken job past new.made (reply.Table new.told) (subst (λ (x : Event). IsReply job past x) new.is run.0) refl in
          subst (λ (calls : List AnsweredTableCall). AllByRecursion (FreesOnlySent past) calls) (sym new.added) (frees_now job past new.made run.1 t.came, before))
    ])

-- every note that was freed was sent by its task
pub freed_note_sent : (job : Continued) (past : Past) (note : ReleaseNote) (at : ℕ) (answer : Result TableReply TableError) → IsRun job past
    → Contains (table_calls past) (answered_call (Free note at) answer) → IsNoteOf past note
freed_note_sent job past note at answer run i = member (FreesOnlySent past) (table_calls past) (answered_call (Free note at) answer) (all_freed_sent job past run) i
