-- A text is that of one snapshot at the most, and then no part of it is missing.
use Rattle.std.proofs.Common.{◌≡◌, ◌∙◌, ℕ, ◌<◌, false, List, [], ◌∷◌, length, Some, Result, Ok, Err, IfOk, inl, inr, refl, sym, ap, ap₂, subst, arith}
use Rattle.std.specs.Prelude.{IfErr}
use Rattle.grants.specs.declared.slicelet_call.SliceletCall.{SliceletCall}
use Rattle.job_calls.specs.declared.snapshot.ClusterSnapshot.{ClusterSnapshot}
use Rattle.job_calls.specs.declared.snapshot.TaskSnapshot.{TaskSnapshot}
use Rattle.wire.proofs.Decoding.{is_no_other, one_message}
use Rattle.snapshot_text.specs.declared.error.SnapshotError.{SnapshotError}
use Rattle.snapshot_text.specs.declared.error.SnapshotError.TheVariants.{Line, Short, Long, Memory}
use Rattle.snapshot_text.specs.Heads.{head_in, task_head_in}
use Rattle.snapshot_text.specs.Lines.{Place, place, is_empty, Form, IsNext, AreNext, Each, Many, IsNot, AreNot, Fewer, Then}
use Rattle.snapshot_text.specs.Texts.{head_line, kept_line, row_line, task_line, call_line, clerk_line, grant_line, assignment_line, note_line, handle_line, NextTask, AreTasks, IsText, AreAlike, IsReadAs, IsUnread, NoTask, AreNoTasks, IsLong, Due, FromKept, FromRows, FromTasks, FromClerks, FromGrants, FromAssignments, FromNotes, FromHandles, IsTextFault}

-- ONE READING

some_is : {A : Type 0} (x y : A) → Some x ≡ Some y → x ≡ y
some_is x y e = cc

-- what stands at a place is one value, up to one place
abbrev pub IsSingle : {A : Type 0} → (Place → A → Place → Type 0) → Type 0
IsSingle {A} Says = (at : Place) (x y : A) (after other : Place) → Says at x after → Says at y other → (x ≡ y) × (after ≡ other)

next_single : {A : Type 0} (job : List ℕ) (form : Form A) → IsSingle (IsNext job form)
next_single job form at x y after other first second =
    let same = some_is (first.line, after) (second.line, other) (sym first.here ∙ second.here) in
    let line : first.line ≡ second.line = ap (λ p. p.0) same in
    (one_message job form.name form.read first.line x y first.says (rw line second.says), ap (λ p. p.1) same)

each_single : {A : Type 0} (Says : Place → A → Place → Type 0) → IsSingle Says → (xs ys : List A) (at after other : Place) → length xs ≡ length ys
    → Each Says at xs after → Each Says at ys other → (xs ≡ ys) × (after ≡ other)
each_single Says one [] [] at after other long first second = (refl, first ∙ sym second)
each_single Says one [] (y ∷ ys) at after other long first second = absurd (omega arith)
each_single Says one (x ∷ xs) [] at after other long first second = absurd (omega arith)
each_single Says one (x ∷ xs) (y ∷ ys) at after other long first second =
    let here = one at x y first.0 second.0 first.1 second.1 in
    let moved : Each Says first.0 ys other = rw here.1 second.2 in
    let later = each_single Says one xs ys first.0 after other (omega arith) first.2 moved in
    (cc, later.1)

many_single : {A : Type 0} (Says : Place → A → Place → Type 0) (count : ℕ) → IsSingle Says → IsSingle (Many Says count)
many_single Says count one at xs ys after other first second = each_single Says one xs ys at after other (first.0 ∙ sym second.0) first.1 second.1

same_task : (x y : TaskSnapshot) → x.life ≡ y.life → x.calls ≡ y.calls → x ≡ y
same_task x y life calls = ap₂ (λ (l : ℕ) (cs : List SliceletCall). let task : TaskSnapshot = record { life = l; calls = cs } in task) life calls

task_single : (job : List ℕ) → IsSingle (NextTask job)
task_single job at x y after other first second =
    let head = next_single job task_line at (task_head_in x) (task_head_in y) first.calls_at second.calls_at first.head second.head in
    let moved : Each (IsNext job call_line) first.calls_at y.calls other = rw head.1 second.calls in
    let calls = each_single (IsNext job call_line) (next_single job call_line) x.calls y.calls first.calls_at after other (ap (λ h. h.calls) head.0) first.calls moved in
    (same_task x y (ap (λ h. h.life) head.0) calls.0, calls.1)

-- NO PART IS MISSING

-- where a value stands nothing is missing, unless it is not read
abbrev pub IsHere : {A : Type 0} → (Place → A → Place → Type 0) → (Place → SnapshotError → Type 0) → Type 0
IsHere {A} Says Fails = (at : Place) (x : A) (after : Place) (e : SnapshotError) → Says at x after → Fails at e → IsUnread e

next_here : {A : Type 0} (job : List ℕ) (form : Form A) → IsHere (IsNext job form) (IsNot job form)
next_here job form at x after (Line number why) is (_, bad) =
    let same = some_is (is.line, after) (bad.line, bad.after) (sym is.here ∙ bad.here) in
    let line : is.line ≡ bad.line = ap (λ p. p.0) same in
    elim bad.refused [
      | inl long ↦ long.0
      | inr not ↦ absurd (is_no_other job form.name form.read is.line x why is.says (rw line not.1))
    ]
next_here job form at x after Short is none = let here = is.here in absurd (cc)
next_here job form at x after Long is not = not
next_here job form at x after Memory is not = tt

fewer_here : {A : Type 0} (Says : Place → A → Place → Type 0) (Fails : Place → SnapshotError → Type 0) → IsSingle Says → IsHere Says Fails
    → (xs ys : List A) (at after other : Place) (e : SnapshotError) → length xs < length ys → Each Says at xs after → Each Says at ys other → Fails after e → IsUnread e
fewer_here Says Fails one here [] [] at after other e fewer first all fails = absurd (omega arith)
fewer_here Says Fails one here (x ∷ xs) [] at after other e fewer first all fails = absurd (omega arith)
fewer_here Says Fails one here [] (y ∷ ys) at after other e fewer first all fails = here at y all.0 e all.1 (rw (sym first) fails)
fewer_here Says Fails one here (x ∷ xs) (y ∷ ys) at after other e fewer first all fails =
    let same = one at x y first.0 all.0 first.1 all.1 in
    let moved : Each Says first.0 ys other = rw same.1 all.2 in
    fewer_here Says Fails one here xs ys first.0 after other e (omega arith) first.2 moved fails

many_here : {A : Type 0} (Says : Place → A → Place → Type 0) (Fails : Place → SnapshotError → Type 0) (count : ℕ) → IsSingle Says → IsHere Says Fails → IsHere (Many Says count) (Fewer Says Fails count)
many_here Says Fails count one here at xs after e many fails =
    fewer_here Says Fails one here fails.first xs at fails.after after e (rw many.0 fails.fewer) fails.says many.1 fails.fails

-- where the first part stands, what is missing is in the rest
then_here : {A : Type 0} (Says : Place → A → Place → Type 0) (Fails : Place → SnapshotError → Type 0) (Rest : A → Place → SnapshotError → Type 0) → IsSingle Says → IsHere Says Fails
    → (at : Place) (x : A) (after : Place) (e : SnapshotError) → Says at x after → (Rest x after e → IsUnread e) → Then Says Fails Rest at e → IsUnread e
then_here Says Fails Rest one here at x after e says rest (inl fails) = here at x after e says fails
then_here Says Fails Rest one here at x after e says rest (inr (y, other, there, later)) =
    let same = one at x y after other says there in
    rest (subst (λ p. Rest x p e) (sym same.1) (subst (λ z. Rest z other e) (sym same.0) later))

task_here : (job : List ℕ) → IsHere (NextTask job) (NoTask job)
task_here job at task after e is =
    then_here (IsNext job task_line) (IsNot job task_line) (λ head. AreNot job call_line head.calls) (next_single job task_line) (next_here job task_line)
    at (task_head_in task) is.calls_at e is.head
    (λ fewer. many_here (IsNext job call_line) (IsNot job call_line) (length task.calls) (next_single job call_line) (next_here job call_line) is.calls_at task.calls after e (refl, is.calls) fewer)

-- so many values of one form
lines_here : {A : Type 0} (job : List ℕ) (form : Form A) (Rest : Place → SnapshotError → Type 0) (at : Place) (xs : List A) (after : Place) (e : SnapshotError)
    → Each (IsNext job form) at xs after → (Rest after e → IsUnread e) → Due job form (length xs) Rest at e → IsUnread e
lines_here job form Rest at xs after e says =
    then_here (AreNext job form (length xs)) (AreNot job form (length xs)) (λ _. Rest) (many_single (IsNext job form) (length xs) (next_single job form))
    (many_here (IsNext job form) (IsNot job form) (length xs) (next_single job form) (next_here job form)) at xs after e (refl, says)

line_here : {A : Type 0} (job : List ℕ) (form : Form A) (Rest : A → Place → SnapshotError → Type 0) (at : Place) (x : A) (after : Place) (e : SnapshotError)
    → IsNext job form at x after → (Rest x after e → IsUnread e) → Then (IsNext job form) (IsNot job form) Rest at e → IsUnread e
line_here job form Rest = then_here (IsNext job form) (IsNot job form) Rest (next_single job form) (next_here job form)

tasks_here : (job : List ℕ) (Rest : Place → SnapshotError → Type 0) (at : Place) (xs : List TaskSnapshot) (after : Place) (e : SnapshotError)
    → Each (NextTask job) at xs after → (Rest after e → IsUnread e) → Then (AreTasks job (length xs)) (AreNoTasks job (length xs)) (λ _. Rest) at e → IsUnread e
tasks_here job Rest at xs after e says =
    then_here (AreTasks job (length xs)) (AreNoTasks job (length xs)) (λ _. Rest) (many_single (NextTask job) (length xs) (task_single job))
    (many_here (NextTask job) (NoTask job) (length xs) (task_single job) (task_here job)) at xs after e (refl, says)

not_long : (end : Place) (e : SnapshotError) → end.rest ≡ [] → IsLong end e → IsUnread e
not_long end e nothing long =
    let some : is_empty [] ≡ false = rw nothing at long.1 in
    absurd (cc)

-- the text of a snapshot has no fault
no_fault : (job text : List ℕ) (s : ClusterSnapshot) (e : SnapshotError) → IsText job text s → IsTextFault job text e → IsUnread e
no_fault job text s e is =
    let head = head_in s in
    line_here job head_line (FromKept job) (place 0 text) head is.kept_at e is.head
    (line_here job kept_line (λ _. FromRows job head) is.kept_at s.table.kept is.rows_at e is.kept
    (lines_here job row_line (FromTasks job head) is.rows_at s.table.rows.items is.tasks_at e is.rows
    (tasks_here job (FromClerks job head) is.tasks_at s.tasks.items is.clerks_at e is.tasks
    (lines_here job clerk_line (FromGrants job head) is.clerks_at s.clerks.items is.grants_at e is.clerks
    (lines_here job grant_line (FromAssignments job head) is.grants_at s.grants.items is.assignments_at e is.grants
    (lines_here job assignment_line (FromNotes job head) is.assignments_at s.assignments.items is.notes_at e is.assignments
    (lines_here job note_line (FromHandles job head) is.notes_at s.notes.items is.handles_at e is.notes
    (lines_here job handle_line IsLong is.handles_at s.handles.items is.end e is.handles
    (not_long is.end e is.nothing)))))))))

-- ONE SNAPSHOT

same_lines : {A : Type 0} (job : List ℕ) (form : Form A) (xs ys : List A) (at there after other : Place) → at ≡ there → length xs ≡ length ys
    → Each (IsNext job form) at xs after → Each (IsNext job form) there ys other → (xs ≡ ys) × (after ≡ other)
same_lines job form xs ys at there after other same long first second =
    each_single (IsNext job form) (next_single job form) xs ys at after other long first (rw same second)

-- a text is that of one snapshot
one_snapshot : (job text : List ℕ) (s t : ClusterSnapshot) → IsText job text s → IsText job text t → AreAlike s t
one_snapshot job text s t p q =
    let head = next_single job head_line (place 0 text) (head_in s) (head_in t) p.kept_at q.kept_at p.head q.head in
    let kept = next_single job kept_line p.kept_at s.table.kept t.table.kept p.rows_at q.rows_at p.kept (rw head.1 q.kept) in
    let rows = same_lines job row_line s.table.rows.items t.table.rows.items p.rows_at q.rows_at p.tasks_at q.tasks_at kept.1 (ap (λ h. h.rows) head.0) p.rows q.rows in
    let tasks = each_single (NextTask job) (task_single job) s.tasks.items t.tasks.items p.tasks_at p.clerks_at q.clerks_at (ap (λ h. h.tasks) head.0) p.tasks (rw rows.1 q.tasks) in
    let clerks = same_lines job clerk_line s.clerks.items t.clerks.items p.clerks_at q.clerks_at p.grants_at q.grants_at tasks.1 (ap (λ h. h.clerks) head.0) p.clerks q.clerks in
    let grants = same_lines job grant_line s.grants.items t.grants.items p.grants_at q.grants_at p.assignments_at q.assignments_at clerks.1 (ap (λ h. h.grants) head.0) p.grants q.grants in
    let assignments = same_lines job assignment_line s.assignments.items t.assignments.items p.assignments_at q.assignments_at p.notes_at q.notes_at grants.1 (ap (λ h. h.assignments) head.0) p.assignments q.assignments in
    let notes = same_lines job note_line s.notes.items t.notes.items p.notes_at q.notes_at p.handles_at q.handles_at assignments.1 (ap (λ h. h.notes) head.0) p.notes q.notes in
    let handles = same_lines job handle_line s.handles.items t.handles.items p.handles_at q.handles_at p.end q.end notes.1 (ap (λ h. h.handles) head.0) p.handles q.handles in
    record {
      head = head.0;
      kept = kept.0;
      rows = rows.0;
      tasks = tasks.0;
      clerks = clerks.0;
      grants = grants.0;
      assignments = assignments.0;
      notes = notes.0;
      handles = handles.0;
    }

-- the text of a snapshot is read as it
pub read_as : (job text : List ℕ) (s : ClusterSnapshot) (r : Result ClusterSnapshot SnapshotError) → IsText job text s → IfOk r (IsText job text) → IfErr r (IsTextFault job text) → IsReadAs s r
read_as job text s (Ok t) is ok err = one_snapshot job text t s ok is
read_as job text s (Err e) is ok err = no_fault job text s e is err
