-- What is read of the lines that were written.
use Rattle.std.proofs.Common.{◌≡◌, ◌∙◌, ℕ, ◌+◌, List, [], ◌∷◌, ◌++◌, Some, refl, ap, subst, append_assoc, append-nil}
use Rattle.std.specs.List.{flat_map, AllByRecursion}
use Rattle.job_calls.specs.declared.snapshot.ClusterSnapshot.{ClusterSnapshot}
use Rattle.job_calls.specs.declared.snapshot.TaskSnapshot.{TaskSnapshot}
use Rattle.wire.specs.declared.numerals.Numerals.TheVariants.{Quoted}
use Rattle.snapshot_text.specs.Heads.{head_in, task_head_in}
use Rattle.snapshot_text.specs.Lines.{Place, place, first_line, Form, message, line_of, lines_of, IsReadBack, AreReadBack, IsNext, Each}
use Rattle.snapshot_text.specs.Texts.{head_line, kept_line, row_line, task_line, call_line, clerk_line, grant_line, assignment_line, note_line, handle_line, task_text, snapshot_text, IsTaskReadBack, AreTasksReadBack, NextTask, IsText}
use Rattle.snapshot_text.proofs.Endings.{first_of_message}

-- wherever these bytes stand, they say this, up to what comes after them
abbrev pub Stands : {A : Type 0} → (Place → A → Place → Type 0) → List ℕ → A → Type 0
Stands Says bytes x = (number : ℕ) (rest : List ℕ) → (after : ℕ) × Says (place number (bytes ++ rest)) x (place after rest)

next_line : {A : Type 0} (job : List ℕ) (form : Form A) (x : A) → IsReadBack job form x → Stands (IsNext job form) (line_of job form x) x
next_line job form x reads number rest =
    let cut : first_line (line_of job form x ++ rest) ≡ Some (message job form x, rest) =
    ap first_line (append_assoc (message job form x) (10 ∷ []) rest) ∙ first_of_message job form.name (form.data_of Quoted x) rest in
    (number + 1, record { line = message job form x; here = rw cut refl; says = reads })

-- one part after another
each : {A : Type 0} (Says : Place → A → Place → Type 0) (write : A → List ℕ) (Good : A → Type 0) → ((x : A) → Good x → Stands Says (write x) x)
    → (xs : List A) → AllByRecursion Good xs → Stands (Each Says) (flat_map write xs) xs
each Says write Good one [] good number rest = (number, refl)
each Says write Good one (x ∷ xs) good number rest =
    let first = one x good.0 number (flat_map write xs ++ rest) in
    let later = each Says write Good one xs good.1 first.0 rest in
    (later.0, rw (append_assoc (write x) (flat_map write xs) rest) (place first.0 (flat_map write xs ++ rest), first.1, later.1))

next_lines : {A : Type 0} (job : List ℕ) (form : Form A) (xs : List A) → AreReadBack job form xs → Stands (Each (IsNext job form)) (lines_of job form xs) xs
next_lines job form = each (IsNext job form) (line_of job form) (IsReadBack job form) (next_line job form)

-- the last lines of a text
last_lines : {A : Type 0} (job : List ℕ) (form : Form A) (xs : List A) → AreReadBack job form xs → (number : ℕ) → (after : ℕ) × Each (IsNext job form) (place number (lines_of job form xs)) xs (place after [])
last_lines job form xs reads number =
    let all = next_lines job form xs reads number [] in
    (all.0, subst (λ bytes. Each (IsNext job form) (place number bytes) xs (place all.0 [])) (append-nil (lines_of job form xs)) all.1)

next_task : (job : List ℕ) (task : TaskSnapshot) → IsTaskReadBack job task → Stands (NextTask job) (task_text job task) task
next_task job task reads number rest =
    let calls = lines_of job call_line task.calls in
    let head = next_line job task_line (task_head_in task) reads.head number (calls ++ rest) in
    let later = next_lines job call_line task.calls reads.calls head.0 rest in
    (later.0, rw (append_assoc (line_of job task_line (task_head_in task)) calls rest) (record { calls_at = place head.0 (calls ++ rest); head = head.1; calls = later.1 }))

next_tasks : (job : List ℕ) (tasks : List TaskSnapshot) → AreTasksReadBack job tasks → Stands (Each (NextTask job)) (flat_map (task_text job) tasks) tasks
next_tasks job = each (NextTask job) (task_text job) (IsTaskReadBack job) (next_task job)

regroup : (a b c d e f g h i : List ℕ) → a ++ (b ++ (c ++ (d ++ (e ++ (f ++ (g ++ (h ++ i))))))) ≡ a ++ b ++ c ++ d ++ e ++ f ++ g ++ h ++ i
regroup a b c d e f g h i = simp append_assoc

-- each part of a snapshot is read back
pub record AllReadBack (job : List ℕ) (s : ClusterSnapshot) : Type 0 where
  pub head : IsReadBack job head_line (head_in s)
  pub kept : IsReadBack job kept_line s.table.kept
  pub rows : AreReadBack job row_line s.table.rows.items
  pub tasks : AreTasksReadBack job s.tasks.items
  pub clerks : AreReadBack job clerk_line s.clerks.items
  pub grants : AreReadBack job grant_line s.grants.items
  pub assignments : AreReadBack job assignment_line s.assignments.items
  pub notes : AreReadBack job note_line s.notes.items
  pub handles : AreReadBack job handle_line s.handles.items

-- the text of such a snapshot is read as it
pub text_says : (job : List ℕ) (s : ClusterSnapshot) → AllReadBack job s → IsText job (snapshot_text job s) s
text_says job s reads =
    let from_handles : List ℕ = lines_of job handle_line s.handles.items in
    let from_notes : List ℕ = lines_of job note_line s.notes.items ++ from_handles in
    let from_assignments : List ℕ = lines_of job assignment_line s.assignments.items ++ from_notes in
    let from_grants : List ℕ = lines_of job grant_line s.grants.items ++ from_assignments in
    let from_clerks : List ℕ = lines_of job clerk_line s.clerks.items ++ from_grants in
    let from_tasks : List ℕ = flat_map (task_text job) s.tasks.items ++ from_clerks in
    let from_rows : List ℕ = lines_of job row_line s.table.rows.items ++ from_tasks in
    let from_kept : List ℕ = line_of job kept_line s.table.kept ++ from_rows in
    let head = next_line job head_line (head_in s) reads.head 0 from_kept in
    let whole = regroup (line_of job head_line (head_in s)) (line_of job kept_line s.table.kept) (lines_of job row_line s.table.rows.items) (flat_map (task_text job) s.tasks.items)
    (lines_of job clerk_line s.clerks.items) (lines_of job grant_line s.grants.items) (lines_of job assignment_line s.assignments.items) (lines_of job note_line s.notes.items) from_handles in
    let kept = next_line job kept_line s.table.kept reads.kept head.0 from_rows in
    let rows = next_lines job row_line s.table.rows.items reads.rows kept.0 from_tasks in
    let tasks = next_tasks job s.tasks.items reads.tasks rows.0 from_clerks in
    let clerks = next_lines job clerk_line s.clerks.items reads.clerks tasks.0 from_grants in
    let grants = next_lines job grant_line s.grants.items reads.grants clerks.0 from_assignments in
    let assignments = next_lines job assignment_line s.assignments.items reads.assignments grants.0 from_notes in
    let notes = next_lines job note_line s.notes.items reads.notes assignments.0 from_handles in
    let handles = last_lines job handle_line s.handles.items reads.handles notes.0 in
    record {
      kept_at = place head.0 from_kept;
      rows_at = place kept.0 from_rows;
      tasks_at = place rows.0 from_tasks;
      clerks_at = place tasks.0 from_clerks;
      grants_at = place clerks.0 from_grants;
      assignments_at = place grants.0 from_assignments;
      notes_at = place assignments.0 from_notes;
      handles_at = place notes.0 from_handles;
      end = place handles.0 [];
      head = subst (λ bytes. IsNext job head_line (place 0 bytes) (head_in s) (place head.0 from_kept)) whole head.1;
      kept = kept.1;
      rows = rows.1;
      tasks = tasks.1;
      clerks = clerks.1;
      grants = grants.1;
      assignments = assignments.1;
      notes = notes.1;
      handles = handles.1;
      nothing = refl;
    }
