-- A line that is written has no fractions, few levels and no member twice, and is read as the line.
use Rattle.std.proofs.Common.{◌≡◌, ℕ, ◌≤◌, false, List, None, Result, Ok, Err, IfOk, refl, arith}
use Rattle.std.specs.Prelude.{IsUtf8, Some}
use Rattle.serde_json.specs.Data.{Data, depth}
use Rattle.serde_json.specs.Read.{max_depth, read}
use Rattle.serde_json.specs.Written.{IsInOrder, compact_text, has_float, outline}
use Rattle.grants.specs.declared.table_call.TableCall.{TableCall}
use Rattle.grants.specs.declared.table_call.TableCall.TheVariants.{JobTake, JobRenew, Propose, Commit, Grant, Free, Restart}
use Rattle.grants.specs.declared.slicelet_call.SliceletCall.{SliceletCall}
use Rattle.grants.specs.declared.slicelet_call.SliceletCall.TheVariants.{Start, Hear, Release, Resume}
use Rattle.clerk.specs.declared.call.ClerkCall.{ClerkCall}
use Rattle.clerk.specs.declared.call.ClerkCall.TheVariants.{Learn, Forget}
use Rattle.job_calls.specs.declared.call.ClusterCall.{ClusterCall}
use Rattle.job_calls.specs.declared.call.ClusterCall.TheVariants as call
use Rattle.program_io.specs.Repeated.{first_repeated}
use Rattle.program_io.proofs.Once.{written_once}
use Rattle.log_line.specs.declared.line.LoggedCall.{LoggedCall}
use Rattle.log_line.specs.declared.line.LoggedCall.TheVariants.{Whole, HearBare, LearnBare, Restore, Sample}
use Rattle.log_line.specs.Lines.{SaysLine}
use Rattle.log_lines.specs.LineData.{clerk_data, line_data, machine_data, table_data, task_data}
use Rattle.log_lines.specs.Lines.{IsReadBack, logged_line}
use Rattle.log_lines.specs.PlainLines.{IsCompactJson}
use Rattle.log_lines.proofs.Values.{grant_once, grant_shallow, grant_whole, slices_once, slices_shallow, slices_whole}

table_whole : (ticket : ℕ) (made : TableCall) (words : List ℕ) → has_float (table_data ticket made words) ≡ false
table_whole ticket (JobTake assigner at) words = refl
table_whole ticket (JobRenew number at) words = refl
table_whole ticket (Propose number slicing at) words = rw (slices_whole slicing.slices) refl
table_whole ticket (Commit number at) words = refl
table_whole ticket (Grant task life at) words = refl
table_whole ticket (Free note at) words = refl
table_whole ticket Restart words = refl

task_whole : (ticket task : ℕ) (made : SliceletCall) (words : List ℕ) → has_float (task_data ticket task made words) ≡ false
task_whole ticket task (Start life at) words = refl
task_whole ticket task (Hear grant at) words = rw (grant_whole grant) refl
task_whole ticket task (Release kind at) words = refl
task_whole ticket task (Resume life) words = refl

clerk_whole : (ticket clerk : ℕ) (made : ClerkCall) (words : List ℕ) → has_float (clerk_data ticket clerk made words) ≡ false
clerk_whole ticket clerk (Learn slicing) words = rw (slices_whole slicing.slices) refl
clerk_whole ticket clerk Forget words = refl

machine_whole : (ticket : ℕ) (made : ClusterCall) (words : List ℕ) → has_float (machine_data ticket made words) ≡ false
machine_whole ticket (call.Table made) words = table_whole ticket made words
machine_whole ticket (call.Task task made) words = task_whole ticket task made words
machine_whole ticket (call.Clerk clerk made) words = clerk_whole ticket clerk made words
machine_whole ticket call.Phase words = refl
machine_whole ticket call.Rows words = refl
machine_whole ticket (call.Serve task key at) words = refl
machine_whole ticket (call.Hold task key at) words = refl
machine_whole ticket (call.Check task handle at) words = refl
machine_whole ticket (call.Look clerk key) words = refl

pub line_whole : (ticket : ℕ) (made : LoggedCall) (words : List ℕ) → has_float (line_data ticket made words) ≡ false
line_whole ticket (Whole made) words = machine_whole ticket made words
line_whole ticket (HearBare task grant at) words = refl
line_whole ticket (LearnBare clerk generation) words = refl
line_whole ticket (Restore numbers) words = refl
line_whole ticket (Sample taken) words = refl

table_shallow : (ticket : ℕ) (made : TableCall) (words : List ℕ) → depth (table_data ticket made words) ≤ 4
table_shallow ticket (JobTake assigner at) words = omega arith
table_shallow ticket (JobRenew number at) words = omega arith
table_shallow ticket (Propose number slicing at) words = omega (arith, slices_shallow slicing.slices)
table_shallow ticket (Commit number at) words = omega arith
table_shallow ticket (Grant task life at) words = omega arith
table_shallow ticket (Free note at) words = omega arith
table_shallow ticket Restart words = omega arith

task_shallow : (ticket task : ℕ) (made : SliceletCall) (words : List ℕ) → depth (task_data ticket task made words) ≤ 4
task_shallow ticket task (Start life at) words = omega arith
task_shallow ticket task (Hear grant at) words = omega (arith, grant_shallow grant)
task_shallow ticket task (Release kind at) words = omega arith
task_shallow ticket task (Resume life) words = omega arith

clerk_shallow : (ticket clerk : ℕ) (made : ClerkCall) (words : List ℕ) → depth (clerk_data ticket clerk made words) ≤ 4
clerk_shallow ticket clerk (Learn slicing) words = omega (arith, slices_shallow slicing.slices)
clerk_shallow ticket clerk Forget words = omega arith

machine_shallow : (ticket : ℕ) (made : ClusterCall) (words : List ℕ) → depth (machine_data ticket made words) ≤ 4
machine_shallow ticket (call.Table made) words = table_shallow ticket made words
machine_shallow ticket (call.Task task made) words = task_shallow ticket task made words
machine_shallow ticket (call.Clerk clerk made) words = clerk_shallow ticket clerk made words
machine_shallow ticket call.Phase words = omega arith
machine_shallow ticket call.Rows words = omega arith
machine_shallow ticket (call.Serve task key at) words = omega arith
machine_shallow ticket (call.Hold task key at) words = omega arith
machine_shallow ticket (call.Check task handle at) words = omega arith
machine_shallow ticket (call.Look clerk key) words = omega arith

line_shallow : (ticket : ℕ) (made : LoggedCall) (words : List ℕ) → depth (line_data ticket made words) ≤ 4
line_shallow ticket (Whole made) words = machine_shallow ticket made words
line_shallow ticket (HearBare task grant at) words = omega arith
line_shallow ticket (LearnBare clerk generation) words = omega arith
line_shallow ticket (Restore numbers) words = omega arith
line_shallow ticket (Sample taken) words = omega arith

table_once : (ticket : ℕ) (made : TableCall) (words : List ℕ) → first_repeated (outline (table_data ticket made words)) ≡ None
table_once ticket (JobTake assigner at) words = refl
table_once ticket (JobRenew number at) words = refl
table_once ticket (Propose number slicing at) words = rw (slices_once slicing.slices) refl
table_once ticket (Commit number at) words = refl
table_once ticket (Grant task life at) words = refl
table_once ticket (Free note at) words = refl
table_once ticket Restart words = refl

task_once : (ticket task : ℕ) (made : SliceletCall) (words : List ℕ) → first_repeated (outline (task_data ticket task made words)) ≡ None
task_once ticket task (Start life at) words = refl
task_once ticket task (Hear grant at) words = rw (grant_once grant) refl
task_once ticket task (Release kind at) words = refl
task_once ticket task (Resume life) words = refl

clerk_once : (ticket clerk : ℕ) (made : ClerkCall) (words : List ℕ) → first_repeated (outline (clerk_data ticket clerk made words)) ≡ None
clerk_once ticket clerk (Learn slicing) words = rw (slices_once slicing.slices) refl
clerk_once ticket clerk Forget words = refl

machine_once : (ticket : ℕ) (made : ClusterCall) (words : List ℕ) → first_repeated (outline (machine_data ticket made words)) ≡ None
machine_once ticket (call.Table made) words = table_once ticket made words
machine_once ticket (call.Task task made) words = task_once ticket task made words
machine_once ticket (call.Clerk clerk made) words = clerk_once ticket clerk made words
machine_once ticket call.Phase words = refl
machine_once ticket call.Rows words = refl
machine_once ticket (call.Serve task key at) words = refl
machine_once ticket (call.Hold task key at) words = refl
machine_once ticket (call.Check task handle at) words = refl
machine_once ticket (call.Look clerk key) words = refl

line_once : (ticket : ℕ) (made : LoggedCall) (words : List ℕ) → first_repeated (outline (line_data ticket made words)) ≡ None
line_once ticket (Whole made) words = machine_once ticket made words
line_once ticket (HearBare task grant at) words = refl
line_once ticket (LearnBare clerk generation) words = refl
line_once ticket (Restore numbers) words = refl
line_once ticket (Sample taken) words = refl

-- bytes that are written of a line say the line
says_line : (ticket : ℕ) (made : LoggedCall) (words bytes : List ℕ) → IsReadBack ticket made words → IsCompactJson bytes (line_data ticket made words)
    → SaysLine bytes (logged_line ticket made words)
says_line ticket made words bytes back json = record {
  value = line_data ticket made words;
  json = record { json = record { utf8 = json.utf8; reads = json.reads }; once = written_once bytes (line_data ticket made words) json.order (line_once ticket made words) };
  says = back;
}

pub says_if_written : {X E : Type 0} (r : Result X E) (items : X → List ℕ) (ticket : ℕ) (made : LoggedCall) (words : List ℕ) → IsReadBack ticket made words
    → IfOk r (λ x. IsCompactJson (items x) (line_data ticket made words)) → IfOk r (λ x. SaysLine (items x) (logged_line ticket made words))
says_if_written (Ok x) items ticket made words back json = says_line ticket made words (items x) back json
says_if_written (Err e) items ticket made words back json = tt

-- what was written of its value is its JSON
pub of_value : {X E : Type 0} (r : Result X E) (items : X → List ℕ) (ticket : ℕ) (made : LoggedCall) (words : List ℕ) (d : Data) → d ≡ line_data ticket made words
    → IfOk r (λ x. has_float d ≡ false → items x ≡ compact_text d) → IfOk r (λ x. IsUtf8 (items x)) → IfOk r (λ x. IsInOrder (items x) d)
    → IfOk r (λ x. depth d ≤ max_depth → read (items x) ≡ Some d) → IfOk r (λ x. IsCompactJson (items x) (line_data ticket made words))
of_value (Ok x) items ticket made words d is text utf8 order reads =
    let shallow : depth d ≤ max_depth = rw is (omega (arith, line_shallow ticket made words)) in
    rw (← is) (record { text = text (rw is (line_whole ticket made words)); utf8 = utf8; reads = reads shallow; order = order })
of_value (Err e) items ticket made words d is text utf8 order reads = tt
