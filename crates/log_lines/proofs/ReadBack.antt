-- What is written of a line is read as the line.
use Rattle.std.proofs.Common.{◌≡◌, ℕ, ◌^◌, ◌<◌, ◌≤◌, List, None, refl}
use Rattle.std.proofs.lemmas.Bool.{lt-ltb}
use Rattle.slice_ranges.specs.declared.key.TheConstants.{KEYS}
use Rattle.slice_ranges.specs.Sets.{IsRanges}
use Rattle.assignment.specs.Slices.{Slicing, refusal_of}
use Rattle.assignment.specs.Owners.{with_rising_owners}
use Rattle.assignment.specs.declared.task.TheConstants.{TASKS}
use Rattle.lease_rule.specs.declared.lease.Kind.{Kind}
use Rattle.grants.specs.declared.values.Grant as values
use Rattle.grants.specs.declared.values.ReleaseNote.{ReleaseNote}
use Rattle.grants.specs.declared.table_call.TableCall.TheVariants.{JobTake, JobRenew, Propose, Commit, Grant, Free, Restart}
use Rattle.key_handle.specs.declared.handle.KeyHandle.{KeyHandle}
use Rattle.grants.specs.declared.slicelet_call.SliceletCall.TheVariants.{Start, Hear, Release, Resume}
use Rattle.clerk.specs.declared.call.ClerkCall.TheVariants.{Learn, Forget}
use Rattle.job_calls.specs.declared.call.ClusterCall.TheVariants as call
use Rattle.program_io.specs.Members.{list_at}
use Rattle.wire.specs.Assignments.{slicing_in}
use Rattle.wire.specs.TableCalls.{take_of, renew_of, propose_of, commit_of, grant_call_of, free_of, lose_of}
use Rattle.wire.specs.TaskCalls.{start_of, release_of}
use Rattle.wire.specs.ClerkCalls.{forget_of}
use Rattle.wire.proofs.Notes.{kind_read}
use Rattle.wire.proofs.Numbers.{is_life, is_task}
use Rattle.log_line.specs.declared.line.BareGrant.{BareGrant}
use Rattle.log_line.specs.declared.line.LoggedCall.TheVariants.{Whole, HearBare, LearnBare, Restore, Sample}
use Rattle.log_line.specs.declared.line.TaskSample.{TaskSample}
use Rattle.log_line.specs.declared.restored.KeptNumbers.{KeptNumbers}
use Rattle.log_line.specs.Lines.{line_of, call_in}
use Rattle.log_line.specs.OwnCalls.{phase_line, rows_line, sample_line, restore_line, open_line, hear_line, heard_of, bare_grant_of, serve_line, hold_line, check_line, learn_line, look_line}
use Rattle.log_lines.specs.Lines.{IsReadBack}
use Rattle.log_lines.proofs.Values.{slices_read, grant_read, note_read, handle_read}

-- THE TABLE

pub take_read : (ticket assigner at : ℕ) (words : List ℕ) → IsReadBack ticket (Whole (call.Table (JobTake assigner at))) words
unfolding line_of call_in take_of
take_read ticket assigner at words = refl

pub renew_read : (ticket number at : ℕ) (words : List ℕ) → IsReadBack ticket (Whole (call.Table (JobRenew number at))) words
unfolding line_of call_in renew_of
renew_read ticket number at words = refl

pub propose_read : (ticket number : ℕ) (slicing : Slicing) (at : ℕ) (words : List ℕ) → refusal_of slicing.slices ≡ None → with_rising_owners slicing.slices ≡ slicing.slices
    → IsReadBack ticket (Whole (call.Table (Propose number slicing at))) words
unfolding line_of call_in propose_of slicing_in list_at
propose_read ticket number slicing at words accepted rising = rw (slices_read slicing.slices, accepted, rising) refl

pub commit_read : (ticket number at : ℕ) (words : List ℕ) → IsReadBack ticket (Whole (call.Table (Commit number at))) words
unfolding line_of call_in commit_of
commit_read ticket number at words = refl

pub grant_call_read : (ticket task life at : ℕ) (words : List ℕ) → life < 2 ^ 32 → 1 ≤ task → task ≤ TASKS → IsReadBack ticket (Whole (call.Table (Grant task life at))) words
unfolding line_of call_in grant_call_of
grant_call_read ticket task life at words below low high = rw (is_task task TASKS low high, is_life life below) refl

pub free_read : (ticket : ℕ) (note : ReleaseNote) (at : ℕ) (words : List ℕ) → note.life < 2 ^ 32 → 1 ≤ note.task → note.task ≤ TASKS → IsReadBack ticket (Whole (call.Table (Free note at))) words
unfolding line_of call_in free_of
free_read ticket note at words life low high = rw (note_read note life low high) refl

pub lose_read : (ticket : ℕ) (words : List ℕ) → IsReadBack ticket (Whole (call.Table Restart)) words
unfolding line_of call_in lose_of
lose_read ticket words = refl

-- TASKS

pub start_read : (ticket task life at : ℕ) (words : List ℕ) → life < 2 ^ 32 → IsReadBack ticket (Whole (call.Task task (Start life at))) words
unfolding line_of call_in start_of
start_read ticket task life at words below = rw (is_life life below) refl

pub hear_read : (ticket task : ℕ) (grant : values.Grant) (at : ℕ) (words : List ℕ) → grant.life < 2 ^ 32 → 1 ≤ grant.task → grant.task ≤ TASKS → IsRanges grant.lease.ranges
    → IsReadBack ticket (Whole (call.Task task (Hear grant at))) words
unfolding line_of call_in hear_line heard_of
hear_read ticket task grant at words life low high ranges = rw (grant_read grant life low high ranges) refl

pub release_read : (ticket task : ℕ) (kind : Kind) (at : ℕ) (words : List ℕ) → IsReadBack ticket (Whole (call.Task task (Release kind at))) words
unfolding line_of call_in release_of
release_read ticket task kind at words = rw (kind_read kind) refl

pub open_read : (ticket task life : ℕ) (words : List ℕ) → life < 2 ^ 32 → IsReadBack ticket (Whole (call.Task task (Resume life))) words
unfolding line_of call_in open_line
open_read ticket task life words below = rw (is_life life below) refl

pub bare_read : (ticket task : ℕ) (grant : BareGrant) (at : ℕ) (words : List ℕ) → grant.life < 2 ^ 32 → 1 ≤ grant.task → grant.task ≤ TASKS
    → IsReadBack ticket (HearBare task grant at) words
unfolding line_of call_in hear_line heard_of bare_grant_of
bare_read ticket task grant at words life low high = rw (is_task grant.task TASKS low high, is_life grant.life life, kind_read grant.kind) refl

-- CLERKS

pub learn_read : (ticket clerk : ℕ) (slicing : Slicing) (words : List ℕ) → refusal_of slicing.slices ≡ None → with_rising_owners slicing.slices ≡ slicing.slices
    → IsReadBack ticket (Whole (call.Clerk clerk (Learn slicing))) words
unfolding line_of call_in learn_line slicing_in list_at
learn_read ticket clerk slicing words accepted rising = rw (slices_read slicing.slices, accepted, rising) refl

pub bare_learn_read : (ticket clerk generation : ℕ) (words : List ℕ) → IsReadBack ticket (LearnBare clerk generation) words
unfolding line_of call_in learn_line
bare_learn_read ticket clerk generation words = refl

pub forget_read : (ticket clerk : ℕ) (words : List ℕ) → IsReadBack ticket (Whole (call.Clerk clerk Forget)) words
unfolding line_of call_in forget_of
forget_read ticket clerk words = refl

-- CALLS THAT ASK, AND RESTORED TABLES

pub phase_read : (ticket : ℕ) (words : List ℕ) → IsReadBack ticket (Whole call.Phase) words
unfolding line_of call_in phase_line
phase_read ticket words = refl

pub rows_read : (ticket : ℕ) (words : List ℕ) → IsReadBack ticket (Whole call.Rows) words
unfolding line_of call_in rows_line
rows_read ticket words = refl

pub serve_read : (ticket task key at : ℕ) (words : List ℕ) → key < KEYS → IsReadBack ticket (Whole (call.Serve task key at)) words
unfolding line_of call_in serve_line
serve_read ticket task key at words below = rw (lt-ltb key KEYS below) refl

pub hold_read : (ticket task key at : ℕ) (words : List ℕ) → key < KEYS → IsReadBack ticket (Whole (call.Hold task key at)) words
unfolding line_of call_in hold_line
hold_read ticket task key at words below = rw (lt-ltb key KEYS below) refl

pub check_read : (ticket task : ℕ) (handle : KeyHandle) (at : ℕ) (words : List ℕ) → handle.life < 2 ^ 32 → 1 ≤ handle.task → handle.task ≤ TASKS → handle.key < KEYS
    → IsReadBack ticket (Whole (call.Check task handle at)) words
unfolding line_of call_in check_line
check_read ticket task handle at words life low high key = rw (handle_read handle life low high key) refl

pub look_read : (ticket clerk key : ℕ) (words : List ℕ) → key < KEYS → IsReadBack ticket (Whole (call.Look clerk key)) words
unfolding line_of call_in look_line
look_read ticket clerk key words below = rw (lt-ltb key KEYS below) refl

pub restore_read : (ticket : ℕ) (numbers : KeptNumbers) (words : List ℕ) → IsReadBack ticket (Restore numbers) words
unfolding line_of call_in restore_line
restore_read ticket numbers words = refl

pub sample_read : (ticket : ℕ) (taken : TaskSample) (words : List ℕ) → IsReadBack ticket (Sample taken) words
unfolding line_of call_in sample_line
sample_read ticket taken words = refl
