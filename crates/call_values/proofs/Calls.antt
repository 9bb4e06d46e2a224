-- No value has a fraction, so that its text is the compact one.
use Rattle.std.proofs.Common.{◌≡◌, ℕ, List, Option, Some, None, false, refl}
use Rattle.serde_json.specs.Written.{has_float}
use Rattle.grants.specs.declared.table_call.TableCall.{TableCall}
use Rattle.grants.specs.declared.table_call.TableCall.TheVariants.{JobTake, JobRenew, Propose, Commit, Grant, Free, Restart}
use Rattle.grants.specs.declared.slicelet_call.SliceletCall.{SliceletCall}
use Rattle.grants.specs.declared.slicelet_call.SliceletCall.TheVariants.{Start, Hear, Release, Resume}
use Rattle.clerk.specs.declared.call.ClerkCall.{ClerkCall}
use Rattle.clerk.specs.declared.call.ClerkCall.TheVariants.{Learn, Forget}
use Rattle.job_calls.specs.declared.call.ClusterCall.{ClusterCall}
use Rattle.job_calls.specs.declared.call.ClusterCall.TheVariants as call
use Rattle.wire.proofs.Assignments.{slices_whole}
use Rattle.wire.proofs.Grants.{grant_whole}
use Rattle.log_line.specs.declared.line.LoggedCall.{LoggedCall}
use Rattle.log_line.specs.declared.line.LoggedCall.TheVariants.{Whole, HearBare, LearnBare, Restore, Sample}
use Rattle.call_values.specs.Calls.{call_data, machine_data, table_call_data, task_call_data, clerk_call_data}

table_call_whole : (made : TableCall) → has_float (table_call_data made) ≡ false
table_call_whole (JobTake assigner at) = refl
table_call_whole (JobRenew number at) = refl
table_call_whole (Propose number slicing at) = rw (slices_whole slicing.slices) refl
table_call_whole (Commit number at) = refl
table_call_whole (Grant task life at) = refl
table_call_whole (Free note at) = refl
table_call_whole Restart = refl

task_call_whole : (task : ℕ) (made : SliceletCall) → has_float (task_call_data task made) ≡ false
task_call_whole task (Start life at) = refl
task_call_whole task (Hear grant at) = rw (grant_whole grant) refl
task_call_whole task (Release kind at) = refl
task_call_whole task (Resume life) = refl

clerk_call_whole : (clerk : ℕ) (made : ClerkCall) → has_float (clerk_call_data clerk made) ≡ false
clerk_call_whole clerk (Learn slicing) = rw (slices_whole slicing.slices) refl
clerk_call_whole clerk Forget = refl

machine_whole : (made : ClusterCall) → has_float (machine_data made) ≡ false
machine_whole (call.Table made) = table_call_whole made
machine_whole (call.Task task made) = task_call_whole task made
machine_whole (call.Clerk clerk made) = clerk_call_whole clerk made
machine_whole call.Phase = refl
machine_whole call.Rows = refl
machine_whole (call.Serve task key at) = refl
machine_whole (call.Hold task key at) = refl
machine_whole (call.Check task handle at) = refl
machine_whole (call.Look clerk key) = refl

pub call_whole : (made : LoggedCall) → has_float (call_data made) ≡ false
call_whole (Whole made) = machine_whole made
call_whole (HearBare task grant at) = refl
call_whole (LearnBare clerk generation) = refl
call_whole (Restore kept) = refl
call_whole (Sample taken) = refl
