-- No value of a step has a fraction, so that its text is the compact one.
use Rattle.std.proofs.Common.{◌≡◌, ℕ, List, Option, Some, None, codes, false, refl}
use Rattle.std.specs.Prelude.{Result, Ok, Err, IfOk}
use Rattle.std.specs.declared.alloc.AllocError.{AllocError}
use Rattle.serde_json.specs.declared.value.Value.{Value}
use Rattle.serde_json.specs.Data.{Data}
use Rattle.serde_json.specs.View.{view}
use Rattle.serde_json.specs.Written.{has_float}
use Rattle.grants.specs.declared.slicelet_call.SliceletCall.TheVariants as task_call
use Rattle.clerk.specs.declared.call.ClerkCall.TheVariants as clerk_call
use Rattle.job_calls.specs.declared.call.ClusterCall.TheVariants as call
use Rattle.wire.proofs.Assignments.{slices_whole}
use Rattle.log_line.specs.declared.line.LoggedCall.TheVariants.{LearnBare, Whole}
use Rattle.reply_values.proofs.Putting.{with_member_whole}
use Rattle.call_values.proofs.Calls.{call_whole}
use Rattle.world.specs.declared.step.Step.{Step}
use Rattle.world.specs.declared.step.Step.TheVariants as step
use Rattle.reply_values.specs.Answered.{IsWholeIf, with_member_if}
use Rattle.call_values.specs.Steps.{alone_data, step_data, with_sent}

alone_whole : (made : Step) → has_float (alone_data made) ≡ false
alone_whole (step.Hash key) = refl
alone_whole (step.Assign generation slices) = refl
alone_whole (step.Owners key) = refl
alone_whole (step.Judge question) = refl
alone_whole (step.Take assigner at) = refl
alone_whole (step.Renew assigner at) = refl
alone_whole (step.Propose assigner generation slices at) = rw (slices_whole slices) refl
alone_whole (step.Commit assigner at) = refl
alone_whole step.Phase = refl
alone_whole step.Rows = refl
alone_whole (step.Grant task life at) = refl
alone_whole (step.Free note at) = refl
alone_whole step.Lose = refl
alone_whole (step.Start task life at) = call_whole (Whole (call.Task task (task_call.Start life at)))
alone_whole (step.Hear task number at) = refl
alone_whole (step.Release task kind at) = call_whole (Whole (call.Task task (task_call.Release kind at)))
alone_whole (step.Serve task key at) = refl
alone_whole (step.Hold task key at) = refl
alone_whole (step.Check task handle at) = refl
alone_whole (step.Learn clerk generation) = call_whole (LearnBare clerk generation)
alone_whole (step.Look clerk key) = refl
alone_whole (step.Forget clerk) = call_whole (Whole (call.Clerk clerk clerk_call.Forget))
alone_whole (step.Load task key weight) = refl
alone_whole step.Gather = refl
alone_whole (step.Plan loads tasks bounds) = refl
alone_whole (step.Next assigner at wanted) = refl
alone_whole (step.DropTerm assigner) = refl

member_whole : (name : List ℕ) (sent : Option Data) (d : Data) → IsWholeIf sent → has_float d ≡ false → has_float (with_member_if name sent d) ≡ false
member_whole name None d sent_whole whole = whole
member_whole name (Some value) d sent_whole whole = with_member_whole name value d sent_whole whole

with_sent_whole : (made : Step) (sent : Option Data) (d : Data) → IsWholeIf sent → has_float d ≡ false → has_float (with_sent made sent d) ≡ false
with_sent_whole (step.Hash key) sent d sent_whole whole = whole
with_sent_whole (step.Assign generation slices) sent d sent_whole whole = whole
with_sent_whole (step.Owners key) sent d sent_whole whole = whole
with_sent_whole (step.Judge question) sent d sent_whole whole = whole
with_sent_whole (step.Take assigner at) sent d sent_whole whole = whole
with_sent_whole (step.Renew assigner at) sent d sent_whole whole = whole
with_sent_whole (step.Propose assigner generation slices at) sent d sent_whole whole = whole
with_sent_whole (step.Commit assigner at) sent d sent_whole whole = whole
with_sent_whole step.Phase sent d sent_whole whole = whole
with_sent_whole step.Rows sent d sent_whole whole = whole
with_sent_whole (step.Grant task life at) sent d sent_whole whole = whole
with_sent_whole (step.Free note at) sent d sent_whole whole = member_whole (codes "note") sent d sent_whole whole
with_sent_whole step.Lose sent d sent_whole whole = whole
with_sent_whole (step.Start task life at) sent d sent_whole whole = whole
with_sent_whole (step.Hear task number at) sent d sent_whole whole = member_whole (codes "grant") sent d sent_whole whole
with_sent_whole (step.Release task kind at) sent d sent_whole whole = whole
with_sent_whole (step.Serve task key at) sent d sent_whole whole = whole
with_sent_whole (step.Hold task key at) sent d sent_whole whole = whole
with_sent_whole (step.Check task handle at) sent d sent_whole whole = member_whole (codes "handle") sent d sent_whole whole
with_sent_whole (step.Learn clerk generation) sent d sent_whole whole = whole
with_sent_whole (step.Look clerk key) sent d sent_whole whole = whole
with_sent_whole (step.Forget clerk) sent d sent_whole whole = whole
with_sent_whole (step.Load task key weight) sent d sent_whole whole = whole
with_sent_whole step.Gather sent d sent_whole whole = whole
with_sent_whole (step.Plan loads tasks bounds) sent d sent_whole whole = whole
with_sent_whole (step.Next assigner at wanted) sent d sent_whole whole = whole
with_sent_whole (step.DropTerm assigner) sent d sent_whole whole = whole

pub step_whole : (made : Step) (sent : Option Data) → IsWholeIf sent → has_float (step_data made sent) ≡ false
step_whole made sent sent_whole = with_sent_whole made sent (alone_data made) sent_whole (alone_whole made)

pub step_if_ok : (result : Result Value AllocError) (made : Step) (sent : Option Data) → IfOk result (λ v. view v ≡ step_data made sent)
    → IfOk result (λ v. IsWholeIf sent → has_float (view v) ≡ false)
step_if_ok (Ok v) made sent is = λ sent_whole. rw is (step_whole made sent sent_whole)
step_if_ok (Err e) made sent is = is
