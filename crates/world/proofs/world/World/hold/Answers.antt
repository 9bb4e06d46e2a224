use Rattle.std.proofs.Common.{ℕ, refl, sym, ◌∙◌, ap}
use Rattle.std.specs.Prelude.{Result, Ok}
use Rattle.job_calls.specs.declared.call.ClusterCall.{ClusterCall}
use Rattle.job_calls.specs.declared.call.ClusterCall.TheVariants as call
use Rattle.replies.specs.declared.reply.Refusal.{Refusal}
use Rattle.world.specs.declared.step.Step.TheVariants as step
use Rattle.world.specs.Calls.{calls_in}
use Rattle.world.specs.Replies.{named}
use Rattle.world.proofs.Telling.{faithful}
use Rattle.world.proofs.Asking.{asked_on}
use Rattle.world.proofs.world.World.hold.Goals as goal

pub returns : goal.returns
returns c = λ job past k like.
    let s = step.Hold c.args.task c.args.key.now c.args.at in
    let made = call.Hold c.args.task c.slice_key.result c.args.at in
    let is = ap (λ (n : ℕ). let one : Result ClusterCall Refusal = Ok (call.Hold c.args.task n c.args.at) in one) (sym c.slice_key.ensures) in
    asked_on job past s made c.args.self.now _ k is (record { job = refl; draft = refl; shares = refl; book = refl }) (record { takes = λ t. refl; needs = λ next r n. (faithful (named s) next r).gives ∙ n }) c.ask.ensures.run c.args.asked.now like c.ask.result (c.ask.ensures.asked job (calls_in job past) k.cluster) refl (λ n before. refl)
