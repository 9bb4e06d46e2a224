use Rattle.std.proofs.Common.{ℕ, refl, sym, ap}
use Rattle.std.specs.Prelude.{Result, Ok}
use Rattle.job_calls.specs.declared.call.ClusterCall.{ClusterCall}
use Rattle.job_calls.specs.declared.call.ClusterCall.TheVariants as call
use Rattle.replies.specs.declared.reply.Refusal.{Refusal}
use Rattle.world.specs.declared.step.Step.TheVariants as step
use Rattle.world.specs.Calls.{calls_in}
use Rattle.world.proofs.Asking.{fits, asked_on}
use Rattle.world.proofs.world.World.serve.Goals as goal

pub returns : goal.returns
returns c = λ job past k like.
    let s = step.Serve c.args.task c.args.key.now c.args.at in
    let made = call.Serve c.args.task c.slice_key.result c.args.at in
    let is = ap (λ (n : ℕ). let one : Result ClusterCall Refusal = Ok (call.Serve c.args.task n c.args.at) in one) (sym c.slice_key.ensures) in
    asked_on job past s made c.args.self.now _ k is (record { job = refl; draft = refl; shares = refl; book = refl }) (fits s made (λ t. t) (λ r. refl) (λ r. refl)) c.ask.ensures.run c.args.asked.now like c.ask.result (c.ask.ensures.asked job (calls_in job past) k.cluster) refl (λ n before. refl)
