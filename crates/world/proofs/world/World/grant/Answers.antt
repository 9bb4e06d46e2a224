use Rattle.std.proofs.Common.{◌≡◌, ℕ, true, refl, sym, ◌∙◌, ap, subst}
use Rattle.std.specs.Prelude.{Option, IfSome, Result, Ok}
use Rattle.machines.specs.Numbers.{is_within}
use Rattle.grants.specs.declared.table_call.TableCall.TheVariants as asked
use Rattle.job_calls.specs.declared.call.ClusterCall.{ClusterCall}
use Rattle.job_calls.specs.declared.call.ClusterCall.TheVariants as call
use Rattle.world.specs.Jobs.{Job}
use Rattle.replies.specs.declared.reply.Refusal.{Refusal}
use Rattle.world.specs.declared.step.Step.TheVariants as step
use Rattle.world.specs.Calls.{calls_in}
use Rattle.world.proofs.Asking.{fits, actor_call, asked_on}
use Rattle.world.proofs.world.World.grant.Goals as goal

pub returns : goal.returns
returns c = λ job past k.
    let s = step.Grant c.args.task c.args.life c.args.at in
    let made = call.Table (asked.Grant c.unwrap-of_job.result c.args.life c.args.at) in
    let most : c.tasks.result ≡ job.tasks = c.tasks.ensures.value ∙ ap (λ (j : Job). j.tasks) k.same_job in
    let inside : is_within c.args.task job.tasks ≡ true = subst (λ (n : ℕ). is_within c.args.task n ≡ true) most c.in_ok-check_actor.ensures in
    let named : c.unwrap-of_job.result ≡ c.args.task = subst (λ (o : Option ℕ). IfSome o (λ task. task ≡ c.args.task)) c.unwrap-of_job.ensures c.new.ensures.value in
    let is = actor_call c.args.task job.tasks _ inside ∙ ap (λ (n : ℕ). let one : Result ClusterCall Refusal = Ok (call.Table (asked.Grant n c.args.life c.args.at)) in one) (sym named) in
    asked_on job past s made c.args.self.now _ k is (record { job = refl; draft = refl; shares = refl; book = refl }) (fits s made (λ t. refl) (λ r. refl) (λ r. refl)) c.ask.ensures.run s refl c.ask.result (c.ask.ensures.asked job (calls_in job past) k.cluster) refl (λ n before. refl)
