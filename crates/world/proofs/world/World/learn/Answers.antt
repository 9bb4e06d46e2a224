use Rattle.std.proofs.Common.{◌≡◌, ℕ, true, refl, ◌∙◌, ap, subst}
use Rattle.machines.specs.Numbers.{is_within}
use Rattle.clerk.specs.declared.call.ClerkCall.TheVariants.{Learn}
use Rattle.cluster.specs.Pasts.{published}
use Rattle.job_calls.specs.declared.call.ClusterCall.TheVariants as call
use Rattle.job_calls.specs.declared.error.ClusterError.TheVariants as error
use Rattle.job_calls.specs.declared.reply.ClusterReply.TheVariants as machine
use Rattle.cluster.specs.Replies.{by_actor}
use Rattle.cluster.specs.continued.Jobs.{from_start}
use Rattle.cluster.proofs.TaskTurns.{by_own}
use Rattle.world.specs.Jobs.{Job}
use Rattle.world.specs.declared.step.Step.TheVariants as step
use Rattle.replies.specs.declared.told.NextNumbers.{NextNumbers}
use Rattle.world.specs.Calls.{calls_in}
use Rattle.world.specs.internals.Asking.{told_of}
use Rattle.world.proofs.Asking.{fits, actor_call, unsent_reply}
use Rattle.world.proofs.Playing.{delivered_on}
use Rattle.world.proofs.world.World.learn.Goals as goal

pub returns : goal.returns
returns c = λ job past k.
    let calls = calls_in job past in
    let s = step.Learn c.args.clerk c.args.generation in
    let most : c.clerks.result ≡ job.clerks = c.clerks.ensures.value ∙ ap (λ (j : Job). j.clerks) k.same_job in
    let inside : is_within c.args.clerk job.clerks ≡ true = subst (λ (n : ℕ). is_within c.args.clerk n ≡ true) most c.in_ok-check_actor.ensures in
    let told = c.told_of.ensures ∙ ap (λ (next : NextNumbers). told_of s next c.learn_published-answer.result) (c.next_numbers_of-next.ensures job calls k.cluster) in
    delivered_on job past s c.args.self.now _ k (record { job = refl; draft = refl; shares = refl; book = refl }) refl (λ job. c.run_law.ensures.run (from_start job)) (λ none. unsent_reply job past s none refl (λ h. h)) (published c.args.generation calls) (λ slicing. call.Clerk c.args.clerk (Learn slicing))
    (actor_call c.args.clerk job.clerks _ inside) (λ x. fits s _ (λ t. refl) (λ r. refl) (λ r. refl))
    (by_actor c.args.clerk job.clerks (machine.Refused error.NotSent)) (by_own c.args.clerk job.clerks _ inside) c.learn_published-answer.result (c.learn_published-answer.ensures (from_start job) calls k.cluster) c.told_of.result told (λ n before. refl)
