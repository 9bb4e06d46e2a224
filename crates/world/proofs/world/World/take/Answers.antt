use Rattle.std.proofs.Common.{◌<◌, List, length, refl, subst}
use Rattle.grants.specs.declared.table_call.TableCall.TheVariants as asked
use Rattle.assigner.specs.Terms.{Keeping}
use Rattle.job_calls.specs.declared.call.ClusterCall.TheVariants as call
use Rattle.world.specs.declared.step.Step.TheVariants as step
use Rattle.world.specs.Front.{term_told}
use Rattle.world.specs.Calls.{calls_in}
use Rattle.world.proofs.Asking.{fits, actor_call, played_on}
use Rattle.world.proofs.AssignerTerms.{own_assigner, assigners_told}
use Rattle.world.proofs.world.World.take.Goals as goal

pub returns : goal.returns
returns c = λ job past k.
    let s = step.Take c.args.assigner c.args.at in
    let made = call.Table (asked.JobTake c.args.assigner c.args.at) in
    let within = subst (λ (xs : List Keeping). c.in_ok-place.place < length xs) c.as_slice.ensures.value c.in_ok-place.ensures.1 in
    let own = own_assigner job past c.args.self.now.assigners.items c.args.assigner c.in_ok-place.place c.index_mut.result.now k.assigners c.in_ok-place.ensures.0 within c.index_mut.ensures.value in
    let told = c.ask-reply.ensures.asked job (calls_in job past) k.cluster in
    let assigners = own.told c.adopt.new.assigner (λ n before. term_told n c.ask-reply.result before) c.adopt.ensures in
    played_on job past s made c.args.self.now _ k (actor_call c.args.assigner job.assigners _ own.inside) (record { job = refl; draft = refl; shares = refl; book = refl }) (fits s made (λ t. t) (λ r. refl) (λ r. refl)) c.ask-reply.ensures.run told.0 told.1 c.ask-reply.result told.2
    (assigners_told job past s c.args.assigner c.ask-reply.result _ (λ n before. refl) assigners)
