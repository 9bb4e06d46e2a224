use Rattle.std.proofs.Common.{◌≡◌, ◌<◌, List, length, sym, ◌∙◌, ap, subst}
use Rattle.grants.specs.declared.values.Phase.{Phase}
use Rattle.lease_table.specs.Tables.{phase_of}
use Rattle.assigner.specs.Terms.{Keeping}
use Rattle.assigner.specs.Actions.{next_action}
use Rattle.assigner.specs.declared.action.View.{View}
use Rattle.replies.specs.declared.reply.Reply.TheVariants as reply
use Rattle.world.specs.declared.step.Step.TheVariants as step
use Rattle.cluster.specs.Pasts.{standing}
use Rattle.cluster.specs.continued.Jobs.{from_start}
use Rattle.world.specs.Calls.{calls_in}
use Rattle.world.specs.Replies.{assigner_of}
use Rattle.world.proofs.Answering.{by_own, replied_as}
use Rattle.world.proofs.AssignerTerms.{own_assigner}
use Rattle.world.proofs.world.World.next.Goals as goal

pub returns : goal.returns
returns c = λ job past k.
    let own = own_assigner job past c.args.self.now.assigners.items c.args.assigner c.in_ok-place.place c.index.result.now k.assigners c.in_ok-place.ensures.0
    (subst (λ (xs : List Keeping). c.in_ok-place.place < length xs) c.as_slice.ensures.value c.in_ok-place.ensures.1) c.index.ensures in
    let phase : c.phase.result ≡ phase_of (standing job.policy (calls_in job past)) = c.phase.ensures (from_start job) (calls_in job past) k.cluster in
    let seen : Phase → View = λ p. record { reading = c.args.at; phase = p; wanted = c.args.wanted } in
    let action = c.next.ensures ∙ ap (λ (a : Keeping). next_action a (seen c.phase.result)) own.keeps ∙ ap (λ (p : Phase). next_action (assigner_of job past c.args.assigner) (seen p)) phase in
    record {
      run = (replied_as job past (step.Next c.args.assigner c.args.at c.args.wanted) tt (reply.Next c.next.result) (by_own c.args.assigner job.assigners _ own.inside ∙ ap (λ a. reply.Next a) (sym action)), k.run);
      cluster = k.cluster;
      same_job = k.same_job;
      draft = k.draft;
      assigners = k.assigners;
      shares = k.shares;
      book = k.book;
    }
