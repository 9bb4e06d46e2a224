use Rattle.std.proofs.Common.{◌<◌, List, length, subst}
use Rattle.std.specs.Prelude.{None}
use Rattle.assigner.specs.Terms.{Keeping}
use Rattle.replies.specs.declared.reply.Reply.TheVariants as reply
use Rattle.world.specs.declared.step.Step.TheVariants as step
use Rattle.world.proofs.Answering.{by_own, replied_as}
use Rattle.world.proofs.AssignerTerms.{own_assigner}
use Rattle.world.proofs.world.World.drop_term.Goals as goal

pub returns : goal.returns
returns c = λ job past k.
    let own = own_assigner job past c.args.self.now.assigners.items c.args.assigner c.in_ok-place.place c.index_mut.result.now k.assigners c.in_ok-place.ensures.0 (subst (λ (xs : List Keeping). c.in_ok-place.place < length xs) c.as_slice.ensures.value c.in_ok-place.ensures.1) c.index_mut.ensures.value in
    record {
      run = (replied_as job past (step.DropTerm c.args.assigner) tt reply.TermDropped (by_own c.args.assigner job.assigners _ own.inside), k.run);
      cluster = k.cluster;
      same_job = k.same_job;
      draft = k.draft;
      assigners = own.told c.drop_term.new.self (λ n before. None) c.drop_term.ensures;
      shares = k.shares;
      book = k.book;
    }
