use Rattle.std.proofs.Common.{List, refl, sym, subst, ◌∙◌}
use Rattle.load_ledger.specs.Shares.{Share}
use Rattle.assigner.specs.Terms.{Keeping}
use Rattle.cluster.specs.Clusters.{AreActors}
use Rattle.cluster.specs.continued.Jobs.{from_start}
use Rattle.world.specs.Front.{share_of}
use Rattle.world.specs.Calls.{calls_in}
use Rattle.world.specs.Replies.{assigner_of}
use Rattle.world.specs.Worlds.{LeadsTo}
use Rattle.world.proofs.Keeping.{kept_same}
use Rattle.world.proofs.world.World.copy.Goals as goal

pub returns : goal.returns
unfolding LeadsTo
returns c = λ job past k.
    kept_same job past c.args.self.now _ k (c.in_ok-copy.ensures (from_start job) (calls_in job past) k.cluster) refl c.in_ok-draft_copy.ensures
    (subst (λ (xs : List Keeping). AreActors (assigner_of job past) job.assigners xs) (sym (c.in_ok-from_slice.ensures.items ∙ c.as_slice.ensures.value)) k.assigners)
    (subst (λ (xs : List Share). AreActors (share_of past) job.tasks xs) (sym (c.in_ok-share_copies.ensures ∙ c.as_slice-2.ensures.value)) k.shares)
    c.copy-2.ensures
