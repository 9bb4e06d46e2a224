-- A past leads to every world that shows the same.
use Rattle.std.proofs.Common.{◌≡◌, ◌∙◌}
use Rattle.cluster.specs.Clusters.{AreActors, LeadsTo as LeadsToCluster}
use Rattle.world.specs.Jobs.{Job}
use Rattle.world.specs.declared.world.World.{World}
use Rattle.world.specs.Pasts.{Past}
use Rattle.world.specs.Front.{share_of}
use Rattle.world.specs.Calls.{calls_in}
use Rattle.world.specs.Replies.{assigner_of}
use Rattle.world.specs.Worlds.{Keeps}

pub kept_same : (job : Job) (past : Past) (old new : World) → Keeps job past old → LeadsToCluster job (calls_in job past) new.cluster
    → new.job ≡ old.job → new.draft ≡ old.draft → AreActors (assigner_of job past) job.assigners new.assigners.items
    → AreActors (share_of past) job.tasks new.shares.items → new.book ≡ old.book → Keeps job past new
kept_same job past old new k cluster same_job draft assigners shares book = record {
  run = k.run;
  cluster = cluster;
  same_job = same_job ∙ k.same_job;
  draft = draft ∙ k.draft;
  assigners = assigners;
  shares = shares;
  book = book ∙ k.book;
}
