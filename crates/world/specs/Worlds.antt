-- Which past leads to a world.
use Rattle.std.specs.Prelude.{◌≡◌, true, ◌∷◌, Result, Ok, Err, is_err}
use Rattle.machines.specs.declared.machine.Trouble.{Trouble}
use Rattle.machines.specs.declared.machine.Trouble.TheVariants.{Refused, NoMemory}
use Rattle.cluster.specs.Clusters.{AreActors, LeadsTo as LeadsToCluster}
use Rattle.world.specs.Jobs.{Job}
use Rattle.world.specs.declared.step.Step.{Step}
use Rattle.replies.specs.declared.reply.Refusal.{Refusal}
use Rattle.replies.specs.declared.reply.Reply.{Reply}
use Rattle.replies.specs.declared.reply.Reply.TheVariants as reply
use Rattle.world.specs.declared.world.World.{World}
use Rattle.world.specs.Pasts.{event, Past}
use Rattle.world.specs.Front.{draft_of, share_of}
use Rattle.world.specs.Calls.{call_of, calls_in}
use Rattle.world.specs.Replies.{assigner_of, book_in}
use Rattle.world.specs.Runs.{IsReply, IsRun}

-- a run, whose calls lead to the world's cluster, and what only scripts have
pub record Keeps (job : Job) (past : Past) (world : World) : Type 0 where
  pub run : IsRun job past
  pub cluster : LeadsToCluster job (calls_in job past) world.cluster
  pub same_job : world.job ≡ job
  pub draft : world.draft ≡ draft_of past
  pub assigners : AreActors (assigner_of job past) job.assigners world.assigners.items
  pub shares : AreActors (share_of past) job.tasks world.shares.items
  pub book : world.book ≡ book_in job past

-- a step was answered; or it was refused without a call of the machines, or out of memory, and nothing changed
abbrev pub Played : Job → Past → Step → Result Reply (Trouble Refusal) → World → Type 0
Played job past step (Ok answer) world = Keeps job (event step answer ∷ past) world
Played job past step (Err (Refused why)) world = Keeps job past world × IsReply job past (event step (reply.Refused why)) × (is_err (call_of job past (calls_in job past) step) ≡ true)
Played job past step (Err NoMemory) world = Keeps job past world × IsReply job past (event step reply.NoMemory)

-- these steps, with their replies, lead from a new world to this one
unfoldable pub LeadsTo : Job → Past → World → Type 0
LeadsTo job past world = Keeps job past world
