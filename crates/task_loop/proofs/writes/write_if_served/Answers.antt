use Rattle.std.proofs.Common.{◌≡◌, ℕ, ◌∷◌, [], ◌∙◌, sym}
use Rattle.world.specs.Jobs.{Job}
use Rattle.world.specs.declared.step.Step.TheVariants as step
use Rattle.world.specs.Pasts.{Past, steps_of, IsTimely}
use Rattle.world.specs.Headline.{MayServe}
use Rattle.world.specs.Worlds.{LeadsTo}
use Rattle.task_loop.proofs.Serving.{served_alone}
use Rattle.task_loop.proofs.writes.write_if_served.Goals as goal

-- a task that wrote in time might serve the key
may : (c : goal.After-drop-replies-2) (job : Job) (past : Past) → LeadsTo job past c.args.world.now
    → IsTimely job.policy.skew (step.Serve c.args.task c.args.key c.args.at ∷ steps_of past) → MayServe job past c.args.task c.args.key
may c job past leads timely =
    served_alone job past c.args.task c.args.key c.args.at c.index.result.now c.in_ok-replies.replies.items c.in_ok-replies.ensures.answers
    c.index.ensures (sym c.is_served.ensures ∙ c.if-not-is_served.false) (c.in_ok-replies.ensures.run job past leads) timely

pub returns-clause-owned : goal.returns-clause-owned
returns-clause-owned c = λ job past leads wrote timely.
    c.headline_law.ensures.owner job [] past c.args.task c.args.key leads (may c job past leads timely)

pub returns-clause-alone : goal.returns-clause-alone
returns-clause-alone c = λ job past other leads wrote timely single may_other.
    c.headline_law.ensures.one job [] past c.args.task other c.args.key leads single (may c job past leads timely) may_other
