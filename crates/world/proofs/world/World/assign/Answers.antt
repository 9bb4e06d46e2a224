use Rattle.std.proofs.Common.{length, refl}
use Rattle.assignment.specs.Slices.{refusal_of}
use Rattle.replies.specs.declared.reply.Reply.TheVariants as reply
use Rattle.world.specs.declared.step.Step.TheVariants as step
use Rattle.world.proofs.Answering.{unbuilt}
use Rattle.world.proofs.world.World.assign.Goals as goal

pub returns-in-Err : goal.returns-in-Err
returns-in-Err c = λ job past k.
    rw (c.of_slices.ensures, c.in-Err.ensures.refused)
    (unbuilt job past (step.Assign c.args.generation c.args.slices.now) c.args.self.now (refusal_of c.args.slices.now) (reply.Assigned c.args.generation (length c.args.slices.now)) tt (λ outcome. refl) refl refl refl refl k)
