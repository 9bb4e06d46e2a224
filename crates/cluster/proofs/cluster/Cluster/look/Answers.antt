use Rattle.std.proofs.Common.{◌≡◌, ◌<◌, List, length, subst, ap}
use Rattle.std.specs.Prelude.{Option, false}
use Rattle.machines.specs.Numbers.{is_within}
use Rattle.assignment.specs.Slices.{Slicing}
use Rattle.job_calls.specs.declared.error.ClusterError.TheVariants as error
use Rattle.job_calls.specs.declared.reply.ClusterReply.TheVariants as reply
use Rattle.cluster.specs.Answers.{look_reply}
use Rattle.cluster.proofs.ClerkTurns.{look_played}
use Rattle.cluster.proofs.Stopping.{look_of_none}
use Rattle.cluster.proofs.cluster.Cluster.look.Goals as goal

pub returns-in_default : goal.returns-in_default
returns-in_default c = λ job past k.
    look_of_none job past c.args.self.now k c.args.clerk c.args.key (subst (λ (xs : List (Option Slicing)). is_within c.args.clerk (length xs) ≡ false) c.as_slice.ensures.value c.in_default.ensures)

pub returns-in-Ok : goal.returns-in-Ok
returns-in-Ok c = λ job past k.
    let inside = subst (λ (xs : List (Option Slicing)). c.in-Some.place < length xs) c.as_slice.ensures.value c.in-Some.ensures.1 in
    look_played job past c.args.clerk c.args.key c.in-Some.place c.args.self.now k c.in-Some.ensures.0 inside c.index.result.now c.index.ensures (reply.Found c.in-Ok.found) (ap look_reply c.in-Ok.ensures)

pub returns-in-Err : goal.returns-in-Err
returns-in-Err c = λ job past k.
    let inside = subst (λ (xs : List (Option Slicing)). c.in-Some.place < length xs) c.as_slice.ensures.value c.in-Some.ensures.1 in
    look_played job past c.args.clerk c.args.key c.in-Some.place c.args.self.now k c.in-Some.ensures.0 inside c.index.result.now c.index.ensures (reply.Refused error.Unknown) (ap look_reply c.in-Err.ensures)
