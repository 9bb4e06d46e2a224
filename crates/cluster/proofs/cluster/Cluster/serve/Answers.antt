use Rattle.std.proofs.Common.{◌≡◌, ℕ, ◌<◌, ◌^◌, List, length, subst, refl}
use Rattle.std.specs.Prelude.{false}
use Rattle.machines.specs.Numbers.{is_within}
use Rattle.slicelet.specs.Rules.{covers_key}
use Rattle.slicelet.specs.States.{SliceletState}
use Rattle.job_calls.specs.declared.call.ClusterCall.TheVariants as call
use Rattle.job_calls.specs.declared.reply.ClusterReply.TheVariants as reply
use Rattle.cluster.specs.Pasts.{task_calls}
use Rattle.cluster.specs.Answers.{covers}
use Rattle.cluster.specs.continued.Clusters.{LeadsTo}
use Rattle.cluster.proofs.Playing.{only_told}
use Rattle.cluster.proofs.Looking.{own_task, serve_reply}
use Rattle.cluster.proofs.Stopping.{serve_of_none}
use Rattle.cluster.proofs.cluster.Cluster.serve.Goals as goal

pub returns-in_default : goal.returns-in_default
returns-in_default c = λ job past k.
    serve_of_none job past c.args.self.now k c.args.task c.args.key c.args.at (subst (λ (xs : List SliceletState). is_within c.args.task (length xs) ≡ false) c.as_slice.ensures.value c.in_default.ensures)

pub returns : goal.returns
unfolding LeadsTo
returns c = λ job past k.
    let inside = subst (λ (xs : List SliceletState). c.in-Some.place < length xs) c.as_slice.ensures.value c.in-Some.ensures.1 in
    let low : c.args.key < 2 ^ 63 = subst (λ (n : ℕ). n < 2 ^ 63) c.value-number.ensures.value c.value-number.ensures.in_range in
    let own = own_task job past c.args.task c.in-Some.place c.args.self.now c.index.result.now k c.in-Some.ensures.0 inside c.index.ensures in
    let agree = c.covers_law.ensures job past c.args.task c.args.key k.within k.run low in
    only_told job past (call.Serve c.args.task c.args.key c.args.at) (reply.Verdict c.serve.result) c.args.self.now k
    (serve_reply job past c.args.task c.args.key c.args.at c.index.result.now own agree
    (c.agreement_law.ensures.rule (covers_key c.args.key) (covers past c.args.key) (task_calls c.args.task past) c.args.at) c.serve.result c.serve.ensures.state) refl (λ n. refl) (λ n. refl) refl refl
