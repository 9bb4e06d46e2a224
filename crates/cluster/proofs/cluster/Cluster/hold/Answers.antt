use Rattle.std.proofs.Common.{◌≡◌, ℕ, ◌<◌, ◌^◌, true, List, length, subst, refl, sym, ap}
use Rattle.std.specs.Prelude.{false, Ok, Err, reverse}
use Rattle.machines.specs.Numbers.{is_within}
use Rattle.key_handle.specs.declared.handle.KeyHandle.{KeyHandle}
use Rattle.lease_rule.specs.declared.answer.Verdict.TheVariants.{Deny}
use Rattle.slicelet.specs.Rules.{covers_key}
use Rattle.slicelet.specs.States.{SliceletState}
use Rattle.job_calls.specs.declared.call.ClusterCall.TheVariants as call
use Rattle.job_calls.specs.declared.reply.ClusterReply.TheVariants as reply
use Rattle.cluster.specs.Pasts.{task_calls}
use Rattle.cluster.specs.Answers.{covers}
use Rattle.cluster.specs.continued.Clusters.{LeadsTo}
use Rattle.cluster.proofs.Playing.{only_told}
use Rattle.cluster.proofs.Looking.{own_task, hold_answer, held_leads, hold_out_of_memory}
use Rattle.cluster.proofs.Stopping.{hold_of_none}
use Rattle.cluster.proofs.cluster.Cluster.hold.Goals as goal

pub returns-in_default : goal.returns-in_default
returns-in_default c = λ job past k.
    hold_of_none job past c.args.self.now k c.args.task c.args.key c.args.at (subst (λ (xs : List SliceletState). is_within c.args.task (length xs) ≡ false) c.as_slice.ensures.value c.in_default.ensures)

pub returns-in-Err : goal.returns-in-Err
unfolding LeadsTo
returns-in-Err c = λ job past k.
    let inside = subst (λ (xs : List SliceletState). c.in-Some.place < length xs) c.as_slice.ensures.value c.in-Some.ensures.1 in
    let low : c.args.key < 2 ^ 63 = subst (λ (n : ℕ). n < 2 ^ 63) c.value-number.ensures.value c.value-number.ensures.in_range in
    let own = own_task job past c.args.task c.in-Some.place c.args.self.now c.index.result.now k c.in-Some.ensures.0 inside c.index.ensures in
    let agree = c.covers_law.ensures job past c.args.task c.args.key k.within k.run low in
    let is = hold_answer job past c.args.task c.args.key c.args.at c.index.result.now own agree
    (c.agreement_law.ensures.rule (covers_key c.args.key) (covers past c.args.key) (task_calls c.args.task past) c.args.at) (Err c.in-Err.why) c.in-Err.ensures.state in
    only_told job past (call.Hold c.args.task c.args.key c.args.at) (reply.Verdict (Deny c.in-Err.why)) c.args.self.now k (true, tt, sym (is true)) refl (λ n. refl) (λ n. refl) refl refl

pub returns-in-Err-keep : goal.returns-in-Err-keep
unfolding LeadsTo
returns-in-Err-keep c = λ job past k.
    let inside = subst (λ (xs : List SliceletState). c.in-Some.place < length xs) c.as_slice.ensures.value c.in-Some.ensures.1 in
    let low : c.args.key < 2 ^ 63 = subst (λ (n : ℕ). n < 2 ^ 63) c.value-number.ensures.value c.value-number.ensures.in_range in
    let own = own_task job past c.args.task c.in-Some.place c.args.self.now c.index.result.now k c.in-Some.ensures.0 inside c.index.ensures in
    let agree = c.covers_law.ensures job past c.args.task c.args.key k.within k.run low in
    let is = hold_answer job past c.args.task c.args.key c.args.at c.index.result.now own agree
    (c.agreement_law.ensures.rule (covers_key c.args.key) (covers past c.args.key) (task_calls c.args.task past) c.args.at) (Ok c.in-Ok.handle) c.in-Ok.ensures.state in
    hold_out_of_memory job past c.args.task c.args.key c.args.at c.in-Ok.handle c.args.self.now _ k (record {
      job = refl;
      earlier = refl;
      table = refl;
      tasks = refl;
      clerks = refl;
      grants = refl;
      notes = refl;
      handles = ap (λ (xs : List KeyHandle). reverse xs) c.in-Err-keep.ensures.err;
      known_notes = λ key. refl;
      known_handles = c.in-Err-keep.ensures.known_err;
      proposals = refl;
    }) is

pub returns-in-Ok-keep : goal.returns-in-Ok-keep
unfolding LeadsTo
returns-in-Ok-keep c = λ job past k.
    let inside = subst (λ (xs : List SliceletState). c.in-Some.place < length xs) c.as_slice.ensures.value c.in-Some.ensures.1 in
    let low : c.args.key < 2 ^ 63 = subst (λ (n : ℕ). n < 2 ^ 63) c.value-number.ensures.value c.value-number.ensures.in_range in
    let own = own_task job past c.args.task c.in-Some.place c.args.self.now c.index.result.now k c.in-Some.ensures.0 inside c.index.ensures in
    let agree = c.covers_law.ensures job past c.args.task c.args.key k.within k.run low in
    let is = hold_answer job past c.args.task c.args.key c.args.at c.index.result.now own agree
    (c.agreement_law.ensures.rule (covers_key c.args.key) (covers past c.args.key) (task_calls c.args.task past) c.args.at) (Ok c.in-Ok.handle) c.in-Ok.ensures.state in
    held_leads job past c.args.task c.args.key c.args.at c.in-Ok.handle c.args.self.now _ k c.in-Ok-keep.ensures.ok
    (record { job = refl; earlier = refl; table = refl; tasks = refl; clerks = refl; grants = refl; notes = refl; known_notes = λ key. refl; proposals = refl }) c.in-Ok-keep.ensures.known_ok (sym (is true))
