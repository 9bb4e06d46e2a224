use Rattle.std.proofs.Common.{◌≡◌, ℕ, ◌<◌, ◌^◌, Bool, List, length, subst, refl, sym, ap, ◌∙◌}
use Rattle.std.specs.Prelude.{Result, false, Ok, Err}
use Rattle.machines.specs.Numbers.{is_within}
use Rattle.grants.specs.declared.slicelet_error.Stranger.{Stranger}
use Rattle.slicelet.specs.Rules.{covers_key}
use Rattle.slicelet.specs.States.{SliceletState}
use Rattle.job_calls.specs.declared.call.ClusterCall.TheVariants as call
use Rattle.job_calls.specs.declared.error.ClusterError.TheVariants as error
use Rattle.job_calls.specs.declared.reply.ClusterReply.TheVariants as reply
use Rattle.cluster.specs.Pasts.{task_calls}
use Rattle.cluster.specs.Answers.{covers}
use Rattle.cluster.specs.continued.Clusters.{LeadsTo}
use Rattle.cluster.proofs.Playing.{only_told}
use Rattle.cluster.proofs.TaskTurns.{inside_job}
use Rattle.cluster.proofs.Looking.{own_task, kept_reply, broken_reply, stranger_reply}
use Rattle.cluster.proofs.Stopping.{check_of_none, not_given}
use Rattle.cluster.proofs.cluster.Cluster.check.Goals as goal

pub returns-in_default : goal.returns-in_default
returns-in_default c = λ job past k.
    check_of_none job past c.args.self.now k c.args.task c.args.handle.now c.args.at (subst (λ (xs : List SliceletState). is_within c.args.task (length xs) ≡ false) c.as_slice.ensures.value c.in_default.ensures)

pub returns-then-not-is_given : goal.returns-then-not-is_given
returns-then-not-is_given c = λ job past k.
    let inside = subst (λ (xs : List SliceletState). c.in-Some.place < length xs) c.as_slice.ensures.value c.in-Some.ensures.1 in
    not_given job past c.args.self.now k c.args.task c.args.handle.now c.args.at (inside_job job past c.args.task c.in-Some.place c.args.self.now k c.in-Some.ensures.0 inside)
    (sym (c.is_given.ensures job past k) ∙ c.if-not-is_given.true)

pub returns-in-Ok-true : goal.returns-in-Ok-true
unfolding LeadsTo
returns-in-Ok-true c = λ job past k.
    let inside = subst (λ (xs : List SliceletState). c.in-Some.place < length xs) c.as_slice.ensures.value c.in-Some.ensures.1 in
    let low : c.args.handle.now.key < 2 ^ 63 = subst (λ (n : ℕ). n < 2 ^ 63) c.value-key.ensures.value c.value-key.ensures.in_range in
    let own = own_task job past c.args.task c.in-Some.place c.args.self.now c.index.result.now k c.in-Some.ensures.0 inside c.index.ensures in
    let given = sym (c.is_given.ensures job past k) ∙ c.if-not-is_given.false in
    let agree = c.covers_law.ensures job past c.args.task c.args.handle.now.key k.within k.run low in
    let tied = c.agreement_law.ensures.continuous (covers_key c.args.handle.now.key) (covers past c.args.handle.now.key) (task_calls c.args.task past) c.args.handle.now c.args.at agree in
    only_told job past (call.Check c.args.task c.args.handle.now c.args.at) reply.Continuous c.args.self.now k
    (kept_reply job past c.args.task c.args.at c.args.handle.now c.index.result.now own given (Ok c.in-Ok-true.field-0) (c.in-Ok-true.ensures.calls (task_calls c.args.task past) own.stands) (ap (λ (b : Bool). let r : Result Bool Stranger = Ok b in r) c.in-Ok-true.field-0-test) tied) refl (λ n. refl) (λ n. refl) refl refl

pub returns-in-Ok-false : goal.returns-in-Ok-false
unfolding LeadsTo
returns-in-Ok-false c = λ job past k.
    let inside = subst (λ (xs : List SliceletState). c.in-Some.place < length xs) c.as_slice.ensures.value c.in-Some.ensures.1 in
    let low : c.args.handle.now.key < 2 ^ 63 = subst (λ (n : ℕ). n < 2 ^ 63) c.value-key.ensures.value c.value-key.ensures.in_range in
    let own = own_task job past c.args.task c.in-Some.place c.args.self.now c.index.result.now k c.in-Some.ensures.0 inside c.index.ensures in
    let given = sym (c.is_given.ensures job past k) ∙ c.if-not-is_given.false in
    let agree = c.covers_law.ensures job past c.args.task c.args.handle.now.key k.within k.run low in
    let tied = c.agreement_law.ensures.continuous (covers_key c.args.handle.now.key) (covers past c.args.handle.now.key) (task_calls c.args.task past) c.args.handle.now c.args.at agree in
    only_told job past (call.Check c.args.task c.args.handle.now c.args.at) reply.Broken c.args.self.now k
    (broken_reply job past c.args.task c.args.at c.args.handle.now c.index.result.now own given (Ok c.in-Ok-false.field-0) (c.in-Ok-false.ensures.calls (task_calls c.args.task past) own.stands) (ap (λ (b : Bool). let r : Result Bool Stranger = Ok b in r) c.in-Ok-false.field-0-test) tied) refl (λ n. refl) (λ n. refl) refl refl

pub returns-in-Err : goal.returns-in-Err
unfolding LeadsTo
returns-in-Err c = λ job past k.
    let inside = subst (λ (xs : List SliceletState). c.in-Some.place < length xs) c.as_slice.ensures.value c.in-Some.ensures.1 in
    let low : c.args.handle.now.key < 2 ^ 63 = subst (λ (n : ℕ). n < 2 ^ 63) c.value-key.ensures.value c.value-key.ensures.in_range in
    let own = own_task job past c.args.task c.in-Some.place c.args.self.now c.index.result.now k c.in-Some.ensures.0 inside c.index.ensures in
    let given = sym (c.is_given.ensures job past k) ∙ c.if-not-is_given.false in
    only_told job past (call.Check c.args.task c.args.handle.now c.args.at) (reply.Refused error.Stranger) c.args.self.now k
    (stranger_reply job past c.args.task c.args.at c.args.handle.now c.index.result.now own given (Err c.in-Err.field-0) (c.in-Err.ensures.calls (task_calls c.args.task past) own.stands) c.in-Err.field-0 refl) refl (λ n. refl) (λ n. refl) refl refl
