use Rattle.std.proofs.Common.{◌≡◌, ℕ, ◌+◌, ◌<◌, List, length, sym, ap, subst, arith}
use Rattle.cluster.specs.Pasts.{task_calls}
use Rattle.stretches.specs.declared.stretch.Stretch.{Stretch}
use Rattle.stretches.specs.declared.key_stretches.KeyStretches.{KeyStretches}
use Rattle.stretches.specs.Stretches.{AreStretches}
use Rattle.stretches.specs.Tasks.{Each, AreKeptOn}
use Rattle.stretches.proofs.Lists.{each_at, each_push}
use Rattle.stretches.proofs.job_stretches.JobStretches.stretches.Goals as goal

pub loop-kept-preserved : goal.loop-kept-preserved
loop-kept-preserved c job past key each =
    let holds : ℕ → List Stretch → Type 0 = λ task. AreStretches key (task_calls task past) in
    let i = c.loop-kept.kept-index in
    let items = c.args.self.now.tasks.items in
    let same : c.as_slice-kept-items.result.now ≡ items = c.as_slice-kept-items.ensures.value in
    let listed_each : Each (λ task. AreKeptOn key task (task_calls task past)) job.tasks c.as_slice-kept-items.result.now
    = subst (λ (xs : List KeyStretches). Each (λ task. AreKeptOn key task (task_calls task past)) job.tasks xs) (sym same) each in
    let inside : i < length c.as_slice-kept-items.result.now = omega arith in
    let kept = each_at (λ task. AreKeptOn key task (task_calls task past)) job.tasks c.as_slice-kept-items.result.now listed_each i c.kept-item.result inside c.kept-item.is in
    let own : AreStretches c.kept-item.result.key (task_calls (i + 1) past) c.in_ok-stretches.field-0.items
    = c.in_ok-stretches.ensures (task_calls (i + 1) past) kept.1 in
    let of_key : AreStretches key (task_calls (i + 1) past) c.in_ok-stretches.field-0.items
    = subst (λ (k : ℕ). AreStretches k (task_calls (i + 1) past) c.in_ok-stretches.field-0.items) kept.0 own in
    let listed : AreStretches key (task_calls (i + 1) past) c.from_vec.result
    = subst (λ (xs : List Stretch). AreStretches key (task_calls (i + 1) past) xs) (sym c.from_vec.ensures) of_key in
    subst (λ (xs : List (List Stretch)). Each holds (i + 1) xs) (sym c.in_ok-push.ensures.items)
    (each_push holds i c.loop-kept.all.items (c.loop-kept.invariant job past key each) c.from_vec.result listed)

pub returns : goal.returns
returns c job past key each =
    let holds : ℕ → List Stretch → Type 0 = λ task. AreStretches key (task_calls task past) in
    let same : length c.as_slice-kept-items.result.now ≡ length c.args.self.now.tasks.items = ap (λ (xs : List KeyStretches). length xs) c.as_slice-kept-items.ensures.value in
    let count : c.loop-kept.kept-index ≡ job.tasks = omega (arith, each.0, same) in
    subst (λ (n : ℕ). Each holds n c.loop-kept.all.items) count (c.loop-kept.invariant job past key each)
