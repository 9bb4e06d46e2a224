use Rattle.std.proofs.Common.{◌≡◌, ℕ, ◌<◌, ◌∙◌, true, false, length, sym, ap, subst, arith}
use Rattle.cluster.specs.Pasts.{task_calls}
use Rattle.std.specs.Prelude.{List}
use Rattle.machines.specs.Numbers.{is_within}
use Rattle.cluster.proofs.ActorLists.{within_at}
use Rattle.stretches.specs.declared.key_stretches.KeyStretches.{KeyStretches}
use Rattle.stretches.specs.Tasks.{AreKeptOn}
use Rattle.stretches.proofs.Lists.{each_at}
use Rattle.stretches.proofs.Tasks.{kept_set, kept_strange, not_within, when_ok}
use Rattle.stretches.proofs.job_stretches.JobStretches.observe_task.Goals as goal

pub returns-in-Some : goal.returns-in-Some
returns-in-Some c job past key told taken leads few each =
    let items = c.args.self.now.tasks.items in
    let place = c.in-Some.place in
    let same : c.as_slice.result.now ≡ items = c.as_slice.ensures.value in
    let inside : place < length items = subst (λ (xs : List KeyStretches). place < length xs) same c.in-Some.ensures.1 in
    let within : is_within c.args.task job.tasks ≡ true = within_at place c.args.task job.tasks c.in-Some.ensures.0 (omega (arith, inside, each.0)) in
    let old : AreKeptOn key c.args.task (task_calls c.args.task past) c.index_mut.result.now
    = subst (λ (n : ℕ). AreKeptOn key n (task_calls n past) c.index_mut.result.now) c.in-Some.ensures.0 (each_at (λ task. AreKeptOn key task (task_calls task past)) job.tasks items each place c.index_mut.result.now inside c.index_mut.ensures.value) in
    when_ok c.observe_call.result (c.observe_call.ensures job past key told taken leads few within old)
    (λ new. kept_set (AreKeptOn key) job past c.args.task place c.args.call.now told items c.observe_call.new.kept c.in-Some.ensures.0 inside each new)

pub returns-in-None : goal.returns-in-None
returns-in-None c job past key told taken leads few each =
    let same : c.as_slice.result.now ≡ c.args.self.now.tasks.items = c.as_slice.ensures.value in
    let strange : is_within c.args.task (length c.args.self.now.tasks.items) ≡ false = ap (λ (xs : List KeyStretches). is_within c.args.task (length xs)) (sym same) ∙ c.in-None.ensures in
    kept_strange (AreKeptOn key) job past c.args.task c.args.call.now told c.args.self.now.tasks.items
    (λ i inside. not_within c.args.task (length c.args.self.now.tasks.items) i strange (omega (arith, inside, each.0))) each
