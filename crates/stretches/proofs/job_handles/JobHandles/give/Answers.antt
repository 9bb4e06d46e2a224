use Rattle.std.proofs.Common.{◌≡◌, ℕ, ◌<◌, ◌∷◌, ◌++◌, [], List, map, length, true, sym, ap, subst, ◌∙◌, arith}
use Rattle.std.specs.Prelude.{Some, slice_get}
use Rattle.std.proofs.Math.ListN.{set}
use Rattle.std.proofs.lemmas.List.{map-set}
use Rattle.std.proofs.lemmas.Option.{slice_get-get_or}
use Rattle.machines.specs.Numbers.{is_within}
use Rattle.cluster.proofs.ActorLists.{within_at}
use Rattle.cluster.specs.Pasts.{task_calls}
use Rattle.stretches.specs.declared.breaks.GivenHandle.{GivenHandle}
use Rattle.stretches.specs.declared.breaks.TaskHandles.{TaskHandles}
use Rattle.stretches.specs.Breaks.{AreBreaks, named}
use Rattle.stretches.specs.Tasks.{names_of}
use Rattle.stretches.proofs.Lists.{each_at, each_set}
use Rattle.stretches.proofs.Tasks.{when_ok}
use Rattle.stretches.proofs.job_handles.JobHandles.give.Goals as goal

pub returns-in-Some-clause-named : goal.returns-in-Some-clause-named
returns-in-Some-clause-named c job past leads count =
    let items = c.args.self.now.tasks.items in
    let place = c.in-Some.place in
    let old = c.index_mut.result.now in
    let new = c.give_one.new.kept in
    let same : c.as_slice.result.now ≡ items = c.as_slice.ensures.value in
    let inside : place < length items = subst (λ (xs : List TaskHandles). place < length xs) same c.in-Some.ensures.1 in
    let within : is_within c.args.task job.tasks ≡ true = within_at place c.args.task job.tasks c.in-Some.ensures.0 (omega (arith, inside, count)) in
    let there : slice_get items place ≡ Some old = slice_get-get_or items place old inside ∙ ap (λ (k : TaskHandles). Some k) (sym c.index_mut.ensures.value) in
    when_ok c.give_one.result (c.give_one.ensures.named job past leads within)
    (λ names other kept number got.
    let own : other ≡ place = omega (arith, number, c.in-Some.ensures.0) in
    let is_old : Some kept ≡ Some old = sym got ∙ ap (slice_get items) own ∙ there in
    let is : kept ≡ old = cc in
    map-set (λ (k : TaskHandles). map named k.handles.items) items place new
    ∙ ap (λ (xs : List GivenHandle). set (names_of items) place xs) names
    ∙ ap (λ (k : TaskHandles). set (names_of items) place (map named k.handles.items
    ++ record { number = c.args.number; process = k.process; handle = c.args.handle; from = c.args.at; breaks = 0 } ∷ [])) (sym is)
    ∙ ap (λ (n : ℕ). set (names_of items) n (map named kept.handles.items
    ++ record { number = c.args.number; process = kept.process; handle = c.args.handle; from = c.args.at; breaks = 0 } ∷ [])) (sym own))

pub returns-in-Some-clause-breaks : goal.returns-in-Some-clause-breaks
returns-in-Some-clause-breaks c job past leads late each =
    let items = c.args.self.now.tasks.items in
    let place = c.in-Some.place in
    let same : c.as_slice.result.now ≡ items = c.as_slice.ensures.value in
    let inside : place < length items = subst (λ (xs : List TaskHandles). place < length xs) same c.in-Some.ensures.1 in
    let within : is_within c.args.task job.tasks ≡ true = within_at place c.args.task job.tasks c.in-Some.ensures.0 (omega (arith, inside, each.0)) in
    let old : AreBreaks c.args.task (task_calls c.args.task past) c.index_mut.result.now
    = subst (λ (n : ℕ). AreBreaks n (task_calls n past) c.index_mut.result.now) c.in-Some.ensures.0 (each_at (λ task. AreBreaks task (task_calls task past)) job.tasks items each place c.index_mut.result.now inside c.index_mut.ensures.value) in
    when_ok c.give_one.result (c.give_one.ensures.breaks job past leads late within old)
    (λ new. each_set (λ task. AreBreaks task (task_calls task past)) job.tasks items each (λ task. AreBreaks task (task_calls task past)) place c.give_one.new.kept inside
    (subst (λ (n : ℕ). AreBreaks n (task_calls n past) c.give_one.new.kept) (sym c.in-Some.ensures.0) new)
    (λ i one other k. k))
