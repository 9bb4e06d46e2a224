use Rattle.std.proofs.Common.{◌==◌, arith, subst, cond, map, List}
use Rattle.std.proofs.lemmas.List.Sorted.{sum_by-IsPermutation}
use Rattle.audit.specs.declared.points.Point.{Point}
use Rattle.audit.specs.OneRun.{Turn, Rises, all_turns}
use Rattle.audit.specs.Shown.{turn_of, evidence}
use Rattle.audit.proofs.Rising.{doubled}
use Rattle.audit.proofs.Turning.{audit_of, in_order, tickets_distinct}
use Rattle.audit.proofs.auditing.audit.Goals as goal

pub returns-in-Some : goal.returns-in-Some
returns-in-Some c =
    let points = c.in_ok-points.points.items in let ticket = c.in-Some.ticket in
    let at = rw c.deref.ensures.value at c.in-Some.ensures in
    let two = doubled (λ (t : Turn). t.ticket) turn_of points at.0 ticket at.1 at.2 in
    let same = sum_by-IsPermutation (λ (t : Turn). cond (t.ticket == ticket) 1 0) (all_turns (evidence c.args.table.now c.args.tasks.now c.args.clerks.now c.args.records.now)) (map turn_of points) c.in_ok-points.ensures.each in
    omega (arith, two, same)

pub returns-in-Some-first_fall : goal.returns-in-Some-first_fall
returns-in-Some-first_fall c =
    let points = c.in_ok-points.points.items in let e = evidence c.args.table.now c.args.tasks.now c.args.clerks.now c.args.records.now in
    let distinct = subst (λ (ps : List Point). Rises (λ p. (turn_of p).ticket) ps) c.deref.ensures.value c.in_default.ensures in
    (tickets_distinct turn_of e points c.in_ok-points.ensures.each distinct, c.in-Some-first_fall.ensures c.args.records.now)

pub returns : goal.returns
returns c =
    let points = c.in_ok-points.points.items in let e = evidence c.args.table.now c.args.tasks.now c.args.clerks.now c.args.records.now in
    let distinct = subst (λ (ps : List Point). Rises (λ p. (turn_of p).ticket) ps) c.deref.ensures.value c.in_default.ensures in
    let order = in_order turn_of e points c.in_ok-points.ensures.each distinct (c.in_default-first_fall.ensures c.args.records.now) in
    audit_of c.args.job.now e (map turn_of points) c.replay.result order (rw c.deref-2.ensures.value at c.replay.ensures)
