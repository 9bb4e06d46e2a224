use Rattle.std.proofs.Common.{ℕ, List, [], ◌∷◌, map, subst, ◌∙◌, ap, arith}
use Rattle.std.proofs.lemmas.List.{take_all, length-map}
use Rattle.grants.specs.Policies.{Terms}
use Rattle.job_calls.specs.declared.timing.Reading.{Reading}
use Rattle.cluster.specs.Pasts.{readings}
use Rattle.cluster.specs.Timeliness.{IsTimelinessOf}
use Rattle.cluster.specs.continued.Jobs.{from_start}
use Rattle.audit.specs.declared.points.Point.{Point}
use Rattle.audit.specs.Shown.{turn_of}
use Rattle.audit.proofs.Replaying.{IsPlayedTo, played_more, breaks_here, one_run}
use Rattle.audit.proofs.auditing.replay.Goals as goal

pub loop-point-init : goal.loop-point-init
loop-point-init c = record {
  past = [];
  told = tt;
  leads = c.in_ok-cluster.ensures;
  clocks = subst (λ (skew : ℕ). IsTimelinessOf skew [] c.new-timeliness.result) (c.skew.ensures ∙ ap (λ (p : Terms). p.skew) c.policy.ensures) c.new-timeliness.ensures;
}

pub returns-in-Some : goal.returns-in-Some
returns-in-Some c =
    let known = c.loop-point.invariant in
    let leads = c.in_ok-reply.ensures c.args.job known.past known.leads in
    rw c.ticket-ticket.ensures
    (breaks_here turn_of c.args.points.now c.loop-point.point-index c.point-item.result c.point-item.result c.loop-point-test.true c.point-item.is
    c.args.job known.past c.in_ok-reply.reply c.in-Some.why known.told (c.run_law.ensures.run (from_start c.args.job) _ leads) (rw c.told.ensures at c.in-Some.ensures))

pub loop-point-preserved : goal.loop-point-preserved
loop-point-preserved c =
    let known = c.loop-point.invariant in
    let leads = c.in_ok-reply.ensures c.args.job known.past known.leads in
    let clocks = subst (λ (r : Reading). IsTimelinessOf c.args.job.policy.skew (r ∷ readings known.past) c.read.new.self) c.reading.ensures
    (c.read.ensures c.args.job.policy.skew (readings known.past) known.clocks) in
    played_more turn_of c.args.points.now c.loop-point.point-index c.point-item.result c.point-item.result c.loop-point-test.true c.point-item.is
    c.args.job c.loop-point.cluster c.play.new.cluster c.loop-point.timeliness c.read.new.self c.in_ok-reply.reply known (rw c.told.ensures at c.in_default.ensures) leads clocks

pub returns : goal.returns
returns c =
    let known = subst (λ (ps : List Point). IsPlayedTo c.args.job (map turn_of ps) c.loop-point.cluster c.loop-point.timeliness)
    (take_all c.loop-point.point-index c.args.points.now c.loop-point-test.false) c.loop-point.invariant in
    one_run c.args.job (map turn_of c.args.points.now) c.loop-point.cluster c.loop-point.timeliness _ c.is_timely-timely.result known
    (c.run_law-2.ensures.run (from_start c.args.job) known.past known.leads)
    (let n = length-map c.args.points.now turn_of in omega (arith, n))
    (c.is_timely-timely.ensures c.args.job.policy.skew _ known.clocks)
