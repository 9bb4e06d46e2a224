use Rattle.std.proofs.Common.{◌≡◌, ◌∙◌, ap, arith, vec_len}
use Rattle.live_run.specs.Reports.{job_keys}
use Rattle.live_run.proofs.Asked.{all_asked}
use Rattle.live_run.proofs.run.run_live.Goals as goal

pub close_all-requires-clause-keys : goal.close_all-requires-clause-keys
close_all-requires-clause-keys g c =
    let job = c.args.job.now in let is = c.in_ok-ended_run.ensures in
    let all : vec_len c.in_ok-ended_run.ended_run.tasks ≡ job.tasks = omega (arith, is.ended_run.one_each, is.many, c.in_ok-assigner.ensures.many, c.in_ok-objects.ensures.many) in
    is.ended_run.asked ∙ ap (λ n. job_keys job.workers job.asks 1 n) all

pub close_all-requires-clause-served : goal.close_all-requires-clause-served
close_all-requires-clause-served g c =
    let job = c.args.job.now in all_asked job.workers job.asks job.tasks c.in_ok-ended_run.ended_run.records.items (close_all-requires-clause-keys g c)
