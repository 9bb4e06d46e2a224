use Rattle.std.proofs.Common.{◌∙◌, rules, tests}
use Rattle.std.proofs.lemmas.Iterator.{YieldsList-from_slice}
use Rattle.std.proofs.lemmas.Iterator.Consumers.{count_from_yields_List, YieldsList-from_filter}
use Rattle.std.proofs.lemmas.List.Sums.{length-filter}
use Rattle.job_calls.specs.declared.record.CallRecord.{CallRecord}
use Rattle.live_run.specs.Reports.{is_serve}
use Rattle.live_run.proofs.report.count_serves.Goals as goal

pub returns : goal.returns
returns c =
    let asked = λ (entry : CallRecord). is_serve entry.step in
    count_from_yields_List c.filter.result _ c.count.ensures.ran (YieldsList-from_filter _ asked (YieldsList-from_slice c.args.records.now cc) c.filter.ensures.closure (λ x b q k. search (rules, tests)))
    ∙ length-filter asked c.args.records.now
