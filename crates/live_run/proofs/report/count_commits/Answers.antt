use Rattle.std.proofs.Common.{◌∙◌, rules, tests}
use Rattle.std.proofs.lemmas.Iterator.{YieldsList-from_slice}
use Rattle.std.proofs.lemmas.Iterator.Consumers.{count_from_yields_List, YieldsList-from_filter}
use Rattle.std.proofs.lemmas.List.Sums.{length-filter}
use Rattle.history_lock.specs.declared.entry.Entry.{Entry}
use Rattle.grants.specs.declared.table_call.TableCall.{TableCall}
use Rattle.machines.specs.declared.event.Event.{Event}
use Rattle.live_run.specs.Reports.{is_commit}
use Rattle.live_run.proofs.report.count_commits.Goals as goal

pub returns : goal.returns
returns c =
    let committed = λ (entry : Entry (Event TableCall)). is_commit entry.event.call in
    count_from_yields_List c.filter.result _ c.count.ensures.ran
    (YieldsList-from_filter _ committed (YieldsList-from_slice c.args.entries.now cc) c.filter.ensures.closure (λ x b q k. search (rules, tests)))
    ∙ length-filter committed c.args.entries.now
