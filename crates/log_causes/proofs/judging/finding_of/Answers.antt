use Rattle.std.proofs.Common.{arith}
use Rattle.log_causes.proofs.Judged.{caused_here}
use Rattle.log_causes.proofs.judging.finding_of.Goals as goal

pub returns-in_ok-cause-in-Other-clause-found : goal.returns-in_ok-cause-in-Other-clause-found
returns-in_ok-cause-in-Other-clause-found c = λ job begins judged.
    let is = rw c.in-Other.is at judged in
    let fault = is.1.fault in
    let because = c.in_ok-cause-in-Other.ensures job fault.after begins (c.cluster.ensures job fault.after is.1.played) in (
      is.0,
      caused_here job c.args.entries.now c.in-Other.index c.in-Other.wanted c.in-Other.held c.in_ok-cause-in-Other.cause c.index-entries-index.result (omega arith)
          c.index-entries-index.is fault because,
    )
