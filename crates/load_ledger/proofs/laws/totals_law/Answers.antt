use Rattle.std.specs.Prelude.{sum_by}
use Rattle.load_ledger.specs.Books.{weight_of}
use Rattle.load_ledger.proofs.Totals.{gathered_more, total_of}
use Rattle.load_ledger.proofs.laws.totals_law.Goals as goal

pub returns-clause-next : goal.returns-clause-next
returns-clause-next c = gathered_more

pub returns-clause-total : goal.returns-clause-total
returns-clause-total c = λ gathers task low high. total_of (λ t. sum_by (weight_of t) gathers) task low high
