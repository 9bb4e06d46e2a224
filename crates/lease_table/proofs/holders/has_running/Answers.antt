use Rattle.std.proofs.Common.{rules}
use Rattle.std.proofs.lemmas.Fn.{filter_same}
use Rattle.grants.specs.Rows.{runs_at}
use Rattle.lease_table.proofs.holders.has_running.Goals as goal

pub returns-clause-left : goal.returns-clause-left
returns-clause-left c = filter_same _ (runs_at c.args.at) _ (λ x b f' k. search rules) _ _ c.retain.ensures.filtered
