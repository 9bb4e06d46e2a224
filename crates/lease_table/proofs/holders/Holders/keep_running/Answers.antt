use Rattle.std.proofs.Common.{rules}
use Rattle.grants.specs.Rows.{runs_at}
use Rattle.lease_table.proofs.HeldRows.{filtered_lists}
use Rattle.lease_table.proofs.holders.Holders.keep_running.Goals as goal

pub returns-then-len-gt0 : goal.returns-then-len-gt0
returns-then-len-gt0 c = filtered_lists (λ rows. rows.items) _ (runs_at c.args.at) _ (λ k v b w g call. search rules) _ _ c.retain.ensures.filtered c.len.ensures.unique
