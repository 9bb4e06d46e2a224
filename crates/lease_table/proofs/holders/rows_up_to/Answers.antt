use Rattle.std.proofs.Common.{◌∙◌, rules, tests}
use Rattle.std.specs.Prelude.{nat_le}
use Rattle.std.proofs.lemmas.Iterator.{YieldsList-from_slice}
use Rattle.std.proofs.lemmas.Iterator.Consumers.{count_from_yields_List}
use Rattle.std.proofs.lemmas.Iterator.Search.{YieldsList-from_take_while}
use Rattle.std.proofs.lemmas.List.Folds.{length-prefix_len}
use Rattle.grants.specs.declared.values.Row.{Row}
use Rattle.lease_table.proofs.FreedRows.{first_up_to_number}
use Rattle.lease_table.proofs.holders.rows_up_to.Goals as goal

pub returns : goal.returns
returns c =
    let count = count_from_yields_List c.take_while.result _ c.count-count.ensures.ran
    (YieldsList-from_take_while _ (λ (row : Row). nat_le row.number c.args.number) (YieldsList-from_slice c.args.rows.now (cc)) c.take_while.ensures.closure c.take_while.ensures.done (λ x b q k. search (rules, tests)))
    ∙ length-prefix_len (λ (row : Row). nat_le row.number c.args.number) c.args.rows.now in
    rw count (first_up_to_number c.args.number c.args.rows.now c.requires)
