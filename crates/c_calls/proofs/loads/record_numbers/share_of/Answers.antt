use Rattle.std.proofs.Common.{◌∙◌, sym}
use Rattle.c_calls.proofs.Adding.{above_total}
use Rattle.c_calls.proofs.loads.record_numbers.share_of.Goals as goal

pub returns-then-are_above-clause-refused : goal.returns-then-are_above-clause-refused
returns-then-are_above-clause-refused c =
    above_total _ _ (sym c.no_share.ensures ∙ c.in_default.is) (sym (c.are_above.ensures c.args.task) ∙ c.if-are_above.true)
