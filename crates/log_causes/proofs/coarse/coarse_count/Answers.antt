use Rattle.std.proofs.Common.{◌+◌, ◌∙◌, ap, sym}
use Rattle.std.proofs.lemmas.List.{take_all}
use Rattle.std.proofs.lemmas.List.Sums.{count_by_more_no, count_by_more_yes}
use Rattle.std.specs.List.{count_by}
use Rattle.log_causes.specs.Coarse.{coarse_count, is_coarse_entry}
use Rattle.log_causes.proofs.coarse.coarse_count.Goals as goal
use Rattle.log_causes.proofs.coarse.coarse_count.Goals.{then-is_coarse_entry, else-is_coarse_entry}

pub loop-entry-preserved : goal.loop-entry-preserved
loop-entry-preserved c =
    let entries = c.args.entries.now in
    let i = c.loop-entry.entry-index in
    let item = c.entry-item.result in
    let here = ap is_coarse_entry (sym c.entry-item.is) ∙ sym c.is_coarse_entry.ensures in elim c.if-is_coarse_entry.branch [
      | then-is_coarse_entry w ↦
          rw w.count-is (ap (λ n. n + 1) c.loop-entry.invariant
          ∙ sym (count_by_more_yes is_coarse_entry entries i item c.loop-entry-test.true (here ∙ w.if-is_coarse_entry.true)))
      | else-is_coarse_entry w ↦
          rw w.count-is (c.loop-entry.invariant
          ∙ sym (count_by_more_no is_coarse_entry entries i item c.loop-entry-test.true (here ∙ w.if-is_coarse_entry.false)))
    ]

pub returns : goal.returns
unfolding coarse_count
returns c = c.loop-entry.invariant ∙ ap (count_by is_coarse_entry) (take_all c.loop-entry.entry-index c.args.entries.now c.loop-entry-test.false)
