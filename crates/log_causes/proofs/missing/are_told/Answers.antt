use Rattle.std.proofs.Common.{List, ◌∙◌, ap, sym}
use Rattle.std.specs.Prelude.{Some}
use Rattle.std.proofs.lemmas.Option.{slice_get-get_or}
use Rattle.log_line.specs.declared.entry.LogEntry.{LogEntry}
use Rattle.log_causes.proofs.Telling.{none_all, none_more}
use Rattle.log_causes.proofs.missing.are_told.Goals as goal

pub loop-index-preserved : goal.loop-index-preserved
loop-index-preserved c =
    let entries : List LogEntry = c.args.entries.now in
    let here : LogEntry = c.index-entries-index.result in
    none_more c.args.grants entries c.loop-index.index c.loop-index.invariant here
    (slice_get-get_or entries c.loop-index.index here c.loop-index-test.true ∙ ap (λ (e : LogEntry). Some e) (sym c.index-entries-index.is))
    (rw (c.if-branch.false, c.as_str.ensures) at c.in_ok-is_one_told.ensures)

pub returns : goal.returns
returns c = none_all c.args.grants c.args.entries.now c.loop-index.index c.loop-index.invariant c.loop-index-test.false
