use Rattle.std.proofs.Common.{◌∙◌, sym}
use Rattle.log_causes.proofs.Hinting.{hint_alone, hint_at_start, hint_after_start}
use Rattle.log_causes.proofs.hint.hint_of.Goals as goal
use Rattle.log_causes.proofs.hint.hint_of.Goals.{in-Some+in_ok-hint+else-is_some, in_default}

pub returns-then-is_some : goal.returns-then-is_some
returns-then-is_some c = λ job begins.
    hint_at_start job c.args.entries.now c.args.task c.args.index _ c.in-Some.last c.in_ok-hint.hint (sym c.in-Some.ensures.value)
    (sym c.is_some.ensures ∙ c.if-is_some.true) (c.in_ok-hint.ensures job begins)

pub returns : goal.returns
returns c = λ job begins.
    let tried = c.in_ok-hint-2.ensures job begins in
    elim c.match-last_start.branch [
      | in-Some+in_ok-hint+else-is_some w ↦
          hint_after_start job c.args.entries.now c.args.task c.args.index _ w.in-Some.last w.in_ok-hint.hint _ (sym w.in-Some.ensures.value)
          (sym w.is_some.ensures ∙ w.if-is_some.false) (w.in_ok-hint.ensures job begins) tried
      | in_default w ↦ hint_alone job c.args.entries.now c.args.task c.args.index _ _ (sym w.in_default.ensures.value) tried
    ]
