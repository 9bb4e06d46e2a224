use Rattle.std.proofs.Common.{ℕ, ap}
use Rattle.log_causes.specs.declared.hint.MissingOpen.{MissingOpen}
use Rattle.log_causes.proofs.hint.hint_at.Goals as goal

pub returns-then-branch : goal.returns-then-branch
returns-then-branch c = λ job begins. (
  ap (λ (n : ℕ). let hint : MissingOpen = record { index = c.args.index; task = c.args.task; life = n } in hint) c.greatest_life-life.ensures,
  rw (c.greatest_life-life.ensures, c.if-branch.true) at (c.in_ok-is_run_opened.ensures job begins),
)

pub returns-else-branch : goal.returns-else-branch
returns-else-branch c = λ job begins. rw (c.greatest_life-life.ensures, c.if-branch.false) at (c.in_ok-is_run_opened.ensures job begins)
