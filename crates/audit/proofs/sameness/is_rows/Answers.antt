use Rattle.std.proofs.Common.{rules, ◌≡◌, Bool, Decides, subst, sym}
use Rattle.std.specs.Cmp.Lexicographic.{pointwise_decides}
use Rattle.grants.specs.declared.values.Row.{Row}
use Rattle.audit.proofs.Comparing.{same_rows}
use Rattle.audit.proofs.sameness.is_rows.Goals as goal

pub returns-in-Rows : goal.returns-in-Rows
returns-in-Rows c =
    same_rows c.eq.result c.args.told.now c.args.rows.now c.in-Rows.other c.in-Rows.is
    (subst (λ (b : Bool). Decides b (c.args.rows.now ≡ c.in-Rows.other)) (sym c.eq.ensures) (pointwise_decides (λ (a b : Row). search rules) c.args.rows.now c.in-Rows.other))
