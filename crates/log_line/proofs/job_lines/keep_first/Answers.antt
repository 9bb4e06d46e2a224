use Rattle.std.proofs.Common.{rules, ◌≡◌, false}
use Rattle.std.specs.Prelude.{is_none}
use Rattle.log_line.proofs.LineTaking.{first_stays_so}
use Rattle.log_line.proofs.job_lines.keep_first.Goals as goal

pub returns-else-is_none : goal.returns-else-is_none
returns-else-is_none c = λ lines known.
    let some : is_none c.args.first.now ≡ false = search rules in
    first_stays_so lines _ c.args.first.now some known
