use Rattle.snapshot_text.proofs.Cuts.{found, not_found}
use Rattle.snapshot_text.proofs.lines.first_line.Goals as goal

pub returns-in-Some : goal.returns-in-Some
returns-in-Some c = found c.args.text.now c.in-Some.end c.in-Some.ensures

pub returns-in-None : goal.returns-in-None
returns-in-None c = not_found c.args.text.now c.in-None.ensures
