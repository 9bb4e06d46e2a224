use Rattle.std.proofs.Common.{sym, arith}
use Rattle.snapshot_text.proofs.Cuts.{shorter}
use Rattle.snapshot_text.proofs.lines.Lines.take.Goals as goal

pub invariant_of-self : goal.invariant_of-self
invariant_of-self c =
    let less = shorter c.self.inside.rest.now c.in-Some.line.now c.in-Some.rest.now (sym c.in-Some.ensures) in
    omega (arith, c.self.invariant)
