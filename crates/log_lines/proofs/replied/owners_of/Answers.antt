use Rattle.std.proofs.Common.{arith, ap, length}
use Rattle.std.proofs.lemmas.List.{length-take}
use Rattle.log_lines.proofs.replied.owners_of.Goals as goal

pub push-requires : goal.push-requires
push-requires c =
    let few = c.requires.few in
    let pushed = simp length-take at (ap length c.loop-number.invariant) in
    (omega arith, omega arith)
