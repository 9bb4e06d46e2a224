use Rattle.std.proofs.Common.{arith}
use Rattle.stretches.proofs.Breaking.{begun}
use Rattle.stretches.proofs.breaks.TaskHandles.begin_process.Goals as goal

pub returns-clause-kept : goal.returns-clause-kept
returns-clause-kept c task calls life kept few =
    record {
      process = omega (arith, c.saturating_add-self.ensures, kept.process, few);
      each = λ i given got. begun task calls life given (kept.each i given got);
    }
