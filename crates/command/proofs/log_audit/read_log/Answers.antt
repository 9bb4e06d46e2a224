use Rattle.std.proofs.Common.{rules, arith}
use Rattle.command.proofs.Logs.{cut_here, ended_here, nothing_more, nothing_taken, taken_more}
use Rattle.command.proofs.log_audit.read_log.Goals as goal

pub reads-init : goal.reads-init
reads-init g c = record { short = omega arith; taken = λ files reading. nothing_taken files _ c.args.log reading }

pub returns-then-run : goal.returns-then-run
returns-then-run g c = λ files reading.
    let more = c.if-run.true in
    cut_here files _ _ _ _ (omega (arith, more))
    (taken_more files _ _ _ _ _ _ _ _ (c.reads.invariant.taken files reading) c.in-Ok.ensures.bytes.0 (λ bytes so_far. c.run_after-run.ensures bytes so_far)
    (λ bytes known. c.in_ok-log-in-Ok.ensures files bytes known))

pub reads-preserved : goal.reads-preserved
reads-preserved g c =
    let few = c.if-run.false in
    record {
      short = omega (arith, few);
      taken = λ files reading.
          taken_more files _ _ _ _ _ _ _ _ (c.reads.invariant.taken files reading) c.in-Ok.ensures.bytes.0 (λ bytes so_far. c.run_after-run.ensures bytes so_far)
          (λ bytes known. c.in_ok-log-in-Ok.ensures files bytes known);
    }

pub returns-in-Ok-eq0 : goal.returns-in-Ok-eq0
returns-in-Ok-eq0 g c = λ files reading.
    ended_here files _ _ _ _ (search rules)
    (nothing_more files _ _ _ _ c.in-Ok-eq0.field-0 _ _ c.in-Ok-eq0.field-0-test c.in-Ok-eq0.ensures.bytes.0 (c.reads.invariant.taken files reading))
