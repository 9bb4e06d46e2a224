use Rattle.std.proofs.Common.{subst}
use Rattle.std.specs.Prelude.{Option}
use Rattle.reasons.specs.declared.reason.Reason.{Reason}
use Rattle.reasons.specs.Reasons.{IsReason}
use Rattle.script_trace.proofs.tracer.call_reason.Goals as goal

pub returns-in-Some : goal.returns-in-Some
returns-in-Some c job calls placed call leads are asks =
    subst (λ (found : Option Reason). IsReason job calls placed call c.args.answer.now found) c.in-Some.is
    (c.in_ok-reason.ensures job calls placed call leads are asks)

pub returns-in-None : goal.returns-in-None
returns-in-None c job calls placed call leads are asks =
    subst (λ (found : Option Reason). IsReason job calls placed call c.args.answer.now found) c.in-None.is
    (c.in_ok-reason.ensures job calls placed call leads are asks)
