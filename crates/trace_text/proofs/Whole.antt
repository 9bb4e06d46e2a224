-- No value of a call has a fraction, so that its text is the compact one.
use Rattle.std.proofs.Common.{◌≡◌, ℕ, List, [], Option, Some, None, Result, Ok, Err, IfOk, codes, false, option_map, refl}
use Rattle.serde_json.specs.Data.{Data}
use Rattle.serde_json.specs.Written.{has_float}
use Rattle.wire.specs.Objects.{number_data}
use Rattle.wire.proofs.Grants.{grant_whole}
use Rattle.world.specs.declared.step.Step.{Step}
use Rattle.reply_values.specs.Answered.{IsWholeIf, answered_data}
use Rattle.reply_values.specs.Replies.{reply_data}
use Rattle.reply_values.proofs.Putting.{answered_whole, with_member_whole}
use Rattle.reply_values.proofs.Whole.{reply_whole}
use Rattle.call_values.specs.Steps.{step_data}
use Rattle.call_values.proofs.Steps.{step_whole}
use Rattle.reason_values.proofs.Whole.{reason_whole}
use Rattle.reason_values.specs.Lines.{line_text}
use Rattle.script_trace.specs.declared.delivered.Delivered.{Delivered}
use Rattle.script_trace.specs.declared.delivered.Delivered.TheVariants as delivered
use Rattle.script_trace.specs.declared.line.StepReason.{StepReason}
use Rattle.script_trace.specs.declared.line.StepReason.TheVariants as why
use Rattle.script_trace.specs.declared.line.TraceLine.{TraceLine}
use Rattle.trace_text.specs.Calls.{call_data, decided_data, delivered_data}

decided_whole : (why : Option StepReason) → IsWholeIf (decided_data why)
decided_whole None = tt
decided_whole (Some (why.Machines because)) = reason_whole [] None because
decided_whole (Some (why.Made number)) = refl

-- CALLS

delivered_whole : (sent : Delivered) → has_float (delivered_data sent) ≡ false
delivered_whole (delivered.Grant grant) = grant_whole grant
delivered_whole (delivered.Note note) = refl
delivered_whole (delivered.Handle handle) = refl

sent_whole : (sent : Option Delivered) → IsWholeIf (option_map delivered_data sent)
sent_whole None = tt
sent_whole (Some sent) = delivered_whole sent

pub call_whole : (step : Step) (line : TraceLine) → has_float (call_data step line) ≡ false
call_whole step line =
    let sent = option_map delivered_data line.delivered in
    let reply = Some (reply_data line.reply) in
    let reason = decided_data line.reason in
    let told = answered_data (step_data step sent) None reply reason (record { untimely = line.untimely; not_owner = line.not_owner }) in
    with_member_whole (codes "call") (number_data line.step) told refl
    (answered_whole told (step_data step sent) None reply reason (record { untimely = line.untimely; not_owner = line.not_owner }) refl
    (step_whole step sent (sent_whole line.delivered)) (reply_whole line.reply) (decided_whole line.reason))

-- LINES

-- the line of a value without fractions
pub written : {X E : Type 0} (r : Result X E) (text : X → List ℕ) (value wanted : Data) → value ≡ wanted → has_float wanted ≡ false
    → IfOk r (λ x. has_float value ≡ false → text x ≡ line_text value) → IfOk r (λ x. text x ≡ line_text wanted)
written (Ok x) text value wanted same whole line = rw (← same) (line (rw same whole))
written (Err e) text value wanted same whole line = tt
