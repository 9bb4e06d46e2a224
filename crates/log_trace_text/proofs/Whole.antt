-- No value of a call of logs has a fraction, so that its text is the compact one.
use Rattle.std.proofs.Common.{◌≡◌, ℕ, ◌+◌, List, Option, Some, None, Result, Ok, Err, IfOk, false, refl}
use Rattle.serde_json.specs.Data.{Data, array, boolean, null, number, object, string}
use Rattle.serde_json.specs.Written.{has_float}
use Rattle.reasons.specs.declared.reason.Reason.{Reason}
use Rattle.log_line.specs.declared.entry.LogEntry.{LogEntry}
use Rattle.log_causes.specs.declared.cause.Unsent.{Unsent as Found}
use Rattle.log_trace.specs.declared.line.LogLine.{LogLine as Told}
use Rattle.reply_values.specs.declared.answered.Warnings.{Warnings}
use Rattle.reply_values.specs.Answered.{IsWholeIf, answered_data}
use Rattle.reply_values.proofs.Putting.{answered_whole}
use Rattle.call_values.specs.Calls.{call_data}
use Rattle.call_values.specs.Told.{told_data}
use Rattle.call_values.proofs.Calls.{call_whole}
use Rattle.call_values.proofs.CallerReplies.{told_whole}
use Rattle.reason_values.specs.declared.place.LogLine.{LogLine}
use Rattle.reason_values.proofs.Whole.{reason_whole, unsent_whole, with_place_whole}
use Rattle.log_trace_text.specs.Calls.{decided_data, no_warnings, number_of, placed_data, told_call_data, untold_call_data}
use Rattle.log_trace_text.specs.Places.{with_place_in}
use Rattle.log_trace_text.specs.Unsent.{unsent_of}

place_in_whole : (places : List LogLine) (call : ℕ) (d : Data) → has_float d ≡ false → has_float (with_place_in places call d) ≡ false
place_in_whole places call (object members) whole = with_place_whole places call members whole
place_in_whole places call null whole = whole
place_in_whole places call (boolean b) whole = whole
place_in_whole places call (number n) whole = whole
place_in_whole places call (string s) whole = whole
place_in_whole places call (array items) whole = whole

decided_whole : (places : List LogLine) (entries : List LogEntry) (found : Option Found) (first : Option ℕ) (why : Option Reason)
    → IsWholeIf (decided_data places entries found first why)
decided_whole places entries (Some found) first why = unsent_whole places (unsent_of entries found)
decided_whole places entries None first None = tt
decided_whole places entries None first (Some why) = reason_whole places (number_of entries first) why

placed_whole : (places : List LogLine) (call : ℕ) (entry : LogEntry) (reply why : Option Data) (warnings : Warnings) → IsWholeIf reply → IsWholeIf why
    → has_float (placed_data places call entry reply why warnings) ≡ false
placed_whole places call entry reply why warnings reply_whole why_whole =
    let told = answered_data (call_data entry.line.call) (Some entry.line.ticket) reply why warnings in
    place_in_whole places call told
    (answered_whole told (call_data entry.line.call) (Some entry.line.ticket) reply why warnings refl (call_whole entry.line.call) reply_whole why_whole)

pub told_call_whole : (places : List LogLine) (entries : List LogEntry) (entry : LogEntry) (line : Told) (warnings : Warnings)
    → has_float (told_call_data places entries entry line warnings) ≡ false
told_call_whole places entries entry line warnings =
    placed_whole places (line.index + 1) entry (Some (told_data line.reply)) (decided_data places entries line.unsent line.first_taking line.reason)
    warnings (told_whole line.reply)
    (decided_whole places entries line.unsent line.first_taking line.reason)

pub untold_call_whole : (places : List LogLine) (call : ℕ) (entry : LogEntry) → has_float (untold_call_data places call entry) ≡ false
untold_call_whole places call entry = placed_whole places call entry None None no_warnings tt tt

-- the text of a value without fractions
pub written : {X E : Type 0} (r : Result X E) (text : X → List ℕ) (tell : Data → List ℕ) (value wanted : Data) → value ≡ wanted
    → has_float wanted ≡ false → IfOk r (λ x. has_float value ≡ false → text x ≡ tell value) → IfOk r (λ x. text x ≡ tell wanted)
written (Ok x) text tell value wanted same whole told = rw (← same) (told (rw same whole))
written (Err e) text tell value wanted same whole told = tt
