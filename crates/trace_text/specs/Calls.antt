-- The lines of calls: each step with its place, what it delivers, its reply, and what is told of it.
use Rattle.std.specs.Prelude.{ℕ, List, [], ◌∷◌, ◌++◌, codes, Option, Some, None, option_map}
use Rattle.serde_json.specs.Data.{Data}
use Rattle.wire.specs.declared.numerals.Numerals.TheVariants.{Quoted}
use Rattle.wire.specs.Grants.{grant_data}
use Rattle.wire.specs.Handles.{handle_data}
use Rattle.wire.specs.Notes.{note_data}
use Rattle.wire.specs.Objects.{number_data}
use Rattle.world.specs.declared.step.Step.{Step}
use Rattle.reply_values.specs.Answered.{answered_data, with_member}
use Rattle.reply_values.specs.Replies.{reply_data}
use Rattle.call_values.specs.Steps.{step_data}
use Rattle.reason_values.specs.Lines.{line_text}
use Rattle.reason_values.specs.Reasons.{reason_data}
use Rattle.reason_values.specs.Unsent.{made_data}
use Rattle.script_trace.specs.declared.delivered.Delivered.{Delivered}
use Rattle.script_trace.specs.declared.delivered.Delivered.TheVariants as delivered
use Rattle.script_trace.specs.declared.line.StepReason.{StepReason}
use Rattle.script_trace.specs.declared.line.StepReason.TheVariants as why
use Rattle.script_trace.specs.declared.line.TraceLine.{TraceLine}

-- what a step delivers by its number, as messages have it
abbrev pub delivered_data : Delivered → Data
delivered_data (delivered.Grant grant) = grant_data Quoted grant
delivered_data (delivered.Note note) = note_data Quoted note
delivered_data (delivered.Handle handle) = handle_data Quoted handle

-- what decides the reply to a step, where the step and the reply do not say it all
abbrev pub decided_data : Option StepReason → Option Data
decided_data None = None
decided_data (Some (why.Machines reason)) = reason_data [] None reason
decided_data (Some (why.Made number)) = Some (made_data number)

-- a call of a script: its place is the number of its step
abbrev pub call_data : Step → TraceLine → Data
call_data step line = with_member (codes "call") (number_data line.step)
    (answered_data (step_data step (option_map delivered_data line.delivered)) None (Some (reply_data line.reply)) (decided_data line.reason)
    (record { untimely = line.untimely; not_owner = line.not_owner }))

-- a line for each of these steps
abbrev pub call_lines : List Step → List TraceLine → List ℕ
call_lines (step ∷ steps) (line ∷ lines) = line_text (call_data step line) ++ call_lines steps lines
call_lines _ _ = []
