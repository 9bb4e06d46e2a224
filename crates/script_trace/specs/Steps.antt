-- What the steps of a script deliver by numbers, and the calls that they make, each with the number of its step.
use Rattle.std.specs.Prelude.{ℕ, ◌+◌, List, [], ◌∷◌, length, reverse, Option, None, option_map, Result, Ok, Err}
use Rattle.job_calls.specs.declared.call.ClusterCall.{ClusterCall}
use Rattle.cluster.specs.Numbers.{with_number}
use Rattle.cluster.specs.Made.{handles_made, notes_made}
use Rattle.cluster.specs.Pasts.{Past as Calls, event as call_event, grants}
use Rattle.reasons.specs.Placed.{Placed}
use Rattle.replies.specs.declared.reply.Refusal.{Refusal}
use Rattle.replies.specs.declared.reply.Reply.{Reply}
use Rattle.replies.specs.declared.reply.Reply.TheVariants as reply
use Rattle.world.specs.Jobs.{Job}
use Rattle.world.specs.declared.step.Step.{Step}
use Rattle.world.specs.declared.step.Step.TheVariants as step
use Rattle.world.specs.Pasts.{Past}
use Rattle.world.specs.Calls.{answered, call_of, calls_in}
use Rattle.script_trace.specs.declared.delivered.Delivered.{Delivered}
use Rattle.script_trace.specs.declared.delivered.Delivered.TheVariants as delivered

-- what a step delivers by its number, where something of this number was made
abbrev pub delivered_in : Calls → Step → Option Delivered
delivered_in calls (step.Hear task number at) = option_map delivered.Grant (with_number number (grants calls))
delivered_in calls (step.Free number at) = option_map delivered.Note (with_number number (reverse (notes_made calls)))
delivered_in calls (step.Check task number at) = option_map delivered.Handle (with_number number (reverse (handles_made calls)))
delivered_in calls _ = None

-- one more call at a place; a step that is out of memory calls no machine
abbrev pub placed_unless : Reply → Placed → List Placed → List Placed
placed_unless reply.NoMemory p placed = placed
placed_unless _ p placed = p ∷ placed

-- the same of a step, if it makes a call
abbrev pub placed_with : ℕ → Reply → Result ClusterCall Refusal → List Placed → List Placed
placed_with number answer (Ok made) placed = placed_unless answer (record { place = number; event = call_event made (answered answer) }) placed
placed_with number answer (Err why) placed = placed

-- the calls that the steps of a past made, each at the number of its step, from 1
abbrev pub placed_in : Job → Past → List Placed
placed_in job [] = []
placed_in job (e ∷ past) = placed_with (length past + 1) e.reply (call_of job past (calls_in job past) e.step) (placed_in job past)
