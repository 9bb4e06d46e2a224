-- The calls of one clerk with their answers, newest first, and where they lead.
use Rattle.std.specs.Prelude.{◌≡◌, List, [], ◌∷◌, Option, None, Result, Ok}
use Rattle.assignment.specs.Slices.{Slicing}
use Rattle.clerk.specs.declared.call.ClerkCall.{ClerkCall}
use Rattle.clerk.specs.declared.call.ClerkCall.TheVariants.{Learn, Forget}
use Rattle.clerk.specs.declared.call.ClerkReply.{ClerkReply}
use Rattle.clerk.specs.declared.call.ClerkReply.TheVariants.{Learnt, Forgotten}
use Rattle.clerk.specs.declared.error.ClerkError.{ClerkError}
use Rattle.machines.specs.declared.event.Event.{Event}
use Rattle.machines.specs.Calls.{AnsweredCall}
use Rattle.machines.specs.Answers.{Answers, with_named_reply}
use Rattle.clerk.specs.Steps.{learn_step}

-- what a call answers and leaves, by its step
abbrev pub clerk_step : Option Slicing → ClerkCall → Result (Option Slicing × ClerkReply) ClerkError
clerk_step state (Learn slicing) = with_named_reply (λ _. Learnt) (learn_step state slicing)
clerk_step state Forget = Ok (None, Forgotten)

-- an event is its call, whatever its ticket
abbrev pub event_step : Option Slicing → Event ClerkCall → Result (Option Slicing × ClerkReply) ClerkError
event_step state event = clerk_step state event.call

-- a call of the clerk with its answer
abbrev pub AnsweredClerkCall : Type 0
AnsweredClerkCall = AnsweredCall ClerkCall ClerkReply ClerkError

-- a new clerk that was asked these calls and gave these answers keeps this assignment
abbrev pub LeadsTo : List AnsweredClerkCall → Option Slicing → Type 0
LeadsTo [] state = state ≡ None
LeadsTo (e ∷ past) state = (before : Option Slicing) × LeadsTo past before × Answers (clerk_step before e.call) before e.answer state
