use Rattle.std.proofs.Common.{◌≡◌, ◌+◌, ◌-◌, ◌≤◌, length, take, vec_len}
use Rattle.std.specs.Vec.{vec_capacity}
use Rattle.world.specs.Jobs.{Job}
use Rattle.world.specs.Pasts.{Past}
use Rattle.world.specs.Runs.{past_after}
use Rattle.world.specs.Worlds.{LeadsTo}
use Rattle.world.proofs.world.World.run.Given as goal

-- there is room for all replies, each step so far has one, and they lead on
abbrev pub invariant-loop-step : goal.invariant-loop-step
invariant-loop-step l = record {
  room : vec_len l.replies + (length l.steps - l.step-index) ≤ vec_capacity l.replies;
  answers : length l.replies.items ≡ l.step-index;
  leads : (job : Job) (past : Past) → LeadsTo job past l.initial.self → LeadsTo job (past_after past (take l.step-index l.steps) l.replies.items) l.self;
}
