-- The names of steps.
use Rattle.std.specs.Prelude.{ℕ, List, codes}
use Rattle.world.specs.declared.step.Step.{Step}
use Rattle.world.specs.declared.step.Step.TheVariants.{Assign, Check, Commit, DropTerm, Forget, Free, Gather, Grant, Hash, Hear, Hold, Judge, Learn, Load, Look, Lose, Next, Owners, Phase, Plan, Propose, Release, Renew, Rows, Serve, Start, Take}

-- the member `do` of a step
abbrev pub step_word : Step → List ℕ
step_word (Hash key) = codes "hash"
step_word (Assign generation slices) = codes "assign"
step_word (Owners key) = codes "owners"
step_word (Judge question) = codes "judge"
step_word (Take assigner at) = codes "take"
step_word (Renew assigner at) = codes "renew"
step_word (Propose assigner generation slices at) = codes "propose"
step_word (Commit assigner at) = codes "commit"
step_word Phase = codes "phase"
step_word Rows = codes "rows"
step_word (Grant task life at) = codes "grant"
step_word (Free note at) = codes "free"
step_word Lose = codes "lose"
step_word (Start task life at) = codes "start"
step_word (Hear task number at) = codes "hear"
step_word (Release task kind at) = codes "release"
step_word (Serve task key at) = codes "serve"
step_word (Hold task key at) = codes "hold"
step_word (Check task handle at) = codes "check"
step_word (Learn clerk generation) = codes "learn"
step_word (Look clerk key) = codes "look"
step_word (Forget clerk) = codes "forget"
step_word (Load task key weight) = codes "load"
step_word Gather = codes "gather"
step_word (Plan loads tasks bounds) = codes "plan"
step_word (Next assigner at wanted) = codes "next"
step_word (DropTerm assigner) = codes "restart"
