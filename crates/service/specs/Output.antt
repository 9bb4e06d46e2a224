-- What is written for a script.
use Rattle.std.specs.Prelude.{◌≡◌, ℕ, Bool, true, false, MatchBool, List, [], ◌++◌, codes, if◌then◌else◌, length, reverse}
use Rattle.std.specs.List.{flat_map, list_all}
use Rattle.grants.specs.Policies.{is_policy}
use Rattle.world.specs.Pasts.{Past, IsTimely}
use Rattle.replies.specs.declared.reply.Reply.{Reply}
use Rattle.replies.specs.declared.reply.Reply.TheVariants as reply
use Rattle.world.specs.Runs.{IsRun, past_after}
use Rattle.service.specs.declared.script.Script.{Script}
use Rattle.replies.specs.Lines.{line_of}

-- the last line: whether the steps are timely
abbrev pub timely_line : Bool → List ℕ
timely_line timely = if timely then codes "timely yes\n" else codes "timely no\n"

-- the lines of the replies and the last line
abbrev pub text_of : List Reply → Bool → List ℕ
text_of replies timely = flat_map line_of replies ++ timely_line timely

-- a reply is another than `NoMemory`
abbrev pub is_answer : Reply → Bool
is_answer reply.NoMemory = false
is_answer _ = true

-- what a script and the replies to its steps tell, newest first
abbrev pub past_of : Script → List Reply → Past
past_of script replies = past_after [] script.steps replies

-- the text of a script, whose job is within its limits: there are replies, one for each step, that a job answers its steps with from their first on, none of them `NoMemory`; the text has
-- their lines, and says at its end whether the steps are timely
pub record IsOutput (script : Script) (text : List ℕ) : Type 0 where
  pub within : is_policy script.job.policy ≡ true
  pub replies : List Reply
  pub many : length replies ≡ length script.steps
  pub run : IsRun script.job (past_of script replies)
  pub answers : list_all is_answer replies ≡ true
  pub timely : Bool
  pub by_readings : MatchBool timely (IsTimely script.job.policy.skew (reverse script.steps)) (IsTimely script.job.policy.skew (reverse script.steps) → ⊥)
  pub lines : text ≡ text_of replies timely
