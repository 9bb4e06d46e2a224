-- What makes the output of a script with numbers.
use Rattle.std.proofs.Common.{◌≡◌, ℕ, Bool, true, MatchBool, List, [], length, reverse, refl}
use Rattle.std.specs.List.{list_all}
use Rattle.replies.specs.declared.reply.Reply.{Reply}
use Rattle.world.specs.declared.step.Step.{Step}
use Rattle.world.specs.Pasts.{IsTimely}
use Rattle.grants.specs.Policies.{is_policy}
use Rattle.world.specs.Runs.{IsRun, past_after}
use Rattle.service.specs.declared.script.Script.{Script}
use Rattle.service.specs.Output.{text_of, is_answer}
use Rattle.command.specs.Runs.{IsShownNumbered, numbered_text}

pub is_output : (script : Script) (steps : List Step) (replies shown : List Reply) (timely : Bool) (text : List ℕ)
    → is_policy script.job.policy ≡ true → steps ≡ script.steps → shown ≡ replies
    → length replies ≡ length steps → IsRun script.job (past_after [] steps replies) → list_all is_answer shown ≡ true
    → MatchBool timely (IsTimely script.job.policy.skew (reverse script.steps)) (IsTimely script.job.policy.skew (reverse script.steps) → ⊥) → text ≡ numbered_text steps shown timely
    → IsShownNumbered script text
is_output script steps replies shown timely text within steps_is shown_is many run answers by_readings lines = record {
  plain = text_of replies timely;
  output = record {
    within = within;
    replies = replies;
    many = rw (← steps_is) many;
    run = rw (← steps_is) run;
    answers = rw (← shown_is) answers;
    timely = timely;
    by_readings = by_readings;
    lines = refl;
  };
  lines = rw (← steps_is, ← shown_is) lines;
}
