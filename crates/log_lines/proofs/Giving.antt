-- A line that was made is given, if there is room for it.
use Rattle.std.proofs.Common.{◌≡◌, ℕ, List, Option, Some, Result, Ok, Err, IfOk, IfErr, sym, subst, inl, inr}
use Rattle.c_calls.specs.declared.answer.Answer.{Answer}
use Rattle.c_calls.specs.Outputs.{IsListGiven, IsOutOfMemory, Output}
use Rattle.log_lines.specs.declared.numbers.LoggedNumbers.{LoggedNumbers}
use Rattle.log_lines.specs.Lines.{IsLineGiven, IsLineOf}
use Rattle.log_lines.specs.Replies.{Logged}

pub line_given : {X E : Type 0} (made : Result X E) (items : X → List ℕ) (n : LoggedNumbers) (found : Option Logged) (logged : Logged) (was now : Output ℕ) (answer : Answer)
    → found ≡ Some logged → IfOk made (λ x. IsLineOf n.ticket logged (items x)) → IfOk made (λ x. IsListGiven (items x) was.buffer now.buffer now.needed answer)
    → IfErr made (λ _. IsOutOfMemory was now answer) → IsLineGiven n found was now answer
line_given (Ok x) items n found logged was now answer e line given memory =
    subst (λ l. IsLineGiven n l was now answer) (sym e) (inl (record { list = items x; is = line; given = given }))
line_given (Err why) items n found logged was now answer e line given memory = subst (λ l. IsLineGiven n l was now answer) (sym e) (inr memory)
