-- What a machine's answer says of the answer to C.
use Rattle.std.proofs.Common.{◌≡◌, Result, Ok, Err, refl, sym, subst, inl, inr}
use Rattle.std.proofs.lemmas.Bool.{true≢false}
use Rattle.machines.specs.declared.machine.Trouble.{Trouble}
use Rattle.machines.specs.declared.machine.Trouble.TheVariants.{Refused, NoMemory}
use Rattle.machines.specs.Answers.{Takes}
use Rattle.c_calls.specs.declared.answer.Answer.{Answer}
use Rattle.c_calls.specs.Taken.{IsTaken, answer_to}

-- a machine that takes its step answers as the step says
pub taken : {M R F : Type 0} (done : R → Answer) (refused : F → Answer) (step : Result (M × R) F) (old new : M) (given : Result R (Trouble F))
    (answer : Answer) → Takes step old given new → answer ≡ answer_to done refused given → IsTaken done refused step old new answer
taken done refused step old new (Ok reply) answer e is = subst (λ s. IsTaken done refused s old new answer) (sym e) (inl (is, refl))
taken done refused step old new (Err (Refused why)) answer t is = subst (λ s. IsTaken done refused s old new answer) (sym t.0) (is, t.1)
taken done refused (Ok p) old new (Err NoMemory) answer t is = inr (is, t.1)
taken done refused (Err why) old new (Err NoMemory) answer t is = absurd (true≢false (sym t.0))
