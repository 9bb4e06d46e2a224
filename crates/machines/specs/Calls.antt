-- Calls of a machine with their answers, and where they lead.
use Rattle.std.specs.Prelude.{List, ◌∷◌, Result, Ok, Err}

-- a call with its answer; out of memory is no answer, and changes nothing
pub record AnsweredCall (C R F : Type 0) : Type 0 where
  pub call : C
  pub answer : Result R F

abbrev pub answered_call : {C R F : Type 0} → C → Result R F → AnsweredCall C R F
answered_call call answer = record { call = call; answer = answer }

-- the answer of a step, without what it leaves
abbrev pub answer_of : {M R F : Type 0} → Result (M × R) F → Result R F
answer_of (Ok p) = Ok p.1
answer_of (Err refusal) = Err refusal

-- a step from where calls lead leads where they lead with this call and its answer, and a refused one nowhere else
abbrev pub LeadsOn : {M C R F : Type 0} → (List (AnsweredCall C R F) → M → Type 0) → List (AnsweredCall C R F) → M → C → Result (M × R) F → Type 0
LeadsOn leads past before call (Ok p) = leads (answered_call call (Ok p.1) ∷ past) p.0
LeadsOn leads past before call (Err refusal) = leads (answered_call call (Err refusal) ∷ past) before
