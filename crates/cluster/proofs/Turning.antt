-- What a machine leaves.
use Rattle.std.proofs.Common.{◌≡◌, ℕ, Bool, List, [], ◌∷◌, ◌++◌, refl, sym, ◌∙◌, ap}
use Rattle.std.specs.Prelude.{Result, Ok, Err, reverse}
use Rattle.std.proofs.lemmas.List.{reverse-append}
use Rattle.machines.specs.declared.machine.Trouble.{Trouble}
use Rattle.machines.specs.declared.machine.Trouble.TheVariants.{Refused, NoMemory}
use Rattle.machines.specs.Answers.{Takes, with_named_reply}
use Rattle.grants.specs.declared.values.Grant.{Grant}
use Rattle.grants.specs.declared.values.ReleaseNote.{ReleaseNote}
use Rattle.grants.specs.declared.slicelet_call.SliceletCall.TheVariants.{Hear}
use Rattle.grants.specs.declared.slicelet_call.SliceletReply.{SliceletReply}
use Rattle.grants.specs.declared.slicelet_call.SliceletReply.TheVariants.{Heard}
use Rattle.grants.specs.declared.slicelet_error.SliceletError.{SliceletError}
use Rattle.slicelet.specs.States.{SliceletState}
use Rattle.slicelet.specs.Steps.{hear_step, slicelet_step}
use Rattle.job_calls.specs.declared.reply.ClusterReply.TheVariants as reply
use Rattle.cluster.specs.Made.{note_told}
use Rattle.cluster.specs.internals.Turns.{notes_kept, known_after}

-- a machine that does not take a call stays as it is
pub stays : {M R E : Type 0} (step : Result (M × R) E) (old new : M) (trouble : Trouble E) → Takes step old (Err trouble) new → new ≡ old
stays step old new (Refused why) h = h.1
stays step old new NoMemory h = h.1

-- what an accepted step leaves
pub left_is : {M R E : Type 0} (p q : M × R) → (let step : Result (M × R) E = Ok p in step) ≡ Ok q → p.0 ≡ q.0
left_is p q e = cc

answer_is : {M R E : Type 0} (p q : M × R) → (let step : Result (M × R) E = Ok p in step) ≡ Ok q → p.1 ≡ q.1
answer_is p q e = cc

-- one more, newest first
pub reversed_more : {A : Type 0} (xs : List A) (x : A) → reverse (xs ++ x ∷ []) ≡ x ∷ reverse xs
reversed_more xs x = reverse-append xs (x ∷ [])

pub reversed_two : {A : Type 0} (xs : List A) (x y : A) → reverse ((xs ++ x ∷ []) ++ y ∷ []) ≡ y ∷ x ∷ reverse xs
reversed_two xs x y = reversed_more (xs ++ x ∷ []) y ∙ ap (λ (rest : List _). y ∷ rest) (reversed_more xs x)

-- a call that is heard sends no note
heard_reply : (s left : SliceletState) (grant : Grant) (at : ℕ) (told : SliceletReply) → slicelet_step s (Hear grant at) ≡ Ok (left, told) → told ≡ Heard
heard_reply s left grant at told e = by_step (hear_step s grant at) e
  where
    by_step : (step : Result (SliceletState × Unit {0}) SliceletError) → with_named_reply (λ _. Heard) step ≡ Ok (left, told) → told ≡ Heard
    by_step (Ok p) e = sym (answer_is (p.0, Heard) (left, told) e)
    by_step (Err why) e = absurd (cc)

pub heard_no_note : (s : SliceletState) (grant : Grant) (at : ℕ) (left : SliceletState) (answer : Result SliceletReply (Trouble SliceletError)) (notes : List ReleaseNote)
    → Takes (slicelet_step s (Hear grant at)) s answer left → notes ≡ notes_kept answer notes
heard_no_note s grant at left (Ok told) notes h = ap (λ (r : SliceletReply). note_told (reply.Task r) notes) (sym (heard_reply s left grant at told h))
heard_no_note s grant at left (Err trouble) notes h = refl

pub heard_none_known : (s : SliceletState) (grant : Grant) (at : ℕ) (left : SliceletState) (answer : Result SliceletReply (Trouble SliceletError))
    → Takes (slicelet_step s (Hear grant at)) s answer left → (known : ReleaseNote → Bool) → (note : ReleaseNote) → known note ≡ known_after answer note (known note)
heard_none_known s grant at left (Ok told) h known note =
    let told_by : SliceletReply → Result SliceletReply (Trouble SliceletError) = λ r. Ok r in
    ap (λ (r : SliceletReply). known_after (told_by r) note (known note)) (sym (heard_reply s left grant at told h))
heard_none_known s grant at left (Err trouble) h known note = refl
