-- The first faults of the elements, as a loop over them tells them.
use Rattle.std.proofs.Common.{◌≡◌, ℕ, zero, suc, ◌+◌, ◌-◌, ◌≤◌, ◌<◌, List, [], ◌∷◌, ◌++◌, map, length, take, drop, get_or, IsOk, Result, Ok, Err, refl, sym, ap, ◌∙◌, append_assoc, arith, add-one, drop-cons, length-append}
use Rattle.std.proofs.lemmas.List.{append-nil, drop_all, length-map, map-append}
use Rattle.serde_json.specs.Data.{Data}
use Rattle.world.specs.Jobs.{Job}
use Rattle.world.specs.declared.step.Step.{Step}
use Rattle.program_io.specs.declared.fault.WrongForm.{WrongForm}
use Rattle.program_io.specs.Members.{wrong}
use Rattle.faults.specs.declared.script_error.ScriptError.{ScriptError}
use Rattle.faults.specs.declared.script_error.ScriptError.TheVariants.{BadStep}
use Rattle.service.specs.Steps.{step_of}
use Rattle.diagnosis.specs.Faults.{before, bad_steps}

-- what is told so far, and what is still to tell of the elements from the place k on, up to so many
abbrev pub told_of : {V : Type 0} → (V → Data) → ℕ → Job → List ScriptError → ℕ → List V → List ScriptError
told_of v most job front k xs = front ++ take (most - length front) (bad_steps job (1 + k) (map v (drop k xs)))

-- the element at k stands first of what is left
opened : {V : Type 0} (v : V → Data) (job : Job) (k : ℕ) (xs : List V) (x : V) → k < length xs → x ≡ get_or xs k x
    → bad_steps job (1 + k) (map v (drop k xs)) ≡ before (step_of job (v x)) (1 + k) (bad_steps job (1 + (k + 1)) (map v (drop (k + 1) xs)))
opened v job k xs x lt is =
    let first : drop k xs ≡ x ∷ drop (k + 1) xs = rw (add-one, drop-cons xs k x, ← is) refl in
    let next : 1 + (k + 1) ≡ suc (1 + k) = omega arith in
    rw (first, next) refl

passed : (r : Result Step WrongForm) (place : ℕ) (others : List ScriptError) → IsOk r → before r place others ≡ others
passed (Ok step) place others ok = refl
passed (Err e) place others ok = absurd (cc)

pub passes : {V : Type 0} (v : V → Data) (most : ℕ) (job : Job) (front : List ScriptError) (k : ℕ) (xs : List V) (x : V) (total : List ScriptError)
    → k < length xs → x ≡ get_or xs k x → IsOk (step_of job (v x)) → told_of v most job front k xs ≡ total → told_of v most job front (k + 1) xs ≡ total
passes v most job front k xs x total lt is read so_far =
    let one : bad_steps job (1 + k) (map v (drop k xs)) ≡ bad_steps job (1 + (k + 1)) (map v (drop (k + 1) xs)) =
    opened v job k xs x lt is ∙ passed (step_of job (v x)) (1 + k) (bad_steps job (1 + (k + 1)) (map v (drop (k + 1) xs))) read in
    rw (← one) so_far

taken : (n m : ℕ) (front : List ScriptError) (x : ScriptError) (rest : List ScriptError) → n ≡ suc m → front ++ take n (x ∷ rest) ≡ (front ++ x ∷ []) ++ take m rest
taken n m front x rest e = rw e (simp append_assoc)

pub tells : {V : Type 0} (v : V → Data) (most : ℕ) (job : Job) (front : List ScriptError) (k : ℕ) (xs : List V) (x : V) (total : List ScriptError)
    → k < length xs → x ≡ get_or xs k x → step_of job (v x) ≡ Err wrong → length front < most
    → told_of v most job front k xs ≡ total → told_of v most job (front ++ BadStep (1 + k) ∷ []) (k + 1) xs ≡ total
tells v most job front k xs x total lt is read room so_far =
    let rest = bad_steps job (1 + (k + 1)) (map v (drop (k + 1) xs)) in
    let one : bad_steps job (1 + k) (map v (drop k xs)) ≡ BadStep (1 + k) ∷ rest = rw (opened v job k xs x lt is, read) refl in
    let longer : length (front ++ BadStep (1 + k) ∷ []) ≡ length front + 1 = length-append front (BadStep (1 + k) ∷ []) in
    let less : most - length front ≡ suc (most - length (front ++ BadStep (1 + k) ∷ [])) = omega (arith, longer, room) in
    sym (taken (most - length front) (most - length (front ++ BadStep (1 + k) ∷ [])) front (BadStep (1 + k)) rest less)
    ∙ sym (ap (λ (bad : List ScriptError). front ++ take (most - length front) bad) one) ∙ so_far

-- the same of faults that hold their refusals
pub tells_fault : {V F : Type 0} (v : V → Data) (refusal : F → ScriptError) (most : ℕ) (job : Job) (faults faults_new : List F) (fault : F) (place k : ℕ) (xs : List V) (x : V) (total : List ScriptError)
    → k < length xs → x ≡ get_or xs k x → step_of job (v x) ≡ Err wrong → length faults < most → faults_new ≡ faults ++ fault ∷ [] → refusal fault ≡ BadStep place → place ≡ 1 + k
    → told_of v most job (map refusal faults) k xs ≡ total → told_of v most job (map refusal faults_new) (k + 1) xs ≡ total
tells_fault v refusal most job faults faults_new fault place k xs x total lt is read room grown named at so_far =
    let fits : length (map refusal faults) < most = rw (length-map faults refusal) room in
    let more : map refusal faults_new ≡ map refusal faults ++ BadStep (1 + k) ∷ [] =
    ap (map refusal) grown ∙ map-append refusal faults (fault ∷ []) ∙ ap (λ (f : ScriptError). map refusal faults ++ f ∷ []) (named ∙ ap BadStep at) in
    rw more (tells v most job (map refusal faults) k xs x total lt is read fits so_far)

pub is_full : {V : Type 0} (v : V → Data) (most : ℕ) (job : Job) (front : List ScriptError) (k : ℕ) (xs : List V) (total : List ScriptError)
    → most ≤ length front → told_of v most job front k xs ≡ total → front ≡ total
is_full v most job front k xs total full so_far =
    let none : most - length front ≡ 0 = omega (arith, full) in
    sym (append-nil front) ∙ rw none at so_far

take_none : (n : ℕ) → take {A = ScriptError} n [] ≡ []
take_none zero = refl
take_none (suc n) = refl

pub is_done : {V : Type 0} (v : V → Data) (most : ℕ) (job : Job) (front : List ScriptError) (k : ℕ) (xs : List V) (total : List ScriptError)
    → length xs ≤ k → told_of v most job front k xs ≡ total → front ≡ total
is_done v most job front k xs total le so_far =
    let none : drop k xs ≡ [] = drop_all k xs le in
    let nothing : (n : ℕ) → take n (bad_steps job (1 + k) (map v (drop k xs))) ≡ [] = λ n. rw none (take_none n) in
    sym (append-nil front) ∙ rw (nothing (most - length front)) at so_far
