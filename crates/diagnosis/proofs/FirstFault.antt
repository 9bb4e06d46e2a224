-- The first fault that is told is the one that a script is refused for.
use Rattle.std.proofs.Common.{◌≡◌, ℕ, suc, List, [], ◌∷◌, take, Result, Ok, Err, refl, sym, ap, ◌∙◌}
use Rattle.serde_json.specs.Data.{Data}
use Rattle.world.specs.Jobs.{Job}
use Rattle.world.specs.declared.step.Step.{Step}
use Rattle.program_io.specs.declared.fault.WrongForm.{WrongForm}
use Rattle.program_io.specs.Reading.{◌>>=◌, in_turn}
use Rattle.faults.specs.declared.script_error.ScriptError.{ScriptError}
use Rattle.faults.specs.declared.script_error.ScriptError.TheVariants.{BadStep}
use Rattle.service.specs.declared.script.Script.{Script}
use Rattle.service.specs.Scripts.{or_refuse, step_at, steps_of, head_of, script_of}
use Rattle.service.specs.Steps.{step_of}
use Rattle.diagnosis.specs.Faults.{before, bad_steps, bad_steps_in, refusals_after, refusals_of}

-- these faults begin with this one
abbrev pub BeginsWith : ScriptError → List ScriptError → Type 0
BeginsWith why faults = (others : List ScriptError) × (faults ≡ why ∷ others)

abbrev script_with : Job → List Step → Script
script_with job steps = record { job = job; steps = steps }

-- one element, and those after it
first_at : (job : Job) (place : ℕ) (why : ScriptError) (rest : Result (List Step) ScriptError) (others : List ScriptError) (r : Result Step WrongForm)
    → (rest ≡ Err why → BeginsWith why others) → (or_refuse (BadStep place) r >>= λ y. rest >>= λ ys. Ok (y ∷ ys)) ≡ Err why → BeginsWith why (before r place others)
first_at job place why (Ok ys) others (Ok step) later e = absurd (cc)
first_at job place why (Err f) others (Ok step) later e = later e
first_at job place why rest others (Err wrong) later e =
    let same : BadStep place ≡ why = cc in
    (others, ap (λ (f : ScriptError). f ∷ others) same)

first_bad : (job : Job) (place : ℕ) (ds : List Data) (why : ScriptError) → in_turn (step_at job) place ds ≡ Err why → BeginsWith why (bad_steps job place ds)
first_bad job place [] why e = absurd (cc)
first_bad job place (d ∷ ds) why e =
    first_at job place why (in_turn (step_at job) (suc place) ds) (bad_steps job (suc place) ds) (step_of job d) (first_bad job (suc place) ds why) e

none_at : (job : Job) (place : ℕ) (steps : List Step) (rest : Result (List Step) ScriptError) (others : List ScriptError) (r : Result Step WrongForm)
    → ((ys : List Step) → rest ≡ Ok ys → others ≡ []) → (or_refuse (BadStep place) r >>= λ y. rest >>= λ ys. Ok (y ∷ ys)) ≡ Ok steps → before r place others ≡ []
none_at job place steps (Ok ys) others (Ok step) later e = later ys refl
none_at job place steps (Err f) others (Ok step) later e = absurd (cc)
none_at job place steps rest others (Err wrong) later e = absurd (cc)

none_bad : (job : Job) (place : ℕ) (ds : List Data) (steps : List Step) → in_turn (step_at job) place ds ≡ Ok steps → bad_steps job place ds ≡ []
none_bad job place [] steps e = refl
none_bad job place (d ∷ ds) steps e =
    none_at job place steps (in_turn (step_at job) (suc place) ds) (bad_steps job (suc place) ds) (step_of job d) (none_bad job (suc place) ds) e

refused_steps : (job : Job) (elements : List Data) (r : Result (List Step) ScriptError) (why : ScriptError) → r ≡ steps_of job elements
    → (r >>= λ steps. Ok (script_with job steps)) ≡ Err why → BeginsWith why (bad_steps_in job elements)
unfolding steps_of bad_steps_in
refused_steps job elements (Ok steps) why is e = absurd (cc)
refused_steps job elements (Err f) why is e =
    let same : f ≡ why = cc in
    let (others, bad) = first_bad job 1 elements why (sym is ∙ ap Err same) in
    (take 19 others, ap (take 20) bad)

refused_head : (head : Result (Job × List Data) ScriptError) (why : ScriptError)
    → (head >>= λ h. steps_of h.0 h.1 >>= λ steps. Ok (script_with h.0 steps)) ≡ Err why → BeginsWith why (refusals_after head)
refused_head (Ok h) why e = refused_steps h.0 h.1 (steps_of h.0 h.1) why refl e
refused_head (Err f) why e =
    let same : f ≡ why = cc in
    ([], ap (λ (g : ScriptError). g ∷ []) same)

pub refused_first : (d : Data) (why : ScriptError) → script_of d ≡ Err why → BeginsWith why (refusals_of d)
unfolding script_of refusals_of
refused_first d why e = refused_head (head_of d) why e

read_steps : (job : Job) (elements : List Data) (r : Result (List Step) ScriptError) (script : Script) → r ≡ steps_of job elements
    → (r >>= λ steps. Ok (script_with job steps)) ≡ Ok script → bad_steps_in job elements ≡ []
unfolding steps_of bad_steps_in
read_steps job elements (Ok steps) script is e = ap (take 20) (none_bad job 1 elements steps (sym is))
read_steps job elements (Err f) script is e = absurd (cc)

read_head : (head : Result (Job × List Data) ScriptError) (script : Script)
    → (head >>= λ h. steps_of h.0 h.1 >>= λ steps. Ok (script_with h.0 steps)) ≡ Ok script → refusals_after head ≡ []
read_head (Ok h) script e = read_steps h.0 h.1 (steps_of h.0 h.1) script refl e
read_head (Err f) script e = absurd (cc)

pub read_none : (d : Data) (script : Script) → script_of d ≡ Ok script → refusals_of d ≡ []
unfolding script_of refusals_of
read_none d script e = read_head (head_of d) script e
