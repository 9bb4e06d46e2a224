-- What an assigner does next.
use Rattle.std.specs.Prelude.{ℕ, ◌-◌, ◌/◌, nat_le, Bool, true, false, List, [], ◌∷◌, Option, Some, None, unwrap_or}
use Rattle.machines.specs.Refusals.{when, first_of}
use Rattle.grants.specs.declared.values.JobTerm.{JobTerm}
use Rattle.grants.specs.declared.values.Phase.{Phase}
use Rattle.grants.specs.declared.values.Phase.TheVariants.{Steady, Bridging}
use Rattle.assigner.specs.declared.action.View.{View}
use Rattle.assigner.specs.declared.action.Action.{Action}
use Rattle.assigner.specs.declared.action.Action.TheVariants.{Take, Renew, Commit, Propose, Rest}
use Rattle.assigner.specs.Terms.{Keeping}

-- there is no kept term, or it has ended at the reading
abbrev pub is_without : Option JobTerm → ℕ → Bool
is_without None reading = true
is_without (Some term) reading = nat_le term.until reading

-- at most half of the length of a job lease, rounded down, is left of the kept term
abbrev pub is_half_over : Option JobTerm → ℕ → ℕ → Bool
is_half_over None job_term reading = false
is_half_over (Some term) job_term reading = nat_le (term.until - reading) (job_term / 2)

-- an assignment is proposed
abbrev pub is_bridging : Phase → Bool
is_bridging (Steady committed) = false
is_bridging (Bridging committed proposed) = true

-- the cases in their order
abbrev pub action_cases : Keeping → View → List (Option Action)
action_cases a view =
    when (is_without a.term view.reading) Take ∷
    when (is_half_over a.term a.job_term view.reading) Renew ∷
    when (is_bridging view.phase) Commit ∷
    when view.wanted Propose ∷ []

-- the first case that holds, and else there is nothing to do
abbrev pub next_action : Keeping → View → Action
next_action a view = unwrap_or (first_of (action_cases a view)) Rest
