-- The phase that a table writes.
use Rattle.std.proofs.Common.{◌≡◌, ℕ, ◌+◌, List, Option, Some, None, refl, subst, arith}
use Rattle.std.proofs.lemmas.Bool.Decides.{nat_tests}
use Rattle.assignment.specs.Slices.{Slicing}
use Rattle.lease_table.specs.Calls.{AnsweredTableCall, LeadsTo, committed_in, pending_in}
use Rattle.grants.specs.Policies.{Terms}
use Rattle.lease_table.specs.Runs.{commits_in}
use Rattle.lease_table.specs.Tables.{Standing, phase_of, phase_with}
use Rattle.grants.specs.Assignments.{generation_of}
use Rattle.c_calls.specs.tables.Terms.{phase_numbers}
use Rattle.c_calls.specs.tables.Terms as numbers

-- it is read back where what is proposed is of the generation after the committed one
phase_back : (committed : ℕ) (pending : Option Slicing) → ((slicing : Slicing) → pending ≡ Some slicing → slicing.generation ≡ committed + 1)
    → numbers.phase_of (phase_numbers (phase_with committed pending)) ≡ Some (phase_with committed pending)
phase_back committed None after = refl
phase_back committed (Some slicing) after = let e : slicing.generation ≡ committed + 1 = after slicing refl in grind (arith, nat_tests, e)

-- so it is after calls that were answered, where the generations are those of the commits
pub phase_reads : (policy : Terms) (past : List AnsweredTableCall) (t : Standing) → LeadsTo policy past t
    → generation_of (committed_in past) ≡ commits_in past
    → ((slicing : Slicing) → pending_in past ≡ Some slicing → slicing.generation ≡ commits_in past + 1)
    → numbers.phase_of (phase_numbers (phase_of t)) ≡ Some (phase_of t)
phase_reads policy past t leads committed pending =
    let P : Standing → Type 0 = λ s. numbers.phase_of (phase_numbers (phase_of s)) ≡ Some (phase_of s) in
    subst P leads (phase_back (generation_of (committed_in past)) (pending_in past) (λ slicing e. rw committed (pending slicing e)))
