-- What a cluster keeps, by its number.
use Rattle.std.proofs.Common.{◌≡◌, ℕ, ◌+◌, Bool, false, List, [], ◌∷◌, ◌++◌, length, refl, sym, ◌∙◌, ap, arith}
use Rattle.std.specs.Prelude.{None, reverse, if◌then◌else◌}
use Rattle.std.proofs.lemmas.List.{append-nil, length-append, length-reverse, reverse-reverse}
use Rattle.machines.specs.Numbers.{is_within}
use Rattle.assignment.specs.Slices.{Slicing}
use Rattle.grants.specs.declared.values.Grant.{Grant}
use Rattle.lease_table.specs.Tables.{Standing}
use Rattle.grants.specs.Assignments.{generation_of}
use Rattle.lease_table.specs.Calls.{AnsweredTableCall, committed_in}
use Rattle.lease_table.specs.Runs.{IsRun as IsTableRun, commits_in}
use Rattle.grants.specs.Policies.{Terms}
use Rattle.cluster.specs.declared.cluster.Cluster.{Cluster}
use Rattle.cluster.specs.Numbers.{with_number, kept_with_number}
use Rattle.cluster.specs.Pasts.{Past, table_calls, grants, published}
use Rattle.cluster.specs.internals.Proposals.{published_of}
use Rattle.cluster.specs.continued.Jobs.{Continued}
use Rattle.cluster.specs.continued.Deliveries.{known_grant, known_slicing}
use Rattle.cluster.specs.continued.Clusters.{AreSince, LeadsTo}
use Rattle.cluster.proofs.Keeping.{none_within, kept_number}
use Rattle.cluster.proofs.Publishing.{published_is}
use Rattle.cluster.proofs.TableRuns.{table_run}

-- the grant that is kept with a number is the known one
pub kept_grant : (job : Continued) (past : Past) (cluster : Cluster) → LeadsTo job past cluster → (number : ℕ) (kept : List Grant) → kept ≡ cluster.grants.items
    → kept_with_number number cluster.earlier.grants kept ≡ known_grant job.forgotten past number
unfolding LeadsTo
kept_grant job past cluster k number kept same =
    ap (λ (xs : List Grant). kept_with_number number cluster.earlier.grants xs) same
    ∙ kept_number cluster.earlier.grants (grants past) cluster.grants.items number k.grants
    ∙ ap (λ (b : Bool). if b then None else with_number number (grants past)) (sym (k.steady.grants [] number))

-- the proposal that is kept of a committed generation is the known assignment
pub kept_slicing : (job : Continued) (past : Past) (cluster : Cluster) → LeadsTo job past cluster
    → ((policy : Terms) (calls : List AnsweredTableCall) → IsTableRun policy calls → generation_of (committed_in calls) ≡ commits_in calls)
    → (generation : ℕ) (kept : List Slicing) → kept ≡ cluster.proposals.items
    → published_of generation cluster.table cluster.earlier.proposals kept ≡ known_slicing job.forgotten past generation
unfolding LeadsTo
kept_slicing job past cluster k counted generation kept same =
    let run = table_run job past k.run in
    ap (λ (xs : List Slicing). published_of generation cluster.table cluster.earlier.proposals xs) same
    ∙ ap (λ (t : Standing). published_of generation t cluster.earlier.proposals cluster.proposals.items) k.table
    ∙ published_is job.policy (table_calls past) run (counted job.policy (table_calls past) run) generation cluster.earlier.proposals cluster.proposals.items k.proposals
    ∙ ap (λ (b : Bool). if b then None else published generation past) (sym (k.steady.generations [] generation))

-- things that were made since are all of them if none was made before
pub since_start : {A : Type 0} (made kept : List A) (first : ℕ) → first ≡ 0 → AreSince first made (reverse kept) → kept ≡ reverse made
since_start {A = A} made kept first none are = sym (ap (λ (xs : List A). reverse xs) (are.all ∙ by_before are.before are.many) ∙ reverse-reverse kept)
  where
    by_before : (before : List A) → length before ≡ first → reverse kept ++ before ≡ reverse kept
    by_before [] many = append-nil (reverse kept)
    by_before (x ∷ before) many = absurd (omega (arith, many, none))

-- how many were made
pub count_since : {A : Type 0} (made kept : List A) (first : ℕ) → AreSince first made (reverse kept) → first + length kept ≡ length made
count_since made kept first are =
    let whole : length made ≡ length (reverse kept ++ are.before) = ap (λ (xs : List _). length xs) are.all in
    let parts = length-append (reverse kept) are.before in
    let turned = length-reverse kept in
    let many = are.many in
    omega (arith, whole, parts, turned, many)

-- all is kept from the start
pub kept_from_start : {A : Type 0} (number : ℕ) (kept : List A) → kept_with_number number 0 kept ≡ with_number number kept
kept_from_start number kept =
    kept_number 0 kept kept number (record { before = []; many = refl; all = refl }) ∙ (let out : is_within number 0 ≡ false = none_within number in rw out refl)
