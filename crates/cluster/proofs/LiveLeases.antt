-- A live lease covers only what its task owns in the committed assignment.
use Rattle.std.proofs.Common.{◌≡◌, ℕ, ◌+◌, ◌-◌, ◌<◌, ◌≤◌, Bool, true, false, ◌&&◌, List, ◌∷◌, refl, sym, ◌∙◌, subst, inl, inr, ◌⊎◌, arith, eqb-true}
use Rattle.std.specs.Prelude.{Option, Some, None, ◌==◌, nat_le, Contains, Result, Ok}
use Rattle.std.proofs.lemmas.Bool.Decides.{nat_tests}
use Rattle.std.proofs.lemmas.List.Elements.{Contains-append_right}
use Rattle.std.proofs.lemmas.Bool.{and_parts}
use Rattle.machines.specs.Calls.{answered_call}
use Rattle.lease_rule.specs.declared.lease.Kind.{Kind}
use Rattle.lease_rule.specs.declared.lease.Kind.TheVariants.{Guard, Bridge}
use Rattle.lease_rule.specs.declared.answer.Verdict.{Verdict}
use Rattle.lease_rule.specs.declared.answer.Verdict.TheVariants.{Allow, Deny}
use Rattle.lease_rule.specs.Leases.{same_kind}
use Rattle.assignment.specs.Slices.{Slicing}
use Rattle.assignment.specs.Owners.{owns}
use Rattle.grants.specs.declared.table_call.TableCall.TheVariants as call
use Rattle.grants.specs.declared.table_call.TableReply.{TableReply}
use Rattle.grants.specs.declared.table_error.TableError.{TableError}
use Rattle.grants.specs.declared.values.Grant.{Grant}
use Rattle.grants.specs.declared.values.ReleaseNote.{ReleaseNote}
use Rattle.grants.specs.Rows.{closes, row_of}
use Rattle.grants.specs.Assignments.{slices_of}
use Rattle.lease_table.specs.Calls.{AnsweredTableCall, last_reading, committed_in, pending_in}
use Rattle.lease_table.specs.Runs.{commits_in}
use Rattle.lease_table.specs.Generations.{assignment_in, newest_with, newest_generation, owns_in, covers_as, covers_by_owners}
use Rattle.lease_table.specs.OpenRows.{IsSent, IsFreed, IsOut}
use Rattle.grants.proofs.Members.{here}
use Rattle.grants.specs.declared.slicelet_call.SliceletCall.{SliceletCall}
use Rattle.slicelet.proofs.OwnLeases.{equal_kinds}
use Rattle.slicelet.specs.Calls.{held_grant}
use Rattle.slicelet.specs.Rules.{rule_after, is_allowed}
use Rattle.slicelet.specs.Accepted.{notes_sent}
use Rattle.slicelet.specs.Laws.{IsSpent, HoldsOwnLeases, HasCoveringLease}
use Rattle.cluster.proofs.Noting.{member}

-- what a table that answered these calls is known by
pub record TableFacts (skew : ℕ) (calls : List AnsweredTableCall) : Type 0 where
  pub newest : (grant : Grant) → IsSent calls grant → grant.lease.generation ≤ newest_generation calls
  pub guard : (grant : Grant) → IsSent calls grant → grant.lease.kind ≡ Guard → grant.lease.generation ≤ commits_in calls
  pub skewed : (grant : Grant) → IsSent calls grant → grant.lease.ends + skew ≡ grant.table_ends
  pub young : (grant : Grant) → IsOut calls (last_reading calls) grant → commits_in calls ≤ grant.lease.generation
  pub committed : assignment_in (commits_in calls) calls ≡ committed_in calls

-- NO NOTE CLOSES THE ROW OF A HELD LEASE

pub newer_than_its_notes : (task : ℕ) (h : List SliceletCall) (kind : Kind) (grant : Grant) (note : ReleaseNote) → HoldsOwnLeases task h → held_grant kind h ≡ Some grant
    → closes note (row_of grant) ≡ true → Contains (notes_sent task h) note → ⊥
newer_than_its_notes task h kind grant note own is_held closing sent =
    let o = own.own kind grant is_held in
    let last = and_parts (note.task == grant.task && note.life == grant.life && same_kind note.kind grant.lease.kind) (nat_le grant.number note.number) closing in
    let kinds = and_parts (note.task == grant.task && note.life == grant.life) (same_kind note.kind grant.lease.kind) last.0 in
    let both = and_parts (note.task == grant.task) (note.life == grant.life) kinds.0 in
    let of_life : note.life ≡ grant.life = eqb-true note.life grant.life both.1 in
    let of_kind : note.kind ≡ kind = equal_kinds note.kind grant.lease.kind kinds.1 ∙ o.of_kind in
    let spent = member (IsSpent h) (notes_sent task h) note own.spent sent in
    let below : note.number < grant.number = spent.newer (of_life ∙ o.of_life) grant (subst (λ (k : Kind). held_grant k h ≡ Some grant) (sym of_kind) is_held) in
    let above : nat_le grant.number note.number ≡ true = last.1 in
    (grind (arith, nat_tests))

pub of_closed_task : (note : ReleaseNote) (grant : Grant) → closes note (row_of grant) ≡ true → note.task ≡ grant.task
of_closed_task note grant closing =
    let last = and_parts (note.task == grant.task && note.life == grant.life && same_kind note.kind grant.lease.kind) (nat_le grant.number note.number) closing in
    let kinds = and_parts (note.task == grant.task && note.life == grant.life) (same_kind note.kind grant.lease.kind) last.0 in
    eqb-true note.task grant.task (and_parts (note.task == grant.task) (note.life == grant.life) kinds.0).0

-- each note of a task that was freed is one of those that it sent
abbrev pub FreesSentNotes : List AnsweredTableCall → ℕ → List SliceletCall → Type 0
FreesSentNotes calls task h = (note : ReleaseNote) (at : ℕ) (answer : Result TableReply TableError) → note.task ≡ task
    → Contains calls (answered_call (call.Free note at) answer) → Contains (notes_sent task h) note

pub held_unfreed : (calls : List AnsweredTableCall) (task : ℕ) (h : List SliceletCall) (kind : Kind) (grant : Grant) → FreesSentNotes calls task h → HoldsOwnLeases task h
    → held_grant kind h ≡ Some grant → IsFreed calls grant → ⊥
held_unfreed calls task h kind grant frees own is_held freed =
    let o = own.own kind grant is_held in
    let of_task : freed.note.task ≡ task = of_closed_task freed.note grant freed.closed ∙ o.of_task in
    let freed_call : AnsweredTableCall = answered_call (call.Free freed.note freed.at) (Ok freed.reply) in
    let among = subst (λ (cs : List AnsweredTableCall). Contains cs freed_call) (sym freed.parts)
    (Contains-append_right freed.later (freed_call ∷ freed.before) freed_call (here freed_call freed.before)) in
    newer_than_its_notes task h kind grant freed.note own is_held freed.closed (frees freed.note freed.at (Ok freed.reply) of_task among)

-- a live lease that a task holds is of the committed generation or a later one
pub reached : (skew : ℕ) (calls : List AnsweredTableCall) (task : ℕ) (h : List SliceletCall) (at : ℕ) (kind : Kind) (grant : Grant) → FreesSentNotes calls task h
    → HoldsOwnLeases task h → IsSent calls grant → grant.lease.ends + skew ≡ grant.table_ends
    → (IsOut calls (last_reading calls) grant → commits_in calls ≤ grant.lease.generation) → last_reading calls ≤ at + skew
    → held_grant kind h ≡ Some grant → at < grant.lease.ends → commits_in calls ≤ grant.lease.generation
reached skew calls task h at kind grant frees own sent ends young timely is_held live =
    let runs : last_reading calls < grant.table_ends = omega (arith, ends, live, timely) in
    young (record { sent = sent; runs = runs; unfreed = held_unfreed calls task h kind grant frees own is_held })

-- WHAT A LIVE LEASE COVERS

-- what a grant of the committed generation covers, or a bridge grant of the next, is owned in the committed assignment
covered_now : (kind : Kind) (calls : List AnsweredTableCall) (key : ℕ) (grant : Grant) → (kind ≡ Guard → grant.lease.generation ≤ commits_in calls)
    → commits_in calls ≤ grant.lease.generation → grant.lease.generation ≤ commits_in calls + 1 → covers_as kind calls key grant ≡ true
    → owns_in calls (commits_in calls) key grant.task ≡ true
covered_now Guard calls key grant guard low high c =
    let same : grant.lease.generation ≡ commits_in calls = let g = guard refl in omega arith in
    subst (λ (g : ℕ). owns_in calls g key grant.task ≡ true) same c
covered_now Bridge calls key grant guard low high c =
    let both = and_parts (owns_in calls (grant.lease.generation - 1) key grant.task) (owns_in calls grant.lease.generation key grant.task) c in
    elim (either grant.lease.generation (commits_in calls) low high) [
      | inl same ↦ subst (λ (g : ℕ). owns_in calls g key grant.task ≡ true) same both.1
      | inr next ↦ (let same : grant.lease.generation - 1 ≡ commits_in calls = omega arith in subst (λ (g : ℕ). owns_in calls g key grant.task ≡ true) same both.0)
    ]
  where
    either : (g n : ℕ) → n ≤ g → g ≤ n + 1 → (g ≡ n) ⊎ (g ≡ n + 1)
    either g n low high = grind arith

pub most_next : (n : ℕ) (p : Option Slicing) → newest_with n p ≤ n + 1
most_next n None = omega arith
most_next n (Some slicing) = omega arith

-- a live lease that a task holds covers only what the task owns in the committed assignment
pub lease_owner : (skew : ℕ) (calls : List AnsweredTableCall) (task : ℕ) (h : List SliceletCall) (key at : ℕ) (kind : Kind) (grant : Grant) → TableFacts skew calls
    → FreesSentNotes calls task h → HoldsOwnLeases task h → IsSent calls grant → last_reading calls ≤ at + skew
    → held_grant kind h ≡ Some grant → at < grant.lease.ends → covers_by_owners calls key grant ≡ true
    → owns (slices_of (committed_in calls)) key task ≡ true
lease_owner skew calls task h key at kind grant table frees own sent timely is_held live covered =
    let young = reached skew calls task h at kind grant frees own sent (table.skewed grant sent) (table.young grant) timely is_held live in
    let newest = table.newest grant sent in
    let next = most_next (commits_in calls) (pending_in calls) in
    let owned = covered_now grant.lease.kind calls key grant (table.guard grant sent) young (omega (arith, newest, next)) covered in
    let now : owns (slices_of (committed_in calls)) key grant.task ≡ true = subst (λ (o : Option Slicing). owns (slices_of o) key grant.task ≡ true) table.committed owned in
    subst (λ (t : ℕ). owns (slices_of (committed_in calls)) key t ≡ true) (own.own kind grant is_held).of_task now

-- an allowed key has a lease that covers it
abbrev pub Covering : Type 0
Covering = (covers : Grant → Bool) (h : List SliceletCall) (at : ℕ) (kind : Kind) (generation : ℕ) → rule_after covers h at ≡ Allow kind generation
    → HasCoveringLease covers h at kind generation

pub by_verdict : Covering → (covers : Grant → Bool) (h : List SliceletCall) (at : ℕ) (v : Verdict) → rule_after covers h at ≡ v → is_allowed v ≡ true
    → (kind : Kind) × (generation : ℕ) × HasCoveringLease covers h at kind generation
by_verdict covering covers h at (Allow kind generation) e a = (kind, generation, covering covers h at kind generation e)
by_verdict covering covers h at (Deny why) e a = absurd (let f : false ≡ true = a in cc)
