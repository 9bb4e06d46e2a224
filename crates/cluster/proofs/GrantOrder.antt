-- A grant with a greater number is of the same generation or a later one, and commits never become fewer.
use Rattle.std.proofs.Common.{◌≡◌, ◌∙◌, ℕ, ◌+◌, ◌≤◌, true, List, [], ◌∷◌, ◌++◌, refl, sym, ap, subst, inl, inr, ◌⊎◌, arith}
use Rattle.std.specs.Prelude.{Option, Some, None, Ok}
use Rattle.std.proofs.lemmas.List.Elements.{Contains-push_cases}
use Rattle.machines.specs.Calls.{answered_call}
use Rattle.assignment.specs.Slices.{Slicing}
use Rattle.grants.specs.declared.table_call.TableCall.{TableCall}
use Rattle.grants.specs.declared.table_call.TableReply.{TableReply}
use Rattle.grants.specs.declared.table_call.TableReply.TheVariants.{Term, Proposed, Committed, Granted, Freed, Lost}
use Rattle.grants.specs.declared.values.Grant.{Grant}
use Rattle.grants.specs.Policies.{Terms, is_policy}
use Rattle.grants.proofs.Members.{nowhere}
use Rattle.lease_table.specs.Steps.{grant_with}
use Rattle.lease_table.specs.Calls.{AnsweredTableCall, standing_after, pending_in, grants_sent}
use Rattle.lease_table.specs.Runs.{IsRun, commits_in}
use Rattle.lease_table.specs.Generations.{newest_with, newest_generation}
use Rattle.lease_table.specs.OpenRows.{IsSent}
use Rattle.lease_table.proofs.Acceptance.{IsAcceptedAfter}
use Rattle.lease_table.proofs.Assignments.{counted, commits_call}
use Rattle.lease_table.proofs.Induction.{after_run, of_grant}
use Rattle.lease_table.proofs.Leases.{granted_by, leased}
use Rattle.lease_table.proofs.Numbers.{given_number, sent_number}
use Rattle.cluster.specs.Pasts.{Event, Past, table_calls}
use Rattle.cluster.proofs.Adding.{adds_to_table}

-- COMMITS

-- one more event never makes commits fewer
pub commits_grow : (e : Event) (past : Past) → commits_in (table_calls past) ≤ commits_in (table_calls (e ∷ past))
commits_grow e past =
    elim (adds_to_table past e) [
      | inl same ↦ subst (λ (calls : List AnsweredTableCall). commits_in (table_calls past) ≤ commits_in calls) (sym same) (omega arith)
      | inr new ↦ subst (λ (calls : List AnsweredTableCall). commits_in (table_calls past) ≤ commits_in calls) (sym new.added)
          (commits_call new.made (Ok new.told) (table_calls past))
    ]

pub commits_grow_over : (later past : Past) → commits_in (table_calls past) ≤ commits_in (table_calls (later ++ past))
commits_grow_over [] past = omega arith
commits_grow_over (e ∷ later) past =
    let before = commits_grow_over later past in
    let last = commits_grow e (later ++ past) in
    omega (arith, before, last)

-- GRANTS

module _ (policy : Terms) where
  -- a grant is of the newest generation when it is sent
  pub newest_given : (past : List AnsweredTableCall) (c : TableCall) (grant : Grant) → IsRun policy past → IsAcceptedAfter policy past c (Granted grant)
      → grant.lease.generation ≡ newest_generation past
  newest_given past c grant run a =
      of_grant policy (λ e. grant.lease.generation ≡ newest_generation past) past c grant
      (λ task life at g.
      ap (λ (x : Grant). x.lease.generation) (granted_by (standing_after policy past) task life at grant g) ∙ by_phase task life at (pending_in past) (counted policy past run).pending) a
    where
      by_phase : (task life at : ℕ) (p : Option Slicing) → ((slicing : Slicing) → p ≡ Some slicing → slicing.generation ≡ commits_in past + 1)
          → (grant_with (standing_after policy past) p task life at).lease.generation ≡ newest_with (commits_in past) p
      by_phase task life at None next = (counted policy past run).committed
      by_phase task life at (Some slicing) next = next slicing refl

  abbrev pub AreInOrder : List AnsweredTableCall → Type 0
  AreInOrder past = (a b : Grant) → IsSent past a → IsSent past b → a.number ≤ b.number → a.lease.generation ≤ b.lease.generation

  module _ (within : is_policy policy ≡ true) where
    in_order_with : (past : List AnsweredTableCall) (c : TableCall) (grant : Grant) → IsRun policy past → AreInOrder past → IsAcceptedAfter policy past c (Granted grant)
        → (a b : Grant) → IsSent past a ⊎ (grant ≡ a) → IsSent past b ⊎ (grant ≡ b) → a.number ≤ b.number → a.lease.generation ≤ b.lease.generation
    in_order_with past c grant run h taken a b (inl i) (inl j) low = h a b i j low
    in_order_with past c grant run h taken a b (inl i) (inr same) low =
        let newest = (leased policy within past run a i).newest in
        let now = newest_given past c grant run taken in
        subst (λ (x : Grant). a.lease.generation ≤ x.lease.generation) same (omega (arith, newest, now))
    in_order_with past c grant run h taken a b (inr same) (inl j) low =
        let number = given_number policy past c grant taken in
        let before = (sent_number policy past b run j).1 in
        let is : grant.number ≡ a.number = ap (λ (x : Grant). x.number) same in
        absurd (omega (arith, number, before, is, low))
    in_order_with past c grant run h taken a b (inr same) (inr also) low =
        subst (λ (x : Grant). a.lease.generation ≤ x.lease.generation) also
        (subst (λ (x : Grant). x.lease.generation ≤ grant.lease.generation) same (omega arith))

    in_order_call : (past : List AnsweredTableCall) (c : TableCall) (reply : TableReply) → IsRun policy past → AreInOrder past → IsAcceptedAfter policy past c reply
        → AreInOrder (answered_call c (Ok reply) ∷ past)
    in_order_call past c (Granted grant) run h taken = λ a b i j low.
        in_order_with past c grant run h taken a b (Contains-push_cases (grants_sent past) grant a i) (Contains-push_cases (grants_sent past) grant b j) low
    in_order_call past c (Term term) run h taken = h
    in_order_call past c Proposed run h taken = h
    in_order_call past c (Committed generation) run h taken = h
    in_order_call past c (Freed count) run h taken = h
    in_order_call past c (Lost count) run h taken = h

    -- of two grants, the one with the greater number is of the same generation or a later one
    pub in_order : (past : List AnsweredTableCall) → IsRun policy past → AreInOrder past
    in_order = after_run policy AreInOrder (λ a b i j low. absurd (nowhere a i)) (λ past c refusal h. h) in_order_call
