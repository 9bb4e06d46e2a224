-- Generations along a run.
use Rattle.std.proofs.Common.{◌≡◌, ℕ, ◌+◌, ◌<◌, ◌≤◌, true, List, [], ◌∷◌, subst, inl, inr, ◌⊎◌, arith}
use Rattle.lease_table.specs.Calls.{AnsweredTableCall, pending_in}
use Rattle.lease_table.specs.Runs.{commits_in}
use Rattle.lease_table.specs.Generations.{owns_in}
use Rattle.job_calls.specs.Jobs.{Job}
use Rattle.cluster.specs.Timing.{IsTimely}
use Rattle.cluster.specs.Pasts.{Past, readings, table_calls}
use Rattle.cluster.specs.Runs.{IsRun}
use Rattle.job_fence.specs.Requests.{Request, ServesInTurn}
use Rattle.job_fence.proofs.Points.{HasLaws, IsKnownOwner, owner_at}
use Rattle.job_fence.proofs.Reaching.{HasLeaseLaws, reached_at}
use Rattle.cluster.proofs.LiveLeases.{most_next}
use Rattle.job_fence.proofs.Owners.{OneOwner, served_owner}

three : (g h : ℕ) → (g < h) ⊎ ((g ≡ h) ⊎ (h < g))
three g h = grind arith

-- two tasks own the key in their generations, and the second one's is committed or a later one
above : (calls : List AnsweredTableCall) (key t u g h : ℕ) → IsKnownOwner calls t key g → IsKnownOwner calls u key h → commits_in calls ≤ h
    → ((n : ℕ) → owns_in calls n key t ≡ true → owns_in calls n key u ≡ true → t ≡ u) → (t ≡ u → ⊥) → g < h
above calls key t u g h first second low alone others =
    let known = first.known in
    let high = most_next (commits_in calls) (pending_in calls) in
    elim (three g h) [
      | inl below ↦ below
      | inr (inl same) ↦ absurd (others (alone h (subst (λ (n : ℕ). owns_in calls n key t ≡ true) same first.owned) second.owned))
      | inr (inr over) ↦ (
          let next : g ≡ commits_in calls + 1 = omega (arith, known, high, low, over) in
          let now : h ≡ commits_in calls = omega (arith, known, high, low, over) in
          absurd (others (alone (commits_in calls) (first.ahead next) (subst (λ (n : ℕ). owns_in calls n key u ≡ true) now second.owned))))
    ]

module _ (job : Job) (laws : HasLaws job) (leases : HasLeaseLaws job) (epoch : ℕ) where
  pub rising : OneOwner job → (run : Past) (first second : Request) → IsRun job run → IsTimely job.policy.skew (readings run)
      → ServesInTurn job epoch run first second → first.key ≡ second.key → (first.task ≡ second.task → ⊥) → first.token.generation < second.token.generation
  rising alone [] first second run timely turn same_key others = absurd turn
  rising alone (e ∷ past) first second run timely (inl both) same_key others =
      let before = served_owner job laws epoch past first run.1 both.1 in
      let there = subst (λ (k : ℕ). IsKnownOwner (table_calls past) first.task k first.token.generation) same_key before in
      above (table_calls past) second.key first.task second.task first.token.generation second.token.generation there
      (owner_at job laws epoch past e second run both.0) (reached_at job laws leases epoch past e second run timely both.0)
      (λ n mine theirs. alone past n second.key first.task second.task run.1 mine theirs) others
  rising alone (e ∷ past) first second run timely (inr turn) same_key others = rising alone past first second run.1 timely.1 turn same_key others

  -- with timely clocks a later request is of the generation before, at the lowest
  pub close : (run : Past) (first second : Request) → IsRun job run → IsTimely job.policy.skew (readings run)
      → ServesInTurn job epoch run first second → first.token.generation ≤ second.token.generation + 1
  close [] first second run timely turn = absurd turn
  close (e ∷ past) first second run timely (inl both) =
      let known = (served_owner job laws epoch past first run.1 both.1).known in
      let high = most_next (commits_in (table_calls past)) (pending_in (table_calls past)) in
      let low = reached_at job laws leases epoch past e second run timely both.0 in
      omega (arith, known, high, low)
  close (e ∷ past) first second run timely (inr turn) = close past first second run.1 timely.1 turn
