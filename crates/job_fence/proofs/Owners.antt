-- Who owns the key of a served request, later in the run.
use Rattle.std.proofs.Common.{◌≡◌, ℕ, ◌+◌, ◌≤◌, true, [], ◌∷◌, ◌∙◌, ap, subst, inl, inr, arith}
use Rattle.std.specs.Prelude.{Option, Some, None}
use Rattle.assignment.specs.Slices.{Slicing}
use Rattle.assignment.specs.Owners.{owns}
use Rattle.grants.specs.Assignments.{slices_of}
use Rattle.lease_table.specs.Calls.{pending_in}
use Rattle.lease_table.specs.Runs.{commits_in}
use Rattle.lease_table.specs.Generations.{newest_with, newest_generation, owns_in}
use Rattle.job_calls.specs.Jobs.{Job}
use Rattle.cluster.specs.Pasts.{Event, Past, table_calls}
use Rattle.cluster.specs.Runs.{IsRun}
use Rattle.cluster.proofs.GrantOrder.{commits_grow}
use Rattle.cluster.proofs.LiveLeases.{most_next}
use Rattle.job_fence.specs.Requests.{Request, Serves}
use Rattle.job_fence.proofs.Points.{HasLaws, IsKnownOwner, parts_of, owner_at}

least_newest : (n : ℕ) (p : Option Slicing) → n ≤ newest_with n p
least_newest n None = omega arith
least_newest n (Some slicing) = omega arith

-- of a generation no two tasks own a key
abbrev pub OneOwner : Job → Type 0
OneOwner job = (run : Past) (generation key a b : ℕ) → IsRun job run → owns_in (table_calls run) generation key a ≡ true
    → owns_in (table_calls run) generation key b ≡ true → a ≡ b

-- LATER IN THE RUN

module _ (job : Job) (laws : HasLaws job) where
  owner_later : (e : Event) (past : Past) (task key generation : ℕ) → IsRun job (e ∷ past) → IsKnownOwner (table_calls past) task key generation
      → IsKnownOwner (table_calls (e ∷ past)) task key generation
  owner_later e past task key generation run k =
      let old = table_calls past in
      let new = table_calls (e ∷ past) in
      let known = k.known in
      let grows = laws.grows e past in
      let more = commits_grow e past in
      let low = least_newest (commits_in old) (pending_in old) in
      let high = most_next (commits_in old) (pending_in old) in
      let same = λ (g : ℕ) (l : g ≤ newest_generation old). ap (λ (o : Option Slicing). owns (slices_of o) key task) (laws.stays e past g run l) in
      record {
        known = omega (arith, known, grows);
        owned = same generation k.known ∙ k.owned;
        ahead = λ next.
            let still : commits_in old ≡ commits_in new = omega (arith, known, more, high, next) in
            let was : generation ≡ commits_in old + 1 = omega (arith, still, next) in
            subst (λ (g : ℕ). owns_in new g key task ≡ true) still (same (commits_in old) low ∙ k.ahead was);
      }

  pub served_owner : (epoch : ℕ) (run : Past) (r : Request) → IsRun job run → Serves job epoch run r → IsKnownOwner (table_calls run) r.task r.key r.token.generation
  served_owner epoch [] r run s = absurd s
  served_owner epoch (e ∷ past) r run (inl s) = owner_later e past r.task r.key r.token.generation run (owner_at job laws epoch past e r run s)
  served_owner epoch (e ∷ past) r run (inr s) = owner_later e past r.task r.key r.token.generation run (served_owner epoch past r run.1 s)

  -- tokens are given only where slices have at most one owner
  pub served_single : (epoch : ℕ) (run : Past) (r : Request) → Serves job epoch run r → job.policy.high ≤ 1
  served_single epoch [] r s = absurd s
  served_single epoch (e ∷ past) r (inl s) = (parts_of job epoch past e r s).single
  served_single epoch (e ∷ past) r (inr s) = served_single epoch past r s

  pub same_owner : OneOwner job → (epoch : ℕ) (run : Past) (one other : Request) → IsRun job run → Serves job epoch run one → Serves job epoch run other
      → one.key ≡ other.key → one.token.generation ≡ other.token.generation → one.task ≡ other.task
  same_owner alone epoch run one other is_run served also same_key same_generation =
      let mine = (served_owner epoch run one is_run served).owned in
      let theirs = (served_owner epoch run other is_run also).owned in
      let there = subst (λ (k : ℕ). owns_in (table_calls run) one.token.generation k one.task ≡ true) same_key mine in
      let as_theirs = subst (λ (g : ℕ). owns_in (table_calls run) g other.key one.task ≡ true) same_generation there in
      alone run other.token.generation other.key one.task other.task is_run as_theirs theirs
