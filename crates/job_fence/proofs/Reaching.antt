-- With timely clocks the lease under which a request was served is of the committed generation or a later one.
use Rattle.std.proofs.Common.{◌≡◌, ℕ, ◌≤◌, ◌∷◌, subst, arith}
use Rattle.lease_rule.specs.declared.lease.Kind.{Kind}
use Rattle.lease_rule.specs.declared.answer.Verdict.TheVariants.{Allow}
use Rattle.lease_table.specs.Runs.{commits_in}
use Rattle.slicelet.specs.Laws.{HoldsOwnLeases, HasCoveringLease}
use Rattle.job_calls.specs.Jobs.{Job}
use Rattle.job_calls.specs.declared.timing.Reading.{Reading}
use Rattle.job_calls.specs.declared.timing.Reading.TheVariants.{TaskClock}
use Rattle.cluster.specs.Timing.{IsTimely}
use Rattle.cluster.specs.Pasts.{Event, Past, readings, table_calls, task_calls}
use Rattle.cluster.specs.Replies.{covers, rule_in}
use Rattle.cluster.specs.Runs.{IsRun}
use Rattle.job_fence.specs.Requests.{Request, IsServed}
use Rattle.job_fence.proofs.Points.{HasLaws, read_at, parts_of, lease_of, token_of}

-- what the laws below say of the leases that a task holds, and under which it serves
pub record HasLeaseLaws (job : Job) : Type 0 where
  pub spent : (past : Past) (task : ℕ) → IsRun job past → HoldsOwnLeases task (task_calls task past)
  pub reached : (past : Past) (task key at : ℕ) (kind : Kind) (generation : ℕ) → IsRun job past → IsTimely job.policy.skew (TaskClock at ∷ readings past)
      → rule_in past task key at ≡ Allow kind generation → commits_in (table_calls past) ≤ generation

-- the lease under which a request was served is of the committed generation or a later one, and so is its token
pub record IsReached (past : Past) (r : Request) (at : ℕ) (kind : Kind) (generation : ℕ) : Type 0 where
  pub lease : HasCoveringLease (covers past r.key) (task_calls r.task past) at kind generation
  pub committed : commits_in (table_calls past) ≤ lease.grant.lease.generation
  pub told : lease.grant.lease.generation ≤ r.token.generation

pub reached_by : (job : Job) → HasLaws job → HasLeaseLaws job → (epoch : ℕ) (past : Past) (e : Event) (r : Request) → IsRun job (e ∷ past)
    → IsTimely job.policy.skew (readings (e ∷ past)) → (s : IsServed job epoch past e r)
    → IsReached past r s.at (parts_of job epoch past e r s).kind (parts_of job epoch past e r s).generation
reached_by job laws leases epoch past e r run timely s =
    let parts = parts_of job epoch past e r s in
    let lease = lease_of job epoch past e r s laws.covering in
    let near = subst (λ (x : Reading). IsTimely job.policy.skew (x ∷ readings past)) (read_at job epoch past e r s) timely in
    let low = leases.reached past r.task r.key s.at parts.kind parts.generation run.1 near parts.allowed in
    let same = lease.told in
    record {
      lease = lease;
      committed = omega (arith, low, same);
      told = (token_of job epoch past e r s).most parts.kind lease.grant lease.is_held lease.covered;
    }

pub reached_at : (job : Job) → HasLaws job → HasLeaseLaws job → (epoch : ℕ) (past : Past) (e : Event) (r : Request) → IsRun job (e ∷ past)
    → IsTimely job.policy.skew (readings (e ∷ past)) → IsServed job epoch past e r → commits_in (table_calls past) ≤ r.token.generation
reached_at job laws leases epoch past e r run timely s =
    let by = reached_by job laws leases epoch past e r run timely s in
    let low = by.committed in
    let high = by.told in
    omega (arith, low, high)
