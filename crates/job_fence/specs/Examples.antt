-- What runs can do that a store and its writers must reckon with.
use Rattle.std.specs.Prelude.{◌≡◌, ℕ, ◌<◌, ◌∷◌, ◌++◌, Bool, true, Result, Ok}
use Rattle.lease_rule.specs.declared.lease.Kind.TheVariants.{Guard}
use Rattle.lease_rule.specs.declared.answer.Verdict.TheVariants.{Allow}
use Rattle.lease_rule.specs.Rule.{newest_covering}
use Rattle.grants.specs.Policies.{is_policy}
use Rattle.grants.specs.declared.values.Grant.{Grant}
use Rattle.slicelet.specs.States.{SliceletState, holding_in, rule_in_state}
use Rattle.job_calls.specs.Jobs.{Job}
use Rattle.cluster.specs.Timing.{IsTimely}
use Rattle.job_calls.specs.declared.call.ClusterCall.TheVariants as call
use Rattle.job_calls.specs.declared.reply.ClusterReply.TheVariants as reply
use Rattle.cluster.specs.Pasts.{event, Past, readings, history}
use Rattle.cluster.specs.Replies.{covers}
use Rattle.cluster.specs.Runs.{IsRun}
use Rattle.fence.specs.declared.token.Token.{Token}
use Rattle.fence.specs.Tokens.{IsBelow}
use Rattle.fence.specs.declared.giving.NoToken.{NoToken}
use Rattle.fence.specs.Giving.{token_by}
use Rattle.job_fence.specs.Requests.{Request, ServesInTurn}
use Rattle.job_fence.specs.Care.{IsCareful}

-- a run that served one request for a key, and another one later
pub record IsExample (job : Job) (run : Past) (first second : Request) : Type 0 where
  pub policy : is_policy job.policy ≡ true
  pub is_run : IsRun job run
  pub turn : ServesInTurn job 0 run first second
  pub same_key : first.key ≡ second.key

-- with timely clocks a careful task served both requests, the second one under a guard lease of an earlier generation; the tokens
-- are the same
pub record HasLateGuard (job : Job) : Type 0 where
  pub past : Past
  pub at : ℕ
  pub earlier : ℕ
  pub first : Request
  pub second : Request
  pub example : IsExample job (event (call.Serve second.task second.key at) (reply.Verdict (Allow Guard earlier)) ∷ past) first second
  pub timely : IsTimely job.policy.skew (readings (event (call.Serve second.task second.key at) (reply.Verdict (Allow Guard earlier)) ∷ past))
  pub careful : IsCareful first.task (event (call.Serve second.task second.key at) (reply.Verdict (Allow Guard earlier)) ∷ past)
  pub same_task : first.task ≡ second.task
  pub lower : earlier < first.token.generation
  pub kept : first.token ≡ second.token

-- with timely clocks, one task served both requests in one life, the second one with a token of an earlier generation
pub record HasFallingToken (job : Job) : Type 0 where
  pub run : Past
  pub first : Request
  pub second : Request
  pub example : IsExample job run first second
  pub timely : IsTimely job.policy.skew (readings run)
  pub same_task : first.task ≡ second.task
  pub same_life : first.token.life ≡ second.token.life
  pub lower : second.token.generation < first.token.generation

-- with timely clocks, one task served both requests, the second one in a later life with a token of an earlier generation
pub record HasEarlyLease (job : Job) : Type 0 where
  pub run : Past
  pub first : Request
  pub second : Request
  pub example : IsExample job run first second
  pub timely : IsTimely job.policy.skew (readings run)
  pub same_task : first.task ≡ second.task
  pub later_life : first.token.life < second.token.life
  pub lower : second.token.generation < first.token.generation

-- the second request was served to another task than the first, of an earlier generation; the clocks were not timely
pub record HasLateOwner (job : Job) : Type 0 where
  pub run : Past
  pub first : Request
  pub second : Request
  pub example : IsExample job run first second
  pub others : first.task ≡ second.task → ⊥
  pub earlier : second.token.generation < first.token.generation

-- the token that a task would have for a key if leases counted that do not cover the key
abbrev pub wide_token : (Grant → Bool) → ℕ → SliceletState → ℕ → Result Token NoToken
wide_token covers epoch s at = token_by (rule_in_state covers s at) epoch s.life (newest_covering (holding_in (λ _. true) s))

-- with timely clocks, two tasks served the requests, and the later owner's token is below the one that the earlier owner would have had so
pub record HasWideToken (job : Job) : Type 0 where
  pub later : Past
  pub at : ℕ
  pub generation : ℕ
  pub past : Past
  pub first : Request
  pub second : Request
  pub example : IsExample job (later ++ event (call.Serve first.task first.key at) (reply.Verdict (Allow Guard generation)) ∷ past) first second
  pub timely : IsTimely job.policy.skew (readings (later ++ event (call.Serve first.task first.key at) (reply.Verdict (Allow Guard generation)) ∷ past))
  pub others : first.task ≡ second.task → ⊥
  pub wide : Token
  pub would : wide_token (covers past first.key) 0 (history first.task past) at ≡ Ok wide
  pub above : IsBelow second.token wide
