-- Requests for keys in a run, with the tokens that their tasks had for them.
use Rattle.std.specs.Prelude.{◌≡◌, ℕ, ◌⊎◌, [], ◌∷◌, Ok}
use Rattle.job_calls.specs.Jobs.{Job}
use Rattle.job_calls.specs.declared.call.ClusterCall.TheVariants as call
use Rattle.cluster.specs.Pasts.{Event, Past, history}
use Rattle.cluster.specs.Replies.{covers}
use Rattle.fence.specs.Giving.{token_in}
pub use Rattle.fence.specs.Requests.{Request}

-- a task was asked at a reading whether it may serve a key, or for a handle on it
abbrev pub IsAsked : Event → ℕ → ℕ → ℕ → Type 0
IsAsked e task key at = (e.call ≡ call.Serve task key at) ⊎ (e.call ≡ call.Hold task key at)

-- just after a past, a task was asked for a key, and the token is the one that it had for the key then; it has one only where the written rule allows the key
pub record IsServed (job : Job) (epoch : ℕ) (past : Past) (e : Event) (r : Request) : Type 0 where
  pub at : ℕ
  pub asked : IsAsked e r.task r.key at
  pub token : token_in job.policy.high (covers past r.key) epoch (history r.task past) at ≡ Ok r.token

-- a run served a request, with a token of an epoch
abbrev pub Serves : Job → ℕ → Past → Request → Type 0
Serves job epoch [] r = ⊥
Serves job epoch (e ∷ past) r = IsServed job epoch past e r ⊎ Serves job epoch past r

-- a run served one request, and another one later
abbrev pub ServesInTurn : Job → ℕ → Past → Request → Request → Type 0
ServesInTurn job epoch [] first second = ⊥
ServesInTurn job epoch (e ∷ past) first second =
    (IsServed job epoch past e second × Serves job epoch past first) ⊎ ServesInTurn job epoch past first second
