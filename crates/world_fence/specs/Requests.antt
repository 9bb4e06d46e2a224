-- Requests for keys in a script, with the tokens that their tasks had for them.
use Rattle.std.specs.Prelude.{◌≡◌, ℕ, ◌<◌, ◌⊎◌, true, List, [], ◌∷◌, Ok}
use Rattle.std.specs.List.{AllByRecursion}
use Rattle.slice_ranges.specs.Hash.{slice_key}
use Rattle.cluster.specs.Replies.{covers}
use Rattle.fence.specs.declared.token.Token.{Token}
use Rattle.fence.specs.Giving.{token_in}
use Rattle.fence.specs.Requests.{Request as CallRequest}
use Rattle.world.specs.Jobs.{Job}
use Rattle.world.specs.declared.step.Step.TheVariants as step
use Rattle.world.specs.Pasts.{Event, Past, is_accepted}
use Rattle.world.specs.Calls.{calls_in, history}

-- which task was asked for which key, and the token that it had for the key
pub record Request : Type 0 where
  pub task : ℕ
  pub key : List ℕ
  pub token : Token

-- the request for its slice key
abbrev pub by_slice_key : Request → CallRequest
by_slice_key r = record { task = r.task; key = slice_key r.key; token = r.token }

-- a task was asked at a reading whether it may serve a key, or for a handle on it
abbrev pub IsAsked : Event → ℕ → List ℕ → ℕ → Type 0
IsAsked e task key at = (e.step ≡ step.Serve task key at) ⊎ (e.step ≡ step.Hold task key at)

-- just after a past, a task was asked for a key by a step that was accepted, and the token is the one that it had for the key then
pub record IsServed (job : Job) (epoch : ℕ) (past : Past) (e : Event) (r : Request) : Type 0 where
  pub at : ℕ
  pub asked : IsAsked e r.task r.key at
  pub accepted : is_accepted e.reply ≡ true
  pub token : token_in job.policy.high (covers (calls_in job past) (slice_key r.key)) epoch (history job r.task past) at ≡ Ok r.token

-- a run served a request, with a token of an epoch
abbrev pub Serves : Job → ℕ → Past → Request → Type 0
Serves job epoch [] r = ⊥
Serves job epoch (e ∷ past) r = IsServed job epoch past e r ⊎ Serves job epoch past r

-- a run served one request, and another one later
abbrev pub ServesInTurn : Job → ℕ → Past → Request → Request → Type 0
ServesInTurn job epoch [] first second = ⊥
ServesInTurn job epoch (e ∷ past) first second =
    (IsServed job epoch past e second × Serves job epoch past first) ⊎ ServesInTurn job epoch past first second

-- a write is of a request that the run served for the key, or for another of the same hash
pub record IsOfRequest (job : Job) (epoch : ℕ) (run : Past) (key : List ℕ) (write : CallRequest) : Type 0 where
  pub request : Request
  pub served : Serves job epoch run request
  pub alike : slice_key request.key ≡ slice_key key
  pub is : write ≡ by_slice_key request

-- each write is of an earlier epoch, or of such a request
abbrev pub AreServed : Job → ℕ → Past → List ℕ → List CallRequest → Type 0
AreServed job epoch run key writes = AllByRecursion (λ write. (write.token.epoch < epoch) ⊎ IsOfRequest job epoch run key write) writes
