-- Writes of the requests of a run, as a store accepts them for one key.
use Rattle.std.specs.Prelude.{◌≡◌, ℕ, ◌<◌, ◌≤◌, ◌⊎◌, List}
use Rattle.std.specs.List.{AllByRecursion}
use Rattle.job_calls.specs.Jobs.{Job}
use Rattle.cluster.specs.Pasts.{Past}
use Rattle.job_fence.specs.Requests.{Request, Serves}

-- a write is of a later generation than another, or of the same generation, by the same task, in the same life or a later one
abbrev pub IsOfSameOrLaterOwner : Request → Request → Type 0
IsOfSameOrLaterOwner last earlier =
    (earlier.token.generation < last.token.generation)
    ⊎ ((earlier.token.generation ≡ last.token.generation) × (earlier.task ≡ last.task) × (earlier.token.life ≤ last.token.life))

-- the earlier of two writes is of an earlier epoch, or both are of this epoch and the later one is of the same owner or a later one
abbrev pub IsOfSameOrLaterOwnerIn : ℕ → Request → Request → Type 0
IsOfSameOrLaterOwnerIn epoch last earlier = (earlier.token.epoch < epoch) ⊎ ((last.token.epoch ≡ epoch) × IsOfSameOrLaterOwner last earlier)

-- a write is of an earlier epoch, or of a request for the key that the run served in this one
abbrev pub IsServedIn : Job → ℕ → Past → ℕ → Request → Type 0
IsServedIn job epoch run key write = (write.token.epoch < epoch) ⊎ (Serves job epoch run write × (write.key ≡ key))

-- such writes to one key
abbrev pub AreServed : Job → ℕ → Past → ℕ → List Request → Type 0
AreServed job epoch run key writes = AllByRecursion (IsServedIn job epoch run key) writes
