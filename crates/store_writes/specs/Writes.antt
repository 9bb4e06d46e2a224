-- Which writes the law of fencing tokens rules out.
use Rattle.std.specs.Prelude.{◌≡◌, ℕ, ◌<◌, List, Option, Some, None, slice_get}
use Rattle.fence.specs.Tokens.{IsBelow}
use Rattle.store_writes.specs.declared.write.GivenToken.{GivenToken}
use Rattle.store_writes.specs.declared.write.Write.{Write}
use Rattle.store_writes.specs.declared.write.WriteEvent.{WriteEvent}
use Rattle.store_writes.specs.declared.write.WriteEvent.TheVariants.{Given, Offered}
use Rattle.store_writes.specs.declared.ruled_out.WriteFault.{WriteFault}
use Rattle.store_writes.specs.declared.ruled_out.WriteFault.TheVariants.{NotGiven, Overtaken}
use Rattle.store_writes.specs.declared.ruled_out.RuledOut.{RuledOut}

-- what the task of a write must have been given before: the generation and the life of its token, for the key
abbrev pub token_needed : Write → GivenToken
token_needed write = record { key = write.key; generation = write.token.generation; life = write.token.life }

-- a task was given this before the event at an index
abbrev pub WasGiven : List WriteEvent → ℕ → GivenToken → Type 0
WasGiven events index token = (place : ℕ) × (place < index) × (slice_get events place ≡ Some (Given token))

-- the store took one write, and later another one
abbrev pub TookBefore : Option ℕ → Option ℕ → Type 0
TookBefore None later = ⊥
TookBefore (Some earlier) None = ⊥
TookBefore (Some earlier) (Some later) = earlier < later

-- the store took a write after another one of the same key, which has a greater token
pub record IsOvertaken (write by : Write) : Type 0 where
  pub key : by.key ≡ write.key
  pub order : TookBefore by.revision write.revision
  pub token : IsBelow write.token by.token

-- why the law rules out a write that is offered at an index: no task was given its token before, or the write at a place overtook it
abbrev pub IsAgainst : List WriteEvent → ℕ → Write → WriteFault → Type 0
IsAgainst events index write NotGiven = WasGiven events index (token_needed write) → ⊥
IsAgainst events index write (Overtaken place) = (by : Write) × (slice_get events place ≡ Some (Offered by)) × IsOvertaken write by

-- the law rules out the write that is offered at an index, for this reason
abbrev pub IsRuledOut : List WriteEvent → ℕ → WriteFault → Type 0
IsRuledOut events index why = (write : Write) × (slice_get events index ≡ Some (Offered write)) × IsAgainst events index write why

-- the law rules out no write before this index
abbrev pub NoneBefore : List WriteEvent → ℕ → Type 0
NoneBefore events index = (place : ℕ) (why : WriteFault) → place < index → IsRuledOut events place why → ⊥

-- this is the first write that the law rules out, and why; if its token was not given, that is why
pub record IsFirstRuledOut (events : List WriteEvent) (found : RuledOut) : Type 0 where
  pub here : IsRuledOut events found.index found.why
  pub first : NoneBefore events found.index
  pub named : IsRuledOut events found.index NotGiven → found.why ≡ NotGiven
