-- The first writes of each kind that the law rules out.
use Rattle.std.specs.Prelude.{◌≡◌, ℕ, ◌<◌, ◌≤◌, Bool, true, false, not, ◌&&◌, nat_eq, List, take, Option, Some, None, slice_get}
use Rattle.std.specs.List.{Contains}
use Rattle.std.specs.declared.cmp.Ordering.{Ordering}
use Rattle.std.specs.Ordering.{nat_cmp, ordering_then}
use Rattle.std.specs.HashMap as table
use Rattle.std.specs.HashSet as set
use Rattle.fence.specs.declared.token.Token.{Token}
use Rattle.fence.specs.Tokens.{IsBelow, IsUpTo}
use Rattle.store_writes.specs.declared.given.GivenTokens.{GivenTokens}
use Rattle.store_writes.specs.declared.write.GivenToken.{GivenToken}
use Rattle.store_writes.specs.declared.write.Write.{Write}
use Rattle.store_writes.specs.declared.write.WriteEvent.{WriteEvent}
use Rattle.store_writes.specs.declared.write.WriteEvent.TheVariants.{Given, Offered}
use Rattle.store_writes.specs.declared.ruled_out.WriteFault.TheVariants.{Overtaken}
use Rattle.store_writes.specs.declared.ruled_out.RuledOut.{RuledOut}
use Rattle.store_writes.specs.declared.taken.Taken.{Taken}
use Rattle.store_writes.specs.declared.shelves.Shelves.{Shelves}
use Rattle.store_writes.specs.declared.late.Late.{Late}
use Rattle.store_writes.specs.Writes.{token_needed, WasGiven, IsOvertaken}

-- TOKENS THAT WERE GIVEN

-- tokens are the same where all their parts are
abbrev pub same_token : GivenToken → GivenToken → Bool
same_token a b = nat_eq a.key b.key && (nat_eq a.generation b.generation && nat_eq a.life b.life)

-- a set has the tokens that were given before an index
pub record AreGiven (events : List WriteEvent) (index : ℕ) (given : GivenTokens) : Type 0 where
  pub only : (token : GivenToken) → set.contains same_token given.tokens token ≡ true → WasGiven events index token
  pub all : (token : GivenToken) → WasGiven events index token → set.contains same_token given.tokens token ≡ true

-- whether a token was given before an index
abbrev pub IsGiven : List WriteEvent → ℕ → GivenToken → Bool → Type 0
IsGiven events index token true = WasGiven events index token
IsGiven events index token false = WasGiven events index token → ⊥

-- whether an event is a write whose token was not given before an index
abbrev pub IsLacking : List WriteEvent → ℕ → WriteEvent → Bool → Type 0
IsLacking events index (Given token) lacks = lacks ≡ false
IsLacking events index (Offered write) lacks = IsGiven events index (token_needed write) (not lacks)

-- no event before an index is such a write
abbrev pub AllGivenBefore : List WriteEvent → ℕ → Type 0
AllGivenBefore events index =
    (place : ℕ) (write : Write) → place < index → slice_get events place ≡ Some (Offered write) → WasGiven events place (token_needed write)

-- the write at an index is the first with a token that was not given before
pub record IsFirstNotGiven (events : List WriteEvent) (index : ℕ) : Type 0 where
  pub write : Write
  pub here : slice_get events index ≡ Some (Offered write)
  pub not_given : WasGiven events index (token_needed write) → ⊥
  pub first : AllGivenBefore events index

-- WRITES THAT THE STORE TOOK

-- a write that the store took
abbrev pub write_of : Taken → Write
write_of taken = record { key = taken.key; token = taken.token; revision = Some taken.revision }

-- it is the one at its index
abbrev pub IsTakenIn : List WriteEvent → Taken → Type 0
IsTakenIn events taken = slice_get events taken.index ≡ Some (Offered (write_of taken))

-- the write of the event at an index, if the store took one
abbrev pub taken_by : ℕ → Write → Option ℕ → Option Taken
taken_by index write None = None
taken_by index write (Some revision) = Some record { index = index; key = write.key; token = write.token; revision = revision }

abbrev pub taken_at : ℕ → WriteEvent → Option Taken
taken_at index (Given token) = None
taken_at index (Offered write) = taken_by index write write.revision

-- the order of writes that the store took: by revision, then by token, then as the fields stand
abbrev pub token_cmp : Token → Token → Ordering
token_cmp a b = ordering_then (nat_cmp a.epoch b.epoch) (ordering_then (nat_cmp a.generation b.generation) (nat_cmp a.life b.life))

abbrev pub taken_cmp : Taken → Taken → Ordering
taken_cmp a b = ordering_then (nat_cmp a.revision b.revision) (ordering_then (token_cmp a.token b.token) (ordering_then (nat_cmp a.key b.key) (nat_cmp a.index b.index)))

-- these are the writes that the store took of the events before an index
pub record AreTakenBefore (events : List WriteEvent) (index : ℕ) (taken : List Taken) : Type 0 where
  pub each : (write : Taken) → Contains taken write → IsTakenIn events write
  pub all : (write : Taken) → write.index < index → IsTakenIn events write → Contains taken write

-- these are the writes that the store took
pub record AreTaken (events : List WriteEvent) (taken : List Taken) : Type 0 where
  pub each : (write : Taken) → Contains taken write → IsTakenIn events write
  pub all : (write : Taken) → IsTakenIn events write → Contains taken write

-- THE GREATEST TOKENS

-- a write of this key has a token up to that of another one
abbrev pub IsUpToOf : ℕ → Taken → Taken → Type 0
IsUpToOf key greatest write = write.key ≡ key → IsUpTo write.token greatest.token

-- this write is one of these of a key, and has the greatest token
pub record IsGreatest (before : List Taken) (key : ℕ) (greatest : Taken) : Type 0 where
  pub is : Contains before greatest
  pub of_key : greatest.key ≡ key
  pub most : (write : Taken) → Contains before write → IsUpToOf key greatest write

-- no write is of this key
abbrev pub IsWithout : List Taken → ℕ → Type 0
IsWithout before key = (write : Taken) → Contains before write → write.key ≡ key → ⊥

-- the shelves have for each key the write with the greatest token of these
abbrev pub IsKept : List Taken → ℕ → Option Taken → Type 0
IsKept before key None = IsWithout before key
IsKept before key (Some greatest) = IsGreatest before key greatest

abbrev pub AreGreatest : List Taken → Shelves → Type 0
AreGreatest before shelves = (key : ℕ) → IsKept before key (table.get nat_eq shelves.by_key key)

-- another write of the key of this one has a greater token
pub record IsAbove (write greater : Taken) : Type 0 where
  pub key : greater.key ≡ write.key
  pub token : IsBelow write.token greater.token

-- one of these writes, if there is one, of the key of this one and with a greater token
abbrev pub IsGreaterBefore : List Taken → Taken → Option Taken → Type 0
IsGreaterBefore before write None = (other : Taken) → Contains before other → IsAbove write other → ⊥
IsGreaterBefore before write (Some greater) = Contains before greater × IsAbove write greater

-- WRITES THAT WERE OVERTAKEN

-- the write at a place of these has one before it that is above it
pub record IsPassed (taken : List Taken) (place : ℕ) (write by : Taken) : Type 0 where
  pub here : slice_get taken place ≡ Some write
  pub before : Contains (take place taken) by
  pub above : IsAbove write by

-- the first of the passed writes before a place, by their events
pub record IsFirstPassed (taken : List Taken) (place : ℕ) (late : Late) : Type 0 where
  pub at : ℕ
  pub before : at < place
  pub write : Taken
  pub by : Taken
  pub passed : IsPassed taken at write by
  pub named : late ≡ record { index = write.index; by = by.index }
  pub least : (other : ℕ) (one another : Taken) → other < place → IsPassed taken other one another → late.index ≤ one.index

-- what is found of the writes before a place
abbrev pub IsFound : List Taken → ℕ → Option Late → Type 0
IsFound taken place None = (other : ℕ) (one another : Taken) → other < place → IsPassed taken other one another → ⊥
IsFound taken place (Some late) = IsFirstPassed taken place late

-- a write as the law rules it out
abbrev pub ruled_out : Late → RuledOut
ruled_out late = record { index = late.index; why = Overtaken late.by }

-- no write before an index was overtaken
abbrev pub NoneOvertakenBefore : List WriteEvent → ℕ → Type 0
NoneOvertakenBefore events index = (place by : ℕ) (write other : Write) → place < index → slice_get events place ≡ Some (Offered write)
    → slice_get events by ≡ Some (Offered other) → IsOvertaken write other → ⊥

-- the write at an index is the first that was overtaken, by one at a place
pub record IsFirstOvertaken (events : List WriteEvent) (late : Late) : Type 0 where
  pub write : Write
  pub here : slice_get events late.index ≡ Some (Offered write)
  pub by : Write
  pub there : slice_get events late.by ≡ Some (Offered by)
  pub overtaken : IsOvertaken write by
  pub first : NoneOvertakenBefore events late.index
