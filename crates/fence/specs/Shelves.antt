-- What a store keeps for one key.
use Rattle.std.specs.Prelude.{◌==◌, ◌||◌, ◌&&◌, nat_lt, nat_le, Bool, List, [], ◌∷◌, ⊤, if◌then◌else◌}
use Rattle.std.specs.List.{AllByRecursion}
use Rattle.fence.specs.declared.token.Token.{Token}
use Rattle.fence.specs.Requests.{Request}

-- the greatest token with which a write was accepted, and the accepted writes, the last one first
pub record Shelf : Type 0 where
  pub greatest : Token
  pub accepted : List Request

-- the token below every other
abbrev pub lowest : Token
lowest = record { epoch = 0; generation = 0; life = 0 }

-- before the first write
abbrev pub empty : Shelf
empty = record { greatest = lowest; accepted = [] }

-- a write is accepted unless its token is below the greatest
abbrev pub accepts : Token → Token → Bool
accepts greatest token =
    nat_lt greatest.epoch token.epoch
    || (greatest.epoch == token.epoch
    && (nat_lt greatest.generation token.generation || (greatest.generation == token.generation && nat_le greatest.life token.life)))

-- a request's write is offered
abbrev pub offer : Request → Shelf → Shelf
offer write shelf = if accepts shelf.greatest write.token then record { greatest = write.token; accepted = write ∷ shelf.accepted } else shelf

-- the shelf after writes were offered, the last one first
abbrev pub shelf_after : List Request → Shelf
shelf_after [] = empty
shelf_after (write ∷ before) = offer write (shelf_after before)

-- each of these, the last one first, stands so to every one before it
abbrev pub AreInTurn : (Request → Request → Type 0) → List Request → Type 0
AreInTurn Follows [] = ⊤
AreInTurn Follows (last ∷ before) = AllByRecursion (Follows last) before × AreInTurn Follows before
