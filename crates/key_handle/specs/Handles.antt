-- Handles, checked by stamps.
use Rattle.std.specs.Prelude.{ℕ, ◌==◌, ◌&&◌, Bool, false, nat_le, Option, Some, None}
use Rattle.key_handle.specs.declared.handle.KeyHandle.{KeyHandle}
use Rattle.key_handle.specs.Stamps.{Stamps, since}

-- there is a stamp, and it is at most this
abbrev pub is_up_to : ℕ → Option ℕ → Bool
is_up_to position None = false
is_up_to position (Some stamp) = nat_le stamp position

-- a handle is of this life, and its key has a stamp that is not above its position
abbrev pub is_still : KeyHandle → ℕ → Stamps → Bool
is_still handle life stamps = handle.life == life && is_up_to handle.position (since stamps handle.key)
