-- The keys that held leases serve.
use Rattle.std.specs.Prelude.{◌≡◌, ℕ, ◌+◌, ◌<◌, ◌≤◌, ◌||◌, Bool, true, Option, option_map}
use Rattle.slice_ranges.specs.declared.key.TheConstants.{KEYS}
use Rattle.lease_rule.specs.declared.holding.Holding.{Holding}
use Rattle.lease_rule.specs.declared.lease.Lease.{Lease}
use Rattle.lease_rule.specs.Leases.{seen_from}
use Rattle.lease_rule.specs.Rule.{is_serving}
use Rattle.key_handle.specs.Stamps.{Stamps, since, stamp_after_change}
use Rattle.slicelet.specs.States.{SliceletState, stamp_in, permits}

-- a held lease is live at the reading and covers the key
abbrev pub serves : Holding → ℕ → ℕ → Bool
serves holding key at = is_serving at (option_map (seen_from key) holding.guard) || is_serving at (option_map (seen_from key) holding.bridge)

-- the stamps of the keys after one call more, at a reading, which leaves these leases
abbrev pub IsRestamped : SliceletState → ℕ → Holding → Stamps → Type 0
IsRestamped s at next stamps = (key : ℕ) → key < KEYS → since stamps key ≡ stamp_after_change (stamp_in s key) (permits s key at) (serves next key at) (s.count + 1)

-- a lease that is live at a reading, or none, served at each earlier reading what it serves then
abbrev pub Stays : ℕ → Option Lease → Type 0
Stays at held = (key earlier : ℕ) → earlier ≤ at → is_serving earlier (option_map (seen_from key) held) ≡ is_serving at (option_map (seen_from key) held)

-- a lease, or none, serves at a reading what another one does
abbrev pub ServesSame : ℕ → Option Lease → Option Lease → Type 0
ServesSame at lease other = (key : ℕ) → is_serving at (option_map (seen_from key) lease) ≡ is_serving at (option_map (seen_from key) other)

-- a lease, or none, serves at a reading all that another one does
abbrev pub ServesAll : ℕ → Option Lease → Option Lease → Type 0
ServesAll at other lease = (key : ℕ) → is_serving at (option_map (seen_from key) lease) ≡ true → is_serving at (option_map (seen_from key) other) ≡ true

-- a lease in the place of a held one leaves, with that of the other kind, what is served at a reading; and
-- the same was served at each earlier one
pub record RenewsBeside (at : ℕ) (held lease other : Option Lease) : Type 0 where
  pub same : (key : ℕ) → (is_serving at (option_map (seen_from key) lease) || is_serving at (option_map (seen_from key) other))
      ≡ (is_serving at (option_map (seen_from key) held) || is_serving at (option_map (seen_from key) other))
  pub held_stays : Stays at held
  pub other_stays : Stays at other

-- a task may serve at a reading what it might before, and might at each earlier one
pub record Renews (holding : Holding) (next : Holding) (at : ℕ) : Type 0 where
  pub same : (key : ℕ) → serves next key at ≡ serves holding key at
  pub stays : (key earlier : ℕ) → earlier ≤ at → serves holding key earlier ≡ serves holding key at
