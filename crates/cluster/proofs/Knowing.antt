-- Notes and handles are found by what they say.
use Rattle.std.proofs.Common.{◌≡◌, ℕ, Bool, refl}
use Rattle.std.specs.Prelude.{◌&&◌, nat_eq}
use Rattle.std.specs.Cmp.{nat_eq_equiv}
use Rattle.lease_rule.specs.declared.lease.Kind.{Kind}
use Rattle.lease_rule.specs.declared.lease.Kind.TheVariants.{Guard, Bridge}
use Rattle.lease_rule.specs.Leases.{same_kind}
use Rattle.grants.specs.declared.values.ReleaseNote.{ReleaseNote}
use Rattle.key_handle.specs.declared.handle.KeyHandle.{KeyHandle}
use Rattle.cluster.specs.Made.{same_note, same_handle}

four : (a b c d p q r s : Bool) → a ≡ p → b ≡ q → c ≡ r → d ≡ s → (a && (b && (c && d))) ≡ (p && (q && (r && s)))
four a b c d p q r s e f g h = rw (e, f, g, h) refl

swapped : (a b : ℕ) → nat_eq a b ≡ nat_eq b a
swapped a b = nat_eq_equiv.symm a b

kinds : (a b : Kind) → same_kind a b ≡ same_kind b a
kinds Guard Guard = refl
kinds Guard Bridge = refl
kinds Bridge Guard = refl
kinds Bridge Bridge = refl

pub same_note_turned : (a b : ReleaseNote) → same_note a b ≡ same_note b a
same_note_turned a b =
    four _ _ _ _ _ _ _ _ (swapped a.task b.task) (swapped a.life b.life) (kinds a.kind b.kind) (swapped a.number b.number)

pub same_handle_turned : (a b : KeyHandle) → same_handle a b ≡ same_handle b a
same_handle_turned a b = four _ _ _ _ _ _ _ _ (swapped a.task b.task) (swapped a.life b.life) (swapped a.key b.key) (swapped a.position b.position)
