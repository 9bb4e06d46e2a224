-- Leases and holdings are compared as values, field by field.
use Rattle.std.specs.Prelude.{◌≡◌, Bool, true, ◌&&◌, nat_eq}
use Rattle.std.specs.Bool.{beq}
use Rattle.std.specs.Option.{option_eq}
use Rattle.std.specs.Cmp.{IsEquivalence, and_equiv, on_equiv, bool_eq_equiv, nat_eq_equiv}
use Rattle.std.specs.Cmp.Lexicographic.{pointwise, nat_list_eq_equiv, options_equiv}
use Rattle.std.proofs.Common.{refl, sym}
use Rattle.std.proofs.lemmas.Bool.{true≢false}
use Rattle.lease_rule.specs.declared.lease.Kind.{Kind}
use Rattle.lease_rule.specs.declared.lease.Kind.TheVariants.{Guard, Bridge}
use Rattle.lease_rule.specs.declared.lease.Lease.{Lease}
use Rattle.lease_rule.specs.declared.holding.Holding.{Holding}
use Rattle.lease_rule.specs.Leases.{same_kind}

-- whether two leases are equal
abbrev pub lease_eq : Lease → Lease → Bool
lease_eq a b = same_kind a.kind b.kind && (nat_eq a.generation b.generation && (pointwise nat_eq a.ranges b.ranges && nat_eq a.ends b.ends))

-- whether two holdings are equal
abbrev pub holding_eq : Holding → Holding → Bool
holding_eq a b = beq a.up b.up && (nat_eq a.last b.last && (option_eq lease_eq a.guard b.guard && option_eq lease_eq a.bridge b.bridge))

kinds_reflexive : (a : Kind) → same_kind a a ≡ true
kinds_reflexive Guard = refl
kinds_reflexive Bridge = refl

kinds_symmetric : (a b : Kind) → same_kind a b ≡ same_kind b a
kinds_symmetric Guard Guard = refl
kinds_symmetric Guard Bridge = refl
kinds_symmetric Bridge Guard = refl
kinds_symmetric Bridge Bridge = refl

kinds_agree : (a b c : Kind) → same_kind a b ≡ true → same_kind a c ≡ same_kind b c
kinds_agree Guard Guard c h = refl
kinds_agree Guard Bridge c h = absurd (true≢false (sym h))
kinds_agree Bridge Guard c h = absurd (true≢false (sym h))
kinds_agree Bridge Bridge c h = refl

kind_equivalence : IsEquivalence same_kind
kind_equivalence = record { refl = kinds_reflexive; symm = kinds_symmetric; congr = kinds_agree }

pub lease_equivalence : IsEquivalence lease_eq
lease_equivalence = and_equiv (on_equiv (λ l. l.kind) kind_equivalence) (and_equiv (on_equiv (λ l. l.generation) nat_eq_equiv) (and_equiv (on_equiv (λ l. l.ranges) nat_list_eq_equiv) (on_equiv (λ l. l.ends) nat_eq_equiv)))

pub holding_equivalence : IsEquivalence holding_eq
holding_equivalence =
    let held = options_equiv lease_equivalence in
    and_equiv (on_equiv (λ h. h.up) bool_eq_equiv) (and_equiv (on_equiv (λ h. h.last) nat_eq_equiv) (and_equiv (on_equiv (λ h. h.guard) held) (on_equiv (λ h. h.bridge) held)))
