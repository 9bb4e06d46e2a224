-- Grants are compared as values, field by field.
use Rattle.std.specs.Prelude.{Bool, ◌&&◌, nat_eq}
use Rattle.std.specs.Cmp.{IsEquivalence, and_equiv, on_equiv, nat_eq_equiv}
use Rattle.lease_rule.specs.Equality.{lease_eq, lease_equivalence}
use Rattle.grants.specs.declared.values.Grant.{Grant}

-- whether two grants are equal
abbrev pub grant_eq : Grant → Grant → Bool
grant_eq a b = nat_eq a.number b.number && (nat_eq a.task b.task && (nat_eq a.life b.life && (lease_eq a.lease b.lease && nat_eq a.table_ends b.table_ends)))

pub grant_equivalence : IsEquivalence grant_eq
grant_equivalence =
    and_equiv (on_equiv (λ g. g.number) nat_eq_equiv) (and_equiv (on_equiv (λ g. g.task) nat_eq_equiv) (and_equiv (on_equiv (λ g. g.life) nat_eq_equiv)
    (and_equiv (on_equiv (λ g. g.lease) lease_equivalence) (on_equiv (λ g. g.table_ends) nat_eq_equiv))))
