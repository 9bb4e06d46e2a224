-- Values that are compared field by field.
use Rattle.std.proofs.Common.{◌≡◌, Bool, true, false, ◌||◌, List, [], ◌∷◌, refl, sym, subst, eqb-true}
use Rattle.std.specs.Prelude.{Contains}
use Rattle.std.specs.List.{list_any}
use Rattle.std.specs.Cmp.Lexicographic.{bytes_decides}
use Rattle.std.proofs.lemmas.Bool.{and_parts}
use Rattle.lease_rule.specs.declared.lease.Lease.{Lease}
use Rattle.lease_rule.specs.Equality.{lease_eq}
use Rattle.grants.specs.declared.values.Grant.{Grant}
use Rattle.grants.specs.declared.values.ReleaseNote.{ReleaseNote}
use Rattle.grants.specs.Equality.{grant_eq}
use Rattle.grants.proofs.Members.{here, there}
use Rattle.slicelet.proofs.OwnLeases.{equal_kinds}
use Rattle.cluster.specs.Made.{same_note}

equal_leases : (a b : Lease) → lease_eq a b ≡ true → a ≡ b
equal_leases a b e =
    let one = and_parts _ _ e in
    let two = and_parts _ _ one.1 in
    let three = and_parts _ _ two.1 in
    let kind = equal_kinds a.kind b.kind one.0 in
    let generation = eqb-true a.generation b.generation two.0 in
    let ranges = (bytes_decides a.ranges b.ranges).0 three.0 in
    let ends = eqb-true a.ends b.ends three.1 in
    λ i. record { kind = kind i; generation = generation i; ranges = ranges i; ends = ends i }

pub equal_grants : (a b : Grant) → grant_eq a b ≡ true → a ≡ b
equal_grants a b e =
    let one = and_parts _ _ e in
    let two = and_parts _ _ one.1 in
    let three = and_parts _ _ two.1 in
    let four = and_parts _ _ three.1 in
    let number = eqb-true a.number b.number one.0 in
    let task = eqb-true a.task b.task two.0 in
    let life = eqb-true a.life b.life three.0 in
    let lease = equal_leases a.lease b.lease four.0 in
    let table_ends = eqb-true a.table_ends b.table_ends four.1 in
    λ i. record { number = number i; task = task i; life = life i; lease = lease i; table_ends = table_ends i }

pub equal_notes : (a b : ReleaseNote) → same_note a b ≡ true → a ≡ b
equal_notes a b e =
    let one = and_parts _ _ e in
    let two = and_parts _ _ one.1 in
    let three = and_parts _ _ two.1 in
    let task = eqb-true a.task b.task one.0 in
    let life = eqb-true a.life b.life two.0 in
    let kind = equal_kinds a.kind b.kind three.0 in
    let number = eqb-true a.number b.number three.1 in
    λ i. record { task = task i; life = life i; kind = kind i; number = number i }

-- a value that equals one of a list is in it
pub is_member : {X : Type 0} (same : X → X → Bool) → ((a b : X) → same a b ≡ true → a ≡ b) → (x : X) (xs : List X) → list_any (same x) xs ≡ true → Contains xs x
is_member same equal x [] e = absurd (let f : false ≡ true = e in cc)
is_member {X = X} same equal x (y ∷ ys) e = by_test (same x y) refl e (is_member same equal x ys)
  where
    by_test : (b : Bool) → same x y ≡ b → (b || list_any (same x) ys) ≡ true → (list_any (same x) ys ≡ true → Contains ys x) → Contains (y ∷ ys) x
    by_test true s t rest = subst (λ (z : X). Contains (y ∷ ys) z) (sym (equal x y s)) (here y ys)
    by_test false s t rest = there y x ys (rest t)
