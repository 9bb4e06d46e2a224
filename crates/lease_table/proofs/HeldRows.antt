-- The rows of each holder.
use Rattle.std.proofs.Common.{◌≡◌, ◌∙◌, ℕ, ◌==◌, Bool, true, false, List, [], ◌∷◌, ◌++◌, filter, length, refl, sym, ap, subst, arith}
use Rattle.std.specs.Prelude.{if◌then◌else◌, ◌&&◌, not, nat_lt, nat_le, Option, Some, None, Result, Ok, Err, OnErr}
use Rattle.std.specs.List.{AllByRecursion, IsDistinct}
use Rattle.std.specs.Map.{lookup, keys_of}
use Rattle.std.specs.Map.Calls.{RetainsPairs}
use Rattle.std.proofs.lemmas.Map.Keys.{IsDistinct-head, IsDistinct-tail}
use Rattle.std.specs.Option.{option_map_or, MatchOption, IsSomeAnd}
use Rattle.std.proofs.lemmas.Bool.{and_parts, and_from, eqb-true, eqb-false, eq-eqb, ltb-true, ltb-false, leb-true, leb-false, false≢true}
use Rattle.lease_rule.specs.Leases.{same_kind}
use Rattle.lease_rule.specs.declared.lease.Kind.{Kind}
use Rattle.lease_rule.specs.declared.lease.Kind.TheVariants.{Guard, Bridge}
use Rattle.lease_table.specs.declared.holders.Holder.{Holder}
use Rattle.grants.specs.declared.values.ReleaseNote.{ReleaseNote}
use Rattle.grants.specs.declared.values.Row.{Row}
use Rattle.grants.specs.Rows.{closes}
use Rattle.lease_table.specs.internals.Holders.{holder_of, holder_in, same_holder, holds}

-- EQUAL HOLDERS

equal_parts : (t u l m : ℕ) (j k : Kind) → same_holder (record { task = t; life = l; kind = j }) (record { task = u; life = m; kind = k }) ≡ true
    → (t ≡ u) × (l ≡ m) × (j ≡ k)
equal_parts t u l m Guard Guard e = let p = and_parts (t == u) (l == m && true) e in (eqb-true t u p.0, eqb-true l m (and_parts (l == m) true p.1).0, refl)
equal_parts t u l m Guard Bridge e = absurd (false≢true (and_parts (l == m) false (and_parts (t == u) (l == m && false) e).1).1)
equal_parts t u l m Bridge Guard e = absurd (false≢true (and_parts (l == m) false (and_parts (t == u) (l == m && false) e).1).1)
equal_parts t u l m Bridge Bridge e = let p = and_parts (t == u) (l == m && true) e in (eqb-true t u p.0, eqb-true l m (and_parts (l == m) true p.1).0, refl)

pub same_true : (a b : Holder) → same_holder a b ≡ true → a ≡ b
same_true a b e =
    let p = equal_parts a.task b.task a.life b.life a.kind b.kind e in
    λ i. record { task = p.0 i; life = p.1 i; kind = p.2 i }

equal_itself : (t l : ℕ) (k : Kind) → same_holder (record { task = t; life = l; kind = k }) (record { task = t; life = l; kind = k }) ≡ true
equal_itself t l Guard = and_from (t == t) (l == l && true) (eq-eqb t t refl) (and_from (l == l) true (eq-eqb l l refl) refl)
equal_itself t l Bridge = and_from (t == t) (l == l && true) (eq-eqb t t refl) (and_from (l == l) true (eq-eqb l l refl) refl)

pub same_itself : (a : Holder) → same_holder a a ≡ true
same_itself a = equal_itself a.task a.life a.kind

-- A NOTE'S HOLDER

flip : (t u : ℕ) → (t == u) ≡ (u == t)
flip t u = by_test (t == u) (u == t) refl refl
  where
    by_test : (a b : Bool) → (t == u) ≡ a → (u == t) ≡ b → a ≡ b
    by_test true true p q = refl
    by_test false false p q = refl
    by_test true false p q = absurd (eqb-false u t q (sym (eqb-true t u p)))
    by_test false true p q = absurd (eqb-false t u p (sym (eqb-true u t q)))

grouped : (a b c d : Bool) → (((a && b) && c) && d) ≡ ((a && (b && c)) && d)
grouped true b c d = refl
grouped false b c d = refl

parts : (t u l m : ℕ) (j k : Kind) (d : Bool)
    → (((t == u && l == m) && same_kind j k) && d) ≡ (same_holder (record { task = u; life = m; kind = k }) (record { task = t; life = l; kind = j }) && d)
parts t u l m Guard Guard d = (λ i. ((flip t u i && flip l m i) && true) && d) ∙ grouped (u == t) (m == l) true d
parts t u l m Guard Bridge d = (λ i. ((flip t u i && flip l m i) && false) && d) ∙ grouped (u == t) (m == l) false d
parts t u l m Bridge Guard d = (λ i. ((flip t u i && flip l m i) && false) && d) ∙ grouped (u == t) (m == l) false d
parts t u l m Bridge Bridge d = (λ i. ((flip t u i && flip l m i) && true) && d) ∙ grouped (u == t) (m == l) true d

-- a note closes the rows of its holder up to its number
pub closes_held : (note : ReleaseNote) (row : Row) → closes note row ≡ (holds (holder_in note) row && nat_le row.number note.number)
closes_held note row = parts note.task row.task note.life row.life note.kind row.kind (nat_le row.number note.number)

-- FILTERS

pub filter_same_tests : {X : Type 0} (p q : X → Bool) (xs : List X) → ((x : X) → p x ≡ q x) → filter p xs ≡ filter q xs
filter_same_tests p q [] e = refl
filter_same_tests p q (x ∷ xs) e = λ i. if e x i then x ∷ filter_same_tests p q xs e i else filter_same_tests p q xs e i

pub filter_both : {X : Type 0} (p q : X → Bool) (xs : List X) → filter p (filter q xs) ≡ filter (λ x. q x && p x) xs
filter_both p q [] = refl
filter_both p q (x ∷ xs) = by_test (q x) (filter_both p q xs)
  where
    by_test : (b : Bool) → filter p (filter q xs) ≡ filter (λ x. q x && p x) xs
        → filter p (if b then x ∷ filter q xs else filter q xs) ≡ (if b && p x then x ∷ filter (λ x. q x && p x) xs else filter (λ x. q x && p x) xs)
    by_test true rest = λ i. if p x then x ∷ rest i else rest i
    by_test false rest = rest

pub filter_push : {X : Type 0} (p : X → Bool) (xs : List X) (x : X) → filter p (xs ++ x ∷ []) ≡ (if p x then filter p xs ++ x ∷ [] else filter p xs)
filter_push p [] x = refl
filter_push p (y ∷ xs) x = by_test (p y) (p x) (filter_push p xs x)
  where
    by_test : (a b : Bool) → filter p (xs ++ x ∷ []) ≡ (if b then filter p xs ++ x ∷ [] else filter p xs)
        → (if a then y ∷ filter p (xs ++ x ∷ []) else filter p (xs ++ x ∷ [])) ≡ (if b then (if a then y ∷ filter p xs else filter p xs) ++ x ∷ [] else (if a then y ∷ filter p xs else filter p xs))
    by_test true true rest = ap (λ (ys : List _). y ∷ ys) rest
    by_test true false rest = ap (λ (ys : List _). y ∷ ys) rest
    by_test false b rest = rest

-- WHAT A NOTE LEAVES IN EACH LIST

-- a holder's row that a note of the same holder leaves open
left_here : (a b c : Bool) → c ≡ not b → (not (a && b) && a) ≡ (a && c)
left_here true true c e = sym e
left_here true false c e = sym e
left_here false b c e = refl

pub left_of_holder : (note : ReleaseNote) (rows : List Row)
    → filter (holds (holder_in note)) (filter (λ row. not (closes note row)) rows) ≡ filter (λ row. nat_lt note.number row.number) (filter (holds (holder_in note)) rows)
left_of_holder note rows =
    filter_both (holds (holder_in note)) (λ row. not (closes note row)) rows
    ∙ filter_same_tests (λ row. not (closes note row) && holds (holder_in note) row) (λ row. holds (holder_in note) row && nat_lt note.number row.number) rows
    (λ row. ap (λ (b : Bool). not b && holds (holder_in note) row) (closes_held note row) ∙ left_here (holds (holder_in note) row) (nat_le row.number note.number) (nat_lt note.number row.number) (turned row))
    ∙ sym (filter_both (λ row. nat_lt note.number row.number) (holds (holder_in note)) rows)
  where
    turned : (row : Row) → nat_lt note.number row.number ≡ not (nat_le row.number note.number)
    turned row = by_test (nat_lt note.number row.number) (nat_le row.number note.number) refl refl
      where
        by_test : (a b : Bool) → nat_lt note.number row.number ≡ a → nat_le row.number note.number ≡ b → a ≡ not b
        by_test true false p q = refl
        by_test false true p q = refl
        by_test true true p q = absurd (omega (arith, ltb-true note.number row.number p, leb-true row.number note.number q))
        by_test false false p q = absurd (omega (arith, ltb-false note.number row.number p, leb-false row.number note.number q))

-- a row of another holder is left open
pub left_of_others : (note : ReleaseNote) (holder : Holder) (rows : List Row) → same_holder (holder_in note) holder ≡ false
    → filter (holds holder) (filter (λ row. not (closes note row)) rows) ≡ filter (holds holder) rows
left_of_others note holder rows other =
    filter_both (holds holder) (λ row. not (closes note row)) rows
    ∙ filter_same_tests (λ row. not (closes note row) && holds holder row) (holds holder) rows (λ row. by_test row (holds holder row) (closes note row) refl refl)
  where
    by_test : (row : Row) (a b : Bool) → holds holder row ≡ a → closes note row ≡ b → (not b && a) ≡ a
    by_test row a false p q = refl
    by_test row false true p q = refl
    by_test row true true p q =
        let mine : holder_of row ≡ holder_in note = same_true (holder_of row) (holder_in note) (and_parts (holds (holder_in note) row) (nat_le row.number note.number) (sym (closes_held note row) ∙ q)).0 in
        let met : same_holder (holder_in note) holder ≡ true = subst (λ (h : Holder). same_holder h holder ≡ true) mine p in
        absurd (false≢true (sym other ∙ met))

-- LISTS IN A MAP

pub on_error : {T E P : Type 0} (r : Result T E) → P → OnErr r P
on_error (Ok value) p = tt
on_error (Err error) p = p

pub either_way : {X : Type 0} (b : Bool) (x : X) → (if b then x else x) ≡ x
either_way true x = refl
either_way false x = refl

pub no_items : {X : Type 0} (xs : List X) → nat_lt 0 (length xs) ≡ false → xs ≡ []
no_items [] e = refl
no_items (x ∷ xs) e = absurd (let l = ltb-false 0 (length (x ∷ xs)) e in omega (arith, l))

module _ {V : Type 0} (items : V → List Row) where
  -- the rows of a value, if there is one
  abbrev pub held : Option V → List Row
  held value = option_map_or items value []

  -- the list of one holder was changed
  pub changed : (key : Holder) (w : V) (old new : Holder → Option V) (change : List Row → List Row) → items w ≡ change (held (old key))
      → ((q : Holder) → new q ≡ (if same_holder key q then Some w else old q))
      → (q : Holder) → held (new q) ≡ (if same_holder key q then change (held (old q)) else held (old q))
  changed key w old new change e updates q = ap held (updates q) ∙ by_test (same_holder key q) refl
    where
      by_test : (b : Bool) → same_holder key q ≡ b → held (if b then Some w else old q) ≡ (if b then change (held (old q)) else held (old q))
      by_test true p = e ∙ ap (λ (h : Holder). change (held (old h))) (same_true key q p)
      by_test false p = refl

  -- a copy of a value has its rows
  pub held_again : {D : V → V → Type 0} (a b : Option V) → MatchOption a (b ≡ None) (λ v. IsSomeAnd b (D v)) → ((v w : V) → D v w → items w ≡ items v) → held b ≡ held a
  held_again None b m same = ap held m
  held_again (Some v) (Some w) m same = same v w m
  held_again (Some v) None m same = absurd m

  -- no entry of a key that is apart from all
  absent : (key : Holder) (entries : List (Holder × V)) → AllByRecursion (λ other. same_holder key other ≡ false) (keys_of entries) → held (lookup (same_holder key) entries) ≡ []
  absent key [] h = refl
  absent key (e ∷ entries) h = rw h.0 (absent key entries h.1)

  -- each list was filtered, and lists without rows were removed
  module _ {F : Type 0} (T : F → Holder → V → Bool → V → F → Type 0) (test : Row → Bool) (f : F)
      (says : (k : Holder) (v : V) (b : Bool) (w : V) (g : F) → T f k v b w g → (b ≡ nat_lt 0 (length (items w))) × (items w ≡ filter test (items v)) × (g ≡ f)) where
    pub filtered_lists : (es kept : List (Holder × V)) → RetainsPairs T f es kept → IsDistinct same_holder (keys_of es)
        → (q : Holder) → held (lookup (same_holder q) kept) ≡ filter test (held (lookup (same_holder q) es))
    filtered_lists [] kept h unique q = rw h refl
    filtered_lists (e ∷ es) kept h unique q =
        let s = says e.0 e.1 h.0 h.1 h.2 h.4 in
        let rest = filtered_lists es h.3 (subst (λ (g : F). RetainsPairs T g es h.3) s.2 h.5) (IsDistinct-tail same_holder e.0 (keys_of es) unique) q in
        ap (λ (k : List (Holder × V)). held (lookup (same_holder q) k)) h.6 ∙ by_test (same_holder q e.0) h.0 refl refl s.0 s.1 rest
      where
        by_test : (a b : Bool) → same_holder q e.0 ≡ a → h.0 ≡ b → h.0 ≡ nat_lt 0 (length (items h.1)) → items h.1 ≡ filter test (items e.1)
            → held (lookup (same_holder q) h.3) ≡ filter test (held (lookup (same_holder q) es))
            → held (lookup (same_holder q) (if b then (e.0, h.1) ∷ h.3 else h.3)) ≡ filter test (held (if a then Some e.1 else lookup (same_holder q) es))
        by_test true true p r t i rest = rw p i
        by_test false true p r t i rest = rw p rest
        by_test false false p r t i rest = rest
        by_test true false p r t i rest =
            let key : q ≡ e.0 = same_true q e.0 p in
            let none : held (lookup (same_holder q) es) ≡ [] = rw key (absent e.0 es (IsDistinct-head same_holder e.0 (keys_of es) unique)) in
            let empty : items h.1 ≡ [] = no_items (items h.1) (sym t ∙ r) in
            rest ∙ ap (λ (rs : List Row). filter test rs) none ∙ sym empty ∙ i
