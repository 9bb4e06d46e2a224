-- What the last state of a table shows, once all passes are taken in.
use Rattle.std.proofs.Common.{◌≡◌, ◌⊎◌, ℕ, ◌+◌, ◌<◌, ◌≤◌, Bool, true, false, ◌||◌, List, [], ◌∷◌, ◌++◌, map, length, get_or, refl, sym, ap, ◌∙◌, subst, ⊎_elim, inl, inr, arith, Option, Some, Result}
use Rattle.std.proofs.lemmas.Bool.{eqb-true}
use Rattle.std.specs.List.{AllByRecursion}
use mathlib.Core.Logic.{dite}
use mathlib.Core.Option.{some, some-injective}
use native.Mathlib.Decide.{ℕ_discrete}
use lib.ListN.{get_elem?}
use Rattle.atomic_table.specs.Table.{Final, Seen}
use Rattle.history_lock.specs.declared.entry.Entry.{Entry}
use Rattle.history_lock.specs.declared.view.Opened.{Opened}
use Rattle.history_lock.specs.declared.view.Role.{Role}
use Rattle.history_lock.specs.declared.view.Role.TheVariants.{Lane}
use Rattle.history_lock.specs.declared.view.GatheredPass.{GatheredPass}
use Rattle.history_lock.specs.declared.view.SeatView.{SeatView}
use Rattle.history_lock.specs.declared.view.LaneState.{LaneState}
use Rattle.history_lock.specs.Histories.{replay, of_lane, StartsWith}
use Rattle.history_lock.specs.Passes.{Lock, PassView}
use Rattle.history_lock.specs.Rule.{word_index, HasLane, KnowsRole, KnowsPasses, HasOneHistory}
use Rattle.history_lock.specs.Closing.{has_lane, Agrees, IsWhole}
use Rattle.history_lock.specs.internals.Gathering.{gathered_pass, gathered_pass_of, IsGathered, IsEnd}

module _ {E : Type 0} (log : List (Entry E)) (next dealer : ℕ) (owner : ℕ → ℕ) (id : ℕ) where
  owner_of_gathered : (n : ℕ) (gs : List (GatheredPass E)) → KnowsPasses log next dealer owner id gs → IsGathered n gs → owner n ≡ id
  owner_of_gathered n [] h g = absurd g
  owner_of_gathered n (x ∷ gs) h g = ⊎_elim (λ (e : x.lane ≡ n). ap owner (sym e) ∙ h.0.0.0) (λ (r : IsGathered n gs). owner_of_gathered n gs h.1 r) g

  all_agree : (items : List (Entry E)) (gs : List (GatheredPass E)) → items ≡ log → KnowsPasses log next dealer owner id gs → AllByRecursion (λ (g : GatheredPass E). StartsWith items g.seen × (of_lane g.lane items ≡ g.mine)) gs
  all_agree items [] e h = tt
  all_agree items (x ∷ gs) e h = ((subst (λ (l : List (Entry E)). StartsWith l x.seen) (sym e) h.0.1, ap (of_lane x.lane) e ∙ h.0.0.2), all_agree items gs e h.1)

module _ {M E R F : Type 0} (step : M → E → Result (M × R) F) (opened : Opened M) where
  -- a seat that has all lanes, and holds none, knows that the lane state of the last lane is at home
  pub ends : (id k l : ℕ) (v : SeatView M E) (words : List ℕ) (slots : List (Option (LaneState M E))) → v.role ≡ Lane k → v.end ≤ v.start → ((n : ℕ) → n < opened.lanes → (n ≡ k) ⊎ IsGathered n v.passes) → length slots ≡ l + 1 → l + 1 ≡ opened.lanes
      → Final (Seen (HasOneHistory step opened) id v) words slots → (b : LaneState M E) × (get_elem? slots l ≡ some (Some b)) × IsEnd step opened (gathered_pass k v.seen v.mine ∷ v.passes) b
  ends id k l v words slots role idle all deeper last f =
      let s = f.0 in let r = f.1.0 in let at = f.1.1 in let q = r.each id v at in let wide = r.wide in let deep = f.3 in
      let mine : HasLane r.log r.next r.dealer r.owner id k v.mine = subst (λ (x : Role). KnowsRole r.log r.next r.dealer r.owner id x v.mine) role q.role in
      let few = r.few in
      dite (ℕ_discrete (get_or s.words (word_index l) 0) 0)
      (λ hit. let h = r.home l (omega arith) hit in let b : LaneState M E = h.0 in let same : b.history.items ≡ r.log = h.2.logged last in (
        b,
        f.4 l (Some b) h.1,
        record {
          legal = subst (λ x. replay step opened.machine x ≡ Some b.machine) (sym same) h.2.legal;
          agrees = ((subst (λ l. StartsWith l v.seen) (sym same) q.before, ap (of_lane k) same ∙ mine.2), all_agree r.log r.next r.dealer r.owner id b.history.items v.passes same q.passes);
          others = λ n later. ap (of_lane n) same ∙ r.undealt n (omega arith);
          short = subst (λ l. length l ≤ opened.limit) (sym same) r.short;
        },
      ))
      (λ miss. let t = (r.away l (omega arith) miss).1 in let u : SeatView M E = t.0 in let z = r.each (r.holder l) u t.1 in
      let out = z.out l t.2 t.3 in let n : ℕ = out.word.0 in
      let has : HasLane r.log r.next r.dealer r.owner (r.holder l) n u.mine = subst (λ (x : Role). KnowsRole r.log r.next r.dealer r.owner (r.holder l) x u.mine) out.word.1 z.role in
      let below : n < opened.lanes = (let x : n < r.next = has.1 in omega arith) in
      let same : r.holder l ≡ id = sym has.0 ∙ ⊎_elim (λ (e : n ≡ k). ap r.owner e ∙ mine.0) (λ (e : IsGathered n v.passes). owner_of_gathered r.log r.next r.dealer r.owner id n v.passes q.passes e) (all n below) in
      let one : u ≡ v = some-injective u v (sym t.1 ∙ (ap (get_elem? s.views) same ∙ at)) in
      let low : v.start ≤ l = subst (λ (x : SeatView M E). x.start ≤ l) one t.2 in let high : l < v.end = subst (λ (x : SeatView M E). l < x.end) one t.3 in absurd (omega arith))

either_true : (b c : Bool) → (b || c) ≡ true → (b ≡ true) ⊎ (c ≡ true)
either_true true c h = inl refl
either_true false c h = inr h

no_false : false ≡ true → ⊥
no_false h = cc

module _ {M E : Type 0} where
  pub here_or_gathered : (n : ℕ) (ps : List (PassView M E)) (p : PassView M E) → has_lane n (ps ++ p ∷ []) ≡ true → (n ≡ p.lane) ⊎ IsGathered n (map gathered_pass_of ps)
  here_or_gathered n [] p h = ⊎_elim (λ e. inl (sym (eqb-true p.lane n e))) (λ e. absurd (no_false e)) (either_true _ _ h)
  here_or_gathered n (q ∷ ps) p h = ⊎_elim (λ e. inr (inl (eqb-true q.lane n e))) (λ e. ⊎_elim (λ (x : n ≡ p.lane). inl x) (λ (x : IsGathered n (map gathered_pass_of ps)). inr (inr x)) (here_or_gathered n ps p e)) (either_true _ _ h)

  pub agrees_snoc : (log : List (Entry E)) (ps : List (PassView M E)) (p : PassView M E) → AllByRecursion (λ (g : GatheredPass E). StartsWith log g.seen × (of_lane g.lane log ≡ g.mine)) (gathered_pass_of p ∷ map gathered_pass_of ps)
      → AllByRecursion (Agrees log) (ps ++ p ∷ [])
  agrees_snoc log [] p h = (h.0, tt)
  agrees_snoc log (q ∷ ps) p h = (h.1.0, agrees_snoc log ps p (h.0, h.1.1))

module _ {M E R F : Type 0} (step : M → E → Result (M × R) F) where
  pub whole_of : (lock : Lock M) (opened : Opened M) (passes ps : List (PassView M E)) (p : PassView M E) (gs : List (GatheredPass E)) (b : LaneState M E) (history : List (Entry E))
      → opened ≡ lock.opened → passes ≡ ps ++ p ∷ [] → gs ≡ gathered_pass_of p ∷ map gathered_pass_of ps → history ≡ b.history.items → IsEnd step opened gs b → IsWhole step lock passes b.machine history
  whole_of lock opened passes ps p gs b history same is view_after_claim items e =
      let fits : List (Entry E) → GatheredPass E → Type 0 = λ l g. StartsWith l g.seen × (of_lane g.lane l ≡ g.mine) in
      let all : AllByRecursion (Agrees b.history.items) passes = subst (AllByRecursion (Agrees b.history.items)) (sym is) (agrees_snoc b.history.items ps p (subst (AllByRecursion (fits b.history.items)) view_after_claim e.agrees)) in
      subst (IsWhole step lock passes b.machine) (sym items) record {
        legal = subst (λ (o : Opened M). replay step o.machine b.history.items ≡ Some b.machine) same e.legal;
        agrees = all;
        others = λ n later. e.others n (subst (λ (o : Opened M). o.lanes ≤ n) (sym same) later);
        short = subst (λ (o : Opened M). length b.history.items ≤ o.limit) same e.short;
      }
