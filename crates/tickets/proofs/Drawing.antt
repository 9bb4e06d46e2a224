-- Each step on a ticket's word keeps its rule.
use Rattle.std.proofs.Common.{cond, ◌==◌, ◌≡◌, ℕ, ◌+◌, ◌*◌, ◌%◌, ◌^◌, ◌<◌, ◌≤◌, List, [], ◌∷◌, get_or, set, sym, refl, ap, ◌∙◌, subst, ⊎_elim, arith}
use Rattle.std.specs.List.{All, sum_by, slice_index}
use Rattle.std.proofs.lemmas.List.Sums.{sum_by-append, sum_by_push}
use Rattle.std.proofs.lemmas.List.{length-set, get_or-set_same}
use Rattle.std.proofs.Math.Nat.{mod-eq_of_lt, mul-le-mul}
use mathlib.Core.Option.{some}
use lib.ListN.{get_elem?}
use Rattle.atomic_table.specs.Table.{State, Allows, Splits, Joins}
use Rattle.atomic_table.specs.Table.Act.{keeps}
use Rattle.atomic_table.proofs.Lists.{at_set, at_snoc}
use Rattle.tickets.specs.declared.ticket_rule.TicketTerms.{TicketTerms}
use Rattle.tickets.specs.declared.ticket_rule.TicketShare.{TicketShare}
use Rattle.tickets.specs.Tickets.{times, once_below}
use Rattle.tickets.specs.TicketRule.{DrawsEachOnce, IsDrawnOn, share_after_draw, share_after_dealing, new_share, both_shares, no_share}
use Rattle.tickets.proofs.TicketTotals.{sum_set, sum_get, sum_zero, times_here, once_step, once_is_below}

-- the shares and what was drawn, after the share of one seat has changed
module _ {S : Type 0} (terms : TicketTerms) (s : State S TicketShare) (kept : DrawsEachOnce terms s) (seat : ℕ) (v : TicketShare) (at : get_elem? s.views seat ≡ some v) where
  abbrev word : ℕ
  word = slice_index s.words 0

  in_bounds : 0 < v.left → word < terms.passes * terms.quota
  in_bounds room = let a = sum_get (λ (w : TicketShare). w.left) s.views seat v at in let b = kept.left in omega (arith, a, b)

  all_below : All (λ y. y < word) v.drawn
  all_below k d low =
      let x = get_or v.drawn k d in let a = times_here v.drawn k d low in let b = sum_get (λ (w : TicketShare). times x w.drawn) s.views seat v at in
      once_is_below x word (omega (arith, a, b, kept.once x))

  -- a seat that stands for no pass has drawn nothing
  idle_set : (w : TicketShare) → (w.passes ≡ 0 → w.drawn ≡ []) → (j : ℕ) (u : TicketShare) → get_elem? (set s.views seat w) j ≡ some u → u.passes ≡ 0 → u.drawn ≡ []
  idle_set w fine j u here none =
      ⊎_elim (λ t. let P : TicketShare → Type 0 = λ h. h.passes ≡ 0 → h.drawn ≡ [] in subst P t.1 fine none) (λ t. kept.idle j u t.1 none) (at_set s.views seat j w u here)

  drawn_kept : 0 < v.left → 0 < v.passes → (next : ℕ) → next ≡ word + 1
      → DrawsEachOnce terms (let z : State S TicketShare = record { words = set s.words 0 next; homes = s.homes; views = set s.views seat (share_after_draw v word) } in z)
  drawn_kept room some_pass next is_next =
      let w = share_after_draw v word in
      let now : slice_index (set s.words 0 next) 0 ≡ word + 1 = get_or-set_same s.words 0 next 0 (omega (arith, kept.one_word)) ∙ is_next in record {
        one_word = length-set s.words 0 next ∙ kept.one_word;
        passes = let t = sum_set (λ (h : TicketShare). h.passes) s.views seat v w at in let k = kept.passes in omega (arith, t, k);
        left = let t = sum_set (λ (h : TicketShare). h.left) s.views seat v w at in let k = kept.left in omega (arith, t, k, now);
        once = λ x. let t = sum_set (λ (h : TicketShare). times x h.drawn) s.views seat v w at in
            let more : sum_by (λ (h : TicketShare). times x h.drawn) (set s.views seat w) ≡ once_below x (word + 1) = omega (arith, t, kept.once x, sum_by-append (λ y. cond (y == x) 1 0) v.drawn (word ∷ []), once_step x word) in
            more ∙ ap (once_below x) (sym now);
        idle = idle_set w (λ none. absurd (omega arith));
      }

pub draws_kept : {S : Type 0} (terms : TicketTerms) (slots seat : ℕ) (v : TicketShare) (rest : List (ℕ × S)) → v.terms ≡ terms → 0 < v.left → 0 < v.passes → terms.passes * terms.quota < 2 ^ 64
    → Allows (DrawsEachOnce terms) slots seat (v, rest) 0 (λ n. (n + 1) % 2 ^ 64) (λ n after. IsDrawnOn (v, rest) n after)
draws_kept terms slots seat v rest same room some_pass fits s kept homes at word =
    let n = slice_index s.words 0 in
    let low : n < terms.passes * terms.quota = in_bounds terms s kept seat v at room in
    let next : (n + 1) % 2 ^ 64 ≡ n + 1 = mod-eq_of_lt (omega (arith, low, fits)) in (
      share_after_draw v n,
      keeps,
      tt,
      drawn_kept terms s kept seat v at room some_pass ((n + 1) % 2 ^ 64) next,
      (refl, all_below terms s kept seat v at, subst (λ (t : TicketTerms). n < t.passes * t.quota) (sym same) low),
    )

pub splits_kept : {S : Type 0} (terms : TicketTerms) (seat : ℕ) (v : TicketShare) → v.terms ≡ terms → 0 < v.passes → terms.quota ≤ v.left → v.drawn ≡ []
    → Splits (DrawsEachOnce {S = S} terms) seat v (share_after_dealing v) (new_share v.terms)
splits_kept terms seat v same some_pass room blank s kept at =
    let a = share_after_dealing v in let b = new_share v.terms in
    let quota : v.terms.quota ≡ terms.quota = ap (λ (t : TicketTerms). t.quota) same in record {
      one_word = kept.one_word;
      passes = let t = sum_set (λ (h : TicketShare). h.passes) s.views seat v a at in
          let p = sum_by_push (λ (h : TicketShare). h.passes) (set s.views seat a) b in let k = kept.passes in omega (arith, t, p, k);
      left = let t = sum_set (λ (h : TicketShare). h.left) s.views seat v a at in
          let p = sum_by_push (λ (h : TicketShare). h.left) (set s.views seat a) b in let k = kept.left in omega (arith, t, p, k, quota);
      once = λ x. let t = sum_set (λ (h : TicketShare). times x h.drawn) s.views seat v a at in
          let p = sum_by_push (λ (h : TicketShare). times x h.drawn) (set s.views seat a) b in omega (arith, t, p, kept.once x);
      idle = λ j u here none. ⊎_elim (λ t. idle_set terms s kept seat v at a (λ e. blank) j u t none) (λ t. ap (λ (h : TicketShare). h.drawn) (sym t)) (at_snoc (set s.views seat a) b u j here);
    }

pub joins_kept : {S : Type 0} (terms : TicketTerms) (seat : ℕ) (v : TicketShare) (other : ℕ) (w : TicketShare) → 0 < v.passes
    → Joins (DrawsEachOnce {S = S} terms) seat v other w (both_shares v w) no_share
joins_kept terms seat v other w some_pass s kept at apart there =
    let a = both_shares v w in let b = no_share in record {
      one_word = kept.one_word;
      passes = let t = sum_set (λ (h : TicketShare). h.passes) s.views seat v a at in
          let p = sum_set (λ (h : TicketShare). h.passes) (set s.views seat a) other w b there in let k = kept.passes in omega (arith, t, p, k);
      left = let t = sum_set (λ (h : TicketShare). h.left) s.views seat v a at in
          let p = sum_set (λ (h : TicketShare). h.left) (set s.views seat a) other w b there in let k = kept.left in omega (arith, t, p, k);
      once = λ x. let t = sum_set (λ (h : TicketShare). times x h.drawn) s.views seat v a at in
          let p = sum_set (λ (h : TicketShare). times x h.drawn) (set s.views seat a) other w b there in
          omega (arith, t, p, kept.once x, sum_by-append (λ y. cond (y == x) 1 0) v.drawn w.drawn);
      idle = λ j u here none. ⊎_elim (λ t. ap (λ (h : TicketShare). h.drawn) (sym t.1)) (λ t. idle_set terms s kept seat v at a (λ e. absurd (omega arith)) j u t.1 none)
          (at_set (set s.views seat a) other j b u here);
    }

-- the seat that stands for all passes knows all that was drawn
pub knows_all : {S : Type 0} (terms : TicketTerms) (s : State S TicketShare) (seat : ℕ) (v : TicketShare) → DrawsEachOnce terms s → get_elem? s.views seat ≡ some v → v.passes ≡ terms.passes
    → (x : ℕ) → times x v.drawn ≡ once_below x (slice_index s.words 0)
knows_all terms s seat v kept at whole x =
    let none : (i : ℕ) (u : TicketShare) → get_elem? (set s.views seat no_share) i ≡ some u → times x u.drawn ≡ 0 = λ i u here.
    let t = sum_set (λ (h : TicketShare). h.passes) s.views seat v no_share at in let p = sum_get (λ (h : TicketShare). h.passes) (set s.views seat no_share) i u here in let k = kept.passes in
    ap (times x) (idle_set terms s kept seat v at no_share (λ e. refl) i u here (omega (arith, t, p, k))) in
    let t = sum_set (λ (h : TicketShare). times x h.drawn) s.views seat v no_share at in
    omega (arith, t, sum_zero (λ (h : TicketShare). times x h.drawn) (set s.views seat no_share) none, kept.once x)

-- no word overflows
pub fits_a_word : (t : TicketTerms) → t.passes ≤ 128 → t.quota ≤ 2 ^ 32 → t.passes * t.quota < 2 ^ 64
fits_a_word t few short = let h : t.passes * t.quota ≤ 128 * 2 ^ 32 = mul-le-mul few short in omega (arith, h)
