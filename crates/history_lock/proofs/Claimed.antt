-- What a writer holds after each claim, and after its lanes were given back.
use Rattle.std.proofs.Common.{◌≡◌, ℕ, zero, suc, ◌+◌, ◌<◌, ◌≤◌, List, [], ◌∷◌, ◌++◌, length, refl, sym, ap, ◌∙◌, subst, arith, Option, Some, None, Result}
use mathlib.Core.Logic.{dite}
use mathlib.Core.Option.{some}
use native.Mathlib.Decide.{ℕ_discrete}
use lib.ListN.{get_elem?}
use Rattle.atomic_table.proofs.Lists.{at_last, at_longer}
use Rattle.atomic_table.specs.Table.{Me, rest}
use Rattle.history_lock.specs.declared.entry.Entry.{Entry}
use Rattle.history_lock.specs.declared.error.Busy.{Busy}
use Rattle.history_lock.specs.declared.view.Opened.{Opened}
use Rattle.history_lock.specs.declared.view.Role.{Role}
use Rattle.history_lock.specs.declared.view.SeatView.{SeatView}
use Rattle.history_lock.specs.declared.view.LaneState.{LaneState}
use Rattle.history_lock.specs.Histories.{IsLegal, StartsWith}
use Rattle.history_lock.specs.Rule.{IsLaneState, IsTaken, mine_of, view_after_claim, view_after_return}
use Rattle.history_lock.specs.internals.Seats.{IsRefusedClaim, IsHolding, AreOut, HaveLaneStates, HasClaimed, IsTurned, AreCopies, IsBlank}
use Rattle.history_lock.proofs.Histories.{starts_itself, starts_through}

module _ {M E R F : Type 0} (step : M → E → Result (M × R) F) (opened : Opened M) where
  abbrev Held : Type 0
  Held = List (ℕ × Option (LaneState M E))

  -- lane states stay those of a history that is the same
  same_states : (seen log : List (Entry E)) (l : ℕ) (c : Held) → (0 < l → log ≡ seen) → HaveLaneStates step opened seen l c → HaveLaneStates step opened log l c
  same_states seen log zero c same h = h
  same_states seen log (suc l) c same h = subst (λ x. HaveLaneStates step opened x (suc l) c) (sym (same (omega arith))) h

  pub are_out : (seen : List (Entry E)) (l : ℕ) (c : Held) → HaveLaneStates step opened seen l c → AreOut l c
  are_out seen zero c h = h
  are_out seen (suc l) c h = (h.0, h.1, are_out seen l (rest c) h.3)

  pub claims_none : (v : SeatView M E) (word : ℕ) (me : Me (Option (LaneState M E)) (SeatView M E)) → me.0 ≡ v → v.end ≤ v.start → me.1 ≡ [] → HasClaimed step opened v 0 word me
  claims_none v word me same idle bare = subst (λ (m : Me (Option (LaneState M E)) (SeatView M E)). HasClaimed step opened v 0 word m) (λ i. (sym same i, sym bare i)) record {
    holds = record { idle = λ _. idle; low = λ h. absurd (omega arith); high = λ h. absurd (omega arith); shown = λ h. absurd (omega arith) };
    lane_states = refl;
    begins = starts_itself v.seen;
    mine = λ h. absurd (omega arith);
    short = λ h. absurd (omega arith);
    legal = λ h. h;
    only = refl;
  }

  pub claims_more : (v : SeatView M E) (l next word : ℕ) (me me' : Me (Option (LaneState M E)) (SeatView M E)) (b : LaneState M E) (log : List (Entry E)) → next ≡ suc l → HasClaimed step opened v l word me → v.opened ≡ Some opened
      → me' ≡ (view_after_claim me.0 0 l word log, (l, Some b) ∷ me.1) → IsTaken step me.0 log l b → HasClaimed step opened v next word me'
  claims_more v l next word me me' b log is h knows now t =
      let known : me.0.opened ≡ Some opened = ap (λ x. x.opened) h.only ∙ knows in let lane_state = t.lane_state opened known in
      let role : me.0.role ≡ v.role = ap (λ x. x.role) h.only in let mine : me.0.mine ≡ v.mine = ap (λ x. x.mine) h.only in
      let same : 0 < l → log ≡ me.0.seen = λ some. t.same (let low = h.holds.low some in let high = h.holds.high some in omega arith) in
      subst (λ n. HasClaimed step opened v n word me') (sym is) (subst (λ (m : Me (Option (LaneState M E)) (SeatView M E)). HasClaimed step opened v (suc l) word m) (sym now) record {
        holds = record { idle = λ e. absurd (omega arith); low = λ _. refl; high = λ _. omega arith; shown = λ _. refl };
        lane_states = (b, refl, lane_state, same_states me.0.seen log l me.1 same h.lane_states);
        begins = starts_through log me.0.seen v.seen t.begins h.begins;
        mine = λ _. subst (λ (x : Role × List E). mine_of x.0 x.1 log ≡ x.1) (λ i. (role i, mine i)) t.mine;
        short = λ _. t.short opened known;
        legal = λ _. (b.machine, lane_state.legal);
        only = ap (λ x. view_after_claim x 0 l word log) h.only;
      })

  -- a claim that was refused while lanes below were held, said of the view before the first of them was claimed
  refused_before : (v u : SeatView M E) (busy : Busy) → v.end ≤ v.start → u.role ≡ v.role → u.opened ≡ v.opened → IsRefusedClaim u busy → IsRefusedClaim v busy
  refused_before v u busy idle role known h = record {
    found = h.found;
    held = h.held;
    named = h.named;
    other = record {
      apart = λ inside. (let low : v.start ≤ busy.lane = inside.0 in let high : busy.lane < v.end = inside.1 in absurd (omega arith));
      lane = λ o e. h.other.lane o (known ∙ e);
      writer = λ n is. let w = h.other.writer n is in ((λ e. w.0 (role ∙ e)), λ o e. w.1 o (known ∙ e));
      own = λ e. h.other.own (role ∙ e);
    };
  }

  -- the next claim was refused, and all that was held went back
  pub turned_back : (v : SeatView M E) (l word : ℕ) (me m1 m2 : Me (Option (LaneState M E)) (SeatView M E)) (busy : Busy) → HasClaimed step opened v l word me
      → v.end ≤ v.start → IsRefusedClaim me.0 busy → m1 ≡ (record me.0 { turned = me.0.turned ++ busy ∷ [] }, me.1) → m2 ≡ (view_after_return m1.0 m2.0.end, []) → m2.0.end ≤ m2.0.start → IsTurned step opened v busy m2
  turned_back v l word me m1 m2 busy h free refused turned gave idle =
      let one : m2.0 ≡ view_after_return (record me.0 { turned = me.0.turned ++ busy ∷ [] }) m2.0.end = ap (λ x. x.0) gave ∙ ap (λ x. view_after_return x.0 m2.0.end) turned in
      let start = ap (λ x. x.start) one in let word = ap (λ x. x.word) one in let seen = ap (λ x. x.seen) one in record {
        idle = idle;
        bare = ap (λ x. x.1) gave;
        begins = subst (λ x. StartsWith x v.seen) (sym seen) h.begins;
        legal = λ was. subst (IsLegal step opened.machine) (sym seen) (h.legal was);
        refused = refused_before v me.0 busy free (ap (λ x. x.role) h.only) (ap (λ x. x.opened) h.only) refused;
        only = one ∙ (ap (λ (x : SeatView M E). record x { end = m2.0.end; turned = x.turned ++ busy ∷ [] }) h.only
            ∙ (λ i. record v { start = sym start i; end = m2.0.end; word = sym word i; seen = sym seen i; turned = v.turned ++ busy ∷ [] }));
      }

  -- the lane states after the refusal are those before it
  pub still_held : (v : SeatView M E) (l word : ℕ) (me m1 : Me (Option (LaneState M E)) (SeatView M E)) (busy : Busy) → HasClaimed step opened v l word me
      → m1 ≡ (record me.0 { turned = me.0.turned ++ busy ∷ [] }, me.1) → IsHolding m1.0 l word × HaveLaneStates step opened m1.0.seen l m1.1
  still_held v l word me m1 busy h turned = subst (λ (m : Me (Option (LaneState M E)) (SeatView M E)). IsHolding m.0 l word × HaveLaneStates step opened m.0.seen l m.1) (sym turned)
      (record { idle = h.holds.idle; low = h.holds.low; high = h.holds.high; shown = h.holds.shown }, h.lane_states)

  -- what a seat knows of the last lane that it holds, and of the others once that is given back
  pub one_back : (v : SeatView M E) (word k left : ℕ) (c : Held) → left ≡ suc k → IsHolding v left word → HaveLaneStates step opened v.seen left c
      → (b : LaneState M E) × (c ≡ (k, Some b) ∷ rest c) × IsLaneState step opened v.seen k b × (v.start ≤ k) × (v.end ≡ k + 1) × IsHolding (view_after_return v k) k word × HaveLaneStates step opened v.seen k (rest c)
  one_back v word k left c is holds lane_states =
      let h = subst (λ n. HaveLaneStates step opened v.seen n c) is lane_states in let low = holds.low (omega arith) in let high = holds.high (omega arith) in
      (h.0, h.1, h.2, (omega arith), (omega arith), record { idle = λ e. (omega arith); low = λ _. low; high = λ _. refl; shown = λ _. holds.shown (omega arith) }, h.3)

-- copies, and one more at the end
pub copies_snoc : {M : Type 0} (m : M) (n : ℕ) (xs : List M) (x : M) → AreCopies m n xs → x ≡ m → AreCopies m (suc n) (xs ++ x ∷ [])
copies_snoc m zero [] x h e = (e, tt)
copies_snoc m zero (y ∷ xs) x h e = absurd h
copies_snoc m (suc n) [] x h e = absurd h
copies_snoc m (suc n) (y ∷ xs) x h e = (h.0, copies_snoc m n xs x h.1 e)

pub copies_last : {M : Type 0} (m : M) (n : ℕ) (xs : List M) (x : M) → AreCopies m (suc n) (xs ++ x ∷ []) → AreCopies m n xs × (x ≡ m)
copies_last m zero [] x h = (tt, h.0)
copies_last m zero (y ∷ []) x h = absurd h.1
copies_last m zero (y ∷ z ∷ xs) x h = absurd h.1
copies_last m (suc n) [] x h = absurd h.1
copies_last m (suc n) (y ∷ xs) x h = let t = copies_last m n xs x h.1 in ((h.0, t.0), t.1)

pub copies_long : {M : Type 0} (m : M) (n : ℕ) (xs : List M) → AreCopies m n xs → length xs ≡ n
copies_long m zero [] h = refl
copies_long m zero (x ∷ xs) h = absurd h
copies_long m (suc n) [] h = absurd h
copies_long m (suc n) (x ∷ xs) h = ap suc (copies_long m n xs h.1)

pub length_snoc : {A : Type 0} (xs : List A) (x : A) → length (xs ++ x ∷ []) ≡ suc (length xs)
length_snoc [] x = refl
length_snoc (y ∷ xs) x = ap suc (length_snoc xs x)

-- a lane state more
pub blank_none : {M E : Type 0} (m : M) → IsBlank {M = M} {E = E} m 0 []
blank_none m = record { deep = refl; lane_states = λ l below. absurd (omega arith) }

pub blank_more : {M E : Type 0} (m : M) (n next : ℕ) (slots slots' : List (Option (LaneState M E))) (b : LaneState M E) → next ≡ suc n → slots' ≡ slots ++ Some b ∷ [] → b.machine ≡ m → b.history.items ≡ []
    → IsBlank m n slots → IsBlank m next slots'
blank_more m n next slots slots' b is same machine empty h =
    let all : get_elem? (slots ++ Some b ∷ []) n ≡ some (Some b) = at_last slots (Some b) n h.deep in record {
      deep = ap length same ∙ (length_snoc slots (Some b) ∙ (ap suc h.deep ∙ sym is));
      lane_states = λ l below. dite (ℕ_discrete l n)
          (λ e. (b, ap (λ (x : List (Option (LaneState _ _))). get_elem? x l) same ∙ (ap (get_elem? (slots ++ Some b ∷ [])) e ∙ all), machine, empty))
          (λ ne. let t = h.lane_states l (omega arith) in (t.0, ap (λ (x : List (Option (LaneState _ _))). get_elem? x l) same ∙ at_longer slots (Some b ∷ []) l (Some t.0) t.1, t.2, t.3));
    }

-- the value of the slot that was taken last
abbrev front : {S : Type 0} → List (ℕ × Option S) → Option S
front [] = None
front (x ∷ xs) = x.1

pub front_is : {S : Type 0} (l : ℕ) (c d e : List (ℕ × Option S)) (x y : Option S) → c ≡ (l, x) ∷ d → c ≡ (l, y) ∷ e → x ≡ y
front_is l c d e x y p q = sym (ap front p) ∙ ap front q

pub same_some : {A : Type 0} (x y : A) → Some x ≡ Some y → x ≡ y
same_some x y e = cc
