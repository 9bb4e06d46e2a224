-- The rule holds at the start, and where lanes are dealt, passes meet and passes are taken in.
use Rattle.std.proofs.Common.{◌≡◌, ◌≢◌, ℕ, zero, suc, ◌+◌, ◌<◌, ◌≤◌, List, [], ◌∷◌, ◌++◌, length, get_or, set, map, replicate, sym, refl, ap, ◌∙◌, subst, ⊎_elim, arith, Option, Some, None, Result, length-set}
use mathlib.Core.Option.{some, some-ne-none, some-injective}
use lib.ListN.{get_elem?}
use Rattle.atomic_table.specs.Table.{Splits, Joins, opening}
use Rattle.atomic_table.proofs.Lists.{at_set, set_else, set_again, at_longer}
use Rattle.history_lock.specs.declared.entry.Entry.{Entry}
use Rattle.history_lock.specs.declared.view.Opened.{Opened}
use Rattle.history_lock.specs.declared.view.Role.{Role}
use Rattle.history_lock.specs.declared.view.Role.TheVariants.{Dealer, Lane, Bare}
use Rattle.history_lock.specs.declared.view.GatheredPass.{GatheredPass}
use Rattle.history_lock.specs.declared.view.SeatView.{SeatView}
use Rattle.history_lock.specs.declared.view.LaneState.{LaneState}
use Rattle.history_lock.specs.Rule.{word_index, LockState, HasLane, KnowsRole, KnowsPasses, Knows, HasOneHistory}
use Rattle.history_lock.specs.internals.Views.{first_view, spent_view, role_after, dealt_role, dealer_after, dealt_view, news_view, view_after_meeting, lane_of, view_after_gathering}
use Rattle.history_lock.specs.internals.Seats.{IsBlank}
use Rattle.history_lock.proofs.Lists.{update, update_here, update_else, each_set, at_end}
use Rattle.history_lock.proofs.Keeps.{holds_none}

-- lanes below k keep their owners where that of k changes
module _ {E : Type 0} (log : List (Entry E)) (next next' dealer k x : ℕ) (owner : ℕ → ℕ) (up : next ≤ next') (seat : ℕ) (new : next ≤ k) where
  lane_kept : (n : ℕ) (mine : List E) → HasLane log next dealer owner seat n mine → HasLane log next' dealer (update owner k x) seat n mine
  lane_kept n mine h = let below : n < next = h.1 in let ne : n ≢ k = λ e. omega arith in (update_else owner k x n ne ∙ h.0, omega arith, h.2)

  passes_kept : (gs : List (GatheredPass E)) → KnowsPasses log next dealer owner seat gs → KnowsPasses log next' dealer (update owner k x) seat gs
  passes_kept [] h = tt
  passes_kept (g ∷ gs) h = ((lane_kept g.lane g.mine h.0.0, h.0.1), passes_kept gs h.1)

  role_kept : (role : Role) (mine : List E) → seat ≢ dealer → KnowsRole log next dealer owner seat role mine → KnowsRole log next' dealer (update owner k x) seat role mine
  role_kept (Dealer m) mine ne h = absurd (ne h.0)
  role_kept (Lane m) mine ne h = lane_kept m mine h
  role_kept Bare mine ne h = tt

-- lanes keep their owners where that of n, which the seat does not have, changes
module _ {E : Type 0} (log : List (Entry E)) (next dealer n x : ℕ) (owner : ℕ → ℕ) (seat : ℕ) (away : owner n ≢ seat) where
  lane_owned : (m : ℕ) (mine : List E) → HasLane log next dealer owner seat m mine → HasLane log next dealer (update owner n x) seat m mine
  lane_owned m mine h = (update_else owner n x m (λ e. away (ap owner (sym e) ∙ h.0)) ∙ h.0, h.1, h.2)

  passes_owned : (gs : List (GatheredPass E)) → KnowsPasses log next dealer owner seat gs → KnowsPasses log next dealer (update owner n x) seat gs
  passes_owned [] h = tt
  passes_owned (g ∷ gs) h = ((lane_owned g.lane g.mine h.0.0, h.0.1), passes_owned gs h.1)

  role_owned : (role : Role) (mine : List E) → KnowsRole log next dealer owner seat role mine → KnowsRole log next dealer (update owner n x) seat role mine
  role_owned (Dealer m) mine h = h
  role_owned (Lane m) mine h = lane_owned m mine h
  role_owned Bare mine h = tt

module _ {M E R F : Type 0} (step : M → E → Result (M × R) F) (opened : Opened M) where
  some_is : (o : Opened M) → Some opened ≡ Some o → opened ≡ o
  some_is o h = cc

  none_some : (o : Opened M) → None ≡ Some o → ⊥
  none_some o h = cc

  first_known : (ws : List ℕ) (j : ℕ) (v : SeatView M E) → get_elem? (first_view opened ∷ []) j ≡ some v → Knows opened ws [] (λ l. 0) 0 0 (λ n. 0) j v
  first_known ws zero v e = subst (Knows opened ws [] (λ l. 0) 0 0 (λ n. 0) 0) (some-injective (first_view opened) v e)
      record { opens = λ o h. sym (some_is o h); before = ([], refl); heard = ([], refl); out = λ l low high. absurd (omega arith); role = (refl, refl); passes = tt }
  first_known ws (suc j) v e = absurd (some-ne-none v (sym e))

  abbrev zeros : ℕ → List ℕ
  zeros n = replicate n 0

  word_is : (n l : ℕ) → get_or (zeros n) l 0 ≡ 0
  word_is zero l = refl
  word_is (suc n) zero = refl
  word_is (suc n) (suc l) = word_is n l

  wide_is : (n : ℕ) → length (zeros n) ≡ n
  wide_is zero = refl
  wide_is (suc n) = ap suc (wide_is n)

  deep_is : {A : Type 0} → (xs : List A) → length (map some xs) ≡ length xs
  deep_is [] = refl
  deep_is (x ∷ xs) = ap suc (deep_is xs)

  home_is : {A : Type 0} → (xs : List A) (l : ℕ) (x : A) → get_elem? xs l ≡ some x → get_elem? (map some xs) l ≡ some (some x)
  home_is [] l x e = absurd (some-ne-none x (sym e))
  home_is (y ∷ xs) zero x e = ap some e
  home_is (y ∷ xs) (suc l) x e = home_is xs l x e

  pub starts : (words : List ℕ) (slots : List (Option (LaneState M E))) → words ≡ zeros (word_index opened.lanes) → IsBlank opened.machine opened.lanes slots → HasOneHistory step opened (opening words slots (first_view opened))
  starts words slots is blank = subst (λ ws. HasOneHistory step opened (opening ws slots (first_view opened))) (sym is) (
      let ws : List ℕ = zeros (word_index opened.lanes) in let long = wide_is (word_index opened.lanes) in let deep = deep_is slots in let all = blank.deep in record {
        log = [];
        holder = λ l. 0;
        next = 0;
        dealer = 0;
        owner = λ n. 0;
        few = omega arith;
        short = omega arith;
        wide = ap word_index (deep ∙ all) ∙ sym long;
        each_lane = deep ∙ all;
        home = λ l below z. let t = blank.lane_states l (omega arith) in (t.0, home_is slots l (Some t.0) t.1, record { legal = ap Some (sym t.2); logged = λ _. t.3 });
        away = λ l below busy. absurd (busy (word_is (word_index opened.lanes) (word_index l)));
        undealt = λ n h. refl;
        each = first_known ws;
      })

  -- the seat that deals gives out the next lane
  pub deals : (id k : ℕ) (v : SeatView M E) → v.role ≡ Dealer k → v.end ≤ v.start → k < opened.lanes → Splits (HasOneHistory step opened) id v (dealer_after v) (dealt_view v)
  deals id k v role idle room s r at =
      let n : ℕ = length s.views in let q = r.each id v at in let w : SeatView M E = dealer_after v in let u : SeatView M E = dealt_view v in
      let mine : (id ≡ r.dealer) × (k ≡ r.next) = subst (λ (x : Role). KnowsRole r.log r.next r.dealer r.owner id x v.mine) role q.role in
      let next : ℕ = k + 1 in let is : k ≡ r.next = mine.1 in let owner = update r.owner k n in
      record {
        log = r.log;
        holder = r.holder;
        next = next;
        dealer = r.dealer;
        owner = owner;
        few = omega arith;
        short = r.short;
        wide = r.wide;
        each_lane = r.each_lane;
        home = r.home;
        away = λ l below busy. let h = r.away l below busy in let t = h.1 in
            (h.0, (t.0, at_longer (set s.views id w) (u ∷ []) (r.holder l) t.0 (set_else s.views id (r.holder l) w (holds_none step opened s r id v at idle l h) ∙ t.1), t.2, t.3));
        undealt = λ m h. r.undealt m (omega arith);
        each = λ j y e. ⊎_elim
            (λ (f : get_elem? (set s.views id w) j ≡ some y). each_set (Knows opened s.words r.log r.holder next r.dealer owner) s.views id w
            record { opens = q.opens; before = q.before; heard = q.heard; out = λ l low high. absurd (omega arith); role = subst (λ (x : Role). KnowsRole r.log next r.dealer owner id (role_after x) v.mine) (sym role) (mine.0, refl); passes = passes_kept r.log r.next next r.dealer k n r.owner (omega arith) id (omega arith) v.passes q.passes }
            (λ i z ne g. let p = r.each i z g in let away : i ≢ r.dealer = λ d. ne (d ∙ sym mine.0) in record { opens = p.opens; before = p.before; heard = p.heard; out = p.out; role = role_kept r.log r.next next r.dealer k n r.owner (omega arith) i (omega arith) z.role z.mine away p.role; passes = passes_kept r.log r.next next r.dealer k n r.owner (omega arith) i (omega arith) z.passes p.passes })
            j y f)
            (λ (f : (j ≡ length (set s.views id w)) × (u ≡ y)). subst (λ (x : ℕ × SeatView M E). Knows opened s.words r.log r.holder next r.dealer owner x.0 x.1) (λ i. ((sym (f.0 ∙ length-set s.views id w)) i, f.1 i))
            record { opens = q.opens; before = (r.log, refl); heard = (r.log, refl); out = λ l low high. absurd (omega arith); role = subst (λ (x : Role). KnowsRole r.log next r.dealer owner n (dealt_role x) []) (sym role) (update_here r.owner k n, omega arith, r.undealt k (omega arith)); passes = tt })
            (at_end (set s.views id w) u y j e);
      }

  -- a pass tells what it has seen
  pub tells : (id : ℕ) (v : SeatView M E) → Splits (HasOneHistory step opened) id v v (news_view v)
  tells id v s r at =
      let q = r.each id v at in let u : SeatView M E = news_view v in let same : set s.views id v ≡ s.views = set_again s.views id v at in
      subst (λ (l : List (SeatView M E)). HasOneHistory step opened record { words = s.words; homes = s.homes; views = l ++ u ∷ [] }) (sym same) record {
        log = r.log;
        holder = r.holder;
        next = r.next;
        dealer = r.dealer;
        owner = r.owner;
        few = r.few;
        short = r.short;
        wide = r.wide;
        each_lane = r.each_lane;
        home = r.home;
        away = λ l below busy. let h = r.away l below busy in let t = h.1 in (h.0, (t.0, at_longer s.views (u ∷ []) (r.holder l) t.0 t.1, t.2, t.3));
        undealt = r.undealt;
        each = λ j y e. ⊎_elim (λ (f : get_elem? s.views j ≡ some y). r.each j y f)
            (λ (f : (j ≡ length s.views) × (u ≡ y)). subst (Knows opened s.words r.log r.holder r.next r.dealer r.owner j) f.1
            record { opens = λ o h. absurd (none_some o h); before = q.before; heard = (r.log, refl); out = λ l low high. absurd (omega arith); role = tt; passes = tt })
            (at_end s.views u y j e);
      }

  spent_known : (words : List ℕ) (log : List (Entry E)) (holder : ℕ → ℕ) (next dealer : ℕ) (owner : ℕ → ℕ) (j : ℕ) → Knows opened words log holder next dealer owner j spent_view
  spent_known words log holder next dealer owner j = record { opens = λ o h. absurd (none_some o h); before = (log, refl); heard = (log, refl); out = λ l low high. absurd (omega arith); role = tt; passes = tt }

  -- two seats that hold no lane change their views alone, and lanes their owners
  joining_keeps : (s : LockState M E) (r : HasOneHistory step opened s) (id other : ℕ) (v w both : SeatView M E) (owner : ℕ → ℕ) → get_elem? s.views id ≡ some v → ¬ (other ≡ id) → get_elem? (set s.views id both) other ≡ some w
      → v.end ≤ v.start → w.end ≤ w.start → Knows opened s.words r.log r.holder r.next r.dealer owner id both
      → ((j : ℕ) (u : SeatView M E) → j ≢ id → j ≢ other → get_elem? s.views j ≡ some u → Knows opened s.words r.log r.holder r.next r.dealer owner j u)
      → HasOneHistory step opened record { words = s.words; homes = s.homes; views = set (set s.views id both) other spent_view }
  joining_keeps s r id other v w both owner at apart there idle idle' known others =
      let at' : get_elem? s.views other ≡ some w = sym (set_else s.views id other both apart) ∙ there in record {
        log = r.log;
        holder = r.holder;
        next = r.next;
        dealer = r.dealer;
        owner = owner;
        few = r.few;
        short = r.short;
        wide = r.wide;
        each_lane = r.each_lane;
        home = r.home;
        away = λ l below busy. let h = r.away l below busy in let t = h.1 in
            let not_id = holds_none step opened s r id v at idle l h in
            let not_other = holds_none step opened s r other w at' idle' l h in
            (h.0, (t.0, set_else (set s.views id both) other (r.holder l) spent_view not_other ∙ (set_else s.views id (r.holder l) both not_id ∙ t.1), t.2, t.3));
        undealt = r.undealt;
        each = each_set (Knows opened s.words r.log r.holder r.next r.dealer owner) (set s.views id both) other spent_view (spent_known s.words r.log r.holder r.next r.dealer owner other)
            (λ j u ne e. ⊎_elim (λ (t : (j ≡ id) × (both ≡ u)). subst (λ (x : ℕ × SeatView M E). Knows opened s.words r.log r.holder r.next r.dealer owner x.0 x.1) (λ i. (sym t.0 i, t.1 i)) known)
            (λ (t : (j ≢ id) × (get_elem? s.views j ≡ some u)). others j u t.0 ne t.1) (at_set s.views id j both u e));
      }

  -- a pass is told what another has seen
  pub meets : (id other : ℕ) (v w : SeatView M E) → v.end ≤ v.start → w.end ≤ w.start → Joins (HasOneHistory step opened) id v other w (view_after_meeting v w) spent_view
  meets id other v w idle idle' s r at apart there =
      let at' : get_elem? s.views other ≡ some w = sym (set_else s.views id other (view_after_meeting v w) apart) ∙ there in
      let q = r.each id v at in let p = r.each other w at' in
      joining_keeps s r id other v w (view_after_meeting v w) r.owner at apart there idle idle'
      record { opens = q.opens; before = q.before; heard = p.before; out = λ l low high. absurd (omega arith); role = q.role; passes = q.passes }
      (λ j u _ _ e. r.each j u e)

  -- the lane of a pass that is taken in goes to the seat that takes it
  pub gathers : (id other : ℕ) (v w : SeatView M E) (n : ℕ) → v.end ≤ v.start → w.end ≤ w.start → w.role ≡ Lane n → Joins (HasOneHistory step opened) id v other w (view_after_gathering v w) spent_view
  gathers id other v w n idle idle' lane s r at apart there =
      let both : SeatView M E = view_after_gathering v w in
      let at' : get_elem? s.views other ≡ some w = sym (set_else s.views id other both apart) ∙ there in
      let q = r.each id v at in let p = r.each other w at' in
      let mine : HasLane r.log r.next r.dealer r.owner other n w.mine = subst (λ (x : Role). KnowsRole r.log r.next r.dealer r.owner other x w.mine) lane p.role in
      let owner = update r.owner n id in
      joining_keeps s r id other v w both owner at apart there idle idle'
      record {
        opens = q.opens;
        before = q.before;
        heard = q.heard;
        out = λ l low high. absurd (omega arith);
        role = role_owned r.log r.next r.dealer n id r.owner id (λ e. apart (sym mine.0 ∙ e)) v.role v.mine q.role;
        passes = (
          (subst (λ (x : Role). HasLane r.log r.next r.dealer owner id (lane_of x) w.mine) (sym lane) (update_here r.owner n id, mine.1, mine.2), p.before),
          passes_owned r.log r.next r.dealer n id r.owner id (λ e. apart (sym mine.0 ∙ e)) v.passes q.passes,
        );
      }
      (λ j u _ ne e. let z = r.each j u e in let away : r.owner n ≢ j = λ x. ne (sym x ∙ mine.0) in record {
        opens = z.opens;
        before = z.before;
        heard = z.heard;
        out = z.out;
        role = role_owned r.log r.next r.dealer n id r.owner j away u.role u.mine z.role;
        passes = passes_owned r.log r.next r.dealer n id r.owner j away u.passes z.passes;
      })
