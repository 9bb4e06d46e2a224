-- Each atomic step on a lane keeps the rule.
use Rattle.std.proofs.Common.{◌≡◌, ◌≢◌, ℕ, ◌+◌, ◌<◌, ◌≤◌, eqb, List, [], ◌∷◌, length, get_or, set, sym, refl, ap, ◌∙◌, subst, ⊎_elim, arith, Option, Some, Result, eq-eqb, ne_eqb, length-set, get_or-set_other, get_or-set_same}
use Rattle.std.proofs.lemmas.List.{set-get_or}
use mathlib.Core.Logic.{dite}
use mathlib.Core.Option.{none, some, some-injective}
use native.Mathlib.Decide.{ℕ_discrete}
use lib.ListN.{get_elem?}
use prog.Atomic.{either}
use Rattle.atomic_table.specs.Table.{step as one_step, keeps, takes, gives, Allows}
use Rattle.atomic_table.proofs.Lists.{set_here, set_else}
use Rattle.history_lock.specs.declared.entry.Entry.{Entry}
use Rattle.history_lock.specs.declared.view.Opened.{Opened}
use Rattle.history_lock.specs.declared.view.Role.{Role}
use Rattle.history_lock.specs.declared.view.Role.TheVariants.{Dealer, Lane, Bare}
use Rattle.history_lock.specs.declared.view.GatheredPass.{GatheredPass}
use Rattle.history_lock.specs.declared.view.SeatView.{SeatView}
use Rattle.history_lock.specs.declared.view.LaneState.{LaneState}
use Rattle.history_lock.specs.Histories.{replay, of_lane, GrowsBy}
use Rattle.history_lock.specs.Rule.{word_index, LockState, SeatState, IsWordOf, HasLane, KnowsRole, KnowsPasses, Holds, Knows, IsLaneState, IsAway, HasOneHistory, mine_of, view_after_claim, view_after_refusal, view_after_write, view_after_return, IsHeldByAnother, Claims, ClaimsOwn, ClaimsNext, Publishes, GivesBack}
use Rattle.history_lock.specs.internals.Seats.{IsHolding}
use Rattle.history_lock.proofs.Histories.{starts_itself, starts_through}
use Rattle.history_lock.proofs.Lists.{update, update_here, update_else, inside, each_set}

word_some : (role : Role) (l word : ℕ) → IsWordOf role l word → word ≢ 0
word_some role l word h z = ⊎_elim (λ (e : (word ≡ 1) × (h.0 ≡ l)). let f : word ≡ 1 = e.0 in absurd (omega arith)) (λ (e : word ≡ h.0 + 2). let n : ℕ = h.0 in let f : word ≡ n + 2 = e in absurd (omega arith)) h.2

-- what a seat knows stays so where the history grows by a lane that it does not have
module _ {E : Type 0} (log log' : List (Entry E)) (n next dealer : ℕ) (owner : ℕ → ℕ) (grows : GrowsBy n log log') (seat : ℕ) (other : owner n ≢ seat) where
  lane_stays : (k : ℕ) (mine : List E) → HasLane log next dealer owner seat k mine → HasLane log' next dealer owner seat k mine
  lane_stays k mine h = (h.0, h.1, grows.1 k (λ e. other (ap owner (sym e) ∙ h.0)) ∙ h.2)

  role_stays : (role : Role) (mine : List E) → KnowsRole log next dealer owner seat role mine → KnowsRole log' next dealer owner seat role mine
  role_stays (Dealer k) mine h = h
  role_stays (Lane k) mine h = lane_stays k mine h
  role_stays Bare mine h = tt

  passes_stay : (gs : List (GatheredPass E)) → KnowsPasses log next dealer owner seat gs → KnowsPasses log' next dealer owner seat gs
  passes_stay [] h = tt
  passes_stay (g ∷ gs) h = ((lane_stays g.lane g.mine h.0.0, starts_through log' log g.seen grows.0 h.0.1), passes_stay gs h.1)

mine_kept : {E : Type 0} (items log : List (Entry E)) (next dealer id : ℕ) (owner : ℕ → ℕ) (role : Role) (mine : List E) → items ≡ log → KnowsRole log next dealer owner id role mine → mine_of role mine items ≡ mine
mine_kept items log next dealer id owner (Dealer n) mine same k = refl
mine_kept items log next dealer id owner (Lane n) mine same k = ap (of_lane n) same ∙ k.2
mine_kept items log next dealer id owner Bare mine same k = refl

module _ {M E R F : Type 0} (step : M → E → Result (M × R) F) (opened : Opened M) where
  -- a seat that holds no lane has none of the lane states that are out
  pub holds_none : (s : LockState M E) (r : HasOneHistory step opened s) (id : ℕ) (v : SeatView M E) → get_elem? s.views id ≡ some v → v.end ≤ v.start → (l : ℕ) → IsAway step r.holder s l → r.holder l ≢ id
  holds_none s r id v at idle l h e = let t = h.1 in let one : t.0 ≡ v = some-injective t.0 v (sym t.1 ∙ (ap (get_elem? s.views) e ∙ at)) in
      let low : v.start ≤ l = subst (λ (x : SeatView M E). x.start ≤ l) one t.2 in let high : l < v.end = subst (λ (x : SeatView M E). l < x.end) one t.3 in absurd (omega arith)

  -- a seat changes its view alone, and holds the lanes that it held
  view_change_keeps : (s : LockState M E) (r : HasOneHistory step opened s) (id : ℕ) (v w : SeatView M E) → get_elem? s.views id ≡ some v → w.start ≡ v.start → w.end ≡ v.end
      → Knows opened s.words r.log r.holder r.next r.dealer r.owner id w → HasOneHistory step opened record { words = s.words; homes = s.homes; views = set s.views id w }
  view_change_keeps s r id v w at low high known = record {
    log = r.log;
    holder = r.holder;
    next = r.next;
    dealer = r.dealer;
    owner = r.owner;
    few = r.few;
    short = r.short;
    wide = r.wide;
    each_lane = r.each_lane;
    home = r.home;
    away = λ l below busy. let h = r.away l below busy in let t = h.1 in (
      h.0,
      dite (ℕ_discrete (r.holder l) id)
          (λ e. let one : t.0 ≡ v = some-injective t.0 v (sym t.1 ∙ (ap (get_elem? s.views) e ∙ at)) in
          let f : v.start ≤ l = subst (λ (x : SeatView M E). x.start ≤ l) one t.2 in let g : l < v.end = subst (λ (x : SeatView M E). l < x.end) one t.3 in
          (w, ap (get_elem? (set s.views id w)) e ∙ set_here s.views id w (inside s.views id v at), (omega arith), (omega arith)))
          (λ other. (t.0, set_else s.views id (r.holder l) w other ∙ t.1, t.2, t.3)),
    );
    undealt = r.undealt;
    each = each_set (Knows opened s.words r.log r.holder r.next r.dealer r.owner) s.views id w known (λ j u _ e. r.each j u e);
  }

  -- a seat that holds the lanes from a on, below l, takes the lane l, whose word was 0
  claim_keeps : (s : LockState M E) (r : HasOneHistory step opened s) (id l a new : ℕ) (v : SeatView M E) → get_elem? s.views id ≡ some v → l < length s.homes → get_or s.words (word_index l) 0 ≡ 0 → IsWordOf v.role l new → a ≤ l
      → ((k : ℕ) → v.start ≤ k → k < v.end → (a ≤ k) × (k < l)) → ((k : ℕ) → a ≤ k → k < l → (v.start ≤ k) × (k < v.end) × (v.word ≡ new))
      → HasOneHistory step opened record { words = set s.words (word_index l) new; homes = set s.homes l none; views = set s.views id (view_after_claim v a l new r.log) }
  claim_keeps s r id l a new v at lt zero_is word low held covers =
      let w : SeatView M E = view_after_claim v a l new r.log in let ws : List ℕ = set s.words (word_index l) new in
      let wide = r.wide in let long = length-set s.words (word_index l) new in let deep = length-set s.homes l none in
      let here : get_or ws (word_index l) 0 ≡ new = get_or-set_same s.words (word_index l) new 0 (omega arith) in
      let k = r.each id v at in
      let elsewhere : (j : ℕ) → j ≢ l → get_or ws (word_index j) 0 ≡ get_or s.words (word_index j) 0 = λ j ne. get_or-set_other s.words (word_index l) (word_index j) new 0 (λ e. ne (omega arith)) in record {
        log = r.log;
        holder = update r.holder l id;
        next = r.next;
        dealer = r.dealer;
        owner = r.owner;
        few = r.few;
        short = r.short;
        wide = omega arith;
        each_lane = (let lanes = r.each_lane in omega arith);
        home = λ j below free. let ne : j ≢ l = λ e. word_some v.role l new word (sym here ∙ (ap (λ (x : ℕ). get_or ws (word_index x) 0) (sym e) ∙ free)) in
            let h = r.home j (omega arith) (sym (elsewhere j ne) ∙ free) in (h.0, set_else s.homes l j none ne ∙ h.1, h.2);
        away = λ j below busy. dite (ℕ_discrete j l)
            (λ e. (ap (get_elem? (set s.homes l none)) e ∙ set_here s.homes l none (omega arith), (w, ap (get_elem? (set s.views id w)) (ap (update r.holder l id) e ∙ update_here r.holder l id) ∙ set_here s.views id w (inside s.views id v at), (omega arith), (omega arith))))
            (λ ne. let h = r.away j (omega arith) (λ z. busy (elsewhere j ne ∙ z)) in let t = h.1 in
            let same_holder = update_else r.holder l id j ne in (
              set_else s.homes l j none ne ∙ h.0,
              dite (ℕ_discrete (r.holder j) id)
                  (λ e. let one : t.0 ≡ v = some-injective t.0 v (sym t.1 ∙ (ap (get_elem? s.views) e ∙ at)) in
                  let f = held j (subst (λ (x : SeatView M E). x.start ≤ j) one t.2) (subst (λ (x : SeatView M E). j < x.end) one t.3) in let f1 : j < l = f.1 in
                  (w, ap (get_elem? (set s.views id w)) (same_holder ∙ e) ∙ set_here s.views id w (inside s.views id v at), f.0, (omega arith)))
                  (λ other. (t.0, ap (get_elem? (set s.views id w)) same_holder ∙ (set_else s.views id (r.holder j) w other ∙ t.1), t.2, t.3)),
            ));
        undealt = r.undealt;
        each = each_set (Knows opened ws r.log (update r.holder l id) r.next r.dealer r.owner) s.views id w
            record {
              opens = k.opens;
              before = starts_itself r.log;
              heard = k.heard;
              out = λ j from to. dite (ℕ_discrete j l)
                  (λ e. record { inside = (omega arith); shown = ap (λ (x : ℕ). get_or ws (word_index x) 0) e ∙ here; held = ap (update r.holder l id) e ∙ update_here r.holder l id; whole = refl; word = subst (λ (x : ℕ). IsWordOf v.role x new) (sym e) word })
                  (λ ne. let c = covers j from (omega arith) in let q = k.out j c.0 c.1 in let q0 : word_index j < length s.words = q.inside in
                  record { inside = (omega arith); shown = elsewhere j ne ∙ (q.shown ∙ c.2); held = update_else r.holder l id j ne ∙ q.held; whole = refl; word = subst (λ (x : ℕ). IsWordOf v.role j x) c.2 q.word });
              role = k.role;
              passes = k.passes;
            }
            (λ j u _ e. let z = r.each j u e in record {
              opens = z.opens;
              before = z.before;
              heard = z.heard;
              out = λ i from to. let q = z.out i from to in let q0 : word_index i < length s.words = q.inside in
                  let ne : i ≢ l = λ h. word_some u.role i u.word q.word (sym q.shown ∙ (ap (λ (x : ℕ). get_or s.words (word_index x) 0) h ∙ zero_is)) in
                  record { inside = (omega arith); shown = elsewhere i ne ∙ q.shown; held = update_else r.holder l id i ne ∙ q.held; whole = q.whole; word = q.word };
              role = z.role;
              passes = z.passes;
            });
      }

  -- the last lane that a seat holds goes back, with a lane state of the history that the seat has seen
  return_keeps : (s : LockState M E) (r : HasOneHistory step opened s) (id l : ℕ) (v : SeatView M E) (b : LaneState M E) → get_elem? s.views id ≡ some v → v.start ≤ l → v.end ≡ l + 1 → IsLaneState step opened v.seen l b
      → HasOneHistory step opened record { words = set s.words (word_index l) 0; homes = set s.homes l (some (Some b)); views = set s.views id (view_after_return v l) }
  return_keeps s r id l v b at from to lane_state =
      let ws : List ℕ = set s.words (word_index l) 0 in let w : SeatView M E = view_after_return v l in let wide = r.wide in let long = length-set s.words (word_index l) 0 in let deep = length-set s.homes l (some (Some b)) in
      let k = r.each id v at in let last = k.out l from (omega arith) in let in_words : word_index l < length s.words = last.inside in let lt : l < length s.homes = omega arith in
      let here : get_or ws (word_index l) 0 ≡ 0 = get_or-set_same s.words (word_index l) 0 0 in_words in
      let elsewhere : (j : ℕ) → j ≢ l → get_or ws (word_index j) 0 ≡ get_or s.words (word_index j) 0 = λ j ne. get_or-set_other s.words (word_index l) (word_index j) 0 0 (λ e. ne (omega arith)) in record {
        log = r.log;
        holder = r.holder;
        next = r.next;
        dealer = r.dealer;
        owner = r.owner;
        few = r.few;
        short = r.short;
        wide = omega arith;
        each_lane = (let lanes = r.each_lane in omega arith);
        home = λ j below free. dite (ℕ_discrete j l)
            (λ e. (b, ap (get_elem? (set s.homes l (some (Some b)))) e ∙ set_here s.homes l (some (Some b)) (omega arith), subst (λ (x : ℕ). IsLaneState step opened r.log x b) (sym e) (subst (λ x. IsLaneState step opened x l b) last.whole lane_state)))
            (λ ne. let h = r.home j (omega arith) (sym (elsewhere j ne) ∙ free) in (h.0, set_else s.homes l j (some (Some b)) ne ∙ h.1, h.2));
        away = λ j below busy. let ne : j ≢ l = λ e. busy (ap (λ (x : ℕ). get_or ws (word_index x) 0) e ∙ here) in let h = r.away j (omega arith) (λ z. busy (elsewhere j ne ∙ z)) in let t = h.1 in (
          set_else s.homes l j (some (Some b)) ne ∙ h.0,
          dite (ℕ_discrete (r.holder j) id)
              (λ e. let one : t.0 ≡ v = some-injective t.0 v (sym t.1 ∙ (ap (get_elem? s.views) e ∙ at)) in
              let f : v.start ≤ j = subst (λ (x : SeatView M E). x.start ≤ j) one t.2 in let f1 : j < v.end = subst (λ (x : SeatView M E). j < x.end) one t.3 in
              (w, ap (get_elem? (set s.views id w)) e ∙ set_here s.views id w (inside s.views id v at), f, (omega arith)))
              (λ other. (t.0, set_else s.views id (r.holder j) w other ∙ t.1, t.2, t.3)),
        );
        undealt = r.undealt;
        each = each_set (Knows opened ws r.log r.holder r.next r.dealer r.owner) s.views id w
            record {
              opens = k.opens;
              before = k.before;
              heard = k.heard;
              out = λ j low high. let q = k.out j low (omega arith) in let q0 : word_index j < length s.words = q.inside in let ne : j ≢ l = λ e. omega arith in
                  record { inside = (omega arith); shown = elsewhere j ne ∙ q.shown; held = q.held; whole = q.whole; word = q.word };
              role = k.role;
              passes = k.passes;
            }
            (λ j u ne e. let z = r.each j u e in record {
              opens = z.opens;
              before = z.before;
              heard = z.heard;
              out = λ i low high. let q = z.out i low high in let q0 : word_index i < length s.words = q.inside in let other : i ≢ l = λ h. ne (sym q.held ∙ (ap r.holder h ∙ last.held)) in
                  record { inside = (omega arith); shown = elsewhere i other ∙ q.shown; held = q.held; whole = q.whole; word = q.word };
              role = z.role;
              passes = z.passes;
            });
      }

  -- the writer of the lane n, which holds each lane, gives back the last with a longer history
  publication_keeps : (s : LockState M E) (r : HasOneHistory step opened s) (id n l : ℕ) (v : SeatView M E) (b : LaneState M E) → get_elem? s.views id ≡ some v → v.start ≡ 0 → v.end ≡ l + 1 → length s.homes ≡ l + 1 → v.role ≡ Lane n → v.passes ≡ []
      → GrowsBy n v.seen b.history.items → replay step opened.machine b.history.items ≡ Some b.machine → length b.history.items ≤ opened.limit
      → HasOneHistory step opened record { words = set s.words (word_index l) 0; homes = set s.homes l (some (Some b)); views = set s.views id (view_after_write v l b.history.items) }
  publication_keeps s r id n l v b at from to all lane alone grows legal short =
      let log : List (Entry E) = b.history.items in let ws : List ℕ = set s.words (word_index l) 0 in let w : SeatView M E = view_after_write v l log in
      let wide = r.wide in let long = length-set s.words (word_index l) 0 in let deep = length-set s.homes l (some (Some b)) in
      let k = r.each id v at in
      let here : get_or ws (word_index l) 0 ≡ 0 = get_or-set_same s.words (word_index l) 0 0 (omega arith) in
      let elsewhere : (j : ℕ) → j ≢ l → get_or ws (word_index j) 0 ≡ get_or s.words (word_index j) 0 = λ j ne. get_or-set_other s.words (word_index l) (word_index j) 0 0 (λ e. ne (omega arith)) in
      let mine : (j : ℕ) → j < l + 1 → Holds s.words r.log r.holder id v j = λ j below. k.out j (omega arith) (omega arith) in
      let old : v.seen ≡ r.log = (mine l (omega arith)).whole in
      let more : GrowsBy n r.log log = subst (λ (x : List (Entry E)). GrowsBy n x log) old grows in
      let at_lane : HasLane r.log r.next r.dealer r.owner id n v.mine = subst (λ (x : Role). KnowsRole r.log r.next r.dealer r.owner id x v.mine) lane k.role in record {
        log = log;
        holder = r.holder;
        next = r.next;
        dealer = r.dealer;
        owner = r.owner;
        few = r.few;
        short = short;
        wide = omega arith;
        each_lane = (let lanes = r.each_lane in omega arith);
        home = λ j below free. dite (ℕ_discrete j l)
            (λ e. (b, ap (get_elem? (set s.homes l (some (Some b)))) e ∙ set_here s.homes l (some (Some b)) (omega arith), record { legal = legal; logged = λ _. refl }))
            (λ ne. let m = mine j (omega arith) in absurd (word_some v.role j v.word m.word (sym m.shown ∙ (sym (elsewhere j ne) ∙ free))));
        away = λ j below busy. let ne : j ≢ l = λ e. busy (ap (λ (x : ℕ). get_or ws (word_index x) 0) e ∙ here) in let h = r.away j (omega arith) (λ z. busy (elsewhere j ne ∙ z)) in
            (set_else s.homes l j (some (Some b)) ne ∙ h.0, (w, ap (get_elem? (set s.views id w)) (mine j (omega arith)).held ∙ set_here s.views id w (inside s.views id v at), (omega arith), (omega arith)));
        undealt = λ m later. let apart : m ≢ n = λ e. (let x = at_lane.1 in omega arith) in more.1 m apart ∙ r.undealt m later;
        each = each_set (Knows opened ws log r.holder r.next r.dealer r.owner) s.views id w
            record {
              opens = k.opens;
              before = starts_itself log;
              heard = starts_through log r.log v.news more.0 k.heard;
              out = λ j low high. let m = mine j (omega arith) in let m0 : word_index j < length s.words = m.inside in let ne : j ≢ l = λ e. omega arith in
                  record { inside = (omega arith); shown = elsewhere j ne ∙ m.shown; held = m.held; whole = refl; word = m.word };
              role = subst (λ (x : Role). KnowsRole log r.next r.dealer r.owner id x (mine_of x v.mine log)) (sym lane) (at_lane.0, at_lane.1, refl);
              passes = subst (KnowsPasses log r.next r.dealer r.owner id) (sym alone) tt;
            }
            (λ j u ne e. let q = r.each j u e in let apart : r.owner n ≢ j = λ x. ne (sym x ∙ at_lane.0) in record {
              opens = q.opens;
              before = starts_through log r.log u.seen more.0 q.before;
              heard = starts_through log r.log u.news more.0 q.heard;
              out = λ i low high. let z = q.out i low high in let z0 : word_index i < length s.words = z.inside in absurd (ne (sym z.held ∙ (mine i (omega arith)).held));
              role = role_stays r.log log n r.next r.dealer r.owner more j apart u.role u.mine q.role;
              passes = passes_stay r.log log n r.next r.dealer r.owner more j apart u.passes q.passes;
            });
      }

  -- a word that is not 0 is another's, if the seat that meets it holds lanes below it alone; and a writer's at the seat's own lane
  held_by_another : (s : LockState M E) (r : HasOneHistory step opened s) (id l : ℕ) (v : SeatView M E) → get_elem? s.views id ≡ some v
      → ((k : ℕ) → v.start ≤ k → k < v.end → k < l) → l < length s.homes → get_or s.words (word_index l) 0 ≢ 0 → IsHeldByAnother v l (get_or s.words (word_index l) 0)
  held_by_another s r id l v at held lt miss =
      let h = r.away l lt miss in let t = h.1 in let u : SeatView M E = t.0 in let z = r.each (r.holder l) u t.1 in
      let out = z.out l t.2 t.3 in let m : ℕ = out.word.0 in
      let has : HasLane r.log r.next r.dealer r.owner (r.holder l) m u.mine =
      subst (λ (x : Role). KnowsRole r.log r.next r.dealer r.owner (r.holder l) x u.mine) out.word.1 z.role in
      let k = r.each id v at in let lanes = r.each_lane in let few = r.few in let shown = out.shown in
      let other : v.role ≢ Lane m = λ role.
      (let mine : HasLane r.log r.next r.dealer r.owner id m v.mine =
      subst (λ (x : Role). KnowsRole r.log r.next r.dealer r.owner id x v.mine) role k.role in
      let same : r.holder l ≡ id = sym has.0 ∙ mine.0 in
      let one : u ≡ v = some-injective u v (sym t.1 ∙ (ap (get_elem? s.views) same ∙ at)) in
      let low : v.start ≤ l = subst (λ (x : SeatView M E). x.start ≤ l) one t.2 in
      let high : l < v.end = subst (λ (x : SeatView M E). l < x.end) one t.3 in
      let no = held l low high in absurd (omega arith)) in
      let same : (n : ℕ) → get_or s.words (word_index l) 0 ≡ n + 2 → n ≡ m = λ n is.
      ⊎_elim (λ (e : (u.word ≡ 1) × (m ≡ l)). let f : u.word ≡ 1 = e.0 in absurd (omega arith)) (λ (e : u.word ≡ m + 2). omega arith) out.word.2 in record {
        apart = λ inside. (let no = held l inside.0 inside.1 in absurd (omega arith));
        lane = λ o e. subst (λ (x : Opened M). l < x.lanes) (sym (k.opens o e)) (omega arith);
        writer = λ n is. (
          λ role. other (role ∙ ap Lane (same n is)),
          λ o e. subst (λ (x : Opened M). n < x.lanes) (sym (k.opens o e)) (let below : m < r.next = has.1 in let e : n ≡ m = same n is in omega arith),
        );
        own = λ role. ⊎_elim (λ (e : (u.word ≡ 1) × (m ≡ l)). absurd (other (role ∙ ap Lane (sym e.1)))) (λ (e : u.word ≡ m + 2). (m, shown ∙ e)) out.word.2;
      }

  -- a claim of the lane l by a seat that holds those from f l on, below l
  claims_from : (f : ℕ → ℕ) (slots id l new : ℕ) (me : SeatState M E) → l < slots → IsWordOf me.0.role l new → f l ≤ l
      → ((k : ℕ) → me.0.start ≤ k → k < me.0.end → (f l ≤ k) × (k < l)) → ((k : ℕ) → f l ≤ k → k < l → (me.0.start ≤ k) × (k < me.0.end) × (me.0.word ≡ new))
      → Allows (HasOneHistory step opened) slots id me (word_index l) (λ x. either (eqb x 0) new x) (λ found after. (l' : ℕ) → word_index l ≡ word_index l' → Claims step f l' new me found after)
  claims_from f slots id l new me below word low held covers s r deep at small =
      let wide = r.wide in let lt : l < length s.homes = omega arith in let k = r.each id me.0 at in
      dite (ℕ_discrete (get_or s.words (word_index l) 0) 0)
      (λ hit. let h = r.home l lt hit in let b : LaneState M E = h.0 in let w : SeatView M E = view_after_claim me.0 (f l) l new r.log in (
        w,
        takes l (Some b),
        h.1,
        subst (λ t. HasOneHistory step opened record { words = set s.words (word_index l) (either t new (get_or s.words (word_index l) 0)); homes = set s.homes l none; views = set s.views id w }) (sym (eq-eqb (get_or s.words (word_index l) 0) 0 hit))
            (claim_keeps s r id l (f l) new me.0 at lt hit word low held covers),
        λ l' e. let is : l ≡ l' = omega arith in subst (λ n. Claims step f n new me (get_or s.words (word_index l) 0) (w, (l, Some b) ∷ me.1)) is (
          (λ _. (
            b,
            r.log,
            refl,
            record {
              begins = k.before;
              news = k.heard;
              mine = mine_kept r.log r.log r.next r.dealer id r.owner me.0.role me.0.mine refl k.role;
              lane_state = λ o e. subst (λ (x : Opened M). IsLaneState step x r.log l b) (sym (k.opens o e)) h.2;
              short = λ o e. subst (λ (x : Opened M). length r.log ≤ x.limit) (sym (k.opens o e)) r.short;
              same = λ some. sym (k.out me.0.start (omega arith) some).whole;
            },
          )),
          λ miss. absurd (miss hit),
        ),
      ))
      (λ miss. let w : SeatView M E = view_after_refusal me.0 l (get_or s.words (word_index l) 0) in (
        w,
        keeps,
        tt,
        subst (λ t. HasOneHistory step opened record { words = set s.words (word_index l) (either t new (get_or s.words (word_index l) 0)); homes = s.homes; views = set s.views id w }) (sym (ne_eqb (get_or s.words (word_index l) 0) 0 miss))
            (subst (λ ws. HasOneHistory step opened record { words = ws; homes = s.homes; views = set s.views id w }) (sym (set-get_or s.words (word_index l) 0))
            (view_change_keeps s r id me.0 w at refl refl record {
              opens = k.opens;
              before = k.before;
              heard = k.heard;
              out = λ j low high. let q = k.out j low high in record { inside = q.inside; shown = q.shown; held = q.held; whole = q.whole; word = q.word };
              role = k.role;
              passes = k.passes;
            })),
        λ l' e. let is : l ≡ l' = omega arith in subst (λ n. Claims step f n new me (get_or s.words (word_index l) 0) (w, me.1)) is ((λ hit. absurd (miss hit)), λ _. (refl, held_by_another s r id l me.0 at (λ j low high. (held j low high).1) lt miss)),
      ))

  -- a reader claims its lane
  pub claims : (slots id l new : ℕ) (me : SeatState M E) → l < slots → me.0.end ≤ me.0.start → IsWordOf me.0.role l new
      → Allows (HasOneHistory step opened) slots id me (word_index l) (λ x. either (eqb x 0) new x) (ClaimsOwn step (one_step slots (word_index l) 0 new none) me)
  claims slots id l new me below idle word = claims_from (λ l. l) slots id l new me below word (omega arith) (λ j low high. absurd (omega arith)) (λ j low high. absurd (omega arith))

  -- a writer that holds the lanes below l claims l
  pub claims_next : (slots id l new : ℕ) (me : SeatState M E) → l < slots → IsWordOf me.0.role l new → IsHolding me.0 l new
      → Allows (HasOneHistory step opened) slots id me (word_index l) (λ x. either (eqb x 0) new x) (ClaimsNext step (one_step slots (word_index l) 0 new none) me)
  claims_next slots id l new me below word holds = claims_from (λ l. 0) slots id l new me below word (omega arith)
      (λ j low high. (omega arith, dite (ℕ_discrete l 0) (λ e. let h = holds.idle e in absurd (omega arith)) (λ ne. let h = holds.high (omega arith) in omega arith)))
      (λ j low high. let f = holds.low (omega arith) in let t = holds.high (omega arith) in (omega arith, omega arith, holds.shown (omega arith)))

  pub gives_back : (slots id l : ℕ) (v : SeatView M E) (b : LaneState M E) (c : List (ℕ × Option (LaneState M E))) → v.start ≤ l → v.end ≡ l + 1 → IsLaneState step opened v.seen l b
      → Allows (HasOneHistory step opened) slots id (v, (l, Some b) ∷ c) (word_index l) (λ _. 0) (λ _. GivesBack (one_step slots (word_index l) 0 0 none) (v, (l, Some b) ∷ c) 0)
  gives_back slots id l v b c from to lane_state s r deep at small = (view_after_return v l, gives, tt, return_keeps s r id l v b at from to lane_state, λ l' e. let is : l ≡ l' = omega arith in λ i. (view_after_return v (is i), c))

  pub publishes : (slots id n l : ℕ) (v : SeatView M E) (b : LaneState M E) (c : List (ℕ × Option (LaneState M E))) → slots ≡ l + 1 → v.start ≡ 0 → v.end ≡ l + 1 → v.role ≡ Lane n → v.passes ≡ []
      → GrowsBy n v.seen b.history.items → replay step opened.machine b.history.items ≡ Some b.machine → length b.history.items ≤ opened.limit
      → Allows (HasOneHistory step opened) slots id (v, (l, Some b) ∷ c) (word_index l) (λ _. 0) (λ _. Publishes (one_step slots (word_index l) 0 0 none) (v, (l, Some b) ∷ c) 0)
  publishes slots id n l v b c all from to lane alone grows legal short s r deep at small = let wide = r.wide in
      (view_after_write v l b.history.items, gives, tt, publication_keeps s r id n l v b at from to (omega arith) lane alone grows legal short, λ l' e. let is : l ≡ l' = omega arith in λ i. (view_after_write v (is i) b.history.items, c))
