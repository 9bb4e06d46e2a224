-- What a call tells, of what its steps told.
use Rattle.std.proofs.Common.{◌≡◌, ◌≢◌, ℕ, ◌+◌, ◌-◌, Bool, true, false, eqb, eq-eqb, List, [], ◌∷◌, ◌++◌, ◌≤◌, length, refl, sym, ap, ◌∙◌, subst, arith, Some, Result, Ok, Err}
use Rattle.std.proofs.lemmas.Bool.{eqb-true}
use Rattle.atomic_table.specs.Seated.{TableId}
use Rattle.history_lock.specs.declared.entry.Entry.{Entry}
use Rattle.std.specs.Prelude.{if◌then◌else◌}
use Rattle.history_lock.specs.declared.error.Busy.{Busy}
use Rattle.history_lock.specs.declared.error.Holder.TheVariants.{Reader, Writer}
use Rattle.history_lock.specs.declared.error.WriteError.{WriteError}
use Rattle.history_lock.specs.declared.error.WriteError.TheVariants.{HistoryFull, Refused, NoMemory}
use Rattle.history_lock.specs.declared.view.Opened.{Opened}
use Rattle.history_lock.specs.declared.view.Role.{Role}
use Rattle.history_lock.specs.declared.view.Role.TheVariants.{Lane}
use Rattle.history_lock.specs.declared.view.SeatView.{SeatView}
use Rattle.history_lock.specs.declared.view.LaneState.{LaneState}
use Rattle.history_lock.specs.Histories.{replay, entry, StartsWith, GrowsBy}
use Rattle.history_lock.specs.Passes.{lock_at, pass_view}
use Rattle.history_lock.specs.Rule.{IsLaneState, holder_of, mine_of}
use Rattle.history_lock.specs.Answers.{IsHeldByOther, IsShown, IsWritten, Wrote}
use Rattle.history_lock.specs.internals.Seats.{IsRefusedClaim}
use Rattle.history_lock.specs.internals.Turns.{IsTurn, Stays}
use Rattle.history_lock.proofs.Histories.{of_lane_snoc, grows_snoc, replay_snoc}

-- a pass is seen as its seat shows it
pass_view_at : {M E : Type 0} (z z' : TableId) (lane : ℕ) (v w : SeatView M E) → z' ≡ z → v ≡ w → pass_view z lane w ≡ pass_view z' lane v
pass_view_at z z' lane v w e is = λ i. pass_view (sym e i) lane (sym is i)

-- the word of a writer
word_of : (n word : ℕ) → word ≢ 0 → holder_of word ≡ Writer n → word ≡ n + 2
word_of n word ne is = by_test (eqb word 1) refl is
  where
    by_test : (b : Bool) → b ≡ eqb word 1 → (if b then Reader else Writer (word - 2)) ≡ Writer n → word ≡ n + 2
    by_test true test e = absurd (cc)
    by_test false test e = let f : word - 2 ≡ n = cc in let g : word ≢ 1 = λ h. absurd (let t : true ≡ false = sym (eq-eqb word 1 h) ∙ sym test in cc) in omega arith

-- the word of a writer names no reader
no_reader : (n word : ℕ) → word ≡ n + 2 → holder_of word ≢ Reader
no_reader n word is e = by_test (eqb word 1) refl e
  where
    by_test : (b : Bool) → b ≡ eqb word 1 → (if b then Reader else Writer (word - 2)) ≢ Reader
    by_test true test f = let one : word ≡ 1 = eqb-true word 1 (sym test) in omega arith
    by_test false test f = absurd (cc)

-- a refused claim names what its word showed
pub held_by_other : {M E : Type 0} (home : TableId) (opened : Opened M) (lane : ℕ) (v : SeatView M E) (refusal : Busy) → v.opened ≡ Some opened → v.role ≡ Lane lane → IsRefusedClaim v refusal
    → IsHeldByOther (lock_at home opened) lane refusal
held_by_other home opened lane v refusal knows role h = record {
  inside = h.other.lane opened knows;
  writer = λ n is. let w = h.other.writer n (word_of n h.found h.held (sym (ap (λ x. x.holder) h.named) ∙ is)) in ((λ e. w.0 (role ∙ ap Lane (sym e))), w.1 opened knows);
  reader = λ is here. let w = h.other.own (role ∙ ap Lane (sym here)) in no_reader w.0 h.found w.1 (sym (ap (λ x. x.holder) h.named) ∙ is);
}

-- a pass of the lane saw this history, and the lane state of the last lane had it
module _ {M E R F : Type 0} (step : M → E → Result (M × R) F) (opened : Opened M) (lane : ℕ) (v : SeatView M E) where
  -- the seats are those before, and after the lanes were given back
  pub shown : (log : List (Entry E)) (machine : M) (home z z' : TableId) (w : SeatView M E) (a t s : ℕ) → z' ≡ z → StartsWith log v.seen → replay step opened.machine log ≡ Some machine
      → w ≡ record v { start = a; end = t; word = s; seen = log } → IsShown step (lock_at home opened) (pass_view z lane v) machine (pass_view z' lane w)
  shown log machine home z z' w a t s same begins legal is = subst (IsShown step (lock_at home opened) (pass_view z lane v) machine) (pass_view_at z z' lane w (record v { start = a; end = t; word = s; seen = log }) same is)
      record { begins = begins; legal = legal; only = refl }

  module _ (log : List (Entry E)) (b : LaneState M E) (logged : b.history.items ≡ log) (legal : replay step opened.machine log ≡ Some b.machine) (limit : ℕ) (most : opened.limit ≡ limit) (made : E → Type 0) (unmade : Type 0) (b' : LaneState M E) where
    pub stays : (error : WriteError E F) → IsTurn step lane limit made unmade b (Err error) b' → Stays b b'
    stays HistoryFull t = t.2
    stays (Refused event fault) t = t.3
    stays NoMemory t = t.2

    pub kept : (l : ℕ) (error : WriteError E F) → IsTurn step lane limit made unmade b (Err error) b' → IsLaneState step opened log l b'
    kept l error t = let h = stays error t in record { legal = legal ∙ ap Some (sym h.0); logged = λ _. h.1 ∙ logged }

    module _ (reply : R) (t : IsTurn step lane limit made unmade b (Ok reply) b') where
      pub new_legal : replay step opened.machine b'.history.items ≡ Some b'.machine
      new_legal = subst (λ x. replay step opened.machine x ≡ Some b'.machine) (sym t.4)
          (replay_snoc step opened.machine b.machine b'.machine reply b.history.items lane t.0 (subst (λ x. replay step opened.machine x ≡ Some b.machine) (sym logged) legal) t.3)

      pub new_grows : GrowsBy lane log b'.history.items
      new_grows = subst (GrowsBy lane log) (sym (t.4 ∙ ap (λ l. l ++ entry lane t.0 ∷ []) logged)) (grows_snoc lane log t.0)

      new_mine : v.role ≡ Lane lane → mine_of v.role v.mine log ≡ v.mine → mine_of v.role v.mine b'.history.items ≡ v.mine ++ t.0 ∷ []
      new_mine role mine = ap (mine_of v.role v.mine) (t.4 ∙ ap (λ l. l ++ entry lane t.0 ∷ []) logged) ∙ (ap (λ (x : Role). mine_of x v.mine (log ++ entry lane t.0 ∷ [])) role
          ∙ (of_lane_snoc lane log t.0 ∙ ap (λ (l : List E). l ++ t.0 ∷ []) (sym (ap (λ (x : Role). mine_of x v.mine log) role) ∙ mine)))

    module _ (home z z' : TableId) (w : SeatView M E) (a t s : ℕ) (same : z' ≡ z) (begins : StartsWith log v.seen) where
      pub is_not_written : (error : WriteError E F) → length log ≤ opened.limit → IsTurn step lane limit made unmade b (Err error) b' → w ≡ record v { start = a; end = t; word = s; seen = log }
          → Wrote step (lock_at home opened) made unmade (pass_view z lane v) (Err error) (pass_view z' lane w)
      is_not_written HistoryFull few q is = let least = q.1 in let e = ap (λ x. length x.seen) is in let f = ap length logged in (q.0, (b.machine, shown log b.machine home z z' w a t s same begins legal is), omega arith)
      is_not_written (Refused event fault) few q is = record { machine = b.machine; calls = q.0; shows = shown log b.machine home z z' w a t s same begins legal is; room = (let room = q.1 in let e = ap (λ x. length x.seen) is in let f = ap length logged in omega arith); refuses = q.2 }
      is_not_written NoMemory few q is =
          let room = q.1 in let e = ap (λ x. length x.seen) is in let f = ap length logged in record {
            machine = b.machine;
            shows = shown log b.machine home z z' w a t s same begins legal is;
            room = omega arith;
            calls = q.0;
          }

      pub is_written : (reply : R) → v.role ≡ Lane lane → mine_of v.role v.mine log ≡ v.mine → (q : IsTurn step lane limit made unmade b (Ok reply) b')
          → w ≡ record v { start = a; end = t; word = s; seen = b'.history.items; mine = mine_of v.role v.mine b'.history.items } → IsWritten step (lock_at home opened) made unmade (pass_view z lane v) reply (pass_view z' lane w)
      is_written reply role mine q is = subst (IsWritten step (lock_at home opened) made unmade (pass_view z lane v) reply) (pass_view_at z z' lane w (record v { start = a; end = t; word = s; seen = b'.history.items; mine = mine_of v.role v.mine b'.history.items }) same is) record {
        event = q.0;
        before = b.machine;
        after = b'.machine;
        shown = pass_view z lane (record v { seen = log });
        calls = q.1;
        shows = record { begins = begins; legal = legal; only = refl };
        room = (let room = q.2 in let f = ap length logged in omega arith);
        takes = q.3;
        adds = λ i. record { table = z; opened = v.opened; lane = lane; seen = (q.4 ∙ ap (λ l. l ++ entry lane q.0 ∷ []) logged) i; mine = new_mine reply q role mine i; turned = v.turned };
        legal = new_legal reply q;
      }
