-- The rule of a lock over lanes, and the steps that there are.
-- A lane is a word, at its `word_index` among the words, and a slot. The word is 0 while its lane state is at home, 1 while the pass of the lane reads, and n + 2 while the pass of lane n writes.
-- Each lane state has the machine. The history is kept once, in the lane state of the last lane, so that what a writer gives back first has the new history.
-- `HasOneHistory` holds between any two steps. These steps are all there are, since `src/rule.rt` is private and names no other:
-- a lane is claimed, or the claim refused (`Claims`); a writer that holds all lanes gives the first of them back with a new lane state, by which its event happens
-- (`Publishes`); a lane is given back with its lane state as it was (`GivesBack`); and those at which no word changes (`Inside/Views.antt`): a lane is dealt,
-- a pass tells another what it has seen, or is taken in at the end. The history grows where a lane state is published, and `turned` where a claim is refused.
use Rattle.std.specs.Prelude.{◌≡◌, ◌≢◌, ◌⊎◌, ℕ, ◌+◌, ◌-◌, ◌*◌, ◌<◌, ◌≤◌, ◌==◌, if◌then◌else◌, List, [], ◌∷◌, ◌++◌, length, slice_index, Option, Some, None, Result}
use mathlib.Core.Option.{some, none}
use lib.ListN.{get_elem?}
use Rattle.atomic_table.specs.Table.{State, Me, Step, rest}
use Rattle.history_lock.specs.declared.entry.Entry.{Entry}
use Rattle.history_lock.specs.declared.error.Holder.{Holder}
use Rattle.history_lock.specs.declared.error.Holder.TheVariants.{Reader, Writer}
use Rattle.history_lock.specs.declared.error.Busy.{Busy}
use Rattle.history_lock.specs.declared.rule.TheConstants.{WORDS_A_LANE}
use Rattle.history_lock.specs.declared.view.Opened.{Opened}
use Rattle.history_lock.specs.declared.view.Role.{Role}
use Rattle.history_lock.specs.declared.view.Role.TheVariants.{Dealer, Lane, Bare}
use Rattle.history_lock.specs.declared.view.GatheredPass.{GatheredPass}
use Rattle.history_lock.specs.declared.view.SeatView.{SeatView}
use Rattle.history_lock.specs.declared.view.LaneState.{LaneState}
use Rattle.history_lock.specs.Histories.{replay, of_lane, StartsWith}

-- the words, the lane states and the views of all seats
abbrev pub LockState : Type 0 → Type 0 → Type 0
LockState M E = State (Option (LaneState M E)) (SeatView M E)

-- a seat's view, and the lane states that are out with it
abbrev pub SeatState : Type 0 → Type 0 → Type 0
SeatState M E = Me (Option (LaneState M E)) (SeatView M E)

abbrev pub LaneStep : Type 0 → Type 0 → Type 0
LaneStep M E = Step (Option (LaneState M E))

-- the seat of the word of the lane l in the table: no two lanes have their words in one cache line
abbrev pub word_index : ℕ → ℕ
word_index l = l * WORDS_A_LANE

-- the word of the lane l that a pass with this role holds: its own lane as a reader, any lane as a writer
abbrev pub IsWordOf : Role → ℕ → ℕ → Type 0
IsWordOf role l word = (n : ℕ) × (role ≡ Lane n) × (((word ≡ 1) × (n ≡ l)) ⊎ (word ≡ n + 2))

-- the holder of a lane by its word, which is not 0
abbrev pub holder_of : ℕ → Holder
holder_of word = if word == 1 then Reader else Writer (word - 2)

-- the refused claim of a lane that shows this word
abbrev pub refused_claim : ℕ → ℕ → Busy
refused_claim lane word = record { lane = lane; holder = holder_of word }

-- What a seat knows of its lanes, by the history, the number of lanes that are dealt, the seat that deals them, and the seat that has each lane
module _ {E : Type 0} (log : List (Entry E)) (next dealer : ℕ) (owner : ℕ → ℕ) (seat : ℕ) where
  -- the seat has this lane, and these are all events of the lane
  abbrev pub HasLane : ℕ → List E → Type 0
  HasLane n mine = (owner n ≡ seat) × (n < next) × (of_lane n log ≡ mine)

  abbrev pub KnowsRole : Role → List E → Type 0
  KnowsRole (Dealer n) mine = (seat ≡ dealer) × (n ≡ next)
  KnowsRole (Lane n) mine = HasLane n mine
  KnowsRole Bare mine = Unit {0}

  abbrev pub KnowsPasses : List (GatheredPass E) → Type 0
  KnowsPasses [] = Unit {0}
  KnowsPasses (g ∷ gs) = (HasLane g.lane g.mine × StartsWith log g.seen) × KnowsPasses gs

module _ {M E : Type 0} where
  -- the seat holds the lane l, whose word shows what the seat put there, and has seen the whole history
  pub record Holds (words : List ℕ) (log : List (Entry E)) (holder : ℕ → ℕ) (seat : ℕ) (v : SeatView M E) (l : ℕ) : Type 0 where
    pub inside : word_index l < length words
    pub shown : slice_index words (word_index l) ≡ v.word
    pub held : holder l ≡ seat
    pub whole : v.seen ≡ log
    pub word : IsWordOf v.role l v.word

  -- what a seat knows is so
  pub record Knows (opened : Opened M) (words : List ℕ) (log : List (Entry E)) (holder : ℕ → ℕ) (next dealer : ℕ) (owner : ℕ → ℕ) (seat : ℕ) (v : SeatView M E) : Type 0 where
    pub opens : (o : Opened M) → v.opened ≡ Some o → o ≡ opened
    pub before : StartsWith log v.seen
    pub heard : StartsWith log v.news
    pub out : (l : ℕ) → v.start ≤ l → l < v.end → Holds words log holder seat v l
    pub role : KnowsRole log next dealer owner seat v.role v.mine
    pub passes : KnowsPasses log next dealer owner seat v.passes

module _ {M E R F : Type 0} (step : M → E → Result (M × R) F) where
  -- a lane state of the lane l has the machine after this history, and in the last lane the history itself
  pub record IsLaneState (opened : Opened M) (log : List (Entry E)) (l : ℕ) (b : LaneState M E) : Type 0 where
    pub legal : replay step opened.machine log ≡ Some b.machine
    pub logged : l + 1 ≡ opened.lanes → b.history.items ≡ log

  -- the lane state of a lane is at home
  abbrev pub IsAtHome : Opened M → List (Entry E) → LockState M E → ℕ → Type 0
  IsAtHome opened log s l = (b : LaneState M E) × (get_elem? s.homes l ≡ some (some (Some b))) × IsLaneState opened log l b

  -- the lane state of a lane is out with the seat that holds it
  abbrev pub IsAway : (ℕ → ℕ) → LockState M E → ℕ → Type 0
  IsAway holder s l = (get_elem? s.homes l ≡ some none) × ((v : SeatView M E) × (get_elem? s.views (holder l) ≡ some v) × (v.start ≤ l) × (l < v.end))

  -- There is one history: the lane states at home have it, what each seat has seen is a beginning of it, and the events of each lane are those of the seat that has the lane
  pub record HasOneHistory (opened : Opened M) (s : LockState M E) : Type 0 where
    pub log : List (Entry E)
    pub holder : ℕ → ℕ
    pub next : ℕ
    pub dealer : ℕ
    pub owner : ℕ → ℕ
    pub few : next ≤ opened.lanes
    pub short : length log ≤ opened.limit
    pub wide : word_index (length s.homes) ≡ length s.words
    pub each_lane : length s.homes ≡ opened.lanes
    pub home : (l : ℕ) → l < length s.homes → slice_index s.words (word_index l) ≡ 0 → IsAtHome opened log s l
    pub away : (l : ℕ) → l < length s.homes → slice_index s.words (word_index l) ≢ 0 → IsAway holder s l
    pub undealt : (n : ℕ) → next ≤ n → of_lane n log ≡ []
    pub each : (j : ℕ) (v : SeatView M E) → get_elem? s.views j ≡ some v → Knows opened s.words log holder next dealer owner j v

-- a pass's own events, where the history is this one
abbrev pub mine_of : {E : Type 0} → Role → List E → List (Entry E) → List E
mine_of (Lane n) mine log = of_lane n log
mine_of _ mine log = mine

-- the views after each step on a word, and what the steps tell
module _ {M E : Type 0} where
  -- the history of the lane state that came out last
  abbrev pub log_of : List (ℕ × Option (LaneState M E)) → List (Entry E)
  log_of [] = []
  log_of (x ∷ xs) = elim x.1 [ Some b ↦ b.history.items | None ↦ [] ]

  -- the lanes from a on are held, with the lane l, which was claimed now
  abbrev pub view_after_claim : SeatView M E → ℕ → ℕ → ℕ → List (Entry E) → SeatView M E
  view_after_claim v a l word log = record v { start = a; end = l + 1; word = word; seen = log }

  abbrev pub view_after_refusal : SeatView M E → ℕ → ℕ → SeatView M E
  view_after_refusal v l word = record v { turned = v.turned ++ refused_claim l word ∷ [] }

  abbrev pub view_after_write : SeatView M E → ℕ → List (Entry E) → SeatView M E
  view_after_write v l log = record v { end = l; seen = log; mine = mine_of v.role v.mine log }

  abbrev pub view_after_return : SeatView M E → ℕ → SeatView M E
  view_after_return v l = record v { end = l }

  -- a lane of the lock shows a word that the seat did not put there: the seat does not hold it, and a writer that does has another lane of the lock;
  -- at its own lane a pass finds no reader
  pub record IsHeldByAnother (v : SeatView M E) (l word : ℕ) : Type 0 where
    pub apart : ¬ ((v.start ≤ l) × (l < v.end))
    pub lane : (o : Opened M) → v.opened ≡ Some o → l < o.lanes
    pub writer : (n : ℕ) → word ≡ n + 2 → (v.role ≢ Lane n) × ((o : Opened M) → v.opened ≡ Some o → n < o.lanes)
    pub own : v.role ≡ Lane l → (n : ℕ) × (word ≡ n + 2)

  -- a lane is given back with a new lane state, and what the lane state says was seen
  abbrev pub Publishes : LaneStep M E → SeatState M E → ℕ → SeatState M E → Type 0
  Publishes at before found after = (l : ℕ) → at.word ≡ word_index l → after ≡ (view_after_write before.0 l (log_of before.1), rest before.1)

  -- a lane is given back with its lane state as it was
  abbrev pub GivesBack : LaneStep M E → SeatState M E → ℕ → SeatState M E → Type 0
  GivesBack at before found after = (l : ℕ) → at.word ≡ word_index l → after ≡ (view_after_return before.0 l, rest before.1)

module _ {M E R F : Type 0} (step : M → E → Result (M × R) F) where
  -- the lane state of the lane l came out, with the machine after the whole history, which goes on from what the seat knew
  pub record IsTaken (v : SeatView M E) (log : List (Entry E)) (l : ℕ) (b : LaneState M E) : Type 0 where
    pub begins : StartsWith log v.seen
    pub news : StartsWith log v.news
    pub mine : mine_of v.role v.mine log ≡ v.mine
    pub lane_state : (o : Opened M) → v.opened ≡ Some o → IsLaneState step o log l b
    pub short : (o : Opened M) → v.opened ≡ Some o → length log ≤ o.limit
    pub same : v.start < v.end → log ≡ v.seen

  -- the lane l was free, and is held now with those from `start` on, with this word; or its word showed who holds it
  abbrev pub Claims : (ℕ → ℕ) → ℕ → ℕ → SeatState M E → ℕ → SeatState M E → Type 0
  Claims start l word before found after =
      (found ≡ 0 → (b : LaneState M E) × (log : List (Entry E))
      × (after ≡ (view_after_claim before.0 (start l) l word log, (l, Some b) ∷ before.1)) × IsTaken before.0 log l b)
      × (found ≢ 0 → (after ≡ (view_after_refusal before.0 l found, before.1)) × IsHeldByAnother before.0 l found)

  -- a reader claims its own lane
  abbrev pub ClaimsOwn : LaneStep M E → SeatState M E → ℕ → SeatState M E → Type 0
  ClaimsOwn at before found after = (l : ℕ) → at.word ≡ word_index l → Claims (λ l. l) l at.second before found after

  -- a writer claims the next lane
  abbrev pub ClaimsNext : LaneStep M E → SeatState M E → ℕ → SeatState M E → Type 0
  ClaimsNext at before found after = (l : ℕ) → at.word ≡ word_index l → Claims (λ l. 0) l at.second before found after
