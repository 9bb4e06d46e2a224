-- Views that are cut in two and joined: at the start, where passes meet, and where they are taken in at the end.
use Rattle.std.specs.Prelude.{ℕ, ◌+◌, [], ◌∷◌, Some, None}
use Rattle.history_lock.specs.declared.view.Opened.{Opened}
use Rattle.history_lock.specs.declared.view.Role.{Role}
use Rattle.history_lock.specs.declared.view.Role.TheVariants.{Dealer, Lane, Bare}
use Rattle.history_lock.specs.declared.view.GatheredPass.{GatheredPass}
use Rattle.history_lock.specs.declared.view.SeatView.{SeatView}

-- the roles of the dealer after it dealt a lane, and of the seat that has it
abbrev pub role_after : Role → Role
role_after (Dealer n) = Dealer (n + 1)
role_after _ = Bare

abbrev pub dealt_role : Role → Role
dealt_role (Dealer n) = Lane n
dealt_role _ = Bare

abbrev pub lane_of : Role → ℕ
lane_of (Lane n) = n
lane_of _ = 0

module _ {M E : Type 0} where
  -- the view of the first seat, and of a seat that has nothing left to know
  abbrev pub first_view : Opened M → SeatView M E
  first_view opened = record { opened = Some opened; role = Dealer 0; start = 0; end = 0; word = 0; seen = []; news = []; mine = []; turned = []; passes = [] }

  abbrev pub spent_view : SeatView M E
  spent_view = record { opened = None; role = Bare; start = 0; end = 0; word = 0; seen = []; news = []; mine = []; turned = []; passes = [] }

  -- the dealer after it dealt a lane, and the pass of that lane
  abbrev pub dealer_after : SeatView M E → SeatView M E
  dealer_after v = record v { role = role_after v.role }

  abbrev pub dealt_view : SeatView M E → SeatView M E
  dealt_view v = record { opened = v.opened; role = dealt_role v.role; start = 0; end = 0; word = 0; seen = []; news = []; mine = []; turned = []; passes = [] }

  -- a view that only knows what was seen
  abbrev pub news_view : SeatView M E → SeatView M E
  news_view v = record { opened = None; role = Bare; start = 0; end = 0; word = 0; seen = v.seen; news = []; mine = []; turned = []; passes = [] }

  abbrev pub view_after_meeting : SeatView M E → SeatView M E → SeatView M E
  view_after_meeting v w = record v { news = w.seen }

  abbrev pub gathered_pass_of_view : SeatView M E → GatheredPass E
  gathered_pass_of_view v = record { lane = lane_of v.role; seen = v.seen; mine = v.mine }

  abbrev pub view_after_gathering : SeatView M E → SeatView M E → SeatView M E
  view_after_gathering v w = record v { passes = gathered_pass_of_view w ∷ v.passes }
