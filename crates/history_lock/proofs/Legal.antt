-- What a pass has seen is legal.
use Rattle.std.proofs.Common.{◌≡◌, List, [], sym, ap, ◌∙◌, subst, Some, Result}
use Rattle.history_lock.specs.declared.view.Opened.{Opened}
use Rattle.history_lock.specs.declared.view.SeatView.{SeatView}
use Rattle.history_lock.specs.Histories.{replay, IsLegal}
use Rattle.history_lock.specs.declared.entry.Entry.{Entry}
use Rattle.history_lock.specs.internals.Seats.{SeesLegal}

module _ {M E R F : Type 0} (step : M → E → Result (M × R) F) where
  same_opened : (a b : Opened M) → Some a ≡ Some b → a ≡ b
  same_opened a b e = cc

  pub legal_start : (v : SeatView M E) → v.seen ≡ [] → SeesLegal step v
  legal_start v none o e = (o.machine, ap (replay step o.machine) none)

  pub legal_known : (opened : Opened M) (v : SeatView M E) → v.opened ≡ Some opened → IsLegal step opened.machine v.seen → SeesLegal step v
  legal_known opened v knows legal o e = subst (λ (x : Opened M). IsLegal step x.machine v.seen) (same_opened opened o (sym knows ∙ e)) legal

  pub legal_after : (opened : Opened M) (w : SeatView M E) (log : List (Entry E)) (m : M) → w.opened ≡ Some opened → w.seen ≡ log → replay step opened.machine log ≡ Some m → SeesLegal step w
  legal_after opened w log m knows same legal = legal_known opened w knows (m, subst (λ l. replay step opened.machine l ≡ Some m) (sym same) legal)
