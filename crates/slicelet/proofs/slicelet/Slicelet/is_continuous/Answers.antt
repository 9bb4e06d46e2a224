use Rattle.std.proofs.Common.{◌∙◌, ℕ, sym, ap}
use Rattle.std.specs.Prelude.{Option, ◌==◌, ◌&&◌}
use Rattle.key_handle.specs.Stamps.{since}
use Rattle.key_handle.specs.Handles.{is_up_to}
use Rattle.slicelet.specs.internals.State.{stamps_in}
use Rattle.slicelet.proofs.States.{stamp_among_where}
use Rattle.slicelet.proofs.slicelet.Slicelet.is_continuous.Goals as goal

pub returns-then-is_kept : goal.returns-then-is_kept
returns-then-is_kept c =
    let stamp = sym (stamp_among_where (since (stamps_in c.self.inside.stamps)) c.args.handle.now.key c.key_law.ensures) in
    let kept = sym c.if-is_kept.true ∙ c.still-is_kept.ensures ∙ ap (λ (o : Option ℕ). c.args.handle.now.life == c.self.inside.life && is_up_to c.args.handle.now.position o) stamp in
    let permits = rw (← c.self.view_is) at c.permits.ensures in
    rw (sym c.self.view_is, sym kept) permits

pub returns-else-is_kept : goal.returns-else-is_kept
returns-else-is_kept c =
    let stamp = sym (stamp_among_where (since (stamps_in c.self.inside.stamps)) c.args.handle.now.key c.key_law.ensures) in
    let kept = sym c.if-is_kept.false ∙ c.still-is_kept.ensures ∙ ap (λ (o : Option ℕ). c.args.handle.now.life == c.self.inside.life && is_up_to c.args.handle.now.position o) stamp in
    rw (sym c.self.view_is, sym kept) c.if-is_kept.false
