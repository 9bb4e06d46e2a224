use Rattle.std.proofs.Common.{◌≡◌, ℕ, ◌+◌, List, ◌++◌, ◌∷◌, [], length, refl, sym, ap, subst, arith}
use Rattle.std.specs.Prelude.{Some, slice_get}
use Rattle.slicelet.specs.Calls.{last_reading}
use Rattle.slicelet.specs.States.{SliceletState, state_after}
use Rattle.stretches.specs.declared.breaks.GivenHandle.{GivenHandle}
use Rattle.stretches.specs.Tasks.{Each}
use Rattle.stretches.specs.Breaks.{IsBreakOf, IsFirstWithout, is_found_at, is_found_in}
use Rattle.stretches.proofs.Lists.{each_push}
use Rattle.stretches.proofs.Breaking.{first_now}
use Rattle.stretches.proofs.breaks.TaskHandles.give.Goals as goal

pub returns-clause-kept : goal.returns-clause-kept
returns-clause-kept c calls kept stands late =
    let s = c.args.slicelet.now in
    let items = c.args.self.now.handles.items in
    let new : GivenHandle = record { number = c.args.number; process = c.args.self.now.process; handle = c.args.handle; from = c.args.at; breaks = c.break_from-breaks.result } in
    let read : s.last ≡ last_reading calls = ap (λ (s : SliceletState). s.last) stands.state in
    let in_state : IsFirstWithout (is_found_in (state_after s.task calls) c.args.handle) c.args.at c.break_from-breaks.result
    = subst (λ (state : SliceletState). IsFirstWithout (is_found_in state c.args.handle) c.args.at c.break_from-breaks.result) stands.state (c.break_from-breaks.ensures late) in
    let own : IsBreakOf s.task calls new = record {
      process = omega (arith, kept.process);
      first = subst (λ (n : ℕ). IsFirstWithout (is_found_at s.task calls n c.args.handle) c.args.at c.break_from-breaks.result) (sym kept.process)
          (first_now s.task c.args.handle calls c.args.at c.break_from-breaks.result (omega (arith, read, late)) in_state);
    } in
    let all : Each (λ _. IsBreakOf s.task calls) (length items + 1) (items ++ new ∷ [])
    = each_push (λ _. IsBreakOf s.task calls) (length items) items (refl, kept.each) new own in
    record {
      process = kept.process;
      each = subst (λ (xs : List GivenHandle). (i : ℕ) (given : GivenHandle) → slice_get xs i ≡ Some given → IsBreakOf s.task calls given) (sym c.in_ok-push.ensures.items) all.1;
    }
