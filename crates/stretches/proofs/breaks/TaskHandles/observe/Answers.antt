use Rattle.std.proofs.Common.{◌≡◌, ◌+◌, ◌<◌, length, refl, sym, ap, ◌∙◌, arith}
use Rattle.std.proofs.Math.ListN.{set, get_or, length-set}
use Rattle.std.proofs.Math.Seq.{map-set_same}
use Rattle.stretches.specs.Breaks.{IsBreakOf, named}
use Rattle.stretches.proofs.Keeping.{IsLater, one_later}
use Rattle.stretches.proofs.Lists.{each_at, each_set, each_gives}
use Rattle.stretches.proofs.Breaking.{IsSeen}
use Rattle.stretches.proofs.breaks.TaskHandles.observe.Goals as goal

pub loop-place-init : goal.loop-place-init
loop-place-init c =
    let items = c.args.self.now.handles.items in
    let task = c.args.slicelet.now.task in
    record {
      process = refl;
      count = refl;
      named = refl;
      seen = λ before after kept stands next.
          each_gives (λ _. IsBreakOf task before) (IsSeen task before after 0) (length items) items
          (λ i given inside b. record { seen = λ l. absurd (omega arith); not_yet = λ l. b }) (refl, kept.each);
    }

pub loop-place-preserved : goal.loop-place-preserved
loop-place-preserved c =
    let task = c.args.slicelet.now.task in
    let items = c.loop-place.self.handles.items in
    let place = c.loop-place.place in
    let old = c.index-given.result.now in
    let new = c.after.result in
    let count = c.loop-place.invariant.count in
    let inside : place < length items = omega (arith, count, c.loop-place-test.true, c.len-place-end.ensures) in
    let known : named new ≡ named (get_or items place old) = c.after.ensures.named ∙ ap named c.index-given.ensures in
    let same_length : length (set items place new) ≡ length items = length-set items place new in
    record {
      process = c.loop-place.invariant.process;
      count = same_length ∙ count;
      named = map-set_same named items place new old known ∙ c.loop-place.invariant.named;
      seen = λ before after kept stands next.
          let seen = c.loop-place.invariant.seen before after kept stands next in
          let before_it : IsSeen task before after place (place + 1) old = each_at (IsSeen task before after place) (length items) items seen place old inside c.index-given.ensures in
          let own : IsBreakOf task after new = c.after.ensures.breaks before after (before_it.not_yet (omega arith)) (c.loop-place.invariant.process ∙ kept.process) stands next in
          let all = each_set (IsSeen task before after place) (length items) items seen (IsSeen task before after (place + 1)) place new inside
          (record { seen = λ l. own; not_yet = λ l. absurd (omega arith) })
          (λ i given other s. record { seen = λ l. s.seen (omega (arith, other, l)); not_yet = λ l. s.not_yet (omega (arith, l)) }) in
          (refl, all.1);
    }

pub returns-clause-kept : goal.returns-clause-kept
returns-clause-kept c before after kept stands next =
    let task = c.args.slicelet.now.task in
    let items = c.loop-place.self.handles.items in
    let count = c.loop-place.invariant.count in
    let later : IsLater before after = one_later task before after stands.accepted next in
    let each = each_gives (IsSeen task before after c.loop-place.place) (λ _. IsBreakOf task after) (length items) items
    (λ i given inside seen. seen.seen (omega (arith, inside, count, c.loop-place-test.false, c.len-place-end.ensures))) (c.loop-place.invariant.seen before after kept stands next) in
    record {
      process = c.loop-place.invariant.process ∙ kept.process ∙ sym later.same;
      each = each.1;
    }
