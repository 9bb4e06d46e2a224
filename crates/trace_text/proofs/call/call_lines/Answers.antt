use Rattle.std.proofs.Common.{◌≡◌, ◌∙◌, length, min, rules, sym}
use Rattle.std.proofs.lemmas.List.{append-nil}
use Rattle.std.proofs.lemmas.Slice.Zip.{zip_end}
use Rattle.trace_text.proofs.Lines.{lines_end}
use Rattle.trace_text.proofs.call.call_lines.Goals as goal

pub returns : goal.returns
returns c =
    let steps = c.args.steps.now in
    let lines = c.args.lines.now in
    let iterator = c.into_iter-step-iterator.result in
    let first : iterator.a.rest.now ≡ steps = search rules in
    let second : iterator.b.rest.now ≡ lines = search rules in
    let n = length c.loop-step.yielded in
    let ended : n ≡ min (length steps) (length lines) = zip_end steps lines c.loop-step.yielded iterator c.loop-step.step-iterator c.next.new.self c.next.result first second c.loop-step.yielded_by c.in-None.is c.next.ensures.steps in
    sym (append-nil c.loop-step.text.items) ∙ rw (sym (lines_end n steps lines ended)) c.loop-step.invariant
