use Rattle.std.proofs.Common.{◌≡◌, ◌∙◌, ◌≤◌, true, false, List, [], ◌∷◌, ◌++◌, length, sym, ap, arith}
use Rattle.std.proofs.lemmas.Bool.Decides.{nat_tests}
use Rattle.log_trace.specs.declared.line.LogLine.{LogLine}
use Rattle.log_trace.proofs.Telling.{none_left, right_after, right_ends, right_more, some_left, turned_false, turned_true, wrong_more, wrong_same}
use Rattle.log_trace.proofs.trace.LogTrace.add.Goals as goal

pub returns-in_ok-push : goal.returns-in_ok-push
returns-in_ok-push c all told =
    let line = c.args.line in
    let wrong : line.is_told ≡ false = turned_true line.is_told c.if-not-line.true in
    record {
      right = told.right ∙ sym (right_ends line all wrong);
      wrong = c.in_ok-push.ensures.items ∙ ap (λ (lines : List LogLine). lines ++ line ∷ []) told.wrong ∙ sym (wrong_more line all wrong);
    }

pub returns-in_ok-push-2 : goal.returns-in_ok-push-2
returns-in_ok-push-2 c all told =
    let line = c.args.line in
    let right : line.is_told ≡ true = turned_false line.is_told c.if-not-line.false in
    let empty : length c.args.self.now.faults.items ≡ 0 = grind (arith, nat_tests, c.is_empty.ensures, c.as_slice.ensures.value, c.if-is_empty.true) in
    let none = none_left c.args.self.now.faults.items empty in
    record {
      right = c.in_ok-push-2.ensures.items ∙ ap (λ (lines : List LogLine). lines ++ line ∷ []) told.right ∙ sym (right_more line all right (sym told.wrong ∙ none));
      wrong = told.wrong ∙ sym (wrong_same line all right);
    }

pub returns-else-is_empty : goal.returns-else-is_empty
returns-else-is_empty c all told =
    let line = c.args.line in
    let right : line.is_told ≡ true = turned_false line.is_told c.if-not-line.false in
    let left : 1 ≤ length c.args.self.now.faults.items = grind (arith, nat_tests, c.is_empty.ensures, c.as_slice.ensures.value, c.if-is_empty.false) in
    let some = some_left c.args.self.now.faults.items left in
    record {
      right = told.right ∙ sym (right_after line all (λ none. some (told.wrong ∙ none)));
      wrong = told.wrong ∙ sym (wrong_same line all right);
    }
