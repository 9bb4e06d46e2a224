use Rattle.std.proofs.Common.{option_map}
use Rattle.trace_text.proofs.Telling.{trace_told}
use Rattle.trace_text.proofs.text.trace_text.Goals as goal

pub returns : goal.returns
returns c =
    let key = option_map (λ k. k.now) c.args.key in
    let traced = rw c.key_of.ensures at c.in_ok-trace.ensures in
    let found = rw (c.skew.ensures, c.policy.ensures) at c.in_ok-untimely.ensures in
    trace_told c.lines_of.result (λ text. text.items) c.args.job key c.args.steps.now c.in_ok-trace.trace c.in_ok-untimely.untimely traced found c.lines_of.ensures
