use Rattle.std.proofs.Common.{refl}
use Rattle.log_trace_text.proofs.Telling.{one_told, other_told}
use Rattle.log_trace_text.proofs.ending.end_line.Goals as goal

pub returns-in_ok-one-in-One : goal.returns-in_ok-one-in-One
returns-in_ok-one-in-One c = λ job begins.
    one_told c.one_end.result (λ text. text.items) job c.args.start.now c.args.places.now c.args.entries.now c.args.found.now.finding _ _ c.args.found.now.all_sent
    c.args.drift c.in_ok-one-in-One.one _ c.in-One.is refl (c.in_ok-one-in-One.ensures job begins) c.one_end.ensures

pub returns-in_ok-hints-in-Other : goal.returns-in_ok-hints-in-Other
returns-in_ok-hints-in-Other c = λ job begins.
    other_told c.other_end.result (λ text. text.items) job c.args.start.now c.args.places.now c.args.entries.now c.args.found.now.finding _ _ _ _ c.args.found.now.all_sent
    c.args.drift c.in_ok-hints-in-Other.hints _ c.in-Other.is refl (c.in_ok-hints-in-Other.ensures job begins) c.other_end.ensures
