use Rattle.std.proofs.Common.{◌≡◌, map, take, string_bytes}
use Rattle.std.specs.List.{flat_map}
use Rattle.audit_text.specs.declared.comparing.WrongReply.{WrongReply}
use Rattle.audit_text.specs.Reports.{wrong_text}
use Rattle.audit_text.proofs.report.later_text.Given as goal

-- the lines of the wrong replies so far
abbrev pub invariant-loop-wrong : goal.invariant-loop-wrong
invariant-loop-wrong l = string_bytes l.text
    ≡ flat_map (λ (w : WrongReply). wrong_text (map (λ n. n.now) l.log.names.now) l.log.entries.now w.index w.wanted) (take l.wrong-index l.later)
