use Rattle.std.proofs.Common.{◌≡◌, take, string_bytes}
use Rattle.audit_text.specs.Counts.{numbers_text}
use Rattle.audit_text.proofs.counts_text.numbers_text.Given as goal

-- the numbers so far
abbrev pub invariant-loop-number : goal.invariant-loop-number
invariant-loop-number l = string_bytes l.text ≡ numbers_text (take l.number-index l.numbers)
