use Rattle.std.proofs.Common.{◌≡◌, take, string_bytes}
use Rattle.std.specs.List.{flat_map}
use Rattle.audit_text.specs.Counts.{counted_text}
use Rattle.audit_text.proofs.counts_text.counted_texts.Given as goal

-- the texts of the actors so far
abbrev pub invariant-loop-counted : goal.invariant-loop-counted
invariant-loop-counted l = string_bytes l.text ≡ flat_map (counted_text l.word) (take l.counted-index l.counts)
