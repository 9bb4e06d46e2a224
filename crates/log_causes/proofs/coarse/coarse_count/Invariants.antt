use Rattle.std.proofs.Common.{◌≡◌, take}
use Rattle.std.specs.List.{count_by}
use Rattle.log_causes.specs.Coarse.{is_coarse_entry}
use Rattle.log_causes.proofs.coarse.coarse_count.Given as goal

-- the replies so far of which the log keeps one word
abbrev pub invariant-loop-entry : goal.invariant-loop-entry
invariant-loop-entry l = l.count ≡ count_by is_coarse_entry (take l.entry-index l.entries)
