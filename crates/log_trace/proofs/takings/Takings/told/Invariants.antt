use Rattle.std.proofs.Common.{◌≡◌, ℕ, ◌<◌, get_or}
use Rattle.std.specs.Prelude.{⊤, None, MatchOption}
use Rattle.std.specs.List.{All}
use Rattle.log_line.specs.declared.entry.LogEntry.{LogEntry}
use Rattle.log_trace.specs.Takings.{IsWatched, told_broken}
use Rattle.log_trace.proofs.takings.Takings.told.Given as goal

-- the handles of the entries so far
abbrev pub invariant-loop-entry : goal.invariant-loop-entry
invariant-loop-entry l = record {
  watched : (k : ℕ) → k < l.entry-index → (d : LogEntry) → MatchOption (told_broken (get_or l.entries k d)) ⊤ (IsWatched l.takings.all.items);
  none : All (λ taking. taking.first ≡ None) l.takings.all.items;
}
