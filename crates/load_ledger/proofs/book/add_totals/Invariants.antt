use Rattle.std.proofs.Common.{◌≡◌, ◌+◌, ◌≤◌, ℕ, length, take}
use Rattle.std.specs.Prelude.{sum}
use Rattle.load_ledger.specs.Books.{shares_total, task_total, weight_of}
use Rattle.load_ledger.proofs.book.add_totals.Given as goal

abbrev pub invariant-loop-share : goal.invariant-loop-share
invariant-loop-share l = record {
  each : length l.totals ≡ 64;
  totals : (task : ℕ) → 1 ≤ task → task ≤ 64 → task_total l.totals task ≡ task_total l.initial.totals task + weight_of task (take l.share-index l.shares);
  sum : sum l.totals ≡ sum l.initial.totals + shares_total (take l.share-index l.shares);
}
