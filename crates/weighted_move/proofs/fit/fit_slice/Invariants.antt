use Rattle.std.proofs.Common.{◌≡◌, ◌+◌, ◌-◌, ◌≤◌, ◌++◌, ◌∷◌, ℕ, List, length}
use Rattle.weighted_move.specs.declared.loaded_slice.LoadedSlice.{LoadedSlice}
use Rattle.weighted_move.specs.Loads.{added_to, load_of, load_in}
use Rattle.weighted_move.specs.Fitting.{slice_after_losses, slice_after_gains}
use Rattle.weighted_move.proofs.fit.fit_slice.Given as goal

abbrev pub invariant-away : goal.invariant-away
invariant-away l = record {
  has : (t : ℕ) → added_to t l.slice ≤ load_in l.loads t;
  change : (t : ℕ) → load_in l.loads t + added_to t l.initial.slice ≡ load_in l.initial.loads t + added_to t l.slice;
  load : l.slice.load ≡ l.initial.slice.load;
  few : length l.slice.owners ≤ length l.initial.slice.owners;
  prunes : (before after : List LoadedSlice) → ((t : ℕ) → load_in l.initial.loads t ≡ load_of (before ++ l.initial.slice ∷ after) t)
      → slice_after_losses (l.before - l.redundancy.high) before l.initial.slice after ≡ slice_after_losses (l.before - l._turn) before l.slice after;
}

abbrev pub invariant-more : goal.invariant-more
invariant-more l = record {
  has : (t : ℕ) → added_to t l.slice ≤ load_in l.loads t;
  change : (t : ℕ) → load_in l.loads t + added_to t l.initial.slice ≡ load_in l.initial.loads t + added_to t l.slice;
  load : l.slice.load ≡ l.initial.slice.load;
  few : length l.slice.owners ≤ l._turn;
  fills : (before after : List LoadedSlice) → ((t : ℕ) → load_in l.initial.loads t ≡ load_of (before ++ l.initial.slice ∷ after) t)
      → slice_after_gains l.tasks (l.fn.redundancy.low - l.before) before l.initial.slice after ≡ slice_after_gains l.tasks (l.fn.redundancy.low - l._turn) before l.slice after;
}
