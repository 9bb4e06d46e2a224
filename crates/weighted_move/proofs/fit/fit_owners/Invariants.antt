use Rattle.std.proofs.Common.{◌≡◌, ℕ, take, drop}
use Rattle.weighted_move.specs.Loads.{load_of, load_in, total_load}
use Rattle.weighted_move.specs.Fitting.{fitted_slices, fitted_slices_from}
use Rattle.weighted_move.proofs.fit.fit_owners.Given as goal

abbrev pub invariant-loop-slice : goal.invariant-loop-slice
invariant-loop-slice l = record {
  loads : (t : ℕ) → load_in l.loads t ≡ load_of l.slices t;
  fitted : fitted_slices_from l.tasks l.redundancy (take l.slice-index l.slices) (drop l.slice-index l.slices) ≡ fitted_slices l.tasks l.redundancy l.initial.slices;
  total : total_load l.slices ≡ total_load l.initial.slices;
}
