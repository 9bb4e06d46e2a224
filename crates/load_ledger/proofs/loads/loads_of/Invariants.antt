use Rattle.std.proofs.Common.{◌≡◌, take}
use Rattle.load_ledger.specs.Loads.{slice_loads}
use Rattle.load_ledger.specs.Books.{records_of}
use Rattle.load_ledger.proofs.loads.loads_of.Given as goal

abbrev pub invariant-loop-share : goal.invariant-loop-share
invariant-loop-share l = l.loads.items ≡ slice_loads l.slices (records_of (take l.share-index l.shares))
