use Rattle.cluster.proofs.SnapshotChecks.{without_fault}
use Rattle.cluster.proofs.resuming.counts_in.Goals as goal

pub overflow_sub-granted : goal.overflow_sub-granted
overflow_sub-granted c = rw c.as_slice.ensures.value (without_fault c.args.job c.args.snapshot.now c.requires).grants

pub overflow_sub-newest : goal.overflow_sub-newest
overflow_sub-newest c = rw (c.as_slice-2.ensures.value, c.newest_generation-newest.ensures) (without_fault c.args.job c.args.snapshot.now c.requires).assignments

pub new-requires-clause-notes : goal.new-requires-clause-notes
new-requires-clause-notes c = (without_fault c.args.job c.args.snapshot.now c.requires).notes

pub new-requires-clause-handles : goal.new-requires-clause-handles
new-requires-clause-handles c = (without_fault c.args.job c.args.snapshot.now c.requires).handles
