use Rattle.std.proofs.Common.{◌≡◌, refl, sym, ◌∙◌, subst}
use Rattle.std.specs.Prelude.{None}
use Rattle.machines.specs.Refusals.{first_of}
use Rattle.grants.specs.Policies.{Terms}
use Rattle.grants.specs.Snapshots.{snapshot_checks}
use Rattle.cluster.proofs.SnapshotChecks.{without_fault}
use Rattle.cluster.proofs.resuming.resumed_with.Goals as goal

pub resumed_table-requires : goal.resumed_table-requires
resumed_table-requires c =
    subst (λ (p : Terms). first_of (snapshot_checks p c.args.snapshot.now.table) ≡ None) (sym c.policy.ensures) (without_fault c.args.job c.args.snapshot.now c.requires).table

pub returns : goal.returns
returns c = record {
  same_job = refl;
  table = c.in_ok-resumed_table.ensures;
  tasks = refl;
  clerks = c.in_ok-clerk_copies.ensures ∙ c.as_slice.ensures.value;
  grants = c.in_ok-grant_copies.ensures ∙ c.as_slice-2.ensures.value;
  notes = c.new.ensures.items;
  handles = c.new-2.ensures.items;
  earlier = c.counts_in.ensures;
  known_notes = λ note. rw c.as_slice-3.ensures.value at c.in_ok-known_notes.ensures note;
  known_handles = λ handle. rw c.as_slice-4.ensures.value at c.in_ok-known_handles.ensures handle;
  proposals = c.in_ok-assignment_copies.ensures ∙ c.as_slice-5.ensures.value;
}
