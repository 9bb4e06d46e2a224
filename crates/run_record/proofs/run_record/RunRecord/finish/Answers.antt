use Rattle.std.proofs.Common.{◌≡◌, length, refl, subst, arith}
use Rattle.lease_table.specs.Snapshots.{IsSnapshotOf}
use Rattle.lease_table.specs.Tables.{Standing}
use Rattle.cluster.specs.Made.{notes_made, handles_made}
use Rattle.cluster.specs.continued.Jobs.{job_in}
use Rattle.run_record.proofs.Making.{snapshot_is}
use Rattle.run_record.proofs.run_record.RunRecord.finish.Goals as goal

pub returns-clause-leads : goal.returns-clause-leads
returns-clause-leads c = λ job past leads run is.
    let table = subst (λ (t : Standing). IsSnapshotOf t c.in_ok-table.table) (c.table.ensures job past leads) c.in_ok-table.ensures in
    let notes : c.saturating_sub.result ≡ length (notes_made past) = let n = c.next_note.ensures job past leads in let s = c.saturating_sub.ensures in omega (arith, n, s) in
    let handles : c.saturating_sub-2.result ≡ length (handles_made past) = let n = c.next_handle.ensures job past leads in let s = c.saturating_sub-2.ensures in omega (arith, n, s) in
    snapshot_is (job_in job) past c.args.self _ run is table (record { tasks = refl; clerks = refl; grants = refl; assignments = refl; notes = refl; handles = c.in_ok-handles_in.ensures; reading = refl }) notes handles
