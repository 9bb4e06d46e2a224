-- Machines that begin, or go on from a snapshot.
use Rattle.std.proofs.Common.{◌≡◌, Bool, true, false, [], ◌∷◌, refl, sym, ap, subst, true≢false}
use Rattle.std.specs.Prelude.{Some}
use Rattle.job_calls.specs.Jobs.{Job}
use Rattle.cluster.specs.Pasts.{Event, Past}
use Rattle.job_calls.specs.declared.error.ClusterError.TheVariants as error
use Rattle.job_calls.specs.declared.reply.ClusterReply.TheVariants as reply
use Rattle.cluster.specs.declared.cluster.Cluster.{Cluster}
use Rattle.job_calls.specs.declared.snapshot.ClusterSnapshot.{ClusterSnapshot}
use Rattle.cluster.specs.continued.Clusters.{LeadsTo}
use Rattle.cluster.specs.continued.Jobs.{Continued, job_in}
use Rattle.cluster.specs.continued.Snapshots.{IsSnapshotOf, continued_from, remembered_in}
use Rattle.run_record.specs.Records.{IsRecordOf}
use Rattle.run_record.specs.declared.run_record.RunRecord.{RunRecord}
use Rattle.log_run.specs.Days.{IsSentSince, IsSentSo}
use Rattle.log_run.specs.Starts.{GoesOn}
use Rattle.log_run.specs.internals.Machines.{IsRecorded}

pub machines_go_on : (job : Continued) (own : Job) (s : ClusterSnapshot) (cluster : Cluster) → GoesOn job own s
    → ((past : Past) → IsSnapshotOf own past s → LeadsTo (continued_from own past (remembered_in s)) past cluster) → LeadsTo job job.earlier cluster
machines_go_on job own s cluster on leads = subst (λ (j : Continued). LeadsTo j j.earlier cluster) (sym on.is) (leads on.past on.snapshot)

pub record_goes_on : (job : Continued) (own : Job) (s : ClusterSnapshot) (run : RunRecord) → GoesOn job own s
    → ((own : Job) (past : Past) → IsSnapshotOf own past s → IsRecordOf own past run) → IsRecorded job job.earlier (Some run)
record_goes_on job own s run on is = subst (λ (j : Continued). IsRecordOf (job_in j) j.earlier run) (sym on.is) (is own on.past on.snapshot)

-- before the first call nothing was refused
pub none_unsent : (job : Continued) → IsSentSince job job.earlier
none_unsent job = record { since = []; whole = refl; sent = tt }

-- one more reply, and whether it is that something was not sent
pub sent_more : (before after : Bool) (job : Continued) (past : Past) (e : Event) → IsSentSo before job past
    → (after ≡ true → (before ≡ true) × (e.reply ≡ reply.Refused error.NotSent → ⊥)) → (after ≡ false → before ≡ true → e.reply ≡ reply.Refused error.NotSent)
    → IsSentSo after job (e ∷ past)
sent_more true true job past e so_far all one = record {
  since = e ∷ so_far.since;
  whole = ap (λ (p : Past). e ∷ p) so_far.whole;
  sent = ((all refl).1, so_far.sent);
}
sent_more false true job past e so_far all one = absurd (true≢false (sym (all refl).0))
sent_more true false job past e so_far all one = record {
  since = e ∷ so_far.since;
  whole = ap (λ (p : Past). e ∷ p) so_far.whole;
  unsent = λ sent. sent.0 (one refl refl);
}
sent_more false false job past e so_far all one = record {
  since = e ∷ so_far.since;
  whole = ap (λ (p : Past). e ∷ p) so_far.whole;
  unsent = λ sent. so_far.unsent sent.1;
}
