-- A proposal of slices for which there is no memory.
use Rattle.std.proofs.Common.{◌≡◌, ℕ, Bool, true, List, ◌∷◌, refl, sym, ap}
use Rattle.std.specs.Prelude.{Option, Some, None, Ok, Err, alloc_error}
use Rattle.machines.specs.Answers.{with_named_reply}
use Rattle.machines.specs.Refusals.{first_of, unless_refused}
use Rattle.assignment.specs.declared.slice.Slice.{Slice}
use Rattle.assignment.specs.Slices.{Slicing, refusal_of}
use Rattle.assignment.specs.Owners.{built}
use Rattle.assignment.proofs.RisingOwners.{same_counts}
use Rattle.grants.specs.declared.table_call.TableCall.TheVariants.{Propose}
use Rattle.grants.specs.declared.table_call.TableReply.TheVariants.{Proposed}
use Rattle.grants.specs.declared.table_error.TableError.{TableError}
use Rattle.lease_table.specs.Tables.{Standing}
use Rattle.lease_table.specs.Steps.{proposal_checks, propose_checks}
use Rattle.job_calls.specs.declared.call.ClusterCall.{ClusterCall}
use Rattle.job_calls.specs.declared.call.ClusterCall.TheVariants as call
use Rattle.job_calls.specs.declared.error.ClusterError.{ClusterError}
use Rattle.job_calls.specs.declared.error.ClusterError.TheVariants as error
use Rattle.job_calls.specs.declared.reply.ClusterReply.TheVariants as machine
use Rattle.cluster.specs.declared.cluster.Cluster.{Cluster}
use Rattle.cluster.specs.Pasts.{event as cluster_event, Past as ClusterPast, is_accepted, standing}
use Rattle.cluster.specs.Replies.{from_machine}
use Rattle.cluster.specs.Runs.{IsReply as IsClusterReply}
use Rattle.cluster.specs.Clusters.{LeadsTo as LeadsToCluster}
use Rattle.world.specs.Jobs.{Job}
use Rattle.world.specs.declared.step.Step.{Step}
use Rattle.replies.specs.declared.reply.Refusal.TheVariants as refusal
use Rattle.replies.specs.declared.reply.Reply.TheVariants as reply
use Rattle.world.specs.internals.Asking.{IsAsked}

-- the table refuses the assignment that is built as it would the slices of which it is built
pub same_refusal : (t : Standing) (number generation : ℕ) (slices : List Slice) (at : ℕ) → refusal_of slices ≡ None
    → first_of (propose_checks t number (built generation slices) at) ≡ first_of (propose_checks t number (record { generation = generation; slices = slices }) at)
same_refusal t number generation slices at accepted = ap (λ (many : Bool). first_of (proposal_checks t number generation many at)) (same_counts slices t.policy.high accepted)

module _ (job : Job) (calls : ClusterPast) (number at : ℕ) (slicing : Slicing) (s : Step) (cluster : Cluster) (leads : LeadsToCluster job calls cluster) where
  abbrev proposal : ClusterCall
  proposal = call.Table (Propose number slicing at)

  told_by : {M : Type 0} (o : Option TableError) (p : M × Unit {0}) (why : TableError) → o ≡ Some why
      → from_machine error.Table machine.Table (with_named_reply (λ _. Proposed) (unless_refused o p)) ≡ machine.Refused (error.Table why)
  told_by None p why e = absurd (cc)
  told_by (Some other) p why e = let same : other ≡ why = cc in ap (λ (x : TableError). machine.Refused (error.Table x)) same

  accepted_by : {M : Type 0} (o : Option TableError) (p : M × Unit {0}) → o ≡ None
      → is_accepted (from_machine error.Table machine.Table (with_named_reply (λ _. Proposed) (unless_refused o p))) ≡ true
  accepted_by None p e = refl
  accepted_by (Some why) p e = absurd (cc)

  -- the table's refusal comes first
  pub proposal_refused : ((job : Job) (past : ClusterPast) (made : ClusterCall) (why : ClusterError) → LeadsToCluster job past cluster → IsClusterReply job past (cluster_event made (machine.Refused why))
      → LeadsToCluster job (cluster_event made (machine.Refused why) ∷ past) cluster)
      → (why : TableError) → Some why ≡ first_of (propose_checks (standing job.policy calls) number slicing at) → IsAsked job calls s proposal (reply.Refused (refusal.Table why)) cluster
  proposal_refused law why e =
      (Ok (machine.Refused (error.Table why)), law job calls proposal (error.Table why) leads (true, tt, sym (told_by (first_of (propose_checks (standing job.policy calls) number slicing at)) _ why (sym e))), refl)

  -- where there is none, the proposal is out of memory
  pub proposal_without_memory : None ≡ first_of (propose_checks (standing job.policy calls) number slicing at) → IsAsked job calls s proposal reply.NoMemory cluster
  proposal_without_memory e =
      (Err alloc_error, (leads, (refl, λ kept. accepted_by (first_of (propose_checks (standing job.policy calls) number slicing at)) _ (sym e))), refl)
