-- What a task and a clerk are answered if the machines do not know what is delivered.
use Rattle.std.proofs.Common.{◌≡◌, ◌∙◌, ℕ, ◌+◌, ◌≤◌, Bool, true, false, not, List, [], refl, sym, ap, subst, if◌then◌else◌}
use Rattle.std.specs.Prelude.{Option, Some, None, Ok, option_map, slice_get}
use Rattle.machines.specs.Numbers.{is_within}
use Rattle.machines.specs.Refusals.{when}
use Rattle.assignment.specs.Slices.{Slicing}
use Rattle.grants.specs.declared.values.Grant.{Grant}
use Rattle.lease_table.specs.Calls.{AnsweredTableCall, grants_sent}
use Rattle.lease_table.specs.Generations.{assignment_in, published_in}
use Rattle.lease_table.specs.OpenRows.{IsSent, grant_numbered}
use Rattle.grants.specs.Policies.{Terms}
use Rattle.lease_table.specs.Runs.{commits_in, IsRun as IsTableRun}
use Rattle.grants.specs.declared.slicelet_call.SliceletCall.TheVariants.{Hear}
use Rattle.slicelet.specs.Steps.{slicelet_step}
use Rattle.clerk.specs.declared.call.ClerkCall.TheVariants.{Learn}
use Rattle.clerk.specs.Calls.{clerk_step}
use Rattle.job_calls.specs.declared.call.ClusterCall.{ClusterCall}
use Rattle.job_calls.specs.declared.call.ClusterCall.TheVariants as call
use Rattle.cluster.specs.declared.cluster.Cluster.{Cluster}
use Rattle.job_calls.specs.declared.error.ClusterError.{ClusterError}
use Rattle.job_calls.specs.declared.error.ClusterError.TheVariants as error
use Rattle.job_calls.specs.declared.reply.ClusterReply.{ClusterReply}
use Rattle.job_calls.specs.declared.reply.ClusterReply.TheVariants as reply
use Rattle.cluster.specs.Answers.{by_actor, from_machine, unless}
use Rattle.cluster.specs.Made.{is_published_as}
use Rattle.cluster.specs.Pasts.{Past, event, grants, history, newest_learnt, published, table_calls}
use Rattle.cluster.specs.continued.Clusters.{LeadsTo, IsPlayedOr}
use Rattle.cluster.specs.continued.Deliveries.{known_grant, known_slicing, knows_grant, knows_slicing}
use Rattle.cluster.specs.continued.Jobs.{Continued}
use Rattle.cluster.specs.continued.Runs.{IsReply, IsRun}
use Rattle.cluster.proofs.Finding.{is_grant, known_by_number}
use Rattle.cluster.proofs.Publishing.{known_generation}
use Rattle.cluster.proofs.TableRuns.{table_run}
use Rattle.log_line.specs.declared.line.BareGrant.{BareGrant}
use Rattle.log_run.specs.Calls.{slicing_sent, whole_grant, whole_slicing}

-- why nothing is delivered that is not known
abbrev pub why_unsent : Bool → ClusterError
why_unsent within = if within then error.NotSent else error.NoActor

pub refused_so : (within : Bool) → (if within then reply.Refused error.NotSent else reply.Refused error.NoActor) ≡ reply.Refused (why_unsent within)
refused_so true = refl
refused_so false = refl

-- the reply where nothing is known
pub unsent_told : (job : Continued) (past : Past) (number most : ℕ) (o : Option ClusterCall) (answer : ClusterReply) (cluster : Cluster) → o ≡ None
    → IsPlayedOr job past o (by_actor number most (reply.Refused error.NotSent)) (Ok answer) cluster
    → (answer ≡ reply.Refused (why_unsent (is_within number most))) × LeadsTo job past cluster
unsent_told job past number most None answer cluster none played =
    let same : answer ≡ by_actor number most (reply.Refused error.NotSent) = (let told = played.0 in cc) in
    (same ∙ refused_so (is_within number most), played.1)
unsent_told job past number most (Some c) answer cluster none played = absurd (cc)

module _ (job : Continued) (past : Past) (task at : ℕ) (g : BareGrant) where
  abbrev pub hears : Bool → ClusterReply
  hears known =
      by_actor task job.tasks (unless (when (not known) error.NotSent)
      (from_machine error.Slicelet reply.Task (slicelet_step (history task past) (Hear (whole_grant past g) at))))

  pub unknown_grant : IsRun job past
      → ((policy : Terms) (calls : List AnsweredTableCall) (place : ℕ) → IsTableRun policy calls → grant_numbered (place + 1) (grants_sent calls) ≡ slice_get (grants_sent calls) place)
      → ((calls : List AnsweredTableCall) (number : ℕ) (grant : Grant) → grant_numbered number (grants_sent calls) ≡ Some grant → IsSent calls grant × (grant.number ≡ number))
      → known_grant job.forgotten past g.number ≡ None → knows_grant job.forgotten past (whole_grant past g) ≡ false
  unknown_grant run place found none =
      let whole = whole_grant past g in
      sym (known_by_number (grants past) (λ i. place job.policy (table_calls past) i (table_run job past run)) (λ number grant e. found (table_calls past) number grant e)
      (job.forgotten.grant past g.number) whole)
      ∙ ap (is_grant whole) none

  -- a grant that is not known is refused, whatever it is
  pub hear_refused : IsRun job past
      → ((policy : Terms) (calls : List AnsweredTableCall) (place : ℕ) → IsTableRun policy calls → grant_numbered (place + 1) (grants_sent calls) ≡ slice_get (grants_sent calls) place)
      → ((calls : List AnsweredTableCall) (number : ℕ) (grant : Grant) → grant_numbered number (grants_sent calls) ≡ Some grant → IsSent calls grant × (grant.number ≡ number))
      → known_grant job.forgotten past g.number ≡ None
      → IsReply job past (event (call.Task task (Hear (whole_grant past g) at)) (reply.Refused (why_unsent (is_within task job.tasks))))
  hear_refused run place found none =
      (false, tt, sym (refused_so (is_within task job.tasks)) ∙ ap hears (sym (unknown_grant run place found none)))

module _ (job : Continued) (past : Past) (clerk generation : ℕ) where
  abbrev learns : Bool → ClusterReply
  learns known =
      by_actor clerk job.clerks (unless (when (not known) error.NotSent)
      (from_machine error.Clerk reply.Clerk (clerk_step (newest_learnt clerk past) (Learn (whole_slicing past generation)))))

  module _ (run : IsRun job past) (known : (calls : List AnsweredTableCall) (generation : ℕ) → generation ≤ commits_in calls → assignment_in generation calls ≡ published_in generation calls)
      (named : (policy : Terms) (calls : List AnsweredTableCall) (generation : ℕ) (slicing : Slicing) → IsTableRun policy calls → assignment_in generation calls ≡ Some slicing
      → slicing.generation ≡ generation) where
    -- what is published of a generation, or stands for it, is of the generation
    of_generation : (sent : Option Slicing) → published generation past ≡ sent → (slicing_sent generation sent).generation ≡ generation
    of_generation None e = refl
    of_generation (Some slicing) e =
        let calls = table_calls past in
        let table = table_run job past run in
        named job.policy calls generation slicing table (known calls generation (known_generation job.policy calls table generation slicing e) ∙ e)

    by_sent : (forgotten : Bool) (sent : Option Slicing) → (if forgotten then None else sent) ≡ None
        → (if forgotten then false else is_published_as (slicing_sent generation sent) sent) ≡ false
    by_sent true sent none = refl
    by_sent false None none = refl
    by_sent false (Some slicing) none = absurd (cc)

    unknown_slicing : known_slicing job.forgotten past generation ≡ None → knows_slicing job.forgotten past (whole_slicing past generation) ≡ false
    unknown_slicing none =
        let whole = whole_slicing past generation in
        let own : whole.generation ≡ generation = of_generation (published generation past) refl in
        ap (λ (n : ℕ). if job.forgotten.generation past n then false else is_published_as whole (published n past)) own
        ∙ by_sent (job.forgotten.generation past generation) (published generation past) none

    -- an assignment that is not known is refused, whatever it is
    pub learn_refused : known_slicing job.forgotten past generation ≡ None
        → IsReply job past (event (call.Clerk clerk (Learn (whole_slicing past generation))) (reply.Refused (why_unsent (is_within clerk job.clerks))))
    learn_refused none = (false, tt, sym (refused_so (is_within clerk job.clerks)) ∙ ap learns (sym (unknown_slicing none)))
