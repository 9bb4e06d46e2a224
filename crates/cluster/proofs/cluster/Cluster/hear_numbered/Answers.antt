use Rattle.std.proofs.Common.{◌≡◌, ℕ, ◌<◌, List, length, refl, sym, ◌∙◌, ap, subst}
use Rattle.std.specs.Prelude.{false}
use Rattle.indexmap.specs.IndexSet.{contains}
use Rattle.machines.specs.Numbers.{is_within}
use Rattle.grants.specs.declared.slicelet_call.SliceletCall.TheVariants.{Hear}
use Rattle.slicelet.specs.States.{SliceletState}
use Rattle.job_calls.specs.declared.error.ClusterError.TheVariants as error
use Rattle.job_calls.specs.declared.reply.ClusterReply.TheVariants as reply
use Rattle.cluster.specs.Pasts.{table_calls, grants}
use Rattle.cluster.specs.continued.Deliveries.{known_grant}
use Rattle.cluster.specs.Answers.{by_actor}
use Rattle.cluster.specs.continued.Clusters.{LeadsTo}
use Rattle.cluster.specs.Made.{same_note}
use Rattle.cluster.specs.Numbers.{kept_with_number}
use Rattle.cluster.proofs.TableRuns.{table_run}
use Rattle.cluster.proofs.Finding.{numbered_as}
use Rattle.cluster.proofs.KeptNumbers.{kept_grant}
use Rattle.cluster.proofs.TaskTurns.{inside_job, task_turn}
use Rattle.cluster.proofs.Turning.{heard_no_note, heard_none_known}
use Rattle.cluster.proofs.Numbering.{hear_of_none, hear_unsent, hear_played, hear_takes, sent_comes}
use Rattle.cluster.proofs.cluster.Cluster.hear_numbered.Goals as goal

pub returns-in_default : goal.returns-in_default
returns-in_default c = λ job past k.
    hear_of_none job past c.args.self.now k c.args.task c.args.at (known_grant job.forgotten past c.args.number)
    (subst (λ (xs : List SliceletState). is_within c.args.task (length xs) ≡ false) c.as_slice.ensures.value c.in_default.ensures)

pub returns-in_default-kept_with_number : goal.returns-in_default-kept_with_number
returns-in_default-kept_with_number c = λ job past k.
    let inside = subst (λ (xs : List SliceletState). c.in-Some.place < length xs) c.as_slice.ensures.value c.in-Some.ensures.1 in
    let none = c.in_default-kept_with_number.ensures ∙ ap (λ (n : ℕ). kept_with_number c.args.number n c.as_slice-2.result.now) c.grants-before.ensures
    ∙ kept_grant job past c.args.self.now k c.args.number c.as_slice-2.result.now c.as_slice-2.ensures.value in
    hear_unsent job past c.args.self.now k c.args.task c.args.at (known_grant job.forgotten past c.args.number)
    (inside_job job past c.args.task c.in-Some.place c.args.self.now k c.in-Some.ensures.0 inside) none

pub returns : goal.returns
unfolding LeadsTo
returns c = λ job past k.
    let run = table_run job past k.run in
    let inside = subst (λ (xs : List SliceletState). c.in-Some.place < length xs) c.as_slice.ensures.value c.in-Some.ensures.1 in
    let grant = c.in-Some-kept_with_number.grant.now in
    let own = numbered_as (grants past) (λ i. c.numbers_law.ensures.place job.policy (table_calls past) i run) (λ number grant e. c.numbers_law.ensures.found (table_calls past) number grant e) in
    let found = c.in-Some-kept_with_number.ensures ∙ ap (λ (n : ℕ). kept_with_number c.args.number n c.as_slice-2.result.now) c.grants-before.ensures
    ∙ kept_grant job past c.args.self.now k c.args.number c.as_slice-2.result.now c.as_slice-2.ensures.value in
    hear_played job past c.args.task c.args.at grant (known_grant job.forgotten past c.args.number) (by_actor c.args.task job.tasks (reply.Refused error.NotSent)) _ _ found
    (task_turn job past c.args.task c.in-Some.place (Hear grant c.args.at) c.args.self.now _ c.in-Some.ensures.0
    (sent_comes job.forgotten past c.args.number grant c.args.at own (sym found)) k c.index_mut.result.now c.hear.new.slicelet c.index_mut.ensures.value inside refl
    (record { job = refl; earlier = refl; table = refl; clerks = refl; grants = refl; handles = refl; known_handles = λ key. refl; proposals = refl }) c.hear.result c.hear.ensures
    (hear_takes grant c.args.at c.hear.result)
    (heard_no_note c.index_mut.result.now grant c.args.at c.hear.new.slicelet c.hear.result _ c.hear.ensures)
    (heard_none_known c.index_mut.result.now grant c.args.at c.hear.new.slicelet c.hear.result c.hear.ensures (contains same_note c.args.self.now.known_notes)) _ c.told_by_task.ensures)
