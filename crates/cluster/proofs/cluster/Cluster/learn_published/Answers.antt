use Rattle.std.proofs.Common.{◌≡◌, ℕ, ◌<◌, List, length, refl, sym, ◌∙◌, ap, subst}
use Rattle.std.specs.Prelude.{Option, false}
use Rattle.machines.specs.Numbers.{is_within}
use Rattle.assignment.specs.Slices.{Slicing}
use Rattle.clerk.specs.declared.call.ClerkCall.TheVariants.{Learn}
use Rattle.job_calls.specs.declared.error.ClusterError.TheVariants as error
use Rattle.job_calls.specs.declared.reply.ClusterReply.TheVariants as reply
use Rattle.cluster.specs.Pasts.{table_calls}
use Rattle.cluster.specs.continued.Deliveries.{known_slicing}
use Rattle.cluster.specs.Answers.{by_actor}
use Rattle.cluster.specs.continued.Clusters.{LeadsTo}
use Rattle.cluster.specs.internals.Proposals.{published_of}
use Rattle.cluster.proofs.ClerkTurns.{inside_job, clerk_turn}
use Rattle.cluster.proofs.TableRuns.{table_run}
use Rattle.cluster.proofs.KeptNumbers.{kept_slicing}
use Rattle.cluster.proofs.Numbering.{learn_of_none, learn_unpublished, learn_played, learn_takes, published_comes}
use Rattle.cluster.proofs.cluster.Cluster.learn_published.Goals as goal

pub returns-in_default : goal.returns-in_default
returns-in_default c = λ job past k.
    learn_of_none job past c.args.self.now k c.args.clerk (known_slicing job.forgotten past c.args.generation)
    (subst (λ (xs : List (Option Slicing)). is_within c.args.clerk (length xs) ≡ false) c.as_slice.ensures.value c.in_default.ensures)

pub returns-in_default-published : goal.returns-in_default-published
returns-in_default-published c = λ job past k.
    let inside = subst (λ (xs : List (Option Slicing)). c.in-Some.place < length xs) c.as_slice.ensures.value c.in-Some.ensures.1 in
    let none = c.in_default-published.ensures ∙ ap (λ (n : ℕ). published_of c.args.generation c.args.self.now.table n c.as_slice-proposals.result.now) c.proposals-before.ensures
    ∙ kept_slicing job past c.args.self.now k (λ policy calls run. c.generations_law.ensures.committed policy calls run) c.args.generation c.as_slice-proposals.result.now
    c.as_slice-proposals.ensures.value in
    learn_unpublished job past c.args.self.now k c.args.clerk (known_slicing job.forgotten past c.args.generation)
    (inside_job job past c.args.clerk c.in-Some.place c.args.self.now k c.in-Some.ensures.0 inside) none

pub returns : goal.returns
unfolding LeadsTo
returns c = λ job past k.
    let calls = table_calls past in
    let run = table_run job past k.run in
    let inside = subst (λ (xs : List (Option Slicing)). c.in-Some.place < length xs) c.as_slice.ensures.value c.in-Some.ensures.1 in
    let found = c.in-Some-published.ensures ∙ ap (λ (n : ℕ). published_of c.args.generation c.args.self.now.table n c.as_slice-proposals.result.now) c.proposals-before.ensures
    ∙ kept_slicing job past c.args.self.now k (λ policy calls run. c.generations_law.ensures.committed policy calls run) c.args.generation c.as_slice-proposals.result.now
    c.as_slice-proposals.ensures.value in
    learn_played job past c.args.clerk c.in-Some-published.assignment.now (known_slicing job.forgotten past c.args.generation) (by_actor c.args.clerk job.clerks (reply.Refused error.NotSent)) _ _ found
    (clerk_turn job past c.args.clerk c.in-Some.place (Learn c.in-Some-published.assignment.now) c.args.self.now _ c.in-Some.ensures.0
    (published_comes job past c.args.generation c.in-Some-published.assignment.now run c.assignments_law.ensures.published c.generations_law.ensures.named (sym found)) k c.index_mut.result.now c.learn.new.clerk
    c.index_mut.ensures.value inside c.learn.result c.learn.ensures (learn_takes c.in-Some-published.assignment.now c.learn.result) refl
    (record { job = refl; earlier = refl; table = refl; tasks = refl; grants = refl; notes = refl; handles = refl; known_notes = λ key. refl; known_handles = λ key. refl; proposals = refl }) _
    c.told_by_clerk.ensures)
