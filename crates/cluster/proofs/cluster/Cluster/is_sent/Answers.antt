use Rattle.std.proofs.Common.{ℕ, ◌∙◌, ap}
use Rattle.cluster.specs.Pasts.{table_calls, grants}
use Rattle.cluster.specs.continued.Clusters.{LeadsTo}
use Rattle.cluster.specs.Numbers.{kept_with_number}
use Rattle.cluster.proofs.KeptNumbers.{kept_grant}
use Rattle.cluster.proofs.TableRuns.{table_run}
use Rattle.cluster.proofs.Finding.{is_grant, known_by_number}
use Rattle.cluster.proofs.cluster.Cluster.is_sent.Goals as goal

pub returns-in-Some : goal.returns-in-Some
unfolding LeadsTo
returns-in-Some c = λ job past k.
    let run = table_run job past k.run in
    let found = c.in-Some.ensures ∙ ap (λ (n : ℕ). kept_with_number c.args.grant.now.number n c.as_slice.result.now) c.grants-before.ensures
    ∙ kept_grant job past c.args.self.now k c.args.grant.now.number c.as_slice.result.now c.as_slice.ensures.value in
    c.eq.ensures ∙ ap (is_grant c.args.grant.now) found
    ∙ known_by_number (grants past) (λ i. c.numbers_law.ensures.place job.policy (table_calls past) i run) (λ number grant e. c.numbers_law.ensures.found (table_calls past) number grant e)
    (job.forgotten.grant past c.args.grant.now.number) c.args.grant.now

pub returns-in-None : goal.returns-in-None
unfolding LeadsTo
returns-in-None c = λ job past k.
    let run = table_run job past k.run in
    let found = c.in-None.ensures ∙ ap (λ (n : ℕ). kept_with_number c.args.grant.now.number n c.as_slice.result.now) c.grants-before.ensures
    ∙ kept_grant job past c.args.self.now k c.args.grant.now.number c.as_slice.result.now c.as_slice.ensures.value in
    ap (is_grant c.args.grant.now) found
    ∙ known_by_number (grants past) (λ i. c.numbers_law.ensures.place job.policy (table_calls past) i run) (λ number grant e. c.numbers_law.ensures.found (table_calls past) number grant e)
    (job.forgotten.grant past c.args.grant.now.number) c.args.grant.now
