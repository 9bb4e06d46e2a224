use Rattle.std.proofs.Common.{◌∙◌, sym}
use Rattle.assignment.specs.Slices.{Slicing}
use Rattle.assignment.specs.Owners.{built}
use Rattle.cluster.specs.Pasts.{standing}
use Rattle.cluster.specs.continued.Jobs.{from_start}
use Rattle.world.proofs.Proposing.{same_refusal, proposal_refused, proposal_without_memory}
use Rattle.world.proofs.table.unproposed.Goals as goal

pub returns-in-Some-clause-asked : goal.returns-in-Some-clause-asked
returns-in-Some-clause-asked c = λ job calls s leads.
    let slicing : Slicing = built c.args.generation c.args.slices.now in
    let same = sym (same_refusal (standing job.policy calls) c.args.number c.args.generation c.args.slices.now c.args.at c.requires) in
    proposal_refused job calls c.args.number c.args.at slicing s c.args.cluster.now leads (λ job. c.refusal_law.ensures (from_start job)) c.in-Some.why (c.in-Some.ensures (from_start job) calls leads ∙ same)

pub returns-in-None-clause-asked : goal.returns-in-None-clause-asked
returns-in-None-clause-asked c = λ job calls s leads.
    let slicing : Slicing = built c.args.generation c.args.slices.now in
    let same = sym (same_refusal (standing job.policy calls) c.args.number c.args.generation c.args.slices.now c.args.at c.requires) in
    proposal_without_memory job calls c.args.number c.args.at slicing s c.args.cluster.now leads (c.in-None.ensures (from_start job) calls leads ∙ same)
