use Rattle.std.proofs.Common.{[], ◌∷◌, arith}
use Rattle.grants.specs.declared.slicelet_call.SliceletCall.TheVariants.{Resume}
use Rattle.slicelet.proofs.Standing.{resumes}
use Rattle.slicelet.proofs.slicelet.Slicelet.resume.Goals as goal

pub invariant_of-result : goal.invariant_of-result
invariant_of-result c = (Resume c.args.life ∷ [], rw (c.no_leases.ensures, c.no_grants.ensures) (resumes c.args.task c.args.life [] tt (omega arith)))

pub returns-clause-calls : goal.returns-clause-calls
returns-clause-calls c = λ calls accepted l. rw (c.no_leases.ensures, c.no_grants.ensures) (resumes c.args.task c.args.life calls accepted l)
