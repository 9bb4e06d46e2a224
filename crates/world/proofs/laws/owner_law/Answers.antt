use Rattle.slice_ranges.specs.Hash.{slice_key}
use Rattle.world.specs.Calls.{calls_in}
use Rattle.world.proofs.Running.{calls_run}
use Rattle.world.proofs.Holding.{may_serve}
use Rattle.world.proofs.laws.owner_law.Goals as goal

pub returns-clause-owner : goal.returns-clause-owner
returns-clause-owner c = λ job past task key within run may.
    c.owner_law.ensures.owner job (calls_in job past) task (slice_key key) within (calls_run job past run) (may_serve job past task key may)

pub returns-clause-one : goal.returns-clause-one
returns-clause-one c = λ job past task other key within single run may also.
    c.owner_law.ensures.one job (calls_in job past) task other (slice_key key) within single (calls_run job past run) (may_serve job past task key may) (may_serve job past other key also)
