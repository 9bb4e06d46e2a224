use Rattle.std.proofs.Common.{subst}
use Rattle.c_calls.specs.slicelets.Keys.{rule_at_after}
use Rattle.c_calls.specs.slicelets.Leases.{IsServed}
use Rattle.c_calls.proofs.slicelets.calls.hold.Goals as goal

pub returns-clause-calls : goal.returns-clause-calls
returns-clause-calls c = λ calls stands.
    subst (λ key. IsServed (rule_at_after key calls c.args.at) c.args.slicelet.now c.take_handle.result) c.slice_key.ensures (c.take_handle.ensures.calls calls stands)
