use Rattle.std.proofs.Common.{subst}
use Rattle.c_calls.specs.slicelets.Keys.{rule_at_after}
use Rattle.c_calls.specs.slicelets.Leases.{IsServed}
use Rattle.c_calls.proofs.slicelets.calls.serve.Goals as goal

pub returns-clause-calls : goal.returns-clause-calls
returns-clause-calls c = λ calls stands.
    subst (λ key. IsServed (rule_at_after key calls c.args.at) c.args.slicelet.now c.serve_key.result) c.slice_key.ensures (c.serve_key.ensures.calls calls stands)
