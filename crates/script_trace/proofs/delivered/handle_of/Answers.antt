use Rattle.std.proofs.Common.{ap}
use Rattle.std.specs.Prelude.{Option, option_map}
use Rattle.key_handle.specs.declared.handle.KeyHandle.{KeyHandle}
use Rattle.script_trace.specs.declared.delivered.Delivered.TheVariants as delivered
use Rattle.script_trace.proofs.delivered.handle_of.Goals as goal

pub returns-in-Some : goal.returns-in-Some
returns-in-Some c job calls leads = ap (λ (o : Option KeyHandle). option_map delivered.Handle o) (c.in-Some.ensures job calls leads)

pub returns-in-None : goal.returns-in-None
returns-in-None c job calls leads = ap (λ (o : Option KeyHandle). option_map delivered.Handle o) (c.in-None.ensures job calls leads)
