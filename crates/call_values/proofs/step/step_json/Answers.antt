use Rattle.std.proofs.Common.{option_map}
use Rattle.serde_json.specs.View.{view}
use Rattle.call_values.proofs.Steps.{step_if_ok}
use Rattle.call_values.proofs.step.step_json.Goals as goal

pub returns-clause-whole : goal.returns-clause-whole
returns-clause-whole c = step_if_ok c.delivering_json.result c.args.step.now (option_map view c.args.sent) c.delivering_json.ensures
