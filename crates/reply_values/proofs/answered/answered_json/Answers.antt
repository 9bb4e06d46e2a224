use Rattle.std.proofs.Common.{option_map}
use Rattle.serde_json.specs.View.{view}
use Rattle.reply_values.proofs.Putting.{answered_if_ok}
use Rattle.reply_values.proofs.answered.answered_json.Goals as goal

pub returns-clause-whole : goal.returns-clause-whole
returns-clause-whole c =
    answered_if_ok c.with_answers.result (view c.args.call) c.args.ticket (option_map view c.args.reply) (option_map view c.args.reason) c.args.warnings c.with_answers.ensures
