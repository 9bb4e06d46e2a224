use Rattle.std.proofs.Common.{◌≡◌}
use Rattle.serde_json.specs.View.{view}
use Rattle.wire.specs.Messages.{message_data}
use Rattle.wire.proofs.Decoding.{all_three, is_message}
use Rattle.wire.proofs.message.encode.Goals as goal

pub returns-clause-reads : goal.returns-clause-reads
returns-clause-reads g c =
    let built : view c.in_ok-message.message ≡ message_data c.args.job.now g.T.Wire.name (view c.in_ok-to_json.field-0) = rw c.name.ensures at c.in_ok-message.ensures in
    all_three c.to_vec.result _ _ _ _
    (λ bytes utf8 reads order. is_message g.T.Wire.data_of c.args.job.now g.T.Wire.name g.T.Wire.form c.args.value.now (view c.in_ok-to_json.field-0) (view c.in_ok-message.message) bytes.items
    c.in_ok-to_json.ensures built utf8 reads order)
    c.to_vec.ensures.utf8 c.to_vec.ensures.reads_back c.to_vec.ensures.order
