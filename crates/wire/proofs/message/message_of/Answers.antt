use Rattle.std.proofs.Common.{◌≡◌, Ok, rules}
use Rattle.serde_json.specs.View.{view}
use Rattle.wire.specs.Messages.{IsOurs, content, content_of}
use Rattle.wire.proofs.Decoding.{where_memory_ran_out}
use Rattle.wire.proofs.message.message_of.Goals as goal

pub returns-clause-memory : goal.returns-clause-memory
returns-clause-memory g c =
    let held = content c.in_ok-content.content.job.now c.in_ok-content.content.numerals (view c.in_ok-content.content.value.now) in
    let holds : content_of g.T.Wire.name (view c.args.message.now) ≡ Ok held = rw c.name.ensures at c.in_ok-content.ensures in
    where_memory_ran_out (IsOurs c.args.job.now g.T.Wire.name (view c.args.message.now)) c.of_json.result (record { content = held; holds = holds; ours = search rules })
