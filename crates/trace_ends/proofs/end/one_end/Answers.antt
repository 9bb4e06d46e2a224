use Rattle.serde_json.specs.View.{members_view}
use Rattle.trace_ends.specs.Ends.{end_data, one_members}
use Rattle.trace_ends.proofs.Whole.{one_whole, written}
use Rattle.trace_ends.proofs.end.one_end.Goals as goal

pub returns : goal.returns
returns c = written c.named_line.result (λ text. text.items) end_data (members_view c.in_ok-members.members.entries)
    (one_members c.args.lines.now c.args.calls c.args.run.now) c.in_ok-members.ensures (one_whole c.args.lines.now c.args.calls c.args.run.now) c.named_line.ensures
