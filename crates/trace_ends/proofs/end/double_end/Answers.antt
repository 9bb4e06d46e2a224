use Rattle.serde_json.specs.View.{members_view}
use Rattle.trace_ends.specs.Ends.{end_data, double_members}
use Rattle.trace_ends.proofs.Whole.{doubled_whole, written}
use Rattle.trace_ends.proofs.end.double_end.Goals as goal

pub returns : goal.returns
returns c = written c.named_line.result (λ text. text.items) end_data (members_view c.in_ok-members.members.entries)
    (double_members c.args.lines.now c.args.calls c.args.double) c.in_ok-members.ensures (doubled_whole c.args.lines.now c.args.calls c.args.double) c.named_line.ensures
