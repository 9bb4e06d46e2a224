use Rattle.serde_json.specs.View.{members_view}
use Rattle.trace_ends.specs.Ends.{end_data, other_members}
use Rattle.trace_ends.proofs.Whole.{other_whole, written}
use Rattle.trace_ends.proofs.end.other_end.Goals as goal

pub returns : goal.returns
returns c = written c.named_line.result (λ text. text.items) end_data (members_view c.in_ok-members.members.entries)
    (other_members c.args.lines.now c.args.calls c.args.hints.now) c.in_ok-members.ensures (other_whole c.args.lines.now c.args.calls c.args.hints.now) c.named_line.ensures
