use Rattle.std.proofs.Common.{[]}
use Rattle.serde_json.specs.View.{members_view}
use Rattle.trace_ends.specs.Ends.{end_data, ended}
use Rattle.trace_ends.proofs.Whole.{ended_whole, written}
use Rattle.trace_ends.proofs.end.script_end.Goals as goal

pub returns : goal.returns
returns c = written c.named_line.result (λ text. text.items) end_data (members_view c.in_ok-members.members.entries) (ended [] c.args.calls c.args.untimely.now)
    c.in_ok-members.ensures (ended_whole [] c.args.calls c.args.untimely.now) c.named_line.ensures
