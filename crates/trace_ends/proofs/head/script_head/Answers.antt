use Rattle.std.proofs.Common.{option_map}
use Rattle.serde_json.specs.Data.{object}
use Rattle.serde_json.specs.View.{members_view}
use Rattle.trace_ends.specs.Heads.{script_members}
use Rattle.trace_ends.proofs.Whole.{script_whole, written}
use Rattle.trace_ends.proofs.head.script_head.Goals as goal

pub returns : goal.returns
returns c = written c.object_line.result (λ text. text.items) object (members_view c.in_ok-members.members.entries)
    (script_members c.args.job c.args.slice_key (option_map (λ k. k.now) c.args.key)) c.in_ok-members.ensures (script_whole c.args.job c.args.slice_key (option_map (λ k. k.now) c.args.key)) c.object_line.ensures
