use Rattle.std.proofs.Common.{map, option_map}
use Rattle.serde_json.specs.Data.{object}
use Rattle.serde_json.specs.View.{members_view}
use Rattle.trace_ends.specs.Heads.{logs_members}
use Rattle.trace_ends.proofs.Whole.{logs_whole, written}
use Rattle.trace_ends.proofs.head.logs_head.Goals as goal

pub returns : goal.returns
returns c = written c.object_line.result (λ text. text.items) object (members_view c.in_ok-members.members.entries)
    (logs_members c.args.job (map (λ n. n.now) c.args.names.now) c.args.torn.now c.args.slice_key (option_map (λ k. k.now) c.args.key)) c.in_ok-members.ensures
    (logs_whole c.args.job (map (λ n. n.now) c.args.names.now) c.args.torn.now c.args.slice_key (option_map (λ k. k.now) c.args.key)) c.object_line.ensures
