use Rattle.std.proofs.Common.{◌≡◌, false, rules}
use Rattle.std.specs.Prelude.{codes}
use Rattle.serde_json.specs.View.{members_view}
use Rattle.serde_json.specs.Written.{members_have_float}
use Rattle.trace_ends.specs.Faults.{named_data, told_members}
use Rattle.trace_ends.proofs.Whole.{told_whole, written_if}
use Rattle.trace_ends.proofs.fault.fault_line.Goals as goal

pub returns : goal.returns
returns c = written_if c.named_line.result (λ text. text.items) (named_data (codes "fault")) (members_view c.put_told.new.map.entries)
    (told_members c.args.told.now (members_view c.args.members.entries)) (members_have_float (members_view c.args.members.entries) ≡ false)
    (search rules) (told_whole c.args.told.now (members_view c.args.members.entries)) c.named_line.ensures
