use Rattle.std.proofs.Common.{◌∙◌, sym, ap}
use Rattle.grants.specs.Assignments.{generation_of}
use Rattle.reasons.proofs.Nobody.{nobody_owns}
use Rattle.reasons.proofs.rule.key_owners.Goals as goal

pub returns-in-None : goal.returns-in-None
returns-in-None c =
    let t = c.args.table.now in
    record { generation = ap generation_of c.in-None.ensures; tasks = c.new.ensures ∙ sym (nobody_owns c.args.key t.committed c.in-None.ensures) }
