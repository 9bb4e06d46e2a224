use Rattle.std.proofs.Common.{refl}
use Rattle.std.specs.Prelude.{None}
use Rattle.log_line.proofs.Saying.{torn_after}
use Rattle.log_line.proofs.LineTaking.{calls_are, calls_so_far}
use Rattle.log_line.proofs.call_lines.CallLines.add_other.Goals as goal

pub returns-in_ok-push : goal.returns-in_ok-push
returns-in_ok-push c = λ lines known none says.
    let so_far = calls_so_far lines c.args.self.now None none refl known in
    calls_are _ (record { entries = c.args.self.now.entries; writes = c.args.self.now.writes; torn = c.push.new.self; bad = c.args.self.now.bad }) none
    (rw c.in_ok-push.ensures.items (torn_after lines c.args.self.now.entries.items c.args.self.now.writes.items c.args.self.now.torn.items _ so_far
    (record { unended = c.if-line.false; why = c.args.why; says = says })))
