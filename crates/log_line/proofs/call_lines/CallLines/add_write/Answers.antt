use Rattle.std.proofs.Common.{refl}
use Rattle.std.specs.Prelude.{None}
use Rattle.log_line.proofs.Saying.{written_after}
use Rattle.log_line.proofs.LineTaking.{calls_are, calls_so_far}
use Rattle.log_line.proofs.call_lines.CallLines.add_write.Goals as goal

pub returns : goal.returns
returns c = λ lines known none says.
    let so_far = calls_so_far lines c.args.self.now None none refl known in
    calls_are _ (record { entries = c.args.self.now.entries; writes = c.push.new.self; torn = c.args.self.now.torn; bad = c.args.self.now.bad }) none
    (rw c.in_ok-push.ensures.items (written_after lines c.args.self.now.entries.items c.args.self.now.writes.items c.args.self.now.torn.items _ _ so_far (record { same_place = refl; says = says })))
