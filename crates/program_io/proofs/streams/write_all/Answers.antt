use Rattle.std.proofs.Common.{◌≤◌, arith, length, drop, length-drop}
use Rattle.program_io.proofs.Written.{goes_further, rest_of}
use Rattle.program_io.proofs.streams.write_all.Goals as goal

pub writes-preserved : goal.writes-preserved
writes-preserved g c =
    let bound : c.in-Ok.n ≤ length (drop c.writes.at c.args.text.now) = rw (← rest_of c.args.text.now c.writes.at) c.in-Ok.ensures.bound in
    let next = rw (rest_of c.args.text.now c.writes.at) at c.in-Ok.ensures.bytes in
    record {
      within = omega (arith, bound, length-drop c.writes.at c.args.text.now);
      wrote = goes_further (g.W.Write.contents c.args.writer.now) (g.W.Write.contents c.writes.writer) (g.W.Write.contents c.write.new.self) c.args.text.now c.writes.at c.in-Ok.n c.writes.invariant.wrote next;
    }
