use Rattle.std.proofs.Common.{arith}
use Rattle.cluster.proofs.tasks.begin_anew.Goals as goal

pub insert_reserved-requires-2 : goal.insert_reserved-requires-2
insert_reserved-requires-2 c = omega (arith, c.in_ok-reserve-2.ensures.ok, c.insert_reserved.ensures.spare)
