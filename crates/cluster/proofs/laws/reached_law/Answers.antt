use Rattle.std.proofs.Common.{arith}
use Rattle.cluster.specs.continued.Jobs.{from_start}
use Rattle.cluster.specs.Pasts.{table_calls, task_calls}
use Rattle.cluster.specs.Replies.{covers}
use Rattle.cluster.proofs.TableRuns.{table_run}
use Rattle.cluster.proofs.TaskAcceptance.{accepted_calls}
use Rattle.cluster.proofs.Sending.{held_sent}
use Rattle.cluster.proofs.LiveLeases.{reached}
use Rattle.cluster.proofs.Owning.{last_near, frees_sent_notes}
use Rattle.cluster.proofs.laws.reached_law.Goals as goal

pub returns : goal.returns
returns c = λ started past task key at kind generation within run timely allowed.
    let job = from_start started in
    let calls = table_calls past in
    let h = task_calls task past in
    let table = table_run job past run in
    let lease = c.covering_lease_law.ensures.allowed (covers past key) h at kind generation allowed in
    let sent = held_sent job task past kind lease.grant run lease.is_held in
    let low = reached job.policy.skew calls task h at kind lease.grant (frees_sent_notes job past task run)
    (c.held_law.ensures task h (accepted_calls job past task run)) sent
    (c.leases_law.ensures.skew job.policy calls lease.grant within table sent)
    (λ out. c.rows_law.ensures.generation job.policy calls lease.grant table out)
    (last_near past job.policy.skew at timely.0) lease.is_held lease.live in
    let told = lease.told in
    omega (arith, low, told)
