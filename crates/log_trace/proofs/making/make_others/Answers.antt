use Rattle.cluster.specs.continued.Jobs.{job_in}
use Rattle.log_trace.proofs.Made.{others_places, others_reason}
use Rattle.log_trace.proofs.making.make_others.Goals as goal

pub returns : goal.returns
returns c job past placed place places played are =
    let call = c.args.call.now in
    let told = c.in_ok-reply.reply in
    let now = c.in_ok-reply.ensures job past played in
    let others = others_places (job_in job) job.tasks place past now.after placed places call told c.requires now.stands are in
    record {
      after = now.after;
      placed_after = others.placed_after;
      stands = now.stands;
      at = others.at;
      played = now.played;
      places = others.same;
      reason = others_reason job past placed call told c.requires;
    }
