use Rattle.cluster.specs.continued.Jobs.{from_start}
use Rattle.log_trace.proofs.Keeping.{others_more, same_kept}
use Rattle.log_trace.proofs.serving.ServingKept.keep_others.Goals as goal

pub returns : goal.returns
returns c job key past played kept =
    let now = c.in_ok-_told.ensures (from_start job) past played in
    record {
      told = c.in_ok-_told._told;
      after = now.after;
      stands = now.stands;
      played = now.played;
      kept = same_kept job key past now.after c.args.self.now (others_more job past now.after c.args.call.now c.in_ok-_told._told c.requires now.stands) kept;
    }
