use Rattle.std.proofs.Common.{◌∷◌, refl}
use Rattle.cluster.specs.Pasts.{event}
use Rattle.cluster.specs.continued.Jobs.{from_start}
use Rattle.log_run.specs.Calls.{call_after, told_after}
use Rattle.log_trace.proofs.Made.{single_stands}
use Rattle.log_trace.proofs.serving.ServingKept.keep_one.Goals as goal

pub returns : goal.returns
returns c job key past played few kept =
    let call = c.args.call.now in
    let made = call_after past call in
    let answer = c.in_ok-answer.answer in
    let leads = c.cluster-cluster.ensures (from_start job) past played in
    let now = c.in_ok-answer.ensures (from_start job) past played in
    let led = c.cluster-after.ensures (from_start job) (event made answer ∷ past) now in
    record {
      told = told_after past call answer;
      after = event made answer ∷ past;
      stands = single_stands job past (event made answer ∷ past) call (told_after past call answer) c.requires (record { answer = answer; tells = refl; made = refl });
      played = now;
      kept = c.in_ok-observe_line.ensures job key past led few (c.next_handle-number.ensures (from_start job) past leads)
          (c.in_ok-heard.ensures (from_start job) past leads) kept;
    }
