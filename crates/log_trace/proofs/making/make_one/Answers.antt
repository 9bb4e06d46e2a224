use Rattle.std.proofs.Common.{◌≡◌, ◌∙◌, [], ◌∷◌, refl}
use Rattle.cluster.specs.Pasts.{event}
use Rattle.cluster.specs.continued.Jobs.{job_in}
use Rattle.log_run.specs.Calls.{call_after, told_after}
use Rattle.log_trace.specs.Calls.{placed_at}
use Rattle.log_trace.proofs.Made.{single_reason, single_stands}
use Rattle.log_trace.proofs.making.make_one.Goals as goal

pub returns : goal.returns
returns c job past placed played places =
    let call = c.args.call.now in
    let made = call_after past call in
    let answer = c.in_ok-answer.answer in
    let leads = c.cluster-cluster.ensures job past played in
    let now = c.in_ok-answer.ensures job past played in
    let led = c.cluster-after.ensures job (event made answer ∷ past) now in
    let told : c.told_as.result ≡ told_after past call answer =
    c.told_as.ensures ∙ rw (c.next_note.ensures job past leads, c.next_handle.ensures job past leads) refl in
    record {
      after = event made answer ∷ past;
      placed_after = placed_at c.args.place (event made answer) ∷ placed;
      stands = single_stands (job_in job) past (event made answer ∷ past) call c.told_as.result c.requires (record { answer = answer; tells = told; made = refl });
      at = record { made = event made answer ∷ []; calls = refl; places = refl };
      played = now;
      places = c.in_ok-add_call.ensures job past placed led (c.in_ok-heard.ensures job past leads) places;
      reason = single_reason job past placed call c.told_as.result c.in_ok-reason.reason c.requires
          (record { answer = answer; tells = told; decides = c.in_ok-reason.ensures job past placed made led places (c.question_of.ensures past) });
    }
