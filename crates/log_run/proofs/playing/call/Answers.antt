use Rattle.std.proofs.Common.{◌∙◌, ◌∷◌, refl}
use Rattle.cluster.specs.Pasts.{event}
use Rattle.log_run.specs.Calls.{call_after}
use Rattle.log_run.proofs.playing.call.Goals as goal

pub returns : goal.returns
returns c = λ job past known.
    let leads = c.cluster-cluster.ensures job past known in
    record {
      after = event (call_after past c.args.call.now) c.in_ok-reply.reply ∷ past;
      called = record {
        answer = c.in_ok-reply.reply;
        tells = c.told_as.ensures ∙ rw (c.next_note.ensures job past leads, c.next_handle.ensures job past leads) refl;
        made = refl;
      };
      played = c.in_ok-reply.ensures job past known;
    }
