use Rattle.log_run.specs.Drifts.{past_begun, samples_of}
use Rattle.log_run.proofs.drift.TaskClocks.take.Goals as goal

pub returns : goal.returns
returns c = λ drift entries known.
    let begun = c.in_ok-begin.ensures drift (λ by. samples_of by entries) known in
    let sampled = c.sample.ensures drift (λ by. past_begun by c.begins.result (samples_of by entries)) begun in
    rw (← c.begins.ensures, ← c.sample_in.ensures) sampled
