use Rattle.std.proofs.Common.{refl, subst, List, arith}
use Rattle.log_line.specs.declared.entry.LogEntry.{LogEntry}
use Rattle.log_run.specs.Calls.{held_by_asked}
use Rattle.log_causes.specs.Hints.{with_open}
use Rattle.log_causes.proofs.Opening.{all_of}
use Rattle.log_run.proofs.Replaying.{IsPlayedTo, played_more, breaks_here}
use Rattle.cluster.specs.continued.Jobs.{job_in}
use Rattle.log_causes.proofs.hint.is_run_with.Goals as goal

pub loop-index-init : goal.loop-index-init
loop-index-init c = λ job begins. record { past = job.earlier; told = refl; played = c.in_ok-machines.ensures job begins }

pub returns-in-Some : goal.returns-in-Some
returns-in-Some c = λ job begins.
    let all : List LogEntry = with_open c.args.place c.args.line.now c.args.entries.now in
    let known = c.loop-index.invariant job begins in
    let answered = rw c.in-Some.is at (c.in_ok-other.ensures job known.past known.played) in (
      c.loop-index.index,
      c.in-Some._wanted,
      held_by_asked (job_in job) answered.played.after c.entry_with-entry.result.now.line.call,
      breaks_here all c.loop-index.index c.entry_with-entry.result.now c.entry_with-entry.ensures.0 c.entry_with-entry.ensures.1
          job known.past c.answer.new.machines c.in-Some._wanted _ known.told answered (c.run_law.ensures job _ answered.played.played) refl,
    )

pub loop-index-preserved : goal.loop-index-preserved
loop-index-preserved c = λ job begins.
    let all : List LogEntry = with_open c.args.place c.args.line.now c.args.entries.now in
    let known = c.loop-index.invariant job begins in
    let answered = rw c.in_default.is at (c.in_ok-other.ensures job known.past known.played) in
    played_more all c.loop-index.index c.entry_with-entry.result.now c.entry_with-entry.ensures.0 c.entry_with-entry.ensures.1
    job c.loop-index.machines c.answer.new.machines known answered

pub returns : goal.returns
returns c = λ job begins.
    let known = subst (λ (es : List LogEntry). IsPlayedTo job es c.loop-index.machines)
    (all_of c.args.entries.now c.args.place c.args.line.now c.requires c.loop-index.index (omega arith)) (c.loop-index.invariant job begins) in
    record { past = known.past; told = known.told; answered = c.run_law-2.ensures job known.past known.played }
