use Rattle.std.proofs.Common.{◌∙◌, sym, arith}
use Rattle.log_causes.proofs.Breaking.{first_played, kept_more, none_takes, takes_here}
use Rattle.log_causes.proofs.taking.first_taking.Goals as goal

pub loop-index-init : goal.loop-index-init
loop-index-init c = λ job begins. first_played job c.args.entries.now c.args.task c.args.handle.now _ (c.in_ok-machines.ensures job begins)

pub returns-then-is_taken_away : goal.returns-then-is_taken_away
returns-then-is_taken_away c = λ job begins.
    let known = c.loop-index.invariant job begins in
    let answered = c.in_ok-_other.ensures job known.past known.played in
    takes_here c.args.entries.now c.loop-index.index c.index-entries-index.result c.loop-index-test.true c.index-entries-index.is
    job c.args.task c.args.handle.now c.loop-index.machines c.answer.new.machines known _ answered
    (c.run_law.ensures job _ answered.played.played)
    (sym (c.is_taken_away.ensures job _ (c.cluster.ensures job _ answered.played.played)) ∙ c.if-is_taken_away.true)

pub loop-index-preserved : goal.loop-index-preserved
loop-index-preserved c = λ job begins.
    let known = c.loop-index.invariant job begins in
    let answered = c.in_ok-_other.ensures job known.past known.played in
    kept_more c.args.entries.now c.loop-index.index c.index-entries-index.result c.loop-index-test.true c.index-entries-index.is
    job c.args.task c.args.handle.now c.loop-index.machines c.answer.new.machines known _ answered
    (c.run_law.ensures job _ answered.played.played)
    (sym (c.is_taken_away.ensures job _ (c.cluster.ensures job _ answered.played.played)) ∙ c.if-is_taken_away.false)

pub returns : goal.returns
returns c = λ job begins. none_takes job c.args.entries.now c.loop-index.index c.args.task c.args.handle.now c.loop-index.machines (c.loop-index.invariant job begins) (omega arith)
