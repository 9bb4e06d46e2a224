use Rattle.std.proofs.Common.{ℕ, Bool, refl, ◌∙◌, sym, ap, subst, arith, List}
use Rattle.std.proofs.lemmas.List.{take_all}
use Rattle.log_line.specs.declared.entry.LogEntry.{LogEntry}
use Rattle.grants.specs.Policies.{Terms}
use Rattle.log_run.specs.Late.{AreWatched}
use Rattle.log_run.specs.Days.{IsSentSo}
use Rattle.log_run.proofs.Leaving.{none_kept, same_policy, sent_in, state_left}
use Rattle.log_run.proofs.Replaying.{IsPlayedTo, one_run, played_more, stops_here, tells}
use Rattle.log_run.proofs.judging.replay.Goals as goal

pub loop-index-init : goal.loop-index-init
loop-index-init g c = λ job begins. record { past = job.earlier; told = refl; played = c.in_ok-machines.ensures job begins }

pub loop-index-preserved : goal.loop-index-preserved
loop-index-preserved g c = λ job begins.
    let known = c.loop-index.invariant job begins in
    let answered = rw c.in_default.is at (c.in_ok-other.ensures job known.past known.played) in
    played_more c.args.entries.now c.loop-index.index c.index-entries-index.result c.loop-index-test.true c.index-entries-index.is
    job c.loop-index.machines c.answer.new.machines known answered

pub returns-in-Some-clause-found : goal.returns-in-Some-clause-found
returns-in-Some-clause-found g c = λ job begins.
    let known = c.loop-index.invariant job begins in
    let answered = rw c.in-Some.is at (c.in_ok-other.ensures job known.past known.played) in
    let after = answered.played.after in
    stops_here c.args.entries.now c.loop-index.index c.index-entries-index.result c.loop-index-test.true c.index-entries-index.is
    job known.past c.answer.new.machines c.in-Some.wanted c.held_by_asked-held.result known.told answered
    (c.run_law.ensures job after answered.played.played) (c.held_by_asked-held.ensures job after (c.cluster.ensures job after answered.played.played))

pub returns-in-Some-clause-kept : goal.returns-in-Some-clause-kept
returns-in-Some-clause-kept g c = none_kept c.args.keeps

pub returns-clause-found : goal.returns-clause-found
returns-clause-found g c = λ job begins.
    let known = subst (λ (es : List LogEntry). IsPlayedTo job es c.loop-index.machines)
    (take_all c.loop-index.index c.args.entries.now c.loop-index-test.false) (c.loop-index.invariant job begins) in
    let skew = c.skew.ensures ∙ ap (λ (p : Terms). p.skew) (c.policy.ensures ∙ same_policy job c.args.start.now.job c.args.start.now.earlier begins) in
    let watched = subst (λ (n : ℕ). AreWatched n c.table_reading.result c.args.entries.now c.late_reading-late.result) skew c.late_reading-late.ensures in
    one_run job c.args.entries.now c.loop-index.machines _ c.late_reading-late.result known (c.run_law-2.ensures job known.past known.played) (omega arith)
    (subst (λ (n : ℕ). AreWatched job.policy.skew n c.args.entries.now c.late_reading-late.result) (c.table_reading.ensures job begins) watched)

pub returns-clause-state : goal.returns-clause-state
returns-clause-state g c = λ job begins.
    let known = subst (λ (es : List LogEntry). IsPlayedTo job es c.loop-index.machines)
    (take_all c.loop-index.index c.args.entries.now c.loop-index-test.false) (c.loop-index.invariant job begins) in
    state_left job c.args.entries.now c.loop-index.machines known (c.run_law-2.ensures job known.past known.played) c.in_ok-state.state
    (c.in_ok-state.ensures.state job known.past known.played)

pub returns-clause-sent : goal.returns-clause-sent
returns-clause-sent g c = λ job begins.
    let known = subst (λ (es : List LogEntry). IsPlayedTo job es c.loop-index.machines)
    (take_all c.loop-index.index c.args.entries.now c.loop-index-test.false) (c.loop-index.invariant job begins) in
    let skew = c.skew.ensures ∙ ap (λ (p : Terms). p.skew) (c.policy.ensures ∙ same_policy job c.args.start.now.job c.args.start.now.earlier begins) in
    let watched = subst (λ (n : ℕ). AreWatched n c.table_reading.result c.args.entries.now c.late_reading-late.result) skew c.late_reading-late.ensures in
    let from = subst (λ (n : ℕ). AreWatched job.policy.skew n c.args.entries.now c.late_reading-late.result) (c.table_reading.ensures job begins) watched in
    sent_in c.all_sent-all_sent.result job c.args.entries.now known.past c.late_reading-late.result known.told
    (c.run_law-2.ensures job known.past known.played)
    (subst (λ (is : Bool). IsSentSo is job known.past) (sym c.all_sent-all_sent.ensures) known.played.sent)
    (tells job c.args.entries.now known.past c.late_reading-late.result known.told from)
