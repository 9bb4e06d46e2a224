use Rattle.std.proofs.Common.{◌+◌, List, refl, sym, subst, arith}
use Rattle.std.specs.List.{All}
use Rattle.std.proofs.lemmas.Bool.Decides.{nat_tests}
use Rattle.cluster.specs.continued.Jobs.{job_in}
use Rattle.log_trace.specs.declared.takings.Taking.{Taking}
use Rattle.log_trace.specs.Takings.{AreAllWatched}
use Rattle.log_trace.specs.internals.Taking.{IsTakenBy}
use Rattle.log_trace.proofs.Watched.{each_last, each_more, made_more, none_taken, watched_after}
use Rattle.log_trace.proofs.takings.Takings.of.Goals as goal

pub loop-index-init : goal.loop-index-init
loop-index-init c = λ job begins. record {
  past = job.earlier;
  made = refl;
  played = c.in_ok-machines.ensures job begins;
  each = none_taken job c.args.entries.now _ c.in_ok-takings.ensures.none;
  watched = c.in_ok-takings.ensures.watched;
}

pub loop-index-preserved : goal.loop-index-preserved
loop-index-preserved c = λ job begins.
    let entries = c.args.entries.now in
    let index = c.loop-index.index in
    let entry = c.index-entries-index.result in
    let known = c.loop-index.invariant job begins in
    let told = c.in_ok-_told.ensures job known.past known.played in
    let low = c.loop-index-test.true in
    let here = c.index-entries-index.is in
    let run = c.run_law.ensures job told.after told.played in
    let leads = c.cluster.ensures job told.after told.played in
    record {
      past = told.after;
      made = made_more job entries index entry low here known.past known.made _ told.after told.stands run;
      played = told.played;
      each = subst (λ (ts : List Taking). All (λ t. IsTakenBy job entries (index + 1) t.broken t.first) ts) (sym (c.watch.ensures job told.after leads))
          (each_more job entries index entry low here known.past known.made _ told.after told.stands run c.loop-index.takings.all.items known.each);
      watched = subst (λ (ts : List Taking). AreAllWatched entries ts) (sym (c.watch.ensures job told.after leads))
          (watched_after (job_in job) told.after index entries c.loop-index.takings.all.items known.watched);
    }

pub returns-then-is_empty-clause-takings : goal.returns-then-is_empty-clause-takings
returns-then-is_empty-clause-takings c = λ job begins k d low. absurd (grind (arith, nat_tests))

pub returns-clause-takings : goal.returns-clause-takings
returns-clause-takings c = λ job begins. each_last job c.args.entries.now c.loop-index.index _ (omega arith) (c.loop-index.invariant job begins).each

pub returns-clause-watched : goal.returns-clause-watched
returns-clause-watched c = λ job begins. (c.loop-index.invariant job begins).watched
