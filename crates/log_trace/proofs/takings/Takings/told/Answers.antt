use Rattle.std.proofs.Common.{◌∙◌, get_or, subst, arith, below_more}
use Rattle.std.specs.Prelude.{⊤, MatchOption}
use Rattle.std.proofs.lemmas.List.{get_or_default}
use Rattle.log_line.specs.declared.entry.LogEntry.{LogEntry}
use Rattle.log_trace.specs.Takings.{IsWatched, told_broken}
use Rattle.log_trace.proofs.Watched.{if_some}
use Rattle.log_trace.proofs.takings.Takings.told.Goals as goal

pub loop-entry-preserved : goal.loop-entry-preserved
loop-entry-preserved c =
    let entries = c.args.entries.now in
    let index = c.loop-entry.entry-index in
    let known = c.loop-entry.invariant in
    let old = c.loop-entry.takings.all.items in
    let new = c.add_told.new.self.all.items in
    record {
      watched = below_more _ _
          (λ k less d. if_some (IsWatched old) (IsWatched new) (told_broken (get_or entries k d)) (λ broken is. c.in_ok-add_told.ensures.kept broken is) (known.watched k less d))
          (λ d. subst (λ (e : LogEntry). MatchOption (told_broken e) ⊤ (IsWatched new))
          (c.entry-item.is ∙ get_or_default entries index c.entry-item.result d c.loop-entry-test.true) c.in_ok-add_told.ensures.told);
      none = c.in_ok-add_told.ensures.none known.none;
    }

pub returns-clause-watched : goal.returns-clause-watched
returns-clause-watched c = λ k d low. c.loop-entry.invariant.watched k (omega (arith, low)) d
