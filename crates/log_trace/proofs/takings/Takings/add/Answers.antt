use Rattle.std.proofs.Common.{◌≡◌, List, refl, sym, subst}
use Rattle.std.specs.Prelude.{None}
use Rattle.std.specs.List.{All}
use Rattle.std.proofs.lemmas.List.Elements.{All-push}
use Rattle.log_trace.specs.declared.takings.Taking.{Taking}
use Rattle.log_trace.specs.Takings.{IsWatched}
use Rattle.log_trace.proofs.Watched.{watched_more, watched_push}
use Rattle.log_trace.proofs.takings.Takings.add.Goals as goal

pub returns-clause-added : goal.returns-clause-added
returns-clause-added c =
    subst (λ (ts : List Taking). IsWatched ts c.args.broken) (sym c.in_ok-push.ensures.items)
    (watched_push c.args.self.now.all.items (record { broken = c.args.broken; first = None }))

pub returns-clause-kept : goal.returns-clause-kept
returns-clause-kept c other is =
    subst (λ (ts : List Taking). IsWatched ts other) (sym c.in_ok-push.ensures.items)
    (watched_more c.args.self.now.all.items (record { broken = c.args.broken; first = None }) other is)

pub returns-clause-none : goal.returns-clause-none
returns-clause-none c none =
    subst (λ (ts : List Taking). All (λ t. t.first ≡ None) ts) (sym c.in_ok-push.ensures.items)
    (All-push (λ t. t.first ≡ None) c.args.self.now.all.items (record { broken = c.args.broken; first = None }) none refl)

pub returns-in-Some-clause-added : goal.returns-in-Some-clause-added
returns-in-Some-clause-added c =
    let found = c.in-Some.ensures in
    (found.0.0, c.in-Some._taking, found.0.1, found.0.2, found.1)

pub returns-in-Some-clause-kept : goal.returns-in-Some-clause-kept
returns-in-Some-clause-kept c other is = is

pub returns-in-Some-clause-none : goal.returns-in-Some-clause-none
returns-in-Some-clause-none c none = none
