use Rattle.std.proofs.Common.{◌≡◌, ◌∷◌, sym, subst}
use Rattle.std.specs.Prelude.{Option, OnOk}
use Rattle.job_calls.specs.declared.call.ClusterCall.{ClusterCall}
use Rattle.cluster.specs.Pasts.{event}
use Rattle.cluster.specs.continued.Clusters.{LeadsTo}
use Rattle.reasons.specs.Placed.{ArePlaces}
use Rattle.log_line.specs.declared.line.LoggedCall.{LoggedCall}
use Rattle.log_line.specs.declared.line.LoggedCall.TheVariants.{HearBare}
use Rattle.log_run.specs.Calls.{call_after}
use Rattle.log_run.proofs.Unknown.{unknown_grant}
use Rattle.log_trace.specs.Calls.{placed_at}
use Rattle.log_trace.specs.internals.Making.{IsHeardBy}
use Rattle.log_trace.proofs.Made.{unknown_refused}
use Rattle.log_trace.proofs.Unmoved.{refused_places}
use Rattle.log_trace.proofs.placing.add_call.Goals as goal

pub returns-in-Whole : goal.returns-in-Whole
returns-in-Whole c job past placed leads heard places =
    subst (λ (l : LoggedCall). OnOk c.add.result (ArePlaces job.tasks (placed_at c.args.place (event (call_after past l) c.args.answer.now) ∷ placed) c.add.new.self))
    (sym c.in-Whole.is) (c.add.ensures.ok job.tasks placed places)

pub returns-in-Some : goal.returns-in-Some
returns-in-Some c job past placed leads heard places =
    let is : c.in-Some.heard ≡ call_after past (HearBare c.in-HearBare.task c.in-HearBare.grant c.in-HearBare.at) =
    subst (λ (o : Option ClusterCall). IsHeardBy job past (HearBare c.in-HearBare.task c.in-HearBare.grant c.in-HearBare.at) o) c.in-Some.is
    (subst (λ (l : LoggedCall). IsHeardBy job past l c.args.heard.now) c.in-HearBare.is heard) in
    subst (λ (l : LoggedCall). OnOk c.add-in-Some.result (ArePlaces job.tasks (placed_at c.args.place (event (call_after past l) c.args.answer.now) ∷ placed) c.add-in-Some.new.self))
    (sym c.in-HearBare.is)
    (subst (λ (w : ClusterCall). OnOk c.add-in-Some.result (ArePlaces job.tasks (placed_at c.args.place (event w c.args.answer.now) ∷ placed) c.add-in-Some.new.self)) is
    (c.add-in-Some.ensures.ok job.tasks placed places))

pub returns-in-None : goal.returns-in-None
returns-in-None c job past placed leads heard places =
    let task = c.in-HearBare.task in
    let grant = c.in-HearBare.grant in
    let at = c.in-HearBare.at in
    let answer = c.args.answer.now in
    let led = subst (λ (l : LoggedCall). LeadsTo job (event (call_after past l) answer ∷ past) c.args.cluster.now) c.in-HearBare.is leads in
    let run = c.run_law.ensures.run job (event (call_after past (HearBare task grant at)) answer ∷ past) led in
    let none = subst (λ (o : Option ClusterCall). IsHeardBy job past (HearBare task grant at) o) c.in-None.is
    (subst (λ (l : LoggedCall). IsHeardBy job past l c.args.heard.now) c.in-HearBare.is heard) in
    let unknown = unknown_grant job past task at grant run.1 c.numbers_law.ensures.place c.numbers_law.ensures.found none in
    subst (λ (l : LoggedCall). ArePlaces job.tasks (placed_at c.args.place (event (call_after past l) answer) ∷ placed) c.args.places.now) (sym c.in-HearBare.is)
    (refused_places job.tasks c.args.place (event (call_after past (HearBare task grant at)) answer) placed c.args.places.now
    (unknown_refused job past task at grant answer unknown run.0) places)
