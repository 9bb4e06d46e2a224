use Rattle.std.proofs.Common.{◌≡◌, ◌∷◌, sym, subst}
use Rattle.std.specs.Prelude.{Option, OnOk}
use Rattle.job_calls.specs.declared.call.ClusterCall.{ClusterCall}
use Rattle.cluster.specs.Clusters.{LeadsTo}
use Rattle.cluster.specs.Pasts.{event}
use Rattle.cluster.specs.continued.Jobs.{from_start}
use Rattle.log_line.specs.declared.line.LoggedCall.{LoggedCall}
use Rattle.log_line.specs.declared.line.LoggedCall.TheVariants.{HearBare, LearnBare}
use Rattle.log_run.specs.Calls.{call_after, whole_grant}
use Rattle.log_run.proofs.Unknown.{unknown_grant}
use Rattle.grants.specs.declared.slicelet_call.SliceletCall.TheVariants.{Hear}
use Rattle.log_trace.specs.internals.Making.{IsHeardBy}
use Rattle.log_trace.specs.internals.Watching.{IsServingKept}
use Rattle.log_trace.proofs.Keeping.{learn_more, refused_more, same_kept}
use Rattle.log_trace.proofs.Made.{unknown_refused}
use Rattle.log_trace.proofs.serving.ServingKept.observe_line.Goals as goal

pub returns-in-Whole : goal.returns-in-Whole
returns-in-Whole c job key past leads few numbered heard kept =
    let answer = c.args.answer.now in
    let led = subst (λ (l : LoggedCall). LeadsTo job (event (call_after past l) answer ∷ past) c.args.cluster.now) c.in-Whole.is leads in
    subst (λ (l : LoggedCall). OnOk c.observe.result (IsServingKept job key (event (call_after past l) answer ∷ past) c.observe.new.self)) (sym c.in-Whole.is)
    (c.observe.ensures job key past led few numbered kept)

pub returns-in-Some : goal.returns-in-Some
returns-in-Some c job key past leads few numbered heard kept =
    let answer = c.args.answer.now in
    let call = HearBare c.in-HearBare.task c.in-HearBare.grant c.in-HearBare.at in
    let is : c.in-Some.heard ≡ call_after past call = subst (λ (o : Option ClusterCall). IsHeardBy (from_start job) past call o) c.in-Some.is
    (subst (λ (l : LoggedCall). IsHeardBy (from_start job) past l c.args.heard.now) c.in-HearBare.is heard) in
    let led = subst (λ (l : LoggedCall). LeadsTo job (event (call_after past l) answer ∷ past) c.args.cluster.now) c.in-HearBare.is leads in
    let same = subst (λ (w : ClusterCall). LeadsTo job (event w answer ∷ past) c.args.cluster.now) (sym is) led in
    subst (λ (l : LoggedCall). OnOk c.observe-in-Some.result (IsServingKept job key (event (call_after past l) answer ∷ past) c.observe-in-Some.new.self)) (sym c.in-HearBare.is)
    (subst (λ (w : ClusterCall). OnOk c.observe-in-Some.result (IsServingKept job key (event w answer ∷ past) c.observe-in-Some.new.self)) is
    (c.observe-in-Some.ensures job key past same few numbered kept))

pub returns-in-None : goal.returns-in-None
returns-in-None c job key past leads few numbered heard kept =
    let task = c.in-HearBare.task in
    let grant = c.in-HearBare.grant in
    let at = c.in-HearBare.at in
    let answer = c.args.answer.now in
    let led = subst (λ (l : LoggedCall). LeadsTo job (event (call_after past l) answer ∷ past) c.args.cluster.now) c.in-HearBare.is leads in
    let run = c.run_law.ensures.run (from_start job) (event (call_after past (HearBare task grant at)) answer ∷ past) led in
    let none = subst (λ (o : Option ClusterCall). IsHeardBy (from_start job) past (HearBare task grant at) o) c.in-None.is
    (subst (λ (l : LoggedCall). IsHeardBy (from_start job) past l c.args.heard.now) c.in-HearBare.is heard) in
    let unknown = unknown_grant (from_start job) past task at grant run.1 c.numbers_law.ensures.place c.numbers_law.ensures.found none in
    let refused = unknown_refused (from_start job) past task at grant answer unknown run.0 in
    subst (λ (l : LoggedCall). IsServingKept job key (event (call_after past l) answer ∷ past) c.args.self.now) (sym c.in-HearBare.is)
    (same_kept job key past (event (call_after past (HearBare task grant at)) answer ∷ past) c.args.self.now
    (refused_more past task (Hear (whole_grant past grant) at) answer refused) kept)

pub returns-in-LearnBare : goal.returns-in-LearnBare
returns-in-LearnBare c job key past leads few numbered heard kept =
    let clerk = c.in-LearnBare.clerk in
    let generation = c.in-LearnBare.generation in
    let answer = c.args.answer.now in
    subst (λ (l : LoggedCall). IsServingKept job key (event (call_after past l) answer ∷ past) c.args.self.now) (sym c.in-LearnBare.is)
    (same_kept job key past (event (call_after past (LearnBare clerk generation)) answer ∷ past) c.args.self.now (learn_more past clerk generation answer) kept)
