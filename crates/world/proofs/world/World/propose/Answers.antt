use Rattle.std.proofs.Common.{◌≡◌, ℕ, ◌<◌, List, length, refl, sym, ◌∙◌, ap, subst}
use Rattle.std.specs.Prelude.{Option, Result, Ok}
use Rattle.assignment.specs.declared.error.AssignmentError.{AssignmentError}
use Rattle.assignment.specs.Slices.{Slicing, refusal_of}
use Rattle.assignment.specs.Owners.{built}
use Rattle.grants.specs.declared.table_call.TableCall.TheVariants as asked
use Rattle.grants.specs.JobTerms.{last_number}
use Rattle.assigner.specs.Terms.{Keeping}
use Rattle.job_calls.specs.declared.call.ClusterCall.{ClusterCall}
use Rattle.job_calls.specs.declared.call.ClusterCall.TheVariants as call
use Rattle.replies.specs.declared.reply.Refusal.{Refusal}
use Rattle.world.specs.declared.step.Step.TheVariants as step
use Rattle.world.specs.Front.{kept_number}
use Rattle.world.specs.Calls.{if_built, calls_in}
use Rattle.world.proofs.Asking.{fits, actor_call, asked_on}
use Rattle.world.proofs.AssignerTerms.{own_assigner}
use Rattle.world.proofs.Answering.{no_refusal}
use Rattle.world.proofs.world.World.propose.Goals as goal

pub returns-in-Ok : goal.returns-in-Ok
returns-in-Ok c = λ job past k like.
    let s = step.Propose c.args.assigner c.args.generation c.args.slices.now c.args.at in
    let slicing : Slicing = built c.args.generation c.args.slices.now in
    let made = call.Table (asked.Propose c.number-number.result c.in-Ok.assignment c.args.at) in
    let within = subst (λ (xs : List Keeping). c.in_ok-place.place < length xs) c.as_slice.ensures.value c.in_ok-place.ensures.1 in
    let own = own_assigner job past c.args.self.now.assigners.items c.args.assigner c.in_ok-place.place c.index.result.now k.assigners c.in_ok-place.ensures.0 within c.index.ensures in
    let number : c.number-number.result ≡ kept_number c.args.assigner past = c.number-number.ensures ∙ ap (λ (a : Keeping). last_number a.term) own.keeps in
    let one : ℕ → Slicing → Result ClusterCall Refusal = λ n a. Ok (call.Table (asked.Propose n a c.args.at)) in
    let is = actor_call c.args.assigner job.assigners _ own.inside
    ∙ (ap (λ (o : Option AssignmentError). if_built o (call.Table (asked.Propose (kept_number c.args.assigner past) slicing c.args.at))) c.in-Ok.ensures.accepted
    ∙ (ap (λ (n : ℕ). one n slicing) (sym number) ∙ ap (λ (a : Slicing). one c.number-number.result a) (sym c.in-Ok.ensures.built))) in
    asked_on job past s made c.args.self.now _ k is (record { job = refl; draft = refl; shares = refl; book = refl }) (fits s made (λ t. refl) (λ r. refl) (λ r. refl)) c.ask.ensures.run c.args.asked.now like c.ask.result (c.ask.ensures.asked job (calls_in job past) k.cluster) refl (λ n before. refl)

pub unproposed-requires : goal.unproposed-requires
unproposed-requires c = no_refusal (refusal_of c.args.slices.now) (rw c.in-Err-NoMemory.field-0-is at c.in-Err-NoMemory.ensures.refused)

pub returns-in-Err-NoMemory : goal.returns-in-Err-NoMemory
returns-in-Err-NoMemory c = λ job past k like.
    let s = step.Propose c.args.assigner c.args.generation c.args.slices.now c.args.at in
    let slicing : Slicing = built c.args.generation c.args.slices.now in
    let made = call.Table (asked.Propose c.number-number.result slicing c.args.at) in
    let within = subst (λ (xs : List Keeping). c.in_ok-place.place < length xs) c.as_slice.ensures.value c.in_ok-place.ensures.1 in
    let own = own_assigner job past c.args.self.now.assigners.items c.args.assigner c.in_ok-place.place c.index.result.now k.assigners c.in_ok-place.ensures.0 within c.index.ensures in
    let number : c.number-number.result ≡ kept_number c.args.assigner past = c.number-number.ensures ∙ ap (λ (a : Keeping). last_number a.term) own.keeps in
    let fault = rw c.in-Err-NoMemory.field-0-is at c.in-Err-NoMemory.ensures.refused in
    let none = no_refusal (refusal_of c.args.slices.now) fault in
    let one : ℕ → Result ClusterCall Refusal = λ n. Ok (call.Table (asked.Propose n slicing c.args.at)) in
    let is = actor_call c.args.assigner job.assigners _ own.inside
    ∙ (ap (λ (o : Option AssignmentError). if_built o (call.Table (asked.Propose (kept_number c.args.assigner past) slicing c.args.at))) none ∙ ap one (sym number)) in
    asked_on job past s made c.args.self.now _ k is (record { job = refl; draft = refl; shares = refl; book = refl }) (fits s made (λ t. refl) (λ r. refl) (λ r. refl)) c.unproposed.ensures.run c.args.asked.now like c.unproposed.result
    (c.unproposed.ensures.asked job (calls_in job past) c.args.asked.now k.cluster) refl (λ n before. refl)
