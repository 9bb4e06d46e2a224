use Rattle.std.proofs.Common.{◌≡◌, ◌∙◌, ℕ, ◌∷◌, true, false, refl, sym, ap, subst}
use Rattle.std.specs.Prelude.{IfOk}
use Rattle.machines.specs.Numbers.{is_within}
use Rattle.lease_table.specs.Tables.{Standing}
use Rattle.slicelet.specs.States.{SliceletState}
use Rattle.job_calls.specs.declared.reply.ClusterReply.{ClusterReply}
use Rattle.cluster.specs.Pasts.{event, standing, history}
use Rattle.cluster.specs.continued.Clusters.{LeadsTo}
use Rattle.reasons.specs.declared.question.Question.{Question}
use Rattle.reasons.specs.declared.places.TaskPlaces.{TaskPlaces}
use Rattle.reasons.specs.Placed.{places_of}
use Rattle.reasons.specs.Questions.{task_asked, task_of}
use Rattle.reasons.specs.Reasons.{by_table, IsReasonOrNone}
use Rattle.reasons.specs.internals.Answers.{IsAnswer, IsKeyed, IsTableRefusal}
use Rattle.reasons.proofs.Answering.{is_still, of_task_still, same_history, same_standing, by_table_error, foreign, own, not_own}
use Rattle.reasons.proofs.reasons.reason_of.Goals as goal
use Rattle.reasons.proofs.reasons.reason_of.Goals.{in_default-2-via-in-Some+in_default, in_default-2-via-in_default}

pub returns-in-Some : goal.returns-in-Some
returns-in-Some c = λ job past placed made leads are asks.
    let r = c.args.reply.now in
    let e = c.in-Some.error in
    let s = history (task_of made) past in
    let places = places_of (task_of made) placed in
    let result = c.table_reason.result in
    let told = by_table_error r e c.in-Some.ensures in
    let answered = (c.run_law.ensures.run job (event made r ∷ past) leads).0 in
    let still : is_still r ≡ true = subst (λ (x : ClusterReply). is_still x ≡ true) (sym told) refl in
    let table = c.table.ensures job (event made r ∷ past) leads ∙ same_standing job past made r answered still job.policy in
    let refusal = c.answer_law.ensures.table job past made e (subst (λ (x : ClusterReply). LeadsTo job (event made x ∷ past) c.args.cluster.now) told leads) in
    let before = subst (λ (t : Standing). IsTableRefusal t made e) (sym table) refusal in
    let is = c.table_reason.ensures made s places asks before in
    let now = subst (λ (t : Standing). IfOk result (IsReasonOrNone t s places made (by_table e))) table is in
    subst (λ (x : ClusterReply). IfOk result (IsReasonOrNone (standing job.policy past) s places made x)) (sym told) now

pub returns-in-Some-Some : goal.returns-in-Some-Some
returns-in-Some-Some c = λ job past placed made leads are asks.
    let r = c.args.reply.now in
    let s = history (task_of made) past in
    let places = places_of (task_of made) placed in
    let result = c.task_reason.result in
    let asked : c.task-task.result ≡ task_of made = c.task-task.ensures ∙ ap (λ (q : Question). task_asked q) asks in
    let answered = (c.run_law.ensures.run job (event made r ∷ past) leads).0 in
    let still : is_still r ≡ true = of_task_still r (sym c.if-not-is_of_task.ensures) in
    let found = own (is_within c.task-task.result job.tasks) c.in-Some-Some.slicelet.now (history c.task-task.result (event made r ∷ past))
    (c.in-Some-Some.ensures job (event made r ∷ past) leads) in
    let found_places = own (is_within c.task-task.result job.tasks) c.in-Some-Some.places.now (places_of c.task-task.result placed) (c.in-Some-Some.ensures' job.tasks placed are) in
    let slicelet : c.in-Some-Some.slicelet.now ≡ s =
    found.1 ∙ (same_history job past made r answered still c.task-task.result ∙ ap (λ (n : ℕ). history n past) asked) in
    let of_task : c.in-Some-Some.places.now ≡ places = found_places.1 ∙ ap (λ (n : ℕ). places_of n placed) asked in
    let table = c.table-in-Some-Some.ensures job (event made r ∷ past) leads ∙ same_standing job past made r answered still job.policy in
    let within = subst (λ (n : ℕ). is_within n job.tasks ≡ true) asked found.0 in
    let keyed = subst (λ (q : Question). IsKeyed q) asks c.key_law.ensures in
    let answer = c.answer_law.ensures.task job past made r leads within keyed in
    let before = subst (λ (x : SliceletState). IsAnswer x made r) (sym slicelet) answer in
    let is = c.task_reason.ensures made asks before (sym c.in_default.ensures) in
    let by_table = subst (λ (t : Standing). IsReasonOrNone t c.in-Some-Some.slicelet.now c.in-Some-Some.places.now made r result) table is in
    let by_slicelet = subst (λ (x : SliceletState). IsReasonOrNone (standing job.policy past) x c.in-Some-Some.places.now made r result) slicelet by_table in
    subst (λ (x : TaskPlaces). IsReasonOrNone (standing job.policy past) s x made r result) of_task by_slicelet

pub returns-in_default-2 : goal.returns-in_default-2
returns-in_default-2 c = λ job past placed made leads are asks.
    let r = c.args.reply.now in
    let asked : c.task-task.result ≡ task_of made = c.task-task.ensures ∙ ap (λ (q : Question). task_asked q) asks in
    let answered = (c.run_law.ensures.run job (event made r ∷ past) leads).0 in
    let out : is_within c.task-task.result job.tasks ≡ false = elim c.in_default-2.branch [
      | in_default-2-via-in-Some+in_default w ↦ not_own (is_within c.task-task.result job.tasks) (places_of c.task-task.result placed) (w.in_default-2.ensures' job.tasks placed are)
      | in_default-2-via-in_default w ↦
          not_own (is_within c.task-task.result job.tasks) (history c.task-task.result (event made r ∷ past)) (w.in_default-2.ensures job (event made r ∷ past) leads)
    ] in
    foreign job past made r answered (subst (λ (n : ℕ). is_within n job.tasks ≡ false) asked out) c.in_default.ensures
