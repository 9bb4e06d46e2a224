-- A call that asks a task.
use Rattle.std.proofs.Common.{◌≡◌, ℕ, ◌+◌, ◌<◌, Bool, true, false, List, [], ◌∷◌, ◌++◌, length, refl, sym, ◌∙◌, ap, subst}
use Rattle.std.specs.Prelude.{Option, Result, Ok, Err, get_or, reverse, ◌||◌, ◌↔◌}
use Rattle.std.specs.List.{list_any}
use Rattle.indexmap.specs.IndexSet.{contains}
use Rattle.machines.specs.Numbers.{is_within}
use Rattle.lease_rule.specs.declared.answer.Ground.{Ground}
use Rattle.lease_rule.specs.declared.answer.Verdict.{Verdict}
use Rattle.assignment.specs.Slices.{Slicing}
use Rattle.key_handle.specs.declared.handle.KeyHandle.{KeyHandle}
use Rattle.grants.specs.declared.slicelet_error.Stranger.{Stranger}
use Rattle.slicelet.specs.States.{SliceletState, rule_in_state}
use Rattle.slicelet.specs.Accepted.{StandsAfter}
use Rattle.slicelet.specs.Rules.{covers_key, rule_after}
use Rattle.slicelet.specs.Laws.{AgreeOnHeard}
use Rattle.slicelet.specs.Continuity.{handle_on, held_by, is_strange, IsChecked, IsContinuous}
use Rattle.cluster.specs.continued.Jobs.{Continued, Counts}
use Rattle.job_calls.specs.declared.error.ClusterError.TheVariants as error
use Rattle.job_calls.specs.declared.call.ClusterCall.TheVariants as call
use Rattle.job_calls.specs.declared.reply.ClusterReply.{ClusterReply}
use Rattle.job_calls.specs.declared.reply.ClusterReply.TheVariants as reply
use Rattle.cluster.specs.declared.cluster.Cluster.{Cluster}
use Rattle.cluster.specs.Pasts.{event, Past, task_calls, history, newest_learnt}
use Rattle.cluster.specs.Made.{same_handle}
use Rattle.cluster.specs.continued.Deliveries.{knows_handle}
use Rattle.cluster.specs.Answers.{covers, rule_in, hold_reply, familiar, check_reply}
use Rattle.cluster.specs.continued.Replies.{reply_to}
use Rattle.cluster.specs.TakingMemory.{gives_handle}
use Rattle.cluster.specs.continued.Memory.{MayRunOut}
use Rattle.cluster.specs.continued.Runs.{IsReply}
use Rattle.cluster.specs.ActorLists.{AreActors}
use Rattle.cluster.specs.continued.Clusters.{LeadsTo}
use Rattle.cluster.proofs.Knowing.{same_handle_turned}
use Rattle.cluster.proofs.Keeping.{after_same, since_same, since_front, steady_same, steady_next, note_known}
use Rattle.cluster.proofs.Playing.{IsSame, IsSameBesideHandles, kept_same}
use Rattle.cluster.proofs.Turning.{reversed_more}
use Rattle.cluster.proofs.ActorLists.{of_job, actor_at}
use Rattle.cluster.proofs.TaskAcceptance.{accepted_calls}
use Rattle.cluster.proofs.TaskTurns.{by_own}

-- the slicelet at a place is that of its task, which is of the job
pub record OwnTask (job : Continued) (past : Past) (task : ℕ) (s : SliceletState) : Type 0 where
  pub inside : is_within task job.tasks ≡ true
  pub is : s ≡ history task past
  pub stands : StandsAfter (task_calls task past) s

pub own_task : (job : Continued) (past : Past) (task place : ℕ) (cluster : Cluster) (s : SliceletState) → LeadsTo job past cluster → place + 1 ≡ task
    → place < length cluster.tasks.items → s ≡ get_or cluster.tasks.items place s → OwnTask job past task s
unfolding LeadsTo
own_task job past task place cluster s k number within found =
    let is : s ≡ history task past = actor_at (λ n. history n past) (λ n. history n past) job.tasks cluster.tasks.items k.tasks place within s found ∙ ap (λ (n : ℕ). history n past) number in
    let stands : StandsAfter (task_calls task past) (history task past) = record { state = refl; accepted = accepted_calls job past task k.run } in
    record {
      inside = of_job (λ n. history n past) job.tasks cluster.tasks.items k.tasks place task number within;
      is = is;
      stands = subst (λ (x : SliceletState). StandsAfter (task_calls task past) x) (sym is) stands;
    }

-- the rule of a slicelet is that of the owners
module _ (job : Continued) (past : Past) (task key at : ℕ) (s : SliceletState) (own : OwnTask job past task s) (same : AgreeOnHeard (covers_key key) (covers past key) (task_calls task past))
    (law : AgreeOnHeard (covers_key key) (covers past key) (task_calls task past)
    → rule_after (covers_key key) (task_calls task past) at ≡ rule_after (covers past key) (task_calls task past) at) where
  rule_is : rule_in_state (covers_key key) s at ≡ rule_in past task key at
  rule_is = ap (λ (x : SliceletState). rule_in_state (covers_key key) x at) own.is ∙ law same

  pub serve_reply : (verdict : Verdict) → verdict ≡ rule_in_state (covers_key key) s at → IsReply job past (event (call.Serve task key at) (reply.Verdict verdict))
  serve_reply verdict e =
      (true, tt, ap (λ (v : Verdict). reply.Verdict v) (e ∙ rule_is) ∙ sym (by_own task job.tasks (reply.Verdict (rule_in past task key at)) own.inside))

  pub hold_answer : (answer : Result KeyHandle Ground) → answer ≡ held_by (rule_in_state (covers_key key) s at) (handle_on key s)
      → (kept : Bool) → reply_to job past (call.Hold task key at) kept ≡ hold_reply answer
  hold_answer answer e kept =
      by_own task job.tasks _ own.inside
      ∙ sym (ap hold_reply e ∙ ap (λ (v : Verdict). hold_reply (held_by v (handle_on key s))) rule_is ∙ ap (λ (x : SliceletState). hold_reply (held_by (rule_in past task key at) (handle_on key x))) own.is)

-- a check of a handle
module _ (job : Continued) (past : Past) (task at : ℕ) (handle : KeyHandle) (s : SliceletState) (own : OwnTask job past task s) (given : knows_handle job.forgotten past handle ≡ true) (kept : Result Bool Stranger)
    (found : IsChecked s.task (task_calls task past) handle at kept) where
  found_by_task : IsChecked task (task_calls task past) handle at kept
  found_by_task = subst (λ (n : ℕ). IsChecked n (task_calls task past) handle at kept) (ap (λ (x : SliceletState). x.task) own.is) found

  check_is : (strange outcome : Bool) → is_strange (history task past) handle ≡ strange → reply_to job past (call.Check task handle at) outcome ≡ familiar strange outcome
  check_is strange outcome e =
      by_own task job.tasks _ own.inside ∙ ap (λ (b : Bool). check_reply b (is_strange (history task past) handle) outcome) given ∙ ap (λ (b : Bool). familiar b outcome) e

  pub kept_reply : kept ≡ Ok true → (IsContinuous (covers_key handle.key) (task_calls task past) handle at ↔ IsContinuous (covers past handle.key) (task_calls task past) handle at)
      → IsReply job past (event (call.Check task handle at) reply.Continuous)
  kept_reply is tied =
      let h : IsChecked task (task_calls task past) handle at (Ok true) = subst (λ (r : Result Bool Stranger). IsChecked task (task_calls task past) handle at r) is found_by_task in
      (true, λ within made known. (λ yes. tied.0 h.1, λ continuous. refl), sym (check_is false true h.0))

  pub broken_reply : kept ≡ Ok false → (IsContinuous (covers_key handle.key) (task_calls task past) handle at ↔ IsContinuous (covers past handle.key) (task_calls task past) handle at)
      → IsReply job past (event (call.Check task handle at) reply.Broken)
  broken_reply is tied =
      let h : IsChecked task (task_calls task past) handle at (Ok false) = subst (λ (r : Result Bool Stranger). IsChecked task (task_calls task past) handle at r) is found_by_task in
      (false, λ within made known. (λ yes. absurd (let f : false ≡ true = yes in cc), λ continuous. absurd (h.1 (tied.1 continuous))), sym (check_is false false h.0))

  pub stranger_reply : (why : Stranger) → kept ≡ Err why → IsReply job past (event (call.Check task handle at) (reply.Refused error.Stranger))
  stranger_reply why is =
      let h : IsChecked task (task_calls task past) handle at (Err why) = subst (λ (r : Result Bool Stranger). IsChecked task (task_calls task past) handle at r) is found_by_task in
      (false, λ within made known. absurd (let f : true ≡ false = sym h ∙ known in cc), sym (check_is true false h))

given_more : (handle other : KeyHandle) (before after : Bool) → before ≡ after → (same_handle handle other || before) ≡ (list_any (same_handle other) (handle ∷ []) || after)
given_more handle other before after e = ap (λ (b : Bool). same_handle handle other || b) e ∙ by_test (same_handle handle other) (same_handle other handle) (same_handle_turned handle other)
  where
    by_test : (a b : Bool) → a ≡ b → (a || after) ≡ ((b || false) || after)
    by_test true true same = refl
    by_test false false same = refl
    by_test true false same = absurd (cc)
    by_test false true same = absurd (cc)

-- a handle that is taken is one more
pub held_leads : (job : Continued) (past : Past) (task key at : ℕ) (handle : KeyHandle) (old new : Cluster) → LeadsTo job past old
    → new.handles.items ≡ old.handles.items ++ handle ∷ [] → IsSameBesideHandles old new
    → ((other : KeyHandle) → contains same_handle new.known_handles other ≡ (same_handle handle other || contains same_handle old.known_handles other)) → reply.Holding handle ≡ reply_to job past (call.Hold task key at) true
    → LeadsTo job (event (call.Hold task key at) (reply.Holding handle) ∷ past) new
unfolding LeadsTo
held_leads job past task key at handle old new k more same known is = record {
  run = ((true, tt, is), k.run);
  within = k.within;
  same_job = same.job ∙ k.same_job;
  table = same.table ∙ k.table;
  tasks = subst (λ (xs : List SliceletState). AreActors (λ n. history n past) job.tasks xs) (sym same.tasks) k.tasks;
  clerks = subst (λ (xs : List (Option Slicing)). AreActors (λ n. newest_learnt n past) job.clerks xs) (sym same.clerks) k.clerks;
  grants = after_same _ _ _ _ _ (ap (λ (c : Counts). c.grants) same.earlier) same.grants k.grants;
  notes = since_same _ _ _ _ _ (ap (λ (c : Counts). c.notes) same.earlier) same.notes k.notes;
  handles = since_same _ _ _ _ _ (ap (λ (c : Counts). c.handles) same.earlier)
      (ap (λ (xs : List KeyHandle). reverse xs) more ∙ reversed_more old.handles.items handle) (since_front _ _ _ (handle ∷ []) k.handles);
  proposals = after_same _ _ _ _ _ (ap (λ (c : Counts). c.proposals) same.earlier) same.proposals k.proposals;
  earlier_notes = ap (λ (c : Counts). c.notes) same.earlier ∙ k.earlier_notes;
  earlier_handles = ap (λ (c : Counts). c.handles) same.earlier ∙ k.earlier_handles;
  known_notes = λ note.
      same.known_notes note ∙ k.known_notes note ∙ sym (note_known job past old.earlier k.steady (call.Hold task key at) (reply.Holding handle) note refl);
  known_handles = λ other.
      known other ∙ given_more handle other (contains same_handle old.known_handles other) (knows_handle job.forgotten past other) (k.known_handles other)
      ∙ sym (k.steady.handles [] (event (call.Hold task key at) (reply.Holding handle)) other);
  steady = steady_same job (event (call.Hold task key at) (reply.Holding handle) ∷ past) old.earlier
      (steady_next job past old.earlier k.steady (event (call.Hold task key at) (reply.Holding handle))) new.earlier same.earlier;
}

-- where there is no memory for it, nothing changed
pub hold_out_of_memory : (job : Continued) (past : Past) (task key at : ℕ) (handle : KeyHandle) (old new : Cluster) → LeadsTo job past old → IsSame old new
    → ((kept : Bool) → reply_to job past (call.Hold task key at) kept ≡ reply.Holding handle)
    → LeadsTo job past new × MayRunOut job past (call.Hold task key at)
unfolding LeadsTo
hold_out_of_memory job past task key at handle old new k same is =
    (kept_same job past old new k same, (refl, λ kept. ap (λ (r : ClusterReply). gives_handle r) (is kept)))
