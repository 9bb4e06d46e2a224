-- The passes of a task's threads, lane by lane.
use Rattle.std.proofs.Common.{◌≡◌, ◌∙◌, ℕ, suc, ◌+◌, ◌<◌, ◌≤◌, ◌==◌, Bool, List, [], ◌∷◌, ◌++◌, length, true, false, refl, sym, ap, arith, subst, length-append}
use Rattle.std.proofs.lemmas.Bool.Decides.{nat_tests}
use Rattle.std.specs.Prelude.{All, vec_len, Result, IfOk, slice_index_or, ◌||◌}
use Rattle.std.specs.declared.alloc.AllocError.{AllocError}
use Rattle.std.proofs.lemmas.List.Elements.{All-cons, All-push}
use Rattle.lease_table.specs.Tables.{Standing}
use Rattle.history_lock.specs.Passes.{Lock, PassView, IsPassOf, ArePassesOf, new_pass}
use Rattle.history_lock.specs.Closing.{has_lane}
use Rattle.history_lock.specs.Histories.{IsLegal}
use Rattle.slicelet.specs.Steps.{event_step}
use Rattle.slicelet.specs.States.{SliceletState, opening}
use Rattle.shared_objects.specs.Objects.{SharedObject}
use Rattle.tickets.specs.Tickets.{TicketView, TicketPassView, DrawsFrom, new_ticket_pass}
use Rattle.live_run.specs.declared.live_task.EndedTask.{EndedTask}
use Rattle.live_run.specs.declared.live_task.Gathered.{Gathered}
use Rattle.machines.specs.declared.event.Event.{Event}
use Rattle.grants.specs.declared.slicelet_call.SliceletCall.{SliceletCall}
use Rattle.live_run.specs.Reports.{asked_keys, serves, task_keys, worker_keys}
use Rattle.live_run.proofs.Asked.{asked-append, asked_by_worker, asked_nothing, workers_push}
use Rattle.live_run.specs.declared.worker.Member.{Member}
use Rattle.live_run.specs.declared.worker.Worked.{Worked}
use Rattle.live_run.specs.internals.LiveTasks.{AreOfLanesFrom, AreMembersFrom, AreNumberedFrom, IsMember, IsGathered, HasLeft, HasWorked, HaveWorkedFrom}

module _ {M E : Type 0} where
  pub lanes_push : (lane : ℕ) (passes : List (PassView M E)) (pass : PassView M E) → AreOfLanesFrom lane passes → pass.lane ≡ lane + length passes → AreOfLanesFrom lane (passes ++ pass ∷ [])
  lanes_push lane [] pass are is = (let e : pass.lane ≡ lane + 0 = is in omega (arith, e), tt)
  lanes_push lane (other ∷ passes) pass are is = (are.0, lanes_push (lane + 1) passes pass are.1 (let e : pass.lane ≡ lane + length (other ∷ passes) = is in omega (arith, e)))

  pub passes_push : (lock : Lock M) (passes : List (PassView M E)) (pass : PassView M E) → ArePassesOf lock passes → IsPassOf lock pass → ArePassesOf lock (passes ++ pass ∷ [])
  passes_push lock [] pass are is = (is, tt)
  passes_push lock (other ∷ passes) pass are is = (are.0, passes_push lock passes pass are.1 is)

pub numbers_push : (number : ℕ) (members : List Member) (member : Member) → AreNumberedFrom number members → member.number ≡ number + length members → AreNumberedFrom number (members ++ member ∷ [])
numbers_push number [] member are is = (let e : member.number ≡ number + 0 = is in omega (arith, e), tt)
numbers_push number (other ∷ members) member are is = (are.0, numbers_push (number + 1) members member are.1 (let e : member.number ≡ number + length (other ∷ members) = is in omega (arith, e)))

either_true : (b c : Bool) → (b ≡ false → c ≡ true) → (b || c) ≡ true
either_true true c f = refl
either_true false c f = f refl

-- there is a pass of each of the lanes
pub lanes_have : {M E : Type 0} (lane n : ℕ) (passes : List (PassView M E)) → AreOfLanesFrom lane passes → lane ≤ n → n < lane + length passes → has_lane n passes ≡ true
lanes_have lane n [] are low high = let h : n < lane + 0 = high in absurd (omega (arith, low, h))
lanes_have lane n (pass ∷ passes) are low high =
    either_true (pass.lane == n) (has_lane n passes) (λ off.
    let o : (pass.lane == n) ≡ false = off in
    let here : pass.lane ≡ lane = are.0 in
    let l : lane ≤ n = low in
    let h : n < lane + length (pass ∷ passes) = high in
    lanes_have (lane + 1) n passes are.1 (grind (arith, nat_tests)) (omega (arith, h)))

-- so none is missing
pub never_missing : {M E : Type 0} (lanes : ℕ) (passes : List (PassView M E)) → AreOfLanesFrom 0 passes → length passes ≡ lanes
    → (lane : ℕ) × (lane < lanes) × (has_lane lane passes ≡ false) → false ≡ true
never_missing lanes passes are many missing =
    let below : missing.0 < lanes = missing.1 in
    let here : has_lane missing.0 passes ≡ true = lanes_have 0 missing.0 passes are (omega arith) (omega (arith, below, many)) in sym missing.2 ∙ here

-- the same, of passes that are counted
pub none_missing : {M E : Type 0} (count lanes : ℕ) (passes : List (PassView M E)) → AreOfLanesFrom 0 passes → count ≡ length passes → count ≡ lanes
    → (lane : ℕ) × (lane < lanes) × (has_lane lane passes ≡ false) → ⊥
none_missing count lanes passes are counted many missing =
    absurd (let f : false ≡ true = never_missing lanes passes are (sym counted ∙ many) missing in cc)

module _ (slicelet : SharedObject SliceletState) (ticket : TicketView) where
  -- each of the threads of a task has passes of its lock and new ones of the ticket
  pub members_all : (lane : ℕ) (members : List Member) → AreMembersFrom slicelet ticket lane members → All (λ (m : Member). IsPassOf slicelet.lock m.pass × (m.draws ≡ new_ticket_pass ticket)) members
  members_all lane [] are = λ k d below. let b : k < 0 = below in absurd (omega (arith, b))
  members_all lane (member ∷ members) are =
      let Is : Member → Type 0 = λ m. IsPassOf slicelet.lock m.pass × (m.draws ≡ new_ticket_pass ticket) in
      let one : Is member = (are.0.own, are.0.draws) in All-cons Is member members one (members_all (lane + 1) members are.1)

  pub members_push : (lane : ℕ) (members : List Member) (member : Member) → AreMembersFrom slicelet ticket lane members → IsMember slicelet ticket (lane + length members) member
      → AreMembersFrom slicelet ticket lane (members ++ member ∷ [])
  members_push lane [] member are is = (subst (λ n. IsMember slicelet ticket n member) (let e : lane + length {A = Member} [] ≡ lane = omega arith in e) is, tt)
  members_push lane (other ∷ members) member are is =
      (are.0, members_push (lane + 1) members member are.1 (subst (λ n. IsMember slicelet ticket n member) (let e : lane + length (other ∷ members) ≡ lane + 1 + length members = omega arith in e) is))

  -- what workers of lanes that follow one another leave
  pub worked_from : (asks lane : ℕ) (members : List Member) (results : List (Result Worked AllocError)) → length results ≡ length members → AreMembersFrom slicelet ticket lane members
      → ((i : ℕ) (m : Member) (r : Result Worked AllocError) → i < length members → IfOk (slice_index_or results i r) (λ worked. HasWorked slicelet ticket asks (slice_index_or members i m).pass.lane worked))
      → HaveWorkedFrom slicelet ticket asks lane results
  worked_from asks lane [] [] len are each = tt
  worked_from asks lane [] (r ∷ rs) len are each = let l : length (r ∷ rs) ≡ 0 = len in absurd (omega (arith, l))
  worked_from asks lane (m ∷ ms) [] len are each = let l : 0 ≡ length (m ∷ ms) = len in absurd (omega (arith, l))
  worked_from asks lane (m ∷ ms) (r ∷ rs) len are each = (
    subst (λ n. IfOk r (λ worked. HasWorked slicelet ticket asks n worked)) are.0.of_lane (each 0 m r (omega arith)),
    worked_from asks (lane + 1) ms rs (let l : length (r ∷ rs) ≡ length (m ∷ ms) = len in omega (arith, l)) are.1 (λ i d e below. each (suc i) d e (let b : i < length ms = below in omega (arith, b))),
  )

  -- a thread with new passes
  pub new_member : (lane n : ℕ) (member : Member) → lane ≡ n → member.pass ≡ new_pass slicelet.lock lane → member.draws ≡ new_ticket_pass ticket → IsMember slicelet ticket n member
  new_member lane n member same pass draws = record {
    own = rw pass (refl, refl);
    of_lane = ap (λ p. p.lane) pass ∙ same;
    draws = draws;
  }

  -- the task's own thread, which asks for no key
  pub gathered_first : (asks : ℕ) (gathered : Gathered) (pass : PassView SliceletState (Event SliceletCall)) (draw : TicketPassView) → IsPassOf slicelet.lock pass → pass.lane ≡ 0 → DrawsFrom ticket draw
      → serves gathered.records.items ≡ 0 → gathered.passes.items ≡ pass ∷ [] → gathered.draws.items ≡ draw ∷ [] → IsGathered slicelet ticket asks gathered
  gathered_first asks gathered pass draw own lane drawn quiet passes draws =
      let one : vec_len gathered.passes ≡ 1 = gathered.passes.ok.0 ∙ ap length passes in
      let Draws : TicketPassView → Type 0 = λ pass. DrawsFrom ticket pass in record {
        own = subst (λ ps. ArePassesOf slicelet.lock ps) (sym passes) (own, tt);
        lanes = subst (λ ps. AreOfLanesFrom 0 ps) (sym passes) (lane, tt);
        draws = subst (λ ps. All Draws ps) (sym draws) (All-cons Draws draw [] drawn (λ k d below. let b : k < 0 = below in absurd (omega (arith, b))));
        even = gathered.draws.ok.0 ∙ (ap length draws ∙ sym one);
        asked = (0, omega (arith, one), asked_nothing gathered.records.items quiet);
      }

  -- one worker more
  pub gathered_more : (asks : ℕ) (before after : Gathered) (worked : Worked) → IsGathered slicelet ticket asks before → HasWorked slicelet ticket asks (vec_len before.passes) worked
      → after.passes.items ≡ before.passes.items ++ worked.pass ∷ [] → after.draws.items ≡ before.draws.items ++ worked.draws ∷ [] → after.records.items ≡ before.records.items ++ worked.records.items
      → IsGathered slicelet ticket asks after
  gathered_more asks before after worked g w passes draws records =
      let more : vec_len after.passes ≡ vec_len before.passes + 1 = omega (arith, after.passes.ok.0, before.passes.ok.0, ap length passes, length-append before.passes.items (worked.pass ∷ [])) in
      let drew : vec_len after.draws ≡ vec_len before.draws + 1 = omega (arith, after.draws.ok.0, before.draws.ok.0, ap length draws, length-append before.draws.items (worked.draws ∷ [])) in
      let at : worked.pass.lane ≡ 0 + length before.passes.items = omega (arith, w.of_lane, before.passes.ok.0) in
      let task = slicelet.number in let workers = g.asked.0 in
      let own = asked_by_worker task 0 worked.records.items w.asked ∙ ap (λ n. worker_keys task 0 n) (sym worked.records.ok.0 ∙ w.many) in
      let both = ap asked_keys records ∙ (asked-append before.records.items worked.records.items ∙ (ap (λ ks. ks ++ asked_keys worked.records.items) g.asked.2 ∙ ap (λ ks. task_keys task asks workers ++ ks) own)) in
      let Draws : TicketPassView → Type 0 = λ pass. DrawsFrom ticket pass in record {
        own = subst (λ ps. ArePassesOf slicelet.lock ps) (sym passes) (passes_push slicelet.lock before.passes.items worked.pass g.own w.own);
        lanes = subst (λ ps. AreOfLanesFrom 0 ps) (sym passes) (lanes_push 0 before.passes.items worked.pass g.lanes at);
        draws = subst (λ ps. All Draws ps) (sym draws) (All-push Draws before.draws.items worked.draws g.draws w.draws);
        even = omega (arith, more, drew, g.even);
        asked = (suc workers, omega (arith, more, g.asked.1), both ∙ sym (workers_push task asks workers));
      }

  -- what all threads of a task leave
  pub has_left : (table : SharedObject Standing) (workers asks task : ℕ) (left : EndedTask) (gathered : Gathered) → IsGathered slicelet ticket asks gathered → vec_len gathered.passes ≡ workers + 1
      → slicelet.number ≡ task → IsLegal event_step (opening task) left.history → IsPassOf table.lock left.table → left.table.lane ≡ task + 1 → left.draws ≡ gathered.draws → left.records ≡ gathered.records
      → HasLeft table ticket workers asks task left
  has_left table workers asks task left gathered g many of_task played own at draws records =
      let Draws : TicketPassView → Type 0 = λ pass. DrawsFrom ticket pass in
      let same : g.asked.0 ≡ workers = omega (arith, g.asked.1, many) in record {
        played = played;
        table_pass = own;
        of_lane = at;
        draws = subst (λ ds. All Draws ds) (sym (ap (λ d. d.items) draws)) g.draws;
        many = ap (λ d. vec_len d) draws ∙ (g.even ∙ many);
        asked = ap (λ r. asked_keys r.items) records ∙ (g.asked.2 ∙ (ap (λ n. task_keys slicelet.number asks n) same ∙ ap (λ n. task_keys n asks workers) of_task));
      }
