use Rattle.std.proofs.Common.{◌≡◌, ◌∙◌, ℕ, ◌+◌, List, length, decimal, sym, ap, subst, arith}
use Rattle.slicelet.specs.States.{SliceletState}
use Rattle.slice_ranges.specs.Hash.{slice_key}
use Rattle.job_calls.specs.declared.record.CallRecord.{CallRecord}
use Rattle.job_calls.specs.declared.call.ClusterCall.TheVariants.{Serve}
use Rattle.shared_objects.specs.Objects.{SharedObject}
use Rattle.live_run.specs.Reports.{AreServesFrom}
use Rattle.live_run.proofs.Asked.{serves_push}
use Rattle.live_run.proofs.worker.work.Goals as goal

pub loop-ask-preserved : goal.loop-ask-preserved
loop-ask-preserved g c =
    let i = c.loop-ask.invariant in
    let task = c.args.shared.now.slicelet.now.number in
    let asked = c.ask_for-record.result in
    let many : 0 + length c.loop-ask.records.items ≡ c.loop-ask.ask = omega (arith, c.loop-ask.records.ok.0, i.many) in
    let key : c.in_ok-key.key ≡ slice_key (decimal (0 + length c.loop-ask.records.items)) = c.in_ok-key.ensures ∙ ap (λ (n : ℕ). slice_key (decimal n)) (sym many) in
    let of_task = ap (λ (s : SharedObject SliceletState). Serve s.number c.in_ok-key.key asked.ticket) i.slicelet in
    let step = c.ask_for-record.ensures.asked ∙ (of_task ∙ ap (λ (k : ℕ). Serve task k asked.ticket) key) in record {
      slicelet = ap (λ s. s.now) c.ask_for-record.ensures.slicelet ∙ i.slicelet;
      ticket = ap (λ t. t.now) c.ask_for-record.ensures.ticket ∙ i.ticket;
      terms = c.ask_for-record.ensures.terms ∙ i.terms;
      lane = c.ask_for-record.ensures.lane ∙ i.lane;
      drawn = c.ask_for-record.ensures.drew ∙ ap (λ (n : ℕ). n + 1) i.drawn;
      many = c.in_ok-push.ensures.len ∙ ap (λ (n : ℕ). n + 1) i.many;
      asked = subst (λ (entries : List CallRecord). AreServesFrom task 0 entries) (sym c.in_ok-push.ensures.items) (serves_push task 0 c.loop-ask.records.items asked i.asked step);
    }
