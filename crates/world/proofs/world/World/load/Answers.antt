use Rattle.std.proofs.Common.{◌≡◌, ℕ, ◌<◌, List, length, refl, sym, ap, subst}
use Rattle.std.specs.Prelude.{Ok, Err}
use Rattle.machines.specs.Answers.{Takes}
use Rattle.machines.specs.Refusals.{first_of}
use Rattle.slice_ranges.specs.Hash.{slice_key}
use Rattle.load_ledger.specs.Shares.{Share, add_checks, add_step, with_record}
use Rattle.replies.specs.declared.reply.Refusal.TheVariants as refusal
use Rattle.replies.specs.declared.reply.Reply.TheVariants as reply
use Rattle.world.specs.declared.step.Step.TheVariants as step
use Rattle.world.specs.Front.{share_of}
use Rattle.world.proofs.Answering.{answer_is, by_own, answers, troubled}
use Rattle.world.proofs.Keeping.{kept_same}
use Rattle.world.proofs.TaskShares.{own_share}
use Rattle.world.proofs.world.World.load.Goals as goal

pub returns-in-Ok : goal.returns-in-Ok
returns-in-Ok c = λ job past k.
    let own = own_share job past c.args.self.now.shares.items c.args.task c.in_ok-place.place c.index_mut.result.now k.shares c.in_ok-place.ensures.0
    (subst (λ (xs : List Share). c.in_ok-place.place < length xs) c.as_slice.ensures.value c.in_ok-place.ensures.1) c.index_mut.ensures.value in
    let keyed : add_step (slice_key c.args.key.now) c.args.weight c.index_mut.result.now ≡ Ok (c.add.new.self, c.in-Ok.total) =
    subst (λ (n : ℕ). add_step n c.args.weight c.index_mut.result.now ≡ Ok (c.add.new.self, c.in-Ok.total)) c.slice_key.ensures c.in-Ok.ensures in
    let done = subst (λ (s : Share). add_step (slice_key c.args.key.now) c.args.weight s ≡ Ok (c.add.new.self, c.in-Ok.total)) own.keeps keyed in
    let left : c.add.new.self ≡ with_record (slice_key c.args.key.now) c.args.weight c.index_mut.result.now =
    sym (ap (λ (p : Share × ℕ). p.0) (answer_is (first_of (add_checks c.args.weight c.index_mut.result.now)) _ (c.add.new.self, c.in-Ok.total) keyed)) in
    record {
      run = (
        answers job past (step.Load c.args.task c.args.key.now c.args.weight) tt refusal.Load reply.Recorded (add_step (slice_key c.args.key.now) c.args.weight (share_of past c.args.task))
            (by_own c.args.task job.tasks _ own.inside) (c.add.new.self, c.in-Ok.total) done,
        k.run,
      );
      cluster = k.cluster;
      same_job = k.same_job;
      draft = k.draft;
      assigners = k.assigners;
      shares = own.recorded c.add.new.self (slice_key c.args.key.now) c.args.weight left;
      book = k.book;
    }

pub returns-in-Err : goal.returns-in-Err
returns-in-Err c = λ job past k.
    let own = own_share job past c.args.self.now.shares.items c.args.task c.in_ok-place.place c.index_mut.result.now k.shares c.in_ok-place.ensures.0
    (subst (λ (xs : List Share). c.in_ok-place.place < length xs) c.as_slice.ensures.value c.in_ok-place.ensures.1) c.index_mut.ensures.value in
    let keyed = subst (λ (n : ℕ). Takes (add_step n c.args.weight c.index_mut.result.now) c.index_mut.result.now (Err c.in-Err.error) c.add.new.self) c.slice_key.ensures c.in-Err.ensures in
    rw c.of_load.ensures
    (troubled job past (step.Load c.args.task c.args.key.now c.args.weight) _ refusal.Load reply.Recorded (add_step (slice_key c.args.key.now) c.args.weight (share_of past c.args.task))
    c.index_mut.result.now c.add.new.self c.in-Err.error tt (λ outcome. refl) refl (by_own c.args.task job.tasks _ own.inside) refl (λ x. refl)
    (subst (λ (s : Share). Takes (add_step (slice_key c.args.key.now) c.args.weight s) c.index_mut.result.now (Err c.in-Err.error) c.add.new.self) own.keeps keyed)
    (λ e. kept_same job past c.args.self.now _ k k.cluster refl refl k.assigners (own.same c.add.new.self e) refl))
