use Rattle.std.proofs.Common.{◌≡◌, ℕ, List, [], refl, sym, ◌∙◌, ap, subst}
use Rattle.std.specs.Prelude.{Option, Some, Ok, Err}
use Rattle.machines.specs.Answers.{Takes}
use Rattle.machines.specs.Refusals.{first_of}
use Rattle.assignment.specs.Slices.{Slicing}
use Rattle.load_ledger.specs.Shares.{Share}
use Rattle.load_ledger.specs.Books.{book_with, gather_checks, gather_step}
use Rattle.replies.specs.declared.reply.Refusal.TheVariants as refusal
use Rattle.replies.specs.declared.reply.Reply.TheVariants as reply
use Rattle.world.specs.declared.step.Step.TheVariants as step
use Rattle.world.specs.Front.{draft_of, share_of, shares_in, gathers_in}
use Rattle.world.specs.Replies.{book_in, totals_in, gather_reply}
use Rattle.world.specs.Jobs.{Job}
use Rattle.world.specs.Pasts.{event}
use Rattle.replies.specs.declared.reply.Reply.{Reply}
use Rattle.world.specs.Runs.{IsReply}
use Rattle.cluster.specs.Clusters.{AreActors}
use Rattle.world.proofs.Answering.{answer_is, answers, troubled, unmade}
use Rattle.world.proofs.Keeping.{kept_same}
use Rattle.world.proofs.TaskShares.{all_shares}
use Rattle.world.proofs.world.World.gather.Goals as goal

pub returns-in_default-room_for_gather : goal.returns-in_default-room_for_gather
returns-in_default-room_for_gather c = λ job past k.
    let shares = all_shares past job.tasks c.args.self.now.shares.items k.shares in
    let draft : draft_of past ≡ Some c.in-Some.draft = sym k.draft ∙ c.in-Some.is in
    let checks = ap (λ (xs : List Share). first_of (gather_checks xs c.args.self.now.book)) shares ∙ ap (λ (b : List ℕ). first_of (gather_checks (shares_in job.tasks past) b)) k.book in
    rw (c.ungathered.ensures, checks)
    (unmade job past step.Gather _ refusal.Load (λ loads. reply.Gathered loads (totals_in job.tasks (book_with (shares_in job.tasks past) (book_in job past)))) (first_of (gather_checks (shares_in job.tasks past) (book_in job past))) _ tt (λ outcome. refl) refl
    (ap (λ (o : Option Slicing). gather_reply o job.tasks (shares_in job.tasks past) (book_in job past)) draft) refl (λ x. refl) k)

pub returns-in-Ok-gather : goal.returns-in-Ok-gather
returns-in-Ok-gather c = λ job past k.
    let shares : c.from_vec-shares.result ≡ shares_in job.tasks past = c.from_vec-shares.ensures ∙ ap (λ v. v.items) c.replace.ensures.value ∙ all_shares past job.tasks c.args.self.now.shares.items k.shares in
    let draft : draft_of past ≡ Some c.in-Some.draft = sym k.draft ∙ c.in-Some.is in
    let name : List ℕ → Reply = λ loads. reply.Gathered loads (totals_in job.tasks (book_with (shares_in job.tasks past) (book_in job past))) in
    let one = subst (λ (xs : List Share). gather_step xs c.in-Some.draft.slices c.args.self.now.book ≡ Ok (c.gather.new.self, c.in-Ok-gather.loads)) shares c.in-Ok-gather.ensures.gathers in
    let done = subst (λ (b : List ℕ). gather_step (shares_in job.tasks past) c.in-Some.draft.slices b ≡ Ok (c.gather.new.self, c.in-Ok-gather.loads)) k.book one in
    let left : c.gather.new.self ≡ book_with (shares_in job.tasks past) (book_in job past) =
    sym (ap (λ (p : List ℕ × List ℕ). p.0) (answer_is (first_of (gather_checks (shares_in job.tasks past) (book_in job past))) _ (c.gather.new.self, c.in-Ok-gather.loads) done)) in
    let totals : c.from_vec.result ≡ totals_in job.tasks (book_with (shares_in job.tasks past) (book_in job past)) =
    c.from_vec.ensures ∙ c.add_totals.ensures ∙ ap (λ (j : Job). totals_in j.tasks c.gather.new.self) k.same_job ∙ ap (λ (b : List ℕ). totals_in job.tasks b) left in
    record {
      run = (
        subst (λ (t : List ℕ). IsReply job past (event step.Gather (reply.Gathered c.in-Ok-gather.loads t))) (sym totals)
            (answers job past step.Gather tt refusal.Load name (gather_step (shares_in job.tasks past) c.in-Some.draft.slices (book_in job past))
            (ap (λ (o : Option Slicing). gather_reply o job.tasks (shares_in job.tasks past) (book_in job past)) draft) (c.gather.new.self, c.in-Ok-gather.loads) done),
        k.run,
      );
      cluster = k.cluster;
      same_job = k.same_job;
      draft = k.draft;
      assigners = k.assigners;
      shares = subst (λ v. AreActors (λ n. let s : Share = record { task = n; records = [] } in s) job.tasks v.items) (sym c.replace.ensures.after)
          (subst (λ (j : Job). AreActors (λ n. let s : Share = record { task = n; records = [] } in s) j.tasks c.in-Ok.fresh.items) k.same_job c.in-Ok.ensures.0);
      book = left ∙ c.totals_law.ensures.next (shares_in job.tasks past) (gathers_in job.tasks past);
    }

pub returns-in-Err : goal.returns-in-Err
returns-in-Err c = λ job past k.
    let shares : c.from_vec-shares.result ≡ shares_in job.tasks past = c.from_vec-shares.ensures ∙ ap (λ v. v.items) c.replace.ensures.value ∙ all_shares past job.tasks c.args.self.now.shares.items k.shares in
    let draft : draft_of past ≡ Some c.in-Some.draft = sym k.draft ∙ c.in-Some.is in
    let back : c.into_vec.result.items ≡ c.args.self.now.shares.items = c.into_vec.ensures ∙ c.in-Err.ensures.handed_back ∙ c.from_vec-shares.ensures ∙ ap (λ v. v.items) c.replace.ensures.value in
    let one = subst (λ (xs : List Share). Takes (gather_step xs c.in-Some.draft.slices c.args.self.now.book) c.args.self.now.book (Err c.in-Err.ungathered.why) c.gather.new.self) shares c.in-Err.ensures.gathers in
    rw c.of_load.ensures
    (troubled job past step.Gather _ refusal.Load (λ loads. reply.Gathered loads (totals_in job.tasks (book_with (shares_in job.tasks past) (book_in job past))))
    (gather_step (shares_in job.tasks past) c.in-Some.draft.slices (book_in job past)) c.args.self.now.book c.gather.new.self c.in-Err.ungathered.why tt (λ outcome. refl) refl
    (ap (λ (o : Option Slicing). gather_reply o job.tasks (shares_in job.tasks past) (book_in job past)) draft) refl (λ x. refl)
    (subst (λ (b : List ℕ). Takes (gather_step (shares_in job.tasks past) c.in-Some.draft.slices b) c.args.self.now.book (Err c.in-Err.ungathered.why) c.gather.new.self) k.book one)
    (λ e. kept_same job past c.args.self.now _ k k.cluster refl refl k.assigners
    (subst (λ (xs : List Share). AreActors (share_of past) job.tasks xs) (sym back) k.shares) e))
