-- What a `plan` is answered.
use Rattle.std.proofs.Common.{◌≡◌, ℕ, Bool, List, true, false, ◌&&◌, refl, sym, ◌∙◌, ap, subst, inl, inr}
use Rattle.std.specs.Prelude.{Option, Some, None, Err, nat_le}
use Rattle.std.proofs.lemmas.Bool.{and_parts}
use Rattle.assignment.specs.declared.slice.TheConstants.{MOST_OWNERS}
use Rattle.grants.specs.Policies.{Terms, is_policy}
use Rattle.machines.specs.Numbers.{is_within}
use Rattle.assignment.specs.Slices.{Slicing, refusal_of}
use Rattle.weighted_move.specs.declared.error.PlanError.{PlanError}
use Rattle.weighted_move.specs.declared.slice_plan.Plan.{Plan}
use Rattle.weighted_move.specs.Policies.{PlanTerms, plan_terms_of, is_policy as is_plan_policy}
use Rattle.weighted_move.specs.Plans.{CanPlan, IsPlan, plan_refusal}
use Rattle.world.specs.Jobs.{Job}
use Rattle.weighted_move.specs.Bounds.{Bounds, is_bounds}
use Rattle.world.specs.declared.step.Step.TheVariants as step
use Rattle.replies.specs.declared.reply.Refusal.TheVariants as refusal
use Rattle.replies.specs.declared.reply.Reply.TheVariants as reply
use Rattle.world.specs.Pasts.{event, Past}
use Rattle.world.specs.Front.{draft_of}
use Rattle.world.specs.Replies.{Plain, Planned, plan_in, planned, plan_reply}
use Rattle.world.specs.Runs.{IsReply, IsPlanOf}
use Rattle.world.specs.declared.world.World.{World}
use Rattle.machines.specs.Answers.{trouble_of}
use Rattle.world.specs.Troubles.{of_layer}
use Rattle.world.specs.Worlds.{Keeps, Played}
use Rattle.world.specs.Headline.{IsPlannedFromDraft}
use Rattle.world.proofs.Answering.{drafted_alike, replied_without_memory}

both : (a b : Bool) → a ≡ true → b ≡ true → (a && b) ≡ true
both true b e f = f
both false b e f = absurd (let g : false ≡ true = e in cc)

-- what holds a plan in a job is within its limits
pub are_plan_terms : (t : Terms) (b : Bounds) → is_policy t ≡ true → is_bounds b ≡ true → is_plan_policy (plan_terms_of t.low t.high b) ≡ true
are_plan_terms t b h k =
    let few = (and_parts _ _ (and_parts _ _ (and_parts _ _ (and_parts _ _ (and_parts _ _ (and_parts _ _ h).0).0).0).0).0).0 in
    both (is_within t.low t.high && nat_le t.high MOST_OWNERS) (is_bounds b) few k

module _ (job : Job) (past : Past) (loads tasks : List ℕ) (bounds : Bounds) where
  -- there is no draft
  pub undrafted : draft_of past ≡ None → IsReply job past (event (step.Plan loads tasks bounds) (reply.Refused refusal.NoDraft))
  undrafted none = inl (
    Plain,
    λ draft e free. absurd (let both : None ≡ Some draft = sym none ∙ e in cc),
    sym (ap (λ (o : Option Slicing). plan_reply o loads tasks (plan_in Plain)) none),
  )

  module _ (draft : Slicing) (drafted : draft_of past ≡ Some draft) where
    same_draft : (other : Slicing) → draft_of past ≡ Some other → draft ≡ other
    same_draft other e = let both : Some draft ≡ Some other = sym drafted ∙ e in cc

    -- there is a plan, and this is one
    pub planned_reply : (plan : Plan) → plan_refusal draft.slices loads tasks ≡ None → IsPlanOf job draft loads tasks bounds plan
        → IsReply job past (event (step.Plan loads tasks bounds) (reply.Planned plan))
    planned_reply plan free made = inl (
      Planned plan,
      λ other e unrefused. subst (λ (d : Slicing). IsPlanOf job d loads tasks bounds plan) (same_draft other e) made,
      sym (ap (λ (o : Option Slicing). plan_reply o loads tasks plan) drafted ∙ ap (λ (o : Option PlanError). planned o plan) free),
    )

    -- there is none
    pub unplanned_reply : (why : PlanError) → plan_refusal draft.slices loads tasks ≡ Some why
        → IsReply job past (event (step.Plan loads tasks bounds) (reply.Refused (refusal.Plan why)))
    unplanned_reply why refused = inl (
      Plain,
      λ other e free. absurd (
          let same : plan_refusal draft.slices loads tasks ≡ None = subst (λ (d : Slicing). plan_refusal d.slices loads tasks ≡ None) (sym (same_draft other e)) free in
          let both : Some why ≡ None = sym refused ∙ same in cc
          ),
      sym (ap (λ (o : Option Slicing). plan_reply o loads tasks (plan_in Plain)) drafted ∙ ap (λ (o : Option PlanError). planned o (plan_in Plain)) refused),
    )

    -- there is one, and no memory for it
    pub no_room_reply : plan_refusal draft.slices loads tasks ≡ None → IsReply job past (event (step.Plan loads tasks bounds) reply.NoMemory)
    no_room_reply free =
        replied_without_memory job past (step.Plan loads tasks bounds) refl (λ outcome. drafted_alike (draft_of past) loads tasks (plan_in outcome) (plan_in Plain)) (reply.Planned (plan_in Plain))
        (ap (λ (o : Option Slicing). plan_reply o loads tasks (plan_in Plain)) drafted ∙ ap (λ (o : Option PlanError). planned o (plan_in Plain)) free) refl

    -- why there is none, or no memory for it
    pub unplanned_played : (world : World) → Keeps job past world → (o : Option PlanError) → plan_refusal draft.slices loads tasks ≡ o
        → Played job past (step.Plan loads tasks bounds) (Err (of_layer refusal.Plan (trouble_of o))) world
    unplanned_played world k None e = (k, no_room_reply e)
    unplanned_played world k (Some why) e = (k, unplanned_reply why e, refl)

  -- a plan that is answered is one of the draft
  module _ (law : (list : List _) (given set : List ℕ) (terms : PlanTerms) (made : Plan) → CanPlan list given set terms → IsPlan list given set terms made → refusal_of made.slices ≡ None) (plan : Plan) where
    by_refusal : (draft : Slicing) (o : Option PlanError) → draft_of past ≡ Some draft → plan_refusal draft.slices loads tasks ≡ o → (made : Plan)
        → (plan_refusal draft.slices loads tasks ≡ None → IsPlanOf job draft loads tasks bounds made) → reply.Planned plan ≡ planned o made → IsPlannedFromDraft job past loads tasks bounds plan
    by_refusal draft None drafted free made h e =
        let same : made ≡ plan = cc in
        let is = subst (λ (p : Plan). IsPlanOf job draft loads tasks bounds p) same (h free) in
        record { draft = draft; drafted = drafted; planned = is; accepted = law draft.slices loads tasks _ plan is.0 is.1 }
    by_refusal draft (Some why) drafted free made h e = absurd (cc)

    by_draft : (o : Option Slicing) → draft_of past ≡ o → (made : Plan)
        → ((draft : Slicing) → draft_of past ≡ Some draft → plan_refusal draft.slices loads tasks ≡ None → IsPlanOf job draft loads tasks bounds made)
        → reply.Planned plan ≡ plan_reply o loads tasks made → IsPlannedFromDraft job past loads tasks bounds plan
    by_draft None drafted made h e = absurd (cc)
    by_draft (Some draft) drafted made h e = by_refusal draft (plan_refusal draft.slices loads tasks) drafted refl made (h draft drafted) e

    pub planned_from_draft : IsReply job past (event (step.Plan loads tasks bounds) (reply.Planned plan)) → IsPlannedFromDraft job past loads tasks bounds plan
    planned_from_draft h =
        elim h [
          | inl answered ↦ by_draft (draft_of past) refl (plan_in answered.0) answered.1 answered.2
          | inr none ↦ absurd (let f : reply.Planned plan ≡ reply.NoMemory = none.0 in cc)
        ]
