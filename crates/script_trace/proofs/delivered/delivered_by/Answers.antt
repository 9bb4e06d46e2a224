use Rattle.std.proofs.Common.{◌≡◌, ◌∙◌, ℕ, refl, sym, ap, subst}
use Rattle.std.specs.Prelude.{◌≢◌, None, IfOk}
use Rattle.cluster.specs.Pasts.{Past as Calls}
use Rattle.world.specs.declared.step.Step.{Step}
use Rattle.world.specs.declared.step.Step.TheVariants as step
use Rattle.script_trace.specs.Steps.{delivered_in}
use Rattle.script_trace.proofs.delivered.delivered_by.Goals as goal

nothing_delivered : (calls : Calls) (s : Step) → ((task number at : ℕ) → s ≢ step.Hear task number at) → ((number at : ℕ) → s ≢ step.Free number at)
    → ((task number at : ℕ) → s ≢ step.Check task number at) → None ≡ delivered_in calls s
nothing_delivered calls (step.Hear task number at) hears frees checks = absurd (hears task number at refl)
nothing_delivered calls (step.Free number at) hears frees checks = absurd (frees number at refl)
nothing_delivered calls (step.Check task number at) hears frees checks = absurd (checks task number at refl)
nothing_delivered calls _ hears frees checks = refl

pub returns-in-Hear : goal.returns-in-Hear
returns-in-Hear c job calls leads =
    subst (λ (s : Step). IfOk c.grant_of.result (λ found. found ≡ delivered_in calls s)) (sym c.in-Hear.is) (c.grant_of.ensures job calls leads)

pub returns-in-Free : goal.returns-in-Free
returns-in-Free c job calls leads = c.note_of.ensures job calls leads ∙ ap (λ (s : Step). delivered_in calls s) (sym c.in-Free.is)

pub returns-in-Check : goal.returns-in-Check
returns-in-Check c job calls leads = c.handle_of.ensures job calls leads ∙ ap (λ (s : Step). delivered_in calls s) (sym c.in-Check.is)

pub returns-in_default : goal.returns-in_default
returns-in_default c job calls leads =
    nothing_delivered calls c.args.step.now c.in_default.not-Hear c.in_default.not-Free c.in_default.not-Check
