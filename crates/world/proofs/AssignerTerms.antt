-- What an assigner keeps after it was told something.
use Rattle.std.proofs.Common.{◌≡◌, ℕ, ◌+◌, ◌<◌, true, false, Bool, List, ◌∷◌, length, refl, sym, ◌∙◌, ap, subst, arith}
use Rattle.std.specs.Prelude.{◌≢◌, ◌==◌, Option, if◌then◌else◌}
use Rattle.std.proofs.Math.ListN.{set, get_or}
use Rattle.std.proofs.lemmas.Bool.Decides.{nat_tests}
use Rattle.grants.specs.declared.values.JobTerm.{JobTerm}
use Rattle.machines.specs.Numbers.{is_within}
use Rattle.assigner.specs.Terms.{Keeping}
use Rattle.world.specs.Jobs.{Job}
use Rattle.world.specs.declared.step.Step.{Step}
use Rattle.replies.specs.declared.reply.Reply.{Reply}
use Rattle.replies.specs.declared.reply.Reply.TheVariants as reply
use Rattle.world.specs.Pasts.{event, Past, is_accepted}
use Rattle.world.specs.Front.{term_told, kept_with, kept_term}
use Rattle.cluster.specs.Clusters.{AreActors}
use Rattle.world.specs.Replies.{assigner_of}
use Rattle.cluster.proofs.ActorLists.{within_at, actor_at, actors_set, actors_same}

-- what an assigner keeps after one of them was told something
abbrev pub told_with : Job → Past → ℕ → (ℕ → Option JobTerm → Option JobTerm) → ℕ → Keeping
told_with job past by told n = record { id = n; job_term = job.policy.job; term = if by == n then told n (kept_term n past) else kept_term n past }

abbrev pub with_told : (ℕ → Option JobTerm → Option JobTerm) → Keeping → Keeping
with_told told a = record a { term = told a.id a.term }

own_term : (job : Job) (past : Past) (by n : ℕ) (told : ℕ → Option JobTerm → Option JobTerm) → n ≡ by
    → with_told told (assigner_of job past n) ≡ told_with job past by told n
own_term job past by n told same = let test : (by == n) ≡ true = grind (arith, nat_tests) in rw test refl

other_term : (job : Job) (past : Past) (by n : ℕ) (told : ℕ → Option JobTerm → Option JobTerm) → n ≢ by → assigner_of job past n ≡ told_with job past by told n
other_term job past by n told other = let test : (by == n) ≡ false = grind (arith, nat_tests) in rw test refl

-- an assigner of the job, at its place
pub record OwnAssigner (job : Job) (past : Past) (assigners : List Keeping) (by place : ℕ) (old : Keeping) : Type 0 where
  pub inside : is_within by job.assigners ≡ true
  pub keeps : old ≡ assigner_of job past by
  pub told : (new : Keeping) (told : ℕ → Option JobTerm → Option JobTerm) → new ≡ with_told told old
      → AreActors (told_with job past by told) job.assigners (set assigners place new)

pub own_assigner : (job : Job) (past : Past) (assigners : List Keeping) (by place : ℕ) (old : Keeping)
    → AreActors (assigner_of job past) job.assigners assigners → place + 1 ≡ by → place < length assigners
    → old ≡ get_or assigners place old → OwnAssigner job past assigners by place old
own_assigner job past assigners by place old are number inside at =
    let here : old ≡ assigner_of job past (place + 1) = actor_at (assigner_of job past) (assigner_of job past) job.assigners assigners are place inside old at in
    record {
      inside = within_at place by job.assigners number (subst (λ (n : ℕ). place < n) are.0 inside);
      keeps = here ∙ ap (assigner_of job past) number;
      told = λ new told e.
          actors_set (assigner_of job past) (told_with job past by told) job.assigners assigners are place inside new
          (e ∙ ap (with_told told) here ∙ own_term job past by (place + 1) told number)
          (λ i other. other_term job past by (i + 1) told (λ same. other (omega arith)));
    }

-- a step that tells an assigner a term, or none
told_term : (b : Bool) (n : ℕ) (answer : Reply) (t : Option JobTerm)
    → (if b then term_told n answer t else t) ≡ (if is_accepted answer then (if b then term_told n answer t else t) else t)
told_term true n (reply.Refused why) t = refl
told_term false n (reply.Refused why) t = refl
told_term true n reply.NoMemory t = refl
told_term false n reply.NoMemory t = refl
told_term b n _ t = refl

pub assigners_told : (job : Job) (past : Past) (s : Step) (by : ℕ) (answer : Reply) (assigners : List Keeping)
    → ((n : ℕ) (before : Option JobTerm) → kept_with n s answer before ≡ (if by == n then term_told n answer before else before))
    → AreActors (told_with job past by (λ n before. term_told n answer before)) job.assigners assigners → AreActors (assigner_of job (event s answer ∷ past)) job.assigners assigners
assigners_told job past s by answer assigners kept are =
    actors_same (told_with job past by (λ n before. term_told n answer before)) (assigner_of job (event s answer ∷ past)) job.assigners assigners
    (λ n.
    let before = kept_term n past in
    ap (λ (t : Option JobTerm). let a : Keeping = record { id = n; job_term = job.policy.job; term = t } in a)
    (told_term (by == n) n answer before ∙ ap (λ (t : Option JobTerm). if is_accepted answer then t else before) (sym (kept n before)))) are
