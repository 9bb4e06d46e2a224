-- Turns that are played one after another.
use Rattle.std.proofs.Common.{◌≡◌, ℕ, ◌+◌, ◌<◌, Bool, true, false, List, [], ◌∷◌, ◌++◌, map, length, get_or, take, drop, reverse, refl, sym, ◌∙◌, ap, subst, MatchBool}
use Rattle.std.specs.Prelude.{◌↔◌}
use Rattle.std.specs.List.{AllZip}
use Rattle.std.proofs.lemmas.List.{map_more, map-append, take-append-drop, reverse-append, append_assoc}
use Rattle.job_calls.specs.Jobs.{Job}
use Rattle.cluster.specs.declared.cluster.Cluster.{Cluster}
use Rattle.cluster.specs.declared.timeliness.Timeliness.{Timeliness}
use Rattle.job_calls.specs.declared.reply.ClusterReply.{ClusterReply}
use Rattle.cluster.specs.Pasts.{event, Past, readings}
use Rattle.cluster.specs.Timing.{IsTimely}
use Rattle.cluster.specs.Timeliness.{IsTimelinessOf}
use Rattle.cluster.specs.Runs.{IsRun}
use Rattle.cluster.specs.Clusters.{LeadsTo}
use Rattle.audit.specs.declared.finding.Why.{Why}
use Rattle.audit.specs.OneRun.{Turn, Fits, IsEventOf, IsPastOf, IsWrong, IsBreak, IsOneRun}

-- what is known once some turns were played
pub record IsPlayedTo (job : Job) (run : List Turn) (cluster : Cluster) (timeliness : Timeliness) : Type 0 where
  pub past : Past
  pub told : IsPastOf run past
  pub leads : LeadsTo job past cluster
  pub clocks : IsTimelinessOf job.policy.skew (readings past) timeliness

-- one turn more
pub past_more : (run : List Turn) (turn : Turn) (past : Past) (reply : ClusterReply) → IsPastOf run past → Fits reply turn.told
    → IsPastOf (run ++ turn ∷ []) (event turn.call reply ∷ past)
past_more run turn past reply told fits =
    subst (λ (turns : List Turn). AllZip IsEventOf turns (event turn.call reply ∷ past)) (sym (reverse-append run (turn ∷ []))) (record { same_call = refl; fits = fits }, told)

module _ {X : Type 0} (f : X → Turn) (xs : List X) (i : ℕ) (x d : X) (low : i < length xs) (here : x ≡ get_or xs i d) where
  one_more : map f (take (i + 1) xs) ≡ map f (take i xs) ++ f x ∷ []
  one_more = map_more f xs i d low ∙ ap (λ (y : X). map f (take i xs) ++ f y ∷ []) (sym here)

  -- a point whose reply fits
  pub played_more : (job : Job) (cluster next : Cluster) (timeliness more : Timeliness) (reply : ClusterReply) → (known : IsPlayedTo job (map f (take i xs)) cluster timeliness)
      → Fits reply (f x).told → LeadsTo job (event (f x).call reply ∷ known.past) next
      → IsTimelinessOf job.policy.skew (readings (event (f x).call reply ∷ known.past)) more
      → IsPlayedTo job (map f (take (i + 1) xs)) next more
  played_more job cluster next timeliness more reply known fits leads clocks = record {
    past = event (f x).call reply ∷ known.past;
    told = subst (λ (turns : List Turn). IsPastOf turns (event (f x).call reply ∷ known.past)) (sym one_more) (past_more (map f (take i xs)) (f x) known.past reply known.told fits);
    leads = leads;
    clocks = clocks;
  }

  -- a point that is answered otherwise
  pub breaks_here : (job : Job) (past : Past) (reply : ClusterReply) (why : Why) → IsPastOf (map f (take i xs)) past → IsRun job (event (f x).call reply ∷ past)
      → IsWrong why reply (f x).told → IsBreak job (map f xs) (f x).ticket why
  breaks_here job past reply why told run wrong = record {
    before = map f (take i xs);
    turn = f x;
    later = map f (drop (i + 1) xs);
    whole = ap (map f) (sym (take-append-drop (i + 1) xs)) ∙ map-append f (take (i + 1) xs) (drop (i + 1) xs)
        ∙ ap (λ (ts : List Turn). ts ++ map f (drop (i + 1) xs)) one_more
        ∙ append_assoc (map f (take i xs)) (f x ∷ []) (map f (drop (i + 1) xs));
    at = refl;
    past = past;
    told = told;
    reply = reply;
    answered = run;
    wrong = wrong;
  }

-- whether all readings were timely
pub decided : (r : Bool) (P : Type 0) → MatchBool r P (P → ⊥) → (r ≡ true) ↔ P
decided true P h = (λ _. h, λ _. refl)
decided false P h = (λ b. absurd (cc), λ t. absurd (h t))

-- all turns fit
pub one_run : (job : Job) (run : List Turn) (cluster : Cluster) (timeliness : Timeliness) (steps : ℕ) (timely : Bool) → (known : IsPlayedTo job run cluster timeliness)
    → IsRun job known.past → steps ≡ length run → MatchBool timely (IsTimely job.policy.skew (readings known.past)) (IsTimely job.policy.skew (readings known.past) → ⊥)
    → IsOneRun job run steps timely
one_run job run cluster timeliness steps timely known answered count told = record {
  past = known.past;
  told = known.told;
  answered = answered;
  count = count;
  clocks = decided timely (IsTimely job.policy.skew (readings known.past)) told;
}
