-- What a line stands for once it was played.
use Rattle.std.proofs.Common.{◌≡◌, ℕ, ◌+◌, ◌-◌, ◌≤◌, ◌<◌, ◌++◌, ◌∷◌, refl, sym, ap, subst, arith, inl, inr}
use Rattle.std.specs.Prelude.{Some, None}
use Rattle.grants.specs.declared.table_call.TableCall.TheVariants as table_call
use Rattle.grants.specs.declared.kept.Kept.{Kept}
use Rattle.lease_table.specs.KeptValues.{kept_of}
use Rattle.grants.specs.KeptValues.{Covers}
use Rattle.cluster.specs.continued.Jobs.{Continued}
use Rattle.job_calls.specs.declared.call.ClusterCall.{ClusterCall}
use Rattle.job_calls.specs.declared.call.ClusterCall.TheVariants as call
use Rattle.job_calls.specs.declared.reply.ClusterReply.{ClusterReply}
use Rattle.cluster.specs.Pasts.{event, Past, standing}
use Rattle.log_run.specs.declared.log_machines.LogMachines.{LogMachines}
use Rattle.log_line.specs.declared.line.BareGrant.{BareGrant}
use Rattle.log_line.specs.declared.line.LoggedCall.{LoggedCall}
use Rattle.log_line.specs.declared.line.LoggedCall.TheVariants.{Whole, HearBare, LearnBare, Restore}
use Rattle.log_line.specs.declared.restored.KeptNumbers.{KeptNumbers}
use Rattle.log_line.specs.declared.restored.RestoreFault.{RestoreFault}
use Rattle.log_line.specs.declared.told.CallerReply.{CallerReply}
use Rattle.log_line.specs.Calls.{numbers_of}
use Rattle.log_run.specs.Restores.{IsChecked, grant_to_nobody, kept_with, restore_told}
use Rattle.log_run.specs.internals.Answers.{HasGranted, IsMade, IsPlayed}
use Rattle.log_run.specs.internals.Machines.{HavePlayed}

-- a line with a call stands for it
pub whole_played : (job : Continued) (past : Past) (line : LoggedCall) (w : ClusterCall) (told : CallerReply) (machines : LogMachines) → line ≡ Whole w
    → IsMade job past line told machines → IsPlayed job past line told machines
whole_played job past line w told machines is made =
    let here : IsMade job past (Whole w) told machines = subst (λ (l : LoggedCall). IsMade job past l told machines) is made in
    subst (λ (l : LoggedCall). IsPlayed job past l told machines) (sym is) (record { after = here.after; stands = here.called; played = here.played })

pub heard_played : (job : Continued) (past : Past) (line : LoggedCall) (task : ℕ) (grant : BareGrant) (at : ℕ) (told : CallerReply) (machines : LogMachines) → line ≡ HearBare task grant at
    → IsMade job past line told machines → IsPlayed job past line told machines
heard_played job past line task grant at told machines is made =
    let here : IsMade job past (HearBare task grant at) told machines = subst (λ (l : LoggedCall). IsMade job past l told machines) is made in
    subst (λ (l : LoggedCall). IsPlayed job past l told machines) (sym is) (record { after = here.after; stands = here.called; played = here.played })

pub learnt_played : (job : Continued) (past : Past) (line : LoggedCall) (clerk generation : ℕ) (told : CallerReply) (machines : LogMachines) → line ≡ LearnBare clerk generation
    → IsMade job past line told machines → IsPlayed job past line told machines
learnt_played job past line clerk generation told machines is made =
    let here : IsMade job past (LearnBare clerk generation) told machines = subst (λ (l : LoggedCall). IsMade job past l told machines) is made in
    subst (λ (l : LoggedCall). IsPlayed job past l told machines) (sym is) (record { after = here.after; stands = here.called; played = here.played })

-- one grant to nobody more
pub granted_more : (job : Continued) (past : Past) (count at : ℕ) (old new : LogMachines) → HasGranted job past count at old
    → ((p : Past) → HavePlayed job p old → (reply : ClusterReply) × HavePlayed job (event (grant_to_nobody at) reply ∷ p) new) → HasGranted job past (count + 1) at new
granted_more job past count at old new so_far more =
    let one = more (so_far.ahead ++ past) so_far.played in
    record {
      ahead = event (grant_to_nobody at) one.0 ∷ so_far.ahead;
      nobody = (refl, so_far.nobody);
      many = let n = so_far.many in omega (arith, n);
      played = one.1;
    }

module _ (job : Continued) (past : Past) (numbers : KeptNumbers) (kept : Kept) (same : kept ≡ kept_of (standing job.policy past)) where
  -- a restart that is refused
  pub not_restored : (fault : RestoreFault) (told : CallerReply) (machines : LogMachines) → IsChecked kept numbers (Some fault) → told ≡ restore_told kept numbers (Some fault)
      → HavePlayed job past machines → IsPlayed job past (Restore numbers) told machines
  not_restored fault told machines checked tells leads = record {
    after = past;
    stands = record {
      fault = Some fault;
      checked = subst (λ (k : Kept). IsChecked k numbers (Some fault)) same checked;
      tells = subst (λ (k : Kept). told ≡ restore_told k numbers (Some fault)) same tells;
      taken = refl;
    };
    played = leads;
  }

  -- a restart after so many grants to nobody
  pub restored : (count : ℕ) (told : CallerReply) (granted machines : LogMachines) → IsChecked kept numbers None → told ≡ restore_told kept numbers None
      → kept.granted + count ≡ numbers.granted → (ahead : HasGranted job past count numbers.last granted)
      → (lost : ClusterReply) → HavePlayed job (event (call.Table table_call.Restart) lost ∷ (ahead.ahead ++ past)) machines → IsPlayed job past (Restore numbers) told machines
  restored count told granted machines checked tells many ahead lost leads =
      let before : kept.granted ≡ (standing job.policy past).granted = ap (λ (k : Kept). k.granted) same in
      record {
        after = event (call.Table table_call.Restart) lost ∷ (ahead.ahead ++ past);
        stands = record {
          fault = None;
          checked = subst (λ (k : Kept). IsChecked k numbers None) same checked;
          tells = subst (λ (k : Kept). told ≡ restore_told k numbers None) same tells;
          taken = record {
            ahead = ahead.ahead;
            nobody = ahead.nobody;
            many = let n = ahead.many in omega (arith, n, before, many);
            lost = lost;
            events = refl;
          };
        };
        played = leads;
      }

fewest : (kept : Kept) (numbers : KeptNumbers) → Covers kept (kept_with kept numbers) → kept.granted ≤ numbers.granted
fewest kept numbers (inl same) = let is : numbers.granted ≡ kept.granted = ap (λ (k : Kept). k.granted) same in omega (arith, is)
fewest kept numbers (inr ahead) = let more : kept.granted < numbers.granted = ahead.more in omega (arith, more)

-- values that are taken have no fewer grants than the table
pub not_fewer : (kept : Kept) (numbers table : KeptNumbers) → table ≡ numbers_of kept → IsChecked kept numbers None
    → kept.granted + (numbers.granted - table.granted) ≡ numbers.granted
not_fewer kept numbers table is checked =
    let here : table.granted ≡ kept.granted = ap (λ (n : KeptNumbers). n.granted) is in
    let least : kept.granted ≤ numbers.granted = fewest kept numbers checked.1 in
    omega (arith, here, least)
