-- The table's calls in a run are a run of the table, and those of a longer past begin with those of a shorter one.
use Rattle.std.proofs.Common.{◌≡◌, List, [], ◌∷◌, ◌++◌, refl, sym, ◌∙◌, ap, subst, inl, inr}
use Rattle.std.specs.Prelude.{Ok}
use Rattle.machines.specs.Calls.{answered_call}
use Rattle.lease_table.specs.Calls.{AnsweredTableCall}
use Rattle.lease_table.specs.Runs.{IsRun as IsTableRun}
use Rattle.cluster.specs.continued.Jobs.{Continued}
use Rattle.cluster.specs.Pasts.{Event, Past, table_calls}
use Rattle.cluster.specs.continued.Runs.{IsReply, IsRun}
use Rattle.cluster.proofs.Taking.{table_answer}
use Rattle.cluster.proofs.Adding.{adds_to_table}

pub table_run : (job : Continued) (past : Past) → IsRun job past → IsTableRun job.policy (table_calls past)
table_run job [] run = tt
table_run job (e ∷ past) run =
    let before = table_run job past run.1 in
    elim (adds_to_table past e) [
      | inl same ↦ subst (IsTableRun job.policy) (sym same) before
      | inr new ↦ subst (IsTableRun job.policy) (sym new.added)
          (table_answer job past new.made new.told (subst (λ (x : Event). IsReply job past x) new.is run.0), before)
    ]

-- one list is another with later calls before it
abbrev pub Extends : List AnsweredTableCall → List AnsweredTableCall → Type 0
Extends calls before = (later : List AnsweredTableCall) × (calls ≡ later ++ before)

pub table_calls_extend : (later past : Past) → Extends (table_calls (later ++ past)) (table_calls past)
table_calls_extend [] past = ([], refl)
table_calls_extend (e ∷ later) past =
    let h = table_calls_extend later past in
    elim (adds_to_table (later ++ past) e) [
      | inl same ↦ (h.0, same ∙ h.1)
      | inr new ↦ (answered_call new.made (Ok new.told) ∷ h.0, new.added ∙ ap (λ (calls : List AnsweredTableCall). answered_call new.made (Ok new.told) ∷ calls) h.1)
    ]
