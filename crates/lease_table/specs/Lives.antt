-- What happens to a table over the lives of its processes.
use Rattle.std.specs.Prelude.{◌≡◌, List, [], ◌∷◌, ◌++◌, Result, Ok, Err, ⊤}
use Rattle.std.specs.List.{AllByRecursion}
use Rattle.machines.specs.Calls.{answer_of}
use Rattle.grants.specs.declared.table_call.TableReply.{TableReply}
use Rattle.grants.specs.declared.table_error.TableError.{TableError}
use Rattle.grants.specs.declared.kept.Kept.{Kept}
use Rattle.grants.specs.Policies.{Terms}
use Rattle.lease_table.specs.Tables.{Standing, opening}
use Rattle.lease_table.specs.Calls.{AnsweredTableCall, table_step, LeadsTo}
use Rattle.lease_table.specs.Runs.{IsRun}
use Rattle.lease_table.specs.KeptValues.{kept_of, restored_from, crashed, IsToNobody}
use Rattle.grants.specs.KeptValues.{Covers}

-- a call is answered, or the process ends and the table is restored from what was saved
pub data Happening : Type 0 where
  Answered : AnsweredTableCall → Happening
  Restored : Kept → Happening

-- what a step leaves: a refused one leaves the table as it was
abbrev pub left_by : Standing → Result (Standing × TableReply) TableError → Standing
left_by t (Ok p) = p.0
left_by t (Err refusal) = t

-- the table after what happened, newest first
abbrev pub table_after : Terms → List Happening → Standing
table_after policy [] = opening policy
table_after policy (Answered e ∷ life) = left_by (table_after policy life) (table_step (table_after policy life) e.call)
table_after policy (Restored saved ∷ life) = restored_from saved

-- each call was answered by its step, and each table was restored from what the one before kept, or from
-- values ahead of that
abbrev pub IsLife : Terms → List Happening → Type 0
IsLife policy [] = ⊤
IsLife policy (Answered e ∷ life) = (e.answer ≡ answer_of (table_step (table_after policy life) e.call)) × IsLife policy life
IsLife policy (Restored saved ∷ life) = Covers (kept_of (table_after policy life)) saved × IsLife policy life

-- the run has each answered call in its order, and where the table was restored, grants to nobody, if any,
-- and a restart
abbrev pub IsRunOf : List Happening → List AnsweredTableCall → Type 0
IsRunOf [] run = run ≡ []
IsRunOf (Answered e ∷ life) run = (past : List AnsweredTableCall) × (run ≡ e ∷ past) × IsRunOf life past
IsRunOf (Restored saved ∷ life) run =
    (ahead past : List AnsweredTableCall) × AllByRecursion IsToNobody ahead × (run ≡ crashed (ahead ++ past)) × IsRunOf life past

-- what happened is one run of one table, and leads to the table
pub record IsOneRun (policy : Terms) (life : List Happening) : Type 0 where
  pub run : List AnsweredTableCall
  pub is : IsRunOf life run
  pub goes : IsRun policy run
  pub leads : LeadsTo policy run (table_after policy life)
