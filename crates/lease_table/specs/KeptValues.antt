-- The values of a table that outlast its process, and the table restored from them.
use Rattle.std.specs.Prelude.{◌≡◌, ℕ, ◌++◌, List, [], ◌∷◌, length, Ok}
use Rattle.std.specs.List.{AllByRecursion}
use Rattle.machines.specs.Calls.{answered_call}
use Rattle.grants.specs.declared.kept.Kept.{Kept}
use Rattle.grants.specs.declared.table_call.TableCall.TheVariants.{Restart, Grant}
use Rattle.grants.specs.declared.table_call.TableReply.TheVariants.{Lost}
use Rattle.grants.specs.Policies.{Terms}
use Rattle.lease_table.specs.Tables.{Standing}
use Rattle.lease_table.specs.Calls.{AnsweredTableCall, open_rows, standing_after}
use Rattle.lease_table.specs.Runs.{IsRun}

-- the kept values of a table
abbrev pub kept_of : Standing → Kept
kept_of t = record {
  policy = t.policy;
  last = t.last;
  term = t.term;
  committed = t.committed;
  pending = t.pending;
  granted = t.granted;
  deadline = t.deadline;
}

-- the table restored from kept values: no rows, and no commit before the greatest deadline that was given
abbrev pub restored_from : Kept → Standing
restored_from k = record {
  policy = k.policy;
  last = k.last;
  term = k.term;
  committed = k.committed;
  pending = k.pending;
  granted = k.granted;
  deadline = k.deadline;
  grace = k.deadline;
  rows = [];
}

-- these calls, and then the crash of the process: a restart, which loses the rows that are open
abbrev pub crashed : List AnsweredTableCall → List AnsweredTableCall
crashed past = answered_call Restart (Ok (Lost (length (open_rows past)))) ∷ past

-- a grant to task 1 in life 0: lives begin at 1, so no task ever hears this grant
abbrev pub IsToNobody : AnsweredTableCall → Type 0
IsToNobody e = (at : ℕ) × (e.call ≡ Grant 1 0 at)

-- the saved values are those that the table keeps after these calls and then some grants to nobody, maybe none
pub record IsKeptAhead (policy : Terms) (past : List AnsweredTableCall) (saved : Kept) : Type 0 where
  pub ahead : List AnsweredTableCall
  pub nobody : AllByRecursion IsToNobody ahead
  pub run : IsRun policy (ahead ++ past)
  pub is : saved ≡ kept_of (standing_after policy (ahead ++ past))
