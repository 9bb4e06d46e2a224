-- What happened to a table, with any number of crashes, is one run of one table.
use Rattle.std.proofs.Common.{◌≡◌, ◌∙◌, ◌⊎◌, inl, inr, true, List, [], ◌∷◌, ◌++◌, refl, sym, ap, subst}
use Rattle.std.specs.Prelude.{None, Result, Ok, Err, Contains}
use Rattle.machines.specs.Refusals.{first_of}
use Rattle.machines.specs.Calls.{answered_call, answer_of, LeadsOn}
use Rattle.grants.specs.declared.table_call.TableCall.{TableCall}
use Rattle.grants.specs.declared.table_call.TableReply.{TableReply}
use Rattle.grants.specs.declared.table_error.TableError.{TableError}
use Rattle.grants.specs.declared.kept.Kept.{Kept}
use Rattle.grants.specs.Policies.{Terms, is_policy}
use Rattle.lease_table.specs.Tables.{Standing}
use Rattle.lease_table.specs.Calls.{AnsweredTableCall, standing_after, table_step, LeadsTo}
use Rattle.lease_table.specs.KeptValues.{kept_of, restored_from, crashed, IsKeptAhead}
use Rattle.grants.specs.KeptValues.{kept_checks, Covers}
use Rattle.lease_table.specs.Lives.{Happening, Answered, Restored, left_by, table_after, IsLife, IsRunOf, IsOneRun}
use Rattle.lease_table.proofs.Leading.{leads}
use Rattle.grants.proofs.Members.{here, there, nowhere, first_or_rest}
use Rattle.lease_table.proofs.KeptValues.{taken}
use Rattle.lease_table.proofs.SavingAhead.{covering}

-- a step's answer leads to what the step leaves
led_by : (policy : Terms) (past : List AnsweredTableCall) (t : Standing) (c : TableCall) (step : Result (Standing × TableReply) TableError)
    → LeadsOn (LeadsTo policy) past t c step → LeadsTo policy (answered_call c (answer_of step) ∷ past) (left_by t step)
led_by policy past t c (Ok p) h = h
led_by policy past t c (Err refusal) h = h

module _ (policy : Terms) (within : is_policy policy ≡ true) where
  -- one more answered call
  answered : (e : AnsweredTableCall) (life : List Happening) → e.answer ≡ answer_of (table_step (table_after policy life) e.call) → IsOneRun policy life
      → IsOneRun policy (Answered e ∷ life)
  answered e life a before =
      let led : LeadsTo policy (answered_call e.call (answer_of (table_step (standing_after policy before.run) e.call)) ∷ before.run)
      (left_by (standing_after policy before.run) (table_step (standing_after policy before.run) e.call)) =
      led_by policy before.run (standing_after policy before.run) e.call _ (leads policy before.run e.call within) in
      let own : e.answer ≡ answer_of (table_step (standing_after policy before.run) e.call) =
      subst (λ (t : Standing). e.answer ≡ answer_of (table_step t e.call)) (sym before.leads) a in
      record {
        run = e ∷ before.run;
        is = (before.run, refl, before.is);
        goes = (own, before.goes);
        leads =
            ap (λ (r : Result TableReply TableError). standing_after policy (answered_call e.call r ∷ before.run)) own
            ∙ led
            ∙ ap (λ (t : Standing). left_by t (table_step t e.call)) before.leads;
      }

  ahead_of : (saved : Kept) (life : List Happening) (before : IsOneRun policy life) → Covers (kept_of (table_after policy life)) saved
      → IsKeptAhead policy before.run saved
  ahead_of saved life before covers =
      covering policy before.run saved before.goes (subst (λ (t : Standing). Covers (kept_of t) saved) (sym before.leads) covers)

  restored : (saved : Kept) (life : List Happening) → Covers (kept_of (table_after policy life)) saved → IsOneRun policy life
      → IsOneRun policy (Restored saved ∷ life)
  restored saved life covers before =
      let a = ahead_of saved life before covers in
      record {
        run = crashed (a.ahead ++ before.run);
        is = (a.ahead, before.run, a.nobody, refl, before.is);
        goes = (refl, a.run);
        leads = ap restored_from (sym a.is);
      }

  pub one_run : (life : List Happening) → IsLife policy life → IsOneRun policy life
  one_run [] h = record { run = []; is = refl; goes = tt; leads = refl }
  one_run (Answered e ∷ life) h = answered e life h.0 (one_run life h.1)
  one_run (Restored saved ∷ life) h = restored saved life h.0 (one_run life h.1)

  -- what was saved is always taken
  pub always_taken : (life : List Happening) (saved : Kept) → IsLife policy life → Covers (kept_of (table_after policy life)) saved
      → first_of (kept_checks policy saved) ≡ None
  always_taken life saved h covers =
      let before = one_run life h in
      let a = ahead_of saved life before covers in
      subst (λ (k : Kept). first_of (kept_checks policy k) ≡ None) (sym a.is) (taken policy within (a.ahead ++ before.run) a.run)

behind : (ahead past : List AnsweredTableCall) (e : AnsweredTableCall) → Contains past e → Contains (ahead ++ past) e
behind [] past e i = i
behind (first ∷ ahead) past e i = there first e (ahead ++ past) (behind ahead past e i)

own_of : (own e : AnsweredTableCall) → Answered own ≡ Answered e → own ≡ e
own_of own e same = cc

-- each answered call is in a run of what happened
pub in_run : (life : List Happening) (run : List AnsweredTableCall) (e : AnsweredTableCall) → IsRunOf life run → Contains life (Answered e) → Contains run e
in_run [] run e h i = absurd (nowhere (Answered e) i)
in_run (Answered own ∷ life) run e (past, is, h) i = rw is (by_place (first_or_rest (Answered own) (Answered e) life i) (in_run life past e h))
  where
    by_place : (Answered own ≡ Answered e) ⊎ Contains life (Answered e) → (Contains life (Answered e) → Contains past e) → Contains (own ∷ past) e
    by_place (inl same) later = subst (Contains (own ∷ past)) (own_of own e same) (here own past)
    by_place (inr rest) later = there own e past (later rest)
in_run (Restored saved ∷ life) run e (ahead, past, nobody, is, h) i =
    rw is (by_place (first_or_rest (Restored saved) (Answered e) life i) (in_run life past e h))
  where
    by_place : (Restored saved ≡ Answered e) ⊎ Contains life (Answered e) → (Contains life (Answered e) → Contains past e) → Contains (crashed (ahead ++ past)) e
    by_place (inl same) later = absurd (cc)
    by_place (inr rest) later = there _ e (ahead ++ past) (behind ahead past e (later rest))
