-- What was found of a call that was accepted: none of its refusals, and the reply of its step.
use Rattle.std.proofs.Common.{◌≡◌, ℕ, ◌+◌, ◌<◌, ◌≤◌, Bool, true, false, length, refl, sym, arith, List}
use Rattle.std.specs.Prelude.{Option, Some, None, Ok, nat_lt, nat_le, is_none, is_some, not, ◌==◌, ◌&&◌, filter, option_map, Result}
use Rattle.std.specs.List.{list_any}
use Rattle.std.proofs.lemmas.Bool.Decides.{nat_tests}
use Rattle.machines.specs.Refusals.{first_of, unless_refused}
use Rattle.machines.specs.Answers.{with_named_reply}
use Rattle.machines.specs.Calls.{answer_of}
use Rattle.machines.proofs.Refused.{all_none, not_when}
use Rattle.assignment.specs.Slices.{Slicing}
use Rattle.grants.specs.declared.table_call.TableCall.{TableCall}
use Rattle.grants.specs.declared.table_call.TableCall.TheVariants as call
use Rattle.grants.specs.declared.table_call.TableReply.{TableReply}
use Rattle.grants.specs.declared.table_call.TableReply.TheVariants.{Term, Proposed, Committed, Granted, Freed, Lost}
use Rattle.grants.specs.declared.table_error.TableError.{TableError}
use Rattle.grants.specs.declared.table_error.TableError.TheVariants.{Held}
use Rattle.grants.specs.declared.policy.TheConstants.{READINGS}
use Rattle.grants.specs.declared.values.ReleaseNote.{ReleaseNote}
use Rattle.grants.specs.declared.values.Row.{Row}
use Rattle.grants.specs.Policies.{Terms}
use Rattle.grants.specs.Rows.{running_rows, closes, first_up_to}
use Rattle.lease_table.specs.Tables.{Standing}
use Rattle.grants.specs.Assignments.{generation_of}
use Rattle.lease_table.specs.internals.Numbers.{newest_of}
use Rattle.lease_table.specs.Steps
use Rattle.lease_table.specs.Calls.{AnsweredTableCall, reading_after, standing_after, table_step}

-- the reading of an accepted call
pub record IsReading (t : Standing) (at : ℕ) : Type 0 where
  pub low : t.last ≤ at
  pub high : at < READINGS

pub record IsTaken (t : Standing) (assigner at : ℕ) (reply : TableReply) : Type 0 where
  pub reading : IsReading t at
  pub unheld : Steps.job_held at t.term ≡ None
  pub replies : reply ≡ Term (Steps.term_taken t assigner at)

pub record IsRenewed (t : Standing) (number at : ℕ) (reply : TableReply) : Type 0 where
  pub reading : IsReading t at
  pub holder : Steps.is_holder number at t.term ≡ true
  pub replies : reply ≡ Term (Steps.renewed_term (at + t.policy.job) t.term)

pub record IsProposed (t : Standing) (number : ℕ) (slicing : Slicing) (at : ℕ) (reply : TableReply) : Type 0 where
  pub reading : IsReading t at
  pub holder : Steps.is_holder number at t.term ≡ true
  pub next : slicing.generation ≡ generation_of t.committed + 1
  pub alone : t.pending ≡ None
  pub few : list_any (λ s. nat_lt t.policy.high (length s.owners)) slicing.slices ≡ false
  pub replies : reply ≡ Proposed

pub record IsCommitted (t : Standing) (number at : ℕ) (reply : TableReply) : Type 0 where
  pub reading : IsReading t at
  pub holder : Steps.is_holder number at t.term ≡ true
  pub proposed : is_none t.pending ≡ false
  pub ended : t.grace ≤ at
  pub unheld : first_up_to (generation_of t.committed) at t.rows ≡ None
  pub replies : reply ≡ Committed (generation_of t.pending)

pub record IsGranted (t : Standing) (task life at : ℕ) (reply : TableReply) : Type 0 where
  pub reading : IsReading t at
  pub assigned : (is_none t.committed && is_none t.pending) ≡ false
  pub spare : t.granted < t.policy.numbers
  pub replies : reply ≡ Granted (Steps.grant_with t t.pending task life at)

pub record IsClosing (t : Standing) (note : ReleaseNote) (at : ℕ) (reply : TableReply) : Type 0 where
  pub reading : IsReading t at
  pub replies : reply ≡ Freed (length (filter (closes note) (running_rows at t.rows)))

pub record IsRestarted (t : Standing) (reply : TableReply) : Type 0 where
  pub replies : reply ≡ Lost (length t.rows)

-- a call was accepted with this reply
abbrev pub IsAccepted : Standing → TableCall → TableReply → Type 0
IsAccepted t (call.JobTake assigner at) reply = IsTaken t assigner at reply
IsAccepted t (call.JobRenew number at) reply = IsRenewed t number at reply
IsAccepted t (call.Propose number slicing at) reply = IsProposed t number slicing at reply
IsAccepted t (call.Commit number at) reply = IsCommitted t number at reply
IsAccepted t (call.Grant task life at) reply = IsGranted t task life at reply
IsAccepted t (call.Free note at) reply = IsClosing t note at reply
IsAccepted t call.Restart reply = IsRestarted t reply

abbrev pub IsAcceptedAfter : Terms → List AnsweredTableCall → TableCall → TableReply → Type 0
IsAcceptedAfter policy past c reply = IsAccepted (standing_after policy past) c reply

-- a call was answered by its step
abbrev pub IsAnsweredAfter : Terms → List AnsweredTableCall → TableCall → Result TableReply TableError → Type 0
IsAnsweredAfter policy past c given = given ≡ answer_of (table_step (standing_after policy past) c)

-- an answered call was not refused, and its reply is that of its step
unrefused : {R : Type 0} (name : R → TableReply) (o : Option TableError) (new : Standing) (r : R) (reply : TableReply)
    → Ok reply ≡ answer_of (with_named_reply name (unless_refused o (new, r))) → (o ≡ None) × (reply ≡ name r)
unrefused name None new r reply e = (refl, cc)
unrefused name (Some refusal) new r reply e = absurd (cc)

read : (t : Standing) (at : ℕ) → Steps.out_of_range at ≡ None → Steps.clock_back t at ≡ None → IsReading t at
read t at range back =
    let high : nat_le READINGS at ≡ false = not_when _ _ range in
    let low : nat_lt at t.last ≡ false = not_when _ _ back in
    record { low = grind (arith, nat_tests); high = grind (arith, nat_tests) }

unnot : (b : Bool) → not b ≡ false → b ≡ true
unnot true e = refl
unnot false e = absurd (cc)

unsome : (p : Option Slicing) → is_some p ≡ false → p ≡ None
unsome None e = refl
unsome (Some slicing) e = absurd (cc)

-- a proposal that is not refused is of a generation below none
pub proposed_newest : (t : Standing) (number : ℕ) (slicing : Slicing) (at : ℕ) → None ≡ first_of (Steps.propose_checks t number slicing at)
    → newest_of t.committed t.pending ≤ slicing.generation
proposed_newest t number slicing at e =
    let none = all_none (Steps.propose_checks t number slicing at) (sym e) in
    let next : (slicing.generation == generation_of t.committed + 1) ≡ true = unnot _ (not_when _ _ none.1.1.1.0) in
    let alone : t.pending ≡ None = unsome t.pending (not_when _ _ none.1.1.1.1.0) in
    let l : generation_of t.committed ≤ slicing.generation = grind (arith, nat_tests) in
    rw alone l

unheld_row : (o : Option Row) → option_map (λ row. Held row.task row.kind row.number) o ≡ None → o ≡ None
unheld_row None e = refl
unheld_row (Some row) e = absurd (cc)

module _ (t : Standing) where
  pub acceptance : (c : TableCall) (reply : TableReply) → Ok reply ≡ answer_of (table_step t c) → IsAccepted t c reply
  acceptance (call.JobTake assigner at) reply e =
      let a = unrefused Term (first_of (Steps.take_checks t at)) _ _ reply e in
      let none = all_none (Steps.take_checks t at) a.0 in
      record { reading = read t at none.0 none.1.0; unheld = none.1.1.0; replies = a.1 }
  acceptance (call.JobRenew number at) reply e =
      let a = unrefused Term (first_of (Steps.renew_checks t number at)) _ _ reply e in
      let none = all_none (Steps.renew_checks t number at) a.0 in
      record { reading = read t at none.0 none.1.0; holder = unnot _ (not_when _ _ none.1.1.0); replies = a.1 }
  acceptance (call.Propose number slicing at) reply e =
      let a = unrefused (λ _. Proposed) (first_of (Steps.propose_checks t number slicing at)) _ _ reply e in
      let none = all_none (Steps.propose_checks t number slicing at) a.0 in
      let next : (slicing.generation == generation_of t.committed + 1) ≡ true = unnot _ (not_when _ _ none.1.1.1.0) in
      record {
        reading = read t at none.0 none.1.0;
        holder = unnot _ (not_when _ _ none.1.1.0);
        next = grind (arith, nat_tests);
        alone = unsome t.pending (not_when _ _ none.1.1.1.1.0);
        few = not_when _ _ none.1.1.1.1.1.0;
        replies = a.1;
      }
  acceptance (call.Commit number at) reply e =
      let a = unrefused Committed (first_of (Steps.commit_checks t number at)) _ _ reply e in
      let none = all_none (Steps.commit_checks t number at) a.0 in
      let over : nat_lt at t.grace ≡ false = not_when _ _ none.1.1.1.1.0 in
      record {
        reading = read t at none.0 none.1.0;
        holder = unnot _ (not_when _ _ none.1.1.0);
        proposed = not_when _ _ none.1.1.1.0;
        ended = grind (arith, nat_tests);
        unheld = unheld_row _ none.1.1.1.1.1.0;
        replies = a.1;
      }
  acceptance (call.Grant task life at) reply e =
      let a = unrefused Granted (first_of (Steps.grant_checks t at)) _ _ reply e in
      let none = all_none (Steps.grant_checks t at) a.0 in
      let spent : nat_le t.policy.numbers t.granted ≡ false = not_when _ _ none.1.1.1.0 in
      record { reading = read t at none.0 none.1.0; assigned = not_when _ _ none.1.1.0; spare = grind (arith, nat_tests); replies = a.1 }
  acceptance (call.Free note at) reply e =
      let a = unrefused Freed (first_of (Steps.free_checks t note at)) _ _ reply e in
      let none = all_none (Steps.free_checks t note at) a.0 in
      record { reading = read t at none.0 none.1.0; replies = a.1 }
  acceptance call.Restart reply e = record { replies = cc }

-- the last reading after an accepted call is not below that before it
pub accepted_reading : (t : Standing) (c : TableCall) (reply : TableReply) → IsAccepted t c reply → t.last ≤ reading_after c t.last
accepted_reading t (call.JobTake assigner at) reply a = a.reading.low
accepted_reading t (call.JobRenew number at) reply a = a.reading.low
accepted_reading t (call.Propose number slicing at) reply a = a.reading.low
accepted_reading t (call.Commit number at) reply a = a.reading.low
accepted_reading t (call.Grant task life at) reply a = a.reading.low
accepted_reading t (call.Free note at) reply a = a.reading.low
accepted_reading t call.Restart reply a = omega arith
