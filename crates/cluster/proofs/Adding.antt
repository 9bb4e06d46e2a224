-- What one more event adds to what each actor accepted, and to the notes.
use Rattle.std.proofs.Common.{◌≡◌, ℕ, Bool, true, false, List, ◌∷◌, ◌++◌, refl, sym, ◌∙◌, ap, inl, inr, ◌⊎◌, eqb-true}
use Rattle.std.specs.Prelude.{◌==◌, Ok, if◌then◌else◌}
use Rattle.machines.specs.Calls.{answered_call}
use Rattle.grants.specs.declared.table_call.TableCall.{TableCall}
use Rattle.grants.specs.declared.table_call.TableReply.{TableReply}
use Rattle.grants.specs.declared.slicelet_call.SliceletCall.{SliceletCall}
use Rattle.grants.specs.declared.slicelet_call.SliceletReply.{SliceletReply}
use Rattle.slicelet.specs.Accepted.{notes_of}
use Rattle.job_calls.specs.declared.call.ClusterCall.{ClusterCall}
use Rattle.job_calls.specs.declared.call.ClusterCall.TheVariants as call
use Rattle.job_calls.specs.declared.reply.ClusterReply.{ClusterReply}
use Rattle.job_calls.specs.declared.reply.ClusterReply.TheVariants as reply
use Rattle.cluster.specs.Pasts.{Event, event, Past, is_accepted, table_calls, task_calls}
use Rattle.cluster.specs.Made.{notes_made}

-- an event is an accepted call of the table
pub record AddsTableCall (past : Past) (e : Event) : Type 0 where
  pub made : TableCall
  pub told : TableReply
  pub is : e ≡ event (call.Table made) (reply.Table told)
  pub added : table_calls (e ∷ past) ≡ answered_call made (Ok told) ∷ table_calls past

abbrev AddsToTable : Past → Event → Type 0
AddsToTable past e = (table_calls (e ∷ past) ≡ table_calls past) ⊎ AddsTableCall past e

told_table : (past : Past) (c : TableCall) (told : ClusterReply) → AddsToTable past (event (call.Table c) told)
told_table past c (reply.Table r) = inr record { made = c; told = r; is = refl; added = refl }
told_table past c _ = inl refl

called_table : (past : Past) (c : ClusterCall) (told : ClusterReply) → AddsToTable past (event c told)
called_table past (call.Table c) told = told_table past c told
called_table past _ told = inl refl

pub adds_to_table : (past : Past) (e : Event) → (table_calls (e ∷ past) ≡ table_calls past) ⊎ AddsTableCall past e
adds_to_table past e = called_table past e.call e.reply

-- an event is an accepted call of a task
pub record AddsTaskCall (task : ℕ) (past : Past) (e : Event) : Type 0 where
  pub made : SliceletCall
  pub told : ClusterReply
  pub is : e ≡ event (call.Task task made) told
  pub accepted : is_accepted told ≡ true
  pub added : task_calls task (e ∷ past) ≡ made ∷ task_calls task past

abbrev AddsToTask : ℕ → Past → Event → Type 0
AddsToTask task past e = (task_calls task (e ∷ past) ≡ task_calls task past) ⊎ AddsTaskCall task past e

called_by : (task by : ℕ) (past : Past) (c : SliceletCall) (told : ClusterReply) → AddsToTask task past (event (call.Task by c) told)
called_by task by past c told = by_tests (by == task) refl (is_accepted told) refl
  where
    calls : List SliceletCall
    calls = task_calls task past

    by_tests : (own : Bool) → own ≡ (by == task) → (taken : Bool) → taken ≡ is_accepted told → AddsToTask task past (event (call.Task by c) told)
    by_tests true own true taken = inr record {
      made = c;
      told = told;
      is = ap (λ (n : ℕ). event (call.Task n c) told) (eqb-true by task (sym own));
      accepted = sym taken;
      added = ap (λ (b : Bool). if b then (if is_accepted told then c ∷ calls else calls) else calls) (sym own) ∙ ap (λ (b : Bool). if b then c ∷ calls else calls) (sym taken);
    }
    by_tests true own false taken =
        inl (ap (λ (b : Bool). if b then (if is_accepted told then c ∷ calls else calls) else calls) (sym own) ∙ ap (λ (b : Bool). if b then c ∷ calls else calls) (sym taken))
    by_tests false own b taken = inl (ap (λ (b : Bool). if b then (if is_accepted told then c ∷ calls else calls) else calls) (sym own))

called_task : (task : ℕ) (past : Past) (c : ClusterCall) (told : ClusterReply) → AddsToTask task past (event c told)
called_task task past (call.Task by c) told = called_by task by past c told
called_task task past _ told = inl refl

pub adds_to_task : (task : ℕ) (past : Past) (e : Event) → (task_calls task (e ∷ past) ≡ task_calls task past) ⊎ AddsTaskCall task past e
adds_to_task task past e = called_task task past e.call e.reply

-- an event made what notes its reply has
pub record AddsNotes (past : Past) (e : Event) : Type 0 where
  pub task : ℕ
  pub made : SliceletCall
  pub told : SliceletReply
  pub is : e ≡ event (call.Task task made) (reply.Task told)
  pub added : notes_made (e ∷ past) ≡ notes_of told ++ notes_made past

abbrev AddsToNotes : Past → Event → Type 0
AddsToNotes past e = (notes_made (e ∷ past) ≡ notes_made past) ⊎ AddsNotes past e

told_notes : (past : Past) (task : ℕ) (c : SliceletCall) (told : ClusterReply) → AddsToNotes past (event (call.Task task c) told)
told_notes past task c (reply.Task told) = inr record { task = task; made = c; told = told; is = refl; added = refl }
told_notes past task c _ = inl refl

called_notes : (past : Past) (c : ClusterCall) (told : ClusterReply) → AddsToNotes past (event c told)
called_notes past (call.Task task c) told = told_notes past task c told
called_notes past _ told = inl refl

pub adds_to_notes : (past : Past) (e : Event) → (notes_made (e ∷ past) ≡ notes_made past) ⊎ AddsNotes past e
adds_to_notes past e = called_notes past e.call e.reply
