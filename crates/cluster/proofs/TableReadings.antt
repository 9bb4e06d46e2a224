-- The table's last reading is that of an earlier call.
use Rattle.std.proofs.Common.{◌≡◌, ℕ, List, [], ◌∷◌, refl, sym, ◌∙◌, ap, subst, inl, inr, ◌⊎◌}
use Rattle.std.specs.Prelude.{Option, Some, None, Contains}
use Rattle.lease_table.specs.Calls.{AnsweredTableCall, last_reading, or_before}
use Rattle.grants.specs.TableCalls.{reading_of}
use Rattle.grants.proofs.Members.{here, there}
use Rattle.job_calls.specs.declared.timing.Reading.{Reading}
use Rattle.job_calls.specs.declared.timing.Reading.TheVariants.{TableClock}
use Rattle.cluster.specs.Pasts.{Event, Past, readings, table_calls}
use Rattle.job_calls.specs.Readings.{at_table, reading}
use Rattle.cluster.specs.Promises.{WasRead}
use Rattle.cluster.proofs.Adding.{AddsTableCall, adds_to_table}

-- a table that was called read 0, or it was read by a call of it
abbrev pub IsLastRead : Past → ℕ → Type 0
IsLastRead past at = (at ≡ 0) ⊎ WasRead past at

read_later : (e : Event) (past : Past) (at : ℕ) → IsLastRead past at → IsLastRead (e ∷ past) at
read_later e past at (inl zero) = inl zero
read_later e past at (inr was) = inr (there (reading e.call) (TableClock at) (readings past) was)

read_now : (past : Past) (e : Event) (new : AddsTableCall past e) (o : Option ℕ) → o ≡ reading_of new.made → IsLastRead past (last_reading (table_calls past))
    → IsLastRead (e ∷ past) (or_before o (last_reading (table_calls past)))
read_now past e new None read h = read_later e past (last_reading (table_calls past)) h
read_now past e new (Some at) read h =
    let same : reading e.call ≡ TableClock at = ap (λ (x : Event). reading x.call) new.is ∙ ap at_table (sym read) in
    inr (subst (λ (r : Reading). Contains (readings (e ∷ past)) r) same (here (reading e.call) (readings past)))

pub last_read : (past : Past) → IsLastRead past (last_reading (table_calls past))
last_read [] = inl refl
last_read (e ∷ past) =
    let h = last_read past in
    elim (adds_to_table past e) [
      | inl same ↦ subst (λ (calls : List AnsweredTableCall). IsLastRead (e ∷ past) (last_reading calls)) (sym same) (read_later e past (last_reading (table_calls past)) h)
      | inr new ↦ subst (λ (calls : List AnsweredTableCall). IsLastRead (e ∷ past) (last_reading calls)) (sym new.added) (read_now past e new (reading_of new.made) refl h)
    ]
