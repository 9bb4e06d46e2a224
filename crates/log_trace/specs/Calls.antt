-- The calls of entries, each at the number of its entry, from 1.
use Rattle.std.specs.Prelude.{◌≡◌, ℕ, ◌+◌, List, [], ◌∷◌, ◌++◌, length, map}
use Rattle.cluster.specs.Pasts.{Event, Past}
use Rattle.cluster.specs.continued.Jobs.{Continued, job_in}
use Rattle.reasons.specs.Placed.{Placed}
use Rattle.log_line.specs.declared.told.CallerReply.{CallerReply}
use Rattle.log_line.specs.declared.entry.LogEntry.{LogEntry}
use Rattle.log_run.specs.Played.{StandsFor}

-- a call at a place
abbrev pub placed_at : ℕ → Event → Placed
placed_at place e = record { place = place; event = e }

-- after some calls with their places more calls were made, all at this place
pub record AreMadeAt (place : ℕ) (before : Past) (placed_before : List Placed) (after : Past) (placed : List Placed) : Type 0 where
  pub made : List Event
  pub calls : after ≡ made ++ before
  pub places : placed ≡ map (placed_at place) made ++ placed_before

-- the calls of a past are those before, and then those that these entries stand for, both newest first, each at the number of its entry, whatever
-- their callers were told
abbrev pub AreCallsAt : Continued → List LogEntry → List Placed → Past → Type 0
AreCallsAt job [] placed past = (placed ≡ []) × (past ≡ job.earlier)
AreCallsAt job (entry ∷ entries) placed past =
    (before : Past) × (placed_before : List Placed) × (told : CallerReply) × StandsFor (job_in job) before entry.line.call told past
    × AreMadeAt (length entries + 1) before placed_before past placed × AreCallsAt job entries placed_before before
