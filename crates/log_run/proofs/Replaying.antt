-- Calls of a log that are played one after another.
use Rattle.std.proofs.Common.{◌≡◌, ℕ, ◌+◌, ◌<◌, ◌≤◌, max, false, List, [], ◌∷◌, ◌++◌, map, length, get_or, take, reverse, sym, ◌∙◌, ap, subst, arith}
use Rattle.std.specs.Prelude.{Option, Some, None}
use Rattle.std.specs.List.{AllByRecursion}
use Rattle.std.proofs.lemmas.List.{take_more, reverse-append}
use Rattle.std.proofs.lemmas.Option.{slice_get-get_or}
use Rattle.job_calls.specs.Jobs.{Job}
use Rattle.cluster.specs.continued.Jobs.{Continued, job_in}
use Rattle.job_calls.specs.declared.timing.Reading.{Reading}
use Rattle.job_calls.specs.declared.timing.Reading.TheVariants.{TableClock, TaskClock, NoClock}
use Rattle.job_calls.specs.Readings.{reading}
use Rattle.cluster.specs.Pasts.{Past, readings}
use Rattle.cluster.specs.Timing.{IsNear, IsTimely, greatest_reading}
use Rattle.cluster.specs.continued.Runs.{IsRun}
use Rattle.log_run.specs.declared.log_machines.LogMachines.{LogMachines}
use Rattle.log_line.specs.declared.told.CallerReply.{CallerReply}
use Rattle.log_line.specs.declared.entry.LogEntry.{LogEntry}
use Rattle.log_run.specs.declared.late.Late.{Late}
use Rattle.log_line.specs.declared.line.LoggedCall.{LoggedCall}
use Rattle.log_line.specs.declared.line.LoggedCall.TheVariants.{Whole, HearBare, LearnBare, Restore, Sample}
use Rattle.log_run.specs.declared.held.HeldLeases.{HeldLeases}
use Rattle.log_line.specs.declared.restored.KeptNumbers.{KeptNumbers}
use Rattle.log_line.specs.declared.restored.RestoreFault.{RestoreFault}
use Rattle.log_run.specs.Calls.{held_by_asked}
use Rattle.log_line.specs.Calls.{reading_in}
use Rattle.log_run.specs.Late.{AreWatched}
use Rattle.log_run.specs.Restores.{IsTaken, grant_to_nobody}
use Rattle.log_line.specs.Told.{is_worded}
use Rattle.log_run.specs.Played.{StandsFor}
use Rattle.log_run.specs.OneRun.{IsPastOf, Tells, IsOneRun, IsBreak}
use Rattle.log_run.specs.Outcomes.{IsStopped}
use Rattle.log_run.specs.internals.Answers.{IsAnswered}
use Rattle.log_run.specs.internals.Machines.{HavePlayed}
use Rattle.log_run.proofs.Watching.{free_of_clock, free_of_table}

-- what is known once some calls were played
pub record IsPlayedTo (job : Continued) (entries : List LogEntry) (machines : LogMachines) : Type 0 where
  pub past : Past
  pub told : IsPastOf job (reverse entries) past
  pub played : HavePlayed job past machines

module _ (entries : List LogEntry) (i : ℕ) (entry : LogEntry) (low : i < length entries) (here : entry ≡ get_or entries i entry) where
  pub one_more : reverse (take (i + 1) entries) ≡ entry ∷ reverse (take i entries)
  one_more =
      ap reverse (take_more entries i entry low ∙ ap (λ (e : LogEntry). take i entries ++ e ∷ []) (sym here))
      ∙ reverse-append (take i entries) (entry ∷ [])

  -- a line whose caller was told the machines' reply
  pub played_more : (job : Continued) (machines next : LogMachines) (known : IsPlayedTo job (take i entries) machines)
      → IsAnswered job known.past entry.line None next → IsPlayedTo job (take (i + 1) entries) next
  played_more job machines next known answered = record {
    past = answered.played.after;
    told = subst (λ (es : List LogEntry). IsPastOf job es answered.played.after) (sym one_more)
        (known.past, answered.told, answered.played.stands, answered.compared, known.told);
    played = answered.played.played;
  }

  -- a line whose caller was told otherwise
  pub breaks_here : (job : Continued) (past : Past) (next : LogMachines) (wanted : CallerReply) (held : Option HeldLeases) → IsPastOf job (reverse (take i entries)) past
      → (answered : IsAnswered job past entry.line (Some wanted) next) → IsRun job answered.played.after
      → held ≡ held_by_asked (job_in job) answered.played.after entry.line.call → IsBreak job entries i wanted held
  breaks_here job past next wanted held told answered run leases =
      let is : answered.told ≡ wanted = sym answered.compared.0 in
      record {
        entry = entry;
        here = slice_get-get_or entries i entry low ∙ ap (λ (e : LogEntry). Some e) (sym here);
        past = past;
        told = told;
        after = answered.played.after;
        stands = subst (λ (t : CallerReply). StandsFor (job_in job) past entry.line.call t answered.played.after) is answered.played.stands;
        answered = run;
        other = subst (λ (t : CallerReply). is_worded entry.line.reply t ≡ false) is answered.compared.1;
        leases = leases;
      }

  -- the same, with the machines that have played it
  pub stops_here : (job : Continued) (past : Past) (next : LogMachines) (wanted : CallerReply) (held : Option HeldLeases)
      → IsPastOf job (reverse (take i entries)) past → (answered : IsAnswered job past entry.line (Some wanted) next) → IsRun job answered.played.after
      → held ≡ held_by_asked (job_in job) answered.played.after entry.line.call → IsStopped job entries i wanted held next
  unfolding breaks_here
  stops_here job past next wanted held told answered run leases = record {
    fault = breaks_here job past next wanted held told answered run leases;
    played = answered.played.played;
  }

-- READINGS: where those of the lines are timely, so are those of the calls that the lines stand for

no_clock : (skew : ℕ) (late : Reading) → IsNear skew late NoClock
no_clock skew (TableClock at) = tt
no_clock skew (TaskClock at) = tt
no_clock skew NoClock = tt

module _ (skew : ℕ) where
  abbrev AreNear : Reading → List Reading → Type 0
  AreNear late before = AllByRecursion (IsNear skew late) before

  near_ahead : (late : Reading) (at : ℕ) (ahead before : Past) → AllByRecursion (λ e. e.call ≡ grant_to_nobody at) ahead → IsNear skew late (TableClock at)
      → AreNear late (readings before) → AreNear late (readings (ahead ++ before))
  near_ahead late at [] before nobody near all = all
  near_ahead late at (e ∷ ahead) before nobody near all =
      (subst (IsNear skew late) (sym (ap reading nobody.0)) near, near_ahead late at ahead before nobody.1 near all)

  near_taken : (late : Reading) (fault : Option RestoreFault) (granted : ℕ) (numbers : KeptNumbers) (before after : Past) → IsTaken fault granted numbers before after
      → IsNear skew late (TableClock numbers.last) → AreNear late (readings before) → AreNear late (readings after)
  near_taken late None granted numbers before after taken near all =
      subst (λ (p : Past). AreNear late (readings p)) (sym taken.events) (no_clock skew late, near_ahead late numbers.last taken.ahead before taken.nobody near all)
  near_taken late (Some fault) granted numbers before after taken near all = subst (λ (p : Past). AreNear late (readings p)) (sym taken) all

  near_one : (job : Job) (late : Reading) (before after : Past) (c : LoggedCall) (told : CallerReply) → StandsFor job before c told after → IsNear skew late (reading_in c)
      → AreNear late (readings before) → AreNear late (readings after)
  near_one job late before after (Whole c) told s near all = subst (λ (p : Past). AreNear late (readings p)) (sym s.made) (near, all)
  near_one job late before after (HearBare task grant at) told s near all = subst (λ (p : Past). AreNear late (readings p)) (sym s.made) (near, all)
  near_one job late before after (LearnBare clerk generation) told s near all = subst (λ (p : Past). AreNear late (readings p)) (sym s.made) (near, all)
  near_one job late before after (Restore numbers) told s near all = near_taken late s.fault _ numbers before after s.taken near all
  near_one job late before after (Sample taken) told s near all = subst (λ (p : Past). AreNear late (readings p)) (sym s.made) all

  timely_ahead : (at : ℕ) (ahead before : Past) → AllByRecursion (λ e. e.call ≡ grant_to_nobody at) ahead → IsTimely skew (readings before)
      → IsTimely skew (readings (ahead ++ before))
  timely_ahead at [] before nobody timely = timely
  timely_ahead at (e ∷ ahead) before nobody timely =
      let rest : List Reading = readings (ahead ++ before) in
      (subst (λ (r : Reading). AreNear r rest) (sym (ap reading nobody.0)) (free_of_table skew at rest), timely_ahead at ahead before nobody.1 timely)

  pub timely_taken : (fault : Option RestoreFault) (granted : ℕ) (numbers : KeptNumbers) (before after : Past) → IsTaken fault granted numbers before after
      → IsTimely skew (readings before) → IsTimely skew (readings after)
  timely_taken None granted numbers before after taken timely =
      subst (λ (p : Past). IsTimely skew (readings p)) (sym taken.events)
      (free_of_clock skew (readings (taken.ahead ++ before)), timely_ahead numbers.last taken.ahead before taken.nobody timely)
  timely_taken (Some fault) granted numbers before after taken timely = subst (λ (p : Past). IsTimely skew (readings p)) (sym taken) timely

  timely_one : (job : Job) (before after : Past) (c : LoggedCall) (told : CallerReply) → StandsFor job before c told after → AreNear (reading_in c) (readings before)
      → IsTimely skew (readings before) → IsTimely skew (readings after)
  timely_one job before after (Whole c) told s near timely = subst (λ (p : Past). IsTimely skew (readings p)) (sym s.made) (near, timely)
  timely_one job before after (HearBare task grant at) told s near timely = subst (λ (p : Past). IsTimely skew (readings p)) (sym s.made) (near, timely)
  timely_one job before after (LearnBare clerk generation) told s near timely = subst (λ (p : Past). IsTimely skew (readings p)) (sym s.made) (near, timely)
  timely_one job before after (Restore numbers) told s near timely = timely_taken s.fault _ numbers before after s.taken timely
  timely_one job before after (Sample taken) told s near timely = subst (λ (p : Past). IsTimely skew (readings p)) (sym s.made) timely

  -- near to the greatest reading of the table's clock is near to all
  near_max : (at table greatest : ℕ) → max table greatest ≤ at + skew → (table ≤ at + skew) × (greatest ≤ at + skew)
  near_max at table greatest near = (grind (arith, near), grind (arith, near))

  near_earlier : (late : Reading) (rs : List Reading) → IsNear skew late (TableClock (greatest_reading rs)) → AreNear late rs
  near_earlier late [] near = tt
  near_earlier (TaskClock at) (TableClock table ∷ rs) near =
      let both = near_max at table (greatest_reading rs) near in
      (both.0, near_earlier (TaskClock at) rs both.1)
  near_earlier (TaskClock at) (TaskClock other ∷ rs) near = (tt, near_earlier (TaskClock at) rs near)
  near_earlier (TaskClock at) (NoClock ∷ rs) near = (tt, near_earlier (TaskClock at) rs near)
  near_earlier (TableClock at) (r ∷ rs) near = free_of_table skew at (r ∷ rs)
  near_earlier NoClock (r ∷ rs) near = free_of_clock skew (r ∷ rs)

  module _ (job : Continued) where
    -- the readings of lines, after the greatest one of the table's clock in the calls before
    abbrev lines_read : List LogEntry → List Reading
    lines_read entries = map (λ (e : LogEntry). reading_in e.line.call) entries ++ TableClock (greatest_reading (readings job.earlier)) ∷ []

    near_all : (late : Reading) (entries : List LogEntry) (past : Past) → IsPastOf job entries past → AreNear late (lines_read entries) → AreNear late (readings past)
    near_all late [] past told near = subst (λ (p : Past). AreNear late (readings p)) (sym told) (near_earlier late (readings job.earlier) near.0)
    near_all late (entry ∷ entries) past told near =
        near_one (job_in job) late told.0 past entry.line.call told.1 told.2 near.0 (near_all late entries told.0 told.4 near.1)

    timely_all : (entries : List LogEntry) (past : Past) → IsPastOf job entries past → IsTimely skew (lines_read entries) → IsTimely skew (readings job.earlier)
        → IsTimely skew (readings past)
    timely_all [] past told timely before = subst (λ (p : Past). IsTimely skew (readings p)) (sym told) before
    timely_all (entry ∷ entries) past told timely before =
        timely_one (job_in job) told.0 past entry.line.call told.1 told.2 (near_all (reading_in entry.line.call) entries told.0 told.4 timely.0)
        (timely_all entries told.0 told.4 timely.1 before)

pub tells : (job : Continued) (entries : List LogEntry) (past : Past) (late : Option Late) → IsPastOf job (reverse entries) past
    → AreWatched job.policy.skew (greatest_reading (readings job.earlier)) entries late → Tells job entries past late
tells job entries past None told watched = λ before. timely_all job.policy.skew job (reverse entries) past told watched before
tells job entries past (Some late) told watched = watched

-- all callers were told the machines' replies
pub one_run : (job : Continued) (entries : List LogEntry) (machines : LogMachines) (steps : ℕ) (late : Option Late) → (known : IsPlayedTo job entries machines)
    → IsRun job known.past → steps ≡ length entries → AreWatched job.policy.skew (greatest_reading (readings job.earlier)) entries late
    → IsOneRun job entries steps late
one_run job entries machines steps late known answered count watched = record {
  past = known.past;
  told = known.told;
  answered = answered;
  count = count;
  clocks = tells job entries known.past late known.told watched;
}
