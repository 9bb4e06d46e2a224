-- What the samples of task clocks say of the drift of a job's clocks.
use Rattle.std.specs.Prelude.{◌≡◌, ℕ, ◌==◌, ◌^◌, ◌-◌, nat_lt, List, [], ◌∷◌, reverse, take, Option, Some, None, Result, Ok, Err, slice_get, if◌then◌else◌}
use Rattle.grants.specs.declared.slicelet_call.SliceletCall.TheVariants as task_call
use Rattle.job_calls.specs.declared.call.ClusterCall.TheVariants as call
use Rattle.clocks.specs.declared.drift.Drift.{Drift}
use Rattle.clocks.specs.declared.refusal.ClockRefusal.{ClockRefusal}
use Rattle.clocks.specs.declared.refusal.ClockRefusal.TheVariants.{LocalClockBack}
use Rattle.clocks.specs.declared.task_clock.TaskClock.{TaskClock}
use Rattle.clocks.specs.Pasts.{Past, Sampled}
use Rattle.clocks.specs.TaskClocks.{read_answer}
use Rattle.clocks.specs.Timely.{clock_after}
use Rattle.log_line.specs.declared.line.LoggedCall.{LoggedCall}
use Rattle.log_line.specs.declared.line.LoggedCall.TheVariants.{Whole, Sample}
use Rattle.log_line.specs.declared.line.TaskSample.{TaskSample}
use Rattle.log_run.specs.declared.drift.ClockFault.{ClockFault}
use Rattle.log_run.specs.declared.drift.ClockFault.TheVariants.{Back, SentAhead, Beyond}
use Rattle.log_run.specs.declared.drift.DriftFault.{DriftFault}
use Rattle.log_line.specs.declared.entry.LogEntry.{LogEntry}

-- the samples among what happens to a task's clock
abbrev pub samples_in : Past → Past
samples_in [] = []
samples_in (Sampled now sample ∷ past) = Sampled now sample ∷ samples_in past
samples_in (_ ∷ past) = samples_in past

-- the sample that a call takes, and the task of which it begins a process
abbrev pub sample_in : LoggedCall → Option TaskSample
sample_in (Sample taken) = Some taken
sample_in _ = None

abbrev pub begins : LoggedCall → Option ℕ
begins (Whole (call.Task task (task_call.Resume life))) = Some task
begins _ = None

-- a process of a task begins anew
abbrev pub past_begun : ℕ → Option ℕ → Past → Past
past_begun task None past = past
past_begun task (Some by) past = if by == task then [] else past

-- a task took a sample
abbrev pub past_sampled : ℕ → Option TaskSample → Past → Past
past_sampled task None past = past
past_sampled task (Some taken) past = if taken.task == task then Sampled taken.now taken.sample ∷ past else past

-- the samples that the clock of a task's last process took, by entries that are newest first
abbrev pub samples_of : ℕ → List LogEntry → Past
samples_of task [] = []
samples_of task (entry ∷ entries) = past_sampled task (sample_in entry.line.call) (past_begun task (begins entry.line.call) (samples_of task entries))

-- a task's clock after these samples; they may be of any age
abbrev pub task_clock : Drift → ℕ → List LogEntry → TaskClock
task_clock drift task entries = clock_after drift (2 ^ 64 - 1) (samples_of task entries)

-- a sample says that the table read more than this
abbrev pub beyond : ℕ → Result ℕ ClockRefusal → Option ClockFault
beyond reading (Ok most) = if nat_lt most reading then Some (Beyond most) else None
beyond reading (Err why) = None

abbrev pub fault_by : TaskSample → Result ℕ ClockRefusal → Option ClockFault
fault_by taken (Err LocalClockBack) = Some Back
fault_by taken answer = if nat_lt taken.now taken.sample.sent then Some SentAhead else beyond taken.sample.reading answer

-- what is wrong with a sample that a clock takes next, by what the clock answers when the sample is taken
abbrev pub fault_of : TaskClock → TaskSample → Option ClockFault
fault_of clock taken = fault_by taken (read_answer clock taken.now)

-- what is wrong with the sample of an entry after these, newest first
abbrev pub fault_in : Drift → List LogEntry → Option TaskSample → Option ClockFault
fault_in drift entries None = None
fault_in drift entries (Some taken) = fault_of (task_clock drift taken.task entries) taken

abbrev pub fault_at : Drift → List LogEntry → LogEntry → Option ClockFault
fault_at drift entries entry = fault_in drift entries (sample_in entry.line.call)

-- no sample of these entries is wrong, newest first
abbrev pub AreWithinDrift : Drift → List LogEntry → Type 0
AreWithinDrift drift [] = Unit {0}
AreWithinDrift drift (entry ∷ entries) = (fault_at drift entries entry ≡ None) × AreWithinDrift drift entries

-- the entry at this place has a sample that is wrong so, and those before it have none
pub record IsDriftFault (drift : Drift) (entries : List LogEntry) (fault : DriftFault) : Type 0 where
  pub entry : LogEntry
  pub here : slice_get entries fault.index ≡ Some entry
  pub takes : sample_in entry.line.call ≡ Some fault.taken
  pub wrong : fault_at drift (reverse (take fault.index entries)) entry ≡ Some fault.why
  pub first : AreWithinDrift drift (reverse (take fault.index entries))

abbrev pub IsDriftFinding : Drift → List LogEntry → Option DriftFault → Type 0
IsDriftFinding drift entries None = AreWithinDrift drift (reverse entries)
IsDriftFinding drift entries (Some fault) = IsDriftFault drift entries fault
