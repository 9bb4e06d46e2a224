-- The number of each answer, as C gets it. A number never changes its meaning.
use Rattle.std.specs.Prelude.{ℤ, pos, negsuc}
use Rattle.lease_rule.specs.declared.answer.Ground.{Ground}
use Rattle.lease_rule.specs.declared.answer.Ground.TheVariants as ground
use Rattle.slice_ranges.specs.declared.error.RangesError.{RangesError}
use Rattle.slice_ranges.specs.declared.error.RangesError.TheVariants as pairs
use Rattle.assignment.specs.declared.error.AssignmentError.{AssignmentError}
use Rattle.assignment.specs.declared.error.AssignmentError.TheVariants as slices
use Rattle.grants.specs.declared.slicelet_error.SliceletError.{SliceletError}
use Rattle.grants.specs.declared.slicelet_error.SliceletError.TheVariants as task
use Rattle.grants.specs.declared.table_error.TableError.{TableError}
use Rattle.grants.specs.declared.table_error.TableError.TheVariants as table
use Rattle.grants.specs.declared.kept.KeptFault.{KeptFault}
use Rattle.grants.specs.declared.kept.KeptFault.TheVariants as kept
use Rattle.weighted_move.specs.declared.error.PlanError.{PlanError}
use Rattle.weighted_move.specs.declared.error.PlanError.TheVariants as planning
use Rattle.load_ledger.specs.declared.error.LoadError.{LoadError}
use Rattle.load_ledger.specs.declared.error.LoadError.TheVariants as loads
use Rattle.clocks.specs.declared.refusal.ClockRefusal.{ClockRefusal}
use Rattle.clocks.specs.declared.refusal.ClockRefusal.TheVariants as clock
use Rattle.wire.specs.declared.fault.DecodeRefusal.{DecodeRefusal}
use Rattle.wire.specs.declared.fault.DecodeRefusal.TheVariants as refusal
use Rattle.c_calls.specs.declared.answer.Answer.{Answer}
use Rattle.c_calls.specs.declared.answer.Answer.TheVariants as answer

-- why a key is not served
abbrev pub ground_number : Ground → ℤ
ground_number ground.Down = pos 1
ground_number ground.ClockBack = pos 2
ground_number ground.Ended = pos 3
ground_number (ground.NotOwned generation) = pos 4
ground_number ground.NoLease = pos 5

-- why a slicelet refuses a call
abbrev pub slicelet_number : SliceletError → ℤ
slicelet_number task.ClockBack = pos 2
slicelet_number task.NotStarted = pos 6
slicelet_number task.OldLife = pos 7
slicelet_number task.OtherTask = pos 8
slicelet_number task.OtherLife = pos 9
slicelet_number (task.Old heard) = pos 10
slicelet_number task.TooLate = pos 11
slicelet_number task.NothingHeld = pos 12
slicelet_number task.HistoryFull = pos 13

-- why a table refuses a call
abbrev pub table_number : TableError → ℤ
table_number table.ClockBack = pos 2
table_number table.ReadingRange = pos 16
table_number (table.JobHeld until) = pos 17
table_number (table.NotHolder term) = pos 18
table_number (table.StaleBase generation) = pos 19
table_number table.Pending = pos 20
table_number table.NothingPending = pos 21
table_number table.TooManyOwnersForJob = pos 22
table_number (table.Grace until) = pos 23
table_number (table.Held task kind number) = pos 24
table_number table.NoRow = pos 25
table_number table.NoAssignment = pos 26
table_number table.NumbersSpent = pos 27

-- why there is no plan
abbrev pub plan_number : PlanError → ℤ
plan_number planning.NoTasks = pos 31
plan_number planning.LoadsLength = pos 32
plan_number planning.LoadRange = pos 33

-- why a clock refuses a call
abbrev pub clock_number : ClockRefusal → ℤ
clock_number clock.LocalClockBack = pos 2
clock_number clock.SentAhead = pos 34
clock_number clock.NoSample = pos 35
clock_number clock.TooOld = pos 36
clock_number clock.TooLarge = pos 37
clock_number (clock.NotYet until) = pos 38

-- why no table is restored from kept values
abbrev pub kept_number : KeptFault → ℤ
kept_number kept.ReadingRange = pos 16
kept_number kept.TooManyOwnersForJob = pos 22
kept_number kept.NoAssignment = pos 26
kept_number kept.OtherPolicy = pos 39
kept_number kept.NoTerm = pos 40
kept_number kept.TermRange = pos 41
kept_number kept.Generation = pos 42
kept_number kept.TooManyGrants = pos 43
kept_number kept.DeadlineRange = pos 44

-- why records of work are not counted
abbrev pub load_number : LoadError → ℤ
load_number loads.WeightRange = pos 45
load_number loads.TotalRange = pos 46

-- why pairs make no set of keys
abbrev pub ranges_number : RangesError → ℤ
ranges_number pairs.PastEnd = negsuc 6
ranges_number pairs.Unsorted = negsuc 7
ranges_number pairs.Empty = negsuc 8

-- why slices make no assignment
abbrev pub slices_number : AssignmentError → ℤ
slices_number slices.PastEnd = negsuc 6
slices_number slices.NoSlices = negsuc 9
slices_number slices.FirstNotZero = negsuc 10
slices_number slices.NotRising = negsuc 11
slices_number slices.NoOwner = negsuc 12
slices_number slices.TooManyOwners = negsuc 13
slices_number slices.OwnerTwice = negsuc 14
slices_number slices.BadTask = negsuc 15
slices_number slices.TooManySlices = negsuc 16

-- why bytes are no message of a type
abbrev pub unread_number : DecodeRefusal → ℤ
unread_number refusal.NotJson = negsuc 2
unread_number (refusal.Version version) = negsuc 3
unread_number refusal.OtherType = negsuc 4
unread_number refusal.TooLong = negsuc 5
unread_number refusal.RepeatedMember = negsuc 5
unread_number refusal.WrongForm = negsuc 5
unread_number refusal.OtherJob = negsuc 19
unread_number (refusal.Slices why) = slices_number why
unread_number (refusal.Ranges why) = ranges_number why

abbrev pub answer_number : Answer → ℤ
answer_number answer.Done = pos 0
answer_number (answer.Leased lease) = pos 0
answer_number (answer.Denied why) = ground_number why
answer_number (answer.Slicelet why) = slicelet_number why
answer_number answer.ManyOwners = pos 47
answer_number answer.Fenced = pos 48
answer_number answer.Broken = pos 14
answer_number answer.Stranger = pos 15
answer_number (answer.Committed generation) = pos 0
answer_number (answer.Table why) = table_number why
answer_number (answer.Clock why) = clock_number why
answer_number (answer.Kept why) = kept_number why
answer_number (answer.OldGeneration generation) = pos 28
answer_number answer.Unknown = pos 29
answer_number answer.NotAdopted = pos 30
answer_number (answer.Plan why) = plan_number why
answer_number (answer.Load why) = load_number why
answer_number answer.NoMemory = negsuc 0
answer_number answer.NoRoom = negsuc 1
answer_number (answer.Unread why) = unread_number why
answer_number answer.WrongForm = negsuc 5
answer_number answer.OtherPlace = negsuc 17
