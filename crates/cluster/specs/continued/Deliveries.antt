-- What is known of all that was made so far, and which calls deliver nothing else.
use Rattle.std.specs.Prelude.{ℕ, Bool, false, not, Option, None, if◌then◌else◌}
use Rattle.machines.specs.Refusals.{when}
use Rattle.machines.specs.Numbers.{is_within}
use Rattle.assignment.specs.Slices.{Slicing}
use Rattle.grants.specs.declared.table_call.TableCall.{TableCall}
use Rattle.grants.specs.declared.table_call.TableCall.TheVariants.{JobTake, Grant as Ask, Free}
use Rattle.grants.specs.declared.values.Grant.{Grant}
use Rattle.grants.specs.declared.values.ReleaseNote.{ReleaseNote}
use Rattle.key_handle.specs.declared.handle.KeyHandle.{KeyHandle}
use Rattle.grants.specs.declared.slicelet_call.SliceletCall.{SliceletCall}
use Rattle.grants.specs.declared.slicelet_call.SliceletCall.TheVariants.{Hear}
use Rattle.clerk.specs.declared.call.ClerkCall.{ClerkCall}
use Rattle.clerk.specs.declared.call.ClerkCall.TheVariants.{Learn}
use Rattle.job_calls.specs.declared.error.ClusterError.{ClusterError}
use Rattle.job_calls.specs.declared.error.ClusterError.TheVariants.{NoActor, NotSent}
use Rattle.cluster.specs.Numbers.{with_number}
use Rattle.cluster.specs.Pasts.{Past, grants, published}
use Rattle.cluster.specs.Made.{is_sent, is_made, is_given, is_published}
use Rattle.cluster.specs.continued.Jobs.{Continued, Forgotten}

-- what was made and is not forgotten is known
abbrev pub knows_grant : Forgotten → Past → Grant → Bool
knows_grant forgotten past grant = if forgotten.grant past grant.number then false else is_sent past grant

abbrev pub knows_note : Forgotten → Past → ReleaseNote → Bool
knows_note forgotten past note = if forgotten.note past note then false else is_made past note

abbrev pub knows_handle : Forgotten → Past → KeyHandle → Bool
knows_handle forgotten past handle = if forgotten.handle past handle then false else is_given past handle

abbrev pub knows_slicing : Forgotten → Past → Slicing → Bool
knows_slicing forgotten past slicing = if forgotten.generation past slicing.generation then false else is_published past slicing

-- the known grant with a number, and the known assignment of a generation
abbrev pub known_grant : Forgotten → Past → ℕ → Option Grant
known_grant forgotten past number = if forgotten.grant past number then None else with_number number (grants past)

abbrev pub known_slicing : Forgotten → Past → ℕ → Option Slicing
known_slicing forgotten past generation = if forgotten.generation past generation then None else published generation past

-- why a call does not come to the table: its assigner or its task is not of the job, or its note is not known
abbrev pub table_refusal : Continued → Past → TableCall → Option ClusterError
table_refusal job past (JobTake assigner at) = when (not (is_within assigner job.assigners)) NoActor
table_refusal job past (Ask task life at) = when (not (is_within task job.tasks)) NoActor
table_refusal job past (Free note at) = when (not (knows_note job.forgotten past note)) NotSent
table_refusal job past _ = None

-- why a call does not come to a task of the job: its grant is not known
abbrev pub task_refusal : Forgotten → Past → SliceletCall → Option ClusterError
task_refusal forgotten past (Hear grant at) = when (not (knows_grant forgotten past grant)) NotSent
task_refusal forgotten past _ = None

-- why a call does not come to a clerk of the job: its assignment is not known
abbrev pub clerk_refusal : Forgotten → Past → ClerkCall → Option ClusterError
clerk_refusal forgotten past (Learn slicing) = when (not (knows_slicing forgotten past slicing)) NotSent
clerk_refusal forgotten past _ = None
