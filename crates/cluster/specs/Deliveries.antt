-- Which calls deliver what was not made.
use Rattle.std.specs.Prelude.{Option}
use Rattle.grants.specs.declared.table_call.TableCall.{TableCall}
use Rattle.grants.specs.declared.slicelet_call.SliceletCall.{SliceletCall}
use Rattle.clerk.specs.declared.call.ClerkCall.{ClerkCall}
use Rattle.job_calls.specs.Jobs.{Job}
use Rattle.job_calls.specs.declared.error.ClusterError.{ClusterError}
use Rattle.cluster.specs.Pasts.{Past}
use Rattle.cluster.specs.continued.Jobs.{from_start, nothing}
use Rattle.cluster.specs.continued.Deliveries as continued
pub use Rattle.cluster.specs.Made.{note_told, with_note, notes_made, handle_told, with_handle, handles_made, same_note, same_handle, is_sent, is_made, is_given, is_published_as, is_published}

-- why a call does not come to the table: its assigner or its task is not of the job, or its note was not made
abbrev pub table_refusal : Job → Past → TableCall → Option ClusterError
table_refusal job past c = continued.table_refusal (from_start job) past c

-- why a call does not come to a task of the job: its grant was not sent
abbrev pub task_refusal : Past → SliceletCall → Option ClusterError
task_refusal past c = continued.task_refusal nothing past c

-- why a call does not come to a clerk of the job: its assignment was not published
abbrev pub clerk_refusal : Past → ClerkCall → Option ClusterError
clerk_refusal past c = continued.clerk_refusal nothing past c
