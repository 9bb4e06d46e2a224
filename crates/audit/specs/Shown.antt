-- The turn that a point shows.
use Rattle.std.specs.Prelude.{List, Option, Some, None}
use denote.Ref.{Bor}
use Rattle.grants.specs.declared.table_call.TableCall.{TableCall}
use Rattle.grants.specs.declared.slicelet_call.SliceletCall.{SliceletCall}
use Rattle.clerk.specs.declared.call.ClerkCall.{ClerkCall}
use Rattle.job_calls.specs.declared.call.ClusterCall.TheVariants as call
use Rattle.job_calls.specs.declared.record.CallRecord.{CallRecord}
use Rattle.job_calls.specs.declared.reply.ClusterReply.{ClusterReply}
use Rattle.audit.specs.declared.points.Point.{Point}
use Rattle.audit.specs.declared.points.Point.TheVariants as point
use Rattle.audit.specs.OneRun.{Entries, Evidence, Turn}

abbrev pub turn_of : Point → Turn
turn_of (point.Table e) = record { ticket = e.now.ticket; call = call.Table e.now.call; told = None }
turn_of (point.Task task e) = record { ticket = e.now.ticket; call = call.Task task e.now.call; told = None }
turn_of (point.Clerk clerk e) = record { ticket = e.now.ticket; call = call.Clerk clerk e.now.call; told = None }
turn_of (point.Record r) = record { ticket = r.now.ticket; call = r.now.step; told = Some r.now.reply }

abbrev pub evidence : Entries TableCall → List (Entries SliceletCall) → List (Entries ClerkCall) → List CallRecord → Evidence
evidence table tasks clerks records = record { table = table; tasks = tasks; clerks = clerks; records = records }

abbrev pub shown_told : Option (Bor ClusterReply) → Option ClusterReply
shown_told None = None
shown_told (Some t) = Some t.now
