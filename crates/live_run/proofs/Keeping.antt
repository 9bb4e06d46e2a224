-- What several calls after one another leave of the passes of a thread.
use Rattle.std.proofs.Common.{◌≡◌, ◌∙◌, ap, refl}
use Rattle.live_run.specs.declared.table_caller.TableCaller.{TableCaller}
use Rattle.live_run.specs.declared.task_caller.TaskCaller.{TaskCaller}
use Rattle.live_run.specs.declared.clerk_caller.ClerkCaller.{ClerkCaller}
use Rattle.live_run.specs.internals.Callers.{KeepsCaller, KeepsTaskCaller, KeepsClerkCaller}

pub keeps_same : (caller : TableCaller) → KeepsCaller caller caller
keeps_same caller = record { table = refl; ticket = refl; lane = refl; served = refl }

pub keeps_more : (a b c : TableCaller) → KeepsCaller a b → KeepsCaller b c → KeepsCaller a c
keeps_more a b c k l = record { table = l.table ∙ k.table; ticket = l.ticket ∙ k.ticket; lane = l.lane ∙ k.lane; served = l.served ∙ k.served }

pub task_same : (caller : TaskCaller) → KeepsTaskCaller caller caller
task_same caller = record { at_table = keeps_same caller.table; slicelet = refl; lane = refl }

pub task_more : (a b c : TaskCaller) → KeepsTaskCaller a b → KeepsTaskCaller b c → KeepsTaskCaller a c
task_more a b c k l = record { at_table = keeps_more a.table b.table c.table k.at_table l.at_table; slicelet = l.slicelet ∙ k.slicelet; lane = l.lane ∙ k.lane }

-- a call of the table leaves the pass of the slicelet
pub task_by_table : (a b c : TaskCaller) → KeepsTaskCaller a b → KeepsCaller b.table c.table → c.slicelet ≡ b.slicelet → c.own ≡ b.own → KeepsTaskCaller a c
task_by_table a b c k l slicelet own = record { at_table = keeps_more a.table b.table c.table k.at_table l; slicelet = slicelet ∙ k.slicelet; lane = ap (λ p. p.lane) own ∙ k.lane }

pub clerk_same : (caller : ClerkCaller) → KeepsClerkCaller caller caller
clerk_same caller = record { at_table = keeps_same caller.table; clerk = refl; lane = refl }

pub clerk_more : (a b c : ClerkCaller) → KeepsClerkCaller a b → KeepsClerkCaller b c → KeepsClerkCaller a c
clerk_more a b c k l = record { at_table = keeps_more a.table b.table c.table k.at_table l.at_table; clerk = l.clerk ∙ k.clerk; lane = l.lane ∙ k.lane }

-- a call of the table leaves the pass of the clerk
pub clerk_by_table : (a b c : ClerkCaller) → KeepsClerkCaller a b → KeepsCaller b.table c.table → c.clerk ≡ b.clerk → c.own ≡ b.own → KeepsClerkCaller a c
clerk_by_table a b c k l clerk own = record { at_table = keeps_more a.table b.table c.table k.at_table l; clerk = clerk ∙ k.clerk; lane = ap (λ p. p.lane) own ∙ k.lane }
