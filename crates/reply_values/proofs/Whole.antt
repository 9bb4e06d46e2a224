-- No value has a fraction, so that its text is the compact one.
use Rattle.std.proofs.Common.{◌≡◌, ℕ, List, Option, Some, None, false, refl}
use Rattle.serde_json.specs.Written.{has_float}
use Rattle.lease_rule.specs.declared.answer.Ground.{Ground}
use Rattle.lease_rule.specs.declared.answer.Ground.TheVariants as ground
use Rattle.lease_rule.specs.declared.answer.Verdict.{Verdict}
use Rattle.lease_rule.specs.declared.answer.Verdict.TheVariants.{Allow, Deny}
use Rattle.grants.specs.declared.values.Phase.{Phase}
use Rattle.grants.specs.declared.values.Phase.TheVariants.{Bridging, Steady}
use Rattle.grants.specs.declared.table_error.TableError.{TableError}
use Rattle.grants.specs.declared.table_error.TableError.TheVariants as table
use Rattle.grants.specs.declared.slicelet_error.SliceletError.{SliceletError}
use Rattle.grants.specs.declared.slicelet_error.SliceletError.TheVariants as slicelet
use Rattle.clerk.specs.declared.error.ClerkError.TheVariants as clerk
use Rattle.weighted_move.specs.declared.moves.Move.{Move}
use Rattle.replies.specs.declared.reply.Refusal.{Refusal}
use Rattle.replies.specs.declared.reply.Refusal.TheVariants as refusal
use Rattle.replies.specs.declared.reply.Reply.{Reply}
use Rattle.replies.specs.declared.reply.Reply.TheVariants as reply
use Rattle.wire.specs.declared.numerals.Numerals.TheVariants.{Quoted}
use Rattle.wire.specs.Objects.{list_data, number_data}
use Rattle.wire.specs.Rows.{row_data}
use Rattle.wire.proofs.Assignments.{slices_whole}
use Rattle.wire.proofs.Lists.{items_whole}
use Rattle.reply_values.specs.Refusals.{refusal_data, slicelet_data, table_data}
use Rattle.reply_values.specs.Replies.{denied_data, move_data, owner_change_data, phase_data, reply_data, verdict_data}

-- LISTS

numbers_whole : (ns : List ℕ) → has_float (list_data number_data ns) ≡ false
numbers_whole ns = items_whole number_data (λ n. refl) ns

owner_change_whole : (giver taker : Option ℕ) (one : Move) → has_float (owner_change_data giver taker one) ≡ false
owner_change_whole (Some giver) (Some taker) one = refl
owner_change_whole None (Some taker) one = refl
owner_change_whole (Some giver) None one = refl
owner_change_whole None None one = refl

-- REFUSALS

table_whole : (error : TableError) → has_float (table_data error) ≡ false
table_whole table.ReadingRange = refl
table_whole table.ClockBack = refl
table_whole (table.JobHeld until) = refl
table_whole (table.NotHolder term) = refl
table_whole (table.StaleBase generation) = refl
table_whole table.Pending = refl
table_whole table.NothingPending = refl
table_whole table.TooManyOwnersForJob = refl
table_whole (table.Grace until) = refl
table_whole (table.Held task kind number) = refl
table_whole table.NoRow = refl
table_whole table.NoAssignment = refl
table_whole table.NumbersSpent = refl

slicelet_whole : (error : SliceletError) → has_float (slicelet_data error) ≡ false
slicelet_whole slicelet.NotStarted = refl
slicelet_whole slicelet.OldLife = refl
slicelet_whole slicelet.ClockBack = refl
slicelet_whole slicelet.OtherTask = refl
slicelet_whole slicelet.OtherLife = refl
slicelet_whole (slicelet.Old heard) = refl
slicelet_whole slicelet.TooLate = refl
slicelet_whole slicelet.NothingHeld = refl
slicelet_whole slicelet.HistoryFull = refl

refusal_whole : (why : Refusal) → has_float (refusal_data why) ≡ false
refusal_whole refusal.NoActor = refl
refusal_whole refusal.NotSent = refl
refusal_whole refusal.NoDraft = refl
refusal_whole (refusal.Slices error) = refl
refusal_whole (refusal.Ranges error) = refl
refusal_whole (refusal.Table error) = table_whole error
refusal_whole (refusal.Slicelet error) = slicelet_whole error
refusal_whole refusal.Stranger = refl
refusal_whole (refusal.Clerk (clerk.Old generation)) = refl
refusal_whole refusal.Unknown = refl
refusal_whole (refusal.Load error) = refl
refusal_whole (refusal.Plan error) = refl

-- REPLIES

denied_whole : (why : Ground) → has_float (denied_data why) ≡ false
denied_whole ground.Down = refl
denied_whole ground.ClockBack = refl
denied_whole ground.Ended = refl
denied_whole (ground.NotOwned generation) = refl
denied_whole ground.NoLease = refl

verdict_whole : (verdict : Verdict) → has_float (verdict_data verdict) ≡ false
verdict_whole (Allow kind generation) = refl
verdict_whole (Deny why) = denied_whole why

phase_whole : (phase : Phase) → has_float (phase_data phase) ≡ false
phase_whole (Steady generation) = refl
phase_whole (Bridging from to) = refl

pub reply_whole : (r : Reply) → has_float (reply_data r) ≡ false
reply_whole (reply.Key key) = refl
reply_whole (reply.Assigned generation slices) = refl
reply_whole (reply.Owners tasks) = rw (numbers_whole tasks) refl
reply_whole (reply.Verdict verdict) = verdict_whole verdict
reply_whole (reply.Term term) = refl
reply_whole (reply.Renewed term) = refl
reply_whole (reply.Proposed generation) = refl
reply_whole (reply.Committed generation) = refl
reply_whole (reply.Phase phase) = phase_whole phase
reply_whole (reply.Rows rows) = rw (items_whole (row_data Quoted) (λ row. refl) rows) refl
reply_whole (reply.Granted grant) = refl
reply_whole (reply.Freed rows) = refl
reply_whole (reply.Lost rows) = refl
reply_whole (reply.Started life) = refl
reply_whole (reply.Heard number) = refl
reply_whole (reply.Released number note) = refl
reply_whole (reply.Holding number handle) = refl
reply_whole reply.Continuous = refl
reply_whole reply.Broken = refl
reply_whole (reply.Learnt generation) = refl
reply_whole (reply.Found found) = rw (numbers_whole found.owners.items) refl
reply_whole reply.Forgotten = refl
reply_whole (reply.Recorded total) = refl
reply_whole (reply.Gathered loads totals) = rw (numbers_whole loads, numbers_whole totals) refl
reply_whole (reply.Planned plan) =
    rw (items_whole move_data (λ one. owner_change_whole one.giver one.taker one) plan.moves, slices_whole plan.slices) refl
reply_whole (reply.Next action) = refl
reply_whole reply.TermDropped = refl
reply_whole (reply.Refused why) = refusal_whole why
reply_whole reply.NoMemory = refl
