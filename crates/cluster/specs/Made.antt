-- What was made so far.
use Rattle.std.specs.Prelude.{Bool, false, ◌&&◌, nat_eq, List, [], ◌∷◌, ◌++◌, Option, Some, None}
use Rattle.std.specs.List.{list_any}
use Rattle.lease_rule.specs.Leases.{same_kind}
use Rattle.assignment.specs.Slices.{Slicing}
use Rattle.assignment.specs.Equality.{slicing_eq}
use Rattle.grants.specs.declared.values.Grant.{Grant}
use Rattle.grants.specs.declared.values.ReleaseNote.{ReleaseNote}
use Rattle.grants.specs.Equality.{grant_eq}
use Rattle.key_handle.specs.declared.handle.KeyHandle.{KeyHandle}
use Rattle.slicelet.specs.Accepted.{notes_of}
use Rattle.job_calls.specs.declared.call.ClusterCall.{ClusterCall}
use Rattle.job_calls.specs.declared.call.ClusterCall.TheVariants as call
use Rattle.job_calls.specs.declared.reply.ClusterReply.{ClusterReply}
use Rattle.job_calls.specs.declared.reply.ClusterReply.TheVariants as reply
use Rattle.cluster.specs.Pasts.{Past, grants, published}

-- the notes made so far, the last one first
abbrev pub note_told : ClusterReply → List ReleaseNote → List ReleaseNote
note_told (reply.Task told) before = notes_of told ++ before
note_told _ before = before

abbrev pub with_note : ClusterCall → ClusterReply → List ReleaseNote → List ReleaseNote
with_note (call.Task task c) told before = note_told told before
with_note _ told before = before

abbrev pub notes_made : Past → List ReleaseNote
notes_made [] = []
notes_made (e ∷ past) = with_note e.call e.reply (notes_made past)

-- the handles made so far, the last one first
abbrev pub handle_told : ClusterReply → List KeyHandle → List KeyHandle
handle_told (reply.Holding handle) before = handle ∷ before
handle_told _ before = before

abbrev pub with_handle : ClusterCall → ClusterReply → List KeyHandle → List KeyHandle
with_handle (call.Hold task key at) told before = handle_told told before
with_handle _ told before = before

abbrev pub handles_made : Past → List KeyHandle
handles_made [] = []
handles_made (e ∷ past) = with_handle e.call e.reply (handles_made past)

-- notes and handles are the same where all their parts are
abbrev pub same_note : ReleaseNote → ReleaseNote → Bool
same_note a b = nat_eq a.task b.task && (nat_eq a.life b.life && (same_kind a.kind b.kind && nat_eq a.number b.number))

abbrev pub same_handle : KeyHandle → KeyHandle → Bool
same_handle a b = nat_eq a.task b.task && (nat_eq a.life b.life && (nat_eq a.key b.key && nat_eq a.position b.position))

-- what a call delivers was made
abbrev pub is_sent : Past → Grant → Bool
is_sent past grant = list_any (grant_eq grant) (grants past)

abbrev pub is_made : Past → ReleaseNote → Bool
is_made past note = list_any (same_note note) (notes_made past)

abbrev pub is_given : Past → KeyHandle → Bool
is_given past handle = list_any (same_handle handle) (handles_made past)

abbrev pub is_published_as : Slicing → Option Slicing → Bool
is_published_as slicing None = false
is_published_as slicing (Some other) = slicing_eq slicing other

abbrev pub is_published : Past → Slicing → Bool
is_published past slicing = is_published_as slicing (published slicing.generation past)
