-- Why a call delivers what nothing sent before it.
use Rattle.std.specs.Prelude.{◌≡◌, ℕ, ◌+◌, max, not, nat_eq, Bool, true, false, List, [], ◌∷◌, length, take, Option, Some, None, MatchOption, slice_get}
use Rattle.std.specs.Cmp.Lexicographic.{pointwise}
use Rattle.machines.specs.Refusals.{first_of, when}
use Rattle.lease_rule.specs.declared.lease.Kind.{Kind}
use Rattle.lease_rule.specs.declared.lease.Kind.TheVariants.{Guard, Bridge}
use Rattle.lease_rule.specs.Leases.{same_kind}
use Rattle.assignment.specs.Slices.{Slicing}
use Rattle.grants.specs.declared.table_call.TableCall.TheVariants.{Free}
use Rattle.grants.specs.declared.values.Grant.{Grant}
use Rattle.grants.specs.declared.values.ReleaseNote.{ReleaseNote}
use Rattle.grants.specs.declared.slicelet_call.SliceletCall.TheVariants.{Hear}
use Rattle.key_handle.specs.declared.handle.KeyHandle.{KeyHandle}
use Rattle.clerk.specs.declared.call.ClerkCall.TheVariants.{Learn}
use Rattle.job_calls.specs.declared.call.ClusterCall.TheVariants as call
use Rattle.cluster.specs.Pasts.{Past}
use Rattle.cluster.specs.continued.Deliveries.{known_grant}
use Rattle.cluster.specs.continued.Jobs.{Continued}
use Rattle.log_causes.specs.declared.cause.Change.{Change}
use Rattle.log_causes.specs.declared.cause.Change.TheVariants as change
use Rattle.log_causes.specs.declared.cause.Changed.{Changed}
use Rattle.log_causes.specs.declared.cause.Member.{Member}
use Rattle.log_causes.specs.declared.cause.Member.TheVariants as member
use Rattle.log_causes.specs.declared.cause.Unsent.{Unsent}
use Rattle.log_causes.specs.declared.cause.Unsent.TheVariants.{Later, Other, Nothing}
use Rattle.log_line.specs.declared.entry.LogEntry.{LogEntry}
use Rattle.log_line.specs.declared.line.BareGrant.{BareGrant}
use Rattle.log_line.specs.declared.line.LoggedCall.{LoggedCall}
use Rattle.log_line.specs.declared.line.LoggedCall.TheVariants.{Whole, HearBare, LearnBare}
use Rattle.log_line.specs.Sent.{NonePasses, IsFirst, IsFirstFrom, bare, sends_grant, sends_proposal, sends_commit, sends_note, sends_handle, hides_handle}

-- the members of a grant that differ from those of another one, in this order
abbrev pub number_change : Member → ℕ → ℕ → Option Change
number_change m here there = when (not (nat_eq here there)) (change.Number m here there)

abbrev pub kind_change : Kind → Kind → Option Change
kind_change here there = when (not (same_kind here there)) (change.Kind here there)

abbrev pub grant_changes : BareGrant → BareGrant → Bool → List (Option Change)
grant_changes here there other_ranges =
    number_change member.Task here.task there.task ∷
    number_change member.Life here.life there.life ∷
    kind_change here.kind there.kind ∷
    number_change member.Generation here.generation there.generation ∷
    when other_ranges change.Ranges ∷
    number_change member.Ends here.ends there.ends ∷
    number_change member.Until here.table_ends there.table_ends ∷ []

-- the grant that a call delivers, and whether it has other ranges than these
abbrev pub grant_delivered : LoggedCall → Option BareGrant
grant_delivered (Whole (call.Task task (Hear grant at))) = Some (bare grant)
grant_delivered (HearBare task grant at) = Some grant
grant_delivered _ = None

abbrev pub has_other_ranges : LoggedCall → List ℕ → Bool
has_other_ranges (Whole (call.Task task (Hear grant at))) ranges = not (pointwise nat_eq grant.lease.ranges ranges)
has_other_ranges _ ranges = false

-- the table sent another grant with this number, which is not forgotten, in the entry at this place, and the first member that differs is this
pub record IsGrantChanged (job : Continued) (past : Past) (before : List LogEntry) (c : LoggedCall) (g : BareGrant) (changed : Changed) : Type 0 where
  pub granted : Grant
  pub made : known_grant job.forgotten past g.number ≡ Some granted
  pub line : IsFirst (sends_grant (bare granted)) before 0 changed.place
  pub differs : first_of (grant_changes g (bare granted) (has_other_ranges c granted.lease.ranges)) ≡ Some changed.change

abbrev pub IsGrantChangedOr : Continued → Past → List LogEntry → LoggedCall → BareGrant → Option Changed → Type 0
IsGrantChangedOr job past before c g (Some changed) = IsGrantChanged job past before c g changed
IsGrantChangedOr job past before c g None = (changed : Changed) → IsGrantChanged job past before c g changed → ⊥

-- why the table did not send a grant before the entry at this place: a later one is the first that does; or none does, and another grant
-- with its number was sent before; or there is none either
abbrev pub NoLaterGrant : List LogEntry → ℕ → BareGrant → Type 0
NoLaterGrant entries index g = NonePasses (sends_grant g) entries (index + 1) (length entries)

abbrev pub IsGrantCause : Continued → Past → List LogEntry → ℕ → LoggedCall → BareGrant → Unsent → Type 0
IsGrantCause job past entries index c g (Later place) = IsFirst (sends_grant g) entries (index + 1) place
IsGrantCause job past entries index c g (Other changed) = NoLaterGrant entries index g × IsGrantChangedOr job past (take index entries) c g (Some changed)
IsGrantCause job past entries index c g Nothing = NoLaterGrant entries index g × IsGrantChangedOr job past (take index entries) c g None

-- the first commit of an assignment's generation that comes after this place and after an accepted proposal of it
pub record IsCommitted (entries : List LogEntry) (index : ℕ) (a : Slicing) (place : ℕ) : Type 0 where
  pub proposal : ℕ
  pub proposed : IsFirst (sends_proposal false a) entries 0 proposal
  pub committed : IsFirst (sends_commit a.generation) entries (max proposal index + 1) place

abbrev pub IsCommittedOr : List LogEntry → ℕ → Slicing → Option ℕ → Type 0
IsCommittedOr entries index a (Some place) = IsCommitted entries index a place
IsCommittedOr entries index a None = (place : ℕ) → IsCommitted entries index a place → ⊥

-- why an assignment was not committed before: a later commit is the first; or there is none, and another one of its generation was proposed
-- before; or none was
abbrev pub IsAssignmentCause : List LogEntry → ℕ → Slicing → Unsent → Type 0
IsAssignmentCause entries index a (Later place) = IsCommittedOr entries index a (Some place)
IsAssignmentCause entries index a (Other changed) =
    IsCommittedOr entries index a None × IsFirst (sends_proposal true a) (take index entries) 0 changed.place × (changed.change ≡ change.Slices)
IsAssignmentCause entries index a Nothing = IsCommittedOr entries index a None × IsFirstFrom (sends_proposal true a) (take index entries) 0 None

-- why no assignment of a generation was committed before: a later commit is the first; or there is none
abbrev pub IsGenerationCause : List LogEntry → ℕ → ℕ → Unsent → Type 0
IsGenerationCause entries index generation (Later place) = IsFirst (sends_commit generation) entries (index + 1) place
IsGenerationCause entries index generation Nothing = NonePasses (sends_commit generation) entries (index + 1) (length entries)
IsGenerationCause entries index generation (Other changed) = ⊥

-- why no task sent a note before: a later entry is the first that does; or none does, and one of the other kind was sent before; or none is
abbrev pub other_kind : Kind → Kind
other_kind Guard = Bridge
other_kind Bridge = Guard

abbrev pub of_other_kind : ReleaseNote → ReleaseNote
of_other_kind n = record { task = n.task; life = n.life; kind = other_kind n.kind; number = n.number }

abbrev pub NoLaterNote : List LogEntry → ℕ → ReleaseNote → Type 0
NoLaterNote entries index n = NonePasses (sends_note n) entries (index + 1) (length entries)

abbrev pub IsNoteCause : List LogEntry → ℕ → ReleaseNote → Unsent → Type 0
IsNoteCause entries index n (Later place) = IsFirst (sends_note n) entries (index + 1) place
IsNoteCause entries index n (Other changed) =
    NoLaterNote entries index n × IsFirst (sends_note (of_other_kind n)) (take index entries) 0 changed.place
    × (changed.change ≡ change.Kind n.kind (other_kind n.kind))
IsNoteCause entries index n Nothing = NoLaterNote entries index n × IsFirstFrom (sends_note (of_other_kind n)) (take index entries) 0 None

-- the key of the handle that an entry takes, 0 if it takes none
abbrev pub key_in : LoggedCall → ℕ
key_in (Whole (call.Hold task key at)) = key
key_in _ = 0

abbrev pub key_taken : Option LogEntry → ℕ
key_taken (Some e) = key_in e.line.call
key_taken None = 0

-- why no task sent a handle before: a later entry is the first that does; or none does, and one of another key was sent before; or none was.
-- Nothing is said if some reply does not say which handle it sends.
abbrev pub NoLaterHandle : List LogEntry → ℕ → KeyHandle → Type 0
NoLaterHandle entries index h = NonePasses (sends_handle false h) entries (index + 1) (length entries)

abbrev pub NoOtherHandle : List LogEntry → ℕ → KeyHandle → Type 0
NoOtherHandle entries index h = IsFirstFrom (sends_handle true h) (take index entries) 0 None

abbrev pub IsHandleCause : List LogEntry → ℕ → KeyHandle → Option Unsent → Type 0
IsHandleCause entries index h (Some (Later place)) = IsFirst (sends_handle false h) entries (index + 1) place
IsHandleCause entries index h (Some (Other changed)) =
    NoLaterHandle entries index h × IsFirst (sends_handle true h) (take index entries) 0 changed.place
    × (changed.change ≡ change.Number member.SliceKey h.key (key_taken (slice_get entries changed.place)))
IsHandleCause entries index h (Some Nothing) =
    NoLaterHandle entries index h × NoOtherHandle entries index h × IsFirstFrom (hides_handle h) entries 0 None
IsHandleCause entries index h None =
    NoLaterHandle entries index h × NoOtherHandle entries index h × ((place : ℕ) × IsFirst (hides_handle h) entries 0 place)

-- the note, or the handle, that a call delivers
abbrev pub note_delivered : LoggedCall → Option ReleaseNote
note_delivered (Whole (call.Table (Free note at))) = Some note
note_delivered _ = None

abbrev pub handle_delivered : LoggedCall → Option KeyHandle
handle_delivered (Whole (call.Check task handle at)) = Some handle
handle_delivered _ = None

-- why nothing committed before an assignment that a call delivers; none for other calls
abbrev pub IsLearnCause : List LogEntry → ℕ → LoggedCall → Option Unsent → Type 0
IsLearnCause entries index (Whole (call.Clerk clerk (Learn slicing))) unsent = MatchOption unsent ⊥ (IsAssignmentCause entries index slicing)
IsLearnCause entries index (LearnBare clerk generation) unsent = MatchOption unsent ⊥ (IsGenerationCause entries index generation)
IsLearnCause entries index _ unsent = unsent ≡ None

-- why nothing sent before what the call of the entry at this place delivers
abbrev pub IsUnsentBy : Continued → Past → List LogEntry → ℕ → LoggedCall → Option BareGrant → Option ReleaseNote → Option KeyHandle → Option Unsent → Type 0
IsUnsentBy job past entries index c (Some g) n h unsent = MatchOption unsent ⊥ (IsGrantCause job past entries index c g)
IsUnsentBy job past entries index c None (Some n) h unsent = MatchOption unsent ⊥ (IsNoteCause entries index n)
IsUnsentBy job past entries index c None None (Some h) unsent = IsHandleCause entries index h unsent
IsUnsentBy job past entries index c None None None unsent = IsLearnCause entries index c unsent

abbrev pub IsUnsentFor : Continued → Past → List LogEntry → ℕ → LoggedCall → Option Unsent → Type 0
IsUnsentFor job past entries index c unsent = IsUnsentBy job past entries index c (grant_delivered c) (note_delivered c) (handle_delivered c) unsent
