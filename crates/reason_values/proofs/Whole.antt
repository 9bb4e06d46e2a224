-- No value of a place or a reason has a fraction, so that its text is the compact one.
use Rattle.std.proofs.Common.{◌≡◌, ◌||◌, ℕ, Bool, List, Option, Some, None, codes, false, refl}
use Rattle.serde_json.specs.Data.{Data, Members, no_members, put, string}
use Rattle.serde_json.specs.Written.{has_float, members_have_float}
use Rattle.cluster.specs.Numbers.{with_number}
use Rattle.wire.specs.LeaseMembers.{kind_data}
use Rattle.wire.specs.Objects.{list_data, number_data}
use Rattle.wire.proofs.Lists.{items_whole}
use Rattle.reasons.specs.declared.reason.Break.{Break}
use Rattle.reasons.specs.declared.reason.Break.TheVariants.{OtherLife, Denied, Taken}
use Rattle.reasons.specs.declared.reason.KeyOwners.{KeyOwners}
use Rattle.reasons.specs.declared.reason.LeaseValues.{LeaseValues}
use Rattle.reasons.specs.declared.reason.Reason.{Reason}
use Rattle.reasons.specs.declared.reason.Reason.TheVariants as reason
use Rattle.reasons.specs.declared.reason.RequestReason.{RequestReason}
use Rattle.reasons.specs.declared.reason.RuleValues.{RuleValues}
use Rattle.reply_values.specs.Answered.{IsWholeIf}
use Rattle.reply_values.specs.Values.{large_data}
use Rattle.reply_values.proofs.Putting.{put_whole}
use Rattle.reason_values.specs.declared.place.LogLine.{LogLine}
use Rattle.reason_values.specs.declared.unsent.Difference.{Difference}
use Rattle.reason_values.specs.declared.unsent.Difference.TheVariants as differs
use Rattle.reason_values.specs.declared.unsent.Unsent.{Unsent}
use Rattle.reason_values.specs.declared.unsent.Unsent.TheVariants.{Later, Other, Nothing}
use Rattle.reason_values.specs.Places.{place_data, with_line, with_place}
use Rattle.reason_values.specs.Reasons.{break_data, reason_data, taken_data}
use Rattle.reason_values.specs.Requests.{lease_data, leases_of, owners_data, request_data, rule_data}
use Rattle.reason_values.specs.Unsent.{member_name, sent_data, unsent_data, with_difference, with_name, with_values}

both : (a b : Bool) → a ≡ false → b ≡ false → a || b ≡ false
both a b first second = rw first second

-- PLACES

line_whole : (at : Option LogLine) (others : Members) → members_have_float others ≡ false → members_have_float (with_line at others) ≡ false
line_whole None others rest = rest
line_whole (Some at) others rest =
    put_whole (codes "log") (number_data at.log) (put (codes "line") (number_data at.line) others) refl
    (put_whole (codes "line") (number_data at.line) others refl rest)

pub with_place_whole : (lines : List LogLine) (call : ℕ) (others : Members) → members_have_float others ≡ false
    → members_have_float (with_place lines call others) ≡ false
with_place_whole lines call others rest =
    line_whole (with_number call lines) (put (codes "call") (number_data call) others) (put_whole (codes "call") (number_data call) others refl rest)

pub place_whole : (lines : List LogLine) (call : ℕ) → has_float (place_data lines call) ≡ false
place_whole lines call = with_place_whole lines call no_members refl

-- REQUESTS

owners_whole : (owners : KeyOwners) → has_float (owners_data owners) ≡ false
owners_whole owners = both _ false (items_whole number_data (λ n. refl) owners.tasks.items) refl

lease_whole : (lines : List LogLine) (lease : LeaseValues) → has_float (lease_data lines lease) ≡ false
lease_whole lines lease = by_place lease.heard
  where
    by_place : (heard : Option ℕ) → has_float (lease_data lines (record lease { heard = heard })) ≡ false
    by_place None = refl
    by_place (Some call) = both _ false (place_whole lines call) refl

rule_whole : (lines : List LogLine) (rule : RuleValues) → has_float (rule_data lines rule) ≡ false
rule_whole lines rule = by_number rule.number
  where
    leases_whole : has_float (list_data (lease_data lines) (leases_of rule.guard rule.bridge)) ≡ false
    leases_whole = items_whole (lease_data lines) (lease_whole lines) (leases_of rule.guard rule.bridge)

    by_number : (number : Option ℕ) → has_float (rule_data lines (record rule { number = number })) ≡ false
    by_number None = both _ false leases_whole refl
    by_number (Some number) = both _ false leases_whole refl

request_whole : (lines : List LogLine) (request : RequestReason) → has_float (request_data lines request) ≡ false
request_whole lines request = both _ _ (owners_whole request.owners) (both _ false (rule_whole lines request.rule) refl)

-- BROKEN HANDLES

taken_whole : (lines : List LogLine) (first last : Option ℕ) → has_float (taken_data lines first last) ≡ false
taken_whole lines None None = refl
taken_whole lines None (Some last) = both _ false (place_whole lines last) refl
taken_whole lines (Some first) None = both _ false (place_whole lines first) refl
taken_whole lines (Some first) (Some last) = both _ _ (place_whole lines first) (both _ false (place_whole lines last) refl)

break_whole : (lines : List LogLine) (first : Option ℕ) (broken : Break) → has_float (break_data lines first broken) ≡ false
break_whole lines None (OtherLife life) = refl
break_whole lines (Some first) (OtherLife life) = both _ false (taken_whole lines (Some first) None) refl
break_whole lines None (Denied denial request) =
    both _ _ (owners_whole request.owners) (both _ false (rule_whole lines request.rule) refl)
break_whole lines (Some first) (Denied denial request) =
    both _ _ (owners_whole request.owners)
    (both _ _ (rule_whole lines request.rule) (both _ false (taken_whole lines (Some first) None) refl))
break_whole lines first (Taken call last) = both _ false (taken_whole lines first last) refl

-- REASONS

pub reason_whole : (lines : List LogLine) (first : Option ℕ) (why : Reason) → IsWholeIf (reason_data lines first why)
reason_whole lines first (reason.Request request) = request_whole lines request
reason_whole lines first (reason.Broken broken) = break_whole lines first broken
reason_whole lines first (reason.TableReading last) = refl
reason_whole lines first (reason.TaskReading last) = refl
reason_whole lines first (reason.Held row) = refl
reason_whole lines first (reason.Term None) = tt
reason_whole lines first (reason.Term (Some term)) = refl
reason_whole lines first (reason.Heard kind number life) = refl
reason_whole lines first (reason.Life life) = refl

-- WHAT NOTHING SENT

named_whole : (name : List ℕ) (others : Members) → members_have_float others ≡ false → members_have_float (with_name name others) ≡ false
named_whole name others rest = put_whole (codes "member") (string name) others refl rest

values_whole : (here there : Data) (others : Members) → has_float here ≡ false → has_float there ≡ false → members_have_float others ≡ false
    → members_have_float (with_values here there others) ≡ false
values_whole here there others here_whole there_whole rest =
    put_whole (codes "there") there (put (codes "here") here others) there_whole (put_whole (codes "here") here others here_whole rest)

difference_whole : (difference : Difference) (others : Members) → members_have_float others ≡ false
    → members_have_float (with_difference difference others) ≡ false
difference_whole (differs.Number which here there) others rest =
    values_whole (large_data here) (large_data there) (with_name (member_name which) others) refl refl (named_whole (member_name which) others rest)
difference_whole (differs.Kind here there) others rest =
    values_whole (kind_data here) (kind_data there) (with_name (codes "kind") others) refl refl (named_whole (codes "kind") others rest)
difference_whole differs.Ranges others rest = named_whole (codes "ranges") others rest
difference_whole differs.Slices others rest = named_whole (codes "slices") others rest

sent_whole : (lines : List LogLine) (unsent : Unsent) → has_float (sent_data lines unsent) ≡ false
sent_whole lines (Later call ticket) =
    both _ false
    (put_whole (codes "ticket") (large_data ticket) (with_place lines call no_members) refl (with_place_whole lines call no_members refl)) refl
sent_whole lines (Other call difference) =
    difference_whole difference (put (codes "other") (place_data lines call) no_members)
    (put_whole (codes "other") (place_data lines call) no_members (place_whole lines call) refl)
sent_whole lines Nothing = refl

pub unsent_whole : (lines : List LogLine) (unsent : Unsent) → has_float (unsent_data lines unsent) ≡ false
unsent_whole lines unsent = both _ false (sent_whole lines unsent) refl
