-- A value with one more member has no fraction, if neither has.
use Rattle.std.proofs.Common.{◌≡◌, ◌||◌, ℕ, Bool, List, Option, Some, None, codes, false, true, option_map, refl, Less, Equal, Greater, Ordering, arith}
use Rattle.std.specs.Ordering.{match_ordering, nat_cmp}
use Rattle.std.specs.Cmp.Lexicographic.{slice_cmp}
use Rattle.std.specs.Prelude.{Result, Ok, Err, IfOk}
use Rattle.std.specs.declared.alloc.AllocError.{AllocError}
use Rattle.serde_json.specs.declared.value.Value.{Value}
use Rattle.serde_json.specs.Data.{Data, Members, array, boolean, member, no_members, null, number, object, put, string}
use Rattle.serde_json.specs.View.{view}
use Rattle.serde_json.specs.Written.{has_float, members_have_float}
use Rattle.reply_values.specs.declared.answered.Warnings.{Warnings}
use Rattle.reply_values.specs.Answered.{IsWholeIf, IsWholeWith, answered_data, warned_data, with_member, with_member_if}
use Rattle.reply_values.specs.Values.{large_data}

neither : (a b : Bool) → (a || b) ≡ false → (a ≡ false) × (b ≡ false)
neither false b is = (refl, is)
neither true b is = (is, grind (arith, is))

at_place : (order : Ordering) (k l : List ℕ) (d e : Data) (ms with_d : Members) → has_float d ≡ false → has_float e ≡ false → members_have_float ms ≡ false
    → members_have_float with_d ≡ false → members_have_float (match_ordering order (member k d (member l e ms)) (member l d ms) (member l e with_d)) ≡ false
at_place Less k l d e ms with_d d_whole e_whole whole with_whole = rw (d_whole, e_whole, whole) refl
at_place Equal k l d e ms with_d d_whole e_whole whole with_whole = rw (d_whole, whole) refl
at_place Greater k l d e ms with_d d_whole e_whole whole with_whole = rw (e_whole, with_whole) refl

pub put_whole : (k : List ℕ) (d : Data) (ms : Members) → has_float d ≡ false → members_have_float ms ≡ false → members_have_float (put k d ms) ≡ false
put_whole k d no_members d_whole whole = rw d_whole refl
put_whole k d (member l e ms) d_whole whole =
    let both = neither (has_float e) (members_have_float ms) whole in
    at_place (slice_cmp nat_cmp k l) k l d e ms (put k d ms) d_whole both.0 both.1 (put_whole k d ms d_whole both.1)

pub with_member_whole : (name : List ℕ) (value d : Data) → has_float value ≡ false → has_float d ≡ false → has_float (with_member name value d) ≡ false
with_member_whole name value (object ms) value_whole whole = put_whole name value ms value_whole whole
with_member_whole name value null value_whole whole = whole
with_member_whole name value (boolean b) value_whole whole = whole
with_member_whole name value (number n) value_whole whole = whole
with_member_whole name value (string s) value_whole whole = whole
with_member_whole name value (array ds) value_whole whole = whole

with_value_whole : (name : List ℕ) (value : Option Data) (d : Data) → IsWholeIf value → has_float d ≡ false → has_float (with_member_if name value d) ≡ false
with_value_whole name None d value_whole whole = whole
with_value_whole name (Some value) d value_whole whole = with_member_whole name value d value_whole whole

with_number_whole : (name : List ℕ) (n : Option ℕ) (d : Data) → has_float d ≡ false → has_float (with_member_if name (option_map large_data n) d) ≡ false
with_number_whole name None d whole = whole
with_number_whole name (Some n) d whole = with_member_whole name (large_data n) d refl whole

warned_whole : (warnings : Warnings) (d : Data) → has_float d ≡ false → has_float (warned_data warnings d) ≡ false
warned_whole warnings d whole =
    with_number_whole (codes "not_owner") warnings.not_owner (with_member_if (codes "untimely") (option_map large_data warnings.untimely) d)
    (with_number_whole (codes "untimely") warnings.untimely d whole)

pub answered_whole : (v call : Data) (ticket : Option ℕ) (reply reason : Option Data) (warnings : Warnings) → v ≡ answered_data call ticket reply reason warnings
    → has_float call ≡ false → IsWholeIf reply → IsWholeIf reason → has_float v ≡ false
answered_whole v call ticket reply reason warnings is call_whole reply_whole reason_whole =
    let ticketed = with_member_if (codes "ticket") (option_map large_data ticket) call in
    let replied = with_member_if (codes "reply") reply ticketed in
    rw is (warned_whole warnings (with_member_if (codes "reason") reason replied)
    (with_value_whole (codes "reason") reason replied reason_whole
    (with_value_whole (codes "reply") reply ticketed reply_whole
    (with_number_whole (codes "ticket") ticket call call_whole))))

pub answered_if_ok : (result : Result Value AllocError) (call : Data) (ticket : Option ℕ) (reply reason : Option Data) (warnings : Warnings)
    → IfOk result (λ v. view v ≡ answered_data call ticket reply reason warnings) → IfOk result (λ v. IsWholeWith call reply reason (view v))
answered_if_ok (Ok v) call ticket reply reason warnings is = answered_whole (view v) call ticket reply reason warnings is
answered_if_ok (Err e) call ticket reply reason warnings is = is
