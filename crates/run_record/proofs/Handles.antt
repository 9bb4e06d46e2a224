-- The handles that a record keeps.
use Rattle.std.proofs.Common.{◌≡◌, Bool, true, false, ◌||◌, List, [], ◌∷◌, ◌++◌, refl, sym, ◌∙◌, ap, eqb-true}
use Rattle.std.specs.Prelude.{if◌then◌else◌}
use Rattle.std.specs.List.{list_any}
use Rattle.std.proofs.lemmas.Bool.{and_parts}
use Rattle.std.proofs.lemmas.List.Folds.{list_any-append}
use Rattle.machines.specs.Numbers.{is_within}
use Rattle.indexmap.specs.IndexSet.{insert_key, insert_all}
use Rattle.key_handle.specs.declared.handle.KeyHandle.{KeyHandle}
use Rattle.slicelet.specs.Continuity.{is_strange}
use Rattle.job_calls.specs.declared.call.ClusterCall.{ClusterCall}
use Rattle.job_calls.specs.declared.call.ClusterCall.TheVariants as call
use Rattle.job_calls.specs.declared.reply.ClusterReply.{ClusterReply}
use Rattle.job_calls.specs.declared.reply.ClusterReply.TheVariants as reply
use Rattle.job_calls.specs.declared.error.ClusterError.TheVariants as error
use Rattle.cluster.specs.Answers.{check_reply}
use Rattle.cluster.specs.Made.{with_handle, handles_made, same_handle, is_given}
use Rattle.cluster.specs.Pasts.{event, Past, is_accepted, history}
use Rattle.cluster.specs.continued.Deliveries.{knows_handle}
use Rattle.cluster.specs.continued.Jobs.{Continued}
use Rattle.cluster.specs.continued.Runs.{IsReply}
use Rattle.cluster.proofs.Keeping.{handles_in_front}
use Rattle.cluster.proofs.Taking.{known_made}
use Rattle.run_record.specs.Records.{handle_checked, handles_shown}
use Rattle.run_record.proofs.Clerks.{refused_unaccepted}

-- A SET

or_true : (a : Bool) → (a || true) ≡ true
or_true true = refl
or_true false = refl

or_false : (a : Bool) → (a || false) ≡ a
or_false true = refl
or_false false = refl

or_parts : (a b c : Bool) → (a || b) ≡ true → (a ≡ true → c ≡ true) → (b ≡ true → c ≡ true) → c ≡ true
or_parts true b c e left right = left refl
or_parts false b c e left right = right e

from_one : {A : Type 0} (p : A → Bool) (same : A → A → Bool) (kept : List A) (new : A) (b : Bool) → (list_any p kept ≡ true → b ≡ true)
    → (p new ≡ true → b ≡ true) → list_any p (insert_key same kept new) ≡ true → b ≡ true
from_one p same kept new b old added = by_test (list_any (same new) kept)
  where
    by_test : (has : Bool) → list_any p (if has then kept else kept ++ new ∷ []) ≡ true → b ≡ true
    by_test true found = old found
    by_test false found =
        or_parts (list_any p kept) (p new || false) b (sym (list_any-append p kept (new ∷ [])) ∙ found) old (λ e. added (sym (or_false (p new)) ∙ e))

-- what is found after some were inserted was there before, or is one of them
pub from_inserted : {A : Type 0} (p : A → Bool) (same : A → A → Bool) (more kept : List A) (b : Bool) → (list_any p kept ≡ true → b ≡ true)
    → (list_any p more ≡ true → b ≡ true) → list_any p (insert_all same kept more) ≡ true → b ≡ true
from_inserted p same [] kept b old added found = old found
from_inserted p same (new ∷ more) kept b old added found =
    from_inserted p same more (insert_key same kept new) b
    (from_one p same kept new b old (λ e. added (ap (λ (h : Bool). h || list_any p more) e)))
    (λ e. added (ap (λ (h : Bool). p new || h) e ∙ or_true (p new))) found

-- WHAT A CALL SHOWS

equal_handles : (a b : KeyHandle) → same_handle a b ≡ true → a ≡ b
equal_handles a b e =
    let one = and_parts _ _ e in
    let two = and_parts _ _ one.1 in
    let three = and_parts _ _ two.1 in
    let task = eqb-true a.task b.task one.0 in
    let life = eqb-true a.life b.life two.0 in
    let key = eqb-true a.key b.key three.0 in
    let position = eqb-true a.position b.position three.1 in
    λ i. record { task = task i; life = life i; key = key i; position = position i }

-- a call makes its handles, and the earlier ones stay given
made_or_before : (past : Past) (c : ClusterCall) (told : ClusterReply) (handle : KeyHandle)
    → is_given (event c told ∷ past) handle ≡ (list_any (same_handle handle) (with_handle c told []) || is_given past handle)
made_or_before past c told handle =
    ap (list_any (same_handle handle)) (handles_in_front c told (handles_made past))
    ∙ list_any-append (same_handle handle) (with_handle c told []) (handles_made past)

pub given_later : (past : Past) (c : ClusterCall) (told : ClusterReply) (handle : KeyHandle) → is_given past handle ≡ true
    → is_given (event c told ∷ past) handle ≡ true
given_later past c told handle e =
    made_or_before past c told handle ∙ ap (λ (b : Bool). list_any (same_handle handle) (with_handle c told []) || b) e ∙ or_true _

made_now : (past : Past) (c : ClusterCall) (told : ClusterReply) (handle : KeyHandle) → list_any (same_handle handle) (with_handle c told []) ≡ true
    → is_given (event c told ∷ past) handle ≡ true
made_now past c told handle e = made_or_before past c told handle ∙ ap (λ (b : Bool). b || is_given past handle) e

-- a handle that is not known is found neither continuous nor broken
accepted_known : (own known strange kept : Bool) (told : ClusterReply)
    → told ≡ (if own then check_reply known strange kept else reply.Refused error.NoActor) → is_accepted told ≡ true → known ≡ true
accepted_known own true strange kept told e a = refl
accepted_known true false strange kept told e a = refused_unaccepted told error.NotSent e a
accepted_known false false strange kept told e a = refused_unaccepted told error.NoActor e a

checked_accepted : (told : ClusterReply) (checked handle : KeyHandle) → list_any (same_handle handle) (handle_checked checked told) ≡ true
    → (is_accepted told ≡ true) × (handle ≡ checked)
checked_accepted reply.Continuous checked handle e = (refl, equal_handles handle checked (sym (or_false (same_handle handle checked)) ∙ e))
checked_accepted reply.Broken checked handle e = (refl, equal_handles handle checked (sym (or_false (same_handle handle checked)) ∙ e))
checked_accepted _ checked handle e = absurd (let f : false ≡ true = e in cc)

-- a handle that a call returned, or that it found continuous or broken, was given
pub shown_given : (job : Continued) (past : Past) (c : ClusterCall) (told : ClusterReply) → IsReply job past (event c told) → (handle : KeyHandle)
    → list_any (same_handle handle) (handles_shown c told) ≡ true → is_given (event c told ∷ past) handle ≡ true
shown_given job past (call.Check task checked at) told answered handle found =
    let is = checked_accepted told checked handle found in
    let strange = is_strange (history task past) checked in
    let known = accepted_known (is_within task job.tasks) (knows_handle job.forgotten past checked) strange answered.0 told answered.2 is.0 in
    ap (is_given past) is.1 ∙ known_made (job.forgotten.handle past checked) (is_given past checked) known
shown_given job past c told answered handle found = made_now past c told handle found
