-- What one more call makes, as a record remembers it.
use Rattle.std.proofs.Common.{◌≡◌, ℕ, ◌-◌, Bool, true, false, ◌||◌, List, [], ◌∷◌, ◌++◌, length, take, drop, reverse, refl, sym, ◌∙◌, ap, subst, arith, length-append}
use Rattle.std.specs.Prelude.{Option, Result, Ok, Err, OnOk}
use Rattle.std.specs.List.{list_any}
use Rattle.std.proofs.lemmas.List.{append_assoc, append-nil, reverse-append, take-append-drop}
use Rattle.std.proofs.lemmas.List.Folds.{list_any-append}
use Rattle.assignment.specs.Slices.{Slicing}
use Rattle.grants.specs.declared.table_call.TableCall.{TableCall}
use Rattle.grants.specs.declared.table_call.TableCall.TheVariants as table_call
use Rattle.grants.specs.declared.table_call.TableReply.{TableReply}
use Rattle.grants.specs.declared.table_call.TableReply.TheVariants as table_told
use Rattle.grants.specs.declared.values.Grant.{Grant}
use Rattle.grants.specs.declared.values.ReleaseNote.{ReleaseNote}
use Rattle.lease_table.specs.Calls.{AnsweredTableCall, grants_sent}
use Rattle.lease_table.specs.Snapshots.{IsSnapshotOf as IsTableSnapshotOf}
use Rattle.grants.specs.Snapshots.{newest_in}
use Rattle.key_handle.specs.declared.handle.KeyHandle.{KeyHandle}
use Rattle.job_calls.specs.declared.call.ClusterCall.{ClusterCall}
use Rattle.job_calls.specs.declared.call.ClusterCall.TheVariants as call
use Rattle.job_calls.specs.declared.reply.ClusterReply.{ClusterReply}
use Rattle.job_calls.specs.declared.reply.ClusterReply.TheVariants as reply
use Rattle.job_calls.specs.declared.snapshot.ClusterSnapshot.{ClusterSnapshot}
use Rattle.cluster.specs.ActorLists.{AreActors}
use Rattle.job_calls.specs.Jobs.{Job}
use Rattle.cluster.specs.Made.{with_note, notes_made, handles_made, same_note, same_handle, is_made, is_given}
use Rattle.cluster.specs.Pasts.{event, Past, with_table_call, table_calls, standing, grants, newest_learnt, readings}
use Rattle.job_calls.specs.Readings.{reading}
use Rattle.cluster.specs.Runs.{IsRun}
use Rattle.cluster.specs.Timing.{greater_reading, greatest_reading}
use Rattle.cluster.specs.continued.Clusters.{AreAfter}
use Rattle.cluster.specs.continued.Jobs.{from_start}
use Rattle.cluster.specs.continued.Snapshots.{IsSnapshotOf}
use Rattle.cluster.specs.internals.Proposals.{proposals_in}
use Rattle.cluster.proofs.Keeping.{notes_in_front}
use Rattle.cluster.proofs.Publishing.{proposals_counted}
use Rattle.cluster.proofs.TableRuns.{table_run}
use Rattle.run_record.specs.Records.{AreTasksAt, AreLast, IsRecordOf, RemembersMore, IsTakenOver, HasParts, handles_shown}
use Rattle.run_record.specs.declared.run_record.RunRecord.{RunRecord}
use Rattle.run_record.proofs.Handles.{given_later, from_inserted}

-- what follows where a call was answered
pub on_ok : {A E P Q : Type 0} (result : Result A E) → (P → Q) → OnOk result P → OnOk result Q
on_ok (Ok value) follows p = follows p
on_ok (Err why) follows p = p

-- THE LAST ONES

last_more : {A : Type 0} (made next kept new more : List A) → next ≡ made ++ more → new ≡ kept ++ more → AreLast made kept → AreLast next new
last_more made next kept new more made_now kept_now last = (
  last.0,
  record {
    before = last.1.before;
    many = last.1.many;
    all =
        made_now ∙ ap (λ (xs : List _). xs ++ more) last.1.all ∙ append_assoc last.1.before kept more
        ∙ ap (λ (xs : List _). last.1.before ++ xs) (sym kept_now);
  },
)

-- there are none, after all that was made
pub none_last : {A : Type 0} (made kept : List A) → kept ≡ [] → AreLast made kept
none_last made kept none = (length made, record { before = made; many = refl; all = sym (append-nil made) ∙ ap (λ (xs : List _). made ++ xs) (sym none) })

pub fewer_last : {A : Type 0} (made kept fewer : List A) (n : ℕ) → fewer ≡ drop n kept → AreLast made kept → AreLast made fewer
fewer_last made kept fewer n is last = (
  length (last.1.before ++ take n kept),
  record {
    before = last.1.before ++ take n kept;
    many = refl;
    all =
        last.1.all ∙ ap (λ (xs : List _). last.1.before ++ xs) (sym (take-append-drop n kept)) ∙ sym (append_assoc last.1.before (take n kept) (drop n kept))
        ∙ ap (λ (xs : List _). (last.1.before ++ take n kept) ++ xs) (sym is);
  },
)

-- the first ones are as many as are not kept
pub first_is : {A : Type 0} (many : ℕ) (made kept : List A) → many ≡ length made → AreLast made kept → AreAfter (many - length kept) made kept
first_is many made kept count last = record {
  before = last.1.before;
  many = (let all = ap (λ (xs : List _). length xs) last.1.all ∙ length-append last.1.before kept in omega (arith, all, count));
  all = last.1.all;
}

-- WHAT A CALL MAKES

granted : (r : TableReply) (c : TableCall) (before : List AnsweredTableCall)
    → grants_sent (with_table_call (call.Table c) (reply.Table r) before) ≡ grants_sent before ++ grants_sent (with_table_call (call.Table c) (reply.Table r) [])
granted (table_told.Granted grant) c before = refl
granted (table_told.Term term) c before = sym (append-nil (grants_sent before))
granted table_told.Proposed c before = sym (append-nil (grants_sent before))
granted (table_told.Committed generation) c before = sym (append-nil (grants_sent before))
granted (table_told.Freed many) c before = sym (append-nil (grants_sent before))
granted (table_told.Lost many) c before = sym (append-nil (grants_sent before))

grants_told : (told : ClusterReply) (c : TableCall) (before : List AnsweredTableCall)
    → grants_sent (with_table_call (call.Table c) told before) ≡ grants_sent before ++ grants_sent (with_table_call (call.Table c) told [])
grants_told (reply.Table r) c before = granted r c before
grants_told _ c before = sym (append-nil (grants_sent before))

grants_more : (c : ClusterCall) (told : ClusterReply) (before : List AnsweredTableCall)
    → grants_sent (with_table_call c told before) ≡ grants_sent before ++ grants_sent (with_table_call c told [])
grants_more (call.Table c) told before = grants_told told c before
grants_more _ told before = sym (append-nil (grants_sent before))

proposed : (c : TableCall) (r : TableReply) (before : List AnsweredTableCall)
    → proposals_in (with_table_call (call.Table c) (reply.Table r) before) ≡ proposals_in before ++ proposals_in (with_table_call (call.Table c) (reply.Table r) [])
proposed (table_call.Propose number slicing at) r before = refl
proposed (table_call.JobTake assigner at) r before = sym (append-nil (proposals_in before))
proposed (table_call.JobRenew number at) r before = sym (append-nil (proposals_in before))
proposed (table_call.Commit number at) r before = sym (append-nil (proposals_in before))
proposed (table_call.Grant task life at) r before = sym (append-nil (proposals_in before))
proposed (table_call.Free note at) r before = sym (append-nil (proposals_in before))
proposed table_call.Restart r before = sym (append-nil (proposals_in before))

proposals_told : (told : ClusterReply) (c : TableCall) (before : List AnsweredTableCall)
    → proposals_in (with_table_call (call.Table c) told before) ≡ proposals_in before ++ proposals_in (with_table_call (call.Table c) told [])
proposals_told (reply.Table r) c before = proposed c r before
proposals_told _ c before = sym (append-nil (proposals_in before))

proposals_more : (c : ClusterCall) (told : ClusterReply) (before : List AnsweredTableCall)
    → proposals_in (with_table_call c told before) ≡ proposals_in before ++ proposals_in (with_table_call c told [])
proposals_more (call.Table c) told before = proposals_told told c before
proposals_more _ told before = sym (append-nil (proposals_in before))

-- NOTES

or_turned : (a b : Bool) → (b || (a || false)) ≡ (a || b)
or_turned true true = refl
or_turned true false = refl
or_turned false true = refl
or_turned false false = refl

any_reversed : {A : Type 0} (p : A → Bool) (xs : List A) → list_any p (reverse xs) ≡ list_any p xs
any_reversed p [] = refl
any_reversed p (x ∷ xs) =
    ap (list_any p) (reverse-append (x ∷ []) xs) ∙ list_any-append p (reverse xs) (x ∷ []) ∙ ap (λ (b : Bool). b || (p x || false)) (any_reversed p xs)
    ∙ or_turned (p x) (list_any p xs)

either_way : (old more made : Bool) → (old || more) ≡ true → (old ≡ true → made ≡ true) → (more || made) ≡ true
either_way old true made found known = refl
either_way true false made found known = known refl
either_way false false made found known = absurd (cc)

-- what is found among what is kept, or among what a call made, was made
any_more : {A : Type 0} (p : A → Bool) (made next kept new found more : List A) → next ≡ more ++ made → new ≡ kept ++ found → list_any p found ≡ list_any p more
    → (list_any p kept ≡ true → list_any p made ≡ true) → list_any p new ≡ true → list_any p next ≡ true
any_more p made next kept new found more made_now kept_now same known e =
    let told : (list_any p kept || list_any p more) ≡ true =
    ap (λ (b : Bool). list_any p kept || b) (sym same) ∙ sym (ap (list_any p) kept_now ∙ list_any-append p kept found) ∙ e in
    ap (list_any p) made_now ∙ list_any-append p more made ∙ either_way (list_any p kept) (list_any p more) (list_any p made) told known

-- THE RECORD

pub record_next : (job : Job) (past : Past) (c : ClusterCall) (told : ClusterReply) (old new : RunRecord) → IsRecordOf job past old
    → RemembersMore c told old new → AreTasksAt (event c told ∷ past) job.tasks new.tasks.items
    → AreActors (λ n. newest_learnt n (event c told ∷ past)) job.clerks new.clerks.items
    → ((handle : KeyHandle) → list_any (same_handle handle) (handles_shown c told) ≡ true → is_given (event c told ∷ past) handle ≡ true)
    → IsRecordOf job (event c told ∷ past) new
record_next job past c told old new is more tasks clerks shown = record {
  tasks = tasks;
  clerks = clerks;
  grants = last_more (grants past) _ old.grants.items new.grants.items _ (grants_more c told (table_calls past)) more.grants is.grants;
  assignments =
      last_more (proposals_in (table_calls past)) _ old.assignments.items new.assignments.items _ (proposals_more c told (table_calls past))
      more.assignments is.assignments;
  notes = λ note. any_more (same_note note) (notes_made past) _ old.notes.items new.notes.items _ (with_note c told [])
      (notes_in_front c told (notes_made past)) more.notes (any_reversed (same_note note) (with_note c told [])) (is.notes note);
  handles = λ handle found.
      from_inserted (same_handle handle) same_handle (handles_shown c told) old.handles.keys (is_given (event c told ∷ past) handle)
      (λ kept. given_later past c told handle (is.handles handle kept)) (shown handle)
      (subst (λ (xs : List KeyHandle). list_any (same_handle handle) xs ≡ true) more.handles found);
  reading = more.reading ∙ ap (greater_reading (reading c)) is.reading;
}

any_none : {A : Type 0} (p : A → Bool) (xs : List A) (b : Bool) → xs ≡ [] → list_any p xs ≡ true → b ≡ true
any_none p xs b none e = absurd (let f : list_any p [] ≡ true = subst (λ (ys : List _). list_any p ys ≡ true) none e in let g : false ≡ true = f in cc)

-- a record remembers nothing of what was made
pub record_empty : (job : Job) (past : Past) (r : RunRecord) → AreTasksAt past job.tasks r.tasks.items
    → AreActors (λ n. newest_learnt n past) job.clerks r.clerks.items → AreLast (proposals_in (table_calls past)) r.assignments.items
    → r.grants.items ≡ [] → r.notes.items ≡ [] → r.handles.keys ≡ [] → r.table_reading ≡ greatest_reading (readings past) → IsRecordOf job past r
record_empty job past r tasks clerks assignments no_grants no_notes no_handles last = record {
  tasks = tasks;
  clerks = clerks;
  grants = none_last (grants past) r.grants.items no_grants;
  assignments = assignments;
  notes = λ note. any_none (same_note note) r.notes.items (is_made past note) no_notes;
  handles = λ handle. any_none (same_handle handle) r.handles.keys (is_given past handle) no_handles;
  reading = last;
}

-- a record that takes over what a snapshot has
pub record_taken : (job : Job) (past : Past) (s : ClusterSnapshot) (r : RunRecord) → IsSnapshotOf job past s → IsTakenOver s r → IsRecordOf job past r
record_taken job past s r is taken =
    record_empty job past r (subst (λ (xs : List _). AreTasksAt past job.tasks xs) (sym taken.tasks) (record { all = is.all_tasks; each = is.tasks }))
    (subst (λ (xs : List (Option Slicing)). AreActors (λ n. newest_learnt n past) job.clerks xs) (sym taken.clerks) is.clerks)
    (fewer_last _ s.assignments.items r.assignments.items _ taken.assignments (_, is.proposals)) taken.grants taken.notes taken.handles
    (taken.reading ∙ is.reading)

-- the snapshot that has what a record has
pub snapshot_is : (job : Job) (past : Past) (r : RunRecord) (s : ClusterSnapshot) → IsRun job past → IsRecordOf job past r → IsTableSnapshotOf (standing job.policy past) s.table → HasParts r s
    → s.notes_made ≡ length (notes_made past) → s.handles_made ≡ length (handles_made past) → IsSnapshotOf job past s
snapshot_is job past r s run is table has notes handles = record {
  run = run;
  table = table;
  all_tasks = ap (λ (xs : List _). length xs) has.tasks ∙ is.tasks.all;
  tasks = (subst (λ (xs : List _). AreTasksAt past job.tasks xs) (sym has.tasks) is.tasks).each;
  clerks = subst (λ (xs : List (Option Slicing)). AreActors (λ n. newest_learnt n past) job.clerks xs) (sym has.clerks) is.clerks;
  grants = first_is s.table.kept.granted (grants past) s.grants.items granted_count (subst (λ (xs : List Grant). AreLast (grants past) xs) (sym has.grants) is.grants);
  proposals = first_is (newest_in s.table.kept) (proposals_in (table_calls past)) s.assignments.items proposed_count
      (subst (λ (xs : List Slicing). AreLast (proposals_in (table_calls past)) xs) (sym has.assignments) is.assignments);
  notes = λ note. subst (λ (xs : List ReleaseNote). list_any (same_note note) xs ≡ true → is_made past note ≡ true) (sym has.notes) (is.notes note);
  handles = λ handle. subst (λ (xs : List KeyHandle). list_any (same_handle handle) xs ≡ true → is_given past handle ≡ true) (sym has.handles) (is.handles handle);
  many_notes = notes;
  many_handles = handles;
  reading = has.reading ∙ is.reading;
}
  where
    granted_count : s.table.kept.granted ≡ length (grants past)
    granted_count = ap (λ k. k.granted) table.kept

    proposed_count : newest_in s.table.kept ≡ length (proposals_in (table_calls past))
    proposed_count = ap newest_in table.kept ∙ sym (proposals_counted job.policy (table_calls past) (table_run (from_start job) past run))
