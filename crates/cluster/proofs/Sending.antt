-- What a task heard was sent, and so was every lease that it holds.
use Rattle.std.proofs.Common.{◌≡◌, ℕ, List, [], ◌∷◌, sym, subst, inl, inr}
use Rattle.std.specs.Prelude.{Some, None, Result, Ok, Contains}
use Rattle.std.specs.List.{AllByRecursion}
use Rattle.std.proofs.lemmas.List.Elements.{Contains-append_left}
use Rattle.machines.proofs.Every.{all_weaker}
use Rattle.lease_rule.specs.declared.lease.Kind.{Kind}
use Rattle.grants.specs.declared.table_call.TableReply.{TableReply}
use Rattle.grants.specs.declared.table_call.TableReply.TheVariants as told
use Rattle.grants.specs.declared.table_error.TableError.{TableError}
use Rattle.grants.specs.declared.values.Grant.{Grant}
use Rattle.grants.specs.Equality.{grant_eq}
use Rattle.lease_table.specs.Calls.{AnsweredTableCall, grants_after}
use Rattle.lease_table.specs.OpenRows.{IsSent}
use Rattle.grants.specs.declared.slicelet_call.SliceletCall.{SliceletCall}
use Rattle.grants.specs.declared.slicelet_call.SliceletCall.TheVariants.{Start, Hear, Release, Resume}
use Rattle.slicelet.specs.Calls.{held_grant}
use Rattle.slicelet.proofs.Hearing.{held_heard, all_at_heard}
use Rattle.cluster.specs.continued.Jobs.{Continued, Forgotten}
use Rattle.job_calls.specs.declared.error.ClusterError.TheVariants as error
use Rattle.cluster.specs.Pasts.{Event, Past, table_calls, grants, task_calls}
use Rattle.cluster.specs.Made.{is_sent}
use Rattle.cluster.specs.continued.Deliveries.{knows_grant, task_refusal}
use Rattle.cluster.specs.continued.Runs.{IsReply, IsRun}
use Rattle.cluster.proofs.Sameness.{equal_grants, is_member}
use Rattle.cluster.proofs.Taking.{known_made, unless_true, task_taken}
use Rattle.cluster.proofs.Adding.{adds_to_table, adds_to_task}

-- grants stay sent
pub sent_longer : (answer : Result TableReply TableError) (sent : List Grant) (grant : Grant) → Contains sent grant → Contains (grants_after answer sent) grant
sent_longer (Ok (told.Granted other)) sent grant s = Contains-append_left sent (other ∷ []) grant s
sent_longer _ sent grant s = s

pub sent_later : (e : Event) (past : Past) (grant : Grant) → IsSent (table_calls past) grant → IsSent (table_calls (e ∷ past)) grant
sent_later e past grant s =
    elim (adds_to_table past e) [
      | inl same ↦ subst (λ (calls : List AnsweredTableCall). IsSent calls grant) (sym same) s
      | inr new ↦ subst (λ (calls : List AnsweredTableCall). IsSent calls grant) (sym new.added) (sent_longer (Ok new.told) (grants past) grant s)
    ]

-- what a call hears was sent
abbrev pub HearsSent : List AnsweredTableCall → SliceletCall → Type 0
HearsSent calls (Start life at) = Unit {0}
HearsSent calls (Hear grant at) = IsSent calls grant
HearsSent calls (Release kind at) = Unit {0}
HearsSent calls (Resume life) = Unit {0}

hears_later : (e : Event) (past : Past) (c : SliceletCall) → HearsSent (table_calls past) c → HearsSent (table_calls (e ∷ past)) c
hears_later e past (Start life at) h = tt
hears_later e past (Hear grant at) h = sent_later e past grant h
hears_later e past (Release kind at) h = tt
hears_later e past (Resume life) h = tt

hears_now : (forgotten : Forgotten) (past : Past) (c : SliceletCall) → task_refusal forgotten past c ≡ None → HearsSent (table_calls past) c
hears_now forgotten past (Start life at) came = tt
hears_now forgotten past (Hear grant at) came =
    is_member grant_eq equal_grants grant (grants past)
    (known_made (forgotten.grant past grant.number) (is_sent past grant) (unless_true (knows_grant forgotten past grant) error.NotSent came))
hears_now forgotten past (Release kind at) came = tt
hears_now forgotten past (Resume life) came = tt

pub all_heard_sent : (job : Continued) (task : ℕ) (past : Past) → IsRun job past → AllByRecursion (HearsSent (table_calls past)) (task_calls task past)
all_heard_sent job task [] run = tt
all_heard_sent job task (e ∷ past) run =
    let sent = HearsSent (table_calls past) in
    let before = all_heard_sent job task past run.1 in
    all_weaker sent (HearsSent (table_calls (e ∷ past))) (task_calls task (e ∷ past)) (λ c h. hears_later e past c h)
    (elim (adds_to_task task past e) [
      | inl same ↦ subst (λ (calls : List SliceletCall). AllByRecursion sent calls) (sym same) before
      | inr new ↦ (
          let t = task_taken job past task new.made new.told (subst (λ (x : Event). IsReply job past x) new.is run.0) new.accepted in
          subst (λ (calls : List SliceletCall). AllByRecursion sent calls) (sym new.added) (hears_now job.forgotten past new.made t.came, before))
    ])

-- every lease that a task holds was sent
pub held_sent : (job : Continued) (task : ℕ) (past : Past) (kind : Kind) (grant : Grant) → IsRun job past → held_grant kind (task_calls task past) ≡ Some grant
    → IsSent (table_calls past) grant
held_sent job task past kind grant run e =
    let h = task_calls task past in
    all_at_heard (HearsSent (table_calls past)) h grant (all_heard_sent job task past run) (held_heard kind h grant e)
