-- With timely clocks and careful tasks, no token of a task falls.
use Rattle.std.proofs.Common.{◌≡◌, ◌∙◌, ℕ, ◌+◌, ◌-◌, ◌<◌, ◌≤◌, Bool, true, false, List, [], ◌∷◌, refl, sym, ap, subst, inl, inr, ◌⊎◌, arith}
use Rattle.std.specs.Prelude.{Option, Some, None, is_some, ◌&&◌, Ok}
use Rattle.std.proofs.lemmas.List.Elements.{Contains-push_cases}
use Rattle.machines.specs.Calls.{answered_call}
use Rattle.lease_rule.specs.declared.lease.Kind.{Kind}
use Rattle.lease_rule.specs.declared.lease.Kind.TheVariants.{Guard, Bridge}
use Rattle.grants.specs.declared.table_call.TableCall.{TableCall}
use Rattle.grants.specs.declared.table_call.TableCall.TheVariants as asked
use Rattle.grants.specs.declared.table_call.TableReply.{TableReply}
use Rattle.grants.specs.declared.table_call.TableReply.TheVariants.{Term, Proposed, Committed, Granted, Freed, Lost}
use Rattle.grants.specs.declared.values.Grant.{Grant}
use Rattle.grants.specs.Policies.{Terms}
use Rattle.lease_table.specs.Steps.{grant_with}
use Rattle.lease_table.specs.Calls.{AnsweredTableCall, standing_after, pending_in, grants_sent}
use Rattle.lease_table.specs.Runs.{IsRun as IsTableRun, commits_in}
use Rattle.lease_table.specs.Generations.{newest_generation, owns_in, covers_as}
use Rattle.lease_table.specs.OpenRows.{IsSent}
use Rattle.lease_table.proofs.Acceptance.{IsAcceptedAfter, acceptance}
use Rattle.lease_table.proofs.Induction.{of_grant}
use Rattle.lease_table.proofs.Leases.{granted_by}
use Rattle.grants.proofs.Members.{nowhere}
use Rattle.grants.specs.declared.slicelet_call.SliceletCall.{SliceletCall}
use Rattle.slicelet.specs.Calls.{life_of, is_started, held_grant, greatest_heard}
use Rattle.slicelet.specs.Laws.{HoldsOwnLeases, IsUpTo}
use Rattle.slicelet.specs.Accepted.{AreAccepted}
use Rattle.job_calls.specs.Jobs.{Job}
use Rattle.cluster.specs.Timing.{IsTimely}
use Rattle.job_calls.specs.declared.call.ClusterCall.TheVariants as call
use Rattle.job_calls.specs.declared.reply.ClusterReply.{ClusterReply}
use Rattle.job_calls.specs.declared.reply.ClusterReply.TheVariants as reply
use Rattle.cluster.specs.Pasts.{Event, event, Past, readings, is_accepted, table_calls, task_calls, history}
use Rattle.cluster.specs.Runs.{IsRun}
use Rattle.cluster.proofs.Adding.{adds_to_table, adds_to_task}
use Rattle.cluster.proofs.Sending.{sent_later}
use Rattle.cluster.proofs.GrantOrder.{newest_given, commits_grow}
use Rattle.cluster.proofs.LiveLeases.{most_next}
use Rattle.job_fence.specs.Requests.{Request, IsServed, Serves, ServesInTurn}
use Rattle.job_fence.specs.Care.{IsCarefulTaskCall, IsCarefulTableCall, IsCarefulCall, IsCareful}
use Rattle.job_fence.proofs.Points.{HasLaws, IsKnownOwner, owner_at, parts_of, token_of, started_at}
use Rattle.job_fence.proofs.Reaching.{HasLeaseLaws, reached_by, reached_at}
use Rattle.job_fence.proofs.Owners.{served_owner}
use Rattle.job_fence.proofs.Lives.{HasLifeLaws, life_later}
use Rattle.job_fence.proofs.Reserved.{IsKept, IsReserved, held_above, held_up_to, reserved_call}

-- what the laws below say of the table's calls in a run
pub record HasTableLaws (job : Job) : Type 0 where
  pub run : (past : Past) → IsRun job past → IsTableRun job.policy (table_calls past)
  pub ordered : (past : Past) → IsRun job past → (a b : Grant) → IsSent (table_calls past) a → IsSent (table_calls past) b → a.number ≤ b.number
      → a.lease.generation ≤ b.lease.generation

-- GRANTS TO LIVES THAT ARE STARTED

-- what one more call of the table sends: what it sent before, or a grant that it was asked for
record IsNewGrant (policy : Terms) (calls : List AnsweredTableCall) (c : TableCall) (grant : Grant) : Type 0 where
  task : ℕ
  life : ℕ
  at : ℕ
  asks : c ≡ asked.Grant task life at
  of_task : grant.task ≡ task
  of_life : grant.life ≡ life
  newest : grant.lease.generation ≡ newest_generation calls

new_grant : (policy : Terms) (calls : List AnsweredTableCall) (c : TableCall) (grant : Grant) → IsTableRun policy calls → IsAcceptedAfter policy calls c (Granted grant)
    → IsNewGrant policy calls c grant
new_grant policy calls c grant run a =
    let newest = newest_given policy calls c grant run a in
    of_grant policy (λ e. IsNewGrant policy calls e.call grant) calls c grant
    (λ task life at g. record {
      task = task;
      life = life;
      at = at;
      asks = refl;
      of_task = ap (λ (x : Grant). x.task) (granted_by (standing_after policy calls) task life at grant g) ∙ of_task task life at (pending_in calls);
      of_life = ap (λ (x : Grant). x.life) (granted_by (standing_after policy calls) task life at grant g) ∙ of_life task life at (pending_in calls);
      newest = newest;
    }) a
  where
    of_task : (task life at : ℕ) (p : Option _) → (grant_with (standing_after policy calls) p task life at).task ≡ task
    of_task task life at None = refl
    of_task task life at (Some next) = refl

    of_life : (task life at : ℕ) (p : Option _) → (grant_with (standing_after policy calls) p task life at).life ≡ life
    of_life task life at None = refl
    of_life task life at (Some next) = refl

sent_or_new : (policy : Terms) (calls : List AnsweredTableCall) (c : TableCall) (told : TableReply) (grant : Grant) → IsTableRun policy (answered_call c (Ok told) ∷ calls)
    → IsSent (answered_call c (Ok told) ∷ calls) grant → IsSent calls grant ⊎ IsNewGrant policy calls c grant
sent_or_new policy calls c (Granted last) grant run i =
    elim (Contains-push_cases (grants_sent calls) last grant i) [
      | inl sent ↦ inl sent
      | inr same ↦ inr (subst (IsNewGrant policy calls c) same (new_grant policy calls c last run.1 (acceptance (standing_after policy calls) c (Granted last) run.0)))
    ]
sent_or_new policy calls c (Term term) grant run i = inl i
sent_or_new policy calls c Proposed grant run i = inl i
sent_or_new policy calls c (Committed generation) grant run i = inl i
sent_or_new policy calls c (Freed count) grant run i = inl i
sent_or_new policy calls c (Lost count) grant run i = inl i

-- an event of a run sends what was sent before it, or a grant of the newest generation for which the event asks
record IsAsked (past : Past) (e : Event) (grant : Grant) : Type 0 where
  newest : grant.lease.generation ≡ newest_generation (table_calls past)
  careful : (task : ℕ) → grant.task ≡ task → (is_accepted e.reply ≡ true → IsCarefulCall task past e.call) → grant.life ≤ life_of (task_calls task past)

module _ (job : Job) (table : HasTableLaws job) where
  sent_before_or_asked : (e : Event) (past : Past) (grant : Grant) → IsRun job (e ∷ past) → IsSent (table_calls (e ∷ past)) grant
      → IsSent (table_calls past) grant ⊎ IsAsked past e grant
  sent_before_or_asked e past grant run i =
      elim (adds_to_table past e) [
        | inl same ↦ inl (subst (λ (calls : List AnsweredTableCall). IsSent calls grant) same i)
        | inr new ↦ by_call new.made new.told new.is
            (sent_or_new job.policy (table_calls past) new.made new.told grant (subst (IsTableRun job.policy) new.added (table.run (e ∷ past) run))
            (subst (λ (calls : List AnsweredTableCall). IsSent calls grant) new.added i))
      ]
    where
      careful_ask : (task : ℕ) (made : TableCall) (told : TableReply) → e ≡ event (call.Table made) (reply.Table told)
          → (is_accepted e.reply ≡ true → IsCarefulCall task past e.call) → IsCarefulTableCall task past made
      careful_ask task made told is c = (subst (λ (x : Event). is_accepted x.reply ≡ true → IsCarefulCall task past x.call) is c) refl

      by_call : (made : TableCall) (told : TableReply) → e ≡ event (call.Table made) (reply.Table told)
          → IsSent (table_calls past) grant ⊎ IsNewGrant job.policy (table_calls past) made grant → IsSent (table_calls past) grant ⊎ IsAsked past e grant
      by_call made told is (inl sent) = inl sent
      by_call made told is (inr new) = inr record {
        newest = new.newest;
        careful = λ task of_task c.
            let ask : new.task ≡ task → new.life ≤ life_of (task_calls task past) = subst (IsCarefulTableCall task past) new.asks (careful_ask task made told is c) in
            let now = ask (sym new.of_task ∙ of_task) in
            let is_life = new.of_life in
            omega (arith, now, is_life);
      }

  -- each grant to a careful task was sent for a life that it has started
  started_life : HasLifeLaws job → (task : ℕ) (past : Past) (grant : Grant) → IsRun job past → IsCareful task past → IsSent (table_calls past) grant → grant.task ≡ task
      → grant.life ≤ life_of (task_calls task past)
  started_life lives task [] grant run careful i of_task = absurd (nowhere grant i)
  started_life lives task (e ∷ past) grant run careful i of_task =
      let more = life_later job lives e past task run in
      elim (sent_before_or_asked e past grant run i) [
        | inl sent ↦ (let before = started_life lives task past grant run.1 careful.1 sent of_task in omega (arith, before, more))
        | inr new ↦ (let now = new.careful task of_task careful.0 in omega (arith, now, more))
      ]

-- WHAT IS KEPT OF A TOKEN OF THE GENERATION AFTER THE COMMITTED ONE

-- no grant of an earlier generation is for a later life, and while this life runs the bridge lease is held, or a later guard lease was heard
pub record IsAhead (past : Past) (task generation life : ℕ) : Type 0 where
  pub bridge : Grant
  pub is_sent : IsSent (table_calls past) bridge
  pub of_generation : generation ≤ bridge.lease.generation
  pub early : (grant : Grant) → IsSent (table_calls past) grant → grant.task ≡ task → grant.lease.generation < generation → grant.life ≤ life
  pub reserved : IsReserved (IsSent (table_calls past)) bridge.number generation life (task_calls task past)

abbrev pub IsPastOrAhead : Past → Request → Type 0
IsPastOrAhead past r = (r.token.generation ≤ commits_in (table_calls past)) ⊎ IsAhead past r.task r.token.generation r.token.life

-- more grants sent take nothing away
module _ (Given More : Grant → Type 0) (number generation : ℕ) (h : List SliceletCall) (from : (grant : Grant) → Given grant → More grant) where
  kept_more : IsKept Given number generation h → IsKept More number generation h
  kept_more kept = record { bridge = kept.bridge; instead = elim kept.instead [ inl held ↦ inl held | inr g ↦ inr (g.0, from g.0 g.1, g.2, g.3) ] }

  reserved_more : (life : ℕ) → IsReserved Given number generation life h → IsReserved More number generation life h
  reserved_more life r = (r.0, elim r.1 [ inl later ↦ inl later | inr now ↦ inr (elim now [ inl down ↦ inl down | inr kept ↦ inr (kept_more kept) ]) ])

careful_task : (e : Event) (past : Past) (task : ℕ) (made : SliceletCall) (told : ClusterReply) → e ≡ event (call.Task task made) told → is_accepted told ≡ true
    → (is_accepted e.reply ≡ true → IsCarefulCall task past e.call) → IsCarefulTaskCall (history task past) made
careful_task e past task made told is accepted c = (subst (λ (x : Event). is_accepted x.reply ≡ true → IsCarefulCall task past x.call) is c) accepted refl

past_or_ahead : (generation commits : ℕ) → (generation ≤ commits) ⊎ (commits < generation)
past_or_ahead generation commits = grind arith

-- a bridge lease covers what its task owns in its generation and in the one before
covers_both : (calls : List AnsweredTableCall) (key task generation : ℕ) (kind : Kind) (grant : Grant) → kind ≡ Bridge → grant.task ≡ task
    → grant.lease.generation ≡ generation → owns_in calls (generation - 1) key task ≡ true → owns_in calls generation key task ≡ true → covers_as kind calls key grant ≡ true
covers_both calls key task generation Guard grant bridge of_task same before now = absurd (cc)
covers_both calls key task generation Bridge grant bridge of_task same before now =
    both_true (owns_in calls (grant.lease.generation - 1) key grant.task) (owns_in calls grant.lease.generation key grant.task)
    (subst (λ (g : ℕ). owns_in calls (g - 1) key grant.task ≡ true) (sym same) (subst (λ (t : ℕ). owns_in calls (generation - 1) key t ≡ true) (sym of_task) before))
    (subst (λ (g : ℕ). owns_in calls g key grant.task ≡ true) (sym same) (subst (λ (t : ℕ). owns_in calls generation key t ≡ true) (sym of_task) now))
  where
    both_true : (a b : Bool) → a ≡ true → b ≡ true → (a && b) ≡ true
    both_true true b e f = f
    both_true false b e f = absurd (cc)

some_held : (o : Option Grant) → is_some o ≡ true → (grant : Grant) × (o ≡ Some grant)
some_held None e = absurd (cc)
some_held (Some grant) e = (grant, refl)

module _ (job : Job) (laws : HasLaws job) (leases : HasLeaseLaws job) (lives : HasLifeLaws job) (table : HasTableLaws job) where
  reserved_later : (e : Event) (past : Past) (task generation life : ℕ) → IsRun job (e ∷ past) → IsCareful task (e ∷ past) → (a : IsAhead past task generation life)
      → IsReserved (IsSent (table_calls past)) a.bridge.number generation life (task_calls task (e ∷ past))
  reserved_later e past task generation life run careful a =
      elim (adds_to_task task past e) [
        | inl same ↦ subst (IsReserved (IsSent (table_calls past)) a.bridge.number generation life) (sym same) a.reserved
        | inr new ↦ (
            let accepted = subst (AreAccepted task) new.added (lives.told (e ∷ past) task run) in
            subst (IsReserved (IsSent (table_calls past)) a.bridge.number generation life) (sym new.added)
            (reserved_call task (IsSent (table_calls past)) a.bridge.number generation life (task_calls task past) (leases.spent past task run.1)
            (λ kind grant held. laws.sent past task kind grant run.1 held)
            (λ grant sent low.
            let is = a.of_generation in
            let up = table.ordered past run.1 a.bridge grant a.is_sent sent low in
            omega (arith, is, up))
            new.made accepted (careful_task e past task new.made new.told new.is new.accepted careful.0) a.reserved))
      ]

  ahead_later : (e : Event) (past : Past) (task generation life : ℕ) → IsRun job (e ∷ past) → IsCareful task (e ∷ past) → generation ≤ newest_generation (table_calls past)
      → IsAhead past task generation life → IsAhead (e ∷ past) task generation life
  ahead_later e past task generation life run careful known a = record {
    bridge = a.bridge;
    is_sent = sent_later e past a.bridge a.is_sent;
    of_generation = a.of_generation;
    early = λ grant i of_task low.
        elim (sent_before_or_asked job table e past grant run i) [
          | inl sent ↦ a.early grant sent of_task low
          | inr new ↦ (let is = new.newest in absurd (omega (arith, is, known, low)))
        ];
    reserved = reserved_more (IsSent (table_calls past)) (IsSent (table_calls (e ∷ past))) a.bridge.number generation (task_calls task (e ∷ past))
        (λ grant sent. sent_later e past grant sent) life (reserved_later e past task generation life run careful a);
  }

  -- just as a request is served
  ahead_at : (epoch : ℕ) (past : Past) (e : Event) (r : Request) → IsRun job past → IsCareful r.task past → IsServed job epoch past e r
      → commits_in (table_calls past) < r.token.generation → r.token.generation ≤ newest_generation (table_calls past)
      → IsAhead past r.task r.token.generation r.token.life
  ahead_at epoch past e r run careful s above known =
      let h = task_calls r.task past in
      let t = token_of job epoch past e r s in
      let sent = laws.sent past r.task t.kind t.grant run t.is_held in
      let own = leases.spent past r.task run in
      let high = most_next (commits_in (table_calls past)) (pending_in (table_calls past)) in
      let told = t.told in
      let next : t.grant.lease.generation ≡ commits_in (table_calls past) + 1 = omega (arith, told, above, known, high) in
      let of_kind : t.kind ≡ Bridge = sym (own.own t.kind t.grant t.is_held).of_kind ∙ laws.bridge past t.grant run sent next in
      let held = subst (λ (k : Kind). held_grant k h ≡ Some t.grant) of_kind t.is_held in
      let of_life = (parts_of job epoch past e r s).of_life in
      record {
        bridge = t.grant;
        is_sent = sent;
        of_generation = omega (arith, told);
        early = λ grant i of_task low.
            let started = started_life job table lives r.task past grant run careful i of_task in
            omega (arith, started, of_life);
        reserved = (omega (arith, of_life), inr (inr record { bridge = held_up_to r.task h Bridge t.grant own held; instead = inl (ap is_some held) }));
      }

  stays : (e : Event) (past : Past) (r : Request) → IsRun job (e ∷ past) → IsCareful r.task (e ∷ past) → r.token.generation ≤ newest_generation (table_calls past)
      → IsPastOrAhead past r → IsPastOrAhead (e ∷ past) r
  stays e past r run careful known (inl low) = (let more = commits_grow e past in inl (omega (arith, low, more)))
  stays e past r run careful known (inr ahead) = inr (ahead_later e past r.task r.token.generation r.token.life run careful known ahead)

  served_ahead : (epoch : ℕ) (run : Past) (r : Request) → IsRun job run → IsCareful r.task run → Serves job epoch run r → IsPastOrAhead run r
  served_ahead epoch [] r run careful s = absurd s
  served_ahead epoch (e ∷ past) r run careful (inl s) =
      let known = (owner_at job laws epoch past e r run s).known in
      stays e past r run careful known
      (elim (past_or_ahead r.token.generation (commits_in (table_calls past))) [
        | inl low ↦ inl low
        | inr above ↦ inr (ahead_at epoch past e r run.1 careful.1 s above known)
      ])
  served_ahead epoch (e ∷ past) r run careful (inr s) =
      stays e past r run careful (served_owner job laws epoch past r run.1 s).known (served_ahead epoch past r run.1 careful.1 s)

  -- A LATER REQUEST FOR THE KEY

  module _ (epoch : ℕ) (past : Past) (e : Event) (r : Request) (run : IsRun job (e ∷ past)) (s : IsServed job epoch past e r) (generation life : ℕ)
      (owner : IsKnownOwner (table_calls past) r.task r.key generation) (ahead : IsAhead past r.task generation life)
      (own : HoldsOwnLeases r.task (task_calls r.task past)) (serving : Grant) (committed : commits_in (table_calls past) ≤ serving.lease.generation)
      (older : serving.lease.generation < generation) where
    by_bridge : (grant : Grant) → held_grant Bridge (task_calls r.task past) ≡ Some grant → IsUpTo ahead.bridge.number (greatest_heard Bridge (task_calls r.task past))
        → generation ≤ grant.lease.generation
    by_bridge grant held up =
        let sent = laws.sent past r.task Bridge grant run.1 held in
        let number = held_above r.task ahead.bridge.number (task_calls r.task past) Bridge grant own held up in
        let later = table.ordered past run.1 ahead.bridge grant ahead.is_sent sent number in
        let is = ahead.of_generation in
        omega (arith, is, later)

    -- the bridge lease that is held covers the key
    by_held : (grant : Grant) → held_grant Bridge (task_calls r.task past) ≡ Some grant → generation ≤ grant.lease.generation → generation ≤ r.token.generation
    by_held grant held above =
        let calls = table_calls past in
        let sent = laws.sent past r.task Bridge grant run.1 held in
        let newest = laws.newest past grant run.1 sent in
        let high = most_next (commits_in calls) (pending_in calls) in
        let next : generation ≡ commits_in calls + 1 = omega (arith, above, newest, high, committed, older) in
        let same : grant.lease.generation ≡ generation = omega (arith, above, newest, high, committed, older) in
        let before : commits_in calls ≡ generation - 1 = omega (arith, next) in
        let o = own.own Bridge grant held in
        let covered = covers_both calls r.key r.task generation grant.lease.kind grant o.of_kind o.of_task same
        (subst (λ (g : ℕ). owns_in calls g r.key r.task ≡ true) before (owner.ahead next)) owner.owned in
        let most = (token_of job epoch past e r s).most Bridge grant held covered in
        omega (arith, above, most)

    by_kept : (kind : Kind) → held_grant kind (task_calls r.task past) ≡ Some serving → IsKept (IsSent (table_calls past)) ahead.bridge.number generation (task_calls r.task past)
        → generation ≤ r.token.generation
    by_kept Bridge held kept = (let above = by_bridge serving held kept.bridge in absurd (omega (arith, above, older)))
    by_kept Guard held kept =
        elim kept.instead [
          | inl some ↦ (let b = some_held (held_grant Bridge (task_calls r.task past)) some in by_held b.0 b.1 (by_bridge b.0 b.1 kept.bridge))
          | inr g ↦ (
              let sent = laws.sent past r.task Guard serving run.1 held in
              let number = held_above r.task g.0.number (task_calls r.task past) Guard serving own held g.3 in
              let later = table.ordered past run.1 g.0 serving g.1 sent number in
              let is = g.2 in
              absurd (omega (arith, is, later, older)))
        ]

    by_reserved : (kind : Kind) → held_grant kind (task_calls r.task past) ≡ Some serving → is_started (task_calls r.task past) ≡ true → generation ≤ r.token.generation
    by_reserved kind held started =
        let o = own.own kind serving held in
        let early = ahead.early serving (laws.sent past r.task kind serving run.1 held) o.of_task older in
        let of_life = o.of_life in
        elim ahead.reserved.1 [
          | inl later ↦ absurd (omega (arith, early, of_life, later))
          | inr now ↦ elim now [
            | inl down ↦ absurd (let f : true ≡ false = sym started ∙ down in cc)
            | inr kept ↦ by_kept kind held kept
          ]
        ]

  not_lower : (epoch : ℕ) (past : Past) (e : Event) (r : Request) → IsRun job (e ∷ past) → IsTimely job.policy.skew (readings (e ∷ past)) → IsServed job epoch past e r
      → (generation life : ℕ) → IsKnownOwner (table_calls past) r.task r.key generation → IsAhead past r.task generation life → generation ≤ r.token.generation
  not_lower epoch past e r run timely s generation life owner ahead =
      let by = reached_by job laws leases epoch past e r run timely s in
      let told = by.told in
      elim (past_or_ahead generation by.lease.grant.lease.generation) [
        | inl low ↦ omega (arith, low, told)
        | inr older ↦ by_reserved epoch past e r run s generation life owner ahead (leases.spent past r.task run.1) by.lease.grant by.committed older (parts_of job epoch past e r s).kind
            by.lease.is_held (started_at job epoch past e r s)
      ]

  pub steady : (epoch : ℕ) (run : Past) (first second : Request) → IsRun job run → IsTimely job.policy.skew (readings run) → IsCareful first.task run
      → ServesInTurn job epoch run first second → first.key ≡ second.key → first.task ≡ second.task → first.token.generation ≤ second.token.generation
  steady epoch [] first second run timely careful turn same_key same_task = absurd turn
  steady epoch (e ∷ past) first second run timely careful (inl both) same_key same_task =
      elim (served_ahead epoch past first run.1 careful.1 both.1) [
        | inl low ↦ (let up = reached_at job laws leases epoch past e second run timely both.0 in omega (arith, low, up))
        | inr ahead ↦ (
            let owner = served_owner job laws epoch past first run.1 both.1 in
            let there = subst (λ (t : ℕ). IsKnownOwner (table_calls past) t first.key first.token.generation) same_task owner in
            not_lower epoch past e second run timely both.0 first.token.generation first.token.life
            (subst (λ (k : ℕ). IsKnownOwner (table_calls past) second.task k first.token.generation) same_key there)
            (subst (λ (t : ℕ). IsAhead past t first.token.generation first.token.life) same_task ahead))
      ]
  steady epoch (e ∷ past) first second run timely careful (inr turn) same_key same_task = steady epoch past first second run.1 timely.1 careful.1 turn same_key same_task
