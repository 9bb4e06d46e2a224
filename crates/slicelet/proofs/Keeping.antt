-- What a slicelet keeps after a call stands for the state that its step leaves.
use Rattle.std.proofs.Common.{◌≡◌, ◌∙◌, ℕ, ◌+◌, ◌≤◌, Bool, true, false, List, [], ◌∷◌, refl, sym, ap, subst, arith}
use Rattle.std.proofs.lemmas.Bool.{true≢false}
use Rattle.std.specs.Prelude.{Option, Some, None, Result, Ok, Err, IfOk, is_some, option_map}
use Rattle.slice_ranges.specs.Sets.{has}
use Rattle.machines.specs.Refusals.{first_of}
use Rattle.lease_rule.specs.declared.lease.Kind.{Kind}
use Rattle.lease_rule.specs.declared.lease.Kind.TheVariants.{Guard, Bridge}
use Rattle.lease_rule.specs.declared.holding.Holding.{Holding}
use Rattle.lease_rule.specs.declared.lease.Lease.{Lease}
use Rattle.lease_rule.specs.Rule.{SeenHolding, holding_seen_from, rule, is_allowed}
use Rattle.key_handle.specs.Stamps.{Stamps, since, stamp_after_change}
use Rattle.grants.specs.declared.values.Grant.{Grant}
use Rattle.grants.specs.declared.values.ReleaseNote.{ReleaseNote}
use Rattle.grants.specs.declared.slicelet_error.SliceletError.{SliceletError}
use Rattle.slicelet.specs.declared.heard.HeardGrant.{HeardGrant}
use Rattle.slicelet.specs.declared.heard.HeardGrants.{HeardGrants}
use Rattle.grants.specs.declared.slicelet_call.SliceletCall.{SliceletCall}
use Rattle.grants.specs.declared.slicelet_call.SliceletCall.TheVariants.{Start, Hear, Release, Resume}
use Rattle.slicelet.specs.Calls.{is_resume, this_process, reading_of, is_started, last_reading}
use Rattle.slicelet.specs.Rules.{covers_key, is_permitted}
use Rattle.slicelet.specs.Stamping.{turns, stamp_of, stamps_where}
use Rattle.slicelet.specs.States.{SliceletState, state_after, held_in, greatest_in, stamp_in, holding_in, permits}
use Rattle.slicelet.specs.Steps.{hear_checks, release_checks, hear_step, release_step, number_of, note_of, with_grant, with_greatest, moved_by, read_at, state_with_count, next_state}
use Rattle.slicelet.specs.Accepted.{StandsAfter}
use Rattle.slicelet.specs.internals.State.{lease_of_kind, with_lease, heard_of_kind, with_heard, number_in, granted_as, leases_of, state_of}
use Rattle.slicelet.specs.internals.Stamping.{serves, IsRestamped, Renews}
use Rattle.slicelet.proofs.Seeing.{seen_leases, permits_served}
use Rattle.slicelet.proofs.States.{same_stamps, stamp_among_where}
use Rattle.slicelet.proofs.Stamping.{after_last, stamp_unchanged}
use Rattle.slicelet.proofs.Accepting.{hear_accepted, release_accepted}
use Rattle.slicelet.proofs.Standing.{restamped_same, leads_on}
use Rattle.slicelet.proofs.Processes.{permitted_in_process, process_longer}

-- THE STAMPS AFTER A CALL

-- the stamps that a call makes are those that its step leaves
stamps_left : (s moved : SliceletState) (at : ℕ) (next : Holding) (stamps : Stamps) → IsRestamped s at next stamps → moved.up ≡ true → moved.last ≤ at
    → ((key : ℕ) → serves next key at ≡ serves (leases_of moved) key at) → stamps_where (since stamps) ≡ (state_with_count s moved at).stamps
stamps_left s moved at next stamps r started l same = same_stamps _ _ (λ key k.
    r key k ∙ restamped_same (stamp_in s key) _ (permits s key at) _ _ _ (s.count + 1) _ refl refl (same key ∙ sym (permits_served moved key at started l)) refl)

resume_stops : (c : SliceletCall) (h : List SliceletCall) → is_resume c ≡ true → is_started (c ∷ h) ≡ false
resume_stops (Start life at) h e = absurd (cc)
resume_stops (Hear grant at) h e = absurd (cc)
resume_stops (Release kind at) h e = absurd (cc)
resume_stops (Resume life) h e = refl

-- what is served now was permitted just after the newest call
left_last : (task key : ℕ) (h : List SliceletCall) (at : ℕ) → is_started h ≡ true → last_reading h ≤ at
    → ((earlier : ℕ) → earlier ≤ at → serves (leases_of (state_after task h)) key earlier ≡ serves (leases_of (state_after task h)) key at)
    → after_last (turns (covers_key key) (this_process h)) ≡ serves (leases_of (state_after task h)) key at
left_last task key [] at started l stays = absurd (cc)
left_last task key (c ∷ h) at started l stays = by_test (is_resume c) refl
  where
    left : is_resume c ≡ false → after_last (turns (covers_key key) (this_process (c ∷ h))) ≡ serves (leases_of (state_after task (c ∷ h))) key at
    left goes =
        let on_time : reading_of c ≤ reading_of c = omega arith in
        ap (λ (calls : List SliceletCall). after_last (turns (covers_key key) calls)) (process_longer c h goes)
        ∙ ap (λ (calls : List SliceletCall). is_permitted (covers_key key) calls (reading_of c)) (sym (process_longer c h goes))
        ∙ permitted_in_process (covers_key key) (c ∷ h) (reading_of c)
        ∙ (permits_served (state_after task (c ∷ h)) key (reading_of c) started on_time ∙ stays (reading_of c) l)

    by_test : (b : Bool) → is_resume c ≡ b → after_last (turns (covers_key key) (this_process (c ∷ h))) ≡ serves (leases_of (state_after task (c ∷ h))) key at
    by_test true e = absurd (true≢false (sym started ∙ resume_stops c h e))
    by_test false e = left e

renewed_after : (task : ℕ) (h : List SliceletCall) (at n key : ℕ) (next : Holding) → is_started h ≡ true → last_reading h ≤ at → Renews (leases_of (state_after task h)) next at
    → stamp_of (covers_key key) h ≡ stamp_after_change (stamp_of (covers_key key) h) (permits (state_after task h) key at) (serves next key at) n
renewed_after task h at n key next started l renews =
    let served = serves (leases_of (state_after task h)) key at in
    stamp_unchanged (turns (covers_key key) (this_process h)) served n (left_last task key h at started l (renews.stays key))
    ∙ sym (restamped_same (stamp_of (covers_key key) h) _ _ _ _ _ n _ refl (permits_served (state_after task h) key at started l) (renews.same key) refl)

-- a lease that renews what is held leaves the stamps
renewed_stamps : (h : List SliceletCall) (s : SliceletState) (at : ℕ) (next : Holding) (stamps : Stamps) → StandsAfter h s → s.up ≡ true → s.last ≤ at
    → s.stamps ≡ stamps_where (since stamps) → Renews (leases_of s) next at → IsRestamped s at next stamps
renewed_stamps h s at next stamps k started l are renews key inside =
    let here : stamp_in s key ≡ since stamps key = ap (λ (xs : List (Option ℕ)). stamp_in (record s { stamps = xs }) key) are ∙ stamp_among_where (since stamps) key inside in
    let there : stamp_in s key ≡ stamp_of (covers_key key) h = ap (λ (x : SliceletState). stamp_in x key) k.state ∙ stamp_among_where (λ key. stamp_of (covers_key key) h) key inside in
    let kept = renewed_after s.task h at (s.count + 1) key next (ap (λ (x : SliceletState). x.up) (sym k.state) ∙ started)
    (subst (λ (x : SliceletState). x.last ≤ at) k.state l) (subst (λ (x : SliceletState). Renews (leases_of x) next at) k.state renews) in
    sym here ∙ there ∙ kept
    ∙ restamped_same _ _ _ _ _ _ _ _ (sym there) (ap (λ (x : SliceletState). permits x key at) (sym k.state)) refl refl

-- THE STATE THAT A SLICELET STANDS FOR

lease_back : (task life : ℕ) (heard : Option HeardGrant) (held : Option Lease) → option_map (λ (grant : Grant). grant.lease) (option_map (granted_as task life heard) held) ≡ held
lease_back task life heard None = refl
lease_back task life heard (Some lease) = refl

module _ (task count life resumed : ℕ) (holding : Holding) (heard : HeardGrants) (stamps : Stamps) where
  pub leases_kept : leases_of (state_of task count life resumed holding heard stamps) ≡ holding
  leases_kept = rw (lease_back task life heard.guard holding.guard, lease_back task life heard.bridge holding.bridge) refl

  -- the rule over what is kept is the rule over the state
  pub seen_kept : (key : ℕ) → holding_seen_from holding key ≡ holding_in (covers_key key) (state_of task count life resumed holding heard stamps)
  seen_kept key = ap (λ (held : Holding). holding_seen_from held key) (sym leases_kept) ∙ seen_leases key (state_of task count life resumed holding heard stamps)

  pub permits_kept : (key at : ℕ) → is_allowed (rule (holding_seen_from holding key) at) ≡ permits (state_of task count life resumed holding heard stamps) key at
  permits_kept key at = ap (λ (seen : SeenHolding). is_allowed (rule seen at)) (seen_kept key)

  -- so are the keys that it permits
  pub permitted_kept : {E : Type 0} (at : ℕ) (result : Result (List ℕ) E) → IfOk result (λ r. (key : ℕ) → has r key ≡ is_allowed (rule (holding_seen_from holding key) at))
      → IfOk result (λ r. (key : ℕ) → has r key ≡ permits (state_of task count life resumed holding heard stamps) key at)
  permitted_kept at (Err e) is = is
  permitted_kept at (Ok r) is = λ key. is key ∙ permits_kept key at

  -- the stamps that a slicelet makes for its next call
  pub restamped_is : {E : Type 0} (kind : Kind) (lease : Option Lease) (at n : ℕ) (before after : List ℕ) (result : Result Stamps E)
      → ((key : ℕ) → has before key ≡ is_allowed (rule (holding_seen_from holding key) at)) → ((key : ℕ) → has after key ≡ serves (with_lease holding kind lease) key at) → n ≡ count + 1
      → IfOk result (λ s. (key : ℕ) → since s key ≡ stamp_after_change (since stamps key) (has before key) (has after key) n)
      → IfOk result (IsRestamped (state_of task count life resumed holding heard stamps) at (with_lease (leases_of (state_of task count life resumed holding heard stamps)) kind lease))
  restamped_is kind lease at n before after (Err e) permits serve state_with_count is = is
  restamped_is kind lease at n before after (Ok new) permits serve state_with_count is = λ key inside.
      is key ∙ restamped_same _ _ _ _ _ _ _ _ (sym (stamp_among_where (since stamps) key inside)) (permits key ∙ permits_kept key at)
      (serve key ∙ ap (λ (held : Holding). serves (with_lease held kind lease) key at) (sym leases_kept)) state_with_count

  -- a lease that renews what is held leaves the stamps
  pub renewed_is : (h : List SliceletCall) (kind : Kind) (lease : Option Lease) (at : ℕ) → StandsAfter h (state_of task count life resumed holding heard stamps) → holding.up ≡ true → holding.last ≤ at
      → Renews holding (with_lease holding kind lease) at
      → IsRestamped (state_of task count life resumed holding heard stamps) at (with_lease (leases_of (state_of task count life resumed holding heard stamps)) kind lease) stamps
  renewed_is h kind lease at k started l renews =
      renewed_stamps h (state_of task count life resumed holding heard stamps) at _ stamps k started l refl
      (subst (λ (held : Holding). Renews held (with_lease held kind lease) at) (sym leases_kept) renews)

  pub greatest_kept : (kind : Kind) → greatest_in (state_of task count life resumed holding heard stamps) kind ≡ number_in (heard_of_kind heard kind)
  greatest_kept Guard = refl
  greatest_kept Bridge = refl

  -- a lease is held of a kind
  pub holds_kept : (kind : Kind) → is_some (lease_of_kind holding kind) ≡ is_some (held_in (state_of task count life resumed holding heard stamps) kind)
  holds_kept Guard = by_held holding.guard
    where
      by_held : (o : Option Lease) → is_some o ≡ is_some (option_map (granted_as task life heard.guard) o)
      by_held None = refl
      by_held (Some lease) = refl
  holds_kept Bridge = by_held holding.bridge
    where
      by_held : (o : Option Lease) → is_some o ≡ is_some (option_map (granted_as task life heard.bridge) o)
      by_held None = refl
      by_held (Some lease) = refl

  -- after a `start`
  pub started_is : (next at : ℕ)
      → state_of task (count + 1) next resumed (record { up = true; last = at; guard = None; bridge = None }) (record { guard = None; bridge = None }) []
      ≡ next_state (state_of task count life resumed holding heard stamps) (Start next at)
  started_is next at =
      ap (λ (all : List (Option ℕ)). let s : SliceletState = record (next_state (state_of task count life resumed holding heard stamps) (Start next at)) { stamps = all } in s) (same_stamps _ _ (λ key k. sym (no_stamp key)))
    where
      no_stamp : (key : ℕ) → stamp_after_change (stamp_in (state_of task count life resumed holding heard stamps) key) (permits (state_of task count life resumed holding heard stamps) key at)
          (permits (read_at at (moved_by (state_of task count life resumed holding heard stamps) (Start next at))) key at) (count + 1) ≡ None
      no_stamp key =
          let on_time : at ≤ at = omega arith in
          let none : permits (read_at at (moved_by (state_of task count life resumed holding heard stamps) (Start next at))) key at ≡ false =
          permits_served (read_at at (moved_by (state_of task count life resumed holding heard stamps) (Start next at))) key at refl on_time in
          restamped_same (stamp_in (state_of task count life resumed holding heard stamps) key) _ (permits (state_of task count life resumed holding heard stamps) key at) _ _ false (count + 1) _ refl refl none refl

  -- after a `hear`
  pub heard_is : (grant : Grant) (at : ℕ) (new : Stamps) → grant.task ≡ task → grant.life ≡ life → holding.up ≡ true
      → IsRestamped (state_of task count life resumed holding heard stamps) at (with_lease (leases_of (state_of task count life resumed holding heard stamps)) grant.lease.kind (Some grant.lease)) new
      → state_of task (count + 1) life resumed (with_lease (record holding { last = at }) grant.lease.kind (Some grant.lease))
      (with_heard heard grant.lease.kind (record { number = grant.number; table_ends = grant.table_ends })) new
      ≡ next_state (state_of task count life resumed holding heard stamps) (Hear grant at)
  heard_is grant at new of_task of_life started r = by_kind grant.lease.kind refl r
    where
      own : granted_as task life (Some (record { number = grant.number; table_ends = grant.table_ends })) grant.lease ≡ grant
      own = rw (sym of_task, sym of_life) refl

      left : Kind → SliceletState
      left kind = read_at at (with_greatest kind grant.number (with_grant kind (Some grant) (state_of task count life resumed holding heard stamps)))

      by_kind : (kind : Kind) → grant.lease.kind ≡ kind
          → IsRestamped (state_of task count life resumed holding heard stamps) at (with_lease (leases_of (state_of task count life resumed holding heard stamps)) kind (Some grant.lease)) new
          → state_of task (count + 1) life resumed (with_lease (record holding { last = at }) kind (Some grant.lease)) (with_heard heard kind (record { number = grant.number; table_ends = grant.table_ends })) new
          ≡ next_state (state_of task count life resumed holding heard stamps) (Hear grant at)
      by_kind Guard k r =
          let on_time : at ≤ at = omega arith in
          ap (λ (g : Grant). let s : SliceletState = record (state_with_count (state_of task count life resumed holding heard stamps) (left Guard) at) { guard = Some g; stamps = stamps_where (since new) } in s) own
          ∙ ap (λ (all : List (Option ℕ)). let s : SliceletState = record (state_with_count (state_of task count life resumed holding heard stamps) (left Guard) at) { stamps = all } in s)
          (stamps_left (state_of task count life resumed holding heard stamps) (left Guard) at (with_lease (leases_of (state_of task count life resumed holding heard stamps)) Guard (Some grant.lease)) new r started on_time (λ key. refl))
          ∙ ap (λ (kind : Kind). state_with_count (state_of task count life resumed holding heard stamps) (left kind) at) (sym k)
      by_kind Bridge k r =
          let on_time : at ≤ at = omega arith in
          ap (λ (g : Grant). let s : SliceletState = record (state_with_count (state_of task count life resumed holding heard stamps) (left Bridge) at) { bridge = Some g; stamps = stamps_where (since new) } in s) own
          ∙ ap (λ (all : List (Option ℕ)). let s : SliceletState = record (state_with_count (state_of task count life resumed holding heard stamps) (left Bridge) at) { stamps = all } in s)
          (stamps_left (state_of task count life resumed holding heard stamps) (left Bridge) at (with_lease (leases_of (state_of task count life resumed holding heard stamps)) Bridge (Some grant.lease)) new r started on_time (λ key. refl))
          ∙ ap (λ (kind : Kind). state_with_count (state_of task count life resumed holding heard stamps) (left kind) at) (sym k)

  -- after a `release`
  pub released_is : (kind : Kind) (at : ℕ) (new : Stamps) → holding.up ≡ true
      → IsRestamped (state_of task count life resumed holding heard stamps) at (with_lease (leases_of (state_of task count life resumed holding heard stamps)) kind None) new
      → state_of task (count + 1) life resumed (with_lease (record holding { last = at }) kind None) heard new
      ≡ next_state (state_of task count life resumed holding heard stamps) (Release kind at)
  released_is Guard at new started r =
      let on_time : at ≤ at = omega arith in
      ap (λ (all : List (Option ℕ)). let s : SliceletState = record (next_state (state_of task count life resumed holding heard stamps) (Release Guard at)) { stamps = all } in s)
      (stamps_left (state_of task count life resumed holding heard stamps) (read_at at (moved_by (state_of task count life resumed holding heard stamps) (Release Guard at))) at (with_lease (leases_of (state_of task count life resumed holding heard stamps)) Guard None) new r started on_time (λ key. refl))
  released_is Bridge at new started r =
      let on_time : at ≤ at = omega arith in
      ap (λ (all : List (Option ℕ)). let s : SliceletState = record (next_state (state_of task count life resumed holding heard stamps) (Release Bridge at)) { stamps = all } in s)
      (stamps_left (state_of task count life resumed holding heard stamps) (read_at at (moved_by (state_of task count life resumed holding heard stamps) (Release Bridge at))) at (with_lease (leases_of (state_of task count life resumed holding heard stamps)) Bridge None) new r started on_time (λ key. refl))

  -- what a `hear` leaves stands after one call more, as its step says
  pub heard_stands : (h : List SliceletCall) (grant : Grant) (at : ℕ) (new : Stamps) → StandsAfter h (state_of task count life resumed holding heard stamps) → first_of (hear_checks (state_of task count life resumed holding heard stamps) grant at) ≡ None
      → IsRestamped (state_of task count life resumed holding heard stamps) at (with_lease (leases_of (state_of task count life resumed holding heard stamps)) grant.lease.kind (Some grant.lease)) new
      → StandsAfter (Hear grant at ∷ h) (state_of task (count + 1) life resumed (with_lease (record holding { last = at }) grant.lease.kind (Some grant.lease))
      (with_heard heard grant.lease.kind (record { number = grant.number; table_ends = grant.table_ends })) new)
      × (hear_step (state_of task count life resumed holding heard stamps) grant at ≡ Ok (
        state_of task (count + 1) life resumed (with_lease (record holding { last = at }) grant.lease.kind (Some grant.lease))
            (with_heard heard grant.lease.kind (record { number = grant.number; table_ends = grant.table_ends })) new,
        tt,
      ))
  heard_stands h grant at new k e r =
      let accepted = hear_accepted (state_of task count life resumed holding heard stamps) grant at e in
      let is = heard_is grant at new accepted.of_task accepted.of_life accepted.started r in
      (subst (λ (s : SliceletState). StandsAfter (Hear grant at ∷ h) s) (sym is) (leads_on h (state_of task count life resumed holding heard stamps) (Hear grant at) k e), rw e (ap (λ (s : SliceletState). let answer : Result (SliceletState × Unit {0}) SliceletError = Ok (s, tt) in answer) (sym is)))

  -- so does what a `release` leaves
  pub released_stands : (h : List SliceletCall) (kind : Kind) (at : ℕ) (new : Stamps) (number : ℕ) → StandsAfter h (state_of task count life resumed holding heard stamps) → first_of (release_checks (state_of task count life resumed holding heard stamps) kind at) ≡ None
      → number ≡ number_of (held_in (state_of task count life resumed holding heard stamps) kind) → IsRestamped (state_of task count life resumed holding heard stamps) at (with_lease (leases_of (state_of task count life resumed holding heard stamps)) kind None) new
      → StandsAfter (Release kind at ∷ h) (state_of task (count + 1) life resumed (with_lease (record holding { last = at }) kind None) heard new)
      × (release_step (state_of task count life resumed holding heard stamps) kind at ≡ Ok (state_of task (count + 1) life resumed (with_lease (record holding { last = at }) kind None) heard new, record { task = task; life = life; kind = kind; number = number }))
  released_stands h kind at new number k e n r =
      let accepted = release_accepted (state_of task count life resumed holding heard stamps) kind at e in
      let is = released_is kind at new accepted.started r in (
        subst (λ (s : SliceletState). StandsAfter (Release kind at ∷ h) s) (sym is) (leads_on h (state_of task count life resumed holding heard stamps) (Release kind at) k e),
        rw (e, n) (ap (λ (s : SliceletState). let answer : Result (SliceletState × ReleaseNote) SliceletError = Ok (s, note_of (state_of task count life resumed holding heard stamps) kind) in answer) (sym is)),
      )
