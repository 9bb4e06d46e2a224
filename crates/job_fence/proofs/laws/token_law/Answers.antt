use Rattle.std.proofs.Common.{◌≡◌, ◌∙◌, Bool, refl, ap}
use Rattle.std.specs.Prelude.{Option, Some, None, option_map}
use Rattle.lease_rule.specs.declared.lease.Kind.{Kind}
use Rattle.lease_rule.specs.declared.lease.Kind.TheVariants.{Guard, Bridge}
use Rattle.lease_rule.specs.Leases.{SeenLease}
use Rattle.lease_rule.specs.Rule.{SeenHolding}
use Rattle.grants.specs.declared.values.Grant.{Grant}
use Rattle.slicelet.specs.Calls.{is_started, last_reading, life_of, held_grant}
use Rattle.slicelet.specs.Rules.{seen_by, covers_key}
use Rattle.cluster.specs.Pasts.{table_calls, task_calls}
use Rattle.cluster.specs.Replies.{covers}
use Rattle.fence.specs.Giving.{token_seen}
use Rattle.job_fence.proofs.laws.token_law.Goals as goal

seen_same : (one other : Grant → Bool) (o : Option Grant) → ((grant : Grant) → o ≡ Some grant → one grant ≡ other grant)
    → option_map (seen_by one) o ≡ option_map (seen_by other) o
seen_same one other None same = refl
seen_same one other (Some grant) same =
    ap (λ (b : Bool). let seen : SeenLease = record { generation = grant.lease.generation; ends = grant.lease.ends; covers = b } in Some seen) (same grant refl)

pub returns : goal.returns
returns c = λ job epoch past task key at within run small.
    let h = task_calls task past in
    let same : (kind : Kind) (grant : Grant) → held_grant kind h ≡ Some grant → covers_key key grant ≡ covers past key grant = λ kind grant held.
    c.covers_law.ensures.sent job.policy (table_calls past) grant key within (c.told_law.ensures.table job past run)
    (c.sent_law.ensures.held job past task kind grant run held) small in
    let guard = seen_same (covers_key key) (covers past key) (held_grant Guard h) (same Guard) in
    let bridge = seen_same (covers_key key) (covers past key) (held_grant Bridge h) (same Bridge) in
    let holding : Option SeenLease → Option SeenLease → SeenHolding = λ g b. record { up = is_started h; last = last_reading h; guard = g; bridge = b } in
    ap (λ (g : Option SeenLease). token_seen job.policy.high epoch (life_of h) (holding g (option_map (seen_by (covers_key key)) (held_grant Bridge h))) at) guard
    ∙ ap (λ (b : Option SeenLease). token_seen job.policy.high epoch (life_of h) (holding (option_map (seen_by (covers past key)) (held_grant Guard h)) b) at) bridge
