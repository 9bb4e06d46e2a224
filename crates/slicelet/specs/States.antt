-- What a slicelet knows: all that its answers rest on.
use Rattle.std.specs.Prelude.{ℕ, Bool, false, List, Option, None, option_map}
use Rattle.lease_rule.specs.declared.lease.Kind.{Kind}
use Rattle.lease_rule.specs.declared.lease.Kind.TheVariants.{Guard, Bridge}
use Rattle.lease_rule.specs.declared.answer.Verdict.{Verdict}
use Rattle.lease_rule.specs.Rule.{SeenHolding, rule, is_allowed, covering_generation, greatest}
use Rattle.grants.specs.declared.values.Grant.{Grant}
use Rattle.grants.specs.declared.slicelet_call.SliceletCall.{SliceletCall}
use Rattle.slicelet.specs.declared.heard.HeldLease.{HeldLease}
use Rattle.slicelet.specs.Calls.{count_of, is_started, life_of, resumed_of, last_reading, held_grant, greatest_heard}
use Rattle.slicelet.specs.Rules.{seen_by, covers_key}
use Rattle.slicelet.specs.Stamping.{stamp_of, stamps_where, stamp_among}

-- a slicelet: its task, how many calls it accepted, its life (0 before the first), the greatest life of earlier processes of its
-- task (0 where there was none), whether it was started, its last reading, the grants of the leases that it holds, the greatest
-- numbers that it heard in this life, and the stamp of each key
pub record SliceletState : Type 0 where
  pub task : ℕ
  pub count : ℕ
  pub life : ℕ
  pub resumed : ℕ
  pub up : Bool
  pub last : ℕ
  pub guard : Option Grant
  pub bridge : Option Grant
  pub guard_number : Option ℕ
  pub bridge_number : Option ℕ
  pub stamps : List (Option ℕ)

-- a slicelet before its first call
abbrev pub opening : ℕ → SliceletState
opening task = record {
  task = task;
  count = 0;
  life = 0;
  resumed = 0;
  up = false;
  last = 0;
  guard = None;
  bridge = None;
  guard_number = None;
  bridge_number = None;
  stamps = stamps_where (λ _. None);
}

-- a slicelet of a new process, before its first call, where no earlier process of its task started a life above this one
abbrev pub resumed : ℕ → ℕ → SliceletState
resumed task life = record (opening task) { life = life; resumed = life }

-- a slicelet after these calls, which are those of all processes of its task
abbrev pub state_after : ℕ → List SliceletCall → SliceletState
state_after task h = record {
  task = task;
  count = count_of h;
  life = life_of h;
  resumed = resumed_of h;
  up = is_started h;
  last = last_reading h;
  guard = held_grant Guard h;
  bridge = held_grant Bridge h;
  guard_number = greatest_heard Guard h;
  bridge_number = greatest_heard Bridge h;
  stamps = stamps_where (λ key. stamp_of (covers_key key) h);
}

-- the grant of the held lease of a kind
abbrev pub held_in : SliceletState → Kind → Option Grant
held_in s Guard = s.guard
held_in s Bridge = s.bridge

-- a held lease, by its grant
abbrev pub held_lease : Grant → HeldLease
held_lease grant = record { number = grant.number; generation = grant.lease.generation; ends = grant.lease.ends }

-- the generation of the lease of a kind that is held and covers a key, live or ended
abbrev pub covering_in : SliceletState → Kind → ℕ → Option ℕ
covering_in s kind key = covering_generation (option_map (seen_by (covers_key key)) (held_in s kind))

-- the greatest generation of the held leases that cover a key, live or ended
abbrev pub newest_covering : SliceletState → ℕ → Option ℕ
newest_covering s key = greatest (covering_in s Guard key) (covering_in s Bridge key)

-- the greatest number heard of a kind
abbrev pub greatest_in : SliceletState → Kind → Option ℕ
greatest_in s Guard = s.guard_number
greatest_in s Bridge = s.bridge_number

-- the stamp of a key
abbrev pub stamp_in : SliceletState → ℕ → Option ℕ
stamp_in s key = stamp_among s.stamps key

-- what a task holds
abbrev pub holding_in : (Grant → Bool) → SliceletState → SeenHolding
holding_in covers s = record {
  up = s.up;
  last = s.last;
  guard = option_map (seen_by covers) s.guard;
  bridge = option_map (seen_by covers) s.bridge;
}

-- the written rule over a state, for what a lease covers
abbrev pub rule_in_state : (Grant → Bool) → SliceletState → ℕ → Verdict
rule_in_state covers s at = rule (holding_in covers s) at

-- a key is permitted at a reading
abbrev pub permits : SliceletState → ℕ → ℕ → Bool
permits s key at = is_allowed (rule_in_state (covers_key key) s at)
