-- A slicelet that started a life and heard one grant permits the keys of its lease while the lease is live.
use Rattle.std.proofs.Common.{◌≡◌, ◌∙◌, ℕ, ◌≤◌, Bool, true, false, refl, sym, ap}
use Rattle.std.specs.Prelude.{Some, Ok, ◌&&◌, ◌||◌}
use Rattle.machines.specs.Refusals.{first_of}
use Rattle.slice_ranges.specs.Sets.{has}
use Rattle.lease_rule.specs.declared.lease.Kind.{Kind}
use Rattle.lease_rule.specs.declared.lease.Kind.TheVariants.{Guard, Bridge}
use Rattle.lease_rule.specs.Leases.{is_live}
use Rattle.lease_rule.proofs.Permitting.{permitted_live}
use Rattle.grants.specs.declared.values.Grant.{Grant}
use Rattle.grants.specs.declared.slicelet_call.SliceletCall.TheVariants.{Start, Hear}
use Rattle.slicelet.specs.Rules.{covers_key}
use Rattle.slicelet.specs.States.{SliceletState, opening, holding_in, permits}
use Rattle.slicelet.specs.Steps.{start_checks, hear_checks, start_step, hear_step, next_state, with_grant, with_greatest, read_at, state_with_count}
use Rattle.library_example.proofs.Accepting.{answer_is}

or_nothing : (b : Bool) → (b || false) ≡ b
or_nothing true = refl
or_nothing false = refl

-- the state after a life's start, and after a grant is heard as one of a kind
started : ℕ → ℕ → ℕ → SliceletState
started task life at = next_state (opening task) (Start life at)

heard_as : Kind → SliceletState → Grant → ℕ → SliceletState
heard_as kind s grant at = state_with_count s (read_at at (with_greatest kind grant.number (with_grant kind (Some grant) s))) at

permits_as : (task life at : ℕ) (grant : Grant) (key later : ℕ) → at ≤ later → (kind : Kind)
    → permits (heard_as kind (started task life at) grant at) key later ≡ (is_live grant.lease later && has grant.lease.ranges key)
unfolding started heard_as
permits_as task life at grant key later l Guard =
    permitted_live (holding_in (covers_key key) (heard_as Guard (started task life at) grant at)) later refl l
    ∙ or_nothing (is_live grant.lease later && has grant.lease.ranges key)
permits_as task life at grant key later l Bridge =
    permitted_live (holding_in (covers_key key) (heard_as Bridge (started task life at) grant at)) later refl l

pub first_permits : (task life at : ℕ) (new before after : SliceletState) (grant : Grant) (done heard : Unit {0})
    → new ≡ opening task → start_step new life at ≡ Ok (before, done) → hear_step before grant at ≡ Ok (after, heard)
    → (key later : ℕ) → at ≤ later → permits after key later ≡ (is_live grant.lease later && has grant.lease.ranges key)
unfolding started heard_as
first_permits task life at new before after grant done heard is_new start hear key later l =
    let is_started : (next_state new (Start life at), tt) ≡ (before, done) = answer_is (first_of (start_checks new life at)) _ _ start in
    let is_heard : (next_state before (Hear grant at), tt) ≡ (after, heard) = answer_is (first_of (hear_checks before grant at)) _ _ hear in
    ap (λ (p : SliceletState × Unit {0}). permits p.0 key later) (sym is_heard)
    ∙ (ap (λ (p : SliceletState × Unit {0}). permits (next_state p.0 (Hear grant at)) key later) (sym is_started)
    ∙ (ap (λ (s : SliceletState). permits (next_state (next_state s (Start life at)) (Hear grant at)) key later) is_new
    ∙ permits_as task life at grant key later l grant.lease.kind))
