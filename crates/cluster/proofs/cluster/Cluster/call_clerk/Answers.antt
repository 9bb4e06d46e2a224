use Rattle.std.proofs.Common.{◌≡◌, ◌<◌, List, length, refl, sym, subst}
use Rattle.std.specs.Prelude.{Option, false}
use Rattle.machines.specs.Numbers.{is_within}
use Rattle.assignment.specs.Slices.{Slicing}
use Rattle.cluster.proofs.ClerkTurns.{clerk_turn, inside_job}
use Rattle.cluster.proofs.Stopping.{clerk_of_none, clerk_stopped}
use Rattle.cluster.proofs.cluster.Cluster.call_clerk.Goals as goal

pub returns-in_default : goal.returns-in_default
returns-in_default c = λ job past k.
    clerk_of_none job past c.args.self.now k c.args.clerk c.args.call.now (subst (λ (xs : List (Option Slicing)). is_within c.args.clerk (length xs) ≡ false) c.as_slice.ensures.value c.in_default.ensures)

pub returns-in-Some-clerk_refusal : goal.returns-in-Some-clerk_refusal
returns-in-Some-clerk_refusal c = λ job past k.
    let inside = subst (λ (xs : List (Option Slicing)). c.in-Some.place < length xs) c.as_slice.ensures.value c.in-Some.ensures.1 in
    clerk_stopped job past c.args.self.now k c.args.clerk c.args.call.now c.in-Some-clerk_refusal.why (inside_job job past c.args.clerk c.in-Some.place c.args.self.now k c.in-Some.ensures.0 inside)
    (c.in-Some-clerk_refusal.ensures job past k)

pub returns : goal.returns
returns c = λ job past k.
    let inside = subst (λ (xs : List (Option Slicing)). c.in-Some.place < length xs) c.as_slice.ensures.value c.in-Some.ensures.1 in
    clerk_turn job past c.args.clerk c.in-Some.place c.args.call.now c.args.self.now _ c.in-Some.ensures.0 (sym (c.in_default-clerk_refusal.ensures job past k)) k c.index_mut.result.now c.call.new.self
    c.index_mut.ensures.value inside c.call.result c.call.ensures.step c.call.ensures.memory refl (record { job = refl; earlier = refl; table = refl; tasks = refl; grants = refl; notes = refl; handles = refl; known_notes = λ key. refl; known_handles = λ key. refl; proposals = refl }) _ c.told_by_clerk.ensures
