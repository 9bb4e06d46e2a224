-- States after calls.
use Rattle.std.proofs.Common.{◌≡◌, ◌∙◌, ℕ, zero, suc, ◌+◌, ◌<◌, ◌≤◌, List, ◌∷◌, refl, ap, arith}
use Rattle.std.specs.Prelude.{Option, None, slice_index_or}
use Rattle.slice_ranges.specs.declared.key.TheConstants.{KEYS}
use Rattle.lease_rule.specs.declared.lease.Kind.{Kind}
use Rattle.lease_rule.specs.declared.lease.Kind.TheVariants.{Guard, Bridge}
use Rattle.grants.specs.declared.slicelet_call.SliceletCall.{SliceletCall}
use Rattle.slicelet.specs.Calls.{held_grant, greatest_heard}
use Rattle.slicelet.specs.Stamping.{stamps_from, stamps_where, stamp_among}
use Rattle.slicelet.specs.States.{state_after, held_in, greatest_in}

-- stamps that are the same at each key are the same
same_from : (stamp other : ℕ → Option ℕ) (n low : ℕ) → ((key : ℕ) → low ≤ key → key < low + n → stamp key ≡ other key) → stamps_from stamp low n ≡ stamps_from other low n
unfolding stamps_from
same_from stamp other zero low same = refl
same_from stamp other (suc n) low same =
    ap (λ (o : Option ℕ). o ∷ stamps_from stamp (low + 1) n) (same low (omega arith) (omega arith))
    ∙ ap (λ (stamps : List (Option ℕ)). other low ∷ stamps) (same_from stamp other n (low + 1) (λ key above below. same key (omega arith) (omega arith)))

pub same_stamps : (stamp other : ℕ → Option ℕ) → ((key : ℕ) → key < KEYS → stamp key ≡ other key) → stamps_where stamp ≡ stamps_where other
same_stamps stamp other same = same_from stamp other KEYS 0 (λ key above below. same key (omega arith))

among_from : (stamp : ℕ → Option ℕ) (n low place : ℕ) → place < n → slice_index_or (stamps_from stamp low n) place None ≡ stamp (low + place)
unfolding stamps_from
among_from stamp zero low place l = absurd (omega arith)
among_from stamp (suc n) low zero l = ap stamp (let e : low ≡ low + 0 = omega arith in e)
among_from stamp (suc n) low (suc place) l =
    among_from stamp n (low + 1) place (omega arith) ∙ ap stamp (let e : low + 1 + place ≡ low + suc place = omega arith in e)

-- the stamp of a key
pub stamp_among_where : (stamp : ℕ → Option ℕ) (key : ℕ) → key < KEYS → stamp_among (stamps_where stamp) key ≡ stamp key
stamp_among_where stamp key l = among_from stamp KEYS 0 key l ∙ ap stamp (let e : 0 + key ≡ key = omega arith in e)

pub held_after : (task : ℕ) (h : List SliceletCall) (kind : Kind) → held_in (state_after task h) kind ≡ held_grant kind h
held_after task h Guard = refl
held_after task h Bridge = refl

pub greatest_after : (task : ℕ) (h : List SliceletCall) (kind : Kind) → greatest_in (state_after task h) kind ≡ greatest_heard kind h
greatest_after task h Guard = refl
greatest_after task h Bridge = refl
