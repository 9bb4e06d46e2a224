-- What holds after every list of accepted calls.
use Rattle.std.proofs.Common.{◌≡◌, ◌∙◌, ℕ, ◌<◌, ◌≤◌, Bool, true, false, List, [], ◌∷◌, ◌++◌, refl, sym, ap, subst, arith}
use Rattle.std.proofs.lemmas.Bool.Decides.{nat_tests}
use Rattle.std.specs.Prelude.{Option, Some, None, is_none, nat_le, max, find, if◌then◌else◌}
use Rattle.std.specs.List.{AllByRecursion}
use Rattle.machines.specs.Refusals.{when, first_of}
use Rattle.machines.proofs.Every.{all_weaker}
use Rattle.lease_rule.specs.declared.lease.Kind.{Kind}
use Rattle.lease_rule.specs.declared.lease.Kind.TheVariants.{Guard, Bridge}
use Rattle.lease_rule.specs.Leases.{same_kind}
use Rattle.lease_rule.specs.Rule.{greatest}
use Rattle.grants.specs.declared.values.Grant.{Grant}
use Rattle.grants.specs.declared.values.ReleaseNote.{ReleaseNote}
use Rattle.grants.specs.declared.slicelet_error.SliceletError.TheVariants.{Old}
use Rattle.grants.specs.declared.slicelet_call.SliceletCall.{SliceletCall}
use Rattle.grants.specs.declared.slicelet_call.SliceletCall.TheVariants.{Start, Hear, Release, Resume}
use Rattle.slicelet.specs.Calls.{this_life, life_of, is_about, heard_by, held_grant, greatest_heard}
use Rattle.slicelet.specs.States.{state_after}
use Rattle.slicelet.specs.Steps.{start_checks, hear_checks, release_checks, resume_checks, old_number, number_of, note_of}
use Rattle.grants.specs.SliceletCalls.{ended_note}
use Rattle.slicelet.specs.Accepted.{AreAccepted, notes_sent}
use Rattle.slicelet.proofs.States.{held_after, greatest_after}
use Rattle.slicelet.proofs.Accepting.{IsHearAccepted, start_accepted, hear_accepted, release_accepted, resume_accepted}
use Rattle.slicelet.specs.Laws.{IsOwn, IsUpTo, IsSpent, HoldsOwnLeases, IsAbove}

-- kinds that are the same are equal
pub equal_kinds : (kind other : Kind) → same_kind kind other ≡ true → kind ≡ other
equal_kinds Guard Guard e = refl
equal_kinds Guard Bridge e = absurd (cc)
equal_kinds Bridge Guard e = absurd (cc)
equal_kinds Bridge Bridge e = refl

-- a number that is not old is above the greatest
pub above_greatest : (number : ℕ) (heard : Option ℕ) → old_number number heard ≡ None → (n : ℕ) → heard ≡ Some n → n < number
above_greatest number None h n e = absurd (cc)
above_greatest number (Some m) h n e = by_test (nat_le number m) refl h
  where
    by_test : (b : Bool) → b ≡ nat_le number m → when b (Old m) ≡ None → n < number
    by_test true t h = absurd (cc)
    by_test false t h = let same : m ≡ n = cc in (let l : m < number = grind (arith, nat_tests) in omega arith)

-- so it is the greatest with it
pub greatest_above : (number : ℕ) (heard : Option ℕ) → old_number number heard ≡ None → greatest (Some number) heard ≡ Some number
greatest_above number None h = refl
greatest_above number (Some n) h = let l = above_greatest number (Some n) h n refl in ap (λ (m : ℕ). Some m) (let w : max number n ≡ number = omega arith in w)

up_to_greater : (number : ℕ) (first second : Option ℕ) → IsUpTo number second → IsUpTo number (greatest first second)
up_to_greater number None second h = h
up_to_greater number (Some m) None h = absurd h
up_to_greater number (Some m) (Some n) h = omega (arith, h)

pub same_itself : (kind : Kind) → same_kind kind kind ≡ true
same_itself Guard = refl
same_itself Bridge = refl

-- the number of a held lease was heard
held_number_heard : (task : ℕ) (h : List SliceletCall) (kind : Kind) (o : Option Grant) → held_grant kind h ≡ o → is_none o ≡ false
    → ((grant : Grant) → o ≡ Some grant → IsOwn task h kind grant) → IsUpTo (number_of o) (greatest_heard kind h)
held_number_heard task h kind None q e own = absurd (cc)
held_number_heard task h kind (Some grant) q e own = rw ((own grant refl).greatest) (omega arith)

-- lives rise
pub life_rises : (task life at : ℕ) (h : List SliceletCall) → first_of (start_checks (state_after task h) life at) ≡ None → life_of h < life
life_rises task life at h e = (start_accepted (state_after task h) life at e).newer

module _ (task : ℕ) (h : List SliceletCall) (s : HoldsOwnLeases task h) where
  own_after_start : (life at : ℕ) → first_of (start_checks (state_after task h) life at) ≡ None → HoldsOwnLeases task (Start life at ∷ h)
  own_after_start life at e =
      let newer : life_of h < life = life_rises task life at h e in
      record {
        own = λ kind grant q. absurd (cc);
        spent = all_weaker (IsSpent h) (IsSpent (Start life at ∷ h)) (notes_sent task h)
            (λ note n. let l : note.life ≤ life_of h = n.of_life in record { of_life = omega arith; heard = λ q. absurd (omega (arith, q)); newer = λ q. absurd (omega (arith, q)) }) s.spent;
      }

  own_after_resume : (life : ℕ) → first_of (resume_checks (state_after task h) life) ≡ None → HoldsOwnLeases task (Resume life ∷ h)
  own_after_resume life e = record { own = λ kind grant q. absurd (cc); spent = (ended Bridge, (ended Guard, all_weaker (IsSpent h) (IsSpent (Resume life ∷ h)) (notes_sent task h) spent s.spent)) }
    where
      ended : (kind : Kind) → IsSpent (Resume life ∷ h) (ended_note task life kind)
      ended kind = record { of_life = omega arith; heard = λ q started. absurd (cc); newer = λ q grant p. absurd (cc) }

      spent : (note : ReleaseNote) → IsSpent h note → IsSpent (Resume life ∷ h) note
      spent note n =
          let l : note.life ≤ life_of h = n.of_life in
          let up : life_of h ≤ life = resume_accepted (state_after task h) life e in
          record { of_life = omega (arith, l, up); heard = λ q started. absurd (cc); newer = λ q grant p. absurd (cc) }

  own_after_hear : (grant : Grant) (at : ℕ) → first_of (hear_checks (state_after task h) grant at) ≡ None → HoldsOwnLeases task (Hear grant at ∷ h)
  own_after_hear grant at e = record { own = λ kind other. own kind other (same_kind grant.lease.kind kind) refl; spent = all_weaker (IsSpent h) (IsSpent (Hear grant at ∷ h)) (notes_sent task h) spent s.spent }
    where
      accepted : IsHearAccepted (state_after task h) grant at
      accepted = hear_accepted (state_after task h) grant at e

      newer : old_number grant.number (greatest_heard grant.lease.kind h) ≡ None
      newer = rw (greatest_after task h grant.lease.kind) at accepted.newer

      its_own : IsOwn task (Hear grant at ∷ h) grant.lease.kind grant
      its_own = record {
        of_task = accepted.of_task;
        of_life = accepted.of_life;
        of_kind = refl;
        greatest = rw (same_itself grant.lease.kind) (greatest_above grant.number (greatest_heard grant.lease.kind h) newer);
      }

      own : (kind : Kind) (other : Grant) (b : Bool) → b ≡ same_kind grant.lease.kind kind
          → heard_by (if b then Some (Hear grant at) else find (is_about kind) (this_life h)) ≡ Some other → IsOwn task (Hear grant at ∷ h) kind other
      own kind other true t q =
          let same : grant ≡ other = cc in
          subst (λ g. IsOwn task (Hear grant at ∷ h) kind g) same (subst (λ k. IsOwn task (Hear grant at ∷ h) k grant) (equal_kinds grant.lease.kind kind (sym t)) its_own)
      own kind other false t q =
          let o = s.own kind other q in
          record { of_task = o.of_task; of_life = o.of_life; of_kind = o.of_kind; greatest = rw (sym t) o.greatest }

      spent : (note : ReleaseNote) → IsSpent h note → IsSpent (Hear grant at ∷ h) note
      spent note n = record {
        of_life = n.of_life;
        heard = λ q started. up_to_greater note.number (if same_kind grant.lease.kind note.kind then Some grant.number else None) (greatest_heard note.kind h) (n.heard q started);
        newer = λ q other. by_test (same_kind grant.lease.kind note.kind) refl q other;
      }
        where
          by_test : (b : Bool) → b ≡ same_kind grant.lease.kind note.kind → note.life ≡ life_of h → (other : Grant)
              → heard_by (if b then Some (Hear grant at) else find (is_about note.kind) (this_life h)) ≡ Some other → note.number < other.number
          by_test true t q other p =
              let same : grant ≡ other = cc in
              let kinds : grant.lease.kind ≡ note.kind = equal_kinds grant.lease.kind note.kind (sym t) in
              subst (λ (g : Grant). note.number < g.number) same (below (greatest_heard note.kind h) refl (n.heard q accepted.started) (rw (sym kinds) newer))
            where
              below : (o : Option ℕ) → greatest_heard note.kind h ≡ o → IsUpTo note.number o → old_number grant.number (greatest_heard note.kind h) ≡ None → note.number < grant.number
              below None r u w = absurd u
              below (Some m) r u w = let l : m < grant.number = above_greatest grant.number (Some m) (rw r at w) m refl in omega (arith, u)
          by_test false t q other p = n.newer q other p

  own_after_release : (kind : Kind) (at : ℕ) → first_of (release_checks (state_after task h) kind at) ≡ None → HoldsOwnLeases task (Release kind at ∷ h)
  own_after_release kind at e = record {
    own = λ other grant. own other grant (same_kind kind other) refl;
    spent = (its_note, all_weaker (IsSpent h) (IsSpent (Release kind at ∷ h)) (notes_sent task h) spent s.spent);
  }
    where
      not_held : (other : Kind) (grant : Grant) (b : Bool) → heard_by (if b then Some (Release kind at) else find (is_about other) (this_life h)) ≡ Some grant → (b ≡ false) × (held_grant other h ≡ Some grant)
      not_held other grant true q = absurd (cc)
      not_held other grant false q = (refl, q)

      own : (other : Kind) (grant : Grant) (b : Bool) → b ≡ same_kind kind other
          → heard_by (if b then Some (Release kind at) else find (is_about other) (this_life h)) ≡ Some grant → IsOwn task (Release kind at ∷ h) other grant
      own other grant b t q =
          let o = s.own other grant (not_held other grant b q).1 in
          record { of_task = o.of_task; of_life = o.of_life; of_kind = o.of_kind; greatest = o.greatest }

      its_note : IsSpent (Release kind at ∷ h) (note_of (state_after task h) kind)
      its_note = record {
        of_life = omega arith;
        heard = λ q started. rw (held_after task h kind) (held_number_heard task h kind (held_grant kind h) refl (rw (held_after task h kind) at (release_accepted (state_after task h) kind at e).is_held) (s.own kind));
        newer = λ q grant p. absurd (let f : same_kind kind kind ≡ false = (not_held kind grant (same_kind kind kind) p).0 in let t = same_itself kind in cc);
      }

      spent : (note : ReleaseNote) → IsSpent h note → IsSpent (Release kind at ∷ h) note
      spent note n = record { of_life = n.of_life; heard = n.heard; newer = λ q grant p. n.newer q grant (not_held note.kind grant (same_kind kind note.kind) p).1 }

pub own_leases : (task : ℕ) (h : List SliceletCall) → AreAccepted task h → HoldsOwnLeases task h
own_leases task [] a = record { own = λ kind grant q. absurd (cc); spent = tt }
own_leases task (Start life at ∷ h) a = own_after_start task h (own_leases task h a.1) life at a.0
own_leases task (Hear grant at ∷ h) a = own_after_hear task h (own_leases task h a.1) grant at a.0
own_leases task (Release kind at ∷ h) a = own_after_release task h (own_leases task h a.1) kind at a.0
own_leases task (Resume life ∷ h) a = own_after_resume task h (own_leases task h a.1) life a.0

pub lives_rise : (task : ℕ) (later h : List SliceletCall) → AreAccepted task (later ++ h) → life_of h ≤ life_of (later ++ h)
lives_rise task [] h a = omega arith
lives_rise task (Start life at ∷ later) h a =
    let before = lives_rise task later h a.1 in
    let rise = life_rises task life at (later ++ h) a.0 in
    omega arith
lives_rise task (Hear grant at ∷ later) h a = lives_rise task later h a.1
lives_rise task (Release kind at ∷ later) h a = lives_rise task later h a.1
lives_rise task (Resume life ∷ later) h a =
    let before = lives_rise task later h a.1 in
    let rise : life_of (later ++ h) ≤ life = resume_accepted (state_after task (later ++ h)) life a.0 in
    omega (arith, before, rise)

-- a released number is not heard again
pub above_released : (task : ℕ) (grant : Grant) (at : ℕ) (h : List SliceletCall) → AreAccepted task (Hear grant at ∷ h) → AllByRecursion (IsAbove grant) (notes_sent task h)
above_released task grant at h a = all_weaker (IsSpent h) (IsAbove grant) (notes_sent task h) over (own_leases task h a.1).spent
  where
    accepted : IsHearAccepted (state_after task h) grant at
    accepted = hear_accepted (state_after task h) grant at a.0

    newer : old_number grant.number (greatest_heard grant.lease.kind h) ≡ None
    newer = rw (greatest_after task h grant.lease.kind) at accepted.newer

    over : (note : ReleaseNote) → IsSpent h note → IsAbove grant note
    over note n kinds lives =
        below (greatest_heard grant.lease.kind h) refl (rw kinds at (n.heard (lives ∙ accepted.of_life) accepted.started))
      where
        below : (o : Option ℕ) → greatest_heard grant.lease.kind h ≡ o → IsUpTo note.number o → note.number < grant.number
        below None r u = absurd u
        below (Some m) r u =
            let l : m < grant.number = above_greatest grant.number (Some m) (rw r at newer) m refl in
            omega (arith, u)
