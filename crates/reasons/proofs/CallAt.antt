-- Where a task accepted a call.
use Rattle.std.proofs.Common.{◌≡◌, ◌∙◌, ℕ, ◌+◌, ◌-◌, ◌<◌, ◌≤◌, Bool, true, false, List, [], ◌∷◌, ◌++◌, length, refl, sym, ap, subst, arith, length-append}
use Rattle.std.specs.Prelude.{◌==◌, ◌&&◌, nat_le, Option, Some, None, map, slice_get, if◌then◌else◌}
use Rattle.std.proofs.lemmas.Bool.Decides.{nat_tests}
use Rattle.std.proofs.lemmas.Option.{slice_get_within}
use Rattle.machines.specs.Numbers.{is_within}
use Rattle.grants.specs.declared.slicelet_call.SliceletCall.{SliceletCall}
use Rattle.slicelet.specs.Calls.{count_of, is_resume, this_process}
use Rattle.job_calls.specs.declared.call.ClusterCall.{ClusterCall}
use Rattle.job_calls.specs.declared.call.ClusterCall.TheVariants as call
use Rattle.cluster.specs.Numbers.{with_number}
use Rattle.cluster.specs.Pasts.{event, Past, is_accepted, with_task_call, task_calls, history}
use Rattle.cluster.proofs.ActorLists.{get_left, get_last}
use Rattle.reasons.specs.Placed.{Placed, ArePlaced, with_accepted, accepted_in, place_of_call, IsCallAt}

module _ (task : ℕ) (earlier : Past) where
  abbrev calls : List Placed → List SliceletCall
  calls placed = task_calls task (map (λ p. p.event) placed ++ earlier)

  abbrev At : List Placed → ℕ → ℕ → Type 0
  At placed number place = IsCallAt placed earlier task number place

  -- the place with this index, where so many calls of the process were made before those that have places
  abbrev Is : List Placed → Type 0
  Is placed = (i place k : ℕ) → length (this_process (calls placed)) ≡ k + length (accepted_in task placed) → slice_get (accepted_in task placed) i ≡ Some place
      → At placed (k + i + 1) place

  module _ (p : Placed) (placed : List Placed) (rest : Is placed) where
    abbrev after : ClusterCall → List SliceletCall
    after c = with_task_call task c p.event.reply (calls placed)

    abbrev places_after : ClusterCall → Bool → List ℕ
    places_after c accepted = with_accepted task c accepted p.place (accepted_in task placed)

    -- a call earlier, of the same process
    same : (number place : ℕ) → after p.event.call ≡ calls placed → At placed number place → At (p ∷ placed) number place
    same number place e h = record {
      later = p ∷ h.later;
      before = h.before;
      made = h.made;
      told = h.told;
      parts = ap (λ (ps : List Placed). p ∷ ps) h.parts;
      accepted = h.accepted;
      since = h.since;
      process = ap this_process e ∙ h.process;
      numbered = h.numbered;
    }

    longer : (c : SliceletCall) → is_resume c ≡ false → this_process (c ∷ calls placed) ≡ c ∷ this_process (calls placed)
    longer c e = rw e refl

    one_earlier : (c : SliceletCall) (number place : ℕ) → is_resume c ≡ false → after p.event.call ≡ c ∷ calls placed → At placed number place → At (p ∷ placed) number place
    one_earlier c number place goes_on e h = record {
      later = p ∷ h.later;
      before = h.before;
      made = h.made;
      told = h.told;
      parts = ap (λ (ps : List Placed). p ∷ ps) h.parts;
      accepted = h.accepted;
      since = c ∷ h.since;
      process = ap this_process e ∙ (longer c goes_on ∙ ap (λ (cs : List SliceletCall). c ∷ cs) h.process);
      numbered = h.numbered;
    }

    -- the call itself
    now : (c : SliceletCall) (number : ℕ) → p.event.call ≡ call.Task task c → is_accepted p.event.reply ≡ true → after p.event.call ≡ c ∷ calls placed
        → count_of (c ∷ calls placed) ≡ number → At (p ∷ placed) number p.place
    now c number is accepted e many = record {
      later = [];
      before = placed;
      made = c;
      told = p.event.reply;
      parts = ap (λ (x : ClusterCall). let q : Placed = record { place = p.place; event = event x p.event.reply } in q ∷ placed) is;
      accepted = accepted;
      since = [];
      process = ap this_process e;
      numbered = many;
    }

    by_index : (c : SliceletCall) → p.event.call ≡ call.Task task c → is_accepted p.event.reply ≡ true → is_resume c ≡ false → after p.event.call ≡ c ∷ calls placed
        → (i place k : ℕ) → length (c ∷ this_process (calls placed)) ≡ k + length (accepted_in task placed ++ p.place ∷ [])
        → slice_get (accepted_in task placed ++ p.place ∷ []) i ≡ Some place → At (p ∷ placed) (k + i + 1) place
    by_index c is accepted goes_on e i place k many got = by_test (nat_le (length places) i) refl
      where
        places : List ℕ
        places = accepted_in task placed

        more : length (places ++ p.place ∷ []) ≡ length places + 1
        more = length-append places (p.place ∷ [])

        before : length (this_process (calls placed)) ≡ k + length places
        before = let m = more in omega (arith, many, m)

        by_test : (b : Bool) → nat_le (length places) i ≡ b → At (p ∷ placed) (k + i + 1) place
        by_test false t =
            let inside : i < length places = grind (arith, nat_tests) in
            one_earlier c (k + i + 1) place goes_on e (rest i place k before (sym (get_left places (p.place ∷ []) i inside) ∙ got))
        by_test true t =
            let within = slice_get_within (places ++ p.place ∷ []) i place got in
            let m = more in
            let at_end : i ≡ length places = (let high : length places ≤ i = grind (arith, nat_tests) in omega (arith, within, m, high)) in
            let last : slice_get (places ++ p.place ∷ []) (length places) ≡ Some p.place = get_last places p.place in
            let both : Some place ≡ Some p.place = sym got ∙ (ap (slice_get (places ++ p.place ∷ [])) at_end ∙ last) in
            let here : place ≡ p.place = cc in
            let b = before in
            let number : count_of (c ∷ calls placed) ≡ k + i + 1 = ap (λ (cs : List SliceletCall). length cs) (longer c goes_on) ∙ omega (arith, b, at_end) in
            subst (λ (n : ℕ). At (p ∷ placed) (k + i + 1) n) (sym here) (now c (k + i + 1) is accepted e number)

    by_resume : (c : SliceletCall) (resumes : Bool) → is_resume c ≡ resumes → p.event.call ≡ call.Task task c → is_accepted p.event.reply ≡ true
        → after p.event.call ≡ c ∷ calls placed → (i place k : ℕ)
        → length (if resumes then [] else c ∷ this_process (calls placed)) ≡ k + length (if resumes then [] else accepted_in task placed ++ p.place ∷ [])
        → slice_get (if resumes then [] else accepted_in task placed ++ p.place ∷ []) i ≡ Some place → At (p ∷ placed) (k + i + 1) place
    by_resume c true r is a e i place k many got = absurd (let none : Option ℕ = None in let f : none ≡ Some place = got in cc)
    by_resume c false r is a e i place k many got = by_index c is a r e i place k many got

    by_tests : (by : ℕ) (c : SliceletCall) (own accepted : Bool) → (by == task) ≡ own → is_accepted p.event.reply ≡ accepted → p.event.call ≡ call.Task by c
        → after p.event.call ≡ (if own then (if accepted then c ∷ calls placed else calls placed) else calls placed) → (i place k : ℕ)
        → length (this_process (if own then (if accepted then c ∷ calls placed else calls placed) else calls placed))
        ≡ k + length (if own && accepted then (if is_resume c then [] else accepted_in task placed ++ p.place ∷ []) else accepted_in task placed)
        → slice_get (if own && accepted then (if is_resume c then [] else accepted_in task placed ++ p.place ∷ []) else accepted_in task placed) i ≡ Some place
        → At (p ∷ placed) (k + i + 1) place
    by_tests by c false accepted o a is e i place k many got = same (k + i + 1) place e (rest i place k many got)
    by_tests by c true false o a is e i place k many got = same (k + i + 1) place e (rest i place k many got)
    by_tests by c true true o a is e i place k many got =
        by_resume c (is_resume c) refl (is ∙ ap (λ (n : ℕ). call.Task n c) (let g : by ≡ task = grind (arith, nat_tests) in g)) a e i place k many got

    one_more : (c : ClusterCall) → p.event.call ≡ c → (i place k : ℕ) → length (this_process (after c)) ≡ k + length (places_after c (is_accepted p.event.reply))
        → slice_get (places_after c (is_accepted p.event.reply)) i ≡ Some place → At (p ∷ placed) (k + i + 1) place
    one_more (call.Task by c) is i place k many got =
        by_tests by c (by == task) (is_accepted p.event.reply) refl refl is (ap (λ (x : ClusterCall). after x) is) i place k many got
    one_more _ is i place k many got = same (k + i + 1) place (ap (λ (x : ClusterCall). after x) is) (rest i place k many got)

  call_at : (placed : List Placed) → Is placed
  call_at [] i place k many got = absurd (let none : Option ℕ = None in let f : none ≡ Some place = got in cc)
  call_at (p ∷ placed) i place k many got = one_more p placed (call_at placed) p.event.call refl i place k many got

  -- no more calls have places than the process accepted
  few_if : (own accepted resumes : Bool) (c : SliceletCall) (process : List SliceletCall) (place : ℕ) (places : List ℕ) → length places ≤ length process
      → length (if own && accepted then (if resumes then [] else places ++ place ∷ []) else places)
      ≤ length (if own then (if accepted then (if resumes then [] else c ∷ process) else process) else process)
  few_if false accepted resumes c process place places l = l
  few_if true false resumes c process place places l = l
  few_if true true true c process place places l = omega arith
  few_if true true false c process place places l = (let m = length-append places (place ∷ []) in omega (arith, m, l))

  process_if : (own accepted : Bool) (c : SliceletCall) (h : List SliceletCall)
      → this_process (if own then (if accepted then c ∷ h else h) else h) ≡ (if own then (if accepted then (if is_resume c then [] else c ∷ this_process h) else this_process h) else this_process h)
  process_if false accepted c h = refl
  process_if true false c h = refl
  process_if true true c h = refl

  few_more : (p : Placed) (placed : List Placed) (c : ClusterCall) → length (accepted_in task placed) ≤ length (this_process (calls placed))
      → length (with_accepted task c (is_accepted p.event.reply) p.place (accepted_in task placed)) ≤ length (this_process (with_task_call task c p.event.reply (calls placed)))
  few_more p placed (call.Task by c) l =
      let f = few_if (by == task) (is_accepted p.event.reply) (is_resume c) c (this_process (calls placed)) p.place (accepted_in task placed) l in
      subst (λ (cs : List SliceletCall). length (with_accepted task (call.Task by c) (is_accepted p.event.reply) p.place (accepted_in task placed)) ≤ length cs)
      (sym (process_if (by == task) (is_accepted p.event.reply) c (calls placed))) f
  few_more p placed _ l = l

  few_places : (placed : List Placed) → length (accepted_in task placed) ≤ length (this_process (calls placed))
  few_places [] = omega arith
  few_places (p ∷ placed) = few_more p placed p.event.call (few_places placed)

  by_number : (placed : List Placed) (number count place : ℕ) → count ≡ length (this_process (calls placed))
      → place_of_call number count (accepted_in task placed) ≡ Some place → At placed number place
  by_number placed number count place counts got = by_within (is_within number k) refl got
    where
      k : ℕ
      k = count - length (accepted_in task placed)

      many : length (this_process (calls placed)) ≡ k + length (accepted_in task placed)
      many = let l = few_places placed in omega (arith, l, counts)

      by_zero : (b : Bool) → (number - k == 0) ≡ b → (if b then None else slice_get (accepted_in task placed) (number - k - 1)) ≡ Some place → At placed number place
      by_zero true t e = absurd (cc)
      by_zero false t e =
          let above : k + (number - k - 1) + 1 ≡ number = grind (arith, nat_tests) in
          subst (λ (n : ℕ). At placed n place) above (call_at placed (number - k - 1) place k many e)

      by_within : (b : Bool) → is_within number k ≡ b → (if b then None else with_number (number - k) (accepted_in task placed)) ≡ Some place → At placed number place
      by_within true t e = absurd (cc)
      by_within false t e = by_zero (number - k == 0) refl e

pub call_place : (placed : List Placed) (past : Past) (task number place : ℕ) → (are : ArePlaced placed past)
    → place_of_call number (history task past).count (accepted_in task placed) ≡ Some place → IsCallAt placed are.0 task number place
call_place placed past task number place are got =
    by_number task are.0 placed number (history task past).count place (ap (λ (x : Past). count_of (task_calls task x)) are.1) got
