use Rattle.std.proofs.Common.{◌≡◌, ◌+◌, ◌∷◌, drop, take, sym, ap, ◌∙◌, subst, arith, Bor, List, ℕ}
use Rattle.std.proofs.lemmas.List.{drop_more}
use Rattle.std.specs.Prelude.{option_map}
use Rattle.json.specs.Value.{value_view, members_view}
use Rattle.program_io.specs.Repeated.{names_of, repeated_in_members}
use Rattle.program_io.proofs.NameSets.{HasNames, among_before, goes_on, names_in, one_name_more, one_place_more, repeats, repeats_inside, was_new, was_there}
use Rattle.program_io.proofs.repeated.+repeated.Goals as goal

pub in_members-returns-then-not-branch : goal.in_members-returns-then-not-branch
in_members-returns-then-not-branch t c =
    let l = c.loop-member in
    let xs = c.deref-member-items.result.now in
    let x = c.member-item.result in
    let here : drop l.member-index xs ≡ x ∷ drop (l.member-index + 1) xs = drop_more xs l.member-index x (omega arith) ∙ ap (λ y. y ∷ drop (l.member-index + 1) xs) (sym c.member-item.is) in
    let names = names_of (members_view xs) in
    let i = l.member-index in
    let twice = was_there _ _ c.in_ok-insert.ensures.added c.if-not-branch.true in
    let turn = repeats names i x.0.now (value_view x.1) (members_view (drop (i + 1) xs)) (among_before xs i x.0.now ∙ sym (l.invariant.has x.0) ∙ twice) in
    let whole = ap (λ ys. repeated_in_members names i (members_view ys)) here ∙ turn in
    rw (← c.deref-member-items.ensures.value) (sym whole ∙ l.invariant.left)

pub in_members-returns-in-Some : goal.in_members-returns-in-Some
in_members-returns-in-Some t c =
    let l = c.loop-member in
    let xs = c.deref-member-items.result.now in
    let x = c.member-item.result in
    let here : drop l.member-index xs ≡ x ∷ drop (l.member-index + 1) xs = drop_more xs l.member-index x (omega arith) ∙ ap (λ y. y ∷ drop (l.member-index + 1) xs) (sym c.member-item.is) in
    let names = names_of (members_view xs) in
    let i = l.member-index in
    let once = was_new _ _ c.in_ok-insert.ensures.added c.if-not-branch.false in
    let turn = repeats_inside names i x.0.now (value_view x.1) (members_view (drop (i + 1) xs)) (among_before xs i x.0.now ∙ sym (l.invariant.has x.0) ∙ once) c.in-Some.name.now (sym (ap (option_map (λ (s : Bor (List ℕ)). s.now)) c.in-Some.is) ∙ c.in_ok-name.ensures) in
    let whole = ap (λ ys. repeated_in_members names i (members_view ys)) here ∙ turn in
    rw (← c.deref-member-items.ensures.value) (sym whole ∙ l.invariant.left)

pub in_members-loop-member-preserved : goal.in_members-loop-member-preserved
in_members-loop-member-preserved t c =
    let l = c.loop-member in
    let xs = c.deref-member-items.result.now in
    let x = c.member-item.result in
    let here : drop l.member-index xs ≡ x ∷ drop (l.member-index + 1) xs = drop_more xs l.member-index x (omega arith) ∙ ap (λ y. y ∷ drop (l.member-index + 1) xs) (sym c.member-item.is) in
    let names = names_of (members_view xs) in
    let i = l.member-index in
    let once = was_new _ _ c.in_ok-insert.ensures.added c.if-not-branch.false in
    let turn = goes_on names i x.0.now (value_view x.1) (members_view (drop (i + 1) xs)) (among_before xs i x.0.now ∙ sym (l.invariant.has x.0) ∙ once) (sym (ap (option_map (λ (s : Bor (List ℕ)). s.now)) c.in_default.is) ∙ c.in_ok-name.ensures) in
    let whole = ap (λ ys. repeated_in_members names i (members_view ys)) here ∙ turn in
    record {
      has = subst (HasNames c.insert.new.self) (sym (one_place_more xs i x (omega arith) c.member-item.is))
          (one_name_more l.before c.insert.new.self x.0 (names_in (take i xs)) c.in_ok-insert.ensures.updates l.invariant.has);
      left = sym whole ∙ l.invariant.left;
    }
