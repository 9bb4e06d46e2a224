-- `lend` lends the value in the block, and the place follows it. The steps are those of a box's `as_mut`.
use mathlib.Core.Path.{◌≡◌, refl}
use Prim.Native.Nat.{ℕ}
use mathlib.Core.List.{List, [], ◌∷◌}
use seplogic.Ra.Ura.{Ura}
use base.Fraction.{full_share}
use mir.Syntax.{named}
use mir.Val.{Val, vptr}
use mir.Raw.{raw as bare}
use base.Logic.{SProp, ent, sep, id⊢}
use base.Fml.{Lft, GName, Share, Fml, ftrue, flft, fsep}
use prog.Memory.{Memory}
use prog.Routine.{Routine}
use types.Logic.{Logic, sem}
use contract.Monad.{Fun, fact}
use contract.Running.{tables}
use types.Kit.{‵, ◌⊛◌, some, at_ret, ◌$◌, ◌∵◌, !, qed, by, move, keep, use1, split, join, pick, rewrite, fsplit, fsplit3, fjoin, suffices, frame, done, raw, later, await, group, fpack}
use types.Part.{whole, sub, look_in}
use types.Run.{stop, fld, load, of_opd, first, blocks, exec, returns, enter, addr}
use types.ByLocal.{alloc_all, pass_all, free_all, look_at, get, through, sets, env, sets_last}
use denote.Memory.{part_at, mem, cell_at, part_of}
use denote.RawPtr.{block_ptr}
use denote.Ref.{MutRef, mut_vals, mut_Tells}
use denote.Signature.{plain, mut_ref_to}
use denote.Steps.{nothing, heard, opens}
use denote.Follow.{follows, Part, lends_Part}
use denote.Exit.{no}
use denote.Triple.Clauses.{Clauses}
use denote.Triple.Walked.{says, Stays, stay_dropped, walk_of, ends_at, Goes-spent_ref}
use Rattle.std.proofs.raw_atomic.Walks.{proved}
use Rattle.core.proofs.alloc.Calls.{token}
use Rattle.std_alloc.proofs.VecSteps.Shapes.{after}
use Rattle.std_alloc.proofs.BoxSteps.Form.{X, R, B, D, τ, word, handle}
use Rattle.std_alloc.proofs.BoxSteps.Steps.{box_out, box_in}
use Rattle.hourstable_c.specs.contracts.held.Held.{the_row as Home}
use Rattle.std.specs.Prelude.{Option, Some, false, is_none}
use Rattle.hourstable_c.proofs.PlaceBox.{E, some_of}
use Rattle.hourstable_c.specs.Lending.{with_value}
use Rattle.hourstable_c.specs.contracts.place.Place.{the_row as Place}
use Rattle.hourstable_c.specs.contracts.place.Place.lend as F
use Rattle.hourstable_c.specs.contracts.place.Place.lend.Key.{name as #self}
use Rattle.hourstable_c.proofs.place.Place.lend.Statement as stated
use Rattle.hourstable_c.proofs.place.Place.lend.Code as code

abbrev stayed : Stays (F.ended).signature.params (F.ended).kept
stayed = (stay_dropped (mut_ref_to (0 ∷ []) tt (plain (λ _. Place))) no, tt)

module _ {M : Type 1} {𝓤 : Ura M} (𝓛 : Logic 𝓤) (at_mem : Memory → SProp 𝓤) (run : Routine → Fun 𝓤) (κ : Lft) (q : Share) (rb ro : ℕ) (γ : GName) (h : Place.Denot) (x : Home.Denot) (there : h.value ≡ Some x) where
  open 𝓛 use {H, A}

  abbrev held : Clauses 𝓤 F.ended
  held = F.clauses 𝓛 at_mem run

  abbrev bound : (walk_of 𝓛 F.ended stayed held).Ghost
  bound = (((κ, tt), (q, tt), tt, (record { ref_ptr = (rb, ro); ghost_name = γ; now = h }, tt), (vptr rb ro ∷ [], tt)), tt)

  abbrev Post : Val → SProp 𝓤
  Post = (walk_of 𝓛 F.ended stayed held).post bound

  -- the place as a box
  abbrev boxed : X E → D E
  boxed w = record { ptr = h.at; alloc = h.alloc; value = w }

  module _ (b o : ℕ) (hv : Val) where
    -- all of the place but its value
    abbrev Rest : Fml
    Rest = fsep (fsep (token E.al h.alloc (bare (τ E)) (block_ptr b o)) (handle E h.alloc hv)) (cell_at full_share Place.mir (word E hv b o ∷ []) rb ro)

    back : h.at ≡ block_ptr b o → (w : Home.Denot) → ent 𝓤 (sep 𝓤 (sem 𝓛 ((mem Home).own_at w b o)) (sem 𝓛 Rest)) (sem 𝓛 ((mem Place).own_at (with_value h w) rb ro))
    unfolding part_of
    back at_b w =
        qed 𝓛 (‵ (part_at (R E) full_share w b o) ∷ ‵ Rest ∷ []) ∵ move ! (1 ∷ []) $ fsplit ! $ fsplit ! $ move ! (3 ∷ []) $
        box_in E ! (boxed w) b o w at_b refl $ use1 𝓛 (‵ (Place.own_val (with_value h w) (word E hv b o ∷ []))) (id⊢ 𝓤 _) $ move ! (1 ∷ 0 ∷ []) $ fjoin ! $
        fpack ! (List Val) (λ us. fsep (cell_at full_share Place.mir us rb ro) (Place.own_val (with_value h w) us)) (word E hv b o ∷ []) $ done !

    exits : (γ' : GName)
        → ent 𝓤 (sep 𝓤 (sem 𝓛 ((MutRef (named 0) κ Home).own_val (record { ref_ptr = (b, o); ghost_name = γ'; now = x }) (vptr b o ∷ []))) (sep 𝓤 (A.lft κ q) (sem 𝓛 (follows Place Home γ γ' (with_value h))))) (Post (vptr b o))
    exits γ' =
        qed 𝓛 (‵ ((MutRef (named 0) κ Home).own_val (record { ref_ptr = (b, o); ghost_name = γ'; now = x }) (vptr b o ∷ [])) ∷ ‵ (flft κ q) ∷ ‵ (follows Place Home γ γ' (with_value h)) ∷ []) ∵
        suffices ! _ (ends_at 𝓛 F.ended stayed held bound (vptr b o) (record { ref_ptr = (b, o); ghost_name = γ'; now = x }) (tt, tt) (tt, tt)) $
        nothing ! $ nothing ! $ fjoin ! $ join ! $ nothing ! $ move ! (2 ∷ 0 ∷ []) $ join ! $ join ! $ frame ! $ says ! there $ done !

pub lend_spec : {M : Type 1} → stated.statement M
lend_spec 𝓤 𝓛 𝓜 𝓡 wired =
    let c = F.clauses 𝓛 𝓜.mem 𝓡.returns in let 𝓣 = tables 𝓤 𝓛.H 𝓜 𝓡 𝓡.env in
    proved 𝓛 F.ended stayed c 𝓜 𝓡 (Goes-spent_ref 𝓛 1 (0 ∷ []) tt (plain (λ _. Place)), tt)
    #self code.function (code.unfolded 𝓤 𝓛.H 𝓜 𝓡 wired)
    (λ κs. (mut_vals, tt)) (λ κs. (mut_Tells (named 0) κs.0 Place, tt)) (λ κs qs bounds a _ are.
    let There : Type 0 = is_none a.0.now.value ≡ false in let κ = κs.0 in let q = qs.0 in let rb = a.0.ref_ptr.0 in let ro = a.0.ref_ptr.1 in let γ = a.0.ghost_name in let h = a.0.now in
    qed 𝓛 (((‵ (flft κ q) ⊛ ‵ ftrue) ⊛ ‵ ((MutRef (named 0) κ Place).own_val a.0 (mut_vals a.0)) ⊛ ‵ ftrue) ∷ raw (fact 𝓤 There) ∷ []) ∵
    move ! (1 ∷ []) $ heard ! There (λ is. let held = some_of h.value is in let x = held.0 in let there = held.1 in
    split ! $ split ! $ move ! (2 ∷ []) $ split ! $ keep ! (0 ∷ 2 ∷ []) $
    enter ! _ _ _ _ _ $ alloc_all ! (λ l. pass_all ! refl ((tt, tt), tt) $
    fsplit3 ! $ move ! (1 ∷ 2 ∷ 3 ∷ []) $ opens ! tt Place {h = h} rb ro (λ vs. move ! (1 ∷ []) $
    rewrite ! 0 (λ (o : Option Home.Denot). ‵ (Place.own_val (record { at = h.at; alloc = h.alloc; value = o }) vs)) there refl $
    use1 𝓛 (‵ ((B E).own_val (boxed 𝓛 𝓜.mem 𝓡.returns κ q rb ro γ h x there x) vs)) (id⊢ 𝓤 _) $
    box_out E ! (boxed 𝓛 𝓜.mem 𝓡.returns κ q rb ro γ h x there x) vs (λ b o hv at_b ws fits.
    move ! (1 ∷ 2 ∷ []) $ fjoin ! $ move ! (1 ∷ []) $ rewrite ! 2 (λ (us : List Val). ‵ (cell_at full_share Place.mir us rb ro)) ws refl $
    -- [the value; the token with the allocator; the place's word; the open borrow, in three entries]
    first ! $ blocks ! $
    sets ! (of_opd ! (load ! (through ! refl (fld ! refl (stop !))) (look_in ! 2 (sub ! 0 refl (whole !))))) refl (tt, tt) $
    sets ! (of_opd ! (get ! refl)) refl (tt, tt) $
    sets_last ! (addr ! (through ! refl (stop !))) refl (tt, tt) $
    exec ! 𝓣.C 𝓣.Λ (env code.Mir.locals l) (after 1 (code.function).body) (at_ret _ (Post 𝓛 𝓜.mem 𝓡.returns κ q rb ro γ h x there)) $
    sets ! (of_opd ! (get ! refl)) refl (tt, tt) $
    move ! (1 ∷ 2 ∷ []) $ fjoin ! $ move ! (2 ∷ 3 ∷ 4 ∷ 1 ∷ 0 ∷ []) $ group ! 5 $
    let rest = Rest 𝓛 𝓜.mem 𝓡.returns κ q rb ro γ h x there b o hv in let goes = back 𝓛 𝓜.mem 𝓡.returns κ q rb ro γ h x there b o hv at_b in let known = Place.coded.code h in
    use1 𝓛 (later (some (λ (γ' : GName). raw (Part 𝓛 Place Home (with_value h) (named 0) κ q rb ro b o γ (sem 𝓛 rest) goes x γ'))))
    (lends_Part 𝓛 Place Home (with_value h) (named 0) κ q rb ro b o γ (sem 𝓛 rest) goes known known x) $ await ! tt $ pick ! (λ γ'.
    returns ! (look_at ! 0 refl) $ free_all ! refl $
    keep ! (0 ∷ []) $ by ! (exits 𝓛 𝓜.mem 𝓡.returns κ q rb ro γ h x there b o hv γ')))))))
