-- `is_nowhere` compares the address with null: null where nothing is owned, and else the start of a block.
use mathlib.Core.Path.{◌≡◌, refl, sym, ap}
use mathlib.Core.Bool.{Bool, true, false}
use Prim.Native.Nat.{ℕ}
use mathlib.Core.List.{List, [], ◌∷◌}
use lib.Dec.{lit<}
use seplogic.Ra.Ura.{Ura}
use base.Fraction.{full_share}
use mir.Syntax.{named}
use mir.Val.{Val, vptr, vbool}
use mir.Raw.{raw as bare}
use base.Logic.{SProp, ent, emp, guard_i, id⊢}
use base.Fml.{Lft, GName, Share, ftrue, flft}
use prog.Memory.{Memory}
use prog.Routine.{Routine}
use prog.Wp.{Calls, Loops, WpFn}
use types.Logic.{Logic, sem}
use contract.Monad.{Fun, fact, fact_i, fact_use}
use contract.Running.{tables}
use types.Kit.{‵, raw, ◌⊛◌, given, ◌$◌, ◌∵◌, !, qed, by, move, keep, learn, use0, use1, split, join, rewrite, fsplit3, fjoin, fjoin3, feq_i}
use types.Part.{whole, sub, look_in}
use types.Run.{stop, fld, load, lit, bin, of_opd, returns, enter}
use types.ByLocal.{alloc_all, pass_all, free_all, look_at, get, through, sets, is}
use denote.Memory.{cell_at}
use denote.RawPtr.{Ptr, block_ptr, null_ptr, Testable, tests_null}
use denote.Ref.{MutRef, mut_vals, mut_Tells}
use denote.Signature.{plain}
use denote.Steps.{nothing, opens, closes}
use denote.Triple.Clauses.{Clauses}
use denote.Triple.Walked.{Stays, stay_ref, walk_of, Goes-ref}
use Rattle.std.specs.Prelude.{Option, Some, None, is_none}
use Rattle.std.proofs.raw_atomic.Walks.{proved, leaves}
use Rattle.std.proofs.GlobalToken.{dealloc_token-Testable}
use Rattle.core.proofs.alloc.Calls.{token}
use Rattle.std_alloc.proofs.BoxSteps.Form.{B, D, τ, word}
use Rattle.std_alloc.proofs.BoxSteps.Steps.{box_out, box_in}
use Rattle.hourstable_c.specs.contracts.held.Held.{the_row as Home}
use Rattle.hourstable_c.specs.contracts.place.Place.{the_row as Place}
use Rattle.hourstable_c.proofs.PlaceBox.{E, null_word, null_in, null_out}
use Rattle.hourstable_c.specs.contracts.place.Place.is_nowhere as F
use Rattle.hourstable_c.specs.contracts.place.Place.is_nowhere.Key.{name as #self}
use Rattle.hourstable_c.proofs.place.Place.is_nowhere.Statement as stated
use Rattle.hourstable_c.proofs.place.Place.is_nowhere.Code as code

abbrev stayed : Stays (F.ended).signature.params (F.ended).kept
stayed = (stay_ref (0 ∷ []) tt (plain (λ _. Place)), tt)

module _ {M : Type 1} {𝓤 : Ura M} (𝓛 : Logic 𝓤) (at_mem : Memory → SProp 𝓤) (run : Routine → Fun 𝓤) (C : Calls 𝓤 𝓛.H) (Λ : Loops 𝓤 𝓛.H) (κ : Lft) (q : Share) (rb ro : ℕ) (γ : GName) (h : Place.Denot) where
  open 𝓛 use {H}

  abbrev held : Clauses 𝓤 F.ended
  held = F.clauses 𝓛 at_mem run

  abbrev bound : (walk_of 𝓛 F.ended stayed held).Ghost
  bound = (((κ, tt), (q, tt), tt, (record { ref_ptr = (rb, ro); ghost_name = γ; now = h }, tt), (vptr rb ro ∷ [], tt)), tt)

  abbrev Post : Val → SProp 𝓤
  Post = (walk_of 𝓛 F.ended stayed held).post bound

  abbrev Told : Bool → Type 0
  Told y = (y ≡ is_none h.value) × (h ≡ h)

  abbrev Goes : Type 1
  Goes = ent 𝓤 (types.Kit.⋆ 𝓛 (((‵ (flft κ q) ⊛ ‵ ftrue) ⊛ ‵ ((MutRef (named 0) κ Place).own_val (record { ref_ptr = (rb, ro); ghost_name = γ; now = h }) (vptr rb ro ∷ [])) ⊛ ‵ ftrue) ∷ ‵ ftrue ∷ []))
      (WpFn 𝓤 H C Λ code.function (vptr rb ro ∷ []) Post)

  walks : (o : Option Home.Denot) → h.value ≡ o → Goes
  walks (Some x) e =
      let boxed : D E = record { ptr = h.at; alloc = h.alloc; value = x } in
      qed 𝓛 (((‵ (flft κ q) ⊛ ‵ ftrue) ⊛ ‵ ((MutRef (named 0) κ Place).own_val (record { ref_ptr = (rb, ro); ghost_name = γ; now = h }) (vptr rb ro ∷ [])) ⊛ ‵ ftrue) ∷ ‵ ftrue ∷ []) ∵
      split ! $ split ! $ move ! (2 ∷ []) $ split ! $ keep ! (0 ∷ 2 ∷ []) $ enter ! _ _ _ _ _ $ alloc_all ! (λ l. pass_all ! refl ((tt, tt), tt) $
      fsplit3 ! $ move ! (1 ∷ 2 ∷ 3 ∷ []) $ opens ! tt Place {h = h} rb ro (λ vs. move ! (1 ∷ []) $
      rewrite ! 0 (λ (v : Option Home.Denot). ‵ (Place.own_val (record { at = h.at; alloc = h.alloc; value = v }) vs)) e refl $
      use1 𝓛 (‵ ((B E).own_val boxed vs)) (id⊢ 𝓤 _) $
      box_out E ! boxed vs (λ b o hv at_b ws fits.
      move ! (1 ∷ []) $ use1 𝓛 (given (Testable (block_ptr b o)) (‵ (token E.al h.alloc (bare (τ E)) (block_ptr b o))))
      (fact_use 𝓤 (Testable (block_ptr b o)) (dealloc_token-Testable 𝓛 h.alloc (bare (τ E)) (block_ptr b o)) (λ p. guard_i 𝓤 (Testable (block_ptr b o)) (sem 𝓛 (token E.al h.alloc (bare (τ E)) (block_ptr b o))) p)) $
      learn ! (λ test. rewrite ! 3 (λ (us : List Val). ‵ (cell_at full_share Place.mir us rb ro)) ws refl $
      sets ! (of_opd ! (load ! (through ! refl (fld ! refl (stop !))) (look_in ! 3 (sub ! 0 refl (whole !))))) refl (tt, tt) $
      sets ! (is ! (bin ! (get ! refl) (lit ! tt) (tests_null (block_ptr b o) test)) refl) refl (tt, tt) $
      move ! (1 ∷ 0 ∷ []) $ box_in E ! boxed b o x at_b refl $ use1 𝓛 (‵ (Place.own_val (record { at = h.at; alloc = h.alloc; value = Some x }) (word E hv b o ∷ []))) (id⊢ 𝓤 _) $
      rewrite ! 0 (λ (v : Option Home.Denot). ‵ (Place.own_val (record { at = h.at; alloc = h.alloc; value = v }) (word E hv b o ∷ []))) (sym e) refl $
      move ! (1 ∷ 0 ∷ []) $ closes ! tt Place h (word E hv b o ∷ []) rb ro $ feq_i ! (List Val) (vptr rb ro ∷ []) (vptr rb ro ∷ []) refl $ fjoin3 ! $
      nothing ! $ move ! (1 ∷ 0 ∷ []) $ fjoin ! $ move ! (1 ∷ []) $ nothing ! $ move ! (1 ∷ 0 ∷ []) $ join ! $
      use0 𝓛 (raw (fact 𝓤 (Told false))) (fact_i 𝓤 (Told false) (emp 𝓤) (sym (ap is_none e), refl)) $ feq_i ! (List Val) (vbool false ∷ []) (vbool false ∷ []) refl $
      returns ! (look_at ! 0 refl) $ free_all ! refl $ keep ! (2 ∷ 3 ∷ 0 ∷ 1 ∷ []) $ by ! (leaves 𝓛 F.ended stayed held bound (vbool false) false (h, tt) (tt, tt))))))
  walks None e =
      qed 𝓛 (((‵ (flft κ q) ⊛ ‵ ftrue) ⊛ ‵ ((MutRef (named 0) κ Place).own_val (record { ref_ptr = (rb, ro); ghost_name = γ; now = h }) (vptr rb ro ∷ [])) ⊛ ‵ ftrue) ∷ ‵ ftrue ∷ []) ∵
      split ! $ split ! $ move ! (2 ∷ []) $ split ! $ keep ! (0 ∷ 2 ∷ []) $ enter ! _ _ _ _ _ $ alloc_all ! (λ l. pass_all ! refl ((tt, tt), tt) $
      fsplit3 ! $ move ! (1 ∷ 2 ∷ 3 ∷ []) $ opens ! tt Place {h = h} rb ro (λ vs. move ! (1 ∷ []) $
      rewrite ! 0 (λ (v : Option Home.Denot). ‵ (Place.own_val (record { at = h.at; alloc = h.alloc; value = v }) vs)) e refl $
      null_out ! h.alloc h.at vs (λ hv en ws fits.
      rewrite ! 1 (λ (us : List Val). ‵ (cell_at full_share Place.mir us rb ro)) ws refl $
      sets ! (of_opd ! (load ! (through ! refl (fld ! refl (stop !))) (look_in ! 1 (sub ! 0 refl (whole !))))) refl (tt, record { fits = lit< tt }) $
      sets ! (is ! (bin ! (get ! refl) (lit ! tt) (tests_null null_ptr (lit< tt))) refl) refl (tt, tt) $
      null_in ! h.alloc $ rewrite ! 0 (λ (p : Ptr). ‵ (Place.own_val (record { at = p; alloc = h.alloc; value = None }) (null_word hv ∷ []))) (sym en) refl $
      rewrite ! 0 (λ (v : Option Home.Denot). ‵ (Place.own_val (record { at = h.at; alloc = h.alloc; value = v }) (null_word hv ∷ []))) (sym e) refl $
      move ! (1 ∷ 0 ∷ []) $ closes ! tt Place h (null_word hv ∷ []) rb ro $ feq_i ! (List Val) (vptr rb ro ∷ []) (vptr rb ro ∷ []) refl $ fjoin3 ! $
      nothing ! $ move ! (1 ∷ 0 ∷ []) $ fjoin ! $ move ! (1 ∷ []) $ nothing ! $ move ! (1 ∷ 0 ∷ []) $ join ! $
      use0 𝓛 (raw (fact 𝓤 (Told true))) (fact_i 𝓤 (Told true) (emp 𝓤) (sym (ap is_none e), refl)) $ feq_i ! (List Val) (vbool true ∷ []) (vbool true ∷ []) refl $
      returns ! (look_at ! 0 refl) $ free_all ! refl $ keep ! (2 ∷ 3 ∷ 0 ∷ 1 ∷ []) $ by ! (leaves 𝓛 F.ended stayed held bound (vbool true) true (h, tt) (tt, tt)))))

pub is_nowhere_spec : {M : Type 1} → stated.statement M
is_nowhere_spec 𝓤 𝓛 𝓜 𝓡 wired =
    let c = F.clauses 𝓛 𝓜.mem 𝓡.returns in let 𝓣 = tables 𝓤 𝓛.H 𝓜 𝓡 𝓡.env in
    proved 𝓛 F.ended stayed c 𝓜 𝓡 (Goes-ref 𝓛 1 0 tt (plain (λ _. Place)), tt)
    #self code.function (code.unfolded 𝓤 𝓛.H 𝓜 𝓡 wired)
    (λ κs. (mut_vals, tt)) (λ κs. (mut_Tells (named 0) κs.0 Place, tt)) (λ κs qs bounds a _ are.
    walks 𝓛 𝓜.mem 𝓡.returns 𝓣.C 𝓣.Λ κs.0 qs.0 a.0.ref_ptr.0 a.0.ref_ptr.1 a.0.ghost_name a.0.now a.0.now.value refl)
