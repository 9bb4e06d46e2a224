-- The place and its parts own what a box at the same types owns; the place at null owns nothing.
use mathlib.Core.Path.{◌≡◌, refl, sym, subst}
use mathlib.Core.List.{List, [], ◌∷◌, ◌++◌}
use lib.Dec.{T, lit<}
use seplogic.Ra.Ura.{Ura}
use mir.Val.{Val, vnull, vstruct, vcons, vnil, of_list, has_ty, WT}
use types.Logic.{Logic}
use types.Kit.{Goal, Step, step, Seq, Item, ‵, ◌$◌, move, drop, fsplit, fjoin, fpick, fpack, feq_l, feq_i}
use denote.RattleType.{Valss}
use denote.RawPtr.{Ptr, RawPtr, null_ptr, ptr_val}
use denote.Steps.{nothing}
use denote.Struct.Struct.{within}
use denote.Struct.Owning.{shape}
use Rattle.core.proofs.alloc.Calls.{α, Fits, handle_tells}
use Rattle.std.specs.Prelude.{Option, Some, None, true, false, is_none}
use Rattle.std.proofs.lemmas.Bool.{true≢false}
use Rattle.std_alloc.proofs.ResultValues.{and_tt}
use Rattle.std_alloc.proofs.BoxSteps.Form.{P, handle, box_ty, owning, Bx}
use Rattle.std_heap.specs.declared.Global.{Global}
use mir.Syntax.{impl, tnil, dnil}
use denote.Signature.{Slot, plain}
use Rattle.std_heap.specs.contracts.Global as Heap
use Rattle.std_heap.specs.contracts.GlobalAllocator.TheImpl.{ghosts, dict}
use Rattle.std_heap.proofs.Global.TheLaws as heap
use Rattle.hourstable_c.specs.contracts.held.Held as Home
use Rattle.hourstable_c.proofs.held.Held.TheLaws as home
use Rattle.hourstable_c.specs.contracts.parts.Parts as Parts
use Rattle.hourstable_c.specs.contracts.place.Place as Place

abbrev pub E : Bx
E = record { row = Home.the_row; laws = home.the_row_laws; al = record { row = Heap.the_row; laws = heap.the_row_laws; g = ghosts; d = dict; drops = impl [] tnil dnil } }

abbrev pub FromParts : Slot 0
FromParts = plain (λ _. Parts.the_row Home.the_row Heap.the_row ghosts)

abbrev pub FromPlace : Slot 0
FromPlace = plain (λ _. Place.the_row)

-- the machine's value of a place at null
abbrev pub null_word : Val → Val
null_word hv = vstruct (vcons vnull (vcons hv vnil))

pub null_typed : (hv : Val) → Fits E.al hv → T (has_ty (box_ty E) (null_word hv)) × WT (null_word hv)
null_typed hv fa = (and_tt (has_ty (α E.al) hv) fa.0, (record { fits = lit< tt }, (fa.1, tt)))

module _ {M : Type 1} {𝓤 : Ura M} {𝓛 : Logic 𝓤} {K : Type 0} {Γ : List (Item 𝓤)} {G : Goal 𝓤 𝓛.H} where
  -- such a place is its handle, and the handle makes one
  pub null_out : K → (alloc : Global) (at : Ptr) (vs : List Val)
      → ((hv : Val) → at ≡ null_ptr → vs ≡ null_word hv ∷ [] → Fits E.al hv → Seq K 𝓛 (‵ (handle E alloc hv) ∷ Γ) G)
      → Seq K 𝓛 (‵ (Place.the_row.own_val (record { at = at; alloc = alloc; value = None }) vs) ∷ Γ) G
  null_out t alloc at vs k =
      fsplit t $ fpick t (λ vss. fsplit t $ feq_l t (λ ev. fsplit t $ feq_l t (λ ep. fsplit t $ handle_tells E.al t alloc vss.1.0 (λ hv ea fa. move t (1 ∷ []) $ drop t $ move t (1 ∷ []) $
      feq_l t (λ en. k hv en
      (subst (λ (p : Ptr). vs ≡ vstruct (of_list (ptr_val p ∷ hv ∷ [])) ∷ []) en
      (subst (λ (ws : List Val). vs ≡ vstruct (of_list (ptr_val at ∷ (ws ++ []))) ∷ []) ea (subst (λ (ps : List Val). vs ≡ vstruct (of_list (ps ++ (vss.1.0 ++ []))) ∷ []) ep ev))) fa)))))

  pub null_in : K → {hv : Val} (alloc : Global)
      → Step K 𝓛 (‵ (Place.the_row.own_val (record { at = null_ptr; alloc = alloc; value = None }) (null_word hv ∷ [])) ∷ Γ) G (‵ (handle E alloc hv) ∷ Γ) G
  null_in t {hv} alloc = step (λ s.
      feq_i t Ptr null_ptr null_ptr refl $ nothing t $ move t (2 ∷ 0 ∷ []) $ fjoin t $ feq_i t (List Val) (vnull ∷ []) (vnull ∷ []) refl $ fjoin t $
      feq_i t (List Val) (null_word hv ∷ []) (null_word hv ∷ []) refl $ fjoin t $
      fpack t (Valss (RawPtr ∷ P E ∷ [])) (within (shape (owning E)) (null_ptr, (alloc, tt)) (null_word hv ∷ [])) (vnull ∷ [], (hv ∷ [], tt)) $ fjoin t $ s)

-- what an option holds
pub some_of : {A : Type 0} (o : Option A) → is_none o ≡ false → (x : A) × (o ≡ Some x)
some_of None t = absurd (true≢false t)
some_of (Some x) t = (x, refl)

pub none_of : {A : Type 0} (o : Option A) → is_none o ≡ true → o ≡ None
none_of None t = refl
none_of (Some x) t = absurd (true≢false (sym t))
