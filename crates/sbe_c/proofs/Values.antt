-- The machine values of a handle and of its parts, and what is owned beside them. Assumes `Logic`.
use mathlib.Core.Path.{◌≡◌, refl, ap, ◌∙◌, subst}
use mathlib.Core.Bool.{Bool, true, false, ◌&&◌, not}
use mathlib.Core.List.{List, [], ◌∷◌, ◌++◌}
use lib.Dec.{T, lit<}
use seplogic.Ra.Ura.{Ura}
use mir.Syntax.{impl, tnil, dnil, ty_ptr}
use mir.Val.{Val, vbool, vstruct, vcons, vnil, of_list, has_ty, WT}
use types.Logic.{Logic}
use types.Kit.{Item, Goal, Seq, Step, step, ‵, ◌$◌, move, drop, fsplit, fjoin, fpick, fpack, feq_i, feq_l}
use denote.RattleType.{RattleType, Valss}
use denote.Builtin.{RawPtr}
use denote.RawPtr.{Ptr, block_ptr, null_ptr, ptr_val}
use denote.Steps.{nothing}
use denote.Param.{layout}
use denote.Struct.Struct.{within}
use denote.Struct.Owning.{shape, fields, to}
use Rattle.core.specs.declared.option.Option.{Option}
use Rattle.core.specs.declared.option.Option.TheVariants.{None, Some}
use Rattle.core.proofs.alloc.Calls.{Al, handle_tells}
use Rattle.core.proofs.cell.Inside.{Good}
use Rattle.std_alloc.specs.Box.Ownership.{box_owns}
use Rattle.std_heap.specs.declared.Global.{Global}
use Rattle.std_heap.specs.contracts.Global as heap
use Rattle.std_heap.specs.contracts.GlobalAllocator.TheImpl.{ghosts, dict}
use Rattle.std_heap.proofs.Global.TheLaws as heap-laws
use Rattle.sbe_c.specs.Handles.{handle_owns}
use Rattle.sbe_c.specs.contracts.opened.Opened as opened
use Rattle.sbe_c.specs.contracts.parts.Parts as parts
use Rattle.sbe_c.specs.contracts.handle.Handle as handle

abbrev pub al : Al
al = record { row = heap.the_row; laws = heap-laws.the_row_laws; g = ghosts; d = dict; drops = impl [] tnil dnil }

abbrev pub Parts : RattleType
Parts = parts.the_row opened.the_row heap.the_row ghosts

abbrev pub two : Val → Val → Val
two v w = vstruct (vcons v (vcons w vnil))

abbrev pub three : Val → Val → Val → Val
three v w t = vstruct (vcons v (vcons w (vcons t vnil)))

pub two_tt : (x y : Bool) → T x → T y → T (x && (y && true))
two_tt true true s t = tt
two_tt true false s t = absurd t
two_tt false y s t = absurd s

pub ptr_typed : (p : Ptr) → Good ty_ptr (ptr_val p)
ptr_typed (block_ptr b o) = (tt, tt)
ptr_typed null_ptr = (tt, record { fits = lit< tt })

pub two_good : (p : Ptr) (h : Val) → Good (layout heap.the_row) h → T (has_ty ty_ptr (ptr_val p) && (has_ty (layout heap.the_row) h && true)) × WT (two (ptr_val p) h)
two_good p h fits = (two_tt (has_ty ty_ptr (ptr_val p)) (has_ty (layout heap.the_row) h) (ptr_typed p).0 fits.0, ((ptr_typed p).1, (fits.1, tt)))

pub three_good : (p : Ptr) (h : Val) (y : Bool) → Good (layout heap.the_row) h
    → T (has_ty ty_ptr (ptr_val p) && (has_ty (layout heap.the_row) h && (true && true))) × WT (three (ptr_val p) h (vbool y))
three_good p h y fits = (two_tt (has_ty ty_ptr (ptr_val p)) (has_ty (layout heap.the_row) h) (ptr_typed p).0 fits.0, ((ptr_typed p).1, (fits.1, (tt, tt))))

module _ {M : Type 1} {𝓤 : Ura M} {𝓛 : Logic 𝓤} {K : Type 0} {Γ : List (Item 𝓤)} {G : Goal 𝓤 𝓛.H} where
  pub parts_out : K → (d : Parts.Denot) (vs : List Val)
      → ((h : Val) → vs ≡ two (ptr_val d.ptr) h ∷ [] → Good (layout heap.the_row) h
      → Seq K 𝓛 (‵ (box_owns (ghosts.dealloc_token d.alloc) opened.the_row d.ptr d.value) ∷ ‵ ((heap.the_row).own_val d.alloc (h ∷ [])) ∷ Γ) G)
      → Seq K 𝓛 (‵ (Parts.own_val d vs) ∷ Γ) G
  parts_out t d vs k =
      fsplit t $ fpick t (λ vss. fsplit t $ feq_l t (λ ev. fsplit t $ feq_l t (λ ep. fsplit t $ handle_tells al t d.alloc vss.1.0 (λ h ea fits. move t (1 ∷ []) $ drop t $ move t (1 ∷ []) $
      k h (ev ∙ ap (λ (ps : List Val). vstruct (of_list (ps ++ (vss.1.0 ++ []))) ∷ []) ep ∙ ap (λ (ws : List Val). vstruct (of_list (ptr_val d.ptr ∷ (ws ++ []))) ∷ []) ea) fits))))

  pub parts_in : K → (p : Ptr) (h : Val) (a : Global) (x : (opened.the_row).Denot)
      → Step K 𝓛 (‵ (Parts.own_val (record { ptr = p; alloc = a; value = x }) (two (ptr_val p) h ∷ [])) ∷ Γ) G
      (‵ (box_owns (ghosts.dealloc_token a) opened.the_row p x) ∷ ‵ ((heap.the_row).own_val a (h ∷ [])) ∷ Γ) G
  parts_in t p h a x = step (λ s. let v : Val = two (ptr_val p) h in
      nothing t $ move t (2 ∷ 0 ∷ []) $ fjoin t $ feq_i t (List Val) (ptr_val p ∷ []) (ptr_val p ∷ []) refl $ fjoin t $ feq_i t (List Val) (v ∷ []) (v ∷ []) refl $ fjoin t $
      fpack t (Valss (RawPtr ∷ heap.the_row ∷ [])) (within (shape (parts.the_type opened.the_row heap.the_row ghosts)) (p, (a, tt)) (v ∷ [])) (ptr_val p ∷ [], (h ∷ [], tt)) $ fjoin t $ s)

  pub handle_out : K → (d : (handle.the_row).Denot) (vs : List Val)
      → ((h : Val) → vs ≡ three (ptr_val d.ptr) h (vbool d.is_open) ∷ [] → Good (layout heap.the_row) h
      → Seq K 𝓛 (‵ (handle_owns d.alloc d.ptr d.is_open d.opened) ∷ ‵ ((heap.the_row).own_val d.alloc (h ∷ [])) ∷ Γ) G)
      → Seq K 𝓛 (‵ ((handle.the_row).own_val d vs) ∷ Γ) G
  handle_out t d vs k =
      fsplit t $ fpick t (λ vss. fsplit t $ feq_l t (λ ev. fsplit t $ feq_l t (λ ep. fsplit t $ handle_tells al t d.alloc vss.1.0 (λ h ea fits. move t (1 ∷ []) $ fsplit t $ feq_l t (λ eb. drop t $ move t (1 ∷ []) $
      k h (ev ∙ ap (λ (ps : List Val). vstruct (of_list (ps ++ (vss.1.0 ++ (vss.1.1.0 ++ [])))) ∷ []) ep ∙ ap (λ (ws : List Val). vstruct (of_list (ptr_val d.ptr ∷ (ws ++ (vss.1.1.0 ++ [])))) ∷ []) ea
      ∙ ap (λ (ws : List Val). vstruct (of_list (ptr_val d.ptr ∷ h ∷ (ws ++ []))) ∷ []) eb) fits)))))

  pub handle_in : K → (p : Ptr) (h : Val) (a : Global) (y : Bool) (o : Option (opened.the_row).Denot)
      → Step K 𝓛 (‵ ((handle.the_row).own_val (record { ptr = p; alloc = a; is_open = y; opened = o }) (three (ptr_val p) h (vbool y) ∷ [])) ∷ Γ) G
      (‵ (handle_owns a p y o) ∷ ‵ ((heap.the_row).own_val a (h ∷ [])) ∷ Γ) G
  handle_in t p h a y o = step (λ s. let v : Val = three (ptr_val p) h (vbool y) in
      nothing t $ feq_i t (List Val) (vbool y ∷ []) (vbool y ∷ []) refl $ fjoin t $ move t (2 ∷ 0 ∷ []) $ fjoin t $ feq_i t (List Val) (ptr_val p ∷ []) (ptr_val p ∷ []) refl $ fjoin t $
      feq_i t (List Val) (v ∷ []) (v ∷ []) refl $ fjoin t $
      fpack t (Valss (fields handle.the_type)) (within (shape handle.the_type) (to handle.the_type (record { ptr = p; alloc = a; is_open = y; opened = o })) (v ∷ [])) (ptr_val p ∷ [], (h ∷ [], (vbool y ∷ [], tt))) $ fjoin t $ s)

  -- an open handle owns its box
  pub open_out : K → (a : Global) (p : Ptr) (y : Bool) → T y → (o : Option (opened.the_row).Denot)
      → ((x : (opened.the_row).Denot) → o ≡ Some x → Seq K 𝓛 (‵ (box_owns (ghosts.dealloc_token a) opened.the_row p x) ∷ Γ) G) → Seq K 𝓛 (‵ (handle_owns a p y o) ∷ Γ) G
  open_out t a p y is None k = feq_l t (λ e. absurd (subst T e is))
  open_out t a p y is (Some x) k = fsplit t $ feq_l t (λ _. k x refl)

  -- a closed one owns nothing
  pub shut_out : K → (a : Global) (p : Ptr) (y : Bool) → T (not y) → (o : Option (opened.the_row).Denot) → (o ≡ None → Seq K 𝓛 Γ G) → Seq K 𝓛 (‵ (handle_owns a p y o) ∷ Γ) G
  shut_out t a p y is None k = drop t $ k refl
  shut_out t a p y is (Some x) k = fsplit t $ feq_l t (λ e. absurd (subst (λ (b : Bool). T (not b)) e is))
