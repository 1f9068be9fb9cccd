-- `of_parts` moves two fields, and the handle owns what the parts owned. Assumes `Logic`.
use Rattle.std.proofs.Common.{◌≡◌, List, [], ◌∷◌, ◌++◌, refl, Some}
use mathlib.Core.Bool.{Bool, true}
use mir.Syntax.{Fn}
use mir.Val.{Val, vbool}
use base.Logic.{SProp, emp}
use base.Fml.{ftrue}
use prog.Wp.{WpFn}
use contract.Monad.{fact, fact_i}
use contract.Running.{tables}
use types.Kit.{‵, raw, ◌⊛◌, prop, ◌$◌, ◌∵◌, !, qed, by, move, keep, drop, use0, split, regoal, fsplit, fjoin, feq_i}
use types.Part.{whole, sub, agg}
use types.Run.{stop, fld, true_lit, of_opd, no_more, and_then, returns, enter}
use types.ByLocal.{alloc_all, pass_all, free_all, look_at, get, get_in, sets}
use denote.RattleType.{owns}
use denote.RawPtr.{ptr_val}
use denote.Exit.{yes}
use denote.Signature.{Slot, plain, types_at}
use denote.Steps.{nothing}
use denote.Triple.Entry.{alive}
use denote.Triple.Walked.{Stays, stay_dropped, walk_of, Goes-dropped}
use Rattle.std.proofs.raw_atomic.Walks.{proved_at, leaves}
use Rattle.sbe_c.proofs.Values.{Parts, two, three, ptr_typed, two_good, three_good, parts_out, handle_in}
use Rattle.sbe_c.specs.contracts.handle.Handle as handle
use Rattle.sbe_c.specs.contracts.handle.Handle.of_parts.{ended, clauses}
use Rattle.sbe_c.specs.contracts.handle.Handle.of_parts.Key.{name as #self}
use Rattle.sbe_c.proofs.handle.Handle.of_parts.Statement.{statement}
use Rattle.sbe_c.proofs.handle.Handle.of_parts.Code as code

abbrev From : Slot 0
From = plain (λ _. Parts)

pub of_parts_spec : {M : Type 1} → statement M
of_parts_spec 𝓤 𝓛 𝓜 𝓡 wired =
    let H = 𝓛.H in let 𝓣 = tables 𝓤 H 𝓜 𝓡 𝓡.env in let fn : Fn = code.function in let c = clauses 𝓛 𝓜.mem 𝓡.returns in
    let hs : Stays ended.signature.params ended.kept = (stay_dropped From yes, tt) in
    proved_at 𝓛 ended hs c 𝓜 𝓡 (Goes-dropped 𝓛 0 From yes (λ κs x f. refl), tt) #self fn (code.unfolded 𝓤 H 𝓜 𝓡 wired) (λ z are.
    let Post : Val → SProp 𝓤 = (walk_of 𝓛 ended hs c).post z in let d = z.0.3.0 in let made : (handle.the_row).Denot = record { ptr = d.ptr; alloc = d.alloc; is_open = true; opened = Some d.value } in
    qed 𝓛 ((raw (alive 𝓛 ended.signature z.0.0 z.0.1) ⊛ ‵ (owns (types_at ended.signature.params z.0.0) z.0.3 z.0.4)) ∷ ‵ ftrue ∷ []) ∵ move ! (1 ∷ []) $ drop ! $ split ! $ move ! (1 ∷ []) $ fsplit ! $
    parts_out ! d z.0.4.0 (λ h ev fits.
    regoal ! (λ (us : List Val). prop (WpFn 𝓤 H 𝓣.C 𝓣.Λ fn us Post)) (λ i. ev i ++ []) refl $
    enter ! 𝓣.C 𝓣.Λ fn (two (ptr_val d.ptr) h ∷ []) Post $ alloc_all ! (λ l. pass_all ! refl (two_good d.ptr h fits, tt) $
    sets ! (of_opd ! (get_in ! (fld ! refl (stop !)) (sub ! 0 refl (whole !)))) refl (ptr_typed d.ptr) $ sets ! (of_opd ! (get_in ! (fld ! refl (stop !)) (sub ! 1 refl (whole !)))) refl fits $
    sets ! (of_opd ! (get ! refl)) refl (ptr_typed d.ptr) $
    sets ! (agg ! (and_then ! (get ! refl) (and_then ! (get ! refl) (and_then ! (true_lit !) (no_more !))))) refl (three_good d.ptr h true fits) $
    returns ! (look_at ! 0 refl) $ free_all ! refl $
    -- [the box; the allocator; nothing; alive]
    feq_i ! Bool true true refl $ fjoin ! $ handle_in ! d.ptr h d.alloc true (Some d.value) $
    use0 𝓛 (raw (fact 𝓤 (Some d.value ≡ Some d.value))) (fact_i 𝓤 (Some d.value ≡ Some d.value) (emp 𝓤) refl) $ nothing ! $ nothing ! $ fjoin ! $ keep ! (4 ∷ 0 ∷ 2 ∷ 1 ∷ []) $
    by ! (leaves 𝓛 ended hs c z (three (ptr_val d.ptr) h (vbool true)) made (tt, tt) (tt, tt)))))
