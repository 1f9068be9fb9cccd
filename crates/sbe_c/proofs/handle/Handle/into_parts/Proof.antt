-- `into_parts` takes out what an open handle owns. Assumes `Logic`.
use Rattle.std.proofs.Common.{◌≡◌, List, [], ◌∷◌, ◌++◌, refl, sym, lit<, Some, None}
use mathlib.Core.Bool.{true}
use mir.Syntax.{Fn}
use mir.Val.{Val, vbool, of_list}
use base.Logic.{SProp, emp}
use base.Fml.{ftrue}
use prog.Wp.{WpFn}
use contract.Monad.{fact, fact_i}
use contract.Running.{tables}
use types.Kit.{‵, raw, ◌⊛◌, prop, at_ret, ◌$◌, ◌∵◌, !, qed, by, move, keep, drop, use0, use1, split, regoal, fsplit, fjoin}
use types.Part.{whole, sub, agg}
use types.Match.{live}
use types.Run.{stop, fld, lit, of_opd, no_more, and_then, first, branches, skips, exec, returns, returns_within, enter}
use types.ByLocal.{alloc_all, pass_all, free_all, look_at, get, get_in, sets, env}
use denote.RattleType.{RattleType, owns}
use denote.RawPtr.{ptr_val}
use denote.Exit.{yes}
use denote.Signature.{Slot, plain, types_at, type_at}
use denote.Steps.{nothing}
use denote.Triple.Entry.{alive}
use denote.Triple.Walked.{Stays, stay_dropped, walk_of, Goes-dropped}
use Rattle.core.proofs.option.Made.{Some-of, none_of}
use Rattle.std.proofs.raw_atomic.Walks.{proved_at, leaves}
use Rattle.sbe_c.proofs.Values.{Parts, two, three, two_tt, ptr_typed, two_good, three_good, parts_in, handle_out, open_out, shut_out}
use Rattle.sbe_c.specs.contracts.handle.Handle as handle
use Rattle.sbe_c.specs.contracts.handle.Handle.into_parts.{ended, clauses}
use Rattle.sbe_c.specs.contracts.handle.Handle.into_parts.Key.{name as #self}
use Rattle.sbe_c.proofs.handle.Handle.into_parts.Statement.{statement}
use Rattle.sbe_c.proofs.handle.Handle.into_parts.Code as code

abbrev From : Slot 0
From = plain (λ _. handle.the_row)

pub into_parts_spec : {M : Type 1} → statement M
into_parts_spec 𝓤 𝓛 𝓜 𝓡 wired =
    let H = 𝓛.H in let 𝓣 = tables 𝓤 H 𝓜 𝓡 𝓡.env in let fn : Fn = code.function in let c = clauses 𝓛 𝓜.mem 𝓡.returns in
    let hs : Stays ended.signature.params ended.kept = (stay_dropped From yes, tt) in
    proved_at 𝓛 ended hs c 𝓜 𝓡 (Goes-dropped 𝓛 0 From yes (λ κs x f. refl), tt) #self fn (code.unfolded 𝓤 H 𝓜 𝓡 wired) (λ z are.
    let Post : Val → SProp 𝓤 = (walk_of 𝓛 ended hs c).post z in let d = z.0.3.0 in
    qed 𝓛 ((raw (alive 𝓛 ended.signature z.0.0 z.0.1) ⊛ ‵ (owns (types_at ended.signature.params z.0.0) z.0.3 z.0.4)) ∷ ‵ ftrue ∷ []) ∵ move ! (1 ∷ []) $ drop ! $ split ! $ move ! (1 ∷ []) $ fsplit ! $
    handle_out ! d z.0.4.0 (λ h ev fits.
    regoal ! (λ (us : List Val). prop (WpFn 𝓤 H 𝓣.C 𝓣.Λ fn us Post)) (λ i. ev i ++ []) refl $
    enter ! 𝓣.C 𝓣.Λ fn (three (ptr_val d.ptr) h (vbool d.is_open) ∷ []) Post $ alloc_all ! (λ l. pass_all ! refl (three_good d.ptr h d.is_open fits, tt) $
    sets ! (of_opd ! (get_in ! (fld ! refl (stop !)) (sub ! 0 refl (whole !)))) refl (ptr_typed d.ptr) $ sets ! (of_opd ! (get_in ! (fld ! refl (stop !)) (sub ! 1 refl (whole !)))) refl fits $
    sets ! (of_opd ! (get_in ! (fld ! refl (stop !)) (sub ! 2 refl (whole !)))) refl (tt, tt) $ sets ! (of_opd ! (get ! refl)) refl (tt, tt) $
    first ! $ branches ! (get ! refl)
    (λ big. open_out ! d.alloc d.ptr d.is_open big d.opened (λ x eo. let v : Val = two (ptr_val d.ptr) h in
    sets ! (of_opd ! (get ! refl)) refl (ptr_typed d.ptr) $ sets ! (agg ! (and_then ! (get ! refl) (and_then ! (get ! refl) (no_more !)))) refl (two_good d.ptr h fits) $
    sets ! (agg ! (and_then ! (lit ! tt) (and_then ! (get ! refl) (no_more !)))) refl (two_tt true _ tt (two_good d.ptr h fits).0, (record { fits = lit< tt }, ((two_good d.ptr h fits).1, tt))) $
    returns_within ! Post refl (look_at ! 0 refl) $ free_all ! refl $
    parts_in ! d.ptr h d.alloc x $ let made : Parts.Denot = record { ptr = d.ptr; alloc = d.alloc; value = x } in let Out : RattleType = type_at ended.signature.result z.0.0 in
    use1 𝓛 (‵ (Out.own_val (Some made) (live 1 (of_list (v ∷ [])) ∷ []))) (Some-of 𝓛 Parts made v) $
    use0 𝓛 (raw (fact 𝓤 (Some x ≡ d.opened))) (fact_i 𝓤 (Some x ≡ d.opened) (emp 𝓤) (sym eo)) $ nothing ! $ nothing ! $ fjoin ! $ keep ! (4 ∷ 0 ∷ 2 ∷ 1 ∷ []) $
    by ! (leaves 𝓛 ended hs c z (live 1 (of_list (v ∷ []))) (Some made) (tt, tt) (tt, tt))))
    (λ small. shut_out ! d.alloc d.ptr d.is_open small d.opened (λ eo. skips ! $ exec ! 𝓣.C 𝓣.Λ (env code.Mir.locals l) code.Mir.t-6 (at_ret _ Post) $
    sets ! (agg ! (and_then ! (lit ! tt) (no_more !))) refl (tt, (record { fits = lit< tt }, tt)) $
    returns ! (look_at ! 0 refl) $ free_all ! refl $ drop ! $ let Out : RattleType = type_at ended.signature.result z.0.0 in
    use0 𝓛 (‵ (Out.own_val None (live 0 (of_list []) ∷ []))) (none_of 𝓛 Parts) $
    use0 𝓛 (raw (fact 𝓤 (None ≡ d.opened))) (fact_i 𝓤 (None ≡ d.opened) (emp 𝓤) (sym eo)) $ nothing ! $ nothing ! $ fjoin ! $ keep ! (4 ∷ 0 ∷ 2 ∷ 1 ∷ []) $
    by ! (leaves 𝓛 ended hs c z (live 0 (of_list [])) None (tt, tt) (tt, tt)))))))
