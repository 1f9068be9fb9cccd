-- `closed` makes a handle that owns nothing. Assumes `Logic`.
use Rattle.std.proofs.Common.{◌≡◌, List, [], ◌∷◌, ◌++◌, refl, None}
use mathlib.Core.Bool.{Bool, false}
use mir.Syntax.{Fn}
use mir.Val.{Val, vbool}
use base.Logic.{SProp, emp}
use base.Fml.{ftrue}
use prog.Wp.{WpFn}
use contract.Monad.{fact, fact_i}
use contract.Running.{tables}
use types.Kit.{‵, raw, ◌⊛◌, prop, ◌$◌, ◌∵◌, !, qed, by, move, keep, drop, use0, split, regoal, fsplit, fjoin, feq_i, feq_l}
use types.Part.{agg}
use types.Run.{false_lit, no_more, and_then, returns, enter}
use types.ByLocal.{alloc_all, pass_all, free_all, look_at, get, sets}
use denote.RattleType.{owns}
use denote.RawPtr.{RawPtr, ptr_val}
use denote.Exit.{yes}
use denote.Signature.{Slot, plain, types_at}
use denote.Steps.{nothing}
use denote.Triple.Entry.{alive}
use denote.Triple.Walked.{Stays, stay_dropped, walk_of, Goes-dropped}
use Rattle.core.proofs.alloc.Calls.{handle_tells}
use Rattle.std.proofs.raw_atomic.Walks.{proved_at, leaves}
use Rattle.std_heap.specs.contracts.Global as heap
use Rattle.sbe_c.proofs.Values.{al, three, ptr_typed, three_good, handle_in}
use Rattle.sbe_c.specs.contracts.handle.Handle as handle
use Rattle.sbe_c.specs.contracts.handle.Handle.closed.{ended, clauses}
use Rattle.sbe_c.specs.contracts.handle.Handle.closed.Key.{name as #self}
use Rattle.sbe_c.proofs.handle.Handle.closed.Statement.{statement}
use Rattle.sbe_c.proofs.handle.Handle.closed.Code as code

abbrev Heap : Slot 0
Heap = plain (λ _. heap.the_row)

abbrev At : Slot 0
At = plain (λ _. RawPtr)

pub closed_spec : {M : Type 1} → statement M
closed_spec 𝓤 𝓛 𝓜 𝓡 wired =
    let H = 𝓛.H in let 𝓣 = tables 𝓤 H 𝓜 𝓡 𝓡.env in let fn : Fn = code.function in let c = clauses 𝓛 𝓜.mem 𝓡.returns in
    let hs : Stays ended.signature.params ended.kept = (stay_dropped Heap yes, (stay_dropped At yes, tt)) in
    proved_at 𝓛 ended hs c 𝓜 𝓡 (Goes-dropped 𝓛 0 Heap yes (λ κs x f. refl), (Goes-dropped 𝓛 0 At yes (λ κs x f. refl), tt)) #self fn (code.unfolded 𝓤 H 𝓜 𝓡 wired) (λ z are.
    let Post : Val → SProp 𝓤 = (walk_of 𝓛 ended hs c).post z in let a = z.0.3.0 in let p = z.0.3.1.0 in let made : (handle.the_row).Denot = record { ptr = p; alloc = a; is_open = false; opened = None } in
    qed 𝓛 ((raw (alive 𝓛 ended.signature z.0.0 z.0.1) ⊛ ‵ (owns (types_at ended.signature.params z.0.0) z.0.3 z.0.4)) ∷ ‵ ftrue ∷ []) ∵ move ! (1 ∷ []) $ drop ! $ split ! $ move ! (1 ∷ []) $ fsplit ! $
    handle_tells al ! a z.0.4.0 (λ h ea fits. move ! (1 ∷ []) $ fsplit ! $ feq_l ! (λ ep. drop ! $
    regoal ! (λ (us : List Val). prop (WpFn 𝓤 H 𝓣.C 𝓣.Λ fn us Post)) (λ i. ea i ++ (ep i ++ [])) refl $
    enter ! 𝓣.C 𝓣.Λ fn (h ∷ ptr_val p ∷ []) Post $ alloc_all ! (λ l. pass_all ! refl (fits, (ptr_typed p, tt)) $
    sets ! (agg ! (and_then ! (get ! refl) (and_then ! (get ! refl) (and_then ! (false_lit !) (no_more !))))) refl (three_good p h false fits) $
    returns ! (look_at ! 0 refl) $ free_all ! refl $
    -- [the allocator; alive]
    feq_i ! Bool false false refl $ handle_in ! p h a false None $
    use0 𝓛 (raw (fact 𝓤 (made.opened ≡ None))) (fact_i 𝓤 (made.opened ≡ None) (emp 𝓤) refl) $ nothing ! $ nothing ! $ fjoin ! $ nothing ! $ fjoin ! $ keep ! (3 ∷ 0 ∷ 2 ∷ 1 ∷ []) $
    by ! (leaves 𝓛 ended hs c z (three (ptr_val p) h (vbool false)) made (tt, (tt, tt)) (tt, (tt, tt)))))))
