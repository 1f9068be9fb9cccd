-- A `List` may occur inside the type of its own items: how its value splits into a shape and those items.
use mathlib.Core.Path.{◌≡◌, refl, sym}
use mathlib.Core.List as core
use mathlib.Core.List.{[]}
use mathlib.Core.Former.{Former, this, list, via, children}
use base.Stored.{code_map}
use denote.RattleType.{RattleType}
use denote.HoleLaws.{Alike}
use denote.HolePlaces.{Recodes, struct_places, laid}
use denote.Hole.Carrier.{listed, list-listed}
use denote.Hole.Fix.{over}
use denote.Param.Weighed.{Weighed, w_list}
use denote.Model.Placed.{view_places}
use Rattle.std.specs.formers.vec.Vec as vec
use Rattle.std.specs.declared.alloc.Global.{Global}
use Rattle.std.specs.contracts.alloc.Global as heap
use Rattle.std.specs.contracts.impls.GlobalAllocator.TheImpl.{ghosts}
use Rattle.lists.specs.declared.list.List.TheInside.{Inside}
use Rattle.lists.specs.declared.list.List.TheView.{view, invariant}
use Rattle.lists.specs.contracts.list.List as whole
use Rattle.lists.specs.contracts.list.List.TheInside as inside

-- the value is a list of the items
abbrev pub the_former : Former {0} → Former {0}
the_former g = list g

abbrev pub the_weighed : {g : Former {0}} → Weighed g → Weighed (the_former g)
the_weighed weights = w_list weights

pub the_empty : core.List ⊥
the_empty = []

-- the items in order
abbrev pub the_items : (X : Type 0) → core.List X → core.List X
the_items X items = items

pub the_items_listed : (X : Type 0) (items : core.List X) → listed _ (children (the_former this) X items) ≡ the_items X items
the_items_listed X items = list-listed X items

-- the fields hold the items in a `Vec`
abbrev stored : Former {0}
stored = via (vec.the_former this Global) Inside (λ X value. value.items) (λ X held. record { items = held }) (λ X value. refl) (λ X held. refl)

module _ (R S : RattleType) (h : R.Denot → S.Denot) where
  pub the_places : Alike R S h → Alike (whole.the_row R) (whole.the_row S) ((the_former this).map R.Denot S.Denot h)
  the_places alike =
      let items_lie = laid _ _ _ (vec.the_places heap.the_row ghosts R S h alike) in
      view_places stored (list this) view (λ X Y k value. refl) (λ X value. refl) R.Denot S.Denot h (whole.the_row R).coded (whole.the_row S).coded
      (invariant R.Denot) (invariant S.Denot) (λ value p q. refl) (λ value p q. refl) (λ value held. tt) (λ value held. tt)
      (over (inside.the_row R)) (over (inside.the_row S))
      (struct_places (inside.the_type R) (inside.the_type S) (vec.mapped h, tt) _ (λ value. refl) refl (items_lie, tt))

  pub the_codes_placed : Recodes R S h → Recodes (whole.the_row R) (whole.the_row S) ((the_former this).map R.Denot S.Denot h)
  the_codes_placed same items = sym (code_map R.coded.code S.coded.code h (λ item. sym (same item)) items)
