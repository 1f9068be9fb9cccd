-- The value of a field by its bytes.
use Rattle.std.proofs.Common.{◌≡◌, ℕ, Bool, List, length, Option, Some, None, sym, ap}
use Rattle.sbe_types.specs.declared.kind.Kind.{Kind, Leaf, Enum, Set, Const, Comp'}
use Rattle.sbe_types.specs.declared.kind.Order.{Order}
use Rattle.sbe_types.specs.declared.message.Value.{Value}
use Rattle.sbe_types.specs.Places.{width}
use Rattle.sbe_types.specs.Shows.{Shows}
use Rattle.flyweight_view.specs.declared.values.FieldBytes.{FieldBytes}
use Rattle.flyweight_view.specs.ShownIn.{IsShownIn}
use Rattle.tree_codec.specs.TheValues.{IsTheValue}

shown_width : (order : Order) (known : Bool) (kind : Kind) (v : Value) (b : List ℕ) → Shows order known kind v b → length b ≡ width kind
shown_width order known (Leaf l) v b h = h.0
shown_width order known (Enum l names) v b h = h.0
shown_width order known (Set p names) v b h = h.0
shown_width order known (Const c) v b h = ap length h.0
shown_width order known (Comp' n members) v b h = h.0

pub field_width : (f : FieldBytes) (o : Option Value) → IsShownIn f o → length f.bytes.now ≡ width f.kind.now
field_width f None h = absurd h
field_width f (Some v) h = shown_width f.order h.0 f.kind.now v f.bytes.now h.1

pub field_is : (f : FieldBytes) (o : Option Value) (it : Value) → IsShownIn f o → IsTheValue f.order f.kind.now f.bytes.now it → o ≡ Some it
field_is f None it s h = absurd s
field_is f (Some v) it s h = ap Some (sym (h.same s.0 v s.1))
