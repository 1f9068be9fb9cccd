use Rattle.std.proofs.Common.{subst, ap, refl}
use Rattle.std.specs.Prelude.{None}
use Rattle.sbe_types.specs.Shows.{Shows}
use Rattle.bridge_rules.specs.Members.{mantissa_in}
use Rattle.value_texts.proofs.Values.{enum_same, leaf_same, set_is}
use Rattle.value_texts.proofs.composite.kind_mantissa.Goals as goal

pub returns-in-Comp : goal.returns-in-Comp
returns-in-Comp c = λ known v h. c.first_number.ensures known v (subst (λ k. Shows c.args.order known k v c.args.bytes.now) c.in-Comp.is h)

pub returns-in-Leaf : goal.returns-in-Leaf
returns-in-Leaf c = λ known v h.
    leaf_same mantissa_in None (record { null = refl; number = λ n. refl; text = λ t. refl; array = λ es. refl }) c.args.order c.in-Leaf.field-0.shape c.in-Leaf.field-0 v c.args.bytes.now
    (subst (λ k. Shows c.args.order known k v c.args.bytes.now) c.in-Leaf.is h).1

pub returns-in-Enum : goal.returns-in-Enum
returns-in-Enum c = λ known v h.
    enum_same mantissa_in None c.args.order known v c.args.bytes.now c.in-Enum.field-0 c.in-Enum.field-1 refl (λ n. refl) (subst (λ k. Shows c.args.order known k v c.args.bytes.now) c.in-Enum.is h)

pub returns-in-Set : goal.returns-in-Set
returns-in-Set c = λ known v h.
    ap mantissa_in (set_is c.args.order known v c.args.bytes.now c.in-Set.field-0 c.in-Set.field-1 (subst (λ k. Shows c.args.order known k v c.args.bytes.now) c.in-Set.is h))

pub returns-in-Const : goal.returns-in-Const
returns-in-Const c = λ known v h. ap mantissa_in (subst (λ k. Shows c.args.order known k v c.args.bytes.now) c.in-Const.is h).1
