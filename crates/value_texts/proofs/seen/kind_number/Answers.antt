use Rattle.std.proofs.Common.{subst, sym, ap, ◌∙◌}
use Rattle.sbe_types.specs.Shows.{Shows}
use Rattle.bridge_rules.specs.Members.{number_in}
use Rattle.value_texts.proofs.Values.{enum_number_is, set_is}
use Rattle.value_texts.proofs.seen.kind_number.Goals as goal

pub returns-in-Leaf : goal.returns-in-Leaf
returns-in-Leaf c = λ known v h. c.leaf_number.ensures v (subst (λ k. Shows c.args.order known k v c.args.bytes.now) c.in-Leaf.is h).1

pub returns-in-Enum : goal.returns-in-Enum
returns-in-Enum c = λ known v h.
    enum_number_is c.args.order known v c.args.bytes.now c.in-Enum.leaf c.in-Enum.field-1 (subst (λ k. Shows c.args.order known k v c.args.bytes.now) c.in-Enum.is h)
    ∙ sym c.number_unless_null.ensures

pub returns-in-Set : goal.returns-in-Set
returns-in-Set c = λ known v h.
    ap number_in (set_is c.args.order known v c.args.bytes.now c.in-Set.field-0 c.in-Set.field-1 (subst (λ k. Shows c.args.order known k v c.args.bytes.now) c.in-Set.is h))

pub returns-in-Comp : goal.returns-in-Comp
returns-in-Comp c = λ known v h. ap number_in (subst (λ k. Shows c.args.order known k v c.args.bytes.now) c.in-Comp.is h).1.1

pub returns-in-Const : goal.returns-in-Const
returns-in-Const c = λ known v h. ap number_in (subst (λ k. Shows c.args.order known k v c.args.bytes.now) c.in-Const.is h).1
