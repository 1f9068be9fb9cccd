use Rattle.std.proofs.Common.{subst, sym, ◌∙◌}
use Rattle.sbe_types.specs.Shows.{Shows}
use Rattle.field_values.proofs.Shown.{enum_state, set_state, comp_state, const_state}
use Rattle.field_values.proofs.state.state_in.Goals as goal

pub returns-in-Leaf : goal.returns-in-Leaf
returns-in-Leaf c = λ known v h. c.leaf_state.ensures v (subst (λ k. Shows c.args.order known k v c.args.bytes.now) c.in-Leaf.is h).1

pub returns-in-Enum : goal.returns-in-Enum
returns-in-Enum c = λ known v h.
    enum_state c.args.order known v c.args.bytes.now c.in-Enum.leaf c.in-Enum.field-1 (subst (λ k. Shows c.args.order known k v c.args.bytes.now) c.in-Enum.is h)
    ∙ sym c.number_state.ensures

pub returns-in-Set : goal.returns-in-Set
returns-in-Set c = λ known v h. set_state c.args.order known v c.args.bytes.now c.in-Set.field-0 c.in-Set.field-1 (subst (λ k. Shows c.args.order known k v c.args.bytes.now) c.in-Set.is h)

pub returns-in-Comp : goal.returns-in-Comp
returns-in-Comp c = λ known v h. comp_state c.args.order known v c.args.bytes.now c.in-Comp.field-0 (subst (λ k. Shows c.args.order known k v c.args.bytes.now) c.in-Comp.is h)

pub returns-in-Const : goal.returns-in-Const
returns-in-Const c = λ known v h. const_state c.args.order known v c.args.bytes.now c.in-Const.field-0 (subst (λ k. Shows c.args.order known k v c.args.bytes.now) c.in-Const.is h)
