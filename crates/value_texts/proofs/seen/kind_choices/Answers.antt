use Rattle.std.proofs.Common.{subst, ap, ◌∙◌, refl}
use Rattle.std.specs.Prelude.{None}
use Rattle.sbe_types.specs.Shows.{Shows}
use Rattle.value_texts.specs.FieldViews.{choices_in}
use Rattle.value_texts.proofs.Values.{enum_same, leaf_same, set_is}
use Rattle.value_texts.proofs.seen.kind_choices.Goals as goal

pub returns-in-Set-clause-seen : goal.returns-in-Set-clause-seen
returns-in-Set-clause-seen c = λ known v h.
    ap choices_in (set_is c.args.order known v c.args.bytes.now c.in-Set.prim c.in-Set.field-1 (subst (λ k. Shows c.args.order known k v c.args.bytes.now) c.in-Set.is h))
    ∙ c.choices_shown.ensures.seen

pub returns-in-Leaf-clause-seen : goal.returns-in-Leaf-clause-seen
returns-in-Leaf-clause-seen c = λ known v h.
    leaf_same choices_in None (record { null = refl; number = λ n. refl; text = λ t. refl; array = λ es. refl }) c.args.order c.in-Leaf.field-0.shape c.in-Leaf.field-0 v c.args.bytes.now
    (subst (λ k. Shows c.args.order known k v c.args.bytes.now) c.in-Leaf.is h).1

pub returns-in-Enum-clause-seen : goal.returns-in-Enum-clause-seen
returns-in-Enum-clause-seen c = λ known v h.
    enum_same choices_in None c.args.order known v c.args.bytes.now c.in-Enum.field-0 c.in-Enum.field-1 refl (λ n. refl) (subst (λ k. Shows c.args.order known k v c.args.bytes.now) c.in-Enum.is h)

pub returns-in-Comp-clause-seen : goal.returns-in-Comp-clause-seen
returns-in-Comp-clause-seen c = λ known v h. ap choices_in (subst (λ k. Shows c.args.order known k v c.args.bytes.now) c.in-Comp.is h).1.1

pub returns-in-Const-clause-seen : goal.returns-in-Const-clause-seen
returns-in-Const-clause-seen c = λ known v h. ap choices_in (subst (λ k. Shows c.args.order known k v c.args.bytes.now) c.in-Const.is h).1
