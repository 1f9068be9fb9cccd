use Rattle.std.proofs.Common.{subst, ap, refl}
use Rattle.std.specs.Prelude.{None}
use Rattle.sbe_types.specs.Shows.{Shows}
use Rattle.bridge_rules.specs.Members.{text_in}
use Rattle.value_texts.proofs.Values.{enum_same, set_is}
use Rattle.value_texts.proofs.seen.kind_text.Goals as goal

pub returns-in-Leaf-clause-text : goal.returns-in-Leaf-clause-text
returns-in-Leaf-clause-text c = λ order known v h. c.leaf_text.ensures.text order v (subst (λ k. Shows order known k v c.args.bytes.now) c.in-Leaf.is h).1

pub returns-in-Enum-clause-text : goal.returns-in-Enum-clause-text
returns-in-Enum-clause-text c = λ order known v h.
    enum_same text_in None order known v c.args.bytes.now c.in-Enum.field-0 c.in-Enum.field-1 refl (λ n. refl) (subst (λ k. Shows order known k v c.args.bytes.now) c.in-Enum.is h)

pub returns-in-Set-clause-text : goal.returns-in-Set-clause-text
returns-in-Set-clause-text c = λ order known v h.
    ap text_in (set_is order known v c.args.bytes.now c.in-Set.field-0 c.in-Set.field-1 (subst (λ k. Shows order known k v c.args.bytes.now) c.in-Set.is h))

pub returns-in-Comp-clause-text : goal.returns-in-Comp-clause-text
returns-in-Comp-clause-text c = λ order known v h. ap text_in (subst (λ k. Shows order known k v c.args.bytes.now) c.in-Comp.is h).1.1

pub returns-in-Const-clause-text : goal.returns-in-Const-clause-text
returns-in-Const-clause-text c = λ order known v h. ap text_in (subst (λ k. Shows order known k v c.args.bytes.now) c.in-Const.is h).1
