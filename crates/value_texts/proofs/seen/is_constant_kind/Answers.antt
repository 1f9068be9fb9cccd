use Rattle.std.proofs.Common.{subst, ap, refl, false}
use Rattle.sbe_types.specs.Shows.{Shows}
use Rattle.bridge_rules.specs.Members.{is_const}
use Rattle.value_texts.proofs.Values.{enum_same, leaf_same, set_is}
use Rattle.value_texts.proofs.seen.is_constant_kind.Goals as goal

pub returns-in-Const : goal.returns-in-Const
returns-in-Const c = λ order known v b h. ap is_const (subst (λ k. Shows order known k v b) c.in-Const.is h).1

pub returns-in-Leaf : goal.returns-in-Leaf
returns-in-Leaf c = λ order known v b h.
    leaf_same is_const false (record { null = refl; number = λ n. refl; text = λ t. refl; array = λ es. refl }) order c.in-Leaf.field-0.shape c.in-Leaf.field-0 v b
    (subst (λ k. Shows order known k v b) c.in-Leaf.is h).1

pub returns-in-Enum : goal.returns-in-Enum
returns-in-Enum c = λ order known v b h.
    enum_same is_const false order known v b c.in-Enum.field-0 c.in-Enum.field-1 refl (λ n. refl) (subst (λ k. Shows order known k v b) c.in-Enum.is h)

pub returns-in-Set : goal.returns-in-Set
returns-in-Set c = λ order known v b h. ap is_const (set_is order known v b c.in-Set.field-0 c.in-Set.field-1 (subst (λ k. Shows order known k v b) c.in-Set.is h))

pub returns-in-Comp : goal.returns-in-Comp
returns-in-Comp c = λ order known v b h. ap is_const (subst (λ k. Shows order known k v b) c.in-Comp.is h).1.1
