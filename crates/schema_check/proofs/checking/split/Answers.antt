use Rattle.std.proofs.Common.{◌≡◌, List, [], ◌∷◌, ◌++◌, length, refl, sym, ap, ◌∙◌, append_assoc, append-nil, arith}
use Rattle.std.specs.Prelude.{flat_map}
use Rattle.std.specs.Vec.Iter.{into_iter_items}
use Rattle.sbe_types.specs.declared.tree.SchemaItem.{SchemaItem}
use Rattle.schema_rules.specs.Names.{types_in, messages_in}
use Rattle.schema_check.proofs.checking.split.Goals as goal

-- what the items give, with one more of them taken
taken : {A : Type 0} (f : SchemaItem → List A) (old new all : List A) (x : SchemaItem) (before after : List SchemaItem) → before ≡ x ∷ after →
    new ≡ old ++ f x → old ++ flat_map f before ≡ all → new ++ flat_map f after ≡ all
taken f old new all x before after steps more h =
    ap (λ ys. ys ++ flat_map f after) more ∙ append_assoc old (f x) (flat_map f after) ∙ ap (λ (xs : List SchemaItem). old ++ flat_map f xs) (sym steps) ∙ h

-- and with none left
ended : {A : Type 0} (f : SchemaItem → List A) (got all : List A) (left : List SchemaItem) → length left ≡ 0 → got ++ flat_map f left ≡ all → got ≡ all
ended f got all [] none h = sym (append-nil got) ∙ h
ended f got all (x ∷ left) none h = absurd (omega arith)

pub loop-item-preserved : goal.loop-item-preserved
loop-item-preserved c =
    let at = c.loop-item in
    let steps : into_iter_items at.item-iterator ≡ c.in-Some.item ∷ into_iter_items c.next.new.self = c.in-Some.ensures.steps.0 in
    record {
      types = taken types_in at.children.types.items c.in_ok-children.children.types.items _ c.in-Some.item _ _ steps c.in_ok-children.ensures.types at.invariant.types;
      messages = taken messages_in at.children.messages.items c.in_ok-children.children.messages.items _ c.in-Some.item _ _ steps c.in_ok-children.ensures.messages at.invariant.messages;
      count = let gone = c.in-Some.ensures.steps.1 in let was = at.invariant.count in let short = ap length steps in omega arith;
    }

pub returns : goal.returns
returns c =
    let at = c.loop-item in
    let none : length (into_iter_items at.item-iterator) ≡ 0 = sym at.invariant.count ∙ c.in-None.ensures.steps.0 in
    let all : into_iter_items c.into_iter-item-iterator.result ≡ c.args.items = c.into_iter-item-iterator.ensures.into_iter_gives.0 ∙ c.into_vec-item-items.ensures in
    record {
      types = ended types_in at.children.types.items _ (into_iter_items at.item-iterator) none at.invariant.types ∙ ap (flat_map types_in) all;
      messages = ended messages_in at.children.messages.items _ (into_iter_items at.item-iterator) none at.invariant.messages ∙ ap (flat_map messages_in) all;
    }
