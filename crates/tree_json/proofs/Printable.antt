-- The levels of a checked schema are printable.
use Rattle.std.proofs.Common.{◌≡◌, ◌+◌, ◌<◌, ℕ, zero, suc, List, [], ◌∷◌, ◌++◌, Option, None, Some, length, get_or, drop, refl, sym, ap, subst, arith}
use Rattle.std.specs.Prelude.{slice_get}
use Rattle.std.specs.List.{AllByRecursion}
use Rattle.sbe_types.specs.declared.kind.Member.{Member}
use Rattle.sbe_types.specs.declared.schema.Field.{Field}
use Rattle.sbe_types.specs.declared.schema.Group.{Group, out-Group}
use Rattle.sbe_types.specs.declared.schema.Level.{Level, out-Level}
use Rattle.sbe_types.specs.declared.schema.WireSchema.{WireSchema}
use Rattle.schema_facts.specs.CheckedLevels.{HasKinds}
use Rattle.schema_facts.specs.InOrder.{IsKindInOrder}
use Rattle.schema_facts.specs.IsChecked.{IsChecked}
use Rattle.schema_facts.specs.Levels.{Node, node, nodes, nodes_from, all_nodes}
use Rattle.schema_facts.specs.Measured.{AreNarrowFields, AreMeasured}
use Rattle.schema_facts.proofs.LevelForms.{holds_below}
use Rattle.tree_json.specs.Texts.{AreGroupsPrintable, IsPrintable, IsPrintableNode}

-- what is known of a printable level
pub record PrintableParts (level : Level) : Type 0 where
  pub kinds : AllByRecursion (λ (f : Field). IsKindInOrder f.kind) (out-Level level).fields
  pub narrow : AreNarrowFields 0 (out-Level level).fields
  pub groups : AreGroupsPrintable (out-Level level).groups

groups_are : (t : ℕ) (gs : List Group) → AllByRecursion (λ g. AllByRecursion IsPrintableNode (nodes t (Some (out-Group g).dim) (out-Group g).level)) gs → AreGroupsPrintable gs
groups_are t [] h = tt
groups_are t (g ∷ gs) h = (record { template = t; dim = Some (out-Group g).dim; nodes_are = h.0 }, groups_are t gs h.1)

pub level_parts : (level : Level) → IsPrintable level → PrintableParts level
level_parts level h =
    let below = holds_below IsPrintableNode h.template h.dim level h.nodes_are in
    record { kinds = below.0.kinds; narrow = below.0.narrow; groups = groups_are h.template (out-Level level).groups below.1 }

both_are : (ns : List Node) → AllByRecursion HasKinds ns → AreMeasured ns → AllByRecursion IsPrintableNode ns
both_are [] h k = tt
both_are (n ∷ ns) h k = (record { kinds = h.0.fields; narrow = k.0.fields }, both_are ns h.1 k.1)

all_front : (P : Node → Type 0) (xs ys : List Node) → AllByRecursion P (xs ++ ys) → AllByRecursion P xs
all_front P [] ys h = tt
all_front P (x ∷ xs) ys h = (h.0, all_front P xs ys h.1)

all_back : (P : Node → Type 0) (xs ys : List Node) → AllByRecursion P (xs ++ ys) → AllByRecursion P ys
all_back P [] ys h = h
all_back P (x ∷ xs) ys h = all_back P xs ys h.1

messages_are : (t : ℕ) (levels : List Level) → AllByRecursion IsPrintableNode (nodes_from t levels) → AllByRecursion IsPrintable levels
messages_are t [] h = tt
messages_are t (level ∷ levels) h =
    let here = nodes t None level in
    let rest = nodes_from (suc t) levels in
    (record { template = t; dim = None; nodes_are = all_front IsPrintableNode here rest h }, messages_are (suc t) levels (all_back IsPrintableNode here rest h))

pub checked_is_printable : (schema : WireSchema) → IsChecked schema → AllByRecursion IsPrintable schema.messages
checked_is_printable schema h = messages_are 0 schema.messages (both_are (all_nodes schema) h.kinds.levels h.measured.levels)
