-- A checked schema is ready for the walk.
use Rattle.std.proofs.Common.{◌≡◌, List, [], ◌∷◌, length, suc, refl, ap, arith}
use Rattle.std.specs.List.{AllByRecursion}
use Rattle.sbe_types.specs.declared.kind.Kind.{Kind, Leaf, Enum, Set, Const, Comp', Row_of-Member, end_of-Member, more_of-Member, items-the_row-Member}
use Rattle.sbe_types.specs.declared.schema.Field.{Field}
use Rattle.sbe_types.specs.declared.schema.Level.{out-Level}
use Rattle.sbe_types.specs.declared.schema.WireSchema.{WireSchema}
use Rattle.schema_facts.specs.CheckedLevels.{HasKinds}
use Rattle.schema_facts.specs.InOrder.{IsKindInOrder, IsKindFrom, AreKindsFrom, names_in}
use Rattle.schema_facts.specs.IsChecked.{IsChecked}
use Rattle.schema_facts.specs.Levels.{Node, all_nodes}
use Rattle.body_walk.specs.inner.Kinds.{HasFewMembers, HaveFewMembers}
use Rattle.body_walk.specs.inner.Ready.{IsReadySchema}

names_long : (n : _) (row : Row_of-Member n) → length (names_in row) ≡ length (items-the_row-Member n row)
names_long n end_of-Member = refl
names_long n (more_of-Member name offset kind rest) = ap suc (names_long _ rest)

mutual
  few_kind : (kind : Kind) → IsKindFrom 1 kind → HasFewMembers kind
  few_kind (Leaf l) h = tt
  few_kind (Enum l names) h = tt
  few_kind (Set p names) h = tt
  few_kind (Const c) h = tt
  few_kind (Comp' n row) h = (omega (arith, h.few, names_long _ row), few_row _ row h.kinds)

  few_row : (n : _) (row : Row_of-Member n) → AreKindsFrom 1 row → HaveFewMembers row
  few_row n end_of-Member h = tt
  few_row n (more_of-Member name offset kind rest) h = (few_kind kind h.0, few_row _ rest h.1)

each : {X : Type 0} (P Q : X → Type 0) → ((x : X) → P x → Q x) → (xs : List X) → AllByRecursion P xs → AllByRecursion Q xs
each P Q to [] h = tt
each P Q to (x ∷ xs) h = (to x h.0, each P Q to xs h.1)

few_fields : (node : Node) → HasKinds node → AllByRecursion (λ (f : Field). HasFewMembers f.kind) (out-Level node.level).fields
few_fields node h = each (λ (f : Field). IsKindInOrder f.kind) (λ (f : Field). HasFewMembers f.kind) (λ f order. few_kind f.kind order.parts) (out-Level node.level).fields h.fields

pub ready_schema : (schema : WireSchema) → IsChecked schema → IsReadySchema schema
ready_schema schema h = record {
  checked = h;
  few = each HasKinds (λ (node : Node). AllByRecursion (λ (f : Field). HasFewMembers f.kind) (out-Level node.level).fields) few_fields (all_nodes schema) h.kinds.levels;
}
