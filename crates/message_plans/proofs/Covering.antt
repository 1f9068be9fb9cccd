-- What the mapping says of a template, by its structure.
use Rattle.std.proofs.Common.{◌≡◌, ℕ, suc, List, [], ◌∷◌, Option, Some, None, refl, sym, ap, ◌∙◌}
use Rattle.std.specs.Prelude.{option_map, slice_get}
use Rattle.std.specs.List.{AllByRecursion}
use Rattle.std.proofs.lemmas.List.Elements.{All-from_recursion}
use Rattle.std.proofs.lemmas.Option.{same_Some}
use Rattle.sbe_types.specs.declared.schema.WireSchema.{WireSchema}
use Rattle.schema_facts.specs.IsChecked.{IsChecked}
use Rattle.structure_rows.specs.declared.row.PlaceRow.{PlaceRow}
use Rattle.structure_rows.specs.Rows.{rows_of}
use Rattle.bridge_cover.specs.Kinds.{HasKindsInOrder}
use Rattle.bridge_cover.proofs.Kinded.{message_kinds}
use Rattle.sbe_types.specs.declared.schema.Level.{Level, out-Level}
use Rattle.reference_graph.specs.Expansion.{Structure}
use Rattle.bridge_rules.specs.Rules.{Rule}
use Rattle.bridge_plan.specs.Mappings.{Mapping, structure_for}
use Rattle.bridge_plan.specs.Covers.{cover_by, cover_in, cover_of, no_message, plan_of, uncovered, unmapped}
use Rattle.message_walk.specs.declared.plan.PlanRow.{PlanRow}
use Rattle.message_walk.specs.Rows.{AreRows}
use Rattle.plan_rows.proofs.Fitting.{plan_fits}
use Rattle.message_plans.specs.Plans.{AreInOrder, IsMapped}

pub without_message : (m : Mapping) (level : Level) → structure_for m (out-Level level).semantic ≡ None → cover_of m level ≡ no_message
without_message m level h = ap (cover_in m level) h

by_structure : (m : Mapping) (level : Level) (s : Structure) → structure_for m (out-Level level).semantic ≡ Some s → cover_of m level ≡ cover_by m s level (uncovered m s level)
by_structure m level s h = ap (cover_in m level) h

pub with_path : (m : Mapping) (level : Level) (s : Structure) (path : List (List ℕ)) → structure_for m (out-Level level).semantic ≡ Some s → uncovered m s level ≡ Some path → cover_of m level ≡ unmapped path
with_path m level s path h is = by_structure m level s h ∙ ap (cover_by m s level) is

pub mapped : {R : Type 0} (follows : R → Rule → Type 0) (m : Mapping) (level : Level) (s : Structure) (rows : List (PlanRow R)) → structure_for m (out-Level level).semantic ≡ Some s → uncovered m s level ≡ None →
    AreRows follows m.lists (plan_of m s level) rows → IsMapped follows m level rows
mapped follows m level s rows h none are = record {
  structure = s;
  mapped = h;
  covered = none;
  cover = by_structure m level s h ∙ ap (cover_by m s level) none;
  rows = are;
  fits = plan_fits m s level;
}

-- ---- the structure of a message that is looked for

none_of : (o : Option Structure) → None ≡ option_map rows_of o → o ≡ None
none_of None h = refl
none_of (Some s) h = cc

some_of_rows : (o : Option Structure) (rows : List PlaceRow) → Some rows ≡ option_map rows_of o → (s : Structure) × (o ≡ Some s) × (rows ≡ rows_of s)
some_of_rows None rows h = cc
some_of_rows (Some s) rows h = (s, refl, same_Some rows (rows_of s) h)

-- what was found of a message, by its MsgType
pub no_message_found : (m : Mapping) (level : Level) (kind : List ℕ) (found : Option (List PlaceRow)) → kind ≡ (out-Level level).semantic → found ≡ option_map rows_of (structure_for m kind) → found ≡ None →
    cover_of m level ≡ no_message
no_message_found m level kind found same is none =
    without_message m level (ap (structure_for m) (sym same) ∙ none_of (structure_for m kind) (sym none ∙ is))

pub structure_found : (m : Mapping) (level : Level) (kind : List ℕ) (found : Option (List PlaceRow)) (rows : List PlaceRow) → kind ≡ (out-Level level).semantic →
    found ≡ option_map rows_of (structure_for m kind) → found ≡ Some rows → (s : Structure) × (structure_for m (out-Level level).semantic ≡ Some s) × (rows ≡ rows_of s)
structure_found m level kind found rows same is some =
    let own = some_of_rows (structure_for m kind) rows (sym some ∙ is) in
    (own.0, ap (structure_for m) (sym same) ∙ own.1, own.2)

-- ---- the levels of a checked schema

all_by : {X : Type 0} (P : X → Type 0) (xs : List X) → ((i : ℕ) (x : X) → slice_get xs i ≡ Some x → P x) → AllByRecursion P xs
all_by P [] f = tt
all_by P (x ∷ xs) f = (f 0 x refl, all_by P xs (λ i y h. f (suc i) y h))

pub levels_in_order : (schema : WireSchema) → IsChecked schema → AreInOrder schema.messages
levels_in_order schema checked = All-from_recursion HasKindsInOrder schema.messages (all_by HasKindsInOrder schema.messages (λ i level at. message_kinds schema i level checked at))
