-- The levels of the templates that a mapping covers.
use Rattle.std.proofs.Common.{◌≡◌, inl, inr, ℕ, List, [], ◌∷◌, ◌++◌, length, slice_get, Option, Some, None, Result, Ok, refl, sym, ap, ◌∙◌, subst}
use Rattle.std.specs.Prelude.{option_map, IfOk}
use Rattle.sbe_types.specs.declared.schema.Level.{Level, out-Level}
use Rattle.sbe_types.specs.declared.schema.WireSchema.{WireSchema}
use Rattle.schema_facts.specs.IsChecked.{IsChecked}
use Rattle.reference_graph.specs.Expansion.{Structure}
use Rattle.structure_rows.specs.declared.row.PlaceRow.{PlaceRow}
use Rattle.structure_rows.specs.Rows.{rows_of}
use Rattle.bridge_rules.proofs.OptionLemmas.{none_some, some_is}
use Rattle.bridge_terms.specs.Plans.{Plan}
use Rattle.bridge_plan.specs.CheckedLevels.{HasShortCodes}
use Rattle.bridge_plan.specs.Covers.{cover_by, cover_in, cover_of, covered_by, no_message, plan_of, uncovered, unmapped}
use Rattle.bridge_plan.specs.Mappings.{Mapping, structure_for}
use Rattle.bridge_plan.proofs.SchemaGives.{checked_covered}
use Rattle.field_blocks.proofs.Lists.{got_within, pushed}
use Rattle.back_levels.specs.declared.level.BackTree.{BackTree}
use Rattle.sbe_translation.specs.Plans.{CoversAll, HasDistinct, IsTreeOf}

pub ok_held : {X E : Type 0} (r : Result X E) (P : X → Type 0) (x : X) → r ≡ Ok x → IfOk r P → P x
ok_held r P x is h = subst (λ r. IfOk r P) is h

-- ---- what the mapping says of a template

-- a template that a structure covers has the plan by it
pub covered_as : (m : Mapping) (level : Level) (s : Structure) → structure_for m (out-Level level).semantic ≡ Some s → uncovered m s level ≡ None
    → cover_of m level ≡ covered_by (plan_of m s level)
covered_as m level s mapped none = ap (cover_in m level) mapped ∙ ap (cover_by m s level) none

pub none_mapped : (m : Mapping) (level : Level) → cover_of m level ≡ no_message → (p : Plan) → cover_of m level ≡ covered_by p → ⊥
none_mapped m level is p h = never (sym is ∙ h)
  where
    never : no_message ≡ covered_by p → ⊥
    never k = cc

pub part_unmapped : (m : Mapping) (level : Level) (path : List (List ℕ)) → cover_of m level ≡ unmapped path → (p : Plan) → cover_of m level ≡ covered_by p → ⊥
part_unmapped m level path is p h = never (sym is ∙ h)
  where
    never : unmapped path ≡ covered_by p → ⊥
    never k = cc

-- the rows that are found for the MsgType are the structure's
pub rows_there : (m : Mapping) (level : Level) (kind : List ℕ) (s : Structure) (found : Option (List PlaceRow)) → kind ≡ (out-Level level).semantic
    → found ≡ option_map rows_of (structure_for m kind) → structure_for m (out-Level level).semantic ≡ Some s → found ≡ Some (rows_of s)
rows_there m level kind s found same is mapped = is ∙ ap (λ k. option_map rows_of (structure_for m k)) same ∙ ap (option_map rows_of) mapped

-- ---- templates of a checked schema

-- structures in which no tag is twice cover its templates with all that the laws ask
pub covers_all : (schema : WireSchema) (m : Mapping) (i : ℕ) (level : Level) → IsChecked schema → HasShortCodes m
    → HasDistinct m → slice_get schema.messages i ≡ Some level → CoversAll m level
covers_all schema m i level checked short distinct at = λ s mapped none.
    checked_covered schema m s i level checked short (distinct (out-Level level).semantic s mapped) at none

-- ---- one after another

-- the trees so far are those of their templates
abbrev pub AreSoFar : Mapping → List Level → List (Option BackTree) → Type 0
AreSoFar m levels trees = (i : ℕ) (level : Level) (tree : Option BackTree) → slice_get levels i ≡ Some level → slice_get trees i ≡ Some tree → IsTreeOf m level tree

pub none_yet : (m : Mapping) (levels : List Level) (trees : List (Option BackTree)) → trees ≡ [] → AreSoFar m levels trees
none_yet m levels trees none = λ i level tree at there. none_some (sym (ap (λ ts. slice_get ts i) none) ∙ there)

pub one_tree_more : (m : Mapping) (levels : List Level) (trees : List (Option BackTree)) (own : Option BackTree) (i : ℕ) (level : Level) → length trees ≡ i
    → slice_get levels i ≡ Some level → IsTreeOf m level own → AreSoFar m levels trees → AreSoFar m levels (trees ++ own ∷ [])
one_tree_more m levels trees own i level many here new held = λ j other tree at there. elim (pushed trees own i j many (got_within (trees ++ own ∷ []) j tree there)) [
  | inl a ↦ held j other tree at (sym a.1 ∙ there)
  | inr b ↦
      let same_level : level ≡ other = some_is (sym here ∙ ap (slice_get levels) (sym b.0) ∙ at) in
      let same_tree : own ≡ tree = some_is (sym b.1 ∙ there) in
      subst (IsTreeOf m other) same_tree (subst (λ l. IsTreeOf m l own) same_level new)
]
