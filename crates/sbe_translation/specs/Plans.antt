-- Whose plans they are. Own profile.
use Rattle.std.specs.Prelude.{◌≡◌, ℕ, false, List, slice_get, Option, Some, None, ⊤, length}
use Rattle.sbe_types.specs.declared.schema.Level.{Level, out-Level}
use Rattle.tagvalue_codec.specs.Fields.{Field}
use Rattle.reference_graph.specs.Expansion.{Structure}
use Rattle.bridge_rules.specs.Rules.{Rule}
use Rattle.bridge_terms.specs.Plans.{Plan, all_tags, is_in}
use Rattle.bridge_plan.specs.CheckedLevels.{IsCovered}
use Rattle.bridge_plan.specs.Covers.{cover_of, covered_by, plan_of, uncovered}
use Rattle.bridge_plan.specs.Mappings.{Mapping, structure_for}
use Rattle.bridge_plan.specs.StructureFacts.{IsDistinct}
use Rattle.bridge_mapping.specs.Tables.{HaveSameTags}
use Rattle.message_plans.specs.Plans.{ArePlans}
use Rattle.field_judge.specs.Levels.{IsLevel}
use Rattle.back_levels.specs.declared.level.BackTree.{BackTree}
use Rattle.sbe_translation.specs.declared.plan.BackPlan.{BackPlan}
use Rattle.sbe_translation.specs.declared.plan.Covered.{Covered}
use Rattle.sbe_translation.specs.declared.plan.Planned.{Planned}

-- what is asked of a row if only coverage is asked: nothing
abbrev pub IsAny : Covered → Rule → Type 0
IsAny row rule = ⊤

-- whatever structure the mapping has for the template, if it covers the template, then with all that the laws ask
abbrev pub CoversAll : Mapping → Level → Type 0
CoversAll m level = (s : Structure) → structure_for m (out-Level level).semantic ≡ Some s → uncovered m s level ≡ None → IsCovered m s level

-- the levels are those of the plan of a covered template, in which no tag is 0
pub record IsTree (m : Mapping) (level : Level) (tree : BackTree) : Type 0 where
  pub structure : Structure
  pub mapped : structure_for m (out-Level level).semantic ≡ Some structure
  pub covered : IsCovered m structure level
  pub rows : IsLevel tree.levels.items (plan_of m structure level) tree.root
  pub numbered : is_in 0 (all_tags (plan_of m structure level)) ≡ false

-- they are, if there are any; else the mapping doesn't cover the template
abbrev pub IsTreeOf : Mapping → Level → Option BackTree → Type 0
IsTreeOf m level None = (p : Plan) → cover_of m level ≡ covered_by p → ⊥
IsTreeOf m level (Some tree) = IsTree m level tree

-- they are those of the templates with these levels
pub record AreTrees (m : Mapping) (levels : List Level) (trees : List (Option BackTree)) : Type 0 where
  pub many : length trees ≡ length levels
  pub each : (i : ℕ) (level : Level) (tree : Option BackTree) → slice_get levels i ≡ Some level → slice_get trees i ≡ Some tree → IsTreeOf m level tree

-- no tag is twice in the structure of a message, counts included
abbrev pub HasDistinct : Mapping → Type 0
HasDistinct m = (kind : List ℕ) (s : Structure) → structure_for m kind ≡ Some s → IsDistinct s

-- the plans are those of the templates with these levels, and so are their trees
pub record ArePlanned (m : Mapping) (levels : List Level) (planned : Planned) : Type 0 where
  pub plans : ArePlans IsAny m levels planned.plan
  pub trees : AreTrees m levels planned.trees

-- the same; the tags are the mapping's
pub record AreBackPlans (m : Mapping) (levels : List Level) (plan : BackPlan) : Type 0 where
  pub plans : ArePlans IsAny m levels plan.plan
  pub trees : AreTrees m levels plan.trees
  pub tags : HaveSameTags plan.tags m.lists

-- the MsgType of fields: the value of the third
pub record HasKind (fields : List Field) (kind : List ℕ) : Type 0 where
  pub third : Field
  pub there : slice_get fields 2 ≡ Some third
  pub value : third.value ≡ kind
