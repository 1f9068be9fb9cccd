-- What the plans of a schema's templates say. Own profile.
use Rattle.std.specs.Prelude.{◌≡◌, ℕ, Bool, not, bytes_eq, List, [], ◌∷◌, map, length, slice_get, Some, None}
use Rattle.std.specs.List.{list_any, All}
use Rattle.sbe_types.specs.declared.schema.Level.{Level, out-Level}
use Rattle.reference_graph.specs.Expansion.{Structure}
use Rattle.bridge_rules.specs.Rules.{Rule}
use Rattle.bridge_plan.specs.Mappings.{Mapping, structure_for}
use Rattle.bridge_plan.specs.Covers.{cover_of, covered_by, no_message, plan_of, templates_of, uncovered, unmapped}
use Rattle.bridge_cover.specs.Kinds.{HasKindsInOrder}
use Rattle.message_walk.specs.declared.plan.PlanRow.{PlanRow}
use Rattle.message_walk.specs.Rows.{AreRows, Fits}
use Rattle.message_plans.specs.declared.plan.Cover.{Cover}
use Rattle.message_plans.specs.declared.plan.Cover.TheVariants as cover
use Rattle.message_plans.specs.declared.plan.Plan.{Plan}
use Rattle.message_plans.specs.declared.plan.Template.{Template}
use Rattle.message_plans.specs.declared.plan.Template.TheVariants as template
use Rattle.message_plans.specs.declared.plan.TemplatePlan.{TemplatePlan}

-- the kinds of the fields of each level are in order
abbrev pub AreInOrder : List Level → Type 0
AreInOrder levels = All HasKindsInOrder levels

-- ---- one template

-- the rows are those of the plan of a covered template; each translates the values of its field as the field's rule does
pub record IsMapped {R : Type 0} (follows : R → Rule → Type 0) (m : Mapping) (level : Level) (made : List (PlanRow R)) : Type 0 where
  pub structure : Structure
  pub mapped : structure_for m (out-Level level).semantic ≡ Some structure
  pub covered : uncovered m structure level ≡ None
  pub cover : cover_of m level ≡ covered_by (plan_of m structure level)
  pub rows : AreRows follows m.lists (plan_of m structure level) made
  pub fits : Fits (plan_of m structure level) (out-Level level).fields (out-Level level).groups (out-Level level).parts

-- it is what the mapping says of the template
abbrev pub IsCover : {R : Type 0} → (R → Rule → Type 0) → Mapping → Level → Cover R → Type 0
IsCover follows m level (cover.Mapped rows) = IsMapped follows m level rows.items
IsCover follows m level cover.NoMessage = cover_of m level ≡ no_message
IsCover follows m level (cover.Unmapped path) = cover_of m level ≡ unmapped path

-- the template has this MsgType
abbrev pub has_kind : List ℕ → Level → Bool
has_kind kind level = bytes_eq (out-Level level).semantic kind

-- the template, which others follow, with what the mapping says of it
pub record IsTemplate {R : Type 0} (follows : R → Rule → Type 0) (m : Mapping) (level : Level) (others : List Level) (t : TemplatePlan R) : Type 0 where
  pub kind : t.msg_type ≡ (out-Level level).semantic
  pub alone : t.alone ≡ not (list_any (has_kind (out-Level level).semantic) others)
  pub cover : IsCover follows m level t.cover

-- ---- all templates

-- the templates of these levels
abbrev pub AreTemplates : {R : Type 0} → (R → Rule → Type 0) → Mapping → List Level → List (TemplatePlan R) → Type 0
AreTemplates {R} follows m [] ts = ts ≡ []
AreTemplates {R} follows m (l ∷ ls) ts =
    (t : TemplatePlan R) × (others : List (TemplatePlan R)) × (ts ≡ t ∷ others) × IsTemplate follows m l ls t × AreTemplates follows m ls others

-- how many templates there are
abbrev pub templates : {R : Type 0} → Plan R → ℕ
templates plan = length plan.templates

-- the plans are those of the templates with these levels, by the mapping
pub record ArePlans {R : Type 0} (follows : R → Rule → Type 0) (m : Mapping) (levels : List Level) (plan : Plan R) : Type 0 where
  pub kinds : plan.kinds ≡ map (λ (l : Level). (out-Level l).semantic) levels
  pub templates : AreTemplates follows m levels plan.templates
  pub many : length plan.templates ≡ length levels

-- ---- the template of a MsgType

-- the only template that has it
pub record IsOnly (kind : List ℕ) (levels : List Level) (i : ℕ) : Type 0 where
  pub level : Level
  pub there : slice_get levels i ≡ Some level
  pub only : templates_of kind levels ≡ level ∷ []

-- two of those that have it
pub record AreSeveral (kind : List ℕ) (levels : List Level) : Type 0 where
  pub first : Level
  pub second : Level
  pub others : List Level
  pub several : templates_of kind levels ≡ first ∷ (second ∷ others)

-- it tells which templates have the MsgType
abbrev pub IsTemplateOf : List ℕ → List Level → Template → Type 0
IsTemplateOf kind levels template.Unknown = templates_of kind levels ≡ []
IsTemplateOf kind levels template.Several = AreSeveral kind levels
IsTemplateOf kind levels (template.One i) = IsOnly kind levels i
