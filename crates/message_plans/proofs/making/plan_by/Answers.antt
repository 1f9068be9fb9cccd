use Rattle.std.proofs.Common.{◌≡◌, List, map, sym, ap, ◌∙◌, subst}
use Rattle.sbe_types.specs.declared.schema.Level.{Level, out-Level}
use Rattle.map_types.specs.Trees.{members_of}
use Rattle.bridge_mapping.specs.Mapped.{mapping_of}
use Rattle.message_plans.specs.Plans.{AreInOrder, AreTemplates}
use Rattle.message_plans.proofs.Covering.{levels_in_order}
use Rattle.message_plans.proofs.Kinded.{as_many}
use Rattle.message_plans.proofs.making.plan_by.Goals as goal

pub templates_by-requires : goal.templates_by-requires
templates_by-requires g c =
    let levels : c.as_slice-levels.result.now ≡ c.args.checked.now.messages = c.as_slice-levels.ensures ∙ ap (λ s. s.messages) c.schema.ensures.schema in
    record { kept = c.requires.kept; order = subst AreInOrder (sym levels) (levels_in_order c.args.checked.now c.schema.ensures.order) }

pub returns : goal.returns
returns g c = λ h.
    let m = mapping_of (members_of c.args.repository.now) in
    let follows = g.R.RuleRow.follows_rule in
    let all : List Level = c.args.checked.now.messages in
    let levels : c.as_slice-levels.result.now ≡ all = c.as_slice-levels.ensures ∙ ap (λ s. s.messages) c.schema.ensures.schema in
    let templates : AreTemplates follows m all c.in_ok-templates.templates =
    subst (λ ls. AreTemplates follows m ls c.in_ok-templates.templates) levels (c.in_ok-templates.ensures h) in
    record {
      kinds = c.in_ok-kinds.ensures ∙ c.in_ok-names.ensures ∙ ap (map (λ (l : Level). (out-Level l).semantic)) levels;
      templates = templates;
      many = as_many follows m all c.in_ok-templates.templates templates;
    }
