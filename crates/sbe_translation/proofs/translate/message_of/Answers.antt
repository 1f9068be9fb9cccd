use Rattle.std.proofs.Common.{◌≡◌, sym, ap, ◌∙◌, subst}
use Rattle.std.specs.Prelude.{option_map}
use Rattle.bridge_terms.specs.WayBack.{back_refused}
use Rattle.field_judge.specs.Fields.{fields_of}
use Rattle.field_judge.specs.Levels.{IsLevel}
use Rattle.field_judge.specs.Refusals.{refusal_of}
use Rattle.sbe_translation.proofs.Translating.{mapped_to, plan, plan_numbered}
use Rattle.sbe_translation.proofs.translate.message_of.Goals as goal

pub returns-in-None : goal.returns-in-None
returns-in-None c = λ m fields kind only tags is text table.
    let p = plan m only.level c.args.tree.now is in
    let rows = subst (λ levels. IsLevel levels p c.args.tree.now.root) (sym c.as_slice-levels.ensures.value) is.rows in
    let told = c.in-Ok-first_refusal.ensures p rows (plan_numbered m only.level c.args.tree.now is) in
    let own = ap fields_of c.as_slice-fields.ensures.value ∙ c.in-Ok.ensures fields m.lists text table tags in
    c.message_with.ensures m fields kind only is own (sym told ∙ ap (option_map refusal_of) c.in-None.is)

pub returns : goal.returns
returns c = λ m fields kind only tags is text table.
    let p = plan m only.level c.args.tree.now is in
    let rows = subst (λ levels. IsLevel levels p c.args.tree.now.root) (sym c.as_slice-levels.ensures.value) is.rows in
    let told = c.in-Ok-first_refusal.ensures p rows (plan_numbered m only.level c.args.tree.now is) in
    let own = ap fields_of c.as_slice-fields.ensures.value ∙ c.in-Ok.ensures fields m.lists text table tags in
    record {
      number = c.args.template;
      template = mapped_to m c.args.checked.now.messages kind c.args.template only c.args.tree.now is;
      refused = sym (ap (back_refused p) own) ∙ sym told ∙ ap (option_map refusal_of) c.in-Some.is;
    }
