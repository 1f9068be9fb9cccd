use Rattle.std.proofs.Common.{◌≡◌, Some, slice_get, sym, ap, ◌∙◌, subst}
use Rattle.bridge_rules.proofs.OptionLemmas.{some_is}
use Rattle.field_judge.specs.Fields.{fields_of}
use Rattle.field_judge.specs.Levels.{IsLevel}
use Rattle.field_blocks.specs.Blocks.{IsBlockOf}
use Rattle.field_blocks.specs.Wired.{IsWired}
use Rattle.back_levels.proofs.Wiring.{plan_wired}
use Rattle.sbe_translation.proofs.Translating.{block_back, mapped_to, plan, plan_numbered, values_there}
use Rattle.sbe_translation.proofs.translate.message_with.Goals as goal

pub returns-in-Ok : goal.returns-in-Ok
returns-in-Ok c = λ m text kind only is same none.
    let tree = c.args.tree.now in
    let level = only.level in
    let fields = fields_of c.args.fields.now in
    let p = plan m level tree is in
    let here : c.at-level.result.now ≡ level = some_is (sym c.at-level.ensures ∙ ap (λ ls. slice_get ls c.args.template) c.messages.ensures ∙ only.there) in
    let t = values_there m level tree is fields none in
    let rows = subst (λ levels. IsLevel levels p tree.root) (sym c.as_slice-levels.ensures.value) is.rows in
    let wired = subst (λ l. IsWired l p) (sym here) (plan_wired m is.structure level) in
    let block = subst (λ l. IsBlockOf l p t.0 c.in-Ok.block) here (c.in-Ok.ensures p t.0 rows (plan_numbered m level tree is) wired t.3 t.1) in
    record {
      template = mapped_to m c.args.checked.now.messages kind c.args.template only tree is;
      version = c.version.ensures;
      block = block_back m level tree is fields _ t.0 c.in-Ok.block same t.2 block;
    }
