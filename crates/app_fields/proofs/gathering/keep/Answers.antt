use Rattle.std.proofs.Common.{sym, ap, ◌++◌, ◌∷◌, [], ◌∙◌}
use Rattle.std.specs.Prelude.{◌||◌}
use Rattle.bridge_terms.specs.Plans.{is_in}
use Rattle.bridge_plan.specs.Covers.{length_tags}
use Rattle.field_judge.specs.Fields.{fields_of}
use Rattle.app_fields.proofs.Values.{kept_none, kept_one, nothing_added, one_more, same_field}
use Rattle.app_fields.proofs.gathering.keep.Goals as goal

pub returns-then-is_passed : goal.returns-then-is_passed
returns-then-is_passed c = λ f lists tag value same.
    let test = c.is_passed.ensures lists same ∙ ap (λ n. is_in n lists.header || is_in n (length_tags lists)) tag in
    sym (nothing_added (fields_of c.args.own.now.items)) ∙ ap (λ ys. fields_of c.args.own.now.items ++ ys) (sym (kept_none lists f c.is_passed.result test c.if-is_passed.true))

pub returns : goal.returns
returns c = λ f lists tag value same.
    let test = c.is_passed.ensures lists same ∙ ap (λ n. is_in n lists.header || is_in n (length_tags lists)) tag in
    let x = c.value_at.result in
    ap fields_of c.in_ok-push.ensures.items ∙ one_more c.args.own.now.items (record { tag = c.args.field.now.tag; text = x })
    ∙ ap (λ g. fields_of c.args.own.now.items ++ g ∷ []) (same_field c.args.field.now.tag x.now f tag (c.value_at.ensures ∙ value))
    ∙ ap (λ ys. fields_of c.args.own.now.items ++ ys) (sym (kept_one lists f c.is_passed.result test c.if-is_passed.false))
