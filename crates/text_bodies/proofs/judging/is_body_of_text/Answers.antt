use Rattle.std.proofs.Common.{rules, ◌≡◌, refl, sym, ◌∙◌, subst}
use Rattle.fix_messages.specs.Heads.{head_of}
use Rattle.text_bodies.proofs.Judged.{IsWrittenBy, body_is}
use Rattle.text_bodies.proofs.judging.is_body_of_text.Goals as goal

pub returns : goal.returns
returns g c = λ yes r by good.
    let schema = c.args.layout.now in
    let seen = c.in-Some.view in
    let limit = c.args.space.now.out.limit in
    let at : c.template.result ≡ c.args.template = search rules in
    let own : c.version.result ≡ schema.version = search rules in
    body_is g.R.PutValue.spells c.written_messages_are_those_of_their_texts.ensures schema c.args.template limit c.args.rows.now (head_of c.args.head.now) c.args.text.now c.args.body.now seen
    (record {
      checked = c.schema-schema.ensures.order;
      bytes = c.are_bytes.ensures;
      lies = c.in-Some.ensures.lies;
      there = c.in-Some.ensures.level;
      template_is = sym c.template.ensures ∙ at;
      version = sym c.version.ensures ∙ own;
      clean = c.is_clean_body.ensures yes;
    })
    (subst (IsWrittenBy g.R.PutValue.spells c.args.rows.now limit (head_of c.args.head.now) c.args.text.now) c.root-root.ensures (c.if-not-has_text.ensures refl))
    (c.if-not-is_few.ensures refl) (c.if-not-is_short.ensures refl) r by good
