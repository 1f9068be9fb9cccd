use Rattle.std.proofs.Common.{Bool, sym, ◌∙◌, subst}
use Rattle.std.proofs.lemmas.Slice.Eq.{bytes_eq-Decides}
use Rattle.bridge_terms.specs.Blocks.{values_of}
use Rattle.bridge_terms.specs.Places.{places_of}
use Rattle.fix_messages.specs.Heads.{head_of}
use Rattle.fix_messages.specs.Texts.{IsTextPut}
use Rattle.text_match.proofs.Whole.{text_is}
use Rattle.text_match.proofs.matching.has_text.Goals as goal

pub returns : goal.returns
returns g c = λ told lists p rows fits.
    let limit = c.args.out.now.limit in
    let kind = c.args.template.now.msg_type.now in
    let head = head_of c.args.head.now in
    let all = places_of p (values_of p c.args.root.now.block) in
    let d = c.write_text.new.out in
    let h = c.write_text.new.halt in
    let put = subst (λ (b : Bool). IsTextPut lists limit kind head all b d h) c.if-not-write_text.false (c.write_text.ensures.text lists p rows fits) in
    text_is lists limit kind head all d h c.bytes.result.now c.args.text.now put c.bytes.ensures ((bytes_eq-Decides c.bytes.result.now c.args.text.now).0 (sym c.eq.ensures ∙ told))
