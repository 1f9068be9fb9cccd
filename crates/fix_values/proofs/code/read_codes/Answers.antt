use Rattle.std.proofs.Common.{◌∙◌, ap, arith, Ok}
use Rattle.fix_values.proofs.NumeralLemmas.{widen_is}
use Rattle.fix_values.proofs.TableLemmas.{bytes_small, set_misspelled, set_unknown, set_read}
use Rattle.fix_values.proofs.code.read_codes.Goals as goal

pub returns-then-not-mark_characters : goal.returns-then-not-mark_characters
returns-then-not-mark_characters c =
    let bytes = bytes_small c.args.text.now (λ i. omega (arith, c.type_inv.text i)) in
    set_misspelled c.args.codes.now c.args.text.now c.mark_characters.result bytes c.mark_characters.ensures.spelled c.if-not-mark_characters.true

pub returns-then-not-are_characters_marked : goal.returns-then-not-are_characters_marked
returns-then-not-are_characters_marked c =
    let bytes = bytes_small c.args.text.now (λ i. omega (arith, c.type_inv.text i)) in
    set_unknown c.args.codes.now c.args.text.now c.mark_characters.result c.are_characters_marked.result _ bytes c.requires c.mark_characters.ensures.spelled c.if-not-mark_characters.false
    c.mark_codes-n.ensures.marks c.are_characters_marked.ensures c.if-not-are_characters_marked.true

pub returns : goal.returns
returns c =
    let bytes = bytes_small c.args.text.now (λ i. omega (arith, c.type_inv.text i)) in
    ap Ok (widen_is c.mark_codes-n.result c.mark_codes-n.ensures.small)
    ∙ set_read c.args.codes.now c.args.text.now c.mark_characters.result c.are_characters_marked.result _ _ _ bytes c.requires c.mark_characters.ensures.spelled c.if-not-mark_characters.false
    c.if-not-mark_characters.ensures.marks c.mark_codes-n.ensures.marks c.are_characters_marked.ensures c.if-not-are_characters_marked.false c.mark_codes-n.ensures.sum
