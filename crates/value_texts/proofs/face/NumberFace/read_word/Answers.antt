use Rattle.std.proofs.Common.{◌≡◌, ◌∙◌, length, ap, subst, sym, rules, FitsSigned}
use Rattle.std.specs.Int.{w64}
use Rattle.std.proofs.lemmas.Int.{to_z-of_z}
use Rattle.sbe_types.specs.declared.kind.Order.TheVariants.{Little}
use Rattle.sbe_types.specs.Numbers.{number_of, prim_width}
use Rattle.value_texts.specs.Faces.{found_by, is_read}
use Rattle.value_texts.proofs.Faces.{found_is, word_read}
use Rattle.value_texts.proofs.face.NumberFace.read_word.Goals as goal

pub returns : goal.returns
returns c =
    let q = c.args.self.now in
    let bytes = c.args.bytes.now in
    let wide : length bytes ≡ prim_width c.args.prim = search rules in
    let n = c.number_in-n.result in
    let fits : FitsSigned w64 n = search rules in
    found_is q bytes c.found.result n (record { read = ap is_read c.requires.same ∙ word_read c.args.prim c.requires.word; wide = wide ∙ ap prim_width (sym c.requires.same) })
    (c.number_in-n.ensures ∙ ap (λ p. number_of Little p bytes) (sym c.requires.same)) (subst (λ m. c.found.result ≡ found_by q m) (to_z-of_z w64 n fits) c.found.ensures)
