use Rattle.std.proofs.Common.{sym, ap, subst, ◌∙◌, ◌≡◌, ◌<◌, ◌^◌, true, rules, FitsSigned}
use Rattle.std.specs.Int.{w128}
use Rattle.std.proofs.lemmas.Int.{to_z-of_z}
use Rattle.sbe_types.specs.Numbers.{natural}
use Rattle.fix_values.specs.Values.{can_read, value_of}
use Rattle.text_values.specs.Sets.{is_set}
use Rattle.text_values.proofs.SetBits.{word_read}
use Rattle.text_values.proofs.reading.ChoiceReading.bits.Goals as goal

pub bits_of-requires : goal.bits_of-requires
bits_of-requires c =
    let can : can_read c.self.inside.rule ≡ true = search rules in
    let set : is_set c.self.inside.rule ≡ true = search rules in
    let fits : FitsSigned w128 c.in-Ok.n = search rules in
    let small = word_read c.self.inside.rule c.args.text.now c.in-Ok.n can set c.requires
    (ap (λ l. value_of c.self.inside.rule l c.args.text.now) (sym c.every_number.ensures) ∙ sym c.read_num.ensures ∙ c.in-Ok.is) in
    record { small = subst (λ n. natural n < 2 ^ 64) (sym (to_z-of_z w128 c.in-Ok.n fits)) small }
