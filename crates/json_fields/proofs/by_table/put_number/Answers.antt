use Rattle.std.proofs.Common.{ap, ◌∙◌, rules, FitsSigned}
use mir.Syntax.{w64}
use Rattle.std.proofs.lemmas.Int.{to_z-of_z}
use Rattle.sbe_types.specs.declared.kind.Order.TheVariants.{Little}
use Rattle.sbe_types.specs.Numbers.{number_of}
use Rattle.flat_rows.specs.BlockChecks.{bytes_there}
use Rattle.json_fields.proofs.RowsText.{word_written}
use Rattle.json_fields.proofs.by_table.put_number.Goals as goal

pub returns : goal.returns
returns g c =
    let row = c.args.row.now in
    let fits : FitsSigned w64 c.number_in-n.result = search rules in
    word_written row.kind c.args.prim row.quick (bytes_there row.kind row.place c.args.block.now) _ c.requires.word c.requires.number
    (to_z-of_z w64 c.number_in-n.result fits ∙ c.number_in-n.ensures ∙ ap (number_of Little c.args.prim) c.bytes_of.ensures.value) c.put_word.ensures
