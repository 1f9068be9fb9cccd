use Rattle.std.proofs.Common.{◌∙◌, ap₂, rules, FitsSigned}
use mir.Syntax.{w128}
use Rattle.std.proofs.lemmas.Int.{to_z-of_z}
use Rattle.sbe_types.specs.declared.kind.Order.TheVariants.{Little}
use Rattle.json_values.specs.Plain.{plain_text}
use Rattle.json_fields.specs.Shown.{enum_shown}
use Rattle.printers.proofs.Printing.{reprinted}
use Rattle.json_fields.proofs.FromBytes.{enum_written, written_as}
use Rattle.json_fields.proofs.by_table.put_name.Goals as goal

pub returns-in-Enum : goal.returns-in-Enum
returns-in-Enum g c =
    let fits : FitsSigned w128 c.get_num-number.result = search rules in
    let number = to_z-of_z w128 c.get_num-number.result fits ∙ c.get_num-number.ensures in
    let written = reprinted (ap₂ (λ names n. plain_text (enum_shown c.in-Enum.leaf names n)) c.as_slice.ensures number) c.put_listed.ensures in
    written_as Little c.args.kind.now _ c.args.bytes.now c.in-Enum.is (enum_written Little c.in-Enum.leaf c.in-Enum.names c.args.bytes.now written)
