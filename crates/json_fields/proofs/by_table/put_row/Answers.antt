use Rattle.std.proofs.Common.{refl, subst}
use Rattle.sbe_types.specs.declared.kind.Primitive.TheVariants as primitive
use Rattle.flat_rows.specs.Quick.{IsQuickAs}
use Rattle.json_fields.proofs.RowsText.{shown_at}
use Rattle.json_fields.proofs.by_table.put_row.Goals as goal

pub put_number-requires-clause-number : goal.put_number-requires-clause-number
put_number-requires-clause-number g c =
    let value = c.args.row.now.value in
    subst (λ l. IsQuickAs l value.quick value.kind) c.in-I8.is c.requires.row.quick

pub put_row_text-requires-clause-text : goal.put_row_text-requires-clause-text
put_row_text-requires-clause-text g c =
    let value = c.args.row.now.value in
    subst (λ l. IsQuickAs l value.quick value.kind) c.in-Text.is c.requires.row.quick

pub returns-in-Text : goal.returns-in-Text
returns-in-Text g c = shown_at c.args.row.now.value.kind c.bytes_of.ensures.value c.put_row_text.ensures

pub returns-in-Enum : goal.returns-in-Enum
returns-in-Enum g c = shown_at c.args.row.now.value.kind c.bytes_of-in-Enum.ensures.value c.put_row_name.ensures

pub returns-in-Other : goal.returns-in-Other
returns-in-Other g c = shown_at c.args.row.now.value.kind c.bytes_of-in-Other.ensures.value c.put_by_kind.ensures
