use Rattle.std.proofs.Common.{option_map, ap, ◌∙◌, sym, arith}
use Rattle.bridge_terms.specs.Gathering.{value_found}
use Rattle.field_judge.specs.Heads.{located, slot_head}
use Rattle.field_blocks.proofs.Rows.{none_row, slot_reads, some_held, some_row, text_is, value_group}
use Rattle.field_blocks.proofs.reading.read_slot.Goals as goal

pub text_before-requires : goal.text_before-requires
text_before-requires c =
    let at = some_held c.row_of.result _ c.in-Some.found c.in-Some.is c.row_of.ensures.place in
    omega (arith, at.1, c.requires.within at.0)

pub returns-in_default : goal.returns-in_default
returns-in_default c = λ levels p k s found at same. none_row c.row_of.result _ c.in_default.is (c.row_of.ensures.row levels p k (slot_head s) found.rows at same)

pub returns-in-Value : goal.returns-in-Value
returns-in-Value c = λ levels p k s found at same.
    let row = some_row c.row_of.result _ c.in-Some.found c.in-Some.is (c.row_of.ensures.row levels p k (slot_head s) found.rows at same) in
    let reads = slot_reads levels s c.in-Some.found.row.now c.in-Value.value row.0 c.in-Value.is in
    let place = ap (located (slot_head s) c.args.fields.now) row.1 ∙ found.located k (slot_head s) at in
    ap (value_found s.rule) (text_is p s c.args.fields.now c.in-Some.found.place (option_map (λ t. t.now) c.text_before.result) place (c.text_before.ensures (slot_head s)))
    ∙ c.read_value.ensures s.rule reads

pub returns-in-Group : goal.returns-in-Group
returns-in-Group c = λ levels p k s found at same.
    let row = some_row c.row_of.result _ c.in-Some.found c.in-Some.is (c.row_of.ensures.row levels p k (slot_head s) found.rows at same) in
    value_group (sym row.0.is ∙ c.in-Group.is)
