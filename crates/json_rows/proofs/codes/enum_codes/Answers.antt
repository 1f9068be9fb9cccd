use Rattle.json_rows.proofs.codes.enum_codes.Goals as goal

pub returns-else-is_byte : goal.returns-else-is_byte
returns-else-is_byte c = c.no_codes.ensures _
