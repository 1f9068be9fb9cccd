use Rattle.json_rows.proofs.codes.codes_of.Goals as goal

pub returns-in-Leaf : goal.returns-in-Leaf
returns-in-Leaf c = c.no_codes.ensures _
