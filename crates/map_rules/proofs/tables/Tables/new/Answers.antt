use Rattle.map_rules.proofs.tables.Tables.new.Goals as goal

pub returns : goal.returns
returns c = λ j. record { datatypes = c.in_ok-datatypes.ensures j; code_sets = c.in_ok-code_sets.ensures j; lengths = c.in_ok-lengths.ensures j }
