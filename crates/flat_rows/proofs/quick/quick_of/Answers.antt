use Rattle.flat_rows.proofs.quick.quick_of.Goals as goal

pub returns-in-Enum : goal.returns-in-Enum
returns-in-Enum c = (_, _, c.in-Enum.is)
