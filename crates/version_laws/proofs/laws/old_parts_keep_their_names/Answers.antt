use Rattle.version_laws.proofs.Tests.{schema_stands}
use Rattle.version_laws.proofs.Names.{same_names}
use Rattle.version_laws.proofs.laws.old_parts_keep_their_names.Goals as goal

pub returns : goal.returns
returns c = λ old new h i level at. let m = (schema_stands old new h).messages i level at in (m.0, m.1, same_names _ old.version level m.0.1 m.2)
