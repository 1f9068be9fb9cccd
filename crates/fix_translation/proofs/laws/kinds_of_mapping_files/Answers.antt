use Rattle.fix_translation.proofs.MsgTypes.{read_kinds}
use Rattle.fix_translation.proofs.laws.kinds_of_mapping_files.Goals as goal

pub returns : goal.returns
returns c = λ bytes r h. read_kinds bytes r h
