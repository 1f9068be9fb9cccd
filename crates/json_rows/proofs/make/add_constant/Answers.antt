use Rattle.std.proofs.Common.{refl}
use Rattle.json_rows.specs.Texts.{constant_text}
use Rattle.json_rows.proofs.Growing.{bytes_added}
use Rattle.json_rows.proofs.make.add_constant.Goals as goal

pub returns : goal.returns
returns c = bytes_added c.args.table.now _ (constant_text c.args.constant.now) c.in_ok-put_constant.ensures refl refl
