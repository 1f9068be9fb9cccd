use Rattle.std.proofs.Common.{refl}
use Rattle.json_rows.specs.Texts.{key_of}
use Rattle.json_rows.proofs.Growing.{bytes_added}
use Rattle.json_rows.proofs.make.add_key.Goals as goal

pub returns : goal.returns
returns c = bytes_added c.args.table.now _ (key_of c.args.later c.args.name.now) c.in_ok-put_key.ensures refl refl
