use Rattle.std.proofs.Common.{ap, ◌∙◌}
use Rattle.std.specs.List.{list_all}
use Rattle.json_rows.specs.Texts.{is_seen}
use Rattle.json_rows.proofs.Hex.{code_seen}
use Rattle.json_rows.proofs.texts.put_constant.Goals as goal

pub put_quoted-requires : goal.put_quoted-requires
put_quoted-requires c = ap (list_all is_seen) c.as_slice-in-Code.ensures ∙ code_seen c.args.constant.now c.in-Code.field-0 c.in-Code.named c.in-Code.is c.requires
