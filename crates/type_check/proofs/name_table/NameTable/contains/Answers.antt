use Rattle.std.proofs.Common.{◌∙◌, ap}
use Rattle.std.specs.List.{list_any}
use Rattle.std.specs.Str.{bytes_eq}
use Rattle.type_check.proofs.Seen.{any_seen}
use Rattle.type_check.proofs.name_table.NameTable.contains.Goals as goal

pub returns : goal.returns
returns c = c.contains.ensures ∙ any_seen (λ v. v.items) (bytes_eq c.args.name.now) c.self.inside.names.keys ∙ ap (list_any (bytes_eq c.args.name.now)) c.self.view_is
