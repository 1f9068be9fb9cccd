use Rattle.std.proofs.Common.{◌≡◌, sym, subst, ap, ◌∙◌}
use Rattle.json_data.specs.Trees.{data_of, members_of}
use Rattle.json_data.proofs.Levels.{of_object}
use Rattle.line_values.specs.Refusals.{Gives}
use Rattle.line_values.specs.Objects.{bytes_in, hex_in}
use Rattle.line_values.proofs.texts.read_bytes.Goals as goal

pub returns-in-Object : goal.returns-in-Object
returns-in-Object c =
    let opened : bytes_in (data_of c.args.found.now) ≡ hex_in (members_of c.in-Object.members.now) = ap (λ d. bytes_in (data_of d)) c.in-Object.is ∙ ap bytes_in (of_object c.in-Object.members) in
    subst (Gives c.read_hex.result) (sym opened) c.read_hex.ensures
