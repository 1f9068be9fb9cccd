use Rattle.std.proofs.Common.{◌∙◌, rules, FitsSigned}
use mir.Syntax.{w128}
use Rattle.std.proofs.lemmas.Int.{to_z-of_z}
use Rattle.flat_rows.proofs.ValidBytes.{byte_noted}
use Rattle.flat_rows.proofs.bytes.note.Goals as goal

pub returns-in-Some-clause-noted : goal.returns-in-Some-clause-noted
returns-in-Some-clause-noted c =
    let fits : FitsSigned w128 c.args.number = search rules in
    byte_noted _ _ _ c.requires c.in-Some.ensures.small (c.in-Some.ensures.some ∙ to_z-of_z w128 c.args.number fits)
