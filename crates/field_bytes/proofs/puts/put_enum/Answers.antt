use mir.Syntax.{w128}
use Rattle.std.proofs.Common.{sym, ap, ◌∙◌, rules, FitsSigned}
use Rattle.std.proofs.lemmas.Int.{to_z-of_z}
use Rattle.sbe_wire.specs.Misfit.{enum_misfit}
use Rattle.schema_rules.specs.Ranges.{is_number_of}
use Rattle.field_bytes.proofs.Fitting.{enum_number}
use Rattle.field_bytes.proofs.puts.put_enum.Goals as goal

pub put_num-requires-clause-number : goal.put_num-requires-clause-number
put_num-requires-clause-number c =
    let n = c.in-Enum.n in
    let leaf = c.args.leaf.now in
    let names = c.args._names.now in
    let fits : FitsSigned w128 n = search rules in
    ap (is_number_of leaf.prim) (to_z-of_z w128 n fits) ∙ enum_number leaf names n c.requires.ready (sym (ap (enum_misfit leaf names) c.in-Enum.is) ∙ c.requires.fits)
