use mir.Syntax.{w128}
use Rattle.std.proofs.Common.{◌<◌, ◌^◌, sym, ap, ◌∙◌, rules, arith}
use Rattle.std.proofs.lemmas.Int.{to_z_pos}
use Rattle.sbe_wire.specs.Misfit.{set_misfit}
use Rattle.schema_rules.specs.Ranges.{is_number_of}
use Rattle.field_bytes.proofs.Fitting.{set_number}
use Rattle.field_bytes.proofs.puts.put_set.Goals as goal

pub put_num-requires-clause-number : goal.put_num-requires-clause-number
put_num-requires-clause-number c =
    let bits = c.in-Set.bits in
    let names = c.args._choices.now in
    let fits : bits < 2 ^ 64 = search rules in
    ap (is_number_of c.args.prim) (to_z_pos w128 bits (omega arith)) ∙ set_number c.args.prim names bits c.requires.ready fits (sym (ap (set_misfit names) c.in-Set.is) ∙ c.requires.fits)
