use Rattle.std.proofs.Common.{subst, sym, ap, ◌∙◌, rules, FitsSigned}
use mir.Syntax.{w128}
use Rattle.std.specs.Prelude.{Some}
use Rattle.std.specs.Option.{IsSome}
use Rattle.std.proofs.lemmas.Int.{to_z-of_z}
use Rattle.sbe_types.specs.Numbers.{number_of, prim_width}
use Rattle.field_values.specs.Reports.{prim_in}
use Rattle.field_values.proofs.Shown.{number_told, same_some}
use Rattle.field_values.proofs.numbers.number_in.Goals as goal

pub prim_of-requires : goal.prim_of-requires
prim_of-requires c =
    let n = c.requires.number in
    let told = number_told c.args.order n.0 n.1 c.args.bytes.now c.args.kind.now c.requires.ready n.2 n.3 in
    subst IsSome (sym told.1) (search rules)

pub get_num-requires : goal.get_num-requires
get_num-requires c =
    let n = c.requires.number in
    let told = number_told c.args.order n.0 n.1 c.args.bytes.now c.args.kind.now c.requires.ready n.2 n.3 in
    told.2 ∙ ap prim_width (same_some (prim_in c.args.kind.now) told.0 c.prim_of.result told.1 c.prim_of.ensures)

pub returns : goal.returns
returns c = λ known v h some.
    let told = number_told c.args.order known v c.args.bytes.now c.args.kind.now c.requires.ready h some in
    let fits : FitsSigned w128 c.get_num.result = search rules in
    told.3 ∙ ap (λ p. Some (number_of c.args.order p c.args.bytes.now)) (same_some (prim_in c.args.kind.now) told.0 c.prim_of.result told.1 c.prim_of.ensures)
    ∙ ap Some (sym c.get_num.ensures ∙ sym (to_z-of_z w128 c.get_num.result fits))
