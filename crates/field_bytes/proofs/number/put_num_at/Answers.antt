use mir.Syntax.{w128}
use Rattle.std.proofs.Common.{◌≡◌, Some, length, sym, ap, ◌∙◌, arith, rules, FitsSigned}
use Rattle.std.proofs.lemmas.Int.{to_z-of_z}
use borrow.Rule.Slice.PartMut.{same_len_mid}
use Rattle.sbe_types.specs.Numbers.{bytes_of, prim_width}
use Rattle.sbe_types.proofs.Inverse.{bytes_of-width}
use Rattle.field_bytes.proofs.Places.{part_laid}
use Rattle.field_bytes.proofs.number.put_num_at.Goals as goal

pub returns-clause-put : goal.returns-clause-put
returns-clause-put c =
    let piece = c.put_num.new.out in
    let fits : FitsSigned w128 c.args.n = search rules in
    let number : bytes_of c.args.order c.args.prim c.args.n ≡ Some piece = ap (bytes_of c.args.order c.args.prim) (sym (to_z-of_z w128 c.args.n fits)) ∙ c.put_num.ensures.bytes in
    let wide : length piece ≡ prim_width c.args.prim = (bytes_of-width c.args.order c.args.prim c.args.n piece number).0 in
    (piece, number, part_laid c.args.at _ c.args.out.now piece (omega (arith, wide, c.width.ensures.value)))

pub returns-clause-as_many : goal.returns-clause-as_many
returns-clause-as_many c = same_len_mid _ _ _ _ c.put_num.ensures.as_many
