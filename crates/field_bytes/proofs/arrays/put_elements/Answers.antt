use Rattle.std.proofs.Common.{◌∙◌, arith, pos}
use borrow.Rule.Slice.PartMut.{same_len_mid}
use Rattle.sbe_types.specs.declared.message.Elem.TheVariants.{Num}
use Rattle.field_bytes.proofs.Elements.{one_more}
use Rattle.field_bytes.proofs.Fitting.{rest_fits}
use Rattle.field_bytes.proofs.arrays.put_elements.Goals as goal

pub loop-i-preserved : goal.loop-i-preserved
loop-i-preserved c =
    let now = c.loop-i.invariant in
    let leaf = c.args.leaf.now in
    let elements = c.args.elements.now in
    let i = c.loop-i.i in
    record {
      long = same_len_mid _ _ _ _ c.put_element.ensures.as_many ∙ now.long;
      fits = rest_fits leaf elements i (Num (pos 0)) (omega (arith, c.loop-i-test.true)) now.fits;
      bytes = one_more c.args.order leaf elements i _ c.loop-i.out _ c.width-wide.result _ c.width-wide.ensures.value (omega (arith, c.loop-i-test.true)) now.long now.bytes c.put_element.ensures.bytes;
    }
