use mir.Syntax.{w128}
use Rattle.std.proofs.Common.{◌≡◌, ◌+◌, ◌-◌, ◌<◌, ◌^◌, ◌++◌, Some, length, pos, refl, sym, ap, ◌∙◌, arith, rules}
use Rattle.std.proofs.lemmas.Int.{to_z_pos}
use borrow.Rule.Slice.PartMut.{put_mid}
use Rattle.sbe_types.specs.Numbers.{bytes_of}
use Rattle.sbe_types.specs.Wire.{both}
use Rattle.sbe_types.proofs.Inverse.{bytes_of-width}
use Rattle.var_data.proofs.Parts.{put_behind}
use Rattle.var_data.proofs.put.put_counted.Goals as goal

pub returns : goal.returns
returns c =
    let order = c.args.order in
    let prim = c.args.prim in
    let bytes = c.args.bytes.now in
    let at = c.args.at in
    let w = c.width.result in
    let piece = c.put_num.new.out in
    let fits : length bytes < 2 ^ 64 = search rules in
    let number : bytes_of order prim (pos (length bytes)) ≡ Some piece = ap (bytes_of order prim) (sym (to_z_pos w128 (length bytes) (omega arith))) ∙ c.put_num.ensures.bytes in
    let is : w ≡ _ = c.width.ensures.value in (
      piece ++ bytes,
      ap (λ o. both o (Some bytes)) number,
      ap (λ s. put_mid (at + w) (at + w + length bytes - (at + w)) (put_mid at (at + w - at) c.args.out.now piece) s) c.copy_from_slice.ensures.after
          ∙ put_behind c.args.out.now piece bytes at w (length bytes) _ _ ((bytes_of-width order prim (pos (length bytes)) piece number).0 ∙ sym is) refl (omega (arith, is, c.requires.room)) (omega arith) (omega arith),
    )
