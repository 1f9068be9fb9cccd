-- A data part whose length was read.
use Rattle.std.proofs.Common.{◌≡◌, ℕ, ◌+◌, ◌-◌, take, drop, pos, ap, sym, ◌∙◌, subst, arith}
use Rattle.byte_digits.specs.Digits.{IsBytes}
use Rattle.sbe_types.specs.declared.schema.DataField.{DataField}
use Rattle.sbe_types.specs.Numbers.{number_of, prim_width}
use Rattle.writing_laws.specs.Writable.{IsWritablePart}
use Rattle.clean_bodies.specs.Steps.{Place, PartStep}
use Rattle.clean_bodies.proofs.CleanParts.{part_whole}

pub part_ends : (place : Place) (part : DataField) (at many size : ℕ) → IsWritablePart place.version part
    → IsBytes place.body → size ≡ prim_width part.length.prim
    → number_of place.order part.length.prim (take (at + size - at) (drop at place.body)) ≡ pos many
    → PartStep place part at (at + size + many)
part_ends place part at many size good bytes wide says =
    let long : at + size - at ≡ prim_width part.length.prim = omega (arith, wide) in
    subst (λ n. PartStep place part at (at + n + many)) (sym wide)
    (part_whole place part at many good.known bytes (ap (λ n. number_of place.order part.length.prim (take n (drop at place.body))) (sym long) ∙ says))
