-- The first field that isn't set, field by field.
use Rattle.std.proofs.Common.{◌≡◌, ℕ, zero, suc, ◌+◌, ◌<◌, ◌&&◌, Bool, not, cond, List, [], ◌∷◌, length, drop, get_or, Some, sym, ap, ◌∙◌, arith}
use Rattle.std.specs.Prelude.{slice_get}
use Rattle.std.specs.Option.{option_map}
use Rattle.sbe_types.specs.declared.schema.Field.{Field}
use Rattle.typed_writer.specs.Steps.{must_be_set, unset_from}

pub unset_next : (k : ℕ) (fs : List Field) (bs : List Bool) (i : ℕ) (f : Field) (r : Bool) → i < length fs → f ≡ get_or fs i f →
    option_map (λ (b : Bool). must_be_set f.kind && not b) (slice_get bs i) ≡ Some r →
    unset_from k (drop i fs) (drop i bs) ≡ cond r (Some k) (unset_from (k + 1) (drop (i + 1) fs) (drop (i + 1) bs))
unset_next k [] bs i f r low is at = absurd (omega (arith, low))
unset_next k (x ∷ fs) [] i f r low is at = cc
unset_next k (x ∷ fs) (y ∷ bs) zero f r low is at =
    let same : must_be_set f.kind && not y ≡ r = cc in
    ap (λ (z : Field). cond (must_be_set z.kind && not y) (Some k) (unset_from (k + 1) fs bs)) (sym is)
    ∙ ap (λ z. cond z (Some k) (unset_from (k + 1) fs bs)) same
unset_next k (x ∷ fs) (y ∷ bs) (suc i) f r low is at =
    let next : suc i + 1 ≡ suc (i + 1) = omega arith in
    rw next (unset_next k fs bs i f r (omega (arith, low)) is at)
