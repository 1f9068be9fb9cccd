-- Numbers that an i128 doesn't hold are no leaf's.
use Rattle.std.proofs.Common.{◌≡◌, true, false, ℤ, int_le, Option, Some, None, Ok, Err, FitsSigned, ap, arith}
use Rattle.std.specs.Int.{w128}
use Rattle.std.specs.Option.{SomeIff, option_map_or}
use Rattle.std.proofs.lemmas.Int.{ints}
use Rattle.std.proofs.lemmas.Bool.Decides.{nat_tests}
use Rattle.sbe_types.specs.declared.kind.Leaf.{Leaf as LeafOf}
use Rattle.fix_values.specs.declared.rule.V.TheVariants.{Range}
use Rattle.fix_values.specs.Numerals.{is_value}
use Rattle.fix_values.specs.Decimals.{leaf_number}
use Rattle.fix_values.proofs.NumeralLemmas.{both, not_true}

between : (low high n : ℤ) → FitsSigned w128 low → FitsSigned w128 high → int_le low n ≡ true → int_le n high ≡ true → FitsSigned w128 n
between low high n fl fh l h = grind (arith, ints, nat_tests)

pub fits_is_value : (leaf : LeafOf) (n : ℤ) → FitsSigned w128 leaf.low → FitsSigned w128 leaf.high → is_value leaf n ≡ true → FitsSigned w128 n
fits_is_value leaf n low high is =
    let inside = both _ _ (both _ _ is).1 in
    between leaf.low leaf.high n low high inside.0 inside.1

pub outside : (leaf : LeafOf) (n : ℤ) → FitsSigned w128 leaf.low → FitsSigned w128 leaf.high → ¬ FitsSigned w128 n → is_value leaf n ≡ false
outside leaf n low high unfit = not_true (is_value leaf n) (λ is. unfit (fits_is_value leaf n low high is))

-- what was read is judged as the number that is spelled, also where an i128 doesn't hold it
pub read_is_judged : (leaf : LeafOf) (r : Option ℤ) (n : ℤ) → SomeIff r (FitsSigned w128 n) n → (¬ FitsSigned w128 n → is_value leaf n ≡ false) →
    option_map_or (λ m. leaf_number leaf (Ok m)) r (Err Range) ≡ leaf_number leaf (Ok n)
read_is_judged leaf (Some m) n h unfit = ap (λ k. leaf_number leaf (Ok k)) h.1
read_is_judged leaf None n h unfit = rw (unfit h)
