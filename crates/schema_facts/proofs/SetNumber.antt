-- The number of a set's bytes.
use Rattle.std.proofs.Common.{◌≡◌, ◌<◌, ◌^◌, ℕ, true, List, length, pos, refl, subst, arith}
use Rattle.byte_digits.specs.Digits.{IsBytes}
use Rattle.sbe_types.specs.declared.kind.Order.{Order}
use Rattle.sbe_types.specs.declared.kind.Primitive.{Primitive}
use Rattle.sbe_types.specs.declared.kind.Primitive.TheVariants.{Char, I8, I16, I32, I64, U8, U16, U32, U64}
use Rattle.sbe_types.specs.Numbers.{number_of, sum_in, prim_width}
use Rattle.sbe_types.proofs.NumberLemmas.{sum_fits}
use Rattle.schema_rules.specs.TypeRules.{is_set_primitive}

-- a set's bytes show a number without a sign, of at most eight bytes
pub set_fits : (order : Order) (p : Primitive) (bytes : List ℕ) → is_set_primitive p ≡ true → length bytes ≡ prim_width p → IsBytes bytes → (number_of order p bytes ≡ pos (sum_in order bytes)) × (sum_in order bytes < 2 ^ 64)
set_fits order Char bytes h wide all = cc
set_fits order I8 bytes h wide all = cc
set_fits order I16 bytes h wide all = cc
set_fits order I32 bytes h wide all = cc
set_fits order I64 bytes h wide all = cc
set_fits order U8 bytes h wide all = (refl, let fits : sum_in order bytes < 256 ^ 1 = subst (λ k. sum_in order bytes < 256 ^ k) wide (sum_fits order bytes all) in omega (arith, fits))
set_fits order U16 bytes h wide all = (refl, let fits : sum_in order bytes < 256 ^ 2 = subst (λ k. sum_in order bytes < 256 ^ k) wide (sum_fits order bytes all) in omega (arith, fits))
set_fits order U32 bytes h wide all = (refl, let fits : sum_in order bytes < 256 ^ 4 = subst (λ k. sum_in order bytes < 256 ^ k) wide (sum_fits order bytes all) in omega (arith, fits))
set_fits order U64 bytes h wide all = (refl, let fits : sum_in order bytes < 256 ^ 8 = subst (λ k. sum_in order bytes < 256 ^ k) wide (sum_fits order bytes all) in omega (arith, fits))
