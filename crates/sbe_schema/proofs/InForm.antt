-- What every schema that is read is like: its names have their form, and its numbers keep their limits.
use Rattle.std.proofs.Common.{◌≡◌, ℕ, ◌≤◌, Bool, true, false, if◌then◌else◌, List, [], length, refl, arith, ℤ, pos, negsuc}
use Rattle.std.specs.Prelude.{Ok, Err, Some, None, nat_le}
use Rattle.std.proofs.lemmas.Bool.Decides.{nat_tests}
use Rattle.serde_json.specs.Data.{Data}
use Rattle.json_elements.specs.declared.refusal.Cause.TheVariants.{Limit, BadAttribute}
use Rattle.json_elements.proofs.Yields.{Yields, ok_yields, err_yields, then_yields, default_yields}
use Rattle.json_elements.specs.Reading.{Reading, refusal, refuse}
use Rattle.json_elements.specs.Forms.{natural_to, whole, text}
use Rattle.json_elements.specs.Attributes.{optional, given}
use Rattle.sbe_types.specs.declared.limits.TheConstants.{LENGTH_LIMIT, PLACE_LIMIT}
use Rattle.sbe_types.specs.InForm.{is_name, IsName, IsWithin}
use Rattle.sbe_schema.specs.Forms.{a_name, name_in, is_short, a_place, a_length}

-- ---- attributes

name_kept : (s : List ℕ) (a b : Bool) → is_name s ≡ a → is_short s ≡ b → Yields IsName (if a then (if b then Ok s else refuse Limit) else refuse BadAttribute)
name_kept s true true h k = ok_yields IsName s (record { form = h; short = grind (arith, nat_tests) })
name_kept s true false h k = err_yields IsName (refusal Limit [])
name_kept s false b h k = err_yields IsName (refusal BadAttribute [])

pub name_yields : (d : Data) → Yields IsName (a_name d)
name_yields d = then_yields IsName (text d) name_in (λ s _. name_kept s (is_name s) (is_short s) refl refl)

natural_kept : (most n : ℕ) (b : Bool) → nat_le n most ≡ b → Yields (λ k. k ≤ most) (if b then Ok n else refuse Limit)
natural_kept most n true h = ok_yields (λ k. k ≤ most) n (grind (arith, nat_tests))
natural_kept most n false h = err_yields (λ k. k ≤ most) (refusal Limit [])

natural_yields : (most : ℕ) (z : ℤ) → Yields (λ k. k ≤ most) (natural_to most (refuse Limit) z)
natural_yields most (pos n) = natural_kept most n (nat_le n most) refl
natural_yields most (negsuc n) = err_yields (λ k. k ≤ most) (refusal BadAttribute [])

pub length_yields : (d : Data) → Yields (λ k. k ≤ LENGTH_LIMIT) (a_length d)
length_yields d = then_yields (λ k. k ≤ LENGTH_LIMIT) (whole d) (natural_to LENGTH_LIMIT (refuse Limit)) (λ z _. natural_yields LENGTH_LIMIT z)

place_yields : (d : Data) → Yields (λ k. k ≤ PLACE_LIMIT) (a_place d)
place_yields d = then_yields (λ k. k ≤ PLACE_LIMIT) (whole d) (natural_to PLACE_LIMIT (refuse Limit)) (λ z _. natural_yields PLACE_LIMIT z)

given_within : (r : Reading ℕ) → Yields (λ k. k ≤ PLACE_LIMIT) r → Yields IsWithin (given r)
given_within (Ok x) h = ok_yields IsWithin (Some x) (h x refl)
given_within (Err e) h = err_yields IsWithin e

-- an offset or a block length that may be missing
pub within_yields : (key : List ℕ) (d : Data) → Yields IsWithin (optional a_place key d)
within_yields key d = default_yields IsWithin None (λ e. given (a_place e)) key d tt (λ e. given_within (a_place e) (place_yields e))
