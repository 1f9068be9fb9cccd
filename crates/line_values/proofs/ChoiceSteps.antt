-- The next valid value or choice.
use Rattle.std.proofs.Common.{◌≡◌, ℕ, ◌+◌, ◌*◌, ◌/◌, ◌%◌, ◌^◌, ◌<◌, ◌==◌, Bool, true, false, refl, subst, arith, min, ◌⊎◌, inl, inr, eq-eqb, cond, List, [], length, drop, get_or, Some, Ok, sym, ap, ◌∙◌}
use Rattle.std.specs.Prelude.{if◌then◌else◌}
use Rattle.std.specs.Str.{bytes_eq}
use Rattle.std.specs.Int.{bit_at}
use lib.Bits.{bit_and, bit_or}
use Rattle.std.proofs.lemmas.Bool.{eqb-true}
use Rattle.std.proofs.lemmas.Nat.{and_le_l, or_disjoint, one_shl}
use Rattle.std.proofs.lemmas.Nat.Bits.{same_from_bits_below, bit_at_and, bit_at-zero, bit_at-pow_other, shr_and_one}
use Rattle.line_values.specs.declared.refusals.JCode.TheVariants as code
use Rattle.json_data.specs.declared.data.Json.{Json}
use Rattle.json_data.specs.Trees.{data_of, items_of}
use Rattle.sbe_types.specs.declared.kind.Named.{Named}
use Rattle.named_numbers.specs.Bits.{bit_of}
use Rattle.line_values.specs.Refusals.{◌>>=◌, refuse}
use Rattle.line_values.specs.Values.{number_named, bit_named, with_bit, choice_in, choices_in}
use Rattle.line_values.proofs.NameSteps.{there}
use Rattle.line_values.proofs.ItemSteps.{item_there}

pub number_next : (names : List Named) (s : List ℕ) (i : ℕ) (v : Named) → i < length names → v ≡ get_or names i v
    → number_named (drop i names) s ≡ cond (bytes_eq v.name s) (Some v.number) (number_named (drop (i + 1) names) s)
number_next names s i v h is = ap (λ xs. number_named xs s) (there names i v h is)

pub bit_next : (names : List Named) (s : List ℕ) (i : ℕ) (v : Named) → i < length names → v ≡ get_or names i v
    → bit_named (drop i names) s ≡ cond (bytes_eq v.name s) (bit_of v.number) (bit_named (drop (i + 1) names) s)
bit_next names s i v h is = ap (λ xs. bit_named xs s) (there names i v h is)

pub choices_more : (names : List Named) (items : List Json) (i : ℕ) (d : Json) (bits more : ℕ) → i < length items → d ≡ get_or items i d → choice_in names bits (data_of d) ≡ Ok more
    → choices_in names more (items_of (drop (i + 1) items)) ≡ choices_in names bits (items_of (drop i items))
unfolding choices_in
choices_more names items i d bits more h is read =
    sym (ap (choices_in names bits) (item_there items i d h is) ∙ ap (λ o. o >>= (λ b. choices_in names b (items_of (drop (i + 1) items)))) read)

-- ---- one bit more

least : (a b : ℕ) → (a ≡ 0) ⊎ (b ≡ 0) → min a b ≡ 0
least a b (inl h) = grind arith
least a b (inr h) = grind arith

apart_at : (bits k i : ℕ) (b : Bool) → (i == k) ≡ b → bit_at bits k ≡ 0 → bit_at (bit_and bits (2 ^ k)) i ≡ 0
apart_at bits k i true e clear =
    bit_at_and bits (2 ^ k) i ∙ least (bit_at bits i) (bit_at (2 ^ k) i) (inl (subst (λ j. bit_at bits j ≡ 0) (sym (eqb-true i k e)) clear))
apart_at bits k i false e clear =
    bit_at_and bits (2 ^ k) i ∙ least (bit_at bits i) (bit_at (2 ^ k) i) (inr (bit_at-pow_other k i (λ same. let found = eq-eqb i k same in absurd cc)))

apart : (bits k : ℕ) → bits < 2 ^ 64 → bit_at bits k ≡ 0 → bit_and bits (2 ^ k) ≡ 0
apart bits k within clear =
    same_from_bits_below 64 (bit_and bits (2 ^ k)) 0 (omega (arith, and_le_l bits (2 ^ k), within)) (omega arith) (λ i lt. apart_at bits k i (i == k) refl clear ∙ sym (bit_at-zero i))

pub bit_added : (bits k : ℕ) → bits < 2 ^ 64 → k < 64 → bit_and (bits / 2 ^ k) 1 ≡ 0 → with_bit bits k ≡ Ok (bit_or bits (1 * 2 ^ k % 2 ^ 64))
bit_added bits k within small h =
    let clear : bit_at bits k ≡ 0 = sym (shr_and_one bits k) ∙ h in
    ap (λ n. if n == 0 then Ok (bits + 2 ^ k) else refuse code.Kind []) clear ∙ ap Ok (sym (or_disjoint bits (2 ^ k) (apart bits k within clear)) ∙ ap (bit_or bits) (sym (one_shl k 64 small)))
