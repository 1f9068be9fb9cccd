-- Which choices of a set are printed.
use Rattle.std.proofs.Common.{◌≡◌, ℕ, ◌<◌, ◌≤◌, ◌^◌, ◌==◌, true, false, List, [], ◌∷◌, ◌++◌, ℤ, pos, negsuc, Some, None, ◌/◌, refl, sym, ap, arith, append_assoc}
use Rattle.std.specs.Prelude.{Bool, ◌||◌, if◌then◌else◌}
use lib.Bits.{bit_and}
use Rattle.std.proofs.lemmas.Bool.Decides.{nat_tests}
use Rattle.std.proofs.lemmas.Nat.Bits.{shr_and_one, bit_at_above}
use Rattle.serde_json.specs.Data.{Items, item, string}
use Rattle.serde_json.specs.Written.{comma_if}
use Rattle.sbe_types.specs.declared.kind.Named.{Named}
use Rattle.named_numbers.specs.Bits.{bit_of}
use Rattle.named_numbers.proofs.Bits.{place_of}
use Rattle.json_values.specs.Values.{chosen, has_bit}
use Rattle.json_values.specs.Plain.{plain_text, plain_items, choice_text}

-- ---- names

choose : (b later : Bool) (name : List ℕ) (rest : Items)
    → plain_items later (if b then item (string name) rest else rest)
    ≡ (if b then comma_if later ++ plain_text (string name) else []) ++ plain_items (b || later) rest
choose true later name rest = sym (append_assoc (comma_if later) (plain_text (string name)) (plain_items true rest))
choose false later name rest = refl

-- one choice, and then those after it
pub chosen_next : (bits : ℕ) (later : Bool) (c : Named) (cs : List Named)
    → plain_items later (chosen bits (c ∷ cs))
    ≡ choice_text later bits c ++ plain_items (has_bit bits c.number || later) (chosen bits cs)
chosen_next bits later c cs = choose (has_bit bits c.number) later c.name (chosen bits cs)

-- ---- one bit

pub bit_seen : (bits k : ℕ) (n : ℤ) → bit_of n ≡ Some k → (bit_and (bits / 2 ^ k) 1 == 1) ≡ has_bit bits n
bit_seen bits k n h = rw ((place_of n k h).0) (ap (λ b. b == 1) (shr_and_one bits k))

pub no_bit_seen : (bits : ℕ) (n : ℤ) → bits < 2 ^ 64 → bit_of n ≡ None → false ≡ has_bit bits n
no_bit_seen bits (pos j) within h =
    let far : 64 ≤ j = grind (arith, nat_tests) in
    ap (λ b. b == 1) (sym (bit_at_above bits 64 j within far))
no_bit_seen bits (negsuc j) within h = refl
