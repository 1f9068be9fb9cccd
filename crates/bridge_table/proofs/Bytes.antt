-- The numbers of an enum's characters are bytes.
use Rattle.std.proofs.Common.{◌≡◌, ℕ, zero, suc, ◌+◌, ◌<◌, ◌≤◌, Bool, true, false, List, [], ◌∷◌, length, get_or, refl, sym, ap, ◌∙◌, arith, ℤ, pos, negsuc}
use Rattle.std.specs.Prelude.{int_le, ◌&&◌, nat_le}
use Rattle.std.specs.List.{All, AllByRecursion}
use Rattle.std.proofs.lemmas.Bool.Decides.{nat_tests}
use Rattle.sbe_types.specs.declared.kind.Leaf.{Leaf as LeafOf}
use Rattle.sbe_types.specs.declared.kind.Named.{Named}
use Rattle.sbe_types.specs.declared.kind.Primitive.{Primitive}
use Rattle.sbe_types.specs.declared.kind.Primitive.TheVariants.{Char, I8, I16, I32, I64, U8, U16, U32, U64}
use Rattle.sbe_types.specs.Numbers.{natural}
use Rattle.schema_rules.specs.Ranges.{is_number_of}
use Rattle.schema_facts.specs.InOrder.{IsNumberOf, IsEnumInOrder, IsCodeInOrder}
use Rattle.bridge_rules.specs.Rules.{is_char}
use Rattle.bridge_table.specs.Codes.{IsByteOf}

at_most : (n : ℤ) (low : Bool) → (low && int_le n (pos 255)) ≡ true → natural n < 256
at_most (pos n) true h = let le : nat_le n 255 ≡ true = h in grind (arith, nat_tests)
at_most (pos n) false h = cc
at_most (negsuc n) low h = omega arith

byte_of : (prim : Primitive) (name : Named) → IsNumberOf prim name.number → IsByteOf prim name
byte_of Char name h is = at_most name.number (int_le (pos 0) name.number) h
byte_of I8 name h is = cc
byte_of I16 name h is = cc
byte_of I32 name h is = cc
byte_of I64 name h is = cc
byte_of U8 name h is = cc
byte_of U16 name h is = cc
byte_of U32 name h is = cc
byte_of U64 name h is = cc

all_bytes : (prim : Primitive) (names : List Named) → AllByRecursion (λ (v : Named). IsNumberOf prim v.number) names → All (IsByteOf prim) names
all_bytes prim [] h k d lt = absurd (omega arith)
all_bytes prim (name ∷ names) h zero d lt = byte_of prim name h.0
all_bytes prim (name ∷ names) h (suc k) d lt = all_bytes prim names h.1 k d (omega arith)

-- of the valid values of an enum of a schema in order
pub bytes_listed : (leaf : LeafOf) (names : List Named) → IsEnumInOrder leaf names → All (IsByteOf leaf.prim) names
bytes_listed leaf names h = all_bytes leaf.prim names h.listed.numbers

-- of the one valid value of a constant
pub bytes_fixed : (prim : Primitive) (name : Named) → IsCodeInOrder prim name → All (IsByteOf prim) (name ∷ [])
bytes_fixed prim name h = all_bytes prim (name ∷ []) (h.number, tt)
