-- What is found by a face.
use Rattle.std.proofs.Common.{◌≡◌, ℕ, Bool, true, false, cond, List, Some, None, ℤ, refl, sym, ap, subst}
use Rattle.std.specs.Prelude.{◌&&◌}
use Rattle.std.specs.Ordering.{int_eq}
use Rattle.sbe_types.specs.declared.kind.Order.TheVariants.{Little}
use Rattle.sbe_types.specs.Numbers.{number_of}
use Rattle.value_texts.specs.declared.face.NumberFace.{NumberFace}
use Rattle.value_texts.specs.declared.face.Found.{Found}
use Rattle.value_texts.specs.declared.face.Found.TheVariants as found
use Rattle.value_texts.specs.Faces.{found_by, is_read, IsFound, IsRead}
use Rattle.flat_rows.specs.Quick.{is_word}
use Rattle.sbe_types.specs.declared.kind.Primitive.{Primitive}
use Rattle.sbe_types.specs.declared.kind.Primitive.TheVariants.{Char, I8, I16, I32, I64, U8, U16, U32, U64}

by_null : (q : NumberFace) (bytes : List ℕ) (t : Bool) → IsRead q bytes → (q.optional && int_eq (number_of Little q.prim bytes) q.null) ≡ t
    → IsFound (cond t found.Null (found.Number (number_of Little q.prim bytes))) q bytes
by_null q bytes true read is = (read, ap (λ s. cond s None (Some (number_of Little q.prim bytes))) is)
by_null q bytes false read is = (read, ap (λ s. cond s None (Some (number_of Little q.prim bytes))) is)

-- the number of the bytes, unless it is null
pub found_is : (q : NumberFace) (bytes : List ℕ) (r : Found) (n : ℤ) → IsRead q bytes → n ≡ number_of Little q.prim bytes → r ≡ found_by q n → IsFound r q bytes
found_is q bytes r n read is same =
    subst (λ r. IsFound r q bytes) (sym same)
    (subst (λ m. IsFound (found_by q m) q bytes) (sym is) (by_null q bytes (q.optional && int_eq (number_of Little q.prim bytes) q.null) read refl))

-- a number that fits 64 bits is read
pub word_read : (p : Primitive) → is_word p ≡ true → is_read p ≡ true
word_read Char h = refl
word_read I8 h = refl
word_read I16 h = refl
word_read I32 h = refl
word_read I64 h = refl
word_read U8 h = refl
word_read U16 h = refl
word_read U32 h = refl
word_read U64 h = h
