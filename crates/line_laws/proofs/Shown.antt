-- What a line's data is made of: integers that a reader finds again, texts in UTF-8, and not too deep.
use Rattle.std.proofs.Common.{◌≡◌, ◌≤◌, ℕ, List, [], ◌∷◌, ◌++◌, Option, Some, None, Ok, arith}
use Rattle.std.specs.Prelude.{⊤}
use Rattle.std.specs.Option.{option_map}
use Rattle.std.specs.Str.{IsUtf8}
use Rattle.serde_json.specs.Data.{Data, depth, members_depth}
use Rattle.json_values.specs.Values.{Entry, listed}
use Rattle.line_values.specs.Refusals.{Reading}
use Rattle.line_laws.specs.AsRead.{as_read, HasIntegers, MembersHaveIntegers, HasTexts, MembersHaveTexts}

-- what holds of data, where it isn't left out
abbrev pub OfShown : (Data → Type 0) → Option Data → Type 0
OfShown P None = ⊤
OfShown P (Some d) = P d

-- how deep it is
abbrev pub depth_of : Option Data → ℕ
depth_of None = 0
depth_of (Some d) = depth d

-- the data is printed, and at most n deep
pub record IsPrinted (n : ℕ) (shown : Option Data) : Type 0 where
  pub integers : OfShown HasIntegers shown
  pub texts : OfShown HasTexts shown
  pub deep : depth_of shown ≤ n

-- a reader finds the value in the data
abbrev pub IsRead : {A : Type 0} → (Option Data → Reading A) → Option Data → A → Type 0
IsRead reader shown x = reader (option_map as_read shown) ≡ Ok x

-- the data is printed, and a reader finds the value in it
pub record IsGood {A : Type 0} (reader : Option Data → Reading A) (n : ℕ) (shown : Option Data) (x : A) : Type 0 where
  pub read : IsRead reader shown x
  pub printed : IsPrinted n shown

-- each entry has a name in UTF-8, and its data is printed
abbrev pub ArePrinted : ℕ → List Entry → Type 0
ArePrinted n [] = ⊤
ArePrinted n (e ∷ es) = IsUtf8 e.0 × IsPrinted n e.1 × ArePrinted n es

pub listed_integers : (n : ℕ) (es : List Entry) → ArePrinted n es → MembersHaveIntegers (listed es)
listed_integers n [] h = tt
listed_integers n ((k, None) ∷ es) h = listed_integers n es h.2
listed_integers n ((k, Some d) ∷ es) h = (h.1.integers, listed_integers n es h.2)

pub listed_texts : (n : ℕ) (es : List Entry) → ArePrinted n es → MembersHaveTexts (listed es)
listed_texts n [] h = tt
listed_texts n ((k, None) ∷ es) h = listed_texts n es h.2
listed_texts n ((k, Some d) ∷ es) h = (h.0, h.1.texts, listed_texts n es h.2)

pub listed_deep : (n : ℕ) (es : List Entry) → ArePrinted n es → members_depth (listed es) ≤ n
listed_deep n [] h = omega arith
listed_deep n ((k, None) ∷ es) h = listed_deep n es h.2
listed_deep n ((k, Some d) ∷ es) h = omega (arith, h.1.deep, listed_deep n es h.2)

pub deeper : (n m : ℕ) (shown : Option Data) → n ≤ m → IsPrinted n shown → IsPrinted m shown
deeper n m shown le h = record { integers = h.integers; texts = h.texts; deep = omega (arith, le, h.deep) }

pub all_deeper : (n m : ℕ) (es : List Entry) → n ≤ m → ArePrinted n es → ArePrinted m es
all_deeper n m [] le h = tt
all_deeper n m (e ∷ es) le h = (h.0, deeper n m e.1 le h.1, all_deeper n m es le h.2)

pub all_joined : (n : ℕ) (es fs : List Entry) → ArePrinted n es → ArePrinted n fs → ArePrinted n (es ++ fs)
all_joined n [] fs h k = k
all_joined n (e ∷ es) fs h k = (h.0, h.1, all_joined n es fs h.2 k)
