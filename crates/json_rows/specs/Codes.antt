-- The names of an enum of one byte, stored by byte. Own profile.
use Rattle.std.specs.Prelude.{◌≡◌, ◌<◌, ◌≤◌, ℕ, ◌-◌, ◌*◌, Bool, true, false, not, ◌&&◌, if◌then◌else◌, List, [], ◌∷◌, ◌++◌, length, take, drop, get_or, slice_index, ℤ, pos, Option, Some, None, codes}
use Rattle.std.specs.Ordering.{int_eq}
use Rattle.sbe_types.specs.declared.kind.Kind.{Kind, Leaf, Enum, Set, Const, Comp'}
use Rattle.sbe_types.specs.declared.kind.Leaf.{Leaf as LeafOf}
use Rattle.sbe_types.specs.declared.kind.Named.{Named}
use Rattle.sbe_types.specs.Shown.{is_null}
use Rattle.flat_rows.specs.Bytes.{is_byte}
use Rattle.json_rows.specs.declared.rows.Codes.{Codes}

-- the name of the first valid value with this number
abbrev pub first_name : List Named → ℤ → Option (List ℕ)
first_name [] n = None
first_name (v ∷ vs) n = if int_eq v.number n then Some v.name else first_name vs n

-- the name that an enum of one byte has for a byte that isn't its null
abbrev pub byte_name : Kind → ℕ → Option (List ℕ)
byte_name (Enum leaf names) b = if is_byte leaf.prim && not (is_null leaf (pos b)) then first_name names (pos b) else None
byte_name (Leaf l) b = None
byte_name (Set p names) b = None
byte_name (Const c) b = None
byte_name (Comp' n members) b = None

-- a name in quotes
abbrev pub between_quotes : List ℕ → List ℕ
between_quotes name = codes "\"" ++ (name ++ codes "\"")

-- the first `run` of 16 bytes are the name of a byte of the kind, in quotes
pub record IsTextOf (kind : Kind) (b : ℕ) (slot : List ℕ) (run : ℕ) : Type 0 where
  pub size : length slot ≡ 16
  pub few : run ≤ 15
  pub name : List ℕ
  pub named : byte_name kind b ≡ Some name
  pub text : take run slot ≡ between_quotes name

-- the 16 bytes at an index, counted from 1
abbrev pub slot_at : List ℕ → ℕ → List ℕ
slot_at texts place = take 16 (drop (16 * (place - 1)) texts)

-- how many bytes of 16 are the text
abbrev pub run_in : List ℕ → ℕ
run_in slot = get_or slot 15 0

-- each byte that has an index in the texts has its text there
abbrev pub HoldTexts : List ℕ → List ℕ → Kind → Type 0
HoldTexts index texts kind = (b : ℕ) → 0 < get_or index b 0 → IsTextOf kind b (slot_at texts (get_or index b 0)) (run_in (slot_at texts (get_or index b 0)))

-- the texts are those of the kind; not every name needs to have one
pub record AreCodes (kept : Codes) (kind : Kind) : Type 0 where
  pub texts : HoldTexts kept.index.items kept.texts.items kind

-- the texts are those of some kind
abbrev pub KeepsTexts : Codes → Type 0
KeepsTexts kept = (kind : Kind) × AreCodes kept kind

-- ---- while they are built

-- the texts are those of an enum
pub record AreTexts (index texts : List ℕ) (leaf : LeafOf) (names : List Named) : Type 0 where
  pub hold : HoldTexts index texts (Enum leaf names)

-- the texts are whole: 16 bytes each
abbrev pub IsWhole : List ℕ → Type 0
IsWhole texts = (many : ℕ) × (length texts ≡ 16 * many)

-- the text of a name has this index, and its number isn't the null
pub record IsKept (leaf : LeafOf) (named : Named) (place : ℕ) : Type 0 where
  pub value : is_null leaf named.number ≡ false
  pub short : length named.name ≤ 13
  pub few : place ≤ 255

-- the text of a name was added
pub record AddsText (old new name : List ℕ) : Type 0 where
  pub slot : List ℕ
  pub added : new ≡ old ++ slot
  pub size : length slot ≡ 16
  pub few : run_in slot ≤ 15
  pub text : take (run_in slot) slot ≡ between_quotes name
