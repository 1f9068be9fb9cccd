-- What a row stores of its kind, so that numbers and texts are checked and printed, and sets checked, by their bytes
-- alone. Own profile.
use Rattle.std.specs.Prelude.{◌≡◌, ◌≤◌, ◌<◌, ℕ, Bool, true, false, ◌&&◌, ◌||◌, ◌==◌, int_le, if◌then◌else◌, List, [], ◌∷◌, ℤ, pos, ⊤}
use Rattle.std.specs.Int.{bit_at, cast_unsigned, w64}
use Rattle.std.specs.Ordering.{int_eq}
use Rattle.sbe_types.specs.declared.kind.Kind.{Kind, Leaf, Enum, Set}
use Rattle.sbe_types.specs.declared.kind.Leaf.{Leaf as LeafOf}
use Rattle.sbe_types.specs.declared.kind.LeafShape.TheVariants.{Number, RangedText}
use Rattle.sbe_types.specs.declared.kind.Named.{Named}
use Rattle.sbe_types.specs.declared.kind.Primitive.{Primitive}
use Rattle.sbe_types.specs.declared.kind.Primitive.TheVariants.{Char, I8, I16, I32, I64, U8, U16, U32, U64}
use Rattle.sbe_types.specs.Shown.{is_listed, is_optional}
use Rattle.flat_rows.specs.declared.rows.Look.{Look}
use Rattle.flat_rows.specs.declared.rows.Look.TheVariants as look
use Rattle.flat_rows.specs.declared.rows.Quick.{Quick}

-- how a number of the primitive is checked and printed
abbrev pub look_of : Primitive → Look
look_of I8 = look.I8
look_of I16 = look.I16
look_of I32 = look.I32
look_of I64 = look.I64
look_of U8 = look.U8
look_of U16 = look.U16
look_of U32 = look.U32
look_of U64 = look.Other
look_of Char = look.Other

-- each number of the primitive fits 64 bits with a sign, and is printed as an integer
abbrev pub is_word : Primitive → Bool
is_word I8 = true
is_word I16 = true
is_word I32 = true
is_word I64 = true
is_word U8 = true
is_word U16 = true
is_word U32 = true
is_word U64 = false
is_word Char = false

-- the stored range, and the null if there is one, are those of a leaf that is a single number of this primitive
pub record IsQuickNumber (prim : Primitive) (q : Quick) (leaf : LeafOf) : Type 0 where
  pub shape : leaf.shape ≡ Number
  pub prim_is : leaf.prim ≡ prim
  pub low : q.low ≡ leaf.low
  pub high : q.high ≡ leaf.high
  pub null : q.null ≡ leaf.null
  pub optional : q.optional ≡ is_optional leaf.presence

-- the number fits a byte
abbrev pub IsByte : ℤ → Type 0
IsByte n = (byte : ℕ) × (n ≡ pos byte) × (byte ≤ 255)

-- the stored range is that of the bytes of a text
pub record IsQuickText (q : Quick) (leaf : LeafOf) : Type 0 where
  pub shape : leaf.shape ≡ RangedText
  pub low : q.low ≡ leaf.low
  pub high : q.high ≡ leaf.high
  pub least : IsByte q.low
  pub greatest : IsByte q.high

-- the kind is a single number of this primitive, and this is stored of it
abbrev pub KeepsNumber : Primitive → Quick → Kind → Type 0
KeepsNumber prim q kind = (leaf : LeafOf) × (kind ≡ Leaf leaf) × IsQuickNumber prim q leaf

-- the kind is a text, and this is stored of it
abbrev pub KeepsText : Quick → Kind → Type 0
KeepsText q kind = (leaf : LeafOf) × (kind ≡ Leaf leaf) × IsQuickText q leaf

-- the kind is an enum
abbrev pub IsEnum : Kind → Type 0
IsEnum kind = (leaf : LeafOf) × (names : List Named) × (kind ≡ Enum leaf names)

-- exactly the bits of the choices are set
abbrev pub AreListedBits : ℕ → List Named → Type 0
AreListedBits bits choices = (k : ℕ) → k < 64 → (bit_at bits k == 1) ≡ is_listed choices (pos k)

-- the kind is a set, and the stored bits are those of its choices
abbrev pub KeepsBits : Quick → Kind → Type 0
KeepsBits q kind = (prim : Primitive) × (choices : List Named) × (kind ≡ Set prim choices) × AreListedBits (cast_unsigned w64 q.null) choices

-- what is stored is that of the kind; of an enum only that it is one, and of other kinds nothing
abbrev pub IsQuickAs : Look → Quick → Kind → Type 0
IsQuickAs look.I8 q kind = KeepsNumber I8 q kind
IsQuickAs look.I16 q kind = KeepsNumber I16 q kind
IsQuickAs look.I32 q kind = KeepsNumber I32 q kind
IsQuickAs look.I64 q kind = KeepsNumber I64 q kind
IsQuickAs look.U8 q kind = KeepsNumber U8 q kind
IsQuickAs look.U16 q kind = KeepsNumber U16 q kind
IsQuickAs look.U32 q kind = KeepsNumber U32 q kind
IsQuickAs look.Text q kind = KeepsText q kind
IsQuickAs look.Enum q kind = IsEnum kind
IsQuickAs look.Set q kind = KeepsBits q kind
IsQuickAs look.Other q kind = ⊤

-- the same, by the stored look
abbrev pub IsQuick : Quick → Kind → Type 0
IsQuick q kind = IsQuickAs q.look q kind

-- the number is the null
abbrev pub is_none : Quick → ℤ → Bool
is_none q n = q.optional && int_eq n q.null

-- the number is within the range
abbrev pub is_between : Quick → ℤ → Bool
is_between q n = int_le q.low n && int_le n q.high

-- the bytes up to the first that is out of the range are within it, and that one, if there is one, is 00
abbrev pub is_text_within : Quick → List ℕ → Bool
is_text_within q [] = true
is_text_within q (b ∷ bs) = if is_between q (pos b) then is_text_within q bs else b == 0

-- ---- while the bits are gathered

-- one more bit is set
abbrev pub AddsBit : ℤ → ℕ → ℕ → Type 0
AddsBit number old new = (k : ℕ) → k < 64 → (bit_at new k == 1) ≡ (int_eq number (pos k) || (bit_at old k == 1))
