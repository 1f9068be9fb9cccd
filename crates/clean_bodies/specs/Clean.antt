-- Bytes that are 00 wherever there is no value: between parts, and after texts. Own profile.
use Rattle.std.specs.Prelude.{◌≡◌, ℕ, ◌+◌, ◌-◌, false, if◌then◌else◌, Option, List, [], ◌∷◌, ◌++◌, length, take, drop, replicate, ⊤}
use Rattle.sbe_types.specs.declared.kind.LeafShape.{LeafShape}
use Rattle.sbe_types.specs.declared.kind.LeafShape.TheVariants.{Number, RangedText, EncodedText, Octets, Numbers}
use Rattle.sbe_types.specs.declared.kind.Kind.{Kind, Leaf, Enum, Set, Const, Comp', Row_of-Member, end_of-Member, more_of-Member}
use Rattle.sbe_types.specs.declared.schema.Field.{Field}
use Rattle.sbe_types.specs.Places.{width, is_const, begin_of, end_past, fields_end}

-- the bytes are all zeros
abbrev pub AreZeros : List ℕ → Type 0
AreZeros b = b ≡ replicate (length b) 0

-- the bytes from one offset up to another
abbrev pub between : ℕ → ℕ → List ℕ → List ℕ
between from to b = take (to - from) (drop from b)

-- only zeros follow the first 00 of a text
abbrev pub IsCleanText : List ℕ → Type 0
IsCleanText b = (text after : List ℕ) → b ≡ text ++ 0 ∷ after → AreZeros after

-- a text is clean; any other leaf always is
abbrev pub IsCleanLeaf : LeafShape → List ℕ → Type 0
IsCleanLeaf Number b = ⊤
IsCleanLeaf RangedText b = IsCleanText b
IsCleanLeaf EncodedText b = IsCleanText b
IsCleanLeaf Octets b = ⊤
IsCleanLeaf Numbers b = ⊤

-- only zeros are before a part that takes bytes, from the end e of the parts before it
abbrev pub HasCleanGap : ℕ → Option ℕ → Kind → List ℕ → Type 0
HasCleanGap e offset kind b = is_const kind ≡ false → AreZeros (between e (begin_of e offset) b)

-- the bytes of a part
abbrev pub part_in : ℕ → Option ℕ → Kind → List ℕ → List ℕ
part_in e offset kind b = take (width kind) (drop (begin_of e offset) b)

abbrev mutual
  -- the bytes of a value of this kind are clean
  pub IsCleanKind : Kind → List ℕ → Type 0
  IsCleanKind (Leaf l) b = IsCleanLeaf l.shape b
  IsCleanKind (Enum l names) b = ⊤
  IsCleanKind (Set p names) b = ⊤
  IsCleanKind (Const c) b = ⊤
  IsCleanKind (Comp' n members) b = AreCleanMembers 0 members b

  -- the same for members after members that end at e
  pub AreCleanMembers : ℕ → {n : _} → Row_of-Member n → List ℕ → Type 0
  AreCleanMembers e end_of-Member b = ⊤
  AreCleanMembers e (more_of-Member name offset kind rest) b =
      HasCleanGap e offset kind b × IsCleanKind kind (part_in e offset kind b)
      × AreCleanMembers (if is_const kind then e else begin_of e offset + width kind) rest b

-- the same for fields
abbrev pub AreCleanFields : ℕ → List Field → List ℕ → Type 0
AreCleanFields e [] b = ⊤
AreCleanFields e (f ∷ fs) b =
    HasCleanGap e f.offset f.kind b × IsCleanKind f.kind (part_in e f.offset f.kind b) × AreCleanFields (end_past e f.offset f.kind) fs b

-- A block whose fields are clean, and are followed only by zeros.
pub record IsCleanBlock (fields : List Field) (b : List ℕ) : Type 0 where
  pub fields_clean : AreCleanFields 0 fields b
  pub rest_clean : AreZeros (drop (fields_end 0 fields) b)
