-- What bytes at an offset of the body show of a kind, as far as the walk reports it.
use Rattle.std.specs.Prelude.{◌≤◌, ◌<◌, ℕ, ◌+◌, ◌*◌, ◌^◌, Bool, true, false, Option, Some, None, Result, Ok, Err, List, [], ◌∷◌, length, take, drop, ℤ, ⊤}
use Rattle.sbe_types.specs.declared.kind.Order.{Order}
use Rattle.sbe_types.specs.declared.kind.LeafShape.{LeafShape}
use Rattle.sbe_types.specs.declared.kind.LeafShape.TheVariants.{Number, RangedText, EncodedText, Octets, Numbers}
use Rattle.sbe_types.specs.declared.kind.Leaf.{Leaf as LeafOf}
use Rattle.sbe_types.specs.declared.kind.Kind.{Kind, Leaf, Enum, Set, Const, Comp', Row_of-Member, end_of-Member, more_of-Member, items-the_row-Member}
use Rattle.sbe_types.specs.declared.kind.Member.{Member}
use Rattle.sbe_types.specs.declared.leaf.LeafFault.{LeafFault}
use Rattle.sbe_types.specs.declared.limits.TheConstants.{MEMBER_LIMIT}
use Rattle.sbe_types.specs.declared.path.Step.TheVariants as way
use Rattle.sbe_types.specs.Numbers.{prim_width}
use Rattle.sbe_types.specs.Places.{width, begin_of, end_past}
use Rattle.sbe_wire.specs.declared.codes.FCode.{FCode}
use Rattle.sbe_wire.specs.declared.codes.FCode.TheVariants as code
use Rattle.sbe_wire.specs.Faults.{Fault, fault_at}
use Rattle.sbe_wire.specs.Reading.{◌>>=◌, inside, leaf_read, value_read}
use Rattle.schema_facts.specs.InOrder.{IsKindInOrder}
use Rattle.sbe_wire.specs.declared.mode.Mode.{Mode}
use Rattle.body_walk.specs.inner.Outcomes.{Piece, piece, check_at}

-- the result for a number, by whether it shows a value; if not, the fault with this code
abbrev pub answered : FCode → ℕ → ℤ → Bool → Result Unit Fault
answered code at n true = Ok tt
answered code at n false = Err (fault_at code at n)

-- ---- leaves

-- the fault of a leaf whose bytes begin at an offset of the body
abbrev pub leaf_fault : LeafShape → LeafOf → ℕ → LeafFault → Fault
leaf_fault Number leaf at f = fault_at code.Range at f.number
leaf_fault RangedText leaf at f = fault_at code.TextByte (at + f.at) f.number
leaf_fault EncodedText leaf at f = fault_at code.TextByte (at + f.at) f.number
leaf_fault Octets leaf at f = record { code = code.Range; path = way.Elem f.at ∷ []; offset = at + prim_width leaf.prim * f.at; detail = f.number }
leaf_fault Numbers leaf at f = record { code = code.Range; path = way.Elem f.at ∷ []; offset = at + prim_width leaf.prim * f.at; detail = f.number }

-- the result of the first fault of a leaf of this shape, if there is one
abbrev pub shape_answer : LeafShape → LeafOf → ℕ → Option LeafFault → Result Unit Fault
shape_answer shape leaf at None = Ok tt
shape_answer shape leaf at (Some f) = Err (leaf_fault shape leaf at f)

-- the result of the first fault of a leaf, if there is one
abbrev pub leaf_answer : LeafOf → ℕ → Option LeafFault → Result Unit Fault
leaf_answer leaf at o = shape_answer leaf.shape leaf at o

-- whether a leaf's bytes show a value, or the fault
abbrev pub leaf_check : Order → LeafOf → Piece → Result Unit Fault
leaf_check order leaf b = check_at b.at (leaf_read order leaf.shape leaf b.bytes)

-- the fault is one of a leaf whose bytes begin at an offset of the body
pub record IsLeafFault (leaf : LeafOf) (at : ℕ) (f : LeafFault) : Type 0 where
  pub few : f.at < 2 ^ 32
  pub byte : at + f.at < 2 ^ 64
  pub element : at + prim_width leaf.prim * f.at < 2 ^ 64

-- ---- kinds

-- whether the bytes of a kind show a value, or the fault
abbrev pub kind_check : Mode → Kind → Piece → Result Unit Fault
kind_check mode kind b = check_at b.at (value_read mode.order mode.known kind b.bytes)

-- the same for the bytes of part i of a block or composite
abbrev pub part_check : Mode → Kind → ℕ → Piece → Result Unit Fault
part_check mode kind i b = check_at b.at (inside (way.Part i) (value_read mode.order mode.known kind b.bytes))

-- the same for member i of a composite, after members that end at e
abbrev pub member_check : Mode → Piece → ℕ → ℕ → Member → Result Unit Fault
member_check mode b e i m =
    part_check mode m.kind i (piece (b.at + begin_of e m.offset) (take (width m.kind) (drop (begin_of e m.offset) b.bytes)))

-- the same for members, counted from i, up to the first fault
abbrev pub members_check : Mode → Piece → ℕ → ℕ → List Member → Result Unit Fault
members_check mode b e i [] = Ok tt
members_check mode b e i (m ∷ ms) = member_check mode b e i m >>= (λ _. members_check mode b (end_past e m.offset m.kind) (i + 1) ms)

-- ---- what the walk requires of a kind

abbrev mutual
  -- each composite has at most as many members as the limit
  pub HasFewMembers : Kind → Type 0
  HasFewMembers (Leaf l) = ⊤
  HasFewMembers (Enum l names) = ⊤
  HasFewMembers (Set p names) = ⊤
  HasFewMembers (Const c) = ⊤
  HasFewMembers (Comp' n members) = (length (items-the_row-Member _ members) ≤ MEMBER_LIMIT) × HaveFewMembers members

  -- the same for the kinds of members
  pub HaveFewMembers : {n : _} → Row_of-Member n → Type 0
  HaveFewMembers end_of-Member = ⊤
  HaveFewMembers (more_of-Member name offset kind rest) = HasFewMembers kind × HaveFewMembers rest

-- the kind is in order, and its composites have at most as many members as the limit
pub record IsReady (kind : Kind) : Type 0 where
  pub order : IsKindInOrder kind
  pub few : HasFewMembers kind
