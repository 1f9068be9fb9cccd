-- A block as pieces, one at the offset of each field. From SBE 1.0, Message structure; the zeros are own profile.
use Rattle.std.specs.Prelude.{◌≡◌, ℕ, ◌-◌, if◌then◌else◌, Option, Some, None, List, [], ◌∷◌, ◌++◌, length, replicate, ⊤}
use Rattle.sbe_types.specs.declared.kind.Order.{Order}
use Rattle.sbe_types.specs.declared.schema.Field.{Field}
use Rattle.sbe_types.specs.declared.message.Value.{Value}
use Rattle.sbe_types.specs.Places.{is_const, begin_of, end_past, width}
use Rattle.sbe_types.specs.Wire.{wire_bytes}
use Rattle.sbe_wire.specs.Placed.{BeginsBehind}

-- how many bytes precede a field, after fields that end at e
abbrev pub gap : ℕ → Field → ℕ
gap e f = if is_const f.kind then 0 else begin_of e f.offset - e

-- a piece at the offset of each field, after fields that end at e, with 00 in the gaps
abbrev pub laid : ℕ → List Field → List (List ℕ) → List ℕ
laid e [] ps = []
laid e (f ∷ fs) [] = []
laid e (f ∷ fs) (p ∷ ps) = replicate (gap e f) 0 ++ (p ++ laid (end_past e f.offset f.kind) fs ps)

-- a piece for each field, as wide as its kind
abbrev pub AreWide : List Field → List (List ℕ) → Type 0
AreWide [] [] = ⊤
AreWide [] (p ∷ ps) = ⊥
AreWide (f ∷ fs) [] = ⊥
AreWide (f ∷ fs) (p ∷ ps) = (length p ≡ width f.kind) × AreWide fs ps

-- a piece and others after it, if all are there
abbrev pub piece_and_others : Option (List ℕ) → Option (List (List ℕ)) → Option (List (List ℕ))
piece_and_others None ps = None
piece_and_others (Some p) None = None
piece_and_others (Some p) (Some ps) = Some (p ∷ ps)

-- the bytes of each field's value, if there are as many values as fields
abbrev pub wires : Order → List Field → List Value → Option (List (List ℕ))
wires order [] [] = Some []
wires order [] (v ∷ vs) = None
wires order (f ∷ fs) [] = None
wires order (f ∷ fs) (v ∷ vs) = piece_and_others (wire_bytes order f.kind v) (wires order fs vs)

-- each field that takes bytes begins at the end of those before it, which is e, or later
abbrev pub Ascend : ℕ → List Field → Type 0
Ascend e [] = ⊤
Ascend e (f ∷ fs) = BeginsBehind e f.offset f.kind × Ascend (end_past e f.offset f.kind) fs
