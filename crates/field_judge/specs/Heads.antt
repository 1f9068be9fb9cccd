-- The parts of a level one by one, and the fields that are found for them. Own profile.
use Rattle.std.specs.Prelude.{◌≡◌, ℕ, zero, suc, Bool, false, List, [], ◌∷◌, drop, get_or, slice_get, Option, Some, None}
use Rattle.bridge_terms.specs.Parts.{Part, part_at, parts_of, run_of}
use Rattle.bridge_terms.specs.Plans.{Plan, Repeat, Slot, done, single, group, is_in, owns}
use Rattle.bridge_terms.specs.WayBack.{Refusal, group_missing, missing_in, slot_missing}
use Rattle.tagvalue_codec.specs.Fields.{Field}
use Rattle.field_judge.specs.declared.field.AppField.{AppField}
use Rattle.field_judge.specs.declared.level.BackGroup.{BackGroup}
use Rattle.field_judge.specs.declared.level.BackLevel.{BackLevel}
use Rattle.field_judge.specs.declared.level.BackRow.{BackRow}
use Rattle.field_judge.specs.Fields.{fields_of, part_with}
use Rattle.field_judge.specs.Levels.{IsGroupRow, IsLevel, IsNumbered, IsSlotRow}

-- a part of a level: a field or data part, or a group with the parts of its entries
pub data Head : Type 0 where
  slot_head : Slot → Head
  group_head : Repeat → Plan → Head

-- the parts of a level
abbrev pub heads : Plan → List Head
heads done = []
heads (single s rest) = slot_head s ∷ heads rest
heads (group g inner rest) = group_head g inner ∷ heads rest

-- the tag of a part
abbrev pub head_tag : Head → ℕ
head_tag (slot_head s) = s.tag
head_tag (group_head g inner) = g.tag

-- the part owns the tag
abbrev pub head_owns : Head → ℕ → ℕ → Bool
head_owns (slot_head s) owner tag = false
head_owns (group_head g inner) owner tag = is_in tag g.owned

-- what is missing in a piece
abbrev pub piece_missing : Plan → List Field → Option Refusal
piece_missing p piece = missing_in p (parts_of (owns p) piece)

-- what is missing at a part, given its field if it was found
abbrev pub head_missing : Head → Option Part → Option Refusal
head_missing (slot_head s) found = slot_missing s.tag s.rule found
head_missing (group_head g inner) found = group_missing g (piece_missing inner) found

-- the row is that of the part
abbrev pub IsHeadRow : List BackLevel → Head → BackRow → Type 0
IsHeadRow levels (slot_head s) r = IsSlotRow s r
IsHeadRow levels (group_head g inner) r =
    (b : BackGroup) × (own : BackLevel) × IsGroupRow g b r × (slice_get levels b.level ≡ Some own) × IsLevel levels inner own × IsNumbered inner

-- ---- the fields that are found

-- the part that begins with the first of these fields
abbrev pub part_from : Head → List AppField → Part
part_from h [] = part_with (head_tag h) [] []
part_from h (f ∷ fs) = part_with (head_tag h) f.text.now (run_of (head_owns h) 0 (fields_of fs))

-- the part of the field before an index; none for index 0
abbrev pub located : Head → List AppField → ℕ → Option Part
located h fields zero = None
located h fields (suc j) = Some (part_from h (drop j fields))

-- an index, or this one if it is 0
abbrev pub placed : ℕ → ℕ → ℕ
placed zero place = place
placed (suc j) place = suc j

-- the index for each part is that after its first field, or 0 if it has none
abbrev pub AreLocated : Plan → List ℕ → List AppField → Type 0
AreLocated p places fields = (k : ℕ) (h : Head) → slice_get (heads p) k ≡ Some h
    → located h fields (get_or places k 0) ≡ part_at (head_tag h) (parts_of (owns p) (fields_of fields))
