-- The levels of a plan. Own profile.
use Rattle.std.specs.Prelude.{◌≡◌, ℕ, Bool, false, List, [], ◌∷◌, slice_get, Option, Some}
use Rattle.fix_values.specs.Numerals.{integer_of}
use Rattle.bridge_rules.specs.Values.{value_by}
use Rattle.tagvalue_codec.specs.Fields.{Field}
use Rattle.bridge_terms.specs.Parts.{Part, parts_of}
use Rattle.bridge_terms.specs.PlanFacts.{IsPlaced}
use Rattle.bridge_terms.specs.Plans.{Plan, Repeat, Slot, done, single, group, all_tags, is_in, owns, tags}
use Rattle.bridge_terms.specs.WayBack.{Refusal, count_read, group_wrong, text_wrong, wrong_at, wrong_in_order}
use Rattle.text_values.specs.declared.row.TextValue.{TextValue}
use Rattle.text_values.specs.Rows.{Reads}
use Rattle.field_judge.specs.declared.level.BackGroup.{BackGroup}
use Rattle.field_judge.specs.declared.level.BackLevel.{BackLevel}
use Rattle.field_judge.specs.declared.level.BackPart.TheVariants as part
use Rattle.field_judge.specs.declared.level.BackRow.{BackRow}

-- the row is that of a field or data part
pub record IsSlotRow (s : Slot) (r : BackRow) : Type 0 where
  pub tag : r.tag ≡ s.tag
  pub row : TextValue
  pub is : r.part ≡ part.Value row
  pub reads : Reads row s.rule

-- the row is that of a group
pub record IsGroupRow (g : Repeat) (b : BackGroup) (r : BackRow) : Type 0 where
  pub tag : r.tag ≡ g.tag
  pub is : r.part ≡ part.Group b
  pub delimiter : b.delimiter ≡ g.delimiter
  pub count : b.count ≡ g.count
  pub owned : b.owned ≡ g.owned

-- the rows are those of the plan, and the levels of its groups are among these
abbrev pub AreRows : List BackLevel → Plan → List BackRow → Type 0
AreRows levels done rows = rows ≡ []
AreRows levels (single s rest) rows = (r : BackRow) × (others : List BackRow) × (rows ≡ r ∷ others) × IsSlotRow s r × AreRows levels rest others
AreRows levels (group g inner rest) rows =
    (r : BackRow) × (b : BackGroup) × (own : BackLevel) × (others : List BackRow) × (rows ≡ r ∷ others) × IsGroupRow g b r
    × (slice_get levels b.level ≡ Some own) × (own.tags ≡ tags inner) × AreRows levels inner own.rows × AreRows levels rest others

-- the level is that of a plan
pub record IsLevel (levels : List BackLevel) (p : Plan) (level : BackLevel) : Type 0 where
  pub tags : level.tags ≡ tags p
  pub rows : AreRows levels p level.rows

-- no tag occurs twice at a level, and none is 0
pub record IsNumbered (p : Plan) : Type 0 where
  pub placed : IsPlaced p
  pub numbered : is_in 0 (all_tags p) ≡ false

-- ---- the row with a tag

-- a tag is among these, whoever owns it
abbrev pub owned_by : List ℕ → ℕ → ℕ → Bool
owned_by owned owner tag = is_in tag owned

-- what is wrong in a piece
abbrev pub piece_wrong : Plan → List Field → Option Refusal
piece_wrong p piece = wrong_in_order (wrong_at p) [] (parts_of (owns p) piece)

-- the row is that of the part with the row's tag
pub data IsRowOf (levels : List BackLevel) (p : Plan) (r : BackRow) : Type 0 where
  of_slot : (s : Slot) → IsSlotRow s r
      → ((x : Part) → x.tag ≡ r.tag → wrong_at p x ≡ text_wrong x.tag (value_by s.rule x.text))
      → ((tag : ℕ) → owns p r.tag tag ≡ false) → IsRowOf levels p r
  of_group : (g : Repeat) (inner : Plan) (b : BackGroup) (own : BackLevel) → IsGroupRow g b r
      → slice_get levels b.level ≡ Some own → IsLevel levels inner own → IsNumbered inner
      → ((x : Part) → x.tag ≡ r.tag → wrong_at p x ≡ group_wrong g (piece_wrong inner) x (count_read g.count (integer_of x.text)))
      → ((tag : ℕ) → owns p r.tag tag ≡ is_in tag g.owned) → IsRowOf levels p r
