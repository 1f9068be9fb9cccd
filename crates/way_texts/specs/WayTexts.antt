-- The text of the path to a place: the names of parts, joined by dots, with `[i]` for an entry. Own profile.
use Rattle.std.specs.Prelude.{◌≡◌, ℕ, ◌==◌, if◌then◌else◌, List, [], ◌∷◌, ◌++◌, Option, Some, None, codes, slice_get}
use Rattle.sbe_types.specs.declared.schema.Field.{Field}
use Rattle.sbe_types.specs.declared.schema.DataField.{DataField}
use Rattle.sbe_types.specs.declared.schema.Group.{Group, out-Group}
use Rattle.sbe_types.specs.declared.schema.Level.{Level, out-Level}
use Rattle.layout_tables.specs.Paths.{bracketed}
use Rattle.bridge_rules.specs.Rules.{Rule}
use Rattle.bridge_terms.specs.Parts.{TagLists}
use Rattle.bridge_terms.specs.Places.{Way, to_part, to_entry}
use Rattle.bridge_terms.specs.Plans.{Plan, Place, in_fields, in_data, done, single, group}
use Rattle.message_walk.specs.declared.plan.PlanRow.{PlanRow}
use Rattle.message_walk.specs.Rows.{AreRows}

-- ---- names

-- the name of a field, if it is there
abbrev pub field_name : Option Field → List ℕ
field_name None = []
field_name (Some f) = f.name

-- the name of a data part, if it is there
abbrev pub data_name : Option DataField → List ℕ
data_name None = []
data_name (Some d) = d.name

-- the name of a field or data part
abbrev pub place_name : Place → Level → List ℕ
place_name (in_fields i) level = field_name (slice_get (out-Level level).fields i)
place_name (in_data i) level = data_name (slice_get (out-Level level).parts i)

-- ---- paths

-- the tag of the part that a path begins with, if it does
abbrev pub first_part : List Way → Option ℕ
first_part [] = None
first_part (to_part tag ∷ way) = Some tag
first_part (to_entry i ∷ way) = None

-- the number of the entry that a path begins with, if it does
abbrev pub first_entry : List Way → Option ℕ
first_entry [] = None
first_entry (to_part tag ∷ way) = None
first_entry (to_entry i ∷ way) = Some i

-- the text from a part on inside an entry
abbrev pub inside_text : (ℕ → List Way → List ℕ) → List Way → List ℕ
inside_text more [] = []
inside_text more (to_part tag ∷ way) = codes "." ++ more tag way
inside_text more (to_entry i ∷ way) = []

-- the text from an entry on
abbrev pub entry_text : (List Way → List ℕ) → List Way → List ℕ
entry_text more [] = []
entry_text more (to_part tag ∷ way) = []
entry_text more (to_entry i ∷ way) = bracketed i ++ more way

-- the text from a group on
abbrev pub group_text : Option Group → (Level → List Way → List ℕ) → List Way → List ℕ
group_text None more way = []
group_text (Some g) more way = (out-Level (out-Group g).level).name ++ entry_text (more (out-Group g).level) way

-- the text from the part with this tag on
abbrev pub part_text : Plan → Level → ℕ → List Way → List ℕ
part_text done level tag way = []
part_text (single s rest) level tag way = if s.tag == tag then place_name s.place level else part_text rest level tag way
part_text (group g inner rest) level tag way =
    if g.tag == tag
    then group_text (slice_get (out-Level level).groups g.place) (λ below more. inside_text (λ t w. part_text inner below t w) more) way
    else part_text rest level tag way

-- the text of a path from the root on
abbrev pub way_text : Plan → Level → List Way → List ℕ
way_text p level [] = []
way_text p level (to_part tag ∷ way) = part_text p level tag way
way_text p level (to_entry i ∷ way) = []

-- ---- the same from a part on

-- the text from the plan's first part on
abbrev pub first_text : Plan → Level → List Way → List ℕ
first_text done level way = []
first_text (single s rest) level way = place_name s.place level
first_text (group g inner rest) level way =
    group_text (slice_get (out-Level level).groups g.place) (λ below more. inside_text (λ t w. part_text inner below t w) more) way

-- the rows are those of a plan from the part with this tag on
pub record FromPart {R : Type 0} (spells : R → Rule → Type 0) (lists : TagLists) (p : Plan) (tag : ℕ) (level : Level) (rows : List (PlanRow R)) : Type 0 where
  pub plan : Plan
  pub rows_are : AreRows spells lists plan rows
  pub text : (way : List Way) → part_text p level tag way ≡ first_text plan level way
