-- The rows of a group's entries, and what they begin with.
use Rattle.std.proofs.Common.{◌≡◌, ◌≤◌, ℕ, Bool, true, false, List, [], ◌∷◌, Option, Some, None, length, get_or, refl, sym, ap, ◌∙◌, arith}
use Rattle.std.specs.Prelude.{◌&&◌}
use Rattle.sbe_types.specs.declared.schema.Level.{Level, out-Level}
use Rattle.reference_graph.specs.Expansion.{Structure, ended, plain, counted}
use Rattle.structure_rows.specs.declared.row.PlaceRow.{PlaceRow}
use Rattle.structure_rows.specs.Rows.{rows_of}
use Rattle.bridge_plan.specs.Mappings.{Mapping, inner_of, delimiter_of}
use Rattle.bridge_plan.specs.Covers.{is_delimiter, inner_or}
use Rattle.bridge_cover.specs.Parts.{entries_of}

-- ---- the first row

-- the tag of a row, if it is a field's
abbrev tag_unless : ℕ → Option ℕ → Option ℕ
tag_unless tag None = Some tag
tag_unless tag (Some many) = None

-- that of the first row
abbrev front_tag : List PlaceRow → Option ℕ
front_tag [] = None
front_tag (row ∷ rest) = tag_unless row.tag row.entries

front_is : (s : Structure) → front_tag (rows_of s) ≡ delimiter_of s
front_is ended = refl
front_is (plain tag rest) = refl
front_is (counted tag inner rest) = refl

-- no row
pub no_front : (rows : List PlaceRow) → length rows ≤ 0 → (s : Structure) → rows ≡ rows_of s → None ≡ delimiter_of s
no_front [] h s is = ap front_tag is ∙ front_is s
no_front (row ∷ rest) h s is = absurd (omega arith)

-- a row that is read
pub front_read : (d : PlaceRow) (rows : List PlaceRow) → 1 ≤ length rows → (entries : Option ℕ) →
    (get_or rows 0 d).entries ≡ entries → (s : Structure) → rows ≡ rows_of s →
    tag_unless (get_or rows 0 d).tag entries ≡ delimiter_of s
front_read d [] h entries e s is = absurd (omega arith)
front_read d (row ∷ rest) h entries e s is = ap (tag_unless row.tag) (sym e) ∙ ap front_tag is ∙ front_is s

-- ---- a group

pub and_nothing : (a : Bool) → (a && false) ≡ false
and_nothing true = refl
and_nothing false = refl

-- a tag of no group has no delimiter
pub ungrouped : (m : Mapping) (s : Structure) (level : Level) (free : Bool) → inner_of (out-Level level).id s ≡ None →
    (free && is_delimiter m (out-Level level).fields (delimiter_of (entries_of s level))) ≡ false
ungrouped m s level free none = ap (λ o. free && is_delimiter m (out-Level level).fields (delimiter_of (inner_or o))) none
    ∙ and_nothing free

-- that of a group has the rows of its entries
pub grouped : (s : Structure) (level : Level) (inner : Structure) (rows : List PlaceRow) →
    inner_of (out-Level level).id s ≡ Some inner → rows ≡ rows_of inner →
    rows ≡ rows_of (entries_of s level)
grouped s level inner rows is h = h ∙ ap (λ o. rows_of (inner_or o)) (sym is)
