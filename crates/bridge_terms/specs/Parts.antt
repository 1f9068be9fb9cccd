-- Fields of a tag-value message, cut into the parts of one level: only a field, or a count field with the run of fields
-- that its group owns; and a run cut into the pieces of its entries. From the FIX tag-value encoding, repeating groups.
use Rattle.std.specs.Prelude.{ℕ, Bool, true, not, ◌&&◌, ◌==◌, if◌then◌else◌, List, [], ◌∷◌, map, Option, Some, None, filter, flat_map}
use Rattle.bridge_terms.specs.Plans.{is_in}
use Rattle.tagvalue_codec.specs.Fields.{Field}

-- a field and the run of fields that its group owns, which is empty if it isn't a group's
pub record Part : Type 0 where
  pub tag : ℕ
  pub text : List ℕ
  pub run : List Field

-- the run so far, and the parts after it
pub record Cut : Type 0 where
  pub run : List Field
  pub parts : List Part

-- a field before a run
abbrev pub in_run : Field → Cut → Cut
in_run f cut = record { run = f ∷ cut.run; parts = cut.parts }

-- a field that begins a part
abbrev pub of_part : Field → Cut → Cut
of_part f cut = record { run = []; parts = record { tag = f.tag; text = f.value; run = cut.run } ∷ cut.parts }

-- fields after one with the tag `owner`: its run extends as far as it owns the tags
abbrev pub cut_after : (ℕ → ℕ → Bool) → ℕ → List Field → Cut
cut_after owned owner [] = record { run = []; parts = [] }
cut_after owned owner (f ∷ fs) = if owned owner f.tag then in_run f (cut_after owned owner fs) else of_part f (cut_after owned f.tag fs)

-- the parts of fields; 0 isn't a tag, and owns nothing
abbrev pub parts_of : (ℕ → ℕ → Bool) → List Field → List Part
parts_of owned fs = (cut_after owned 0 fs).parts

-- the fields of a part
abbrev pub part_fields : Part → List Field
part_fields x = record { tag = x.tag; value = x.text } ∷ x.run

-- the fields of parts
abbrev pub fields_in : List Part → List Field
fields_in parts = flat_map part_fields parts

-- fields before the first delimiter, and the pieces from each delimiter on
pub record Pieces : Type 0 where
  pub front : List Field
  pub pieces : List (List Field)

-- a field put before those before the first delimiter
abbrev pub in_piece : Field → Pieces → Pieces
in_piece f p = record { front = f ∷ p.front; pieces = p.pieces }

-- a field that begins a piece
abbrev pub of_piece : Field → Pieces → Pieces
of_piece f p = record { front = []; pieces = (f ∷ p.front) ∷ p.pieces }

-- the pieces of a run, by the delimiter of its group
abbrev pub pieces_of : ℕ → List Field → Pieces
pieces_of delimiter [] = record { front = []; pieces = [] }
pieces_of delimiter (f ∷ fs) = if f.tag == delimiter then of_piece f (pieces_of delimiter fs) else in_piece f (pieces_of delimiter fs)

-- the part with this tag; the first if there are several
abbrev pub part_at : ℕ → List Part → Option Part
part_at tag [] = None
part_at tag (x ∷ xs) = if x.tag == tag then Some x else part_at tag xs

-- the tag of each part is among these
abbrev pub are_known : List ℕ → List Part → Bool
are_known tags [] = true
are_known tags (x ∷ xs) = is_in x.tag tags && are_known tags xs

-- no two parts have the same tag
abbrev pub are_distinct : List Part → Bool
are_distinct [] = true
are_distinct (x ∷ xs) = not (is_in x.tag (map (λ y. y.tag) xs)) && are_distinct xs

-- ---- header and length fields, which the bridge skips

-- the tags of the header, and of length fields with their data fields, by a mapping
pub record TagLists : Type 0 where
  pub header : List ℕ
  pub lengths : List (ℕ × ℕ)

-- the field is one of the application's
abbrev pub is_application : TagLists → Field → Bool
is_application lists f = not (is_in f.tag lists.header) && not (is_in f.tag (map (λ pair. pair.0) lists.lengths))

-- the fields of the application, without those of the header and of lengths
abbrev pub application_fields : TagLists → List Field → List Field
application_fields lists fs = filter (is_application lists) fs

-- ---- the same by a cursor

-- the leading fields that are owned
abbrev pub run_of : (ℕ → ℕ → Bool) → ℕ → List Field → List Field
run_of owned owner [] = []
run_of owned owner (f ∷ fs) = if owned owner f.tag then f ∷ run_of owned owner fs else []

-- the fields after the leading ones that are owned
abbrev pub rest_of : (ℕ → ℕ → Bool) → ℕ → List Field → List Field
rest_of owned owner [] = []
rest_of owned owner (f ∷ fs) = if owned owner f.tag then rest_of owned owner fs else f ∷ fs
