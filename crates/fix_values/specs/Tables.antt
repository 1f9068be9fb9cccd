-- What the code stores while it works: a set's text as it grows, and tables of 256 marks, one for each byte. Own
-- profile.
use Rattle.std.specs.Prelude.{ℕ, Bool, true, false, not, ◌&&◌, ◌==◌, List, [], ◌∷◌, ◌++◌, filter, slice_index, slice_index_or, slice_set}
use Rattle.std.specs.List.{list_all}
use Rattle.fix_values.specs.declared.rule.Code.{Code}
use Rattle.fix_values.specs.Codes.{every_other}

-- a space, after a text that isn't empty
abbrev pub space_after : List ℕ → List ℕ
space_after [] = []
space_after (b ∷ bs) = 32 ∷ []

-- a text with one more code
abbrev pub with_code : List ℕ → Code → List ℕ
with_code text code = text ++ (space_after text ++ code.text)

-- a text with more codes
abbrev pub with_codes : List ℕ → List Code → List ℕ
with_codes text [] = text
with_codes text (code ∷ codes) = with_codes (with_code text code) codes

-- whether a byte is marked
abbrev pub is_marked : List Bool → ℕ → Bool
is_marked marks b = slice_index_or marks b false

-- The marks, with that of a byte set.
abbrev pub marked : List Bool → ℕ → List Bool
marked marks b = slice_set marks b true

-- the bytes continue a set's text: a space is due (`space`), or else a character that isn't marked
abbrev pub goes_on : Bool → List Bool → List ℕ → Bool
goes_on space marks [] = space
goes_on true marks (b ∷ bs) = (b == 32) && goes_on false marks bs
goes_on false marks (b ∷ bs) = not (is_marked marks b) && goes_on true (marked marks b) bs

-- the marks after these bytes
abbrev pub marks_of : Bool → List Bool → List ℕ → List Bool
marks_of space marks [] = marks
marks_of true marks (b ∷ bs) = marks_of false marks bs
marks_of false marks (b ∷ bs) = marks_of true (marked marks b) bs

-- the first byte of a code's text
abbrev pub first_byte : Code → ℕ
first_byte code = slice_index code.text 0

-- whether a code's text is marked
abbrev pub is_marked_code : List Bool → Code → Bool
is_marked_code marks code = is_marked marks (first_byte code)

-- the codes whose first byte is marked
abbrev pub marked_codes : List Bool → List Code → List Code
marked_codes marks codes = filter (is_marked_code marks) codes

-- the marks, with those of the codes' first bytes set
abbrev pub with_marks : List Bool → List Code → List Bool
with_marks marks [] = marks
with_marks marks (code ∷ codes) = with_marks (marked marks (first_byte code)) codes

-- every other byte is marked
abbrev pub are_marked : Bool → List Bool → List ℕ → Bool
are_marked here marks text = list_all (is_marked marks) (every_other here text)
