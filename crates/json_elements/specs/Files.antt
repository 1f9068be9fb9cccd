-- A file: its size, how it begins, and its JSON value.
use Rattle.std.specs.Prelude.{ℕ, ◌&&◌, ◌||◌, ◌==◌, nat_le, nat_lt, Bool, false, if◌then◌else◌, List, [], ◌∷◌, length, drop, slice_index, Option, Some, None, Ok}
use Rattle.std.specs.Str.{is_utf8}
use Rattle.serde_json.specs.Data.{Data}
use Rattle.serde_json.specs.Read.{read}
use Rattle.json_elements.specs.declared.refusal.Cause.TheVariants.{Xml, NotJson, Limit}
use Rattle.json_elements.specs.declared.file.TheConstants.{FILE_LIMIT}
use Rattle.json_elements.specs.Reading.{Reading, refuse}

-- Space, tab, line feed or carriage return.
abbrev pub is_blank : ℕ → Bool
is_blank c = (c == 32) || (c == 9) || (c == 10) || (c == 13)

-- whether the first byte after blanks is `<`
abbrev pub is_tag : List ℕ → Bool
is_tag [] = false
is_tag (c ∷ cs) = if is_blank c then is_tag cs else (c == 60)

-- whether the file begins with a byte order mark
abbrev pub has_mark : List ℕ → Bool
has_mark bytes = nat_le 3 (length bytes) && (slice_index bytes 0 == 0xef) && (slice_index bytes 1 == 0xbb) && (slice_index bytes 2 == 0xbf)

-- whether the file begins as XML does, after a byte order mark and blanks
abbrev pub is_xml : List ℕ → Bool
is_xml bytes = is_tag (if has_mark bytes then drop 3 bytes else bytes)

-- the value of a JSON text (RFC 8259), as `serde_json` reads it
abbrev pub json_value : List ℕ → Option Data
json_value bytes = if is_utf8 bytes then read bytes else None

-- The JSON value of a file, which it must have.
abbrev pub found_value : Option Data → Reading Data
found_value None = refuse NotJson
found_value (Some d) = Ok d

-- the value of a file
abbrev pub value_of : List ℕ → Reading Data
value_of bytes =
    if nat_lt FILE_LIMIT (length bytes) then refuse Limit
    else if is_xml bytes then refuse Xml
    else found_value (json_value bytes)
