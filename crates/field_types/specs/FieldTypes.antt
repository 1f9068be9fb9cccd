-- The datatype of a mapping's field: a code set hides the datatype with its name. From FIX Orchestra, fields, datatypes
-- and code sets. Own profile: which datatypes are bridged.
use Rattle.std.specs.Prelude.{◌≡◌, ℕ, Bool, true, if◌then◌else◌, List, [], ◌∷◌, map, codes, Option, Some, None, is_some}
use Rattle.std.specs.List.{list_all, AllByRecursion}
use Rattle.std.specs.Str.{bytes_eq}
use Rattle.map_types.specs.declared.tree.CodeEl.{CodeEl}
use Rattle.map_types.specs.declared.tree.CodeSetEl.{CodeSetEl}
use Rattle.map_types.specs.declared.tree.FieldEl.{FieldEl}
use Rattle.map_rules.specs.Datatypes.{is_one_of, is_int_type, is_decimal_type}
use Rattle.bridge_rules.specs.Datatypes.{NamedCode, Datatype, whole_number, decimal_number, character, text, boolean, timestamp, time_of_day, calendar_day, month_of_year, raw, code_set, character_set, unbridged}
use Rattle.bridge_rules.specs.Bounds.{is_short}

-- the name and the value of a code
abbrev pub named_code : CodeEl → NamedCode
named_code c = record { name = c.name; text = c.value }

-- the datatype of the fields of a code set
abbrev pub set_type : CodeSetEl → Datatype
set_type s = if bytes_eq s.type_name (codes "MultipleCharValue") then character_set (map named_code s.children) else code_set (map named_code s.children)

-- the code set with this name
abbrev pub set_named : List ℕ → List CodeSetEl → Option CodeSetEl
set_named name [] = None
set_named name (s ∷ ss) = if bytes_eq s.name name then Some s else set_named name ss

-- texts without further rules
abbrev pub is_plain_text : List ℕ → Bool
is_plain_text = is_one_of (codes "String" ∷ (codes "Currency" ∷ (codes "Country" ∷ (codes "Exchange" ∷ []))))

-- days without a time
abbrev pub is_day_type : List ℕ → Bool
is_day_type = is_one_of (codes "UTCDateOnly" ∷ (codes "LocalMktDate" ∷ []))

-- data, which is bridged only if it has a length field
abbrev pub data_type : Bool → Datatype
data_type has_length = if has_length then raw else unbridged

-- a datatype of FIX, by its name
abbrev pub standard_type : Bool → List ℕ → Datatype
standard_type has_length name =
    if is_int_type name then whole_number
    else if is_decimal_type name then decimal_number
    else if is_plain_text name then text
    else if bytes_eq name (codes "char") then character
    else if bytes_eq name (codes "Boolean") then boolean
    else if bytes_eq name (codes "UTCTimestamp") then timestamp
    else if bytes_eq name (codes "UTCTimeOnly") then time_of_day
    else if is_day_type name then calendar_day
    else if bytes_eq name (codes "MonthYear") then month_of_year
    else if bytes_eq name (codes "data") then data_type has_length
    else unbridged

-- the datatype of a code set, if it was found, else the one of FIX
abbrev pub type_by : Bool → List ℕ → Option CodeSetEl → Datatype
type_by has_length name (Some s) = set_type s
type_by has_length name None = standard_type has_length name

-- the datatype of a field, by the code sets of its mapping
abbrev pub field_type : List CodeSetEl → FieldEl → Datatype
field_type sets f = type_by (is_some f.length_id) f.type_name (set_named f.type_name sets)

-- the value of each code has 1 to 64 bytes
abbrev pub HasShortCodes : CodeSetEl → Type 0
HasShortCodes s = list_all (λ (c : CodeEl). is_short c.value) s.children ≡ true

-- the same for each code set
abbrev pub AreShort : List CodeSetEl → Type 0
AreShort sets = AllByRecursion HasShortCodes sets

-- the datatypes of fields, by tag
abbrev pub datatypes_of : List CodeSetEl → List FieldEl → List (ℕ × Datatype)
datatypes_of sets fields = map (λ (f : FieldEl). (f.id, field_type sets f)) fields
