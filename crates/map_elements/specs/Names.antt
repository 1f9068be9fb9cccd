-- The names of elements, and the forms of attributes.
use Rattle.std.specs.Prelude.{ℕ, ◌&&◌, nat_le, nat_eq, if◌then◌else◌, List, codes, length, Ok, ℤ, pos, negsuc}
use Rattle.std.specs.List.{list_any}
use Rattle.std.specs.Str.{bytes_eq}
use Rattle.serde_json.specs.Data.{Data}
use Rattle.json_elements.specs.declared.refusal.Cause.TheVariants.{BadAttribute}
use Rattle.json_elements.specs.Reading.{Reading, ◌>>=◌, refuse}
use Rattle.json_elements.specs.Forms.{whole, text}
use Rattle.map_elements.specs.declared.element_name.ElementName.{ElementName}
use Rattle.map_elements.specs.declared.element_name.ElementName.TheVariants as element
use Rattle.map_elements.specs.declared.form.TheConstants.{ID_LIMIT, TEXT_LIMIT}

-- the element with this name, without prefix
abbrev pub element_of : List ℕ → ElementName
element_of name =
    if bytes_eq name (codes "repository") then element.Repository
    else if bytes_eq name (codes "datatypes") then element.Datatypes
    else if bytes_eq name (codes "datatype") then element.Datatype
    else if bytes_eq name (codes "codeSets") then element.CodeSets
    else if bytes_eq name (codes "codeSet") then element.CodeSet
    else if bytes_eq name (codes "code") then element.Code
    else if bytes_eq name (codes "fields") then element.Fields
    else if bytes_eq name (codes "field") then element.Field
    else if bytes_eq name (codes "components") then element.Components
    else if bytes_eq name (codes "component") then element.Component
    else if bytes_eq name (codes "groups") then element.Groups
    else if bytes_eq name (codes "group") then element.Group
    else if bytes_eq name (codes "messages") then element.Messages
    else if bytes_eq name (codes "message") then element.Message
    else if bytes_eq name (codes "structure") then element.Structure
    else if bytes_eq name (codes "numInGroup") then element.NumInGroup
    else if bytes_eq name (codes "fieldRef") then element.FieldRef
    else if bytes_eq name (codes "groupRef") then element.GroupRef
    else if bytes_eq name (codes "componentRef") then element.ComponentRef
    else element.Other

-- an id, from 1 to 999999999
abbrev pub id_in : ℤ → Reading ℕ
id_in (pos n) = if nat_le 1 n && nat_le n ID_LIMIT then Ok n else refuse BadAttribute
id_in (negsuc n) = refuse BadAttribute

-- An id.
abbrev pub an_id : Data → Reading ℕ
an_id d = whole d >>= id_in

-- a text of 1 to 64 bytes
abbrev pub short_in : List ℕ → Reading (List ℕ)
short_in s = if nat_le 1 (length s) && nat_le (length s) TEXT_LIMIT then Ok s else refuse BadAttribute

-- a text of 1 to 64 bytes without SOH, which ends a field of tag-value text
abbrev pub plain_in : List ℕ → Reading (List ℕ)
plain_in s = if list_any (nat_eq 1) s then refuse BadAttribute else short_in s

-- A msgType.
abbrev pub a_msg_type : Data → Reading (List ℕ)
a_msg_type d = text d >>= plain_in

-- A code's value.
abbrev pub a_code_value : Data → Reading (List ℕ)
a_code_value d = text d >>= short_in
