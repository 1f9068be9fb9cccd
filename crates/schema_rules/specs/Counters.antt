-- The composites with the counters of the wire: the message header, the dimension of a group, and the type of a data
-- part.
use Rattle.std.specs.Prelude.{ℕ, ◌==◌, ◌&&◌, Bool, true, false, List, [], ◌∷◌, length, codes, Option, Some, None, unwrap_or, pos}
use Rattle.std.specs.List.{list_any}
use Rattle.std.specs.Str.{bytes_eq}
use Rattle.sbe_types.specs.declared.kind.Primitive.{Primitive}
use Rattle.sbe_types.specs.declared.kind.Primitive.TheVariants.{Char, I8, I16, I32, I64, U8, U16, U32, U64}
use Rattle.sbe_types.specs.declared.kind.Leaf.{Leaf as LeafOf}
use Rattle.sbe_types.specs.declared.kind.Kind.{Kind, Leaf, Enum, Set, Const, Comp'}
use Rattle.sbe_types.specs.declared.kind.Member.{Member}
use Rattle.sbe_types.specs.Numbers.{prim_width}
use Rattle.schema_rules.specs.Ranges.{is_number_of}

-- The unsigned types of at most four bytes.
abbrev pub is_counter_primitive : Primitive → Bool
is_counter_primitive U8 = true
is_counter_primitive U16 = true
is_counter_primitive U32 = true
is_counter_primitive U64 = false
is_counter_primitive Char = false
is_counter_primitive I8 = false
is_counter_primitive I16 = false
is_counter_primitive I32 = false
is_counter_primitive I64 = false

-- the leaf of a kind, if it is one
abbrev pub leaf_in : Kind → Option LeafOf
leaf_in (Leaf l) = Some l
leaf_in (Enum l names) = None
leaf_in (Set p names) = None
leaf_in (Const c) = None
leaf_in (Comp' n row) = None

-- one uint8, uint16 or uint32 that isn't constant
abbrev pub is_counter : Option LeafOf → Bool
is_counter None = false
is_counter (Some l) = is_counter_primitive l.prim && l.length == 1

-- The members have a counter of that name.
abbrev pub has_counter : List Member → List ℕ → Bool
has_counter members name = list_any (λ m. bytes_eq name m.name && is_counter (leaf_in m.kind)) members

-- The members have counters of both names.
abbrev pub has_both : List Member → List ℕ → List ℕ → Bool
has_both members one other = has_counter members one && has_counter members other

-- the message header: exactly these four counters, in any order (SBE 1.0, "Message header")
abbrev pub is_header : List Member → Bool
is_header members =
    length members == 4
    && (has_both members (codes "blockLength") (codes "templateId") && has_both members (codes "schemaId") (codes "version"))

-- the dimension of a group: exactly these two counters, in any order (SBE 1.0, "Repeating group dimension encoding")
abbrev pub is_dimension : List Member → Bool
is_dimension members = length members == 2 && has_both members (codes "blockLength") (codes "numInGroup")

-- The types of the bytes of a data part.
abbrev pub is_body_primitive : Primitive → Bool
is_body_primitive U8 = true
is_body_primitive Char = true
is_body_primitive U16 = false
is_body_primitive U32 = false
is_body_primitive U64 = false
is_body_primitive I8 = false
is_body_primitive I16 = false
is_body_primitive I32 = false
is_body_primitive I64 = false

-- a length, and directly after it as many bytes as it says
abbrev pub are_length_and_body : Option LeafOf → Option LeafOf → Option ℕ → Bool
are_length_and_body None body offset = false
are_length_and_body (Some l) None offset = false
are_length_and_body (Some l) (Some b) offset =
    is_counter (Some l) && ((is_body_primitive b.prim && b.length == 0) && unwrap_or offset (prim_width l.prim) == prim_width l.prim)

-- the type of a data part: a length first and the bytes directly after it (SBE 1.0, "Variable-length data encoding")
abbrev pub is_data : List Member → Bool
is_data [] = false
is_data (m ∷ []) = false
is_data (m ∷ (v ∷ [])) =
    (bytes_eq (codes "length") m.name && bytes_eq (codes "varData") v.name)
    && (unwrap_or m.offset 0 == 0 && are_length_and_body (leaf_in m.kind) (leaf_in v.kind) v.offset)
is_data (m ∷ (v ∷ (w ∷ ms))) = false

-- A leaf can hold the number.
abbrev pub holds_in : Option LeafOf → ℕ → Bool
holds_in None n = false
holds_in (Some l) n = is_number_of l.prim (pos n)

-- the member of that name can hold the number, whatever its range
abbrev pub holds : List Member → List ℕ → ℕ → Bool
holds members name n = list_any (λ m. bytes_eq name m.name && holds_in (leaf_in m.kind) n) members
