-- What the rules need to know of a type where it is used: whether it takes no bytes, its width, and what is nested in
-- it.
use Rattle.std.specs.Prelude.{ℕ, zero, suc, ◌+◌, ◌*◌, ◌==◌, ◌||◌, min, max, Bool, true, false, if◌then◌else◌, List, [], ◌∷◌, option_map, Option, Some, None}
use Rattle.sbe_types.specs.declared.kind.Primitive.{Primitive}
use Rattle.sbe_types.specs.declared.kind.Presence.{Presence}
use Rattle.sbe_types.specs.declared.kind.Presence.TheVariants.{Required, Optional, Constant}
use Rattle.sbe_types.specs.declared.tree.TypeEl.{TypeEl}
use Rattle.sbe_types.specs.declared.tree.EnumEl.{EnumEl}
use Rattle.sbe_types.specs.declared.tree.SetEl.{SetEl}
use Rattle.sbe_types.specs.declared.tree.FieldEl.{FieldEl}
use Rattle.sbe_types.specs.declared.tree.MemberItem.{MemberItem, Row_of-MemberItem, end_of-MemberItem, more_of-MemberItem}
use Rattle.sbe_types.specs.declared.tree.MemberItem as part
use Rattle.sbe_types.specs.declared.tree.TypesItem.{TypesItem}
use Rattle.sbe_types.specs.declared.tree.TypesItem.TheVariants as item
use Rattle.sbe_types.specs.Numbers.{prim_width}
use Rattle.sbe_types.specs.Places.{begin_of}
use Rattle.schema_rules.specs.declared.facts.Fact.{Fact}
use Rattle.schema_rules.specs.declared.encodings.Encoding.{Encoding}
use Rattle.schema_rules.specs.Names.{integral, declared_as, plain_named, type_named}
use Rattle.schema_rules.specs.Kinds.{effective, encoding_named, member_offset}

-- n, or 4,294,967,296 if it is more: no offset, length or limit is as large
abbrev pub counted : ℕ → ℕ
counted n = min n 4294967296

-- A type with length 0.
abbrev pub is_empty_type : TypeEl → Bool
is_empty_type t = t.length == 0

-- the fact of an unknown type
abbrev pub no_fact : Fact
no_fact = record { is_fixed = true; width = 0; leaves = 1; height = 0; holds_empty = false }

-- the fact of a type that isn't a composite, with this presence and width
abbrev pub simple_fact : Bool → Presence → ℕ → Fact
simple_fact empty Constant width = record { is_fixed = true; width = 0; leaves = 1; height = 0; holds_empty = empty }
simple_fact empty Required width = record { is_fixed = false; width = width; leaves = 1; height = 0; holds_empty = empty }
simple_fact empty Optional width = record { is_fixed = false; width = width; leaves = 1; height = 0; holds_empty = empty }

-- The fact of a type over this primitive, if it is over one, with the presence of its field.
abbrev pub type_fact_in : Option Presence → TypeEl → Option Primitive → Fact
type_fact_in own t None = no_fact
type_fact_in own t (Some prim) = simple_fact (is_empty_type t) (effective own t.presence) (prim_width prim * t.length)

-- The fact of a type, with the presence of its field.
abbrev pub type_fact : Option Presence → TypeEl → Fact
type_fact own t = type_fact_in own t (integral t.primitive_type)

-- The fact of an enum over this encoding, with the presence of its field.
abbrev pub enum_fact_in : Option Presence → Option Encoding → Fact
enum_fact_in own None = no_fact
enum_fact_in own (Some e) = simple_fact false (effective own e.presence) (prim_width e.leaf.prim)

-- The fact of a set over this encoding.
abbrev pub set_fact_in : Option Encoding → Fact
set_fact_in None = no_fact
set_fact_in (Some e) = simple_fact false Required (prim_width e.leaf.prim)

-- The fact of an enum, with the presence of its field.
abbrev pub enum_fact : List TypesItem → Option Presence → EnumEl → Fact
enum_fact types own e = enum_fact_in own (encoding_named types e.encoding_type)

-- the fact of a set, which is never constant
abbrev pub set_fact : List TypesItem → SetEl → Fact
set_fact types s = set_fact_in (encoding_named types s.encoding_type)

-- ---- composites

-- the fact of a composite without members
abbrev pub no_members : Fact
no_members = record { is_fixed = false; width = 0; leaves = 0; height = 1; holds_empty = false }

-- the end of the parts when one more is added: at its offset, or at their end; constants are skipped
abbrev pub past : ℕ → Option ℕ → Fact → ℕ
past reached offset fact = if fact.is_fixed then reached else counted (begin_of reached offset + fact.width)

-- the fact of a composite with one more member
abbrev pub with_member : Fact → Option ℕ → Fact → Fact
with_member all offset fact =
    record {
      is_fixed = false;
      width = past all.width offset fact;
      leaves = counted (all.leaves + fact.leaves);
      height = counted (max all.height (1 + fact.height));
      holds_empty = all.holds_empty || fact.holds_empty;
    }

abbrev mutual
  -- the fact of a member, given the facts of names
  pub member_fact : List TypesItem → (List ℕ → Fact) → MemberItem → Fact
  member_fact types facts (part.Type t) = type_fact None t
  member_fact types facts (part.Enum e) = enum_fact types None e
  member_fact types facts (part.Set s) = set_fact types s
  member_fact types facts (part.Ref r) = facts r.type_name
  member_fact types facts (part.Composite' name offset since n row) = row_fact types facts no_members row

  -- The fact of a composite with these members more.
  pub row_fact : List TypesItem → (List ℕ → Fact) → Fact → {n : _} → Row_of-MemberItem n → Fact
  row_fact types facts all end_of-MemberItem = all
  row_fact types facts all (more_of-MemberItem m rest) =
      row_fact types facts (with_member all (member_offset m) (member_fact types facts m)) rest

-- The same for a list of members.
abbrev pub members_fact : List TypesItem → (List ℕ → Fact) → Fact → List MemberItem → Fact
members_fact types facts all [] = all
members_fact types facts all (m ∷ ms) = members_fact types facts (with_member all (member_offset m) (member_fact types facts m)) ms

-- ---- names

-- The fact of a declared type, given the facts of names.
abbrev pub item_fact : List TypesItem → (List ℕ → Fact) → TypesItem → Fact
item_fact types facts (item.Type t) = type_fact None t
item_fact types facts (item.Enum e) = enum_fact types None e
item_fact types facts (item.Set s) = set_fact types s
item_fact types facts (item.Composite c) = members_fact types facts no_members c.children

-- the fact of a primitive by its name
abbrev pub primitive_fact_in : Option TypesItem → Fact
primitive_fact_in None = no_fact
primitive_fact_in (Some (item.Type t)) = type_fact None t
primitive_fact_in (Some (item.Composite c)) = no_fact
primitive_fact_in (Some (item.Enum e)) = no_fact
primitive_fact_in (Some (item.Set s)) = no_fact

-- The fact of a declared type, if there is one, else of the primitive of that name.
abbrev pub declared_or_plain : Option Fact → List ℕ → Fact
declared_or_plain (Some fact) name = fact
declared_or_plain None name = primitive_fact_in (plain_named name)

-- the fact of what a name stands for, through at most n names of declared types
abbrev pub fact_through : ℕ → List TypesItem → List ℕ → Fact
fact_through zero types name = declared_or_plain (option_map (λ t. no_fact) (declared_as types name)) name
fact_through (suc n) types name = declared_or_plain (option_map (item_fact types (fact_through n types)) (declared_as types name)) name

-- the fact of what a name stands for: four names of composites and one of a type are enough
unfoldable pub fact_named : List TypesItem → List ℕ → Fact
fact_named types name = fact_through 5 types name

-- the fact of a member of a declared composite
abbrev pub fact_of : List TypesItem → MemberItem → Fact
fact_of types m = member_fact types (fact_named types) m

-- the fact of a field, whose own presence takes precedence over its type's
abbrev pub field_fact_in : List TypesItem → FieldEl → Option TypesItem → Fact
field_fact_in types f None = no_fact
field_fact_in types f (Some (item.Type t)) = type_fact f.presence t
field_fact_in types f (Some (item.Enum e)) = enum_fact types f.presence e
field_fact_in types f (Some (item.Set s)) = set_fact types s
field_fact_in types f (Some (item.Composite c)) = fact_named types f.type_name

-- The fact of a field.
abbrev pub field_fact : List TypesItem → FieldEl → Fact
field_fact types f = field_fact_in types f (type_named types f.type_name)
