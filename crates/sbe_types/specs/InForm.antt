-- What holds of the tree of a schema, whoever read it: its names have their form, and its numbers and lists are within
-- their limits. From SBE 1.0, "Message schema"; the limits are own profile.
use Rattle.std.specs.Prelude.{◌≡◌, ℕ, suc, ◌&&◌, ◌||◌, ◌==◌, ◌≤◌, nat_le, nat_lt, Bool, true, List, length, slice_index, Option, Some, None, ⊤}
use Rattle.std.specs.List.{AllByRecursion, list_all}
use Rattle.sbe_types.specs.declared.limits.TheConstants.{NAME_LIMIT, LENGTH_LIMIT, PLACE_LIMIT, MEMBER_LIMIT, VALUE_LIMIT, PART_LIMIT}
use Rattle.sbe_types.specs.declared.tree.TypeEl.{TypeEl}
use Rattle.sbe_types.specs.declared.tree.EnumEl.{EnumEl}
use Rattle.sbe_types.specs.declared.tree.SetEl.{SetEl}
use Rattle.sbe_types.specs.declared.tree.RefEl.{RefEl}
use Rattle.sbe_types.specs.declared.tree.CompositeEl.{CompositeEl}
use Rattle.sbe_types.specs.declared.tree.MemberItem.{MemberItem, Row_of-MemberItem, end_of-MemberItem, more_of-MemberItem}
use Rattle.sbe_types.specs.declared.tree.MemberItem as member
use Rattle.sbe_types.specs.declared.tree.TypesItem.{TypesItem}
use Rattle.sbe_types.specs.declared.tree.TypesItem.TheVariants as item
use Rattle.sbe_types.specs.declared.tree.FieldEl.{FieldEl}
use Rattle.sbe_types.specs.declared.tree.PartItem.{PartItem, Row_of-PartItem, end_of-PartItem, more_of-PartItem}
use Rattle.sbe_types.specs.declared.tree.PartItem as part
use Rattle.sbe_types.specs.declared.tree.MessageEl.{MessageEl}
use Rattle.sbe_types.specs.declared.tree.SchemaItem.{SchemaItem}
use Rattle.sbe_types.specs.declared.tree.SchemaItem.TheVariants as child
use Rattle.sbe_types.specs.declared.tree.Schema.{Schema}

-- ---- names and numbers

-- A byte with which a name may begin: an ASCII letter or `_`.
abbrev pub is_letter : ℕ → Bool
is_letter c = (nat_le 65 c && nat_le c 90) || (nat_le 97 c && nat_le c 122) || (c == 95)

-- A byte that may follow in a name: an ASCII letter, a digit or `_`.
abbrev pub is_name_byte : ℕ → Bool
is_name_byte c = is_letter c || (nat_le 48 c && nat_le c 57)

-- a letter or `_`, then letters, digits and `_`
abbrev pub is_name : List ℕ → Bool
is_name s = nat_lt 0 (length s) && is_letter (slice_index s 0) && list_all is_name_byte s

-- A name of at most 64 bytes.
pub record IsName (name : List ℕ) : Type 0 where
  pub form : is_name name ≡ true
  pub short : length name ≤ NAME_LIMIT

-- An offset or a block length, if it is stated, is within its limit.
abbrev pub IsWithin : Option ℕ → Type 0
IsWithin None = ⊤
IsWithin (Some place) = place ≤ PLACE_LIMIT

-- ---- types

-- A type's name, the number of its primitives, and its offset.
pub record IsTypeInForm (t : TypeEl) : Type 0 where
  pub name : IsName t.name
  pub primitives : t.length ≤ LENGTH_LIMIT
  pub place : IsWithin t.offset

-- An enum's name, its valid values, and its offset.
pub record IsEnumInForm (e : EnumEl) : Type 0 where
  pub name : IsName e.name
  pub count : length e.children ≤ VALUE_LIMIT
  pub values : AllByRecursion (λ v. IsName v.name) e.children
  pub place : IsWithin e.offset

-- A set's name, its choices, and its offset.
pub record IsSetInForm (s : SetEl) : Type 0 where
  pub name : IsName s.name
  pub choices : AllByRecursion (λ c. IsName c.name) s.children
  pub place : IsWithin s.offset

-- A ref's name and its offset.
pub record IsRefInForm (r : RefEl) : Type 0 where
  pub name : IsName r.name
  pub place : IsWithin r.offset

-- The number of members.
abbrev pub count_members : {n : _} → Row_of-MemberItem n → ℕ
count_members end_of-MemberItem = 0
count_members (more_of-MemberItem m rest) = suc (count_members rest)

abbrev mutual
  -- A member of a composite, and those inside it.
  pub IsMemberInForm : MemberItem → Type 0
  IsMemberInForm (member.Type t) = IsTypeInForm t
  IsMemberInForm (member.Enum e) = IsEnumInForm e
  IsMemberInForm (member.Set s) = IsSetInForm s
  IsMemberInForm (member.Ref r) = IsRefInForm r
  IsMemberInForm (member.Composite' name offset since n row) = IsName name × IsWithin offset × (count_members row ≤ MEMBER_LIMIT) × AreMembersInForm row

  -- The members of a composite.
  pub AreMembersInForm : {n : _} → Row_of-MemberItem n → Type 0
  AreMembersInForm end_of-MemberItem = ⊤
  AreMembersInForm (more_of-MemberItem m rest) = IsMemberInForm m × AreMembersInForm rest

-- A declared composite's name and its members.
pub record IsCompositeInForm (c : CompositeEl) : Type 0 where
  pub name : IsName c.name
  pub count : length c.children ≤ MEMBER_LIMIT
  pub members : AllByRecursion IsMemberInForm c.children

-- A declared type.
abbrev pub IsDeclaredInForm : TypesItem → Type 0
IsDeclaredInForm (item.Type t) = IsTypeInForm t
IsDeclaredInForm (item.Composite c) = IsCompositeInForm c
IsDeclaredInForm (item.Enum e) = IsEnumInForm e
IsDeclaredInForm (item.Set s) = IsSetInForm s

-- ---- messages

-- A field's name and its offset.
pub record IsFieldInForm (f : FieldEl) : Type 0 where
  pub name : IsName f.name
  pub place : IsWithin f.offset

-- The number of parts.
abbrev pub count_parts : {n : _} → Row_of-PartItem n → ℕ
count_parts end_of-PartItem = 0
count_parts (more_of-PartItem p rest) = suc (count_parts rest)

abbrev mutual
  -- A part of a level, and those inside it.
  pub IsPartInForm : PartItem → Type 0
  IsPartInForm (part.Field f) = IsFieldInForm f
  IsPartInForm (part.Data d) = IsName d.name
  IsPartInForm (part.Group' name id dimension since block n row) = IsName name × IsWithin block × (count_parts row ≤ PART_LIMIT) × ArePartsInForm row

  -- The parts of a level.
  pub ArePartsInForm : {n : _} → Row_of-PartItem n → Type 0
  ArePartsInForm end_of-PartItem = ⊤
  ArePartsInForm (more_of-PartItem p rest) = IsPartInForm p × ArePartsInForm rest

-- A message's name, its block and its parts.
pub record IsMessageInForm (m : MessageEl) : Type 0 where
  pub name : IsName m.name
  pub block : IsWithin m.block_length
  pub count : length m.children ≤ PART_LIMIT
  pub parts : AllByRecursion IsPartInForm m.children

-- ---- the schema

-- A child of the schema.
abbrev pub IsChildInForm : SchemaItem → Type 0
IsChildInForm (child.Types el) = AllByRecursion IsDeclaredInForm el.children
IsChildInForm (child.Message m) = IsMessageInForm m

-- A schema whose declared types and messages are all in form.
abbrev pub IsInForm : Schema → Type 0
IsInForm schema = AllByRecursion IsChildInForm schema.children
