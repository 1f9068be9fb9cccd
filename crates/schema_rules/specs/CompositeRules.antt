-- The rules for declared types: those for composites and their members, and the visit of both.
use Rattle.std.specs.Prelude.{ℕ, ◌+◌, ◌==◌, ◌&&◌, ◌||◌, not, min, nat_lt, Bool, true, false, List, [], ◌∷◌, ◌++◌, codes, Option, Some, None, Ok}
use Rattle.sbe_types.specs.declared.limits.TheConstants.{PLACE_LIMIT}
use Rattle.sbe_types.specs.declared.tree.CompositeEl.{CompositeEl}
use Rattle.sbe_types.specs.declared.tree.RefEl.{RefEl}
use Rattle.sbe_types.specs.declared.tree.MemberItem.{MemberItem, Row_of-MemberItem, end_of-MemberItem, more_of-MemberItem}
use Rattle.sbe_types.specs.declared.tree.MemberItem as part
use Rattle.sbe_types.specs.declared.tree.TypesItem.{TypesItem}
use Rattle.sbe_types.specs.declared.tree.TypesItem.TheVariants as item
use Rattle.sbe_types.specs.Places.{begin_of}
use Rattle.schema_rules.specs.declared.codes.CCode.TheVariants as rule
use Rattle.schema_rules.specs.Judging.{CheckResult, ◌>>=◌, Rules, first_of, at_element}
use Rattle.schema_rules.specs.Names.{name_of, is_among, type_named, names_fraction}
use Rattle.std.specs.Prelude.{is_none}
use Rattle.schema_rules.specs.Kinds.{member_name, member_offset}
use Rattle.schema_rules.specs.Chains.{is_endless}
use Rattle.schema_rules.specs.declared.facts.Fact.{Fact}
use Rattle.schema_rules.specs.Facts.{no_members, with_member, fact_of, fact_named}
use Rattle.schema_rules.specs.TypeRules.{type_rules, type_constant_rules, enum_rules, set_rules}

-- ---- limits

-- the greatest width of a composite, and length of a block
abbrev pub most_bytes : ℕ
most_bytes = PLACE_LIMIT

-- The most leaves of a composite.
abbrev pub most_leaves : ℕ
most_leaves = 256

-- the most composites nested in one another
abbrev pub most_composites : ℕ
most_composites = 4

-- ---- a composite, and what is before a member of it

-- the declared types, and how many composites are around; more than five count as five
pub record Inside : Type 0 where
  pub types : List TypesItem
  pub around : ℕ

-- One more composite around.
abbrev pub deeper : Inside → Inside
deeper inside = record { types = inside.types; around = min (inside.around + 1) 5 }

-- the names of the members before, and the fact of the composite of these members alone
pub record MembersBefore : Type 0 where
  pub names : List (List ℕ)
  pub all : Fact

-- Before the first member.
abbrev pub no_member : MembersBefore
no_member = record { names = []; all = no_members }

-- The members before, and one more.
abbrev pub with_one : List TypesItem → MembersBefore → MemberItem → MembersBefore
with_one types before m =
    record { names = before.names ++ member_name m ∷ []; all = with_member before.all (member_offset m) (fact_of types m) }

-- ---- the rules

-- The sinceVersion of a member.
abbrev pub member_since : MemberItem → ℕ
member_since (part.Type t) = t.since_version
member_since (part.Enum e) = e.since_version
member_since (part.Set s) = s.since_version
member_since (part.Ref r) = r.since_version
member_since (part.Composite' name offset since n row) = since

-- C08 Offset: its offset is before the end of the part before it, and it isn't a constant.
abbrev pub begins_early : ℕ → Option ℕ → Fact → Bool
begins_early reached offset fact = not fact.is_fixed && nat_lt (begin_of reached offset) reached

-- C13 DuplicateName: a member's name occurs earlier in its composite. C15 Since: its sinceVersion is above 0, although
-- it is a composite member's.
abbrev pub member_rules : List TypesItem → MembersBefore → MemberItem → Rules
member_rules types before m =
    (rule.Offset, begins_early before.all.width (member_offset m) (fact_of types m))
    ∷ ((rule.DuplicateName, is_among before.names (member_name m))
    ∷ ((rule.Since, nat_lt 0 (member_since m))
    ∷ []))

-- C02 UnknownType and C03 Float, for the type that a ref names.
abbrev pub ref_rules : List TypesItem → RefEl → Rules
ref_rules types r =
    (rule.UnknownType, is_none (type_named types r.type_name))
    ∷ ((rule.Float, names_fraction types r.type_name)
    ∷ [])

-- The composites around a ref and the height of what it names are too many. A type, an enum and a set have no height.
abbrev pub is_too_high : ℕ → ℕ → Bool
is_too_high around height = nat_lt 0 height && nat_lt most_composites (around + height)

-- C17 Depth, for a ref: it names a composite, and the composites around it and the height of that one are more than
-- four.
abbrev pub names_too_high : Inside → RefEl → Bool
names_too_high inside r = is_too_high inside.around (fact_named inside.types r.type_name).height

-- A type is there, and is an enum.
abbrev pub is_enum : Option TypesItem → Bool
is_enum None = false
is_enum (Some (item.Type t)) = false
is_enum (Some (item.Composite c)) = false
is_enum (Some (item.Enum e)) = true
is_enum (Some (item.Set s)) = false

-- C19 Presence, for an enum in a composite: it is constant, but a valueRef isn't possible there.
abbrev pub names_constant_enum : List TypesItem → RefEl → Bool
names_constant_enum types r = is_enum (type_named types r.type_name) && (fact_named types r.type_name).is_fixed

-- the rules before those for every member
abbrev pub first_rules : List TypesItem → MemberItem → Rules
first_rules types (part.Type t) = type_rules types true t
first_rules types (part.Enum e) = enum_rules types e
first_rules types (part.Set s) = set_rules types s
first_rules types (part.Ref r) = ref_rules types r
first_rules types (part.Composite' name offset since n row) = []

-- the rules after those for every member
abbrev pub last_rules : Inside → MemberItem → Rules
last_rules inside (part.Type t) = type_constant_rules t
last_rules inside (part.Enum e) = (rule.Presence, (fact_of inside.types (part.Enum e)).is_fixed) ∷ []
last_rules inside (part.Set s) = []
last_rules inside (part.Ref r) = (rule.Depth, names_too_high inside r) ∷ ((rule.Presence, names_constant_enum inside.types r) ∷ [])
last_rules inside (part.Composite' name offset since n row) = []

-- C17 Depth: it is inside others, with exactly four composites around it. C18 Width: it is wider than 1,048,576 bytes,
-- or has more than 256 leaves in all.
abbrev pub composite_rules : ℕ → Fact → Rules
composite_rules around all =
    (rule.Depth, around == most_composites)
    ∷ ((rule.Width, nat_lt most_bytes all.width || nat_lt most_leaves all.leaves)
    ∷ [])

-- ---- the visit

-- The rules for a member, before those for the members inside it.
abbrev pub entered : Inside → MembersBefore → MemberItem → CheckResult (Unit {0})
entered inside before m = do
  _ ← first_of (first_rules inside.types m)
  _ ← first_of (member_rules inside.types before m)
  first_of (last_rules inside m)

abbrev mutual
  -- the members of a composite in order, each with what is before it
  pub row_check : Inside → MembersBefore → {n : _} → Row_of-MemberItem n → CheckResult MembersBefore
  row_check inside before end_of-MemberItem = Ok before
  row_check inside before (more_of-MemberItem m rest) = do
    _ ← at_element (codes ".") (member_name m) (member_check inside before m)
    row_check inside (with_one inside.types before m) rest

  -- One member, and those inside it.
  pub member_check : Inside → MembersBefore → MemberItem → CheckResult (Unit {0})
  member_check inside before (part.Type t) = entered inside before (part.Type t)
  member_check inside before (part.Enum e) = entered inside before (part.Enum e)
  member_check inside before (part.Set s) = entered inside before (part.Set s)
  member_check inside before (part.Ref r) = entered inside before (part.Ref r)
  member_check inside before (part.Composite' name offset since n row) = do
    _ ← entered inside before (part.Composite' name offset since n row)
    members ← row_check (deeper inside) no_member row
    first_of (composite_rules inside.around members.all)

-- The members of a composite in order, as a list.
abbrev pub members_check : Inside → MembersBefore → List MemberItem → CheckResult MembersBefore
members_check inside before [] = Ok before
members_check inside before (m ∷ ms) = do
  _ ← at_element (codes ".") (member_name m) (member_check inside before m)
  members_check inside (with_one inside.types before m) ms

-- ---- declared types

-- C04 Cycle: a chain of composite members that begins at it meets a composite a second time. Only declared composites
-- are asked, since each chain of one that is inside another belongs to a chain of that one.
abbrev pub composite_check : List TypesItem → CompositeEl → CheckResult (Unit {0})
composite_check types c = do
  _ ← first_of ((rule.Cycle, is_endless types c) ∷ [])
  members ← members_check (record { types = types; around = 1 }) no_member c.children
  first_of (composite_rules 0 members.all)

-- One declared type, and its members.
abbrev pub item_check : List TypesItem → TypesItem → CheckResult (Unit {0})
item_check types (item.Type t) = do
  _ ← first_of (type_rules types false t)
  first_of (type_constant_rules t)
item_check types (item.Enum e) = first_of (enum_rules types e)
item_check types (item.Set s) = first_of (set_rules types s)
item_check types (item.Composite c) = composite_check types c

-- C01 DuplicateType: its name is the name of an earlier declared type.
abbrev pub declared_check : List TypesItem → List (List ℕ) → TypesItem → CheckResult (Unit {0})
declared_check types earlier t = do
  _ ← first_of ((rule.DuplicateType, is_among earlier (name_of t)) ∷ [])
  item_check types t

-- the declared types in order, each after the names before it
abbrev pub types_check : List TypesItem → List (List ℕ) → List TypesItem → CheckResult (Unit {0})
types_check types earlier [] = Ok tt
types_check types earlier (t ∷ ts) = do
  _ ← at_element (codes "types/") (name_of t) (declared_check types earlier t)
  types_check types (earlier ++ name_of t ∷ []) ts
