-- Chains of composites that are nested in one another.
use Rattle.std.specs.Prelude.{ℕ, zero, suc, ◌||◌, Bool, true, false, List, length, Option, Some, None}
use Rattle.std.specs.List.{list_any}
use Rattle.sbe_types.specs.declared.tree.CompositeEl.{CompositeEl}
use Rattle.sbe_types.specs.declared.tree.MemberItem.{MemberItem, Row_of-MemberItem, end_of-MemberItem, more_of-MemberItem}
use Rattle.sbe_types.specs.declared.tree.MemberItem as part
use Rattle.sbe_types.specs.declared.tree.TypesItem.{TypesItem}
use Rattle.sbe_types.specs.declared.tree.TypesItem.TheVariants as item
use Rattle.schema_rules.specs.Names.{declared_as}

abbrev mutual
  -- some ref inside the member has a name with the property
  pub member_has : (List ℕ → Bool) → MemberItem → Bool
  member_has name_is (part.Type t) = false
  member_has name_is (part.Enum e) = false
  member_has name_is (part.Set s) = false
  member_has name_is (part.Ref r) = name_is r.type_name
  member_has name_is (part.Composite' name offset since n row) = row_has name_is row

  -- The same for a row of members.
  pub row_has : (List ℕ → Bool) → {n : _} → Row_of-MemberItem n → Bool
  row_has name_is end_of-MemberItem = false
  row_has name_is (more_of-MemberItem m rest) = member_has name_is m || row_has name_is rest

-- Some ref inside a composite has a name with the property.
abbrev pub composite_has : (List ℕ → Bool) → CompositeEl → Bool
composite_has name_is c = list_any (member_has name_is) c.children

-- A declared type is there, and is a composite.
abbrev pub is_composite : Option TypesItem → Bool
is_composite None = false
is_composite (Some (item.Type t)) = false
is_composite (Some (item.Enum e)) = false
is_composite (Some (item.Set s)) = false
is_composite (Some (item.Composite c)) = true

-- A declared type is a composite from which a chain continues.
abbrev pub item_goes_on : (List ℕ → Bool) → Option TypesItem → Bool
item_goes_on goes_on None = false
item_goes_on goes_on (Some (item.Type t)) = false
item_goes_on goes_on (Some (item.Enum e)) = false
item_goes_on goes_on (Some (item.Set s)) = false
item_goes_on goes_on (Some (item.Composite c)) = composite_has goes_on c

-- some chain that begins at the composite of that name has more than n names of composites
abbrev pub goes_on : ℕ → List TypesItem → List ℕ → Bool
goes_on zero types name = is_composite (declared_as types name)
goes_on (suc n) types name = item_goes_on (goes_on n types) (declared_as types name)

-- the composite contains itself: a chain with more names than there are declared types has one of them twice
abbrev pub is_endless : List TypesItem → CompositeEl → Bool
is_endless types c = composite_has (goes_on (length types) types) c
