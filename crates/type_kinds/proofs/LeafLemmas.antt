-- Which members are leaves.
use Rattle.std.proofs.Common.{◌≡◌, ℕ, List, Option, Some, None, refl}
use Rattle.std.specs.Prelude.{option_map}
use Rattle.std.specs.Option.{option_or}
use Rattle.sbe_types.specs.declared.kind.Presence.{Presence}
use Rattle.sbe_types.specs.declared.kind.Presence.TheVariants.{Required, Optional, Constant}
use Rattle.sbe_types.specs.declared.kind.Leaf.{Leaf}
use Rattle.sbe_types.specs.declared.kind.Kind.{Kind}
use Rattle.sbe_types.specs.declared.tree.EnumEl.{EnumEl}
use Rattle.sbe_types.specs.declared.tree.SetEl.{SetEl}
use Rattle.sbe_types.specs.declared.tree.TypesItem.{TypesItem}
use Rattle.sbe_types.specs.declared.tree.TypesItem.TheVariants as item
use Rattle.schema_rules.specs.declared.encodings.Encoding.{Encoding}
use Rattle.schema_rules.specs.Names.{declared_as, plain_named, type_named}
use Rattle.schema_rules.specs.Kinds.{Use, as_declared, effective, enum_over, enum_in, enum_kind, set_in, set_kind, item_kind, plain_kind, kind_or_plain, kind_through, kind_named, encoding_named}
use Rattle.schema_rules.specs.Counters.{leaf_in}
use Rattle.type_kinds.specs.Leaves.{found_leaf}

enum_present : (types : List TypesItem) (own : Use) (e : EnumEl) (encoding : Encoding) (p : Presence) → ◌≡◌ {A = Option Leaf} None (leaf_in (enum_over types own e encoding p))
enum_present types own e encoding Required = refl
enum_present types own e encoding Optional = refl
enum_present types own e encoding Constant = refl

enum_found : (types : List TypesItem) (own : Use) (e : EnumEl) (o : Option Encoding) → ◌≡◌ {A = Option Leaf} None (leaf_in (enum_in types own e o))
enum_found types own e None = refl
enum_found types own e (Some encoding) = enum_present types own e encoding (effective own.presence encoding.presence)

pub enum_leafless : (types : List TypesItem) (own : Use) (e : EnumEl) → ◌≡◌ {A = Option Leaf} None (leaf_in (enum_kind types own e))
enum_leafless types own e = enum_found types own e (encoding_named types e.encoding_type)

set_found : (s : SetEl) (o : Option Encoding) → ◌≡◌ {A = Option Leaf} None (leaf_in (set_in s o))
set_found s None = refl
set_found s (Some encoding) = refl

pub set_leafless : (types : List TypesItem) (s : SetEl) → ◌≡◌ {A = Option Leaf} None (leaf_in (set_kind types s))
set_leafless types s = set_found s (encoding_named types s.encoding_type)

item_leaf : (types : List TypesItem) (kinds : List ℕ → Kind) (t : TypesItem) → found_leaf types (Some t) ≡ leaf_in (item_kind types kinds as_declared t)
item_leaf types kinds (item.Type t) = refl
item_leaf types kinds (item.Composite c) = refl
item_leaf types kinds (item.Enum e) = enum_leafless types as_declared e
item_leaf types kinds (item.Set s) = set_leafless types s

plain_leaf : (types : List TypesItem) (o : Option TypesItem) → found_leaf types o ≡ leaf_in (plain_kind types o)
plain_leaf types None = refl
plain_leaf types (Some (item.Type t)) = refl
plain_leaf types (Some (item.Composite c)) = refl
plain_leaf types (Some (item.Enum e)) = refl
plain_leaf types (Some (item.Set s)) = refl

either_leaf : (types : List TypesItem) (kinds : List ℕ → Kind) (name : List ℕ) (o : Option TypesItem) →
    found_leaf types (option_or o (plain_named name)) ≡ leaf_in (kind_or_plain types (option_map (item_kind types kinds as_declared) o) name)
either_leaf types kinds name None = plain_leaf types (plain_named name)
either_leaf types kinds name (Some t) = item_leaf types kinds t

pub named_leaf : (types : List TypesItem) (name : List ℕ) → found_leaf types (type_named types name) ≡ leaf_in (kind_named types name)
unfolding kind_named
named_leaf types name = either_leaf types (kind_through 3 types) name (declared_as types name)
