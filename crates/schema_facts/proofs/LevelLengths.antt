-- The length numbers of the data of a level that passed the rules.
use Rattle.std.proofs.Common.{◌≡◌, ℕ, Bool, true, false, List, [], ◌∷◌, Option, Some, None, refl, sym, subst, arith}
use Rattle.std.specs.Prelude.{⊤, codes, ◌&&◌, ◌==◌, option_map, unwrap_or}
use Rattle.std.specs.List.{AllByRecursion}
use Rattle.std.specs.Str.{bytes_eq}
use Rattle.std.proofs.lemmas.Bool.Decides.{nat_tests}
use Rattle.sbe_types.specs.declared.kind.Primitive.{Primitive}
use Rattle.sbe_types.specs.declared.kind.Presence.{Presence}
use Rattle.sbe_types.specs.declared.kind.Presence.TheVariants.{Required, Optional, Constant}
use Rattle.sbe_types.specs.declared.kind.Leaf.{Leaf as LeafOf}
use Rattle.sbe_types.specs.declared.kind.Kind.{Kind}
use Rattle.sbe_types.specs.declared.kind.Member.{Member}
use Rattle.sbe_types.specs.declared.schema.DataField.{DataField}
use Rattle.sbe_types.specs.declared.schema.Level.{out-roll-Level}
use Rattle.sbe_types.specs.declared.tree.TypeEl.{TypeEl}
use Rattle.sbe_types.specs.declared.tree.EnumEl.{EnumEl}
use Rattle.sbe_types.specs.declared.tree.SetEl.{SetEl}
use Rattle.sbe_types.specs.declared.tree.MemberItem.{MemberItem}
use Rattle.sbe_types.specs.declared.tree.MemberItem as member
use Rattle.sbe_types.specs.declared.tree.PartItem.{PartItem}
use Rattle.sbe_types.specs.declared.tree.PartItem as part
use Rattle.sbe_types.specs.declared.tree.TypesItem.{TypesItem}
use Rattle.sbe_types.specs.declared.tree.TypesItem.TheVariants as item
use Rattle.sbe_types.specs.Numbers.{prim_width}
use Rattle.schema_rules.specs.declared.encodings.Encoding.{Encoding}
use Rattle.schema_rules.specs.declared.levels.LevelScope.{LevelScope}
use Rattle.schema_rules.specs.TypeRules.{is_constant}
use Rattle.schema_rules.specs.Counters.{leaf_in, is_counter_primitive, is_counter, is_body_primitive, are_length_and_body, is_data}
use Rattle.schema_rules.specs.Kinds.{Use, as_declared, effective, type_over, type_in, type_kind, enum_over, enum_in, set_in, encoding_named, member_kind, members_of, item_kind, plain_kind, kind_or_plain, kind_through, kind_named, found_members, members_named}
use Rattle.schema_rules.specs.Names.{integral, declared_as, plain_named, type_named}
use Rattle.schema_rules.specs.PartRules.{PartsBefore, no_part, with_part}
use Rattle.schema_rules.specs.Resolved.{length_in, list_data}
use Rattle.schema_facts.specs.CheckedLevels.{IsLength, HasLengths}
use Rattle.schema_facts.proofs.KindCounters.{small_primitive}
use Rattle.schema_facts.proofs.LevelSteps.{EachKept, PartKept, all_true, not_false}
use Rattle.schema_facts.proofs.LevelWalk.{Base, Head, Passed, within_of, scope_of, level_of}

-- ---- no leaf is constant

-- a leaf of the kind is no constant
abbrev Moves : Option LeafOf → Type 0
Moves None = ⊤
Moves (Some l) = is_constant l.presence ≡ false

type_by : (types : List TypesItem) (own : Use) (t : TypeEl) (prim : Primitive) (p : Presence) → Moves (leaf_in (type_over types own t prim p))
type_by types own t prim Required = refl
type_by types own t prim Optional = refl
type_by types own t prim Constant = tt

type_found : (types : List TypesItem) (own : Use) (t : TypeEl) (o : Option Primitive) → Moves (leaf_in (type_in types own t o))
type_found types own t None = tt
type_found types own t (Some prim) = type_by types own t prim (effective own.presence t.presence)

type_moves : (types : List TypesItem) (own : Use) (t : TypeEl) → Moves (leaf_in (type_kind types own t))
type_moves types own t = type_found types own t (integral t.primitive_type)

enum_by : (types : List TypesItem) (own : Use) (e : EnumEl) (encoding : Encoding) (p : Presence) → Moves (leaf_in (enum_over types own e encoding p))
enum_by types own e encoding Required = tt
enum_by types own e encoding Optional = tt
enum_by types own e encoding Constant = tt

enum_found : (types : List TypesItem) (own : Use) (e : EnumEl) (o : Option Encoding) → Moves (leaf_in (enum_in types own e o))
enum_found types own e None = tt
enum_found types own e (Some encoding) = enum_by types own e encoding (effective own.presence encoding.presence)

set_found : (s : SetEl) (o : Option Encoding) → Moves (leaf_in (set_in s o))
set_found s None = tt
set_found s (Some encoding) = tt

item_moves : (types : List TypesItem) (kinds : List ℕ → Kind) (t : TypesItem) → Moves (leaf_in (item_kind types kinds as_declared t))
item_moves types kinds (item.Type t) = type_moves types as_declared t
item_moves types kinds (item.Enum e) = enum_found types as_declared e (encoding_named types e.encoding_type)
item_moves types kinds (item.Set s) = set_found s (encoding_named types s.encoding_type)
item_moves types kinds (item.Composite c) = tt

plain_moves : (types : List TypesItem) (o : Option TypesItem) → Moves (leaf_in (plain_kind types o))
plain_moves types None = tt
plain_moves types (Some (item.Type t)) = type_moves types as_declared t
plain_moves types (Some (item.Composite c)) = tt
plain_moves types (Some (item.Enum e)) = tt
plain_moves types (Some (item.Set s)) = tt

either_moves : (types : List TypesItem) (name : List ℕ) (f : TypesItem → Kind) (o : Option TypesItem) → ((t : TypesItem) → Moves (leaf_in (f t))) → Moves (leaf_in (kind_or_plain types (option_map f o) name))
either_moves types name f None h = plain_moves types (plain_named name)
either_moves types name f (Some t) h = h t

named_moves : (types : List TypesItem) (name : List ℕ) → Moves (leaf_in (kind_named types name))
unfolding kind_named
named_moves types name = either_moves types name (item_kind types (kind_through 3 types) as_declared) (declared_as types name) (item_moves types (kind_through 3 types))

member_moves : (types : List TypesItem) (m : MemberItem) → Moves (leaf_in (member_kind types (kind_named types) m))
member_moves types (member.Type t) = type_moves types as_declared t
member_moves types (member.Enum e) = enum_found types as_declared e (encoding_named types e.encoding_type)
member_moves types (member.Set s) = set_found s (encoding_named types s.encoding_type)
member_moves types (member.Ref r) = named_moves types r.type_name
member_moves types (member.Composite' name offset since n row) = tt

-- of the first member
abbrev FirstMoves : List Member → Type 0
FirstMoves [] = ⊤
FirstMoves (m ∷ ms) = Moves (leaf_in m.kind)

list_moves : (types : List TypesItem) (ms : List MemberItem) → FirstMoves (members_of types (kind_named types) ms)
list_moves types [] = tt
list_moves types (m ∷ ms) = member_moves types m

found_moves : (types : List TypesItem) (o : Option TypesItem) → FirstMoves (found_members types o)
found_moves types None = tt
found_moves types (Some (item.Type t)) = tt
found_moves types (Some (item.Enum e)) = tt
found_moves types (Some (item.Set s)) = tt
found_moves types (Some (item.Composite c)) = list_moves types c.children

-- ---- the length of a data

length_by : (o body : Option LeafOf) (offset : Option ℕ) (other : LeafOf) → Moves o → are_length_and_body o body offset ≡ true → IsLength (unwrap_or o other)
length_by None body offset other moves h = cc
length_by (Some l) None offset other moves h = cc
length_by (Some l) (Some b) offset other moves h =
    let counter = (all_true (is_counter (Some l)) ((is_body_primitive b.prim && b.length == 0) && unwrap_or offset (prim_width l.prim) == prim_width l.prim) h).0 in
    let two = all_true (is_counter_primitive l.prim) (l.length == 1) counter in
    let single : l.length ≡ 1 = grind (arith, nat_tests) in
    record { small = small_primitive l.prim two.0; single = single; changes = moves }

length_of : (ms : List Member) → FirstMoves ms → is_data ms ≡ true → IsLength (length_in ms)
length_of [] moves h = cc
length_of (m ∷ []) moves h = cc
length_of (m ∷ (v ∷ [])) moves h =
    let names : Bool = bytes_eq (codes "length") m.name && bytes_eq (codes "varData") v.name in
    let both = all_true names (unwrap_or m.offset 0 == 0 && are_length_and_body (leaf_in m.kind) (leaf_in v.kind) v.offset) h in
    length_by (leaf_in m.kind) (leaf_in v.kind) v.offset _ moves (all_true (unwrap_or m.offset 0 == 0) _ both.1).1
length_of (m ∷ (v ∷ (w ∷ ms))) moves h = cc

lengths_of : (base : Base) (level : LevelScope) (before : PartsBefore) (ps : List PartItem) → EachKept (scope_of base level) before ps →
    AllByRecursion (λ (d : DataField). IsLength d.length) (list_data (within_of base level) ps)
lengths_of base level before [] h = tt
lengths_of base level before (part.Field f ∷ ps) h = lengths_of base level (with_part (scope_of base level) before (part.Field f)) ps h.1
lengths_of base level before (part.Group' name id dimension since stated n row ∷ ps) h = lengths_of base level (with_part (scope_of base level) before (part.Group' name id dimension since stated n row)) ps h.1
lengths_of base level before (part.Data d ∷ ps) h =
    let kept : PartKept (scope_of base level) before (part.Data d) = h.0 in (
      length_of (members_named base.types d.type_name) (found_moves base.types (type_named base.types d.type_name)) (not_false _ kept.own.1.1.0),
      lengths_of base level (with_part (scope_of base level) before (part.Data d)) ps h.1,
    )

-- such a level's data have length numbers
pub lengths_kept : (base : Base) (t : ℕ) (dim : Option (List Member)) (level : LevelScope) (head : Head) (ps : List PartItem) → Passed base level dim head ps →
    HasLengths (level_of (within_of base level) head ps)
lengths_kept base t dim level head ps passed =
    subst (λ r. AllByRecursion (λ (d : DataField). IsLength d.length) r.parts) (sym (out-roll-Level _)) (lengths_of base level no_part ps passed.each)
