-- The facts of a type are those of its kind.
use Rattle.std.proofs.Common.{◌≤◌, max, subst, ◌≡◌, ℕ, zero, suc, ◌+◌, Bool, true, false, if◌then◌else◌, List, Option, Some, None, refl, ap, sym, ◌∙◌, arith}
use Rattle.std.specs.Prelude.{◌==◌, option_map, ◌*◌}
use Rattle.sbe_types.specs.declared.tree.CompositeEl.{CompositeEl}
use Rattle.schema_facts.specs.InOrder.{leaves, height}
use Rattle.schema_facts.proofs.KindLists.{width_comp, list_leaves, list_height, leaves_comp, height_comp, IsFull, AreFull, full_comp}
use Rattle.schema_facts.proofs.KindPassed.{neither, row_of, composite_row_fact, composite_row_kind}
use Rattle.sbe_types.specs.declared.kind.Primitive.{Primitive}
use Rattle.sbe_types.specs.Numbers.{prim_width}
use Rattle.schema_rules.specs.declared.encodings.Encoding.{Encoding}
use Rattle.schema_rules.specs.Names.{integral, declared_as, plain_named}
use Rattle.schema_rules.specs.Kinds.{Use, as_declared, effective, type_over, type_in, type_kind, enum_over, enum_in, enum_kind, set_in, set_kind, encoding_named, member_offset, member_kind, row_members, members_of, item_kind, plain_kind, kind_or_plain, kind_through, unresolved}
use Rattle.schema_rules.specs.Facts.{is_empty_type, simple_fact, type_fact_in, type_fact, enum_fact_in, enum_fact, set_fact_in, set_fact, no_fact, no_members, with_member, member_fact, row_fact, members_fact, item_fact, primitive_fact_in, declared_or_plain, fact_through, counted, past}
use Rattle.sbe_types.specs.declared.kind.Presence.{Presence}
use Rattle.sbe_types.specs.declared.kind.Presence.TheVariants.{Required, Optional, Constant}
use Rattle.sbe_types.specs.declared.kind.Kind.{Kind, Comp}
use Rattle.sbe_types.specs.declared.kind.Member.{Member}
use Rattle.sbe_types.specs.Places.{width, is_const, begin_of, end_past, members_end}
use Rattle.sbe_types.specs.declared.tree.TypeEl.{TypeEl}
use Rattle.sbe_types.specs.declared.tree.EnumEl.{EnumEl}
use Rattle.sbe_types.specs.declared.tree.SetEl.{SetEl}
use Rattle.sbe_types.specs.declared.tree.MemberItem.{MemberItem, Row_of-MemberItem, end_of-MemberItem, more_of-MemberItem}
use Rattle.sbe_types.specs.declared.tree.MemberItem as part
use Rattle.sbe_types.specs.declared.tree.TypesItem.{TypesItem}
use Rattle.sbe_types.specs.declared.tree.TypesItem.TheVariants as item
use Rattle.schema_rules.specs.declared.facts.Fact.{Fact}

-- ---- facts that tell of a kind

-- whether it is constant, its width, leaves and height as far as they are counted, and that none of its leaves is empty
pub record Tells (fact : Fact) (kind : Kind) : Type 0 where
  pub fixed : fact.is_fixed ≡ is_const kind
  pub wide : counted fact.width ≡ counted (width kind)
  pub leaves : counted fact.leaves ≡ counted (leaves kind)
  pub high : counted fact.height ≡ counted (height kind)
  pub full : fact.holds_empty ≡ false → IsFull kind

counted_past : (b w v e : ℕ) → counted w ≡ counted v → b ≡ e → counted (b + w) ≡ counted (e + v)
counted_past b w v e h k = grind arith

counted_begin : (r w v e : ℕ) → counted r ≡ counted e → counted w ≡ counted v → counted (r + w) ≡ counted (e + v)
counted_begin r w v e h k = grind arith

counted_twice : (n : ℕ) → counted (counted n) ≡ counted n
counted_twice n = grind arith

placed : (r e : ℕ) (offset : Option ℕ) (w v : ℕ) → counted r ≡ counted e → counted w ≡ counted v → counted (begin_of r offset + w) ≡ counted (begin_of e offset + v)
placed r e None w v h k = counted_begin r w v e h k
placed r e (Some b) w v h k = counted_past b w v b k refl

past_by : (a b : Bool) (r e x y : ℕ) → a ≡ b → counted r ≡ counted e → counted x ≡ counted y → counted (if a then r else x) ≡ counted (if b then e else y)
past_by true true r e x y same h k = h
past_by false false r e x y same h k = k
past_by true false r e x y same h k = cc
past_by false true r e x y same h k = cc

-- the end of the parts with one more
pub past_tells : (r e : ℕ) (offset : Option ℕ) (fact : Fact) (kind : Kind) → counted r ≡ counted e → Tells fact kind → counted (past r offset fact) ≡ counted (end_past e offset kind)
past_tells r e offset fact kind h t =
    past_by fact.is_fixed (is_const kind) r e (counted (begin_of r offset + fact.width)) (begin_of e offset + width kind) t.fixed h
    (counted_twice (begin_of r offset + fact.width) ∙ placed r e offset fact.width (width kind) h t.wide)

-- ---- types that are no composites

pub some_of : (n : ℕ) → n == 0 ≡ false → 1 ≤ n
some_of zero h = cc
some_of (suc n) h = omega arith

type_by : (types : List TypesItem) (own : Use) (t : TypeEl) (prim : Primitive) (p : Presence) →
    Tells (simple_fact (is_empty_type t) p (prim_width prim * t.length)) (type_over types own t prim p)
type_by types own t prim Required = record { fixed = refl; wide = refl; leaves = refl; high = refl; full = some_of t.length }
type_by types own t prim Optional = record { fixed = refl; wide = refl; leaves = refl; high = refl; full = some_of t.length }
type_by types own t prim Constant = record { fixed = refl; wide = refl; leaves = refl; high = refl; full = λ h. tt }

type_found : (types : List TypesItem) (own : Use) (t : TypeEl) (o : Option Primitive) → Tells (type_fact_in own.presence t o) (type_in types own t o)
type_found types own t None = record { fixed = refl; wide = refl; leaves = refl; high = refl; full = λ h. tt }
type_found types own t (Some prim) = type_by types own t prim (effective own.presence t.presence)

pub type_tells : (types : List TypesItem) (own : Use) (t : TypeEl) → Tells (type_fact own.presence t) (type_kind types own t)
type_tells types own t = type_found types own t (integral t.primitive_type)

enum_by : (types : List TypesItem) (own : Use) (e : EnumEl) (encoding : Encoding) (p : Presence) →
    Tells (simple_fact false p (prim_width encoding.leaf.prim)) (enum_over types own e encoding p)
enum_by types own e encoding Required = record { fixed = refl; wide = refl; leaves = refl; high = refl; full = λ h. tt }
enum_by types own e encoding Optional = record { fixed = refl; wide = refl; leaves = refl; high = refl; full = λ h. tt }
enum_by types own e encoding Constant = record { fixed = refl; wide = refl; leaves = refl; high = refl; full = λ h. tt }

enum_found : (types : List TypesItem) (own : Use) (e : EnumEl) (o : Option Encoding) → Tells (enum_fact_in own.presence o) (enum_in types own e o)
enum_found types own e None = record { fixed = refl; wide = refl; leaves = refl; high = refl; full = λ h. tt }
enum_found types own e (Some encoding) = enum_by types own e encoding (effective own.presence encoding.presence)

pub enum_tells : (types : List TypesItem) (own : Use) (e : EnumEl) → Tells (enum_fact types own.presence e) (enum_kind types own e)
enum_tells types own e = enum_found types own e (encoding_named types e.encoding_type)

set_found : (s : SetEl) (o : Option Encoding) → Tells (set_fact_in o) (set_in s o)
set_found s None = record { fixed = refl; wide = refl; leaves = refl; high = refl; full = λ h. tt }
set_found s (Some encoding) = record { fixed = refl; wide = refl; leaves = refl; high = refl; full = λ h. tt }

pub set_tells : (types : List TypesItem) (s : SetEl) → Tells (set_fact types s) (set_kind types s)
set_tells types s = set_found s (encoding_named types s.encoding_type)

-- ---- composites

-- a composite so far, whose members end at e, and have so many leaves and such a height
pub record Reaches (fact : Fact) (e l h : ℕ) : Type 0 where
  pub fixed : fact.is_fixed ≡ false
  pub wide : counted fact.width ≡ counted e
  pub leaves : counted fact.leaves ≡ counted l
  pub high : counted fact.height ≡ counted (suc h)

pub none_reaches : Reaches no_members 0 0 0
none_reaches = record { fixed = refl; wide = refl; leaves = refl; high = refl }

more_leaves : (a f l k : ℕ) → counted a ≡ counted l → counted f ≡ counted k → counted (counted (a + f)) ≡ counted (l + k)
more_leaves a f l k h g = counted_twice (a + f) ∙ counted_begin a f k l h g

more_high : (a f h k : ℕ) → counted a ≡ counted (suc h) → counted f ≡ counted k → counted (counted (max a (1 + f))) ≡ counted (suc (max h k))
more_high a f h k e g = omega arith

-- one more member
reaches_more : (all : Fact) (e l h : ℕ) (offset : Option ℕ) (fact : Fact) (kind : Kind) → Reaches all e l h → Tells fact kind →
    Reaches (with_member all offset fact) (end_past e offset kind) (l + leaves kind) (max h (height kind))
reaches_more all e l h offset fact kind r t =
    record {
      fixed = refl;
      wide = past_tells all.width e offset fact kind r.wide t;
      leaves = more_leaves all.leaves fact.leaves l (leaves kind) r.leaves t.leaves;
      high = more_high all.height fact.height h (height kind) r.high t.high;
    }

reaches_as : (fact : Fact) (e l h m k : ℕ) → l ≡ m → h ≡ k → Reaches fact e l h → Reaches fact e m k
reaches_as fact e l h m k leaves high r =
    record { fixed = r.fixed; wide = r.wide; leaves = r.leaves ∙ ap counted leaves; high = r.high ∙ ap (λ n. counted (suc n)) high }

sum_on : (l k m : ℕ) → (l + k) + m ≡ l + (k + m)
sum_on l k m = omega arith

max_on : (h k m : ℕ) → max (max h k) m ≡ max h (max k m)
max_on h k m = omega arith

sum_zero : (l : ℕ) → l ≡ l + 0
sum_zero l = omega arith

max_zero : (h : ℕ) → h ≡ max h 0
max_zero h = omega arith

comp_tells : (fact : Fact) (ms : List Member) → Reaches fact (members_end 0 ms) (0 + list_leaves ms) (max 0 (list_height ms)) → (fact.holds_empty ≡ false → AreFull ms) → Tells fact (Comp ms)
comp_tells fact ms r full =
    record {
      fixed = r.fixed;
      wide = r.wide ∙ ap counted (sym (width_comp ms));
      leaves = r.leaves ∙ ap counted (omega arith ∙ sym (leaves_comp ms));
      high = r.high ∙ ap counted (omega arith ∙ sym (height_comp ms));
      full = λ h. full_comp ms (full h);
    }

module _ (types : List TypesItem) (facts : List ℕ → Fact) (kinds : List ℕ → Kind) (known : (name : List ℕ) → Tells (facts name) (kinds name)) where
  -- no member is empty, and none before
  record FullBoth (all : Fact) (ms : List Member) : Type 0 where
    before : all.holds_empty ≡ false
    members : AreFull ms

  mutual
    pub row_reaches : (n : _) (row : Row_of-MemberItem n) (all : Fact) (e l h : ℕ) → Reaches all e l h →
        Reaches (row_fact types facts all row) (members_end e (row_members types kinds row)) (l + list_leaves (row_members types kinds row)) (max h (list_height (row_members types kinds row)))
    row_reaches n end_of-MemberItem all e l h r = reaches_as all e l h (l + 0) (max h 0) (sum_zero l) (max_zero h) r
    row_reaches n (more_of-MemberItem m rest) all e l h r =
        let kind = member_kind types kinds m in
        let ms = row_members types kinds rest in
        reaches_as (row_fact types facts (with_member all (member_offset m) (member_fact types facts m)) rest) (members_end (end_past e (member_offset m) kind) ms)
        (l + leaves kind + list_leaves ms) (max (max h (height kind)) (list_height ms)) (l + (leaves kind + list_leaves ms)) (max h (max (height kind) (list_height ms)))
        (sum_on l (leaves kind) (list_leaves ms)) (max_on h (height kind) (list_height ms))
        (row_reaches _ rest (with_member all (member_offset m) (member_fact types facts m)) (end_past e (member_offset m) kind) (l + leaves kind) (max h (height kind))
        (reaches_more all e l h (member_offset m) (member_fact types facts m) kind r (member_tells m)))

    row_full : (n : _) (row : Row_of-MemberItem n) (all : Fact) → (row_fact types facts all row).holds_empty ≡ false → FullBoth all (row_members types kinds row)
    row_full n end_of-MemberItem all h = record { before = h; members = tt }
    row_full n (more_of-MemberItem m rest) all h =
        let later = row_full _ rest (with_member all (member_offset m) (member_fact types facts m)) h in
        let parts = neither all.holds_empty (member_fact types facts m).holds_empty later.before in
        record { before = parts.0; members = ((member_tells m).full parts.1, later.members) }

    pub member_tells : (m : MemberItem) → Tells (member_fact types facts m) (member_kind types kinds m)
    member_tells (part.Type t) = type_tells types as_declared t
    member_tells (part.Enum e) = enum_tells types as_declared e
    member_tells (part.Set s) = set_tells types s
    member_tells (part.Ref r) = known r.type_name
    member_tells (part.Composite' name offset since n row) =
        comp_tells (row_fact types facts no_members row) (row_members types kinds row) (row_reaches _ row no_members 0 0 0 none_reaches)
        (λ h. (row_full _ row no_members h).members)

  pub composite_tells : (c : CompositeEl) → Tells (members_fact types facts no_members c.children) (Comp (members_of types kinds c.children))
  composite_tells c =
      let row = (row_of c).1 in
      let tells = comp_tells (row_fact types facts no_members row) (row_members types kinds row) (row_reaches _ row no_members 0 0 0 none_reaches) (λ h. (row_full _ row no_members h).members) in
      subst (λ (fact : Fact). Tells fact (Comp (members_of types kinds c.children))) (composite_row_fact types facts c)
      (subst (λ (ms : List Member). Tells (row_fact types facts no_members row) (Comp ms)) (composite_row_kind types kinds c) tells)

  item_tells : (t : TypesItem) → Tells (item_fact types facts t) (item_kind types kinds as_declared t)
  item_tells (item.Type t) = type_tells types as_declared t
  item_tells (item.Enum e) = enum_tells types as_declared e
  item_tells (item.Set s) = set_tells types s
  item_tells (item.Composite c) = composite_tells c

-- ---- names

plain_tells : (types : List TypesItem) (o : Option TypesItem) → Tells (primitive_fact_in o) (plain_kind types o)
plain_tells types None = record { fixed = refl; wide = refl; leaves = refl; high = refl; full = λ h. tt }
plain_tells types (Some (item.Type t)) = type_tells types as_declared t
plain_tells types (Some (item.Composite c)) = record { fixed = refl; wide = refl; leaves = refl; high = refl; full = λ h. tt }
plain_tells types (Some (item.Enum e)) = record { fixed = refl; wide = refl; leaves = refl; high = refl; full = λ h. tt }
plain_tells types (Some (item.Set s)) = record { fixed = refl; wide = refl; leaves = refl; high = refl; full = λ h. tt }

either_tells : (types : List TypesItem) (name : List ℕ) (f : TypesItem → Fact) (k : TypesItem → Kind) → ((t : TypesItem) → Tells (f t) (k t)) → (o : Option TypesItem) →
    Tells (declared_or_plain (option_map f o) name) (kind_or_plain types (option_map k o) name)
either_tells types name f k h None = plain_tells types (plain_named name)
either_tells types name f k h (Some t) = h t

pub through_tells : (n : ℕ) (types : List TypesItem) (name : List ℕ) → Tells (fact_through n types name) (kind_through n types name)
through_tells zero types name = either_tells types name (λ t. no_fact) (λ t. unresolved) (λ t. record { fixed = refl; wide = refl; leaves = refl; high = refl; full = λ h. tt }) (declared_as types name)
through_tells (suc n) types name =
    either_tells types name (item_fact types (fact_through n types)) (item_kind types (kind_through n types) as_declared)
    (item_tells types (fact_through n types) (kind_through n types) (through_tells n types)) (declared_as types name)
