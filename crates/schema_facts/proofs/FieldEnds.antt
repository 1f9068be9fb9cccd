-- The end of the fields of a level, by facts and by kinds.
use Rattle.std.proofs.Common.{◌≡◌, ℕ, ◌≤◌, List, [], ◌∷◌, Option, Some, refl, ap, sym, subst, ◌∙◌, arith}
use Rattle.std.specs.Prelude.{option_map}
use Rattle.sbe_types.specs.declared.kind.Presence.{Presence}
use Rattle.sbe_types.specs.declared.kind.Kind.{Comp}
use Rattle.sbe_types.specs.declared.kind.Member.{Member}
use Rattle.sbe_types.specs.Places.{end_past, fields_end}
use Rattle.sbe_types.specs.declared.tree.CompositeEl.{CompositeEl}
use Rattle.sbe_types.specs.declared.tree.FieldEl.{FieldEl}
use Rattle.sbe_types.specs.declared.tree.PartItem.{PartItem}
use Rattle.sbe_types.specs.declared.tree.PartItem as part
use Rattle.sbe_types.specs.declared.tree.TypesItem.{TypesItem}
use Rattle.sbe_types.specs.declared.tree.TypesItem.TheVariants as item
use Rattle.schema_rules.specs.declared.facts.Fact.{Fact}
use Rattle.schema_rules.specs.Names.{plain_type, declared_as}
use Rattle.schema_rules.specs.Kinds.{use_of, composite_with, members_of, found_kind, kind_through, kind_named, field_kind}
use Rattle.schema_rules.specs.Facts.{counted, past, item_fact, members_fact, no_members, declared_or_plain, fact_through, fact_named, field_fact_in, field_fact}
use Rattle.schema_rules.specs.Resolved.{Within, list_fields}
use Rattle.schema_facts.specs.Ends.{parts_end}
use Rattle.schema_facts.proofs.KindOptional.{as_large}
use Rattle.schema_facts.proofs.KindDeclared.{named_by}
use Rattle.schema_facts.proofs.FactKinds.{Tells, type_tells, enum_tells, set_tells, composite_tells, through_tells, past_tells}

-- ---- fields

pub with_tells : (fact : Fact) (presence : Option Presence) (ms : List Member) → Tells fact (Comp ms) → Tells fact (composite_with presence ms)
with_tells fact presence ms t =
    let same = as_large presence ms in
    record {
      fixed = t.fixed ∙ sym same.fixed;
      wide = t.wide ∙ ap counted (sym same.width);
      leaves = t.leaves ∙ ap counted (sym same.leaves);
      high = t.high ∙ ap counted (sym same.height);
      full = λ h. same.full (t.full h);
    }

composite_fact : (types : List TypesItem) (name : List ℕ) (c : CompositeEl) → declared_as types name ≡ Some (item.Composite c) →
    members_fact types (fact_through 4 types) no_members c.children ≡ fact_named types name
unfolding fact_named
composite_fact types name c h = ap (λ (o : Option TypesItem). declared_or_plain (option_map (item_fact types (fact_through 4 types)) o) name) (sym h)

composite_kind : (types : List TypesItem) (c : CompositeEl) → members_of types (kind_through 4 types) c.children ≡ members_of types (kind_named types) c.children
unfolding kind_named
composite_kind types c = refl

declared_tells : (types : List TypesItem) (f : FieldEl) (t : TypesItem) → declared_as types f.type_name ≡ Some t →
    Tells (field_fact_in types f (Some t)) (found_kind types (kind_named types) (use_of f) (Some t))
declared_tells types f (item.Type t) found = type_tells types (use_of f) t
declared_tells types f (item.Enum e) found = enum_tells types (use_of f) e
declared_tells types f (item.Set s) found = set_tells types s
declared_tells types f (item.Composite c) found =
    subst (λ (fact : Fact). Tells fact (composite_with f.presence (members_of types (kind_named types) c.children))) (composite_fact types f.type_name c found)
    (subst (λ (ms : List Member). Tells (members_fact types (fact_through 4 types) no_members c.children) (composite_with f.presence ms)) (composite_kind types c)
    (with_tells (members_fact types (fact_through 4 types) no_members c.children) f.presence (members_of types (kind_through 4 types) c.children)
    (composite_tells types (fact_through 4 types) (kind_through 4 types) (through_tells 4 types) c)))

pub field_tells : (types : List TypesItem) (f : FieldEl) → Tells (field_fact types f) (field_kind types f)
field_tells types f =
    named_by (λ o. Tells (field_fact_in types f o) (found_kind types (kind_named types) (use_of f) o)) (record { fixed = refl; wide = refl; leaves = refl; high = refl; full = λ h. tt })
    (λ word primitive. type_tells types (use_of f) (plain_type word primitive)) types f.type_name (declared_tells types f)

-- ---- the parts of a level

ends_tell : (within : Within) (ps : List PartItem) (r e : ℕ) → counted r ≡ counted e → counted (parts_end within.types r ps) ≡ counted (fields_end e (list_fields within ps))
ends_tell within [] r e h = h
ends_tell within (part.Field f ∷ ps) r e h =
    ends_tell within ps (past r f.offset (field_fact within.types f)) (end_past e f.offset (field_kind within.types f))
    (past_tells r e f.offset (field_fact within.types f) (field_kind within.types f) h (field_tells within.types f))
ends_tell within (part.Group' name id dimension since length n row ∷ ps) r e h = ends_tell within ps r e h
ends_tell within (part.Data d ∷ ps) r e h = ends_tell within ps r e h

small_is : (p q : ℕ) → counted p ≡ counted q → p ≤ 4294967295 → p ≡ q
small_is p q h below = grind arith

-- an end that four bytes hold is the end of the fields
pub end_is : (within : Within) (ps : List PartItem) → parts_end within.types 0 ps ≤ 4294967295 → parts_end within.types 0 ps ≡ fields_end 0 (list_fields within ps)
end_is within ps below = small_is (parts_end within.types 0 ps) (fields_end 0 (list_fields within ps)) (ends_tell within ps 0 0 refl) below
