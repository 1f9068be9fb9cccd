-- What is known of the kinds of the declared types is what is meant.
use Rattle.std.proofs.Common.{◌≡◌, ℕ, List, ap, ◌∙◌}
use Rattle.sbe_types.specs.declared.kind.Kind.{Kind}
use Rattle.sbe_types.specs.declared.tree.FieldEl.{FieldEl}
use Rattle.sbe_types.specs.declared.tree.MemberItem.{MemberItem}
use Rattle.sbe_types.specs.declared.tree.TypesItem.{TypesItem}
use Rattle.schema_rules.specs.Kinds.{use_of, found_kind, field_kind, members_of, kind_through, kind_named}
use Rattle.schema_rules.specs.Names.{type_named}
use Rattle.type_kinds.specs.Tables.{table_kind, kind_round}
use Rattle.type_kinds.proofs.TableLemmas.{told_kinds}

pub kind_known : (types self : List TypesItem) (table : List Kind) → types ≡ self → table ≡ kind_round 4 types → table_kind types table ≡ kind_named self
unfolding kind_named
kind_known types self table same made =
    ap (table_kind types) made ∙ told_kinds 4 types ∙ ap (kind_through 4) same

pub field_known : (types self : List TypesItem) (table : List Kind) (f : FieldEl) → types ≡ self → table ≡ kind_round 4 types →
    found_kind types (table_kind types table) (use_of f) (type_named types f.type_name) ≡ field_kind self f
field_known types self table f same made =
    ap (λ (kinds : List ℕ → Kind). found_kind types kinds (use_of f) (type_named types f.type_name)) (kind_known types self table same made)
    ∙ ap (λ (ts : List TypesItem). found_kind ts (kind_named self) (use_of f) (type_named ts f.type_name)) same

pub members_known : (types self : List TypesItem) (table : List Kind) (ms : List MemberItem) → types ≡ self → table ≡ kind_round 4 types →
    members_of types (table_kind types table) ms ≡ members_of self (kind_named self) ms
members_known types self table ms same made =
    ap (λ (kinds : List ℕ → Kind). members_of types kinds ms) (kind_known types self table same made)
    ∙ ap (λ (ts : List TypesItem). members_of ts (kind_named self) ms) same
