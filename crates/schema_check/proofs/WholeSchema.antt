-- A schema that was judged in order, over its declared types and messages.
use Rattle.std.proofs.Common.{◌≡◌, ℕ, List, map, refl, sym, ap, subst, ◌∙◌}
use Rattle.std.specs.Prelude.{Ok}
use Rattle.sbe_types.specs.declared.kind.Member.{Member}
use Rattle.sbe_types.specs.declared.schema.Level.{Level}
use Rattle.sbe_types.specs.declared.schema.WireSchema.{WireSchema}
use Rattle.sbe_types.specs.declared.tree.MessageEl.{MessageEl}
use Rattle.sbe_types.specs.declared.tree.Schema.{Schema}
use Rattle.sbe_types.specs.declared.tree.TypesItem.{TypesItem}
use Rattle.schema_rules.specs.Checked.{Outline, outline_of, tree_check, checked_of}
use Rattle.schema_rules.specs.Judging.{CheckResult, ◌>>=◌}
use Rattle.schema_rules.specs.Kinds.{members_named}
use Rattle.schema_rules.specs.Names.{declared_types, messages_of}
use Rattle.schema_rules.specs.Resolved.{resolved_message, resolved}

abbrev outline : Schema → List TypesItem → Outline
outline schema types = record { types = types; header_type = schema.header_type; id = schema.id; version = schema.version }

abbrev made : Schema → List TypesItem → List MessageEl → WireSchema
made schema types messages =
    record {
      id = schema.id;
      version = schema.version;
      order = schema.byte_order;
      header = record { members = members_named types schema.header_type };
      messages = map (resolved_message types) messages;
    }

pub checked_is : (schema : Schema) (types : List TypesItem) (messages : List MessageEl) → types ≡ declared_types schema → messages ≡ messages_of schema →
    tree_check (outline schema types) messages ≡ Ok tt → checked_of schema ≡ Ok (made schema types messages)
checked_is schema types messages same_types same_messages h =
    ap (λ (r : CheckResult (Unit {0})). r >>= (λ _. Ok (resolved schema)))
    (ap (λ (ts : List TypesItem). tree_check (outline schema ts) (messages_of schema)) (sym same_types)
    ∙ ap (λ (ms : List MessageEl). tree_check (outline schema types) ms) (sym same_messages) ∙ h)
    ∙ ap (λ (ts : List TypesItem). Ok (made schema ts (messages_of schema))) (sym same_types)
    ∙ ap (λ (ms : List MessageEl). Ok (made schema types ms)) (sym same_messages)

abbrev built : Schema → List Member → List Level → WireSchema
built schema members levels =
    record { id = schema.id; version = schema.version; order = schema.byte_order; header = record { members = members }; messages = levels }

-- what was resolved with the same types, header type and messages
pub built_is : (schema : Schema) (types seen : List TypesItem) (name : List ℕ) (messages others : List MessageEl) (members : List Member) (levels : List Level) (s : WireSchema) →
    seen ≡ types → name ≡ schema.header_type → others ≡ messages → members ≡ members_named seen name → levels ≡ map (resolved_message seen) others →
    s ≡ built schema members levels → s ≡ made schema types messages
built_is schema types seen name messages others members levels s same named listed members_are levels_are s_is =
    s_is
    ∙ ap (λ (ms : List Member). built schema ms levels)
    (members_are ∙ ap (λ (ts : List TypesItem). members_named ts name) same ∙ ap (members_named types) named)
    ∙ ap (built schema (members_named types schema.header_type))
    (levels_are ∙ ap (λ (ts : List TypesItem). map (resolved_message ts) others) same ∙ ap (map (resolved_message types)) listed)
