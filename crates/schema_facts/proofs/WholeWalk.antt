-- What the checker found in order tells of the whole schema.
use Rattle.std.proofs.Common.{◌≡◌, ℕ, suc, List, [], ◌∷◌, map, Option, None, refl, subst, arith}
use Rattle.std.specs.Prelude.{Ok, flat_map, codes}
use Rattle.std.specs.List.{AllByRecursion}
use Rattle.sbe_types.specs.declared.kind.Member.{Member}
use Rattle.sbe_types.specs.declared.schema.WireSchema.{WireSchema}
use Rattle.sbe_types.specs.declared.tree.Schema.{Schema}
use Rattle.sbe_types.specs.declared.tree.SchemaItem.{SchemaItem}
use Rattle.sbe_types.specs.declared.tree.SchemaItem.TheVariants as child
use Rattle.sbe_types.specs.declared.tree.MessageEl.{MessageEl}
use Rattle.sbe_types.specs.declared.tree.PartItem.{PartItem}
use Rattle.sbe_types.specs.InForm.{IsChildInForm, IsMessageInForm, IsInForm}
use Rattle.schema_rules.specs.Judging.{CheckResult, ◌>>=◌, first_of, at_element}
use Rattle.schema_rules.specs.Names.{declared_types, messages_in, messages_of}
use Rattle.schema_rules.specs.CompositeRules.{types_check}
use Rattle.schema_rules.specs.declared.levels.LevelScope.{LevelScope}
use Rattle.schema_rules.specs.PartRules.{Scope, PartsBefore, no_part, parts_check}
use Rattle.schema_rules.specs.Resolved.{resolved, resolved_message, list_groups, list_fields, list_data}
use Rattle.schema_rules.specs.Checked.{Outline, outline_of, header_members, header_rules, MessagesBefore, no_message, with_message, message_rules, message_end_rules, message_scope, message_check, messages_check, tree_check, checked_of}
use Rattle.schema_facts.specs.Levels.{Node, nodes, nodes_from, all_nodes, node}
use Rattle.schema_facts.proofs.LevelSteps.{Kept, steps, both, behind_ok, rules_kept, neither, parts_kept}
use Rattle.schema_facts.proofs.LevelWalk.{Base, Head, Passed, Known, within_of, scope_of, told_of, level_of, one_level, parts_walked, all_joined}

-- ---- the checker's steps

-- what the checker found in order
pub record Found (tree : Schema) (schema : WireSchema) : Type 0 where
  pub is : resolved tree ≡ schema
  pub types : types_check (declared_types tree) [] (declared_types tree) ≡ Ok tt
  pub header : Kept (header_rules (outline_of tree))
  pub messages : messages_check (header_members (outline_of tree)) (message_scope (outline_of tree)) no_message (messages_of tree) ≡ Ok tt

-- where the checker answers a schema, it found all in order
pub found : (tree : Schema) (schema : WireSchema) → checked_of tree ≡ Ok schema → Found tree schema
found tree schema h =
    let outline : Outline = outline_of tree in
    let messages : CheckResult (Unit {0}) = messages_check (header_members outline) (message_scope outline) no_message (messages_of tree) in
    let header : CheckResult (Unit {0}) = at_element (codes "types/") outline.header_type (first_of (header_rules outline)) in
    let a = both (tree_check outline (messages_of tree)) (Ok (resolved tree)) schema h in
    let b = both (types_check outline.types [] outline.types) (header >>= (λ _. messages)) tt a.0 in
    let c = both header messages tt b.1 in
    record {
      is = cc (a.1);
      types = b.0;
      header = rules_kept (header_rules outline) (behind_ok (codes "types/") outline.header_type (first_of (header_rules outline)) tt c.0);
      messages = c.1;
    }

-- a message that passed the rules
pub record MessageKept (header : List Member) (scope : Scope) (before : MessagesBefore) (m : MessageEl) : Type 0 where
  pub head : Kept (message_rules scope.level.version before m)
  pub found : PartsBefore
  pub parts : parts_check scope no_part m.children ≡ Ok found
  pub ends : Kept (message_end_rules header m found.all)

-- a message that was judged
pub message_kept : (header : List Member) (scope : Scope) (before : MessagesBefore) (m : MessageEl) → message_check header scope before m ≡ Ok tt → MessageKept header scope before m
message_kept header scope before m h =
    let last : PartsBefore → CheckResult (Unit {0}) = λ parts. first_of (message_end_rules header m parts.all) in
    let a = both (first_of (message_rules scope.level.version before m)) (parts_check scope no_part m.children >>= last) tt h in
    let b = steps (parts_check scope no_part m.children) last tt a.1 in
    record {
      head = rules_kept (message_rules scope.level.version before m) a.0;
      found = b.found;
      parts = b.first;
      ends = rules_kept (message_end_rules header m b.found.all) b.next;
    }

-- the first of some messages, and the rest
pub first_message : (header : List Member) (scope : Scope) (before : MessagesBefore) (m : MessageEl) (ms : List MessageEl) → messages_check header scope before (m ∷ ms) ≡ Ok tt →
    MessageKept header scope before m × (messages_check header scope (with_message before m) ms ≡ Ok tt)
first_message header scope before m ms h =
    let two = both (at_element (codes "messages/") m.name (message_check header scope before m)) (messages_check header scope (with_message before m) ms) tt h in
    (message_kept header scope before m (behind_ok (codes "messages/") m.name (message_check header scope before m) tt two.0), two.1)

-- the messages are in form
messages_form : (items : List SchemaItem) → AllByRecursion IsChildInForm items → AllByRecursion IsMessageInForm (flat_map messages_in items)
messages_form [] h = tt
messages_form (child.Types el ∷ items) h = messages_form items h.1
messages_form (child.Message m ∷ items) h = (h.0, messages_form items h.1)

-- the messages of a tree in form are in form
pub in_form : (tree : Schema) → IsInForm tree → AllByRecursion IsMessageInForm (messages_of tree)
in_form tree h = messages_form tree.children h

-- ---- messages

-- what is the same for all levels of a tree
abbrev pub base_of : Schema → Base
base_of tree = record { types = declared_types tree; version = tree.version; header = header_members (outline_of tree) }

-- the level of a message
abbrev pub root_level : Base → LevelScope
root_level base = record { version = base.version; around = 0; since = 0 }

-- what a message says beside its parts
abbrev pub head_of_message : MessageEl → Head
head_of_message m = record { name = m.name; id = m.id; semantic = m.semantic_type; stated = m.block_length }

root_known : (base : Base) → Known base (root_level base)
root_known base = record { version = refl; since = omega arith }

-- the root of a message that was judged
pub message_passed : (base : Base) (before : MessagesBefore) (m : MessageEl) → MessageKept base.header (scope_of base (root_level base)) before m → IsMessageInForm m →
    Passed base (root_level base) None (head_of_message m) m.children
message_passed base before m kept form =
    let scope : Scope = scope_of base (root_level base) in
    let parts = parts_kept scope no_part m.children kept.found kept.parts in
    let ends : Kept (message_end_rules base.header m (told_of scope m.children)) =
    subst (λ (after : PartsBefore). Kept (message_end_rules base.header m after.all)) parts.told kept.ends in
    record {
      version = refl;
      since = omega arith;
      name = form.name;
      count = form.count;
      form = form.parts;
      each = parts.each;
      short = ends.0;
      wide = (neither _ _ ends.1.0).1;
      told = tt;
    }

module _ (base : Base) (P : Node → Type 0) (gives : (t : ℕ) (dim : Option (List Member)) (level : LevelScope) (head : Head) (ps : List PartItem) →
    Passed base level dim head ps → P (node t dim (level_of (within_of base level) head ps))) where
  messages_walked : (t : ℕ) (before : MessagesBefore) (ms : List MessageEl) → messages_check base.header (scope_of base (root_level base)) before ms ≡ Ok tt →
      AllByRecursion IsMessageInForm ms → AllByRecursion P (nodes_from t (map (resolved_message base.types) ms))
  messages_walked t before [] h form = tt
  messages_walked t before (m ∷ ms) h form =
      let two = first_message base.header (scope_of base (root_level base)) before m ms h in
      let level : LevelScope = root_level base in
      let passed = message_passed base before m two.0 form.0 in
      let here = gives t None level (head_of_message m) m.children passed in
      let below = parts_walked base P gives t level (root_known base) no_part two.0.found m.children two.0.parts form.0.parts in
      let first = one_level base P gives t None (within_of base level) (head_of_message m) (list_fields (within_of base level) m.children) (list_groups (within_of base level) m.children) (list_data (within_of base level) m.children) here below in
      all_joined P (nodes t None (resolved_message base.types m)) (nodes_from (suc t) (map (resolved_message base.types) ms)) first (messages_walked (suc t) (with_message before m) ms two.1 form.1)

-- what holds of each level that passed the rules holds of each level of the checked schema
pub schema_walked : (tree : Schema) (schema : WireSchema) (P : Node → Type 0) → ((t : ℕ) (dim : Option (List Member)) (level : LevelScope) (head : Head) (ps : List PartItem) →
    Passed (base_of tree) level dim head ps → P (node t dim (level_of (within_of (base_of tree) level) head ps))) → IsInForm tree → Found tree schema → AllByRecursion P (all_nodes schema)
schema_walked tree schema P gives form f =
    subst (λ (s : WireSchema). AllByRecursion P (all_nodes s)) f.is (messages_walked (base_of tree) P gives 0 no_message (messages_of tree) f.messages (in_form tree form))
