-- The messages of a checked schema: their names and ids.
use Rattle.std.proofs.Common.{◌≡◌, ◌≢◌, ◌+◌, ℕ, zero, suc, Bool, true, false, cond, List, [], ◌∷◌, ◌++◌, map, Option, Some, refl, ap, sym, subst, ◌∙◌, arith, append_assoc}
use Rattle.std.specs.Prelude.{Ok, AllPairs, slice_get, codes, nat_eq, ◌==◌}
use Rattle.std.specs.List.{AllByRecursion, IsDistinct, list_any}
use Rattle.std.specs.Str.{bytes_eq}
use Rattle.std.proofs.lemmas.Bool.Decides.{nat_tests}
use Rattle.std.proofs.lemmas.Cmp.{nat_list_eq_equiv, nat_eq_equiv}
use Rattle.std.proofs.lemmas.List.{append-nil}
use Rattle.std.proofs.lemmas.Map.Keys.{IsDistinct-push, IsDistinct-head, IsDistinct-tail, apart_from_distinct}
use Rattle.sbe_types.specs.declared.kind.Member.{Member}
use Rattle.sbe_types.specs.declared.schema.Level.{Level, out-Level, out-roll-Level}
use Rattle.sbe_types.specs.declared.schema.WireSchema.{WireSchema}
use Rattle.sbe_types.specs.declared.tree.Schema.{Schema}
use Rattle.sbe_types.specs.declared.tree.MessageEl.{MessageEl}
use Rattle.sbe_types.specs.declared.tree.TypesItem.{TypesItem}
use Rattle.sbe_wire.specs.Faults.{message_named}
use Rattle.schema_rules.specs.Counters.{holds}
use Rattle.schema_rules.specs.Names.{is_among, messages_of}
use Rattle.schema_rules.specs.PartRules.{Scope}
use Rattle.schema_rules.specs.Checked.{Outline, outline_of, header_members, message_scope, MessagesBefore, no_message, with_message, messages_check}
use Rattle.schema_rules.specs.Resolved.{resolved_message}
use Rattle.schema_facts.proofs.KindDeclared.{all_at}
use Rattle.schema_facts.proofs.LevelSteps.{neither, not_false}
use Rattle.schema_facts.proofs.LevelNames.{distinct_differ}
use Rattle.schema_facts.proofs.WholeWalk.{Found, first_message}

-- ---- names and ids of messages that passed

-- the names and ids of the messages before and these
messages_after : MessagesBefore → List MessageEl → MessagesBefore
messages_after before [] = before
messages_after before (m ∷ ms) = messages_after (with_message before m) ms

names_joined : (before : MessagesBefore) (ms : List MessageEl) → (messages_after before ms).names ≡ before.names ++ map (λ (m : MessageEl). m.name) ms
unfolding messages_after
names_joined before [] = sym (append-nil before.names)
names_joined before (m ∷ ms) = names_joined (with_message before m) ms ∙ append_assoc before.names (m.name ∷ []) (map (λ (m : MessageEl). m.name) ms)

ids_joined : (before : MessagesBefore) (ms : List MessageEl) → (messages_after before ms).ids ≡ before.ids ++ map (λ (m : MessageEl). m.id) ms
unfolding messages_after
ids_joined before [] = sym (append-nil before.ids)
ids_joined before (m ∷ ms) = ids_joined (with_message before m) ms ∙ append_assoc before.ids (m.id ∷ []) (map (λ (m : MessageEl). m.id) ms)

record Distinct (before : MessagesBefore) : Type 0 where
  names : IsDistinct bytes_eq before.names
  ids : IsDistinct nat_eq before.ids

none_distinct : Distinct no_message
unfolding IsDistinct
none_distinct = record { names = tt; ids = tt }

messages_distinct : (header : List Member) (scope : Scope) (before : MessagesBefore) (ms : List MessageEl) → messages_check header scope before ms ≡ Ok tt → Distinct before → Distinct (messages_after before ms)
unfolding messages_after
messages_distinct header scope before [] h distinct = distinct
messages_distinct header scope before (m ∷ ms) h distinct =
    let two = first_message header scope before m ms h in
    let own = neither (is_among before.names m.name) (list_any (nat_eq m.id) before.ids) two.0.head.0 in
    messages_distinct header scope (with_message before m) ms two.1
    (record { names = IsDistinct-push nat_list_eq_equiv before.names m.name distinct.names own.0; ids = IsDistinct-push nat_eq_equiv before.ids m.id distinct.ids own.1 })

-- ---- of the resolved messages

root_names : (types : List TypesItem) (ms : List MessageEl) → map (λ l. (out-Level l).name) (map (resolved_message types) ms) ≡ map (λ (m : MessageEl). m.name) ms
root_names types [] = refl
root_names types (m ∷ ms) =
    ap (λ x. x ∷ map (λ l. (out-Level l).name) (map (resolved_message types) ms)) (ap (λ r. r.name) (out-roll-Level _)) ∙ ap (λ xs. m.name ∷ xs) (root_names types ms)

root_ids : (types : List TypesItem) (ms : List MessageEl) → map (λ l. (out-Level l).id) (map (resolved_message types) ms) ≡ map (λ (m : MessageEl). m.id) ms
root_ids types [] = refl
root_ids types (m ∷ ms) =
    ap (λ x. x ∷ map (λ l. (out-Level l).id) (map (resolved_message types) ms)) (ap (λ r. r.id) (out-roll-Level _)) ∙ ap (λ xs. m.id ∷ xs) (root_ids types ms)

-- no two messages have one name
pub names_differ : (tree : Schema) (schema : WireSchema) → Found tree schema → AllPairs (λ a b. a ≢ b) (map (λ l. (out-Level l).name) schema.messages)
names_differ tree schema f =
    let ms : List MessageEl = messages_of tree in
    let outline : Outline = outline_of tree in
    let distinct = messages_distinct (header_members outline) (message_scope outline) no_message ms f.messages none_distinct in
    let all = distinct_differ _ (subst (IsDistinct bytes_eq) (names_joined no_message ms ∙ sym (root_names outline.types ms)) distinct.names) in
    subst (λ (s : WireSchema). AllPairs (λ a b. a ≢ b) (map (λ l. (out-Level l).name) s.messages)) f.is all

-- no two messages have one id, by their test
pub ids_distinct : (tree : Schema) (schema : WireSchema) → Found tree schema → IsDistinct nat_eq (map (λ l. (out-Level l).id) schema.messages)
ids_distinct tree schema f =
    let ms : List MessageEl = messages_of tree in
    let outline : Outline = outline_of tree in
    let distinct = messages_distinct (header_members outline) (message_scope outline) no_message ms f.messages none_distinct in
    let all = subst (IsDistinct nat_eq) (ids_joined no_message ms ∙ sym (root_ids outline.types ms)) distinct.ids in
    subst (λ (s : WireSchema). IsDistinct nat_eq (map (λ l. (out-Level l).id) s.messages)) f.is all

numbers_differ : (ids : List ℕ) → IsDistinct nat_eq ids → AllPairs (λ a b. a ≢ b) ids
numbers_differ ids h i j d below within = differ _ _ (apart_from_distinct nat_eq ids i j d h below within)
  where
    differ : (a b : ℕ) → nat_eq a b ≡ false → a ≢ b
    differ a b h = grind (arith, nat_tests)

-- no two messages have one id
pub ids_differ : (tree : Schema) (schema : WireSchema) → Found tree schema → AllPairs (λ a b. a ≢ b) (map (λ l. (out-Level l).id) schema.messages)
ids_differ tree schema f = numbers_differ _ (ids_distinct tree schema f)

-- ---- their sinces

roots_first : (types : List TypesItem) (ms : List MessageEl) → AllByRecursion (λ l. (out-Level l).since ≡ 0) (map (resolved_message types) ms)
roots_first types [] = tt
roots_first types (m ∷ ms) = (ap (λ r. r.since) (out-roll-Level _), roots_first types ms)

-- a message's own since is not counted
pub sinces_none : (tree : Schema) (schema : WireSchema) → Found tree schema → AllByRecursion (λ l. (out-Level l).since ≡ 0) schema.messages
sinces_none tree schema f =
    subst (λ (s : WireSchema). AllByRecursion (λ l. (out-Level l).since ≡ 0) s.messages) f.is (roots_first (outline_of tree).types (messages_of tree))

-- ---- an id leads to its message

all_unmapped : {X Y : Type 0} (f : X → Y) (P : Y → Type 0) (xs : List X) → AllByRecursion P (map f xs) → AllByRecursion (λ x. P (f x)) xs
all_unmapped f P [] h = tt
all_unmapped f P (x ∷ xs) h = (h.0, all_unmapped f P xs h.1)

chosen : (t : Bool) (first rest : Option (ℕ × Level)) → t ≡ true → cond t first rest ≡ first
chosen true first rest h = refl
chosen false first rest h = cc

passed : (t : Bool) (first rest : Option (ℕ × Level)) → t ≡ false → cond t first rest ≡ rest
passed true first rest h = cc
passed false first rest h = refl

same_id : (n : ℕ) → (n == n) ≡ true
same_id n = grind (arith, nat_tests)

id_leads : (k : ℕ) (roots : List Level) (i : ℕ) (root : Level) → IsDistinct nat_eq (map (λ l. (out-Level l).id) roots) → slice_get roots i ≡ Some root →
    message_named k (out-Level root).id roots ≡ Some (k + i, root)
id_leads k [] i root h at = cc
id_leads k (l ∷ roots) zero root h at =
    let same : l ≡ root = cc in
    let first : k ≡ k + 0 = omega arith in
    chosen ((out-Level l).id == (out-Level root).id) (Some (k, l)) (message_named (suc k) (out-Level root).id roots) (ap (λ r. (out-Level l).id == (out-Level r).id) (sym same) ∙ same_id (out-Level l).id)
    ∙ ap (λ r. Some (k, r)) same ∙ ap (λ n. Some (n, root)) first
id_leads k (l ∷ roots) (suc i) root h at =
    let ids : List ℕ = map (λ r. (out-Level r).id) roots in
    let head = all_unmapped (λ r. (out-Level r).id) (λ n. nat_eq (out-Level l).id n ≡ false) roots (IsDistinct-head nat_eq (out-Level l).id ids h) in
    let other = all_at (λ r. nat_eq (out-Level l).id (out-Level r).id ≡ false) roots i root head at in
    let next : suc k + i ≡ k + suc i = omega arith in
    passed ((out-Level l).id == (out-Level root).id) (Some (k, l)) (message_named (suc k) (out-Level root).id roots) other
    ∙ id_leads (suc k) roots i root (IsDistinct-tail nat_eq (out-Level l).id ids h) at ∙ ap (λ n. Some (n, root)) next

-- the id of a message leads to it
pub ids_lead : (tree : Schema) (schema : WireSchema) → Found tree schema → (i : ℕ) (root : Level) → slice_get schema.messages i ≡ Some root →
    message_named 0 (out-Level root).id schema.messages ≡ Some (i, root)
ids_lead tree schema f i root at =
    let first : 0 + i ≡ i = omega arith in
    id_leads 0 schema.messages i root (ids_distinct tree schema f) at ∙ ap (λ n. Some (n, root)) first

-- ---- the header holds the ids

roots_held : (header : List Member) (scope : Scope) (before : MessagesBefore) (ms : List MessageEl) → messages_check header scope before ms ≡ Ok tt →
    AllByRecursion (λ l. holds header (codes "templateId") (out-Level l).id ≡ true) (map (resolved_message scope.types) ms)
roots_held header scope before [] h = tt
roots_held header scope before (m ∷ ms) h =
    let two = first_message header scope before m ms h in
    let own = not_false _ (neither _ _ two.0.ends.1.0).0 in
    (subst (λ r. holds header (codes "templateId") r.id ≡ true) (sym (out-roll-Level _)) own, roots_held header scope (with_message before m) ms two.1)

-- the header has room for the ids of messages
pub ids_held : (tree : Schema) (schema : WireSchema) → Found tree schema → AllByRecursion (λ l. holds schema.header.members (codes "templateId") (out-Level l).id ≡ true) schema.messages
ids_held tree schema f =
    subst (λ (s : WireSchema). AllByRecursion (λ l. holds s.header.members (codes "templateId") (out-Level l).id ≡ true) s.messages) f.is
    (roots_held (header_members (outline_of tree)) (message_scope (outline_of tree)) no_message (messages_of tree) f.messages)

-- the header has room for the id of the schema
pub schema_id_held : (tree : Schema) (schema : WireSchema) → Found tree schema → holds schema.header.members (codes "schemaId") schema.id ≡ true
schema_id_held tree schema f =
    subst (λ (s : WireSchema). holds s.header.members (codes "schemaId") s.id ≡ true) f.is (not_false _ (neither _ _ f.header.1.1.1.0).0)

-- the header has room for the version of the schema
pub version_held : (tree : Schema) (schema : WireSchema) → Found tree schema → holds schema.header.members (codes "version") schema.version ≡ true
version_held tree schema f =
    subst (λ (s : WireSchema). holds s.header.members (codes "version") s.version ≡ true) f.is (not_false _ (neither _ _ f.header.1.1.1.0).1)
