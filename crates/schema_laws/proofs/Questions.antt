-- The first rule that is broken of all that are asked is the answer of the visit.
use Rattle.std.proofs.Common.{◌≡◌, ℕ, Bool, true, false, List, [], ◌∷◌, ◌++◌, refl, sym, ap, ◌∙◌}
use Rattle.std.specs.Prelude.{codes, Ok, Err, if◌then◌else◌}
use Rattle.sbe_types.specs.declared.kind.Member.{Member}
use Rattle.sbe_types.specs.declared.tree.CompositeEl.{CompositeEl}
use Rattle.sbe_types.specs.declared.tree.MemberItem.{MemberItem, Row_of-MemberItem, end_of-MemberItem, more_of-MemberItem}
use Rattle.sbe_types.specs.declared.tree.MemberItem as part
use Rattle.sbe_types.specs.declared.tree.TypesItem.{TypesItem}
use Rattle.sbe_types.specs.declared.tree.TypesItem.TheVariants as item
use Rattle.sbe_types.specs.declared.tree.FieldEl.{FieldEl}
use Rattle.sbe_types.specs.declared.tree.DataEl.{DataEl}
use Rattle.sbe_types.specs.declared.tree.PartItem.{PartItem, Row_of-PartItem, end_of-PartItem, more_of-PartItem}
use Rattle.sbe_types.specs.declared.tree.PartItem as piece
use Rattle.sbe_types.specs.declared.tree.MessageEl.{MessageEl}
use Rattle.sbe_types.specs.declared.tree.Schema.{Schema}
use Rattle.sbe_types.specs.declared.schema.WireSchema.{WireSchema}
use Rattle.schema_rules.specs.declared.codes.CCode.TheVariants as rule
use Rattle.schema_rules.specs.declared.codes.PartClass.TheVariants as class
use Rattle.schema_rules.specs.Judging.{CheckResult, ◌>>=◌, Rules, refused, first_of, at_element}
use Rattle.schema_rules.specs.Names.{name_of, is_among, type_named, messages_of}
use Rattle.schema_rules.specs.Chains.{is_endless}
use Rattle.schema_rules.specs.Kinds.{member_name, members_named}
use Rattle.schema_rules.specs.TypeRules.{type_rules, type_constant_rules, enum_rules, set_rules}
use Rattle.schema_rules.specs.CompositeRules.{Inside, deeper, MembersBefore, no_member, with_one, first_rules, member_rules, last_rules, composite_rules, entered, row_check, member_check, members_check, composite_check, item_check, declared_check, types_check}
use Rattle.schema_rules.specs.PartRules.{Scope, PartsBefore, no_part, with_part, part_name, part_rules, field_rules, field_head, field_check, has_bad_presence, data_rules, data_check, dimension_rules, group_rules, level_check, part_check, parts_check}
use Rattle.schema_rules.specs.Checked.{Outline, outline_of, header_members, header_rules, MessagesBefore, no_message, with_message, message_rules, message_end_rules, message_scope, message_check, messages_check, tree_check, checked_of}
use Rattle.schema_rules.specs.Resolved.{resolved}
use Rattle.schema_laws.specs.Questions.{Question, here, around, of_entering, past_row, of_row, of_member, past_members, of_members, of_composite, of_item, of_types, of_field, of_data, past_level, entries_scope, of_level, of_part, past_parts, of_parts, of_message, of_messages, of_outline, questions, check_by}

-- the first rule that is broken
abbrev first_broken : List Question → CheckResult (Unit {0})
first_broken [] = Ok tt
first_broken (q ∷ qs) = if q.broken then Err (refused q.code q.path) else first_broken qs

-- ---- one after another

then_first : (xs ys : List Question) → first_broken (xs ++ ys) ≡ (first_broken xs >>= (λ _. first_broken ys))
then_first [] ys = refl
then_first (q ∷ xs) ys = by q.broken (then_first xs ys)
  where
    by : (b : Bool) → first_broken (xs ++ ys) ≡ (first_broken xs >>= (λ _. first_broken ys)) →
        (if b then Err (refused q.code q.path) else first_broken (xs ++ ys)) ≡ ((if b then Err (refused q.code q.path) else first_broken xs) >>= (λ _. first_broken ys))
    by true h = refl
    by false h = h

first_here : (rs : Rules) → first_of rs ≡ first_broken (here rs)
first_here [] = refl
first_here (r ∷ rs) = ap (λ (j : CheckResult (Unit {0})). if r.1 then Err (refused r.0 []) else j) (first_here rs)

first_around : (front name : List ℕ) (qs : List Question) → at_element front name (first_broken qs) ≡ first_broken (around front name qs)
first_around front name [] = refl
first_around front name (q ∷ qs) = by q.broken (first_around front name qs)
  where
    by : (b : Bool) → at_element front name (first_broken qs) ≡ first_broken (around front name qs) →
        at_element front name (if b then Err (refused q.code q.path) else first_broken qs) ≡ (if b then Err (refused q.code (front ++ name ++ q.path)) else first_broken (around front name qs))
    by true h = refl
    by false h = h

-- a judgement of some questions, and what follows them
abbrev Tells : {A : Type 0} → CheckResult A → List Question → A → Type 0
Tells j qs x = j ≡ (first_broken qs >>= (λ _. Ok x))

unit_tells : (r : CheckResult (Unit {0})) → (r >>= (λ _. Ok tt)) ≡ r
unit_tells (Ok u) = refl
unit_tells (Err e) = refl

assoc : {A : Type 0} (r s : CheckResult (Unit {0})) (t : CheckResult A) → ((r >>= (λ _. s)) >>= (λ _. t)) ≡ (r >>= (λ _. s >>= (λ _. t)))
assoc (Ok u) s t = refl
assoc (Err e) s t = refl

both : (j k : CheckResult (Unit {0})) (xs ys : List Question) → j ≡ first_broken xs → k ≡ first_broken ys → (j >>= (λ _. k)) ≡ first_broken (xs ++ ys)
both j k xs ys h e =
    ap (λ (r : CheckResult (Unit {0})). r >>= (λ _. k)) h ∙ ap (λ (r : CheckResult (Unit {0})). first_broken xs >>= (λ _. r)) e ∙ sym (then_first xs ys)

both_tell : {A : Type 0} (j : CheckResult (Unit {0})) (k : CheckResult A) (xs ys : List Question) (x : A) → j ≡ first_broken xs → Tells k ys x → Tells (j >>= (λ _. k)) (xs ++ ys) x
both_tell {A} j k xs ys x h e =
    ap (λ (r : CheckResult (Unit {0})). r >>= (λ _. k)) h
    ∙ ap (λ (r : CheckResult A). first_broken xs >>= (λ _. r)) e
    ∙ sym (assoc (first_broken xs) (first_broken ys) (Ok x))
    ∙ ap (λ (r : CheckResult (Unit {0})). r >>= (λ _. Ok x)) (sym (then_first xs ys))

known_then : {A : Type 0} (qs : List Question) (x : A) (f : A → CheckResult (Unit {0})) → ((first_broken qs >>= (λ _. Ok x)) >>= f) ≡ (first_broken qs >>= (λ _. f x))
known_then qs x f = by (first_broken qs)
  where
    by : (r : CheckResult (Unit {0})) → ((r >>= (λ _. Ok x)) >>= f) ≡ (r >>= (λ _. f x))
    by (Ok u) = refl
    by (Err e) = refl

tells_then : {A : Type 0} (j : CheckResult A) (f : A → CheckResult (Unit {0})) (xs ys : List Question) (x : A) → Tells j xs x → f x ≡ first_broken ys → (j >>= f) ≡ first_broken (xs ++ ys)
tells_then {A} j f xs ys x h e =
    ap (λ (r : CheckResult A). r >>= f) h ∙ known_then xs x f ∙ ap (λ (r : CheckResult (Unit {0})). first_broken xs >>= (λ _. r)) e ∙ sym (then_first xs ys)

behind_is : (front name : List ℕ) (j : CheckResult (Unit {0})) (qs : List Question) → j ≡ first_broken qs → at_element front name j ≡ first_broken (around front name qs)
behind_is front name j qs h = ap (at_element front name) h ∙ first_around front name qs

-- ---- declared types

entering : (inside : Inside) (before : MembersBefore) (m : MemberItem) → entered inside before m ≡ first_broken (of_entering inside before m)
entering inside before m =
    both (first_of (first_rules inside.types m)) _ (here (first_rules inside.types m)) (here (member_rules inside.types before m) ++ here (last_rules inside m)) (first_here (first_rules inside.types m))
    (both (first_of (member_rules inside.types before m)) (first_of (last_rules inside m)) (here (member_rules inside.types before m)) (here (last_rules inside m)) (first_here (member_rules inside.types before m)) (first_here (last_rules inside m)))

mutual
  row_tells : (inside : Inside) (before : MembersBefore) (n : _) (row : Row_of-MemberItem n) → Tells (row_check inside before row) (of_row inside before row) (past_row inside before row)
  row_tells inside before n end_of-MemberItem = refl
  row_tells inside before n (more_of-MemberItem m rest) =
      both_tell (at_element (codes ".") (member_name m) (member_check inside before m)) (row_check inside (with_one inside.types before m) rest)
      (around (codes ".") (member_name m) (of_member inside before m)) (of_row inside (with_one inside.types before m) rest) (past_row inside (with_one inside.types before m) rest)
      (behind_is (codes ".") (member_name m) (member_check inside before m) (of_member inside before m) (member_is inside before m)) (row_tells inside (with_one inside.types before m) _ rest)

  member_is : (inside : Inside) (before : MembersBefore) (m : MemberItem) → member_check inside before m ≡ first_broken (of_member inside before m)
  member_is inside before (part.Type t) = entering inside before (part.Type t)
  member_is inside before (part.Enum e) = entering inside before (part.Enum e)
  member_is inside before (part.Set s) = entering inside before (part.Set s)
  member_is inside before (part.Ref r) = entering inside before (part.Ref r)
  member_is inside before (part.Composite' name offset since n row) =
      both (entered inside before (part.Composite' name offset since n row)) _ (of_entering inside before (part.Composite' name offset since n row)) (of_row (deeper inside) no_member row ++ here (composite_rules inside.around (past_row (deeper inside) no_member row).all)) (entering inside before (part.Composite' name offset since n row))
      (tells_then (row_check (deeper inside) no_member row) (λ members. first_of (composite_rules inside.around members.all)) (of_row (deeper inside) no_member row)
      (here (composite_rules inside.around (past_row (deeper inside) no_member row).all)) (past_row (deeper inside) no_member row) (row_tells (deeper inside) no_member _ row)
      (first_here (composite_rules inside.around (past_row (deeper inside) no_member row).all)))

members_tell : (inside : Inside) (before : MembersBefore) (ms : List MemberItem) → Tells (members_check inside before ms) (of_members inside before ms) (past_members inside before ms)
members_tell inside before [] = refl
members_tell inside before (m ∷ ms) =
    both_tell (at_element (codes ".") (member_name m) (member_check inside before m)) (members_check inside (with_one inside.types before m) ms)
    (around (codes ".") (member_name m) (of_member inside before m)) (of_members inside (with_one inside.types before m) ms) (past_members inside (with_one inside.types before m) ms)
    (behind_is (codes ".") (member_name m) (member_check inside before m) (of_member inside before m) (member_is inside before m)) (members_tell inside (with_one inside.types before m) ms)

composite_is : (types : List TypesItem) (c : CompositeEl) → composite_check types c ≡ first_broken (of_composite types c)
composite_is types c = by (record { types = types; around = 1 })
  where
    by : (inside : Inside) →
        (first_of ((rule.Cycle, is_endless types c) ∷ []) >>= (λ _. members_check inside no_member c.children >>= (λ members. first_of (composite_rules 0 members.all))))
        ≡ first_broken (here ((rule.Cycle, is_endless types c) ∷ []) ++ (of_members inside no_member c.children ++ here (composite_rules 0 (past_members inside no_member c.children).all)))
    by inside =
        both (first_of ((rule.Cycle, is_endless types c) ∷ [])) _ (here ((rule.Cycle, is_endless types c) ∷ [])) (of_members inside no_member c.children ++ here (composite_rules 0 (past_members inside no_member c.children).all)) (first_here ((rule.Cycle, is_endless types c) ∷ []))
        (tells_then (members_check inside no_member c.children) (λ members. first_of (composite_rules 0 members.all)) (of_members inside no_member c.children)
        (here (composite_rules 0 (past_members inside no_member c.children).all)) (past_members inside no_member c.children) (members_tell inside no_member c.children)
        (first_here (composite_rules 0 (past_members inside no_member c.children).all)))

item_is : (types : List TypesItem) (t : TypesItem) → item_check types t ≡ first_broken (of_item types t)
item_is types (item.Type t) =
    both (first_of (type_rules types false t)) (first_of (type_constant_rules t)) (here (type_rules types false t)) (here (type_constant_rules t)) (first_here (type_rules types false t)) (first_here (type_constant_rules t))
item_is types (item.Enum e) = first_here (enum_rules types e)
item_is types (item.Set s) = first_here (set_rules types s)
item_is types (item.Composite c) = composite_is types c

declared_is : (types : List TypesItem) (earlier : List (List ℕ)) (t : TypesItem) →
    declared_check types earlier t ≡ first_broken (here ((rule.DuplicateType, is_among earlier (name_of t)) ∷ []) ++ of_item types t)
declared_is types earlier t =
    both (first_of ((rule.DuplicateType, is_among earlier (name_of t)) ∷ [])) (item_check types t) (here ((rule.DuplicateType, is_among earlier (name_of t)) ∷ [])) (of_item types t)
    (first_here ((rule.DuplicateType, is_among earlier (name_of t)) ∷ [])) (item_is types t)

types_are : (types : List TypesItem) (earlier : List (List ℕ)) (ts : List TypesItem) → types_check types earlier ts ≡ first_broken (of_types types earlier ts)
types_are types earlier [] = refl
types_are types earlier (t ∷ ts) =
    both (at_element (codes "types/") (name_of t) (declared_check types earlier t)) (types_check types (earlier ++ name_of t ∷ []) ts)
    (around (codes "types/") (name_of t) (here ((rule.DuplicateType, is_among earlier (name_of t)) ∷ []) ++ of_item types t)) (of_types types (earlier ++ name_of t ∷ []) ts)
    (behind_is (codes "types/") (name_of t) (declared_check types earlier t) (here ((rule.DuplicateType, is_among earlier (name_of t)) ∷ []) ++ of_item types t) (declared_is types earlier t))
    (types_are types (earlier ++ name_of t ∷ []) ts)

-- ---- messages

field_is : (scope : Scope) (before : PartsBefore) (f : FieldEl) → field_check scope before f ≡ first_broken (of_field scope before f)
field_is scope before f =
    both (first_of (field_rules scope.types before.all.reached f)) _ (here (field_rules scope.types before.all.reached f)) (here (part_rules scope.level before f.name (field_head scope f)) ++ here ((rule.Presence, has_bad_presence scope.types f (type_named scope.types f.type_name)) ∷ [])) (first_here (field_rules scope.types before.all.reached f))
    (both (first_of (part_rules scope.level before f.name (field_head scope f))) (first_of ((rule.Presence, has_bad_presence scope.types f (type_named scope.types f.type_name)) ∷ []))
    (here (part_rules scope.level before f.name (field_head scope f))) (here ((rule.Presence, has_bad_presence scope.types f (type_named scope.types f.type_name)) ∷ []))
    (first_here (part_rules scope.level before f.name (field_head scope f))) (first_here ((rule.Presence, has_bad_presence scope.types f (type_named scope.types f.type_name)) ∷ [])))

data_is : (scope : Scope) (before : PartsBefore) (d : DataEl) → data_check scope before d ≡ first_broken (of_data scope before d)
data_is scope before d =
    both (first_of (data_rules scope.types d)) _ (here (data_rules scope.types d)) (here (part_rules scope.level before d.name (record { class = class.Data; since = d.since_version; is_fixed = false })))
    (first_here (data_rules scope.types d)) (first_here (part_rules scope.level before d.name (record { class = class.Data; since = d.since_version; is_fixed = false })))

mutual
  level_tells : (scope : Scope) (before : PartsBefore) (n : _) (row : Row_of-PartItem n) → Tells (level_check scope before row) (of_level scope before row) (past_level scope before row)
  level_tells scope before n end_of-PartItem = refl
  level_tells scope before n (more_of-PartItem p rest) =
      both_tell (at_element (codes ".") (part_name p) (part_check scope before p)) (level_check scope (with_part scope before p) rest)
      (around (codes ".") (part_name p) (of_part scope before p)) (of_level scope (with_part scope before p) rest) (past_level scope (with_part scope before p) rest)
      (behind_is (codes ".") (part_name p) (part_check scope before p) (of_part scope before p) (part_is scope before p)) (level_tells scope (with_part scope before p) _ rest)

  part_is : (scope : Scope) (before : PartsBefore) (p : PartItem) → part_check scope before p ≡ first_broken (of_part scope before p)
  part_is scope before (piece.Field f) = field_is scope before f
  part_is scope before (piece.Data d) = data_is scope before d
  part_is scope before (piece.Group' name id dimension since length n row) =
      both (first_of (dimension_rules scope.types dimension)) _ (here (dimension_rules scope.types dimension)) (here (part_rules scope.level before name (record { class = class.Group; since = since; is_fixed = false })) ++ (of_level (entries_scope scope since) no_part row ++ here (group_rules scope.level.around (members_named scope.types dimension) length (past_level (entries_scope scope since) no_part row).all))) (first_here (dimension_rules scope.types dimension))
      (both (first_of (part_rules scope.level before name (record { class = class.Group; since = since; is_fixed = false }))) _ (here (part_rules scope.level before name (record { class = class.Group; since = since; is_fixed = false }))) (of_level (entries_scope scope since) no_part row ++ here (group_rules scope.level.around (members_named scope.types dimension) length (past_level (entries_scope scope since) no_part row).all))
      (first_here (part_rules scope.level before name (record { class = class.Group; since = since; is_fixed = false })))
      (tells_then (level_check (entries_scope scope since) no_part row) (λ parts. first_of (group_rules scope.level.around (members_named scope.types dimension) length parts.all)) (of_level (entries_scope scope since) no_part row)
      (here (group_rules scope.level.around (members_named scope.types dimension) length (past_level (entries_scope scope since) no_part row).all)) (past_level (entries_scope scope since) no_part row)
      (level_tells (entries_scope scope since) no_part _ row)
      (first_here (group_rules scope.level.around (members_named scope.types dimension) length (past_level (entries_scope scope since) no_part row).all))))

parts_tell : (scope : Scope) (before : PartsBefore) (ps : List PartItem) → Tells (parts_check scope before ps) (of_parts scope before ps) (past_parts scope before ps)
parts_tell scope before [] = refl
parts_tell scope before (p ∷ ps) =
    both_tell (at_element (codes ".") (part_name p) (part_check scope before p)) (parts_check scope (with_part scope before p) ps)
    (around (codes ".") (part_name p) (of_part scope before p)) (of_parts scope (with_part scope before p) ps) (past_parts scope (with_part scope before p) ps)
    (behind_is (codes ".") (part_name p) (part_check scope before p) (of_part scope before p) (part_is scope before p)) (parts_tell scope (with_part scope before p) ps)

message_is : (header : List Member) (scope : Scope) (before : MessagesBefore) (m : MessageEl) → message_check header scope before m ≡ first_broken (of_message header scope before m)
message_is header scope before m =
    both (first_of (message_rules scope.level.version before m)) _ (here (message_rules scope.level.version before m)) (of_parts scope no_part m.children ++ here (message_end_rules header m (past_parts scope no_part m.children).all)) (first_here (message_rules scope.level.version before m))
    (tells_then (parts_check scope no_part m.children) (λ parts. first_of (message_end_rules header m parts.all)) (of_parts scope no_part m.children)
    (here (message_end_rules header m (past_parts scope no_part m.children).all)) (past_parts scope no_part m.children) (parts_tell scope no_part m.children)
    (first_here (message_end_rules header m (past_parts scope no_part m.children).all)))

messages_are : (header : List Member) (scope : Scope) (before : MessagesBefore) (ms : List MessageEl) → messages_check header scope before ms ≡ first_broken (of_messages header scope before ms)
messages_are header scope before [] = refl
messages_are header scope before (m ∷ ms) =
    both (at_element (codes "messages/") m.name (message_check header scope before m)) (messages_check header scope (with_message before m) ms)
    (around (codes "messages/") m.name (of_message header scope before m)) (of_messages header scope (with_message before m) ms)
    (behind_is (codes "messages/") m.name (message_check header scope before m) (of_message header scope before m) (message_is header scope before m))
    (messages_are header scope (with_message before m) ms)

-- ---- the schema

outline_is : (outline : Outline) (messages : List MessageEl) → tree_check outline messages ≡ first_broken (of_outline outline messages)
outline_is outline messages =
    both (types_check outline.types [] outline.types) _ (of_types outline.types [] outline.types) (around (codes "types/") outline.header_type (here (header_rules outline)) ++ of_messages (header_members outline) (message_scope outline) no_message messages) (types_are outline.types [] outline.types)
    (both (at_element (codes "types/") outline.header_type (first_of (header_rules outline))) (messages_check (header_members outline) (message_scope outline) no_message messages)
    (around (codes "types/") outline.header_type (here (header_rules outline))) (of_messages (header_members outline) (message_scope outline) no_message messages)
    (behind_is (codes "types/") outline.header_type (first_of (header_rules outline)) (here (header_rules outline)) (first_here (header_rules outline)))
    (messages_are (header_members outline) (message_scope outline) no_message messages))

answered : (qs : List Question) (s : WireSchema) → (first_broken qs >>= (λ _. Ok s)) ≡ check_by qs s
answered [] s = refl
answered (q ∷ qs) s = by q.broken (answered qs s)
  where
    by : (b : Bool) → (first_broken qs >>= (λ _. Ok s)) ≡ check_by qs s → ((if b then Err (refused q.code q.path) else first_broken qs) >>= (λ _. Ok s)) ≡ (if b then Err (refused q.code q.path) else check_by qs s)
    by true h = refl
    by false h = h

pub answer_is : (schema : Schema) → checked_of schema ≡ check_by (questions schema) (resolved schema)
answer_is schema = (ap (λ (r : CheckResult (Unit {0})). r >>= (λ _. Ok (resolved schema))) (outline_is (outline_of schema) (messages_of schema))) ∙ answered (questions schema) (resolved schema)
