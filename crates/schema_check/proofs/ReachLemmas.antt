-- In a schema that was judged in order each level's fields end within the largest place.
use Rattle.std.proofs.Common.{◌≡◌, ℕ, ◌≤◌, Bool, true, false, List, [], ◌∷◌, Option, Some, None, refl, ap, sym, subst, ◌∙◌, arith}
use Rattle.std.specs.Prelude.{codes, Ok, Err, unwrap_or, if◌then◌else◌, ◌==◌, ◌&&◌, ◌||◌, not, nat_lt}
use Rattle.std.proofs.lemmas.Bool.{or_parts}
use Rattle.std.proofs.lemmas.Bool.Decides.{nat_tests}
use mathlib.Core.Former.{Count}
use Rattle.sbe_types.specs.declared.limits.TheConstants.{PLACE_LIMIT}
use Rattle.sbe_types.specs.declared.kind.Member.{Member}
use Rattle.sbe_types.specs.declared.tree.GroupEl.{GroupEl}
use Rattle.sbe_types.specs.declared.tree.MessageEl.{MessageEl}
use Rattle.sbe_types.specs.declared.tree.PartItem.{PartItem, Row_of-PartItem, end_of-PartItem, more_of-PartItem, items-the_row-PartItem, items_hidden-the_row-PartItem-0}
use Rattle.sbe_types.specs.declared.tree.PartItem as part
use Rattle.sbe_types.specs.declared.tree.TypesItem.{TypesItem}
use Rattle.schema_rules.specs.declared.codes.CCode.{CCode}
use Rattle.schema_rules.specs.declared.codes.CCode.TheVariants as rule
use Rattle.schema_rules.specs.declared.codes.PartClass.TheVariants as class
use Rattle.schema_rules.specs.declared.levels.LevelFacts.{LevelFacts}
use Rattle.schema_rules.specs.declared.levels.PartHead.{PartHead}
use Rattle.schema_rules.specs.Judging.{CheckResult, ◌>>=◌, Rules, first_of, at_element}
use Rattle.schema_rules.specs.Kinds.{members_named}
use Rattle.schema_rules.specs.Counters.{holds}
use Rattle.schema_rules.specs.PartRules.{most_groups, Scope, PartsBefore, no_part, with_part, part_name, entries_level, part_rules, dimension_rules, is_short, is_bad_block, group_rules, level_check, part_check, parts_check}
use Rattle.schema_rules.specs.Checked.{Outline, MessagesBefore, no_message, with_message, header_rules, header_members, message_rules, message_end_rules, message_scope, message_check, messages_check, tree_check}
use Rattle.schema_rules.specs.CompositeRules.{most_bytes, types_check}
use Rattle.schema_facts.specs.Ends.{end_with, parts_end}
use Rattle.schema_check.specs.Reach.{row_reach, IsShortPart, IsShortRow, AreShortParts, IsShortLevel, AreShortMessages}

-- ---- what a judgement that passes says of its steps

bind_ok : {A B : Type 0} (r : CheckResult A) (f : A → CheckResult B) (y : B) → (r >>= f) ≡ Ok y → (x : A) × (r ≡ Ok x) × (f x ≡ Ok y)
bind_ok (Ok x) f y h = (x, refl, h)
bind_ok (Err e) f y h = cc

behind_ok : {A : Type 0} (front name : List ℕ) (r : CheckResult A) (x : A) → at_element front name r ≡ Ok x → r ≡ Ok x
behind_ok front name (Ok y) x h = h
behind_ok front name (Err e) x h = cc

rule_kept : (code : CCode) (b : Bool) (rest : Rules) → first_of ((code, b) ∷ rest) ≡ Ok tt → (b ≡ false) × (first_of rest ≡ Ok tt)
rule_kept code true rest h = cc
rule_kept code false rest h = (refl, h)

abbrev reached_in : CheckResult PartsBefore → ℕ
reached_in (Ok parts) = parts.all.reached
reached_in (Err e) = 0

-- ---- blocks

block_within : (members : List Member) (block : ℕ) → is_bad_block members block ≡ false → block ≤ PLACE_LIMIT
block_within members block bad =
    let long = (or_parts (nat_lt most_bytes block) (not (holds members (codes "blockLength") block)) bad).0 in grind (arith, nat_tests)

reach_within : (members : List Member) (stated : Option ℕ) (reached : ℕ) → is_short stated reached ≡ false →
    is_bad_block members (unwrap_or stated reached) ≡ false → reached ≤ PLACE_LIMIT
reach_within members None reached short bad = block_within members reached bad
reach_within members (Some stated) reached short bad = let within = block_within members stated bad in grind (arith, nat_tests)

entries_within : (around : ℕ) (members : List Member) (stated : Option ℕ) (all : LevelFacts) →
    first_of (group_rules around members stated all) ≡ Ok tt → all.reached ≤ PLACE_LIMIT
entries_within around members stated all h =
    let wide_rule : Rules = (rule.Width, is_bad_block members (unwrap_or stated all.reached)) ∷ [] in
    let deep_rule : Rules = (rule.Depth, around == most_groups) ∷ wide_rule in
    let empty_rule : Rules = (rule.EmptyGroup, all.floor == 0 && not all.alive) ∷ deep_rule in
    let short = rule_kept rule.BlockShort (is_short stated all.reached) empty_rule h in
    let empty = rule_kept rule.EmptyGroup (all.floor == 0 && not all.alive) deep_rule short.1 in
    let deep = rule_kept rule.Depth (around == most_groups) wide_rule empty.1 in
    let wide = rule_kept rule.Width (is_bad_block members (unwrap_or stated all.reached)) [] deep.1 in
    reach_within members stated all.reached short.0 wide.0

-- ---- parts

reach_with : (scope : Scope) (before : PartsBefore) (p : PartItem) → end_with scope.types before.all.reached p ≡ (with_part scope before p).all.reached
reach_with scope before (part.Field f) = refl
reach_with scope before (part.Data d) = refl
reach_with scope before (part.Group' name id dimension since length n row) = refl

-- where the fields of judged parts end, and those of the groups among them
record Reached (types : List TypesItem) (e : ℕ) (after : PartsBefore) {n : _} (row : Row_of-PartItem n) : Type 0 where
  fields : row_reach types e row ≡ after.all.reached
  groups : IsShortRow types row

mutual
  row_reached : (scope : Scope) (before after : PartsBefore) (n : _) (row : Row_of-PartItem n) → level_check scope before row ≡ Ok after →
      Reached scope.types before.all.reached after row
  row_reached scope before after n end_of-PartItem h = record { fields = ap (λ (r : CheckResult PartsBefore). reached_in r) h; groups = tt }
  row_reached scope before after n (more_of-PartItem p rest) h =
      let first = bind_ok (at_element (codes ".") (part_name p) (part_check scope before p)) (λ _. level_check scope (with_part scope before p) rest) after h in
      let more = row_reached scope (with_part scope before p) after _ rest first.2 in
      record {
        fields = ap (λ (e : ℕ). row_reach scope.types e rest) (reach_with scope before p) ∙ more.fields;
        groups = (part_reached scope before p (behind_ok (codes ".") (part_name p) (part_check scope before p) tt first.1), more.groups);
      }

  part_reached : (scope : Scope) (before : PartsBefore) (p : PartItem) → part_check scope before p ≡ Ok tt → IsShortPart scope.types p
  part_reached scope before (part.Field f) h = tt
  part_reached scope before (part.Data d) h = tt
  part_reached scope before (part.Group' name id dimension since length n row) h =
      let inner : Scope = record { types = scope.types; level = entries_level scope.level since } in
      let rules : PartsBefore → CheckResult (Unit {0}) = λ parts. first_of (group_rules scope.level.around (members_named scope.types dimension) length parts.all) in
      let head : PartHead = record { class = class.Group; since = since; is_fixed = false } in
      let one = bind_ok (first_of (dimension_rules scope.types dimension))
      (λ _. first_of (part_rules scope.level before name head) >>= (λ _. level_check inner no_part row >>= rules)) tt h in
      let two = bind_ok (first_of (part_rules scope.level before name head)) (λ _. level_check inner no_part row >>= rules) tt one.2 in
      let three = bind_ok (level_check inner no_part row) rules tt two.2 in
      let reached = row_reached inner no_part three.0 _ row three.1 in (
        subst (λ (e : ℕ). e ≤ PLACE_LIMIT) (sym reached.fields) (entries_within scope.level.around (members_named scope.types dimension) length three.0.all three.2),
        reached.groups,
      )

-- ---- over lists

row_ends : (types : List TypesItem) (n : _) (row : Row_of-PartItem n) (e : ℕ) → row_reach types e row ≡ parts_end types e (items-the_row-PartItem n row)
row_ends types n end_of-PartItem e = refl
row_ends types n (more_of-PartItem p rest) e = row_ends types _ rest (end_with types e p)

row_groups : (types : List TypesItem) (n : _) (row : Row_of-PartItem n) → IsShortRow types row → AreShortParts types (items-the_row-PartItem n row)
row_groups types n end_of-PartItem h = tt
row_groups types n (more_of-PartItem p rest) h = (h.0, row_groups types _ rest h.1)

abbrev row_in : PartItem → (n : Count) × Row_of-PartItem n
row_in (part.Group' _ _ _ _ _ _ row) = (_, row)
row_in _ = (_, end_of-PartItem)

-- the entries of a group
pub group_fields : (types : List TypesItem) (g : GroupEl) → IsShortPart types (part.Group g) → parts_end types 0 g.children ≤ PLACE_LIMIT
group_fields types g h =
    let row = row_in (part.Group g) in
    subst (λ (ps : List PartItem). parts_end types 0 ps ≤ PLACE_LIMIT) (items_hidden-the_row-PartItem-0 g.children)
    (subst (λ (e : ℕ). e ≤ PLACE_LIMIT) (row_ends types row.0 row.1 0) h.0)

pub group_groups : (types : List TypesItem) (g : GroupEl) → IsShortPart types (part.Group g) → AreShortParts types g.children
group_groups types g h =
    let row = row_in (part.Group g) in
    subst (AreShortParts types) (items_hidden-the_row-PartItem-0 g.children) (row_groups types row.0 row.1 h.1)

list_reached : (scope : Scope) (before after : PartsBefore) (ps : List PartItem) → parts_check scope before ps ≡ Ok after →
    (parts_end scope.types before.all.reached ps ≡ after.all.reached) × AreShortParts scope.types ps
list_reached scope before after [] h = (ap (λ (r : CheckResult PartsBefore). reached_in r) h, tt)
list_reached scope before after (p ∷ ps) h =
    let first = bind_ok (at_element (codes ".") (part_name p) (part_check scope before p)) (λ _. parts_check scope (with_part scope before p) ps) after h in
    let more = list_reached scope (with_part scope before p) after ps first.2 in (
      ap (λ (e : ℕ). parts_end scope.types e ps) (reach_with scope before p) ∙ more.0,
      (part_reached scope before p (behind_ok (codes ".") (part_name p) (part_check scope before p) tt first.1), more.1),
    )

-- ---- messages

message_within : (header : List Member) (m : MessageEl) (all : LevelFacts) → first_of (message_end_rules header m all) ≡ Ok tt → all.reached ≤ PLACE_LIMIT
message_within header m all h =
    let is_wide = not (holds header (codes "templateId") m.id) || is_bad_block header (unwrap_or m.block_length all.reached) in
    let short = rule_kept rule.BlockShort (is_short m.block_length all.reached) ((rule.Width, is_wide) ∷ []) h in
    let wide = rule_kept rule.Width is_wide [] short.1 in
    let bad = (or_parts (not (holds header (codes "templateId") m.id)) (is_bad_block header (unwrap_or m.block_length all.reached)) wide.0).1 in
    reach_within header m.block_length all.reached short.0 bad

message_short : (header : List Member) (scope : Scope) (before : MessagesBefore) (m : MessageEl) → message_check header scope before m ≡ Ok tt → IsShortLevel scope.types m.children
message_short header scope before m h =
    let rules : PartsBefore → CheckResult (Unit {0}) = λ parts. first_of (message_end_rules header m parts.all) in
    let one = bind_ok (first_of (message_rules scope.level.version before m)) (λ _. parts_check scope no_part m.children >>= rules) tt h in
    let two = bind_ok (parts_check scope no_part m.children) rules tt one.2 in
    let reached = list_reached scope no_part two.0 m.children two.1 in
    record { fields = subst (λ (e : ℕ). e ≤ PLACE_LIMIT) (sym reached.0) (message_within header m two.0.all two.2); groups = reached.1 }

messages_short : (header : List Member) (scope : Scope) (before : MessagesBefore) (ms : List MessageEl) → messages_check header scope before ms ≡ Ok tt → AreShortMessages scope.types ms
messages_short header scope before [] h = tt
messages_short header scope before (m ∷ ms) h =
    let first = bind_ok (at_element (codes "messages/") m.name (message_check header scope before m)) (λ _. messages_check header scope (with_message before m) ms) tt h in (
      message_short header scope before m (behind_ok (codes "messages/") m.name (message_check header scope before m) tt first.1),
      messages_short header scope (with_message before m) ms first.2,
    )

-- the messages of a schema that was judged in order
pub judged_short : (outline : Outline) (ms : List MessageEl) → tree_check outline ms ≡ Ok tt → AreShortMessages outline.types ms
judged_short outline ms h =
    let rest : CheckResult (Unit {0}) = messages_check (header_members outline) (message_scope outline) no_message ms in
    let head : CheckResult (Unit {0}) = at_element (codes "types/") outline.header_type (first_of (header_rules outline)) in
    let one = bind_ok (types_check outline.types [] outline.types) (λ _. head >>= (λ _. rest)) tt h in
    let two = bind_ok head (λ _. rest) tt one.2 in
    messages_short (header_members outline) (message_scope outline) no_message ms two.2
