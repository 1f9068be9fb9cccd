-- An entry of a level that passed the rules takes at least one byte, wherever its group stands on the wire.
use Rattle.std.proofs.Common.{◌≡◌, ◌≤◌, ◌+◌, ◌*◌, ℕ, length, zero, suc, Bool, true, false, List, [], ◌∷◌, Option, Some, None, max, refl, ap, sym, subst, ◌∙◌, arith, inl, inr, ◌⊎◌}
use Rattle.std.specs.Prelude.{codes, not, nat_le, nat_lt, ◌&&◌, ◌||◌, ◌==◌, if◌then◌else◌}
use Rattle.std.specs.Str.{bytes_eq}
use Rattle.std.proofs.lemmas.Bool.{ltb-false}
use Rattle.std.proofs.lemmas.Bool.Decides.{nat_tests}
use Rattle.std.proofs.lemmas.Slice.Eq.{bytes_eq-Decides}
use Rattle.sbe_types.specs.declared.kind.Primitive.{Primitive}
use Rattle.sbe_types.specs.declared.kind.Primitive.TheVariants.{Char, I8, I16, I32, I64, U8, U16, U32, U64}
use Rattle.sbe_types.specs.declared.kind.Kind.{Kind, Leaf, Enum, Set, Const, Comp'}
use Rattle.sbe_types.specs.declared.kind.Member.{Member}
use Rattle.sbe_types.specs.declared.schema.Group.{Group, roll-Group, out-roll-Group}
use Rattle.sbe_types.specs.declared.schema.Level.{Level, out-Level, out-roll-Level}
use Rattle.sbe_types.specs.declared.tree.PartItem.{PartItem, Row_of-PartItem}
use Rattle.sbe_types.specs.declared.tree.PartItem as part
use Rattle.sbe_types.specs.Numbers.{prim_width}
use Rattle.sbe_types.specs.Places.{width, is_const, begin_of, end_past, members_end}
use Rattle.sbe_wire.specs.Versions.{is_alive, floor_from, floor}
use Rattle.schema_rules.specs.declared.facts.Fact.{Fact}
use Rattle.schema_rules.specs.declared.levels.LevelFacts.{LevelFacts}
use Rattle.schema_rules.specs.declared.levels.LevelScope.{LevelScope}
use Rattle.schema_rules.specs.Facts.{counted, past, field_fact}
use Rattle.schema_rules.specs.Kinds.{field_kind, members_named}
use Rattle.schema_rules.specs.Counters.{leaf_in, is_counter, has_counter, is_dimension}
use Rattle.schema_rules.specs.PartRules.{PartsBefore, no_part, with_part, dimension_rules, entries_level}
use Rattle.schema_rules.specs.Resolved.{Within, list_fields, list_groups, list_data, resolved_data}
use Rattle.schema_facts.specs.Entries.{group_least, groups_least, part_least, parts_least}
use Rattle.schema_facts.specs.Levels.{node}
use Rattle.schema_facts.specs.CheckedLevels.{TakesByte}
use Rattle.schema_facts.proofs.FactKinds.{past_tells}
use Rattle.schema_facts.proofs.FieldEnds.{field_tells}
use Rattle.schema_facts.proofs.LevelSteps.{Kept, EachKept, PartKept, parts_after, not_false, all_true}
use Rattle.schema_facts.proofs.LevelWalk.{Base, Head, Passed, within_of, scope_of, told_of, level_of, row_level, head_of_group}

-- ---- a dimension takes bytes

-- each primitive takes a byte
pub prim_wide : (prim : Primitive) → 1 ≤ prim_width prim
prim_wide Char = omega arith
prim_wide I8 = omega arith
prim_wide I16 = omega arith
prim_wide I32 = omega arith
prim_wide I64 = omega arith
prim_wide U8 = omega arith
prim_wide U16 = omega arith
prim_wide U32 = omega arith
prim_wide U64 = omega arith

-- a kind that is a counter
pub counter_wide : (e : ℕ) (offset : Option ℕ) (kind : Kind) → is_counter (leaf_in kind) ≡ true → 1 ≤ end_past e offset kind
counter_wide e offset (Leaf l) h =
    let single : l.length ≡ 1 = grind (arith, nat_tests, all_true) in
    let one : 1 ≤ begin_of e offset + prim_width l.prim * 1 = omega (arith, prim_wide l.prim) in
    subst (λ n. 1 ≤ begin_of e offset + prim_width l.prim * n) (sym single) one
counter_wide e offset (Enum l names) h = cc
counter_wide e offset (Set p names) h = cc
counter_wide e offset (Const c) h = cc
counter_wide e offset (Comp' n row) h = cc

-- one of two tests holds
pub either : (a b : Bool) → (a || b) ≡ true → (a ≡ true) ⊎ (b ≡ true)
either true b h = inl refl
either false b h = inr h

same_name : (one other name : List ℕ) → bytes_eq one name ≡ true → bytes_eq other name ≡ true → one ≡ other
same_name one other name h k = (bytes_eq-Decides one name).0 h ∙ sym ((bytes_eq-Decides other name).0 k)

-- of two members with two names of counters, the last is a counter
last_counts : (a b : Member) (one other : List ℕ) → (one ≡ other → ⊥) → has_counter (a ∷ (b ∷ [])) one ≡ true → has_counter (a ∷ (b ∷ [])) other ≡ true → is_counter (leaf_in b.kind) ≡ true
last_counts a b one other apart h k = elim (either (bytes_eq one a.name && is_counter (leaf_in a.kind)) ((bytes_eq one b.name && is_counter (leaf_in b.kind)) || false) h) [
  | inl first ↦ elim (either (bytes_eq other a.name && is_counter (leaf_in a.kind)) ((bytes_eq other b.name && is_counter (leaf_in b.kind)) || false) k) [
    | inl again ↦ absurd (apart (same_name one other a.name (all_true _ _ first).0 (all_true _ _ again).0))
    | inr second ↦ after (bytes_eq other b.name) second
  ]
  | inr second ↦ after (bytes_eq one b.name) second
]
  where
    after : (t : Bool) → ((t && is_counter (leaf_in b.kind)) || false) ≡ true → is_counter (leaf_in b.kind) ≡ true
    after true h = elim (either (is_counter (leaf_in b.kind)) false h) [ inl e ↦ e | inr e ↦ cc ]
    after false h = cc

-- a dimension takes a byte
pub dimension_wide : (dim : List Member) → is_dimension dim ≡ true → 1 ≤ members_end 0 dim
dimension_wide [] h = cc
dimension_wide (a ∷ []) h = cc
dimension_wide (a ∷ (b ∷ [])) h =
    let two = all_true (has_counter (a ∷ (b ∷ [])) (codes "blockLength")) (has_counter (a ∷ (b ∷ [])) (codes "numInGroup")) h in
    counter_wide (end_past 0 a.offset a.kind) b.offset b.kind (last_counts a b (codes "blockLength") (codes "numInGroup") (λ e. cc) two.0 two.1)
dimension_wide (a ∷ (b ∷ (c ∷ ms))) h =
    let test : (length (a ∷ (b ∷ (c ∷ ms))) == 2) ≡ true = (all_true _ _ h).0 in
    let two : length (a ∷ (b ∷ (c ∷ ms))) ≡ 2 = grind (arith, nat_tests) in
    absurd (omega (arith, two))

-- ---- a group or data that stands wherever its level does

-- at each version that has the level
pub alive_there : (version since own : ℕ) → since ≤ version → nat_le own since ≡ true → is_alive version (max since own) ≡ true
alive_there version since own h k = grind (arith, nat_tests)

least_when : (t : Bool) (n : ℕ) → t ≡ true → 1 ≤ n → 1 ≤ (if t then n else 0)
least_when true n h k = k
least_when false n h k = cc

group_takes : (version since : ℕ) (dim : List Member) (level : Level) → (out-Level level).since ≡ since → is_alive version since ≡ true → 1 ≤ members_end 0 dim →
    1 ≤ group_least version (roll-Group (record { dim = dim; level = level }))
group_takes version since dim level is h k =
    subst (λ r. 1 ≤ (if is_alive version (out-Level r.level).since then members_end 0 r.dim else 0)) (sym (out-roll-Group (record { dim = dim; level = level })))
    (least_when (is_alive version (out-Level level).since) (members_end 0 dim) (ap (is_alive version) is ∙ h) k)

-- the since of a group's level
pub since_is : (within : Within) (head : Head) {n : _} (row : Row_of-PartItem n) → (out-Level (row_level within head row)).since ≡ within.since
since_is within head row = ap (λ r. r.since) (out-roll-Level _)

-- some group or data of these takes a byte
abbrev TailTakes : ℕ → Within → List PartItem → Type 0
TailTakes version within ps = 1 ≤ groups_least version (list_groups within ps) + parts_least version (list_data within ps)

tail_takes : (base : Base) (level : LevelScope) (version : ℕ) → level.since ≤ version → (before : PartsBefore) (ps : List PartItem) → EachKept (scope_of base level) before ps →
    (parts_after (scope_of base level) before ps).all.alive ≡ true → (before.all.alive ≡ true) ⊎ TailTakes version (within_of base level) ps
tail_takes base level version late before [] h all = inl all
tail_takes base level version late before (part.Field f ∷ ps) h all = tail_takes base level version late (with_part (scope_of base level) before (part.Field f)) ps h.1 all
tail_takes base level version late before (part.Data d ∷ ps) h all =
    let within : Within = within_of base level in
    let rest = tail_takes base level version late (with_part (scope_of base level) before (part.Data d)) ps h.1 all in
    elim rest [
      | inl here ↦ elim (either before.all.alive (nat_le d.since_version level.since) here) [
        | inl old ↦ inl old
        | inr own ↦
            let one : 1 ≤ part_least version (resolved_data within d) = least_when (is_alive version (max level.since d.since_version)) _ (alive_there version level.since d.since_version late own) (prim_wide _) in
            inr (more_data (part_least version (resolved_data within d)) (groups_least version (list_groups within ps)) (parts_least version (list_data within ps)) one)
      ]
      | inr after ↦ inr (later_data (part_least version (resolved_data within d)) (groups_least version (list_groups within ps)) (parts_least version (list_data within ps)) after)
    ]
  where
    more_data : (n g p : ℕ) → 1 ≤ n → 1 ≤ g + (n + p)
    more_data n g p h = omega arith

    later_data : (n g p : ℕ) → 1 ≤ g + p → 1 ≤ g + (n + p)
    later_data n g p h = omega arith
tail_takes base level version late before (part.Group' name id dimension since stated n row ∷ ps) h all =
    let within : Within = within_of base level in
    let inner : Within = within_of base (entries_level level since) in
    let dim : List Member = members_named base.types dimension in
    let made : Level = row_level inner (head_of_group name id stated) row in
    let g : Group = roll-Group (record { dim = dim; level = made }) in
    let kept : PartKept (scope_of base level) before (part.Group' name id dimension since stated n row) = h.0 in
    let members : Kept (dimension_rules base.types dimension) = kept.own.members in
    let rest = tail_takes base level version late (with_part (scope_of base level) before (part.Group' name id dimension since stated n row)) ps h.1 all in
    elim rest [
      | inl here ↦ elim (either before.all.alive (nat_le since level.since) here) [
        | inl old ↦ inl old
        | inr own ↦
            let one : 1 ≤ group_least version g =
            group_takes version inner.since dim made (since_is inner (head_of_group name id stated) row) (alive_there version level.since since late own) (dimension_wide dim (not_false _ members.1.1.0)) in
            inr (more_groups (group_least version g) (groups_least version (list_groups within ps)) (parts_least version (list_data within ps)) one)
      ]
      | inr after ↦ inr (later_groups (group_least version g) (groups_least version (list_groups within ps)) (parts_least version (list_data within ps)) after)
    ]
  where
    more_groups : (n g p : ℕ) → 1 ≤ n → 1 ≤ (n + g) + p
    more_groups n g p h = omega arith

    later_groups : (n g p : ℕ) → 1 ≤ g + p → 1 ≤ (n + g) + p
    later_groups n g p h = omega arith

-- ---- a field that stands wherever its level does

moved : (here alive : Bool) (own since version : ℕ) → here ≡ nat_le own since → alive ≡ is_alive version (max since own) → since ≤ version → here ≡ true → alive ≡ true
moved here alive own since version is so late h = so ∙ alive_there version since own late (sym is ∙ h)

counted_some : (r e : ℕ) → counted r ≡ counted e → 1 ≤ r → 1 ≤ e
counted_some r e h k = grind arith

-- fields so far: their end by facts and by kinds, and the floor by facts and at a version
record Reached (r e low k : ℕ) : Type 0 where
  same : counted r ≡ counted e
  there : 1 ≤ low → 1 ≤ k
  some : 1 ≤ low → 1 ≤ e

one_more : (fixed const here alive : Bool) (r e s d low k : ℕ) → fixed ≡ const → (here ≡ true → alive ≡ true) → Reached r e low k → counted s ≡ counted d → (1 ≤ e → 1 ≤ d) →
    Reached s d (if not fixed && here then s else low) (if alive && not const then d else k)
one_more true true here true r e s d low k is on h same more = record { same = same; there = h.there; some = λ l. more (h.some l) }
one_more true true here false r e s d low k is on h same more = record { same = same; there = h.there; some = λ l. more (h.some l) }
one_more true false here alive r e s d low k is on h same more = cc
one_more false true here alive r e s d low k is on h same more = cc
one_more false false true true r e s d low k is on h same more = record { same = same; there = counted_some s d same; some = counted_some s d same }
one_more false false true false r e s d low k is on h same more = let never : false ≡ true = on refl in cc
one_more false false false true r e s d low k is on h same more = record { same = same; there = λ l. more (h.some l); some = λ l. more (h.some l) }
one_more false false false false r e s d low k is on h same more = record { same = same; there = h.there; some = λ l. more (h.some l) }

-- the end of fields that take bytes isn't 0 when one more is added
end_stays : (fixed const : Bool) (r e : ℕ) (offset : Option ℕ) (w : ℕ) → fixed ≡ const → counted r ≡ counted e → (not fixed && nat_lt (begin_of r offset) r) ≡ false → 1 ≤ e →
    1 ≤ (if const then e else begin_of e offset + w)
end_stays true true r e offset w is same h some = some
end_stays true false r e offset w is same h some = cc
end_stays false true r e offset w is same h some = cc
end_stays false false r e None w is same h some = omega arith
end_stays false false r e (Some b) w is same h some =
    let first : 1 ≤ r = counted_some e r (sym same) some in
    let after : r ≤ b = ltb-false b r h in
    omega arith

floor_takes : (base : Base) (level : LevelScope) (version : ℕ) → level.since ≤ version → (before : PartsBefore) (ps : List PartItem) → EachKept (scope_of base level) before ps →
    (e k : ℕ) → Reached before.all.reached e before.all.floor k → 1 ≤ (parts_after (scope_of base level) before ps).all.floor →
    1 ≤ floor_from version e k (list_fields (within_of base level) ps)
floor_takes base level version late before [] h e k reached all = reached.there all
floor_takes base level version late before (part.Field f ∷ ps) h e k reached all =
    let kept : PartKept (scope_of base level) before (part.Field f) = h.0 in
    let fact : Fact = field_fact base.types f in
    let kind : Kind = field_kind base.types f in
    let tells = field_tells base.types f in
    let r : ℕ = before.all.reached in
    let s : ℕ = past r f.offset fact in
    let d : ℕ = end_past e f.offset kind in
    let same : counted s ≡ counted d = past_tells r e f.offset fact kind reached.same tells in
    let stays : 1 ≤ e → 1 ≤ d = end_stays fact.is_fixed (is_const kind) r e f.offset (width kind) tells.fixed reached.same kept.own.0.1.1.1.0 in
    let next = one_more fact.is_fixed (is_const kind) (nat_le f.since_version level.since) (is_alive version (max level.since f.since_version)) r e s d before.all.floor k tells.fixed
    (alive_there version level.since f.since_version late) reached same stays in
    floor_takes base level version late (with_part (scope_of base level) before (part.Field f)) ps h.1 d _ next all
floor_takes base level version late before (part.Group' name id dimension since stated n row ∷ ps) h e k reached all =
    floor_takes base level version late (with_part (scope_of base level) before (part.Group' name id dimension since stated n row)) ps h.1 e k reached all
floor_takes base level version late before (part.Data d ∷ ps) h e k reached all =
    floor_takes base level version late (with_part (scope_of base level) before (part.Data d)) ps h.1 e k reached all

-- ---- an entry

no_entry : (floor : ℕ) (alive : Bool) → (floor == 0 && not alive) ≡ false → (alive ≡ true) ⊎ (1 ≤ floor)
no_entry floor true h = inl refl
no_entry zero false h = cc
no_entry (suc n) false h = inr (omega arith)

entry_by : (base : Base) (level : LevelScope) (ps : List PartItem) → EachKept (scope_of base level) no_part ps → (all : LevelFacts) → all ≡ told_of (scope_of base level) ps →
    (all.floor == 0 && not all.alive) ≡ false → (version : ℕ) → level.since ≤ version →
    1 ≤ floor version (list_fields (within_of base level) ps) + groups_least version (list_groups (within_of base level) ps) + parts_least version (list_data (within_of base level) ps)
entry_by base level ps each all is h version late =
    let within : Within = within_of base level in
    let fields : ℕ = floor version (list_fields within ps) in
    let groups : ℕ = groups_least version (list_groups within ps) in
    let parts : ℕ = parts_least version (list_data within ps) in
    elim (no_entry all.floor all.alive h) [
      | inl alive ↦ elim (tail_takes base level version late no_part ps each (sym (ap (λ (a : LevelFacts). a.alive) is) ∙ alive)) [
        | inl never ↦ cc
        | inr tail ↦ in_tail fields groups parts tail
      ]
      | inr some ↦
          let first : 1 ≤ (told_of (scope_of base level) ps).floor = subst (λ (a : LevelFacts). 1 ≤ a.floor) is some in
          in_block fields groups parts (floor_takes base level version late no_part ps each 0 0 (record { same = refl; there = λ l. absurd (omega arith); some = λ l. absurd (omega arith) }) first)
    ]
  where
    in_tail : (f g p : ℕ) → 1 ≤ g + p → 1 ≤ f + g + p
    in_tail f g p h = omega arith

    in_block : (f g p : ℕ) → 1 ≤ f → 1 ≤ f + g + p
    in_block f g p h = omega arith

-- such a level's entries take bytes
pub entry_takes : (base : Base) (t : ℕ) (dim : Option (List Member)) (level : LevelScope) (head : Head) (ps : List PartItem) → Passed base level dim head ps →
    TakesByte (node t dim (level_of (within_of base level) head ps))
entry_takes base t None level head ps passed = tt
entry_takes base t (Some dim) level head ps passed = λ version late.
    let within : Within = within_of base level in
    let from : level.since ≤ version = subst (λ r. r.since ≤ version) (out-roll-Level _) late in
    let entry = entry_by base level ps passed.each (told_of (scope_of base level) ps) refl passed.told.entry version from in
    subst (λ r. 1 ≤ floor version r.fields + groups_least version r.groups + parts_least version r.parts) (sym (out-roll-Level _)) entry
