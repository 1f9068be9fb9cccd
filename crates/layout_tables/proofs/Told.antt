-- What the rows tell of the schema.
use Rattle.std.proofs.lemmas.Bool.Decides.{nat_tests}
use Rattle.std.proofs.Common.{◌≡◌, ◌≤◌, ◌<◌, ◌+◌, cond, ℕ, zero, suc, Bool, true, false, List, [], ◌∷◌, length, take, get_or, Option, Some, None, refl, sym, ap, ◌∙◌, subst, arith, length-append}
use Rattle.std.specs.Prelude.{slice_get, max, not, ◌&&◌}
use Rattle.std.specs.List.{AllByRecursion}
use Rattle.std.specs.Option.{option_map, IsSome}
use Rattle.std.proofs.lemmas.Option.{slice_get_within, slice_get_read, slice_get-map}
use Rattle.sbe_types.specs.declared.limits.TheConstants.{PART_LIMIT}
use Rattle.sbe_types.specs.declared.kind.Kind.{Kind}
use Rattle.sbe_types.specs.declared.schema.Field.{Field}
use Rattle.sbe_types.specs.declared.schema.WireSchema.{WireSchema}
use Rattle.sbe_types.specs.declared.schema.Level.{Level, out-Level}
use Rattle.sbe_types.specs.Places.{is_const, begin_of, end_past, field_place}
use Rattle.sbe_wire.specs.Faults.{message_named}
use Rattle.sbe_wire.specs.Versions.{floor, floor_from, is_alive}
use Rattle.layout_tables.specs.declared.rows.FieldRow.{FieldRow}
use Rattle.layout_tables.specs.declared.rows.LevelRow.{LevelRow}
use Rattle.layout_tables.specs.declared.rows.PartRow.{PartRow}
use Rattle.schema_facts.specs.Levels.{Node, nodes, nodes_from, all_nodes, level_at, fields_at, groups_at, parts_at, fields_in, groups_in, parts_in, root_of}
use Rattle.schema_facts.specs.CheckedLevels.{HasFewParts}
use Rattle.schema_facts.specs.IsChecked.{IsChecked, LevelsHaveFewParts}
use Rattle.layout_tables.specs.Parts.{parts_in_all}
use Rattle.layout_tables.specs.Rowed.{FieldsAre, AreRows, RowFor, newest_from, rows_floor, part_row, roots_from}
use Rattle.layout_tables.proofs.Items.{item_there, long_map}

-- the number of a message whose id is known
pub guessed : (schema : WireSchema) (n id : ℕ) (level : Level) → IsChecked schema → slice_get schema.messages n ≡ Some level → (out-Level level).id ≡ id → option_map (λ m. m.0) (message_named 0 id schema.messages) ≡ Some n
guessed schema n id level checked at same =
    ap (λ i. option_map (λ (m : ℕ × Level). m.0) (message_named 0 i schema.messages)) (sym same) ∙ ap (option_map (λ (m : ℕ × Level). m.0)) (checked.placed.ids n level at)

-- the floor by the rows is the floor
pub floor_rows : (version e reached : ℕ) (fs : List Field) (rs : List FieldRow) → FieldsAre e fs rs → rows_floor version reached rs ≡ floor_from version e reached fs
floor_rows version e reached [] [] h = refl
floor_rows version e reached [] (r ∷ rs) h = absurd h
floor_rows version e reached (f ∷ fs) [] h = absurd h
floor_rows version e reached (f ∷ fs) (r ∷ rs) h =
    ap (λ (t : ℕ). rows_floor version (cond (is_alive version t && not r.is_constant) r.end reached) rs) h.0.since
    ∙ ap (λ (t : Bool). rows_floor version (cond (is_alive version f.since && not t) r.end reached) rs) h.0.constant
    ∙ ap (λ (t : ℕ). rows_floor version (cond (is_alive version f.since && not (is_const f.kind)) t reached) rs) h.0.end
    ∙ floor_rows version (end_past e f.offset f.kind) _ fs rs h.1

pub root_at : (k t : ℕ) (ls : List Level) (i n : ℕ) → slice_get (roots_from k t ls) i ≡ Some n → n ≡ k + length (nodes_from t (take i ls))
root_at k t [] i n h = cc
root_at k t (f ∷ ls) zero n h =
    let here : k ≡ n = cc in
    let first : n ≡ k + 0 = omega (arith, here) in
    first
root_at k t (f ∷ ls) (suc i) n h =
    let all : length (nodes_from t (take (suc i) (f ∷ ls))) ≡ length (nodes t None f) + length (nodes_from (suc t) (take i ls)) = length-append (nodes t None f) (nodes_from (suc t) (take i ls)) in
    omega (arith, root_at (k + length (nodes t None f)) (suc t) ls i n h, all)

pub roots_many : (k t : ℕ) (ls : List Level) → length (roots_from k t ls) ≡ length ls
roots_many k t [] = refl
roots_many k t (f ∷ ls) = ap suc (roots_many (k + length (nodes t None f)) (suc t) ls)

as_many : (e : ℕ) (fs : List Field) (rs : List FieldRow) → FieldsAre e fs rs → length rs ≡ length fs
as_many e [] [] h = refl
as_many e [] (r ∷ rs) h = absurd h
as_many e (f ∷ fs) [] h = absurd h
as_many e (f ∷ fs) (r ∷ rs) h = ap suc (as_many (end_past e f.offset f.kind) fs rs h.1)

-- the row of a field tells its place
row_place : (e : ℕ) (fs : List Field) (rs : List FieldRow) (i : ℕ) (r : FieldRow) → FieldsAre e fs rs → slice_get rs i ≡ Some r → IsSome (field_place e fs i) → field_place e fs i ≡ Some r.place
row_place e [] [] i r h at some = cc
row_place e [] (q ∷ rs) i r h at some = absurd h
row_place e (f ∷ fs) [] i r h at some = absurd h
row_place e (f ∷ fs) (q ∷ rs) zero r h at some =
    let here : q ≡ r = cc in
    placed (is_const f.kind) some ∙ ap Some (sym h.0.place ∙ ap (λ (x : FieldRow). x.place) here)
  where
    placed : (b : Bool) → IsSome (cond b None (Some (begin_of e f.offset))) → cond b None (Some (begin_of e f.offset)) ≡ Some (begin_of e f.offset)
    placed true h = cc
    placed false h = refl
row_place e (f ∷ fs) (q ∷ rs) (suc i) r h at some = row_place (end_past e f.offset f.kind) fs rs i r h.1 at some

row_since : (e : ℕ) (fs : List Field) (rs : List FieldRow) (i : ℕ) (r : FieldRow) → FieldsAre e fs rs → slice_get rs i ≡ Some r → option_map (λ (f : Field). f.since) (slice_get fs i) ≡ Some r.since
row_since e [] [] i r h at = cc
row_since e [] (q ∷ rs) i r h at = absurd h
row_since e (f ∷ fs) [] i r h at = absurd h
row_since e (f ∷ fs) (q ∷ rs) zero r h at =
    let here : q ≡ r = cc in
    ap Some (sym h.0.since ∙ ap (λ (x : FieldRow). x.since) here)
row_since e (f ∷ fs) (q ∷ rs) (suc i) r h at = row_since (end_past e f.offset f.kind) fs rs i r h.1 at

pub place_in_range : (e : ℕ) (fs : List Field) (i : ℕ) → IsSome (field_place e fs i) → i < length fs
place_in_range e [] i some = cc
place_in_range e (x ∷ fs) zero some = omega arith
place_in_range e (x ∷ fs) (suc i) some = let rest = place_in_range (end_past e x.offset x.kind) fs i some in omega (arith, rest)

-- a field that is no constant has a place
some_place : (e : ℕ) (fs : List Field) (i : ℕ) (kind : Kind) → option_map (λ (f : Field). f.kind) (slice_get fs i) ≡ Some kind → is_const kind ≡ false → IsSome (field_place e fs i)
some_place e [] i kind at h = cc
some_place e (f ∷ fs) zero kind at h =
    let same : f.kind ≡ kind = cc in
    placed (is_const f.kind) (ap is_const same ∙ h)
  where
    placed : (b : Bool) → b ≡ false → IsSome (cond b None (Some (begin_of e f.offset)))
    placed true h = cc
    placed false h = refl
some_place e (f ∷ fs) (suc i) kind at h = some_place (end_past e f.offset f.kind) fs i kind at h

pub place_there : (fs : List Field) (i : ℕ) (kind : Kind) → option_map (λ (f : Field). f.kind) (slice_get fs i) ≡ Some kind → is_const kind ≡ false → IsSome (field_place 0 fs i)
place_there fs i kind at h = some_place 0 fs i kind at h

-- the row of a level that there is
pub node_row : (schema : WireSchema) (levels : List LevelRow) (n : ℕ) (row : LevelRow) → AreRows schema levels → slice_get levels n ≡ Some row → RowFor schema n row
node_row schema levels n row t at =
    let this = item_there (all_nodes schema) n (omega (arith, t.as_many, slice_get_within levels n row at)) in
    (this.0, this.1, t.rows n row this.0 at this.1)

abbrev opened : Option Node → Option Level
opened o = option_map (λ (x : Node). x.level) o

pub fields_there : (schema : WireSchema) (n : ℕ) (row : LevelRow) → RowFor schema n row → length row.fields.items ≡ length (fields_at schema n)
fields_there schema n row t = as_many 0 _ row.fields.items t.2.fields ∙ ap (λ (o : Option Node). length (fields_in (opened o))) (sym t.1)

pub groups_there : (schema : WireSchema) (n : ℕ) (row : LevelRow) → RowFor schema n row → row.groups ≡ length (groups_at schema n)
groups_there schema n row t = t.2.groups ∙ ap (λ (o : Option Node). length (groups_in (opened o))) (sym t.1)

pub parts_there : (schema : WireSchema) (n : ℕ) (row : LevelRow) → RowFor schema n row → length row.parts.items ≡ length (parts_at schema n)
parts_there schema n row t = ap length t.2.parts ∙ long_map part_row _ ∙ ap (λ (o : Option Node). length (parts_in (opened o))) (sym t.1)

pub block_told : (schema : WireSchema) (n : ℕ) (row : LevelRow) → RowFor schema n row → option_map (λ (l : Level). (out-Level l).block_length) (level_at schema n) ≡ Some row.block
block_told schema n row t = ap (λ (o : Option Node). option_map (λ (l : Level). (out-Level l).block_length) (opened o)) t.1 ∙ ap Some (sym t.2.block)

pub since_told : (schema : WireSchema) (n i : ℕ) (row : LevelRow) (r : FieldRow) → RowFor schema n row → slice_get row.fields.items i ≡ Some r →
    option_map (λ (f : Field). f.since) (slice_get (fields_at schema n) i) ≡ Some r.since
since_told schema n i row r t at =
    ap (λ (o : Option Node). option_map (λ (f : Field). f.since) (slice_get (fields_in (opened o)) i)) t.1 ∙ row_since 0 _ row.fields.items i r t.2.fields at

pub place_told : (schema : WireSchema) (n i : ℕ) (row : LevelRow) (r : FieldRow) → RowFor schema n row → slice_get row.fields.items i ≡ Some r → IsSome (field_place 0 (fields_at schema n) i) →
    field_place 0 (fields_at schema n) i ≡ Some r.place
place_told schema n i row r t at some =
    let same = ap (λ (o : Option Node). field_place 0 (fields_in (opened o)) i) t.1 in
    same ∙ row_place 0 _ row.fields.items i r t.2.fields at (subst (λ (o : Option ℕ). IsSome o) same some)

pub floor_told : (schema : WireSchema) (n version : ℕ) (row : LevelRow) → RowFor schema n row → rows_floor version 0 row.fields.items ≡ floor version (fields_at schema n)
floor_told schema n version row t =
    floor_rows version 0 0 _ row.fields.items t.2.fields ∙ ap (λ (o : Option Node). floor version (fields_in (opened o))) (sym t.1)

-- no field stands from a later version on
newest_under : (n v : ℕ) (fs : List Field) → newest_from n fs ≤ v → n ≤ v
newest_under n v [] h = h
newest_under n v (f ∷ fs) h = omega (arith, newest_under (max n f.since) v fs h)

alive_is : (version since : ℕ) → since ≤ version → is_alive version since ≡ true
alive_is version since h = grind (arith, nat_tests)

-- versions from which on all fields are alive have one floor
same_floor : (v w n e reached : ℕ) (fs : List Field) → newest_from n fs ≤ v → newest_from n fs ≤ w → floor_from v e reached fs ≡ floor_from w e reached fs
same_floor v w n e reached [] here there = refl
same_floor v w n e reached (f ∷ fs) here there =
    let first : is_alive v f.since ≡ true = alive_is v f.since (omega (arith, newest_under (max n f.since) v fs here)) in
    let second : is_alive w f.since ≡ true = alive_is w f.since (omega (arith, newest_under (max n f.since) w fs there)) in
    ap (λ b. floor_from v (end_past e f.offset f.kind) (cond (b && not (is_const f.kind)) (end_past e f.offset f.kind) reached) fs) (first ∙ sym second)
    ∙ same_floor v w (max n f.since) (end_past e f.offset f.kind) (cond (is_alive w f.since && not (is_const f.kind)) (end_past e f.offset f.kind) reached) fs here there

pub newest_told : (schema : WireSchema) (n version : ℕ) (row : LevelRow) → RowFor schema n row → row.newest ≤ version → row.floor ≡ floor version (fields_at schema n)
newest_told schema n version row t late =
    let fields = (out-Level t.0.level).fields in
    let all : newest_from 0 fields ≤ row.newest = omega (arith, t.2.newest_is) in
    let then : newest_from 0 fields ≤ version = omega (arith, t.2.newest_is) in
    t.2.floor_is ∙ same_floor row.newest version 0 0 0 fields all then ∙ ap (λ (o : Option Node). floor version (fields_in (opened o))) (sym t.1)

pub fields_of : (schema : WireSchema) (n : ℕ) (level : Level) → level_at schema n ≡ Some level → (out-Level level).fields ≡ fields_at schema n
fields_of schema n level at = ap fields_in (sym at)

pub groups_of : (schema : WireSchema) (n : ℕ) (level : Level) → level_at schema n ≡ Some level → (out-Level level).groups ≡ groups_at schema n
groups_of schema n level at = ap groups_in (sym at)

pub parts_of : (schema : WireSchema) (n : ℕ) (level : Level) → level_at schema n ≡ Some level → (out-Level level).parts ≡ parts_at schema n
parts_of schema n level at = ap parts_in (sym at)

-- an item that is lent
pub item_of : {X Y : Type 0} (f : X → Y) (xs ys : List X) (i : ℕ) (x : X) → xs ≡ ys → i < length ys → x ≡ get_or xs i x → option_map f (slice_get ys i) ≡ Some (f x)
item_of f xs ys i x same within is =
    ap (λ l. option_map f (slice_get l i)) (sym same) ∙ ap (option_map f) (slice_get_read xs (length xs) i x refl (subst (λ l. i < length l) (sym same) within) is)

pub since_at : (schema : WireSchema) (n i : ℕ) (row : LevelRow) (r : FieldRow) → RowFor schema n row → i < length (fields_at schema n) → r ≡ get_or row.fields.items i r →
    option_map (λ (f : Field). f.since) (slice_get (fields_at schema n) i) ≡ Some r.since
since_at schema n i row r t within is =
    since_told schema n i row r t (slice_get_read row.fields.items _ i r refl (omega (arith, within, fields_there schema n row t)) is)

pub place_within : (schema : WireSchema) (n i : ℕ) (row : LevelRow) → RowFor schema n row → IsSome (field_place 0 (fields_at schema n) i) → i < length row.fields.items
place_within schema n i row t some = omega (arith, place_in_range 0 (fields_at schema n) i some, fields_there schema n row t)

pub place_at : (schema : WireSchema) (n i : ℕ) (row : LevelRow) (r : FieldRow) → RowFor schema n row → IsSome (field_place 0 (fields_at schema n) i) → r ≡ get_or row.fields.items i r →
    field_place 0 (fields_at schema n) i ≡ Some r.place
place_at schema n i row r t some is =
    place_told schema n i row r t (slice_get_read row.fields.items _ i r refl (place_within schema n i row t some) is) some

pub roots_within : (schema : WireSchema) (roots : List ℕ) (t : ℕ) → roots ≡ roots_from 0 0 schema.messages → t < length schema.messages → t < length roots
roots_within schema roots t is h = omega (arith, ap length is, roots_many 0 0 schema.messages, h)

pub root_told : (schema : WireSchema) (roots : List ℕ) (t n : ℕ) → roots ≡ roots_from 0 0 schema.messages → t < length schema.messages → n ≡ get_or roots t n → n ≡ root_of schema t
root_told schema roots t n is h at =
    let there = slice_get_read roots (length roots) t n refl (roots_within schema roots t is h) at in
    let found = root_at 0 0 schema.messages t n (ap (λ l. slice_get l t) (sym is) ∙ there) in
    omega (arith, found)

pub level_since : (schema : WireSchema) (n : ℕ) (row : LevelRow) → RowFor schema n row → option_map (λ (l : Level). (out-Level l).since) (level_at schema n) ≡ Some row.since
level_since schema n row t = ap (λ (o : Option Node). option_map (λ (l : Level). (out-Level l).since) (opened o)) t.1 ∙ ap Some (sym t.2.since)

-- the row of a data part
pub part_told : (schema : WireSchema) (n i : ℕ) (row : LevelRow) (r : PartRow) → RowFor schema n row → i < length (parts_at schema n) → r ≡ get_or row.parts.items i r →
    option_map part_row (slice_get (parts_at schema n) i) ≡ Some r
part_told schema n i row r t within is =
    let there : slice_get row.parts.items i ≡ Some r = slice_get_read row.parts.items _ i r refl (omega (arith, within, parts_there schema n row t)) is in
    ap (λ (o : Option Node). option_map part_row (slice_get (parts_in (opened o)) i)) t.1
    ∙ sym (slice_get-map part_row (out-Level t.0.level).parts i) ∙ ap (λ l. slice_get l i) (sym t.2.parts) ∙ there

few_at : (nodes : List Node) → AllByRecursion (λ (x : Node). HasFewParts x.level) nodes → (n : ℕ) →
    length (fields_in (opened (slice_get nodes n))) + length (groups_in (opened (slice_get nodes n))) + length (parts_in (opened (slice_get nodes n))) ≤ PART_LIMIT
few_at [] h n = omega arith
few_at (x ∷ nodes) h zero = h.0
few_at (x ∷ nodes) h (suc n) = few_at nodes h.1 n

-- a level has few parts
pub few_told : (schema : WireSchema) (n : ℕ) → LevelsHaveFewParts schema → parts_in_all schema n ≤ PART_LIMIT
few_told schema n h = few_at (all_nodes schema) h n
