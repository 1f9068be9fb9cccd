-- Tables grow at their end.
use Rattle.std.proofs.Common.{◌≡◌, ◌≤◌, ◌<◌, ℕ, zero, suc, ◌+◌, List, [], ◌∷◌, ◌++◌, length, take, drop, get_or, Option, Some, None, refl, sym, ap, ◌∙◌, subst, arith, append_assoc, length-append}
use Rattle.std.proofs.lemmas.List.{append-nil}
use Rattle.std.specs.Prelude.{slice_get, flat_map}
use Rattle.std.specs.List.{AllByRecursion}
use Rattle.sbe_types.specs.declared.schema.Field.{Field}
use Rattle.sbe_types.specs.declared.schema.WireSchema.{WireSchema}
use Rattle.sbe_types.specs.declared.schema.Group.{Group, out-Group}
use Rattle.sbe_types.specs.declared.schema.Level.{Level, out-Level}
use Rattle.sbe_types.specs.declared.kind.Member.{Member}
use Rattle.sbe_types.specs.Places.{end_past, fields_end}
use Rattle.sbe_wire.specs.Versions.{floor}
use Rattle.layout_tables.specs.declared.rows.FieldRow.{FieldRow}
use Rattle.layout_tables.specs.declared.rows.LevelRow.{LevelRow}
use Rattle.layout_compile.specs.declared.tables.Around.{Around}
use Rattle.schema_facts.specs.Levels.{Node, nodes, nodes_of, nodes_from, all_nodes, node}
use Rattle.schema_facts.specs.Measured.{AreMeasured, AreNarrowFields, IsNarrow, EndsWithin}
use Rattle.schema_facts.specs.CheckedLevels.{HasKinds}
use Rattle.schema_facts.specs.IsChecked.{IsChecked}
use Rattle.layout_tables.specs.Rowed.{RowIs, FieldIs, FieldsAre, DimOf, AreRows, rows_floor, roots_from}
use Rattle.layout_compile.specs.inner.Grown.{RowsAre, Grown, Pushed, IsOrdered, AreOrdered}
use Rattle.layout_tables.proofs.Nodes.{nodes_open, open_group, flat_more}
use Rattle.layout_tables.proofs.Told.{floor_rows}

-- ---- fields

-- one more field
pub fields_snoc : (e : ℕ) (fs : List Field) (rs : List FieldRow) (f : Field) (r : FieldRow) → FieldsAre e fs rs → FieldIs (fields_end e fs) f r → FieldsAre e (fs ++ f ∷ []) (rs ++ r ∷ [])
fields_snoc e [] [] f r are is = (is, tt)
fields_snoc e [] (q ∷ rs) f r are is = absurd are
fields_snoc e (g ∷ fs) [] f r are is = absurd are
fields_snoc e (g ∷ fs) (q ∷ rs) f r are is = (are.0, fields_snoc (end_past e g.offset g.kind) fs rs f r are.1 is)

pub end_snoc : (e : ℕ) (fs : List Field) (f : Field) → fields_end e (fs ++ f ∷ []) ≡ end_past (fields_end e fs) f.offset f.kind
end_snoc e [] f = refl
end_snoc e (g ∷ fs) f = end_snoc (end_past e g.offset g.kind) fs f

-- one more field that ends within the largest place
pub field_narrow : (e : ℕ) (fs : List Field) (i : ℕ) (f : Field) → i < length fs → f ≡ get_or fs i f → AreNarrowFields e (drop i fs) →
    IsNarrow f.kind × EndsWithin e f.offset f.kind × AreNarrowFields (end_past e f.offset f.kind) (drop (i + 1) fs)
field_narrow e [] i f h is all = absurd (omega arith)
field_narrow e (g ∷ fs) zero f h is all = subst (λ (y : Field). IsNarrow y.kind × EndsWithin e y.offset y.kind × AreNarrowFields (end_past e y.offset y.kind) fs) (sym is) all
field_narrow e (g ∷ fs) (suc i) f h is all =
    let next : suc i + 1 ≡ suc (i + 1) = omega arith in
    rw next (field_narrow e fs i f (omega arith) is all)

-- the same from a block's first byte
pub floor_row : (version n : ℕ) (fs : List Field) (rs : List FieldRow) → FieldsAre 0 fs rs → n ≡ rows_floor version 0 rs → n ≡ floor version fs
floor_row version n fs rs h is = is ∙ floor_rows version 0 0 fs rs h

-- ---- levels

-- one more level, and then those below it
rows_join : (k : ℕ) (rs qs : List LevelRow) (ns ms : List Node) → RowsAre k rs ns → RowsAre (k + length rs) qs ms → RowsAre k (rs ++ qs) (ns ++ ms)
rows_join k [] qs [] ms h there = subst (λ n. RowsAre n qs ms) (omega arith) there
rows_join k [] qs (n ∷ ns) ms h there = absurd h
rows_join k (r ∷ rs) qs [] ms h there = absurd h
rows_join k (r ∷ rs) qs (n ∷ ns) ms h there = (h.0, rows_join (suc k) rs qs ns ms h.1 (subst (λ m. RowsAre m qs ms) (omega arith) there))

pub grown_more : (a b c : List LevelRow) (ns ms : List Node) → Grown a b ns → Grown b c ms → Grown a c (ns ++ ms)
grown_more a b c ns ms h there = record {
  rows = h.rows ++ there.rows;
  is = there.is ∙ ap (λ l. l ++ there.rows) h.is ∙ append_assoc a h.rows there.rows;
  are = rows_join (length a) h.rows there.rows ns ms h.are (subst (λ k. RowsAre k there.rows ms) (ap length h.is ∙ length-append a h.rows) there.are);
}

pub grown_none : (a : List LevelRow) → Grown a a []
grown_none a = record { rows = []; is = sym (append-nil a); are = tt }

-- the rows of whole tables
rows_at : (k : ℕ) (rs : List LevelRow) (ns : List Node) → RowsAre k rs ns → (length rs ≡ length ns) × ((i : ℕ) (r : LevelRow) (n : Node) → slice_get rs i ≡ Some r → slice_get ns i ≡ Some n → RowIs (k + i) r n)
rows_at k [] [] h = (refl, λ i r n at there. absurd (none at))
  where
    none : {r : LevelRow} → None ≡ Some r → ⊥
    none e = cc
rows_at k [] (n ∷ ns) h = absurd h
rows_at k (r ∷ rs) [] h = absurd h
rows_at k (r ∷ rs) (n ∷ ns) h =
    let rest = rows_at (suc k) rs ns h.1 in
    (ap suc rest.0, one rest.1)
  where
    one : ((i : ℕ) (q : LevelRow) (m : Node) → slice_get rs i ≡ Some q → slice_get ns i ≡ Some m → RowIs (suc k + i) q m) → (i : ℕ) (q : LevelRow) (m : Node) → slice_get (r ∷ rs) i ≡ Some q → slice_get (n ∷ ns) i ≡ Some m → RowIs (k + i) q m
    one all zero q m at there =
        let first : r ≡ q = cc in
        let second : n ≡ m = cc in
        subst (λ x. RowIs (k + 0) x m) first (subst (λ y. RowIs (k + 0) r y) second (subst (λ j. RowIs j r n) (omega arith) h.0))
    one all (suc i) q m at there = subst (λ j. RowIs j q m) (omega arith) (all i q m at there)

long_nodes : (t : ℕ) (dim : Option (List Member)) (level : Level) → length (nodes t dim level) ≡ suc (length (flat_map (nodes_of t) (out-Level level).groups))
long_nodes t dim level = ap length (nodes_open t dim level)

pub long_level : (t : ℕ) (level : Level) → length (nodes t None level) ≡ length (flat_map (nodes_of t) (out-Level level).groups) + 1
long_level t level = omega (arith, long_nodes t None level)

long_group : (t : ℕ) (g : Group) → length (nodes_of t g) ≡ length (nodes t None (out-Group g).level)
long_group t g = ap length (open_group t g) ∙ omega (arith, long_nodes t (Some (out-Group g).dim) (out-Group g).level, long_nodes t None (out-Group g).level)

pub many_more : (t : ℕ) (gs : List Group) (i n : ℕ) (g : Group) → i < length gs → g ≡ get_or gs i g → n ≡ length (flat_map (nodes_of t) (take i gs)) → n + length (nodes t None (out-Group g).level) ≡ length (flat_map (nodes_of t) (take (i + 1) gs))
many_more t gs i n g h is many =
    omega (arith, many, long_group t g, ap length (flat_more t gs i g h is), length-append (flat_map (nodes_of t) (take i gs)) (nodes_of t g))

pub roots_more : (t : ℕ) (ls : List Level) (i : ℕ) (l : Level) → i < length ls → l ≡ get_or ls i l → nodes_from t (take (i + 1) ls) ≡ nodes_from t (take i ls) ++ nodes (t + i) None l
roots_more t [] i l h is = absurd (omega arith)
roots_more t (f ∷ ls) zero l h is =
    let same : t ≡ t + 0 = omega arith in
    append-nil (nodes t None f) ∙ ap (nodes t None) (sym is) ∙ ap (λ k. nodes k None l) same
roots_more t (f ∷ ls) (suc i) l h is =
    let next : suc i + 1 ≡ suc (i + 1) = omega arith in
    let same : suc t + i ≡ t + suc i = omega arith in
    ap (λ m. nodes_from t (take m (f ∷ ls))) next ∙ ap (λ r. nodes t None f ++ r) (roots_more (suc t) ls i l (omega arith) is)
    ∙ sym (append_assoc (nodes t None f) (nodes_from (suc t) (take i ls)) (nodes (suc t + i) None l))
    ∙ ap (λ k. (nodes t None f ++ nodes_from (suc t) (take i ls)) ++ nodes k None l) same

-- a level's row and those below it are the rows of its levels
pub pushed_grown : (around : Around) (a b : List LevelRow) (dim : Option (List Member)) (level : Level) → DimOf around.dim dim → Pushed around a b level → Grown a b (nodes around.template dim level)
pushed_grown around a b dim level of p =
    let row = p.row in
    let t = around.template in
    let long : length (nodes t None level) ≡ length (nodes t dim level) = long_nodes t None level ∙ sym (long_nodes t dim level) in
    let is : RowIs (length a) row (node t dim level) = record {
      template = p.this.template;
      since = p.this.since;
      block = p.this.block;
      dim = subst (λ d. DimOf d dim) (sym p.this.dim) of;
      fields = p.this.fields;
      newest_is = p.this.newest_is;
      floor_is = p.this.floor_is;
      groups = p.this.groups;
      parts = p.this.parts;
      flat_is = p.this.flat_is;
      end = p.this.end ∙ ap (λ n. length a + n) long;
    } in
    let next : length (a ++ row ∷ []) ≡ suc (length a) = omega (arith, length-append a (row ∷ [])) in
    let whole : Grown a b (node t dim level ∷ flat_map (nodes_of t) (out-Level level).groups) = record {
      rows = row ∷ p.below.rows;
      is = p.below.is ∙ append_assoc a (row ∷ []) p.below.rows;
      are = (is, subst (λ k. RowsAre k p.below.rows (flat_map (nodes_of t) (out-Level level).groups)) next p.below.are);
    } in
    subst (λ ns. Grown a b ns) (sym (nodes_open t dim level)) whole

pub below_more : (around : Around) (a b c : List LevelRow) (gs : List Group) (i : ℕ) (g : Group) → i < length gs → g ≡ get_or gs i g → DimOf around.dim (Some (out-Group g).dim) →
    Grown a b (flat_map (nodes_of around.template) (take i gs)) → Pushed around b c (out-Group g).level → Grown a c (flat_map (nodes_of around.template) (take (i + 1) gs))
below_more around a b c gs i g h is dims so p =
    let t = around.template in
    let this = subst (λ ns. Grown b c ns) (sym (open_group t g)) (pushed_grown around b c (Some (out-Group g).dim) (out-Group g).level dims p) in
    subst (λ ns. Grown a c ns) (sym (flat_more t gs i g h is)) (grown_more a b c (flat_map (nodes_of t) (take i gs)) (nodes_of t g) so this)

pub messages_more : (around : Around) (a b c : List LevelRow) (ls : List Level) (l : Level) → around.template < length ls → l ≡ get_or ls around.template l → DimOf around.dim None →
    Grown a b (nodes_from 0 (take around.template ls)) → Pushed around b c l → Grown a c (nodes_from 0 (take (around.template + 1) ls))
messages_more around a b c ls l h is dims so p =
    let t = around.template in
    let all = grown_more a b c (nodes_from 0 (take t ls)) (nodes t None l) so (pushed_grown around b c None l dims p) in
    subst (λ ns. Grown a c ns) (sym (roots_more 0 ls t l h is)) (subst (λ k. Grown a c (nodes_from 0 (take t ls) ++ nodes k None l)) (omega arith) all)

pub are_rows : (schema : WireSchema) (levels : List LevelRow) → Grown [] levels (all_nodes schema) → AreRows schema levels
are_rows schema levels g =
    let all = rows_at 0 g.rows (all_nodes schema) g.are in
    record {
      as_many = ap length g.is ∙ all.0;
      rows = λ n row this at there. subst (λ k. RowIs k row this) (omega arith) (all.1 n row this (ap (λ l. slice_get l n) (sym g.is) ∙ at) there);
    }

-- ---- what is asked of the levels

all_front : (xs ys : List Node) → AreOrdered (xs ++ ys) → AreOrdered xs
all_front [] ys h = tt
all_front (x ∷ xs) ys h = (h.0, all_front xs ys h.1)

all_back : (xs ys : List Node) → AreOrdered (xs ++ ys) → AreOrdered ys
all_back [] ys h = h
all_back (x ∷ xs) ys h = all_back xs ys h.1

both_asked : (nodes : List Node) → AreMeasured nodes → AllByRecursion HasKinds nodes → AreOrdered nodes
both_asked [] h k = tt
both_asked (x ∷ xs) h k = (record { measured = h.0; kinds = k.0.fields }, both_asked xs h.1 k.1)

-- the levels of a checked schema are so
pub levels_ordered : (schema : WireSchema) → IsChecked schema → AreOrdered (all_nodes schema)
levels_ordered schema h = both_asked (all_nodes schema) h.measured.levels h.kinds.levels

-- what is asked of the levels of one level
opened : (t : ℕ) (dim : Option (List Member)) (level : Level) → AreOrdered (nodes t dim level) → IsOrdered (node t dim level) × AreOrdered (flat_map (nodes_of t) (out-Level level).groups)
opened t dim level h = subst (λ ns. AreOrdered ns) (nodes_open t dim level) h

pub group_measured : (t : ℕ) (gs : List Group) (i : ℕ) (g : Group) → i < length gs → g ≡ get_or gs i g → AreOrdered (flat_map (nodes_of t) (drop i gs)) →
    IsOrdered (node t (Some (out-Group g).dim) (out-Group g).level) × AreOrdered (flat_map (nodes_of t) (out-Level (out-Group g).level).groups) × AreOrdered (flat_map (nodes_of t) (drop (i + 1) gs))
group_measured t [] i g h is all = absurd (omega arith)
group_measured t (f ∷ gs) zero g h is all =
    let here = subst (λ (x : Group). AreOrdered (nodes_of t x)) (sym is) (all_front (nodes_of t f) (flat_map (nodes_of t) gs) all) in
    let parts = opened t (Some (out-Group g).dim) (out-Group g).level (subst (λ ns. AreOrdered ns) (open_group t g) here) in
    (parts.0, parts.1, all_back (nodes_of t f) (flat_map (nodes_of t) gs) all)
group_measured t (f ∷ gs) (suc i) g h is all =
    let next : suc i + 1 ≡ suc (i + 1) = omega arith in
    rw next (group_measured t gs i g (omega arith) is all)

pub message_measured : (k : ℕ) (ls : List Level) (i : ℕ) (l : Level) → i < length ls → l ≡ get_or ls i l → AreOrdered (nodes_from (k + i) (drop i ls)) →
    IsOrdered (node (k + i) None l) × AreOrdered (flat_map (nodes_of (k + i)) (out-Level l).groups) × AreOrdered (nodes_from (k + (i + 1)) (drop (i + 1) ls))
message_measured k [] i l h is all = absurd (omega arith)
message_measured k (f ∷ ls) zero l h is all =
    let here = subst (λ (x : Level). AreOrdered (nodes (k + 0) None x)) (sym is) (all_front (nodes (k + 0) None f) (nodes_from (suc (k + 0)) ls) all) in
    let parts = opened (k + 0) None l here in
    (parts.0, parts.1, subst (λ j. AreOrdered (nodes_from j ls)) (omega arith) (all_back (nodes (k + 0) None f) (nodes_from (suc (k + 0)) ls) all))
message_measured k (f ∷ ls) (suc i) l h is all =
    let next : suc i + 1 ≡ suc (i + 1) = omega arith in
    let rest = message_measured (suc k) ls i l (omega arith) is (subst (λ j. AreOrdered (nodes_from j (drop i ls))) (omega arith) all) in
    let same : suc k + i ≡ k + suc i = omega arith in
    let after : suc k + (i + 1) ≡ k + suc (i + 1) = omega arith in
    rw next (
      subst (λ j. IsOrdered (node j None l)) same rest.0,
      subst (λ j. AreOrdered (flat_map (nodes_of j) (out-Level l).groups)) same rest.1,
      subst (λ j. AreOrdered (nodes_from j (drop (i + 1) ls))) after rest.2,
    )

-- ---- what falls

pub fewer : (t : ℕ) (gs : List Group) (i : ℕ) (g : Group) → i < length gs → g ≡ get_or gs i g → length (nodes t None (out-Group g).level) ≤ length (flat_map (nodes_of t) gs)
fewer t [] i g h is = absurd (omega arith)
fewer t (f ∷ gs) zero g h is =
    let all : length (flat_map (nodes_of t) (f ∷ gs)) ≡ length (nodes_of t f) + length (flat_map (nodes_of t) gs) = length-append (nodes_of t f) (flat_map (nodes_of t) gs) in
    let same : length (nodes_of t g) ≡ length (nodes_of t f) = ap (λ (x : Group). length (nodes_of t x)) is in
    omega (arith, long_group t g, same, all)
fewer t (f ∷ gs) (suc i) g h is =
    let all : length (flat_map (nodes_of t) (f ∷ gs)) ≡ length (nodes_of t f) + length (flat_map (nodes_of t) gs) = length-append (nodes_of t f) (flat_map (nodes_of t) gs) in
    omega (arith, fewer t gs i g (omega arith) is, all)

-- ---- the numbers of roots

pub grown_long : (a b : List LevelRow) (ns : List Node) → Grown a b ns → length b ≡ length a + length ns
grown_long a b ns g = omega (arith, ap length g.is, length-append a g.rows, (rows_at (length a) g.rows ns g.are).0)

roots_snoc : (k t : ℕ) (ls : List Level) (i : ℕ) (l : Level) → i < length ls → l ≡ get_or ls i l → roots_from k t (take (i + 1) ls) ≡ roots_from k t (take i ls) ++ (k + length (nodes_from t (take i ls))) ∷ []
roots_snoc k t [] i l h is = absurd (omega arith)
roots_snoc k t (f ∷ ls) zero l h is =
    let same : k ≡ k + 0 = omega arith in
    ap (λ n. n ∷ []) same
roots_snoc k t (f ∷ ls) (suc i) l h is =
    let next : suc i + 1 ≡ suc (i + 1) = omega arith in
    let all : length (nodes_from t (take (suc i) (f ∷ ls))) ≡ length (nodes t None f) + length (nodes_from (suc t) (take i ls)) = length-append (nodes t None f) (nodes_from (suc t) (take i ls)) in
    let long : k + length (nodes t None f) + length (nodes_from (suc t) (take i ls)) ≡ k + length (nodes_from t (take (suc i) (f ∷ ls))) =
    omega (arith, all) in
    ap (λ m. roots_from k t (take m (f ∷ ls))) next
    ∙ ap (λ r. k ∷ r) (roots_snoc (k + length (nodes t None f)) (suc t) ls i l (omega arith) is
    ∙ ap (λ n. roots_from (k + length (nodes t None f)) (suc t) (take i ls) ++ n ∷ []) long)

pub roots_go : (k : ℕ) (ls : List Level) (i n : ℕ) (l : Level) (so more : List ℕ) → i < length ls → l ≡ get_or ls i l → so ≡ roots_from k 0 (take i ls) → n ≡ k + length (nodes_from 0 (take i ls)) →
    more ≡ so ++ n ∷ [] → more ≡ roots_from k 0 (take (i + 1) ls)
roots_go k ls i n l so more h is before first grown =
    grown ∙ ap (λ r. r ++ n ∷ []) before ∙ ap (λ m. roots_from k 0 (take i ls) ++ m ∷ []) first ∙ sym (roots_snoc k 0 ls i l h is)

-- the same of all messages
pub message_first : (ls : List Level) (i : ℕ) (l : Level) → i < length ls → l ≡ get_or ls i l → AreOrdered (nodes_from i (drop i ls)) →
    IsOrdered (node i None l) × AreOrdered (flat_map (nodes_of i) (out-Level l).groups) × AreOrdered (nodes_from (i + 1) (drop (i + 1) ls))
message_first ls i l h is all =
    let same : 0 + i ≡ i = omega arith in
    let next : 0 + (i + 1) ≡ i + 1 = omega arith in
    let m = message_measured 0 ls i l h is (subst (λ k. AreOrdered (nodes_from k (drop i ls))) (sym same) all) in (
      subst (λ k. IsOrdered (node k None l)) same m.0,
      subst (λ k. AreOrdered (flat_map (nodes_of k) (out-Level l).groups)) same m.1,
      subst (λ k. AreOrdered (nodes_from k (drop (i + 1) ls))) next m.2,
    )
