-- The tables of data parts, as they grow.
use Rattle.std.proofs.Common.{◌≡◌, ◌≤◌, ◌<◌, ℕ, zero, suc, ◌+◌, List, [], ◌∷◌, ◌++◌, length, take, get_or, refl, sym, ap, ◌∙◌, arith, append_assoc}
use Rattle.std.specs.Prelude.{map}
use Rattle.std.proofs.lemmas.List.{append-nil}
use Rattle.sbe_types.specs.declared.schema.Level.{out-Level}
use Rattle.sbe_types.specs.declared.schema.WireSchema.{WireSchema}
use Rattle.schema_facts.specs.Levels.{Node, all_nodes}
use Rattle.layout_tables.specs.declared.rows.LevelRow.{LevelRow}
use Rattle.layout_tables.specs.declared.rows.PartPlace.{PartPlace}
use Rattle.layout_tables.specs.Rowed.{part_row}
use Rattle.layout_compile.specs.inner.Grown.{RowsAre, Grown}
use Rattle.layout_tables.specs.Parts.{part_counts, firsts_from, places_in, places_from}
use Rattle.layout_tables.proofs.Items.{long_map, map_more}

-- how many there are in all
abbrev sum_of : List ℕ → ℕ
sum_of [] = 0
sum_of (count ∷ counts) = count + sum_of counts

abbrev pub counts_of : List LevelRow → List ℕ
counts_of rows = map (λ (row : LevelRow). length row.parts.items) rows

firsts_snoc : (k : ℕ) (counts : List ℕ) (count : ℕ) → firsts_from k (counts ++ count ∷ []) ≡ firsts_from k counts ++ (k + sum_of counts) ∷ []
firsts_snoc k [] count = ap (λ n. n ∷ []) (omega arith)
firsts_snoc k (c ∷ counts) count =
    let same : k + c + sum_of counts ≡ k + (c + sum_of counts) = omega arith in
    ap (λ l. k ∷ l) (firsts_snoc (k + c) counts count ∙ ap (λ n. firsts_from (k + c) counts ++ n ∷ []) same)

sum_snoc : (counts : List ℕ) (count : ℕ) → sum_of (counts ++ count ∷ []) ≡ sum_of counts + count
sum_snoc [] count = omega arith
sum_snoc (c ∷ counts) count = omega (arith, sum_snoc counts count)

-- the numbers of the first i levels, and how many parts they have
pub record FirstsAre (rows : List LevelRow) (i before : ℕ) (firsts : List ℕ) : Type 0 where
  pub are : firsts ≡ firsts_from 0 (counts_of (take i rows))
  pub sum : before ≡ sum_of (counts_of (take i rows))

pub firsts_more : (rows : List LevelRow) (i before next : ℕ) (firsts more : List ℕ) (row : LevelRow) → i < length rows → row ≡ get_or rows i row → FirstsAre rows i before firsts →
    more ≡ firsts ++ before ∷ [] → next ≡ before + length row.parts.items → FirstsAre rows (i + 1) next more
firsts_more rows i before next firsts more row h is so grown late =
    let counts = counts_of (take i rows) in
    let one : counts_of (take (i + 1) rows) ≡ counts ++ length row.parts.items ∷ [] = map_more (λ (row : LevelRow). length row.parts.items) rows i row h is in
    let sum : before ≡ 0 + sum_of counts = omega (arith, so.sum) in
    record {
      are = grown ∙ ap (λ l. l ++ before ∷ []) so.are ∙ ap (λ n. firsts_from 0 counts ++ n ∷ []) sum ∙ sym (ap (firsts_from 0) one ∙ firsts_snoc 0 counts (length row.parts.items));
      sum = late ∙ ap (λ n. n + length row.parts.items) so.sum ∙ sym (ap sum_of one ∙ sum_snoc counts (length row.parts.items));
    }

in_snoc : (level i many : ℕ) → places_in level i (many + 1) ≡ places_in level i many ++ (record { level = level; part = i + many }) ∷ []
in_snoc level i zero = ap (λ n. (record { level = level; part = n }) ∷ []) (omega arith)
in_snoc level i (suc many) =
    let next : suc many + 1 ≡ suc (many + 1) = omega arith in
    let same : suc i + many ≡ i + suc many = omega arith in
    ap (places_in level i) next ∙ ap (λ l. (record { level = level; part = i }) ∷ l)
    (in_snoc level (suc i) many ∙ ap (λ n. places_in level (suc i) many ++ (record { level = level; part = n }) ∷ []) same)

-- one more place
pub pushed : (old so more : List PartPlace) (level i : ℕ) → so ≡ old ++ places_in level 0 i → more ≡ so ++ (record { level = level; part = i }) ∷ [] → more ≡ old ++ places_in level 0 (i + 1)
pushed old so more level i is grown =
    let same : 0 + i ≡ i = omega arith in
    grown ∙ ap (λ l. l ++ (record { level = level; part = i }) ∷ []) is ∙ append_assoc old (places_in level 0 i) ((record { level = level; part = i }) ∷ [])
    ∙ sym (ap (λ l. old ++ l) (in_snoc level 0 i ∙ ap (λ n. places_in level 0 i ++ (record { level = level; part = n }) ∷ []) same))

places_snoc : (n : ℕ) (counts : List ℕ) (count : ℕ) → places_from n (counts ++ count ∷ []) ≡ places_from n counts ++ places_in (n + length counts) 0 count
places_snoc n [] count = append-nil (places_in n 0 count) ∙ ap (λ m. places_in m 0 count) (omega arith)
places_snoc n (c ∷ counts) count =
    let same : suc n + length counts ≡ n + suc (length counts) = omega arith in
    ap (λ l. places_in n 0 c ++ l) (places_snoc (suc n) counts count ∙ ap (λ m. places_from (suc n) counts ++ places_in m 0 count) same)
    ∙ sym (append_assoc (places_in n 0 c) (places_from (suc n) counts) (places_in (n + suc (length counts)) 0 count))

long_counts : (rows : List LevelRow) (i : ℕ) → i ≤ length rows → length (counts_of (take i rows)) ≡ i
long_counts rows zero h = refl
long_counts [] (suc i) h = absurd (omega arith)
long_counts (r ∷ rows) (suc i) h = ap suc (long_counts rows i (omega arith))

pub places_more : (rows : List LevelRow) (i : ℕ) (places more : List PartPlace) (row : LevelRow) → i < length rows → row ≡ get_or rows i row → places ≡ places_from 0 (counts_of (take i rows)) →
    more ≡ places ++ places_in i 0 (length row.parts.items) → more ≡ places_from 0 (counts_of (take (i + 1) rows))
places_more rows i places more row h is so grown =
    let counts = counts_of (take i rows) in
    let one : counts_of (take (i + 1) rows) ≡ counts ++ length row.parts.items ∷ [] = map_more (λ (row : LevelRow). length row.parts.items) rows i row h is in
    let long : 0 + length counts ≡ i = omega (arith, long_counts rows i (omega arith)) in
    grown ∙ ap (λ l. l ++ places_in i 0 (length row.parts.items)) so
    ∙ sym (ap (places_from 0) one ∙ places_snoc 0 counts (length row.parts.items) ∙ ap (λ m. places_from 0 counts ++ places_in m 0 (length row.parts.items)) long)

-- ---- rows have as many data parts as their levels

pub counts_same : (k : ℕ) (rows : List LevelRow) (nodes : List Node) → RowsAre k rows nodes → counts_of rows ≡ part_counts nodes
counts_same k [] [] h = refl
counts_same k [] (n ∷ nodes) h = absurd h
counts_same k (r ∷ rows) [] h = absurd h
counts_same k (r ∷ rows) (n ∷ nodes) h =
    let here : length r.parts.items ≡ length (out-Level n.level).parts = ap length h.0.parts ∙ long_map part_row (out-Level n.level).parts in
    ap (λ l. length r.parts.items ∷ l) (counts_same (suc k) rows nodes h.1) ∙ ap (λ m. m ∷ part_counts nodes) here

pub grown_counts : (schema : WireSchema) (rows : List LevelRow) → Grown [] rows (all_nodes schema) → counts_of rows ≡ part_counts (all_nodes schema)
grown_counts schema rows grown = ap counts_of grown.is ∙ counts_same 0 grown.rows (all_nodes schema) grown.are
