-- Data parts by their numbers.
use Rattle.std.proofs.Common.{◌≡◌, ◌<◌, inl, inr, ℕ, zero, suc, ◌+◌, List, [], ◌∷◌, length, take, get_or, Option, Some, None, refl, sym, ap, ◌∙◌, subst, arith, length-append}
use Rattle.std.specs.Prelude.{slice_get}
use Rattle.std.specs.Option.{option_map}
use Rattle.std.proofs.lemmas.Option.{slice_get_within, slice_get_read}
use Rattle.sbe_types.specs.declared.schema.DataField.{DataField}
use Rattle.sbe_types.specs.declared.schema.Level.{out-Level}
use Rattle.sbe_types.specs.declared.schema.WireSchema.{WireSchema}
use Rattle.schema_facts.specs.Levels.{Node, all_nodes, parts_at, parts_in}
use Rattle.layout_tables.specs.declared.rows.PartPlace.{PartPlace}
use Rattle.layout_tables.specs.declared.rows.PartRow.{PartRow}
use Rattle.layout_tables.specs.Rowed.{part_row}
use Rattle.layout_tables.specs.Parts.{parts_of, all_parts, part_number, part_counts, firsts_from, places_in, places_from, Numbered, PartStands}
use Rattle.layout_tables.proofs.Told.{item_of}
use Rattle.layout_tables.proofs.Items.{item_there, in_two, get_front, get_behind}

long_in : (level i many : ℕ) → length (places_in level i many) ≡ many
long_in level i zero = refl
long_in level i (suc many) = ap suc (long_in level (suc i) many)

places_many : (n : ℕ) (nodes : List Node) → length (places_from n (part_counts nodes)) ≡ length (parts_of nodes)
places_many n [] = refl
places_many n (x ∷ nodes) =
    let parts = (out-Level x.level).parts in
    let left : length (places_from n (part_counts (x ∷ nodes))) ≡ length (places_in n 0 (length parts)) + length (places_from (suc n) (part_counts nodes)) = length-append (places_in n 0 (length parts)) (places_from (suc n) (part_counts nodes)) in
    let right : length (parts_of (x ∷ nodes)) ≡ length parts + length (parts_of nodes) = length-append parts (parts_of nodes) in
    omega (arith, left, right, long_in n 0 (length parts), places_many (suc n) nodes)

pub places_all : (schema : WireSchema) (places : List PartPlace) → places ≡ places_from 0 (part_counts (all_nodes schema)) → length places ≡ length (all_parts schema)
places_all schema places is = ap length is ∙ places_many 0 (all_nodes schema)

place_in_level : (level i many k : ℕ) (p : PartPlace) → slice_get (places_in level i many) k ≡ Some p → (p.level ≡ level) × (p.part ≡ i + k) × (k < many)
place_in_level level i zero k p h = cc
place_in_level level i (suc many) zero p h =
    let here : record { level = level; part = i } ≡ p = cc in
    let part : i ≡ p.part = ap (λ (q : PartPlace). q.part) here in
    (sym (ap (λ (q : PartPlace). q.level) here), omega (arith, part), omega arith)
place_in_level level i (suc many) (suc k) p h =
    let rest = place_in_level level (suc i) many k p h in
    (rest.0, omega (arith, rest.1), omega (arith, rest.2))

-- where a data part of some levels stands, of which the first is number n
record InLevel (n : ℕ) (nodes : List Node) (k : ℕ) (p : PartPlace) : Type 0 where
  pub i : ℕ
  pub node : Node
  pub level : p.level ≡ n + i
  pub at : slice_get nodes i ≡ Some node
  pub part : p.part < length (out-Level node.level).parts
  pub number : k ≡ length (parts_of (take i nodes)) + p.part
  pub same : slice_get (parts_of nodes) k ≡ slice_get (out-Level node.level).parts p.part

in_level : (n : ℕ) (nodes : List Node) (k : ℕ) (p : PartPlace) → slice_get (places_from n (part_counts nodes)) k ≡ Some p → InLevel n nodes k p
in_level n [] k p h = cc
in_level n (x ∷ nodes) k p h =
    let parts = (out-Level x.level).parts in
    elim (in_two (places_in n 0 (length parts)) (places_from (suc n) (part_counts nodes)) k p h) [
      | inl e ↦
          let here = place_in_level n 0 (length parts) k p e in
          let part : k ≡ p.part = omega (arith, here.1) in
          record {
            i = 0;
            node = x;
            level = omega (arith, here.0);
            at = refl;
            part = omega (arith, here.2, part);
            number = omega (arith, part);
            same = get_front parts (parts_of nodes) k here.2 ∙ ap (slice_get parts) part;
          }
      | inr e ↦
          let rest = in_level (suc n) nodes e.0 p e.2 in
          let all : length (parts_of (take (suc rest.i) (x ∷ nodes))) ≡ length parts + length (parts_of (take rest.i nodes)) = length-append parts (parts_of (take rest.i nodes)) in
          record {
            i = suc rest.i;
            node = rest.node;
            level = omega (arith, rest.level);
            at = rest.at;
            part = rest.part;
            number = omega (arith, e.1, long_in n 0 (length parts), rest.number, all);
            same = get_behind parts (parts_of nodes) k e.0 (omega (arith, e.1, long_in n 0 (length parts))) ∙ rest.same;
          }
    ]

pub part_told : (schema : WireSchema) (places : List PartPlace) (k : ℕ) (p : PartPlace) → places ≡ places_from 0 (part_counts (all_nodes schema)) → k < length (all_parts schema) →
    p ≡ get_or places k p → PartStands schema k p
part_told schema places k p is h at =
    let there : slice_get (places_from 0 (part_counts (all_nodes schema))) k ≡ Some p =
    ap (λ l. slice_get l k) (sym is) ∙ slice_get_read places (length places) k p refl (omega (arith, h, places_all schema places is)) at in
    let found = in_level 0 (all_nodes schema) k p there in
    let same : found.i ≡ p.level = omega (arith, found.level) in
    let node : slice_get (all_nodes schema) p.level ≡ Some found.node = ap (slice_get (all_nodes schema)) (sym same) ∙ found.at in
    let parts : parts_at schema p.level ≡ (out-Level found.node.level).parts = ap (λ (o : Option Node). parts_in (option_map (λ (x : Node). x.level) o)) node in
    record {
      level = slice_get_within (all_nodes schema) p.level found.node node;
      part = omega (arith, found.part, ap length parts);
      number = found.number ∙ ap (λ i. length (parts_of (take i (all_nodes schema))) + p.part) same;
      same = found.same ∙ ap (λ l. slice_get l p.part) (sym parts);
    }

-- ---- the number of a data part

-- where a level's data parts begin, after k others
first_is : (k : ℕ) (nodes : List Node) (n f : ℕ) → slice_get (firsts_from k (part_counts nodes)) n ≡ Some f → f ≡ k + length (parts_of (take n nodes))
first_is k [] n f h = cc
first_is k (x ∷ nodes) zero f h =
    let here : k ≡ f = cc in
    omega (arith, here)
first_is k (x ∷ nodes) (suc n) f h =
    let parts = (out-Level x.level).parts in
    let all : length (parts_of (take (suc n) (x ∷ nodes))) ≡ length parts + length (parts_of (take n nodes)) = length-append parts (parts_of (take n nodes)) in
    omega (arith, first_is (k + length parts) nodes n f h, all)

firsts_many : (k : ℕ) (nodes : List Node) → length (firsts_from k (part_counts nodes)) ≡ length nodes
firsts_many k [] = refl
firsts_many k (x ∷ nodes) = ap suc (firsts_many (k + length (out-Level x.level).parts) nodes)

pub first_within : (schema : WireSchema) (firsts : List ℕ) (n : ℕ) → firsts ≡ firsts_from 0 (part_counts (all_nodes schema)) → n < length (all_nodes schema) → n < length firsts
first_within schema firsts n is h = omega (arith, ap length is, firsts_many 0 (all_nodes schema), h)

-- a level's data parts among those of all levels
numbered : (nodes : List Node) (n i : ℕ) (node : Node) → slice_get nodes n ≡ Some node → i < length (out-Level node.level).parts →
    (length (parts_of (take n nodes)) + i < length (parts_of nodes)) × (slice_get (parts_of nodes) (length (parts_of (take n nodes)) + i) ≡ slice_get (out-Level node.level).parts i)
numbered [] n i node at h = cc
numbered (x ∷ nodes) zero i node at h =
    let here : x ≡ node = cc in
    let parts = (out-Level x.level).parts in
    let within : i < length parts = subst (λ (y : Node). i < length (out-Level y.level).parts) (sym here) h in
    let all : length (parts_of (x ∷ nodes)) ≡ length parts + length (parts_of nodes) = length-append parts (parts_of nodes) in
    let same : 0 + i ≡ i = omega arith in (
      omega (arith, within, all),
      ap (slice_get (parts_of (x ∷ nodes))) same ∙ get_front parts (parts_of nodes) i within ∙ ap (λ (y : Node). slice_get (out-Level y.level).parts i) here,
    )
numbered (x ∷ nodes) (suc n) i node at h =
    let parts = (out-Level x.level).parts in
    let rest = numbered nodes n i node at h in
    let all : length (parts_of (x ∷ nodes)) ≡ length parts + length (parts_of nodes) = length-append parts (parts_of nodes) in
    let front : length (parts_of (take (suc n) (x ∷ nodes))) ≡ length parts + length (parts_of (take n nodes)) = length-append parts (parts_of (take n nodes)) in (
      omega (arith, rest.0, all, front),
      get_behind parts (parts_of nodes) (length (parts_of (take (suc n) (x ∷ nodes))) + i) (length (parts_of (take n nodes)) + i) (omega (arith, front)) ∙ rest.1,
    )

pub number_told : (schema : WireSchema) (firsts : List ℕ) (n i f : ℕ) → firsts ≡ firsts_from 0 (part_counts (all_nodes schema)) → n < length (all_nodes schema) → i < length (parts_at schema n) →
    f ≡ get_or firsts n f → Numbered schema n i f
number_told schema firsts n i f is h has at =
    let there : slice_get (firsts_from 0 (part_counts (all_nodes schema))) n ≡ Some f =
    ap (λ l. slice_get l n) (sym is) ∙ slice_get_read firsts (length firsts) n f refl (first_within schema firsts n is h) at in
    let node = item_there (all_nodes schema) n h in
    let parts : parts_at schema n ≡ (out-Level node.0.level).parts = ap (λ (o : Option Node). parts_in (option_map (λ (x : Node). x.level) o)) node.1 in
    let found = numbered (all_nodes schema) n i node.0 node.1 (omega (arith, has, ap length parts)) in
    let same : f + i ≡ part_number schema n i = omega (arith, first_is 0 (all_nodes schema) n f there) in
    record {
      within = omega (arith, found.0, same);
      number = same;
      same = ap (slice_get (all_parts schema)) same ∙ found.1 ∙ ap (λ l. slice_get l i) (sym parts);
    }

pub row_since : (o : Option DataField) (row : PartRow) → option_map part_row o ≡ Some row → option_map (λ (p : DataField). p.since) o ≡ Some row.since
row_since None row h = cc
row_since (Some p) row h = let same : part_row p ≡ row = cc in ap (λ (r : PartRow). Some r.since) same

pub row_length : (o : Option DataField) (row : PartRow) → option_map part_row o ≡ Some row → option_map (λ (p : DataField). p.length) o ≡ Some row.length
row_length None row h = cc
row_length (Some p) row h = let same : part_row p ≡ row = cc in ap (λ (r : PartRow). Some r.length) same

-- a data part that is lent
pub name_told : (schema : WireSchema) (k : ℕ) (place : PartPlace) (parts : List DataField) (part : DataField) → PartStands schema k place → parts ≡ parts_at schema place.level → part ≡ get_or parts place.part part →
    option_map (λ (p : DataField). p.name) (slice_get (all_parts schema) k) ≡ Some part.name
name_told schema k place parts part stands same is =
    ap (option_map (λ (p : DataField). p.name)) stands.same ∙ item_of (λ (p : DataField). p.name) parts (parts_at schema place.level) place.part part same stands.part is
