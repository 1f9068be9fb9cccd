-- Data parts by their rows.
use Rattle.std.proofs.Common.{◌≡◌, ◌≤◌, ◌<◌, ◌+◌, ◌-◌, ℕ, zero, suc, Bool, true, false, cond, List, [], ◌∷◌, length, take, drop, get_or, Option, Some, Result, Ok, Err, refl, sym, ap, ◌∙◌, subst, arith}
use Rattle.std.specs.Prelude.{IsOk, nat_le, pos, slice_get, map}
use Rattle.std.specs.List.{AllByRecursion}
use Rattle.std.specs.Option.{option_map}
use Rattle.std.proofs.lemmas.Option.{slice_get_read}
use Rattle.layout_tables.proofs.Told.{parts_there}
use Rattle.sbe_types.specs.declared.kind.Order.{Order}
use Rattle.std.proofs.lemmas.Bool.{leb-true, le-leb}
use Rattle.sbe_types.specs.declared.kind.Leaf.{Leaf as LeafOf}
use Rattle.sbe_types.specs.Numbers.{number_of, natural, prim_width}
use Rattle.sbe_types.specs.Shown.{admits}
use Rattle.sbe_types.specs.declared.schema.DataField.{DataField}
use Rattle.sbe_types.specs.declared.schema.Level.{out-Level}
use Rattle.sbe_types.specs.declared.schema.WireSchema.{WireSchema}
use Rattle.schema_facts.specs.CheckedLevels.{HasLengths, IsLength}
use Rattle.schema_facts.specs.IsChecked.{IsChecked}
use Rattle.schema_facts.specs.Levels.{Node, all_nodes, parts_at, parts_in}
use Rattle.schema_facts.specs.Measured.{IsSmall}
use Rattle.layout_tables.specs.declared.rows.LevelRow.{LevelRow}
use Rattle.layout_tables.specs.declared.rows.PartPlace.{PartPlace}
use Rattle.layout_tables.specs.declared.rows.PartRow.{PartRow}
use Rattle.layout_tables.specs.Parts.{all_parts, PartStands}
use Rattle.layout_tables.specs.Rowed.{RowFor, part_row}
use Rattle.var_data.specs.declared.data.DataErr.{DataErr}
use Rattle.var_data.specs.declared.data.DataErr.TheVariants.{Truncated}
use Rattle.var_data.specs.Ranges.{data_range, range_behind}

-- what holds of all items holds of each
pub at_each : {X : Type 0} (P : X → Type 0) (xs : List X) (n : ℕ) (x : X) → AllByRecursion P xs → slice_get xs n ≡ Some x → P x
at_each P [] n x all at = cc
at_each P (y ∷ xs) zero x all at = let here : y ≡ x = cc in subst P here all.0
at_each P (y ∷ xs) (suc n) x all at = at_each P xs n x all.1 at

-- the part after its row
part_behind : (parts : List DataField) (i : ℕ) (row : PartRow) → slice_get (map part_row parts) i ≡ Some row → (part : DataField) × (slice_get parts i ≡ Some part) × (row ≡ part_row part)
part_behind [] i row h = cc
part_behind (p ∷ ps) zero row h = (p, refl, cc)
part_behind (p ∷ ps) (suc i) row h = part_behind ps i row h

pub parts_is : (schema : WireSchema) (n : ℕ) (level : LevelRow) (for : RowFor schema n level) → parts_at schema n ≡ (out-Level for.0.level).parts
parts_is schema n level for = ap (λ (o : Option Node). parts_in (option_map (λ (x : Node). x.level) o)) for.1

pub part_at : (schema : WireSchema) (n i : ℕ) (level : LevelRow) (row : PartRow) → RowFor schema n level → slice_get level.parts.items i ≡ Some row → (part : DataField) × (slice_get (parts_at schema n) i ≡ Some part) × (row ≡ part_row part)
part_at schema n i level row for at =
    let found = part_behind (out-Level for.0.level).parts i row (ap (λ rows. slice_get rows i) (sym for.2.parts) ∙ at) in
    (found.0, ap (λ ps. slice_get ps i) (parts_is schema n level for) ∙ found.1, found.2)

-- the length number of a data part of a checked schema is a small one
pub length_small : (schema : WireSchema) (n i : ℕ) (level : LevelRow) (row : PartRow) → IsChecked schema → RowFor schema n level → slice_get level.parts.items i ≡ Some row → IsSmall row.length.prim
length_small schema n i level row checked for at =
    let part = part_at schema n i level row for at in
    let lengths : HasLengths for.0.level = at_each (λ (node : Node). HasLengths node.level) (all_nodes schema) n for.0 checked.lengths for.1 in
    let here : slice_get (out-Level for.0.level).parts i ≡ Some part.0 = ap (λ ps. slice_get ps i) (sym (parts_is schema n level for)) ∙ part.1 in
    let is : IsLength part.0.length = at_each (λ (d : DataField). IsLength d.length) (out-Level for.0.level).parts i part.0 lengths here in
    subst (λ (r : PartRow). IsSmall r.length.prim) (sym part.2) is.small

pub range_told : (schema : WireSchema) (k : ℕ) (place : PartPlace) (level : LevelRow) (row : PartRow) (bytes : List ℕ) (at : ℕ) (result : Result (ℕ × ℕ) DataErr) → PartStands schema k place → RowFor schema place.level level →
    slice_get level.parts.items place.part ≡ Some row → result ≡ data_range schema.order row.length bytes at →
    option_map (λ (d : DataField). data_range schema.order d.length bytes at) (slice_get (all_parts schema) k) ≡ Some result
range_told schema k place level row bytes at result stands for here told =
    let part = part_at schema place.level place.part level row for here in
    ap (option_map (λ (d : DataField). data_range schema.order d.length bytes at)) (stands.same ∙ part.1)
    ∙ ap Some (ap (λ (r : PartRow). data_range schema.order r.length bytes at) (sym part.2) ∙ sym told)

-- ---- data after their length number

pub range_is : (order : Order) (leaf : LeafOf) (bytes : List ℕ) (at wide size : ℕ) (result : Result (ℕ × ℕ) DataErr) → wide ≡ prim_width leaf.prim → wide ≤ length bytes - at →
    size ≡ natural (number_of order leaf.prim (take (at + wide - at) (drop at bytes))) → result ≡ range_behind leaf size bytes (at + wide) → result ≡ data_range order leaf bytes at
range_is order leaf bytes at wide size result is room sizes told =
    let w = prim_width leaf.prim in
    let same : at + wide - at ≡ w = omega arith in
    told
    ∙ ap (λ k. range_behind leaf size bytes (at + k)) is
    ∙ ap (λ n. range_behind leaf n bytes (at + w)) (sizes ∙ ap (λ k. natural (number_of order leaf.prim (take k (drop at bytes)))) same)
    ∙ sym (ap (λ t. cond t (range_behind leaf (natural (number_of order leaf.prim (take w (drop at bytes)))) bytes (at + w)) (Err (Truncated w))) (le-leb w (length bytes - at) (omega arith)))

-- ---- data that lie there

long_by : (t : Bool) (wide room : ℕ) (r : Result (ℕ × ℕ) DataErr) (e : DataErr) → nat_le wide room ≡ t → IsOk (cond t r (Err e)) → wide ≤ room
long_by true wide room r e is h = leb-true wide room is
long_by false wide room r e is h = cc

-- their length number is there
pub stands_long : (order : Order) (leaf : LeafOf) (bytes : List ℕ) (at : ℕ) → IsOk (data_range order leaf bytes at) → prim_width leaf.prim ≤ length bytes - at
stands_long order leaf bytes at h = long_by (nat_le (prim_width leaf.prim) (length bytes - at)) (prim_width leaf.prim) (length bytes - at) _ _ refl h

range_by : (t u : Bool) (range : ℕ × ℕ) (e f : DataErr) → IsOk (cond t (cond u (Ok range) (Err e)) (Err f)) → Ok range ≡ cond t (cond u (Ok range) (Err e)) (Err f)
range_by true true range e f h = refl
range_by true false range e f h = cc
range_by false u range e f h = cc

-- and their range is known by it
pub stands_told : (order : Order) (leaf : LeafOf) (bytes : List ℕ) (at wide size : ℕ) → wide ≡ prim_width leaf.prim → size ≡ natural (number_of order leaf.prim (take (at + wide - at) (drop at bytes))) →
    IsOk (data_range order leaf bytes at) → Ok (at + wide, at + wide + size) ≡ data_range order leaf bytes at
stands_told order leaf bytes at wide size is sizes stands =
    let start = at + wide in
    let same : range_behind leaf size bytes start ≡ data_range order leaf bytes at = range_is order leaf bytes at wide size (range_behind leaf size bytes start) is (omega (arith, is, stands_long order leaf bytes at stands)) sizes refl in
    range_by (admits leaf (pos size)) (nat_le size (length bytes - start)) (start, start + size) _ _ (subst (λ (r : Result (ℕ × ℕ) DataErr). IsOk r) (sym same) stands) ∙ same

-- ---- a data part of the schema

module _ (schema : WireSchema) (k : ℕ) (place : PartPlace) (level : LevelRow) (stands : PartStands schema k place) (for : RowFor schema place.level level) where
  pub part_within : place.part < length level.parts.items
  part_within = omega (arith, stands.part, parts_there schema place.level level for)

  part_here : (row : PartRow) → row ≡ get_or level.parts.items place.part row → slice_get level.parts.items place.part ≡ Some row
  part_here row is = slice_get_read level.parts.items _ place.part row refl part_within is

  pub part_small : (row : PartRow) → IsChecked schema → row ≡ get_or level.parts.items place.part row → IsSmall row.length.prim
  part_small row checked is = length_small schema place.level place.part level row checked for (part_here row is)

  pub part_told : (row : PartRow) (bytes : List ℕ) (at : ℕ) (result : Result (ℕ × ℕ) DataErr) → row ≡ get_or level.parts.items place.part row → result ≡ data_range schema.order row.length bytes at →
      option_map (λ (d : DataField). data_range schema.order d.length bytes at) (slice_get (all_parts schema) k) ≡ Some result
  part_told row bytes at result is told = range_told schema k place level row bytes at result stands for (part_here row is) told
