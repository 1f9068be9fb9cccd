-- The parts of levels and composites.
use Rattle.std.proofs.Common.{◌≡◌, ◌≤◌, ◌<◌, ◌+◌, ◌-◌, ℕ, zero, suc, List, [], ◌∷◌, ◌++◌, length, Some, refl, ap, ◌∙◌, arith, length-append}
use Rattle.std.specs.Prelude.{slice_get, map}
use Rattle.std.specs.Option.{option_map}
use Rattle.std.proofs.lemmas.Option.{slice_get-map}
use Rattle.sbe_types.specs.declared.kind.Kind.{Kind, Comp, items_hidden-the_row-Member-0}
use Rattle.sbe_types.specs.declared.kind.Member.{Member}
use Rattle.sbe_types.specs.declared.schema.DataField.{DataField}
use Rattle.sbe_types.specs.declared.schema.Level.{Level, out-Level}
use Rattle.layout_tables.specs.Paths.{NamedPart, in_nothing, level_parts, kind_parts, field_part, group_part, data_part, member_part}
use Rattle.layout_tables.proofs.Items.{long_map, get_behind}

data_at : (parts : List DataField) (j : ℕ) → j < length parts → option_map (λ (p : NamedPart). p.inside) (slice_get (map data_part parts) j) ≡ Some in_nothing
data_at [] j h = absurd (omega arith)
data_at (part ∷ parts) zero h = refl
data_at (part ∷ parts) (suc j) h = data_at parts j (omega arith)

-- after the fields and groups stand the data parts
pub data_inside : (level : Level) (i : ℕ) → i < length (level_parts level) → length (out-Level level).fields ≤ i → length (out-Level level).groups ≤ i - length (out-Level level).fields →
    option_map (λ (p : NamedPart). p.inside) (slice_get (level_parts level) i) ≡ Some in_nothing
data_inside level i within fields groups =
    let a = map field_part (out-Level level).fields in
    let b = map group_part (out-Level level).groups in
    let c = map data_part (out-Level level).parts in
    let j = i - length (out-Level level).fields - length (out-Level level).groups in
    let long_a : length a ≡ length (out-Level level).fields = long_map field_part (out-Level level).fields in
    let long_b : length b ≡ length (out-Level level).groups = long_map group_part (out-Level level).groups in
    let at : slice_get (level_parts level) i ≡ slice_get c j =
    get_behind a (b ++ c) i (length b + j) (omega (arith, long_a, long_b)) ∙ get_behind b c (length b + j) j refl in
    let few : j < length (out-Level level).parts = omega (arith, within, length-append a (b ++ c), length-append b c, long_a, long_b, long_map data_part (out-Level level).parts) in
    ap (option_map (λ (p : NamedPart). p.inside)) at ∙ data_at (out-Level level).parts j few

-- a composite's parts are its members
member_parts : (ms : List Member) → kind_parts (Comp ms) ≡ map member_part ms
member_parts ms = ap (map member_part) (items_hidden-the_row-Member-0 ms)

pub member_told : (kind : Kind) (ms : List Member) (i : ℕ) (m : Member) → kind ≡ Comp ms → slice_get ms i ≡ Some m → slice_get (kind_parts kind) i ≡ Some (member_part m)
member_told kind ms i m is at =
    ap (λ k. slice_get (kind_parts k) i) is ∙ ap (λ l. slice_get l i) (member_parts ms) ∙ slice_get-map member_part ms i ∙ ap (option_map member_part) at
