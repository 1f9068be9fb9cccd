-- The least number of bytes of an entry, by the rows.
use Rattle.std.proofs.Common.{◌≡◌, ◌<◌, ◌≤◌, ℕ, ◌+◌, cond, List, [], ◌∷◌, ◌++◌, length, take, Option, Some, None, refl, sym, ap, ◌∙◌, subst, arith}
use Rattle.std.specs.Prelude.{slice_get, map}
use Rattle.std.specs.Option.{option_map, option_and_then, IsSome}
use Rattle.sbe_types.specs.declared.kind.Member.{Member}
use Rattle.sbe_types.specs.declared.schema.DataField.{DataField}
use Rattle.sbe_types.specs.declared.schema.Group.{Group, out-Group}
use Rattle.sbe_types.specs.declared.schema.Level.{Level, out-Level}
use Rattle.sbe_types.specs.declared.schema.WireSchema.{WireSchema}
use Rattle.sbe_types.specs.Places.{members_end}
use Rattle.sbe_wire.specs.Versions.{is_alive, floor}
use Rattle.schema_facts.specs.CheckedLevels.{TakesByte}
use Rattle.schema_facts.specs.IsChecked.{EntriesTakeBytes}
use Rattle.schema_facts.proofs.KindDeclared.{all_at}
use Rattle.schema_facts.specs.Entries.{group_least, groups_least, part_least, parts_least, entry_least}
use Rattle.schema_facts.specs.Levels.{Node, all_nodes, groups_at, groups_in, parts_at, parts_in, fields_at, fields_in, level_at, node, group_node}
use Rattle.layout_tables.specs.declared.rows.DimRow.{DimRow}
use Rattle.layout_tables.specs.declared.rows.LevelRow.{LevelRow}
use Rattle.layout_tables.specs.Rowed.{RowFor, DimOf, part_row}
use Rattle.layout_tables.specs.Parts.{dim_at}
use Rattle.layout_tables.specs.Least.{dim_width, row_least, part_rows_least}
use Rattle.layout_tables.proofs.GroupWalk.{GroupsFrom, here, groups_are}
use Rattle.layout_tables.proofs.Items.{item_there, take_one}

groups_snoc : (version : ℕ) (gs : List Group) (g : Group) → groups_least version (gs ++ g ∷ []) ≡ groups_least version gs + group_least version g
groups_snoc version [] g = omega arith
groups_snoc version (f ∷ gs) g = omega (arith, groups_snoc version gs g)

width_is : (row : Option DimRow) (dim : List Member) → DimOf row (Some dim) → dim_width row ≡ members_end 0 dim
width_is None dim h = absurd h
width_is (Some row) dim h = h.width

-- the row of a group's level tells the bytes of its dimension
row_is : (schema : WireSchema) (child t version : ℕ) (g : Group) (row : LevelRow) → slice_get (all_nodes schema) child ≡ Some (group_node t g) → RowFor schema child row → row_least version row ≡ group_least version g
row_is schema child t version g row at is =
    let both : Some is.0 ≡ Some (group_node t g) = sym is.1 ∙ at in
    let same : is.0 ≡ group_node t g = cc in
    let dims : DimOf row.dim (Some (out-Group g).dim) = subst (λ (x : Node). DimOf row.dim x.dim) same is.2.dim in
    ap (λ s. cond (is_alive version s) (dim_width row.dim) 0) (is.2.since ∙ ap (λ (x : Node). (out-Level x.level).since) same)
    ∙ ap (λ w. cond (is_alive version (out-Level (out-Group g).level).since) w 0) (width_is row.dim (out-Group g).dim dims)

-- one more group
pub least_more : (schema : WireSchema) (n k child version so next : ℕ) (row : LevelRow) → GroupsFrom schema n k child → k < length (groups_at schema n) → RowFor schema child row →
    so ≡ groups_least version (take k (groups_at schema n)) → next ≡ so + row_least version row → next ≡ groups_least version (take (k + 1) (groups_at schema n))
least_more schema n k child version so next row w h is least grown =
    let this = here schema n k child w h in
    let same = groups_are schema n w.this w.at in
    let groups = (out-Level w.this.level).groups in
    let one : groups_least version (take (k + 1) groups) ≡ groups_least version (take k groups) + group_least version this.g =
    ap (groups_least version) (take_one groups k this.g this.within this.is) ∙ groups_snoc version (take k groups) this.g in
    let here_is : row_least version row ≡ group_least version this.g = row_is schema child w.this.template version this.g row this.child_is.at is in
    let before : so ≡ groups_least version (take k groups) = least ∙ ap (λ gs. groups_least version (take k gs)) same in
    let after : next ≡ groups_least version (take (k + 1) groups) = omega (arith, grown, here_is, before, one) in
    after ∙ sym (ap (λ gs. groups_least version (take (k + 1) gs)) same)

rows_are : (version : ℕ) (parts : List DataField) → part_rows_least version (map part_row parts) ≡ parts_least version parts
rows_are version [] = refl
rows_are version (part ∷ parts) = ap (λ n. part_least version part + n) (rows_are version parts)

pub parts_told : (schema : WireSchema) (n version : ℕ) (row : LevelRow) → RowFor schema n row → part_rows_least version row.parts.items ≡ parts_least version (parts_at schema n)
parts_told schema n version row t =
    ap (part_rows_least version) t.2.parts ∙ rows_are version (out-Level t.0.level).parts
    ∙ ap (λ (o : Option Node). parts_least version (parts_in (option_map (λ (x : Node). x.level) o))) (sym t.1)

-- an entry has its three parts
pub entry_told : (schema : WireSchema) (n version least first second third : ℕ) → n < length (all_nodes schema) → first ≡ floor version (fields_at schema n) → second ≡ groups_least version (groups_at schema n) →
    third ≡ parts_least version (parts_at schema n) → least ≡ first + second + third → option_map (entry_least version) (level_at schema n) ≡ Some least
entry_told schema n version least first second third h floors groups parts is =
    let this = item_there (all_nodes schema) n h in
    let level = this.0.level in
    let at : level_at schema n ≡ Some level = ap (option_map (λ (x : Node). x.level)) this.1 in
    let a : first ≡ floor version (out-Level level).fields = floors ∙ ap (λ o. floor version (fields_in o)) at in
    let b : second ≡ groups_least version (out-Level level).groups = groups ∙ ap (λ o. groups_least version (groups_in o)) at in
    let c : third ≡ parts_least version (out-Level level).parts = parts ∙ ap (λ o. parts_least version (parts_in o)) at in
    let all : entry_least version level ≡ least = omega (arith, a, b, c, is) in
    ap (option_map (entry_least version)) at ∙ ap Some all

-- an entry of a group that is alive takes a byte
takes_one : (t version : ℕ) (dim : Option (List Member)) (level : Level) → TakesByte (node t dim level) → IsSome dim → (out-Level level).since ≤ version → 1 ≤ entry_least version level
takes_one t version None level h some alive = cc
takes_one t version (Some dim) level h some alive = h version alive

pub entry_some : (schema : WireSchema) (n version since least : ℕ) → EntriesTakeBytes schema → n < length (all_nodes schema) → IsSome (dim_at schema n) →
    option_map (λ (l : Level). (out-Level l).since) (level_at schema n) ≡ Some since → since ≤ version → option_map (entry_least version) (level_at schema n) ≡ Some least → 1 ≤ least
entry_some schema n version since least takes h group at alive told =
    let this = item_there (all_nodes schema) n h in
    let level_is : level_at schema n ≡ Some this.0.level = ap (option_map (λ (x : Node). x.level)) this.1 in
    let some : IsSome this.0.dim = subst (λ (o : Option Node). IsSome (option_and_then (λ (x : Node). x.dim) o)) this.1 group in
    let own : Some (out-Level this.0.level).since ≡ Some since = sym (ap (option_map (λ (l : Level). (out-Level l).since)) level_is) ∙ at in
    let first : (out-Level this.0.level).since ≡ since = cc in
    let bytes : Some (entry_least version this.0.level) ≡ Some least = sym (ap (option_map (entry_least version)) level_is) ∙ told in
    let same : entry_least version this.0.level ≡ least = cc in
    let one = takes_one this.0.template version this.0.dim this.0.level (all_at TakesByte (all_nodes schema) n this.0 takes this.1) some (omega (arith, first, alive)) in
    omega (arith, one, same)
