-- The least number of bytes of an entry is small: no part ends after the largest place.
use Rattle.std.proofs.Common.{◌≡◌, ◌≤◌, ◌<◌, ◌+◌, ◌&&◌, not, cond, ℕ, Bool, true, false, List, [], ◌∷◌, Option, Some, None, refl, sym, subst, arith, length}
use Rattle.std.specs.Prelude.{slice_get}
use Rattle.std.specs.List.{AllByRecursion}
use Rattle.std.specs.Option.{option_map}
use Rattle.sbe_types.specs.declared.kind.Kind.{Comp, Row_of-Member, end_of-Member, more_of-Member}
use Rattle.sbe_types.specs.declared.kind.Member.{Member}
use Rattle.sbe_types.specs.declared.schema.Field.{Field}
use Rattle.sbe_types.specs.declared.schema.Level.{out-Level}
use Rattle.sbe_types.specs.declared.schema.WireSchema.{WireSchema}
use Rattle.sbe_types.specs.Places.{width, row_end, members_end, begin_of, is_const}
use Rattle.sbe_wire.specs.Versions.{floor, floor_from, is_alive}
use Rattle.schema_facts.specs.Levels.{Node, all_nodes, fields_at, fields_in}
use Rattle.schema_facts.specs.Measured.{IsNarrow, IsNarrowRow, AreNarrowFields, IsMeasured, IsMeasuredLevel, AreMeasured, HasDimension, largest}
use Rattle.schema_facts.proofs.KindDeclared.{all_at}
use Rattle.sbe_types.proofs.KindRows.{row_in, width_comp}
use Rattle.layout_tables.specs.declared.rows.DimRow.{DimRow}
use Rattle.layout_tables.specs.declared.rows.LevelRow.{LevelRow}
use Rattle.layout_tables.specs.Rowed.{RowFor, DimOf}
use Rattle.layout_tables.specs.Least.{dim_width, row_least}
use Rattle.layout_tables.proofs.Items.{item_there}

end_within : (fixed : Bool) (e n : ℕ) → e ≤ largest → (fixed ≡ false → n ≤ largest) → cond fixed e n ≤ largest
end_within true e n small ends = small
end_within false e n small ends = ends refl

row_within : (n : _) (row : Row_of-Member n) (e : ℕ) → e ≤ largest → IsNarrowRow e row → row_end e row ≤ largest
row_within n end_of-Member e small h = small
row_within n (more_of-Member name offset kind rest) e small h =
    row_within _ rest _ (end_within (is_const kind) e (begin_of e offset + width kind) small h.1) h.2

-- the members of a dimension end within the largest place
dim_within : (dim : List Member) → IsNarrow (Comp dim) → members_end 0 dim ≤ largest
dim_within dim h = let row = row_in (Comp dim) in subst (λ w. w ≤ largest) (width_comp dim) (row_within row.0 row.1 0 (omega arith) h)

dim_small : (row : Option DimRow) (dim : Option (List Member)) → DimOf row dim → HasDimension dim → dim_width row ≤ largest
dim_small None dim is has = omega arith
dim_small (Some row) None is has = absurd is
dim_small (Some row) (Some dim) is has = subst (λ w. w ≤ largest) (sym is.width) (dim_within dim has.narrow)

if_small : (alive : Bool) (w : ℕ) → w ≤ largest → cond alive w 0 ≤ largest
if_small true w small = small
if_small false w small = omega arith

all_measured : (nodes : List Node) → AreMeasured nodes → AllByRecursion IsMeasuredLevel nodes
all_measured [] h = tt
all_measured (x ∷ xs) h = (h.0, all_measured xs h.1)

level_measured : (schema : WireSchema) (n : ℕ) (x : Node) → IsMeasured schema → slice_get (all_nodes schema) n ≡ Some x → IsMeasuredLevel x
level_measured schema n x h at = all_at IsMeasuredLevel (all_nodes schema) n x (all_measured (all_nodes schema) h.levels) at

-- the dimension of a level takes few bytes
pub row_small : (schema : WireSchema) (n version : ℕ) (row : LevelRow) → IsMeasured schema → RowFor schema n row → row_least version row ≤ largest
row_small schema n version row h is =
    if_small (is_alive version row.since) (dim_width row.dim) (dim_small row.dim is.0.dim is.2.dim (level_measured schema n is.0 h is.1).dim)

reach_within : (alive fixed : Bool) (e n reached : ℕ) → reached ≤ largest → (fixed ≡ false → n ≤ largest) → cond (alive && not fixed) (cond fixed e n) reached ≤ largest
reach_within true false e n reached small ends = ends refl
reach_within true true e n reached small ends = small
reach_within false fixed e n reached small ends = small

floor_within : (version : ℕ) (fs : List Field) (e reached : ℕ) → AreNarrowFields e fs → reached ≤ largest → floor_from version e reached fs ≤ largest
floor_within version [] e reached h small = small
floor_within version (f ∷ fs) e reached h small =
    floor_within version fs _ _ h.2 (reach_within (is_alive version f.since) (is_const f.kind) e (begin_of e f.offset + width f.kind) reached small h.1)

-- a floor is small
pub floor_small : (schema : WireSchema) (n version : ℕ) → IsMeasured schema → n < length (all_nodes schema) → floor version (fields_at schema n) ≤ largest
floor_small schema n version h within =
    let this = item_there (all_nodes schema) n within in
    let fields = (out-Level this.0.level).fields in
    let small : floor version fields ≤ largest = floor_within version fields 0 0 (level_measured schema n this.0 h this.1).fields (omega arith) in
    subst (λ (o : Option Node). floor version (fields_in (option_map (λ (x : Node). x.level) o)) ≤ largest) (sym this.1) small
