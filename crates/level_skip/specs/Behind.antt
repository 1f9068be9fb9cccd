-- The same with offsets in the bytes: the end of the part that begins there, if it can be laid out. Own profile.
use Rattle.std.specs.Prelude.{ℕ, zero, suc, ◌+◌, ◌-◌, nat_le, if◌then◌else◌, Option, Some, None, List, [], ◌∷◌, length}
use Rattle.std.specs.Option.{option_map, option_and_then}
use Rattle.std.specs.Result.{result_ok}
use Rattle.sbe_types.specs.declared.kind.Order.{Order}
use Rattle.sbe_types.specs.declared.schema.Group.{Group}
use Rattle.sbe_wire.specs.Reading.{Reader}
use Rattle.sbe_wire.specs.Versions.{is_alive}
use Rattle.layout_tables.specs.declared.rows.PartRow.{PartRow}
use Rattle.var_data.specs.Ranges.{data_range}
use Rattle.body_walk.specs.inner.Cursor.{skim}
use Rattle.level_skip.specs.Passing.{group_passed}

-- the offset after what a reader reads at an offset
abbrev pub offset_after : {X : Type 0} → Reader X → List ℕ → ℕ → Option ℕ
offset_after p bytes at = result_ok (skim p bytes at)

-- the offset after k bytes
abbrev pub bytes_behind : ℕ → List ℕ → ℕ → Option ℕ
bytes_behind k bytes at = if nat_le k (length bytes - at) then Some (at + k) else None

-- the offset after n steps
abbrev pub steps_behind : (ℕ → Option ℕ) → ℕ → ℕ → Option ℕ
steps_behind step zero at = Some at
steps_behind step (suc n) at = option_and_then (steps_behind step n) (step at)

-- the offset after groups
abbrev pub groups_behind : Order → ℕ → List Group → List ℕ → ℕ → Option ℕ
groups_behind order version [] bytes at = Some at
groups_behind order version (g ∷ gs) bytes at = option_and_then (groups_behind order version gs bytes) (offset_after (group_passed order version g) bytes at)

-- the offset after a data part, by its row
abbrev pub part_behind : Order → ℕ → PartRow → List ℕ → ℕ → Option ℕ
part_behind order version row bytes at =
    if is_alive version row.since then option_map (λ range. range.1) (result_ok (data_range order row.length bytes at)) else Some at

-- the offset after data parts
abbrev pub parts_behind : Order → ℕ → List PartRow → List ℕ → ℕ → Option ℕ
parts_behind order version [] bytes at = Some at
parts_behind order version (r ∷ rs) bytes at = option_and_then (parts_behind order version rs bytes) (part_behind order version r bytes at)
