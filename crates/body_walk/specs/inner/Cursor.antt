-- Readers with a cursor: the offset in the body after what is read, or the fault with its offset in the body.
use Rattle.std.specs.Prelude.{ℕ, zero, suc, ◌+◌, ◌-◌, nat_le, if◌then◌else◌, Option, Some, None, Result, Ok, Err, List, [], ◌∷◌, length, take, drop, pos}
use Rattle.sbe_types.specs.declared.kind.Member.{Member}
use Rattle.sbe_types.specs.declared.kind.Order.{Order}
use Rattle.sbe_types.specs.declared.path.Step.TheVariants as way
use Rattle.sbe_types.specs.declared.schema.Group.{Group}
use Rattle.sbe_types.specs.declared.schema.Level.{Level, out-Level}
use Rattle.sbe_types.specs.Places.{members_end}
use Rattle.sbe_wire.specs.declared.codes.FCode.TheVariants as code
use Rattle.sbe_wire.specs.Faults.{Fault, shifted, fault_at}
use Rattle.sbe_wire.specs.Reading.{Reader, ◌>>=◌, inside, later, block_read, entry_read, tail_read, group_read, dimension_of}
use Rattle.sbe_wire.specs.Versions.{is_alive}
use Rattle.sbe_types.specs.declared.message.Block.{Block}
use Rattle.layout_tables.specs.declared.rows.PartRow.{PartRow}
use Rattle.group_codec.specs.declared.dim.Dim.{Dim}
use Rattle.var_data.specs.declared.data.DataErr.{DataErr}
use Rattle.var_data.specs.declared.data.DataErr.TheVariants as bad
use Rattle.var_data.specs.Ranges.{data_range}
use Rattle.sbe_wire.specs.declared.mode.Mode.{Mode}
use Rattle.body_walk.specs.declared.found.Found.{Found}
use Rattle.body_walk.specs.inner.Outcomes.{fault_of}

-- the offset after what was read at offset `at` of `len` bytes
abbrev pub placed : {X : Type 0} → ℕ → ℕ → Result (X × List ℕ) Fault → Result ℕ Fault
placed len at (Ok r) = Ok (len - length r.1)
placed len at (Err f) = Err (shifted at f)

-- the offset after what a reader reads at an offset of the body
abbrev pub skim : {X : Type 0} → Reader X → List ℕ → ℕ → Result ℕ Fault
skim p body at = placed (length body) at (p (drop at body))

-- ---- parts in order

-- the reader of a level's entries
abbrev pub entries_read : Mode → Level → ℕ → Reader Block
entries_read mode level k = entry_read (tail_read mode level) mode (out-Level level).fields k

-- the offset after a level's block of k bytes
abbrev pub block_end : Mode → Level → ℕ → List ℕ → ℕ → Result ℕ Fault
block_end mode level k = skim (block_read mode (out-Level level).fields k)

-- the offset after groups, counted from i
abbrev pub groups_end : Mode → ℕ → List Group → List ℕ → ℕ → Result ℕ Fault
groups_end mode i [] body at = Ok at
groups_end mode i (g ∷ gs) body at =
    inside (way.Part i) (skim (group_read mode g) body at) >>= (λ next. groups_end mode (i + 1) gs body next)

-- the offset after n steps, counted from i
abbrev pub steps_end : (ℕ → Result ℕ Fault) → ℕ → ℕ → ℕ → Result ℕ Fault
steps_end f i zero at = Ok at
steps_end f i (suc n) at = inside (way.Entry i) (f at) >>= (λ next. steps_end f (i + 1) n next)

-- ---- data

-- the offset after data, by the range of its bytes; its length number is at offset `at`
abbrev pub range_answer : ℕ → Result (ℕ × ℕ) DataErr → Result ℕ Fault
range_answer at (Ok r) = Ok r.1
range_answer at (Err (bad.Truncated needed)) = Err (fault_at code.Truncated at (pos needed))
range_answer at (Err (bad.Length n)) = Err (fault_at code.Length at (pos n))

-- the offset after a data part, by its row
abbrev pub data_end : Mode → PartRow → List ℕ → ℕ → Result ℕ Fault
data_end mode row body at = if is_alive mode.version row.since then range_answer at (data_range mode.order row.length body at) else Ok at

-- the same for data parts, counted from i
abbrev pub parts_end : Mode → ℕ → List PartRow → List ℕ → ℕ → Result ℕ Fault
parts_end mode i [] body at = Ok at
parts_end mode i (r ∷ rs) body at = inside (way.Part i) (data_end mode r body at) >>= (λ next. parts_end mode (i + 1) rs body next)

-- ---- dimensions

-- the dimension that begins at an offset of the body, where the floor of its entries is `least`
abbrev pub dim_from : Order → List Member → ℕ → List ℕ → ℕ → Result (ℕ × ℕ) Fault
dim_from order dim least body at =
    if nat_le (members_end 0 dim) (length body - at)
    then later at (dimension_of order dim least (take (members_end 0 dim) (drop at body)))
    else Err (fault_at code.Truncated at (pos (members_end 0 dim)))

-- the result that a dimension or None and the fault slot encode
abbrev pub dim_went : Option Dim → Found → Result (ℕ × ℕ) Fault
dim_went (Some d) found = Ok (d.block, d.count)
dim_went None found = Err (fault_of found)
