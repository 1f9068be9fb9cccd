-- What the definitions read, by what the walk does at a place of the body.
use Rattle.std.proofs.Common.{◌≡◌, ◌≤◌, ℕ, suc, ◌+◌, ◌-◌, Bool, true, false, cond, List, [], ◌∷◌, length, take, drop, Result, Ok, Err, refl, sym, ap, ◌∙◌, arith, length-drop}
use Rattle.std.specs.Prelude.{nat_le, pos, map}
use Rattle.std.proofs.lemmas.Bool.{leb-true}
use Rattle.std.proofs.lemmas.Bool.Decides.{nat_tests}
use denote.Hole.Carrier as carrier
use Rattle.sbe_types.specs.declared.schema.Level as levels
use Rattle.sbe_types.specs.declared.kind.Order.{Order}
use Rattle.sbe_types.specs.declared.kind.Member.{Member}
use Rattle.sbe_types.specs.declared.path.Step.TheVariants as way
use Rattle.sbe_types.specs.declared.schema.DataField.{DataField}
use Rattle.sbe_types.specs.declared.schema.Group.{Group, Group'}
use Rattle.sbe_types.specs.declared.schema.Level.{Level, Level', out-Level, Row_of-Group, end_of-Group, more_of-Group, items-the_row-Group, items_shown-the_row-Group-0}
use Rattle.sbe_types.specs.declared.message.GroupVal.{GroupVal}
use Rattle.sbe_types.specs.declared.message.GroupVal.TheVariants as groupval
use Rattle.sbe_types.specs.declared.message.DataVal.{DataVal}
use Rattle.sbe_types.specs.declared.message.Value.{Value}
use Rattle.sbe_types.specs.declared.message.DataVal.TheVariants as dataval
use Rattle.sbe_types.specs.Numbers.{number_of, natural, prim_width}
use Rattle.sbe_types.specs.Places.{members_end}
use Rattle.sbe_types.specs.Shown.{admits}
use Rattle.sbe_wire.specs.declared.codes.FCode.TheVariants as code
use Rattle.sbe_wire.specs.Versions.{is_alive, floor}
use Rattle.sbe_wire.specs.Faults.{Fault, fault_at, count_of}
use Rattle.sbe_wire.specs.Reading.{Reader, ◌>>=◌, later, inside, and_then, then_read, nothing, read_and_check, and_check, bytes_read, read_in, times_read, each_read, fields_read, block_read, data_bytes, data_whole, data_read, dimension_read, dimension_of, Tail, block_of, tail_read, groups_read, group_read}
use Rattle.layout_tables.specs.Rowed.{part_row}
use Rattle.var_data.specs.declared.data.DataErr.TheVariants as bad
use Rattle.var_data.specs.Ranges.{data_range, range_behind}
use Rattle.sbe_wire.specs.declared.mode.Mode.{Mode}
use Rattle.body_walk.specs.inner.Outcomes.{check_at}
use Rattle.body_walk.specs.inner.Cursor.{placed, skim, steps_end, groups_end, parts_end, data_end, range_answer, dim_from, block_end, entries_read}
use Rattle.sbe_wire.proofs.Combine.{later_ok}
use Rattle.body_walk.proofs.Cursor.{fst_is, Leaves, at_if, at_err, at_all, leaves_then, leaves_nothing, leaves_in, leaves_judged, leaves_bytes, leaves_times, leaves_each, skim_then, skim_made, skim_nothing, placed_inside, times_walked, skim_judged}

-- ---- what is left after

abbrev bytes_in : DataField → List ℕ → Result DataVal Fault
bytes_in part whole = Ok (dataval.Bytes (drop (prim_width part.length.prim) whole))

pub data_leaves : (order : Order) (version : ℕ) (part : DataField) → Leaves (data_read order version part)
data_leaves order version part = record {
  left = λ b.
      let n = prim_width part.length.prim in
      let count = count_of order part b in
      at_if (is_alive version part.since) b (data_whole order part b) (Ok (dataval.Absent, b))
      (at_if (nat_le n (length b)) b (data_bytes order part count b) (Err (fault_at code.Truncated 0 (pos n)))
      (at_if (admits part.length (pos count)) b (read_and_check (bytes_read (n + count)) (bytes_in part) b) (Err (fault_at code.Length 0 (pos count)))
      ((leaves_judged (bytes_read (n + count)) (bytes_in part) (leaves_bytes (n + count))).left b) (at_err b _))
      (at_err b _))
      (at_all b dataval.Absent);
}

module _ (mode : Mode) where
  abbrev tails : Level → Reader Tail
  tails level = tail_read mode level

  pub entry_leaves : (level : Level) (k : ℕ) → Leaves (tails level) → Leaves (entries_read mode level k)
  entry_leaves level k h =
      leaves_then (block_read mode (out-Level level).fields k) (λ values. then_read (tails level) (λ t. nothing (block_of values t)))
      (leaves_judged (bytes_read k) (fields_read mode 0 0 (out-Level level).fields) (leaves_bytes k))
      (λ values. leaves_then (tails level) (λ t. nothing (block_of values t)) h (λ t. leaves_nothing (block_of values t)))

  abbrev group_behind : Level → ℕ × ℕ → Reader GroupVal
  group_behind level d = then_read (times_read (entries_read mode level d.0) 0 d.1) (λ entries. nothing (groupval.Entries entries))

  mutual
    unfolding tail_read groups_read group_read

    pub tail_leaves : (level : Level) → Leaves (tail_read mode level)
    tail_leaves (Level' name id semantic since block_length fields n groups parts) =
        let parts_read : List GroupVal → Reader (List DataVal) = λ gs. each_read (data_read mode.order mode.version) (length fields + length gs) parts in
        leaves_then (groups_read mode (length fields) groups) (λ gs. then_read (parts_read gs) (λ ds. nothing (gs, ds)))
        (groups_leave (length fields) groups) (λ gs. leaves_then (parts_read gs) (λ ds. nothing (gs, ds)) (leaves_each (data_read mode.order mode.version) (length fields + length gs) parts (λ part. data_leaves mode.order mode.version part)) (λ ds. leaves_nothing (gs, ds)))

    pub groups_leave : (i : ℕ) {n : _} (row : Row_of-Group n) → Leaves (groups_read mode i row)
    groups_leave i end_of-Group = leaves_nothing {X = List GroupVal} []
    groups_leave i (more_of-Group g rest) =
        leaves_then (read_in (way.Part i) (group_read mode g)) (λ v. then_read (groups_read mode (suc i) rest) (λ vs. nothing (v ∷ vs)))
        (leaves_in (way.Part i) (group_read mode g) (group_leaves g)) (λ v. leaves_then (groups_read mode (suc i) rest) (λ vs. nothing (v ∷ vs)) (groups_leave (suc i) rest) (λ vs. leaves_nothing (v ∷ vs)))

    pub group_leaves : (g : Group) → Leaves (group_read mode g)
    group_leaves (Group' dim level) =
        let dims : Reader (ℕ × ℕ) = dimension_read mode.order dim (floor mode.version (out-Level level).fields) in
        record {
          left = λ b. at_if (is_alive mode.version (out-Level level).since) b (then_read dims (group_behind level) b) (Ok (groupval.Absent, b))
              ((leaves_then dims (group_behind level) (leaves_judged (bytes_read (members_end 0 dim)) (dimension_of mode.order dim (floor mode.version (out-Level level).fields)) (leaves_bytes (members_end 0 dim)))
              (λ d. leaves_then (times_read (entries_read mode level d.0) 0 d.1) (λ entries. nothing (groupval.Entries entries))
              (leaves_times (entries_read mode level d.0) 0 d.1 (entry_leaves level d.0 (tail_leaves level)))
              (λ entries. leaves_nothing (groupval.Entries entries)))).left b)
              (at_all b groupval.Absent);
        }

-- ---- small steps

step_ok : {X Y : Type 0} (b : List ℕ) (r : Result (X × List ℕ) Fault) (q : X → Reader Y) (y : Y × List ℕ) → and_then b r q ≡ Ok y → (p : X × List ℕ) × (r ≡ Ok p) × (q p.0 p.1 ≡ Ok y)
step_ok b (Err f) q y h = cc
step_ok b (Ok p) q y h = (p, refl, later_ok (length b - length p.1) (q p.0 p.1) y h)

later_settled : {X : Type 0} (at : ℕ) (r : Result X Fault) (t : Result ℕ Fault) → (later at r >>= (λ _. t)) ≡ (check_at at r >>= (λ _. t))
later_settled at (Ok x) t = refl
later_settled at (Err f) t = refl

cond_bind : {X : Type 0} (t : Bool) (r : Result X Fault) (f : Fault) (g : X → Result ℕ Fault) → cond t (r >>= g) (Err f) ≡ (cond t r (Err f) >>= g)
cond_bind true r f g = refl
cond_bind false r f g = refl

group_alive : (t : Bool) (p : Reader GroupVal) (body : List ℕ) (at : ℕ) → at ≤ length body →
    placed (length body) at (cond t (p (drop at body)) (Ok (groupval.Absent, drop at body))) ≡ cond t (skim p body at) (Ok at)
group_alive true p body at h = refl
group_alive false p body at h = skim_nothing groupval.Absent body at h

-- ---- data

abbrev bytes_told : DataField → ℕ → List ℕ → Result (DataVal × List ℕ) Fault
bytes_told part n b = read_and_check (bytes_read (prim_width part.length.prim + n)) (bytes_in part) b

data_fits : (part : DataField) (n : ℕ) (body : List ℕ) (at : ℕ) (t u : Bool) → at + prim_width part.length.prim ≤ length body →
    nat_le (prim_width part.length.prim + n) (length (drop at body)) ≡ t → nat_le n (length body - (at + prim_width part.length.prim)) ≡ u →
    placed (length body) at (bytes_told part n (drop at body))
    ≡ range_answer at (cond u (Ok (at + prim_width part.length.prim, at + prim_width part.length.prim + n)) (Err (bad.Truncated (prim_width part.length.prim + n))))
data_fits part n body at true true near e f =
    let w = prim_width part.length.prim in
    let b = drop at body in
    let long : length b ≡ length body - at = length-drop at body in
    let room : w + n ≤ length b = leb-true (w + n) (length b) e in
    let rest : length (drop (w + n) b) ≡ length b - (w + n) = length-drop (w + n) b in
    let there : length body - length (drop (w + n) b) ≡ at + w + n = omega arith in
    ap (λ t. placed (length body) at (and_check (bytes_in part) (cond t (Ok (take (w + n) b, drop (w + n) b)) (Err (fault_at code.Truncated 0 (pos (w + n))))))) e
    ∙ ap Ok there
data_fits part n body at false false near e f =
    let w = prim_width part.length.prim in
    let b = drop at body in
    let here : at + 0 ≡ at = omega arith in
    ap (λ t. placed (length body) at (and_check (bytes_in part) (cond t (Ok (take (w + n) b, drop (w + n) b)) (Err (fault_at code.Truncated 0 (pos (w + n))))))) e
    ∙ ap (λ k. Err (fault_at code.Truncated k (pos (w + n)))) here
data_fits part n body at true false near e f =
    let w = prim_width part.length.prim in
    let long : length (drop at body) ≡ length body - at = length-drop at body in
    absurd (grind (arith, nat_tests))
data_fits part n body at false true near e f =
    let w = prim_width part.length.prim in
    let long : length (drop at body) ≡ length body - at = length-drop at body in
    absurd (grind (arith, nat_tests))

data_admitted : (part : DataField) (n : ℕ) (body : List ℕ) (at : ℕ) (t : Bool) → at + prim_width part.length.prim ≤ length body →
    placed (length body) at (cond t (bytes_told part n (drop at body)) (Err (fault_at code.Length 0 (pos n))))
    ≡ range_answer at (cond t (cond (nat_le n (length body - (at + prim_width part.length.prim))) (Ok (at + prim_width part.length.prim, at + prim_width part.length.prim + n)) (Err (bad.Truncated (prim_width part.length.prim + n)))) (Err (bad.Length n)))
data_admitted part n body at true near = data_fits part n body at _ _ near refl refl
data_admitted part n body at false near = ap (λ k. Err (fault_at code.Length k (pos n))) (omega arith)

module _ (order : Order) (part : DataField) (body : List ℕ) (at : ℕ) (near : at ≤ length body) where
  abbrev wide : ℕ
  wide = prim_width part.length.prim

  data_there : (t : Bool) → nat_le wide (length body - at) ≡ t →
      placed (length body) at (cond t (data_bytes order part (count_of order part (drop at body)) (drop at body)) (Err (fault_at code.Truncated 0 (pos wide))))
      ≡ range_answer at (cond t (range_behind part.length (natural (number_of order part.length.prim (take wide (drop at body)))) body (at + wide)) (Err (bad.Truncated wide)))
  data_there true e =
      let room : wide ≤ length body - at = leb-true wide (length body - at) e in
      data_admitted part (count_of order part (drop at body)) body at (admits part.length (pos (count_of order part (drop at body)))) (omega (arith, room, near))
  data_there false e = ap (λ k. Err (fault_at code.Truncated k (pos wide))) (omega arith)

  data_is : skim (data_whole order part) body at ≡ range_answer at (data_range order part.length body at)
  data_is =
      ap (λ n. placed (length body) at (cond (nat_le wide n) (data_bytes order part (count_of order part (drop at body)) (drop at body)) (Err (fault_at code.Truncated 0 (pos wide))))) (length-drop at body)
      ∙ data_there _ refl

  data_alive : (t : Bool) → placed (length body) at (cond t (data_whole order part (drop at body)) (Ok (dataval.Absent, drop at body))) ≡ cond t (range_answer at (data_range order part.length body at)) (Ok at)
  data_alive true = data_is
  data_alive false = skim_nothing dataval.Absent body at near

module _ (mode : Mode) where
  pub part_walked : (part : DataField) (body : List ℕ) (at : ℕ) → at ≤ length body → skim (data_read mode.order mode.version part) body at ≡ data_end mode (part_row part) body at
  part_walked part body at near = data_alive mode.order part body at near (is_alive mode.version part.since)

  pub parts_walked : (i : ℕ) (parts : List DataField) (body : List ℕ) (at : ℕ) → at ≤ length body → skim (each_read (data_read mode.order mode.version) i parts) body at ≡ parts_end mode i (map part_row parts) body at
  unfolding each_read
  parts_walked i [] body at h = skim_nothing {X = List DataVal} [] body at h
  parts_walked i (p ∷ ps) body at h =
      let next_i : suc i ≡ i + 1 = omega arith in
      let next : ℕ → Result ℕ Fault = λ n. parts_end mode (i + 1) (map part_row ps) body n in
      skim_then (read_in (way.Part i) (data_read mode.order mode.version p)) (λ y. then_read (each_read (data_read mode.order mode.version) (suc i) ps) (λ ys. nothing (y ∷ ys))) next body at h
      (leaves_in (way.Part i) (data_read mode.order mode.version p) (data_leaves mode.order mode.version p))
      (λ y n near e. skim_made (each_read (data_read mode.order mode.version) (suc i) ps) (λ ys. y ∷ ys) body n near (leaves_each (data_read mode.order mode.version) (suc i) ps (λ part. data_leaves mode.order mode.version part))
      ∙ parts_walked (suc i) ps body n near ∙ ap (λ k. parts_end mode k (map part_row ps) body n) next_i)
      ∙ ap (λ r. r >>= next) (placed_inside (length body) at (way.Part i) (data_read mode.order mode.version p (drop at body)))
      ∙ ap (λ r. inside (way.Part i) r >>= next) (part_walked p body at h)

  -- ---- entries, groups and tails

  pub block_walked : (level : Level) (k : ℕ) (body : List ℕ) (at : ℕ) → at ≤ length body →
      block_end mode level k body at
      ≡ cond (nat_le k (length body - at))
      (check_at at (fields_read mode 0 0 (out-Level level).fields (take k (drop at body))) >>= (λ _. Ok (at + k)))
      (Err (fault_at code.Truncated at (pos k)))
  block_walked level k body at h =
      let fields = (out-Level level).fields in
      let block : Reader (List Value) = block_read mode fields k in
      sym (skim_made block (λ values. values) body at h (leaves_judged (bytes_read k) (fields_read mode 0 0 fields) (leaves_bytes k)))
      ∙ skim_judged k (fields_read mode 0 0 fields) (λ values. nothing values) (λ _. Ok (at + k)) body at h (λ values near. skim_nothing values body (at + k) near)
      ∙ ap (λ r. cond (nat_le k (length body - at)) r (Err (fault_at code.Truncated at (pos k)))) (later_settled at (fields_read mode 0 0 fields (take k (drop at body))) (Ok (at + k)))

  pub entry_walked : (level : Level) (k : ℕ) (body : List ℕ) (at : ℕ) → at ≤ length body →
      skim (entries_read mode level k) body at
      ≡ cond (nat_le k (length body - at))
      (check_at at (fields_read mode 0 0 (out-Level level).fields (take k (drop at body))) >>= (λ _. skim (tail_read mode level) body (at + k)))
      (Err (fault_at code.Truncated at (pos k)))
  entry_walked level k body at h =
      let fields = (out-Level level).fields in
      let tail : Reader Tail = tail_read mode level in
      skim_judged k (fields_read mode 0 0 fields) (λ values. then_read tail (λ t. nothing (block_of values t))) (λ _. skim tail body (at + k)) body at h
      (λ values near. skim_made tail (λ t. block_of values t) body (at + k) near (tail_leaves mode level))
      ∙ ap (λ r. cond (nat_le k (length body - at)) r (Err (fault_at code.Truncated at (pos k)))) (later_settled at (fields_read mode 0 0 fields (take k (drop at body))) (skim tail body (at + k)))

  pub group_walked : (dim : List Member) (level : Level) (body : List ℕ) (at : ℕ) → at ≤ length body →
      skim (group_read mode (Group' dim level)) body at
      ≡ cond (is_alive mode.version (out-Level level).since)
      (dim_from mode.order dim (floor mode.version (out-Level level).fields) body at >>= (λ d. steps_end (skim (entries_read mode level d.0) body) 0 d.1 (at + members_end 0 dim)))
      (Ok at)
  unfolding group_read
  group_walked dim level body at h =
      let least = floor mode.version (out-Level level).fields in
      let w = members_end 0 dim in
      let after : ℕ × ℕ → ℕ → Result ℕ Fault = λ d n. steps_end (skim (entries_read mode level d.0) body) 0 d.1 n in
      group_alive (is_alive mode.version (out-Level level).since) (then_read (dimension_read mode.order dim least) (group_behind mode level)) body at h
      ∙ ap (λ r. cond (is_alive mode.version (out-Level level).since) r (Ok at))
      (skim_judged w (dimension_of mode.order dim least) (group_behind mode level) (λ d. after d (at + w)) body at h
      (λ d near.
      let leaves = entry_leaves mode level d.0 (tail_leaves mode level) in
      skim_made (times_read (entries_read mode level d.0) 0 d.1) groupval.Entries body (at + w) near (leaves_times (entries_read mode level d.0) 0 d.1 leaves)
      ∙ times_walked (entries_read mode level d.0) 0 d.1 body (at + w) near leaves)
      ∙ cond_bind (nat_le w (length body - at)) (later at (dimension_of mode.order dim least (take w (drop at body)))) (fault_at code.Truncated at (pos w)) (λ d. after d (at + w)))

  groups_walked : (i : ℕ) {n : _} (row : Row_of-Group n) (body : List ℕ) (at : ℕ) → at ≤ length body → skim (groups_read mode i row) body at ≡ groups_end mode i (items-the_row-Group _ row) body at
  unfolding groups_read
  groups_walked i end_of-Group body at h = skim_nothing {X = List GroupVal} [] body at h
  groups_walked i (more_of-Group g rest) body at h =
      let next_i : suc i ≡ i + 1 = omega arith in
      let next : ℕ → Result ℕ Fault = λ n. groups_end mode (i + 1) (items-the_row-Group _ rest) body n in
      skim_then (read_in (way.Part i) (group_read mode g)) (λ v. then_read (groups_read mode (suc i) rest) (λ vs. nothing (v ∷ vs))) next body at h
      (leaves_in (way.Part i) (group_read mode g) (group_leaves mode g))
      (λ v n near e. skim_made (groups_read mode (suc i) rest) (λ vs. v ∷ vs) body n near (groups_leave mode (suc i) rest)
      ∙ groups_walked (suc i) rest body n near ∙ ap (λ k. groups_end mode k (items-the_row-Group _ rest) body n) next_i)
      ∙ ap (λ r. r >>= next) (placed_inside (length body) at (way.Part i) (group_read mode g (drop at body)))

  -- as many groups are read as there are
  groups_many : (i : ℕ) {n : _} (row : Row_of-Group n) (b : List ℕ) (gs : List GroupVal) (left : List ℕ) → groups_read mode i row b ≡ Ok (gs, left) → length gs ≡ length (items-the_row-Group _ row)
  unfolding groups_read
  groups_many i end_of-Group b gs left h = ap length (sym (fst_is h))
  groups_many i (more_of-Group g rest) b gs left h =
      let one = step_ok b (read_in (way.Part i) (group_read mode g) b) (λ v. then_read (groups_read mode (suc i) rest) (λ vs. nothing (v ∷ vs))) (gs, left) h in
      let two = step_ok one.0.1 (groups_read mode (suc i) rest one.0.1) (λ vs. nothing (one.0.0 ∷ vs)) (gs, left) one.2 in
      ap length (sym (fst_is two.2)) ∙ ap suc (groups_many (suc i) rest one.0.1 two.0.0 two.0.1 two.1)

  pub tail_walked : (level : Level) (body : List ℕ) (at : ℕ) → at ≤ length body →
      skim (tail_read mode level) body at
      ≡ (groups_end mode (length (out-Level level).fields) (out-Level level).groups body at
      >>= (λ next. parts_end mode (length (out-Level level).fields + length (out-Level level).groups) (map part_row (out-Level level).parts) body next))
  unfolding tail_read levels.out-Level carrier.out
  tail_walked (Level' name id semantic since block_length fields n groups parts) body at h =
      let parts_read : List GroupVal → Reader (List DataVal) = λ gs. each_read (data_read mode.order mode.version) (length fields + length gs) parts in
      let items = items-the_row-Group _ groups in
      let all : ℕ → Reader (List DataVal) = λ k. each_read (data_read mode.order mode.version) k parts in
      let next : ℕ → ℕ → Result ℕ Fault = λ k n. parts_end mode (length fields + k) (map part_row parts) body n in
      skim_then (groups_read mode (length fields) groups) (λ gs. then_read (parts_read gs) (λ ds. nothing (gs, ds))) (next (length items)) body at h
      (groups_leave mode (length fields) groups)
      (λ gs n near e. skim_made (parts_read gs) (λ ds. (gs, ds)) body n near (leaves_each (data_read mode.order mode.version) (length fields + length gs) parts (λ part. data_leaves mode.order mode.version part))
      ∙ parts_walked (length fields + length gs) parts body n near
      ∙ ap (λ k. next k n) (groups_many (length fields) groups (drop at body) gs (drop n body) e))
      ∙ ap (λ r. r >>= next (length items)) (groups_walked (length fields) groups body at h)
      ∙ ap (λ (gs : List Group). groups_end mode (length fields) gs body at >>= next (length gs)) (sym (items_shown-the_row-Group-0 n groups))
