-- What is passed over, by what is done at a place of the bytes.
use Rattle.std.proofs.Common.{◌≡◌, ◌≤◌, ℕ, zero, suc, ◌+◌, ◌-◌, Bool, true, false, cond, List, [], ◌∷◌, length, take, drop, Option, Some, None, Result, Ok, Err, refl, sym, ap, ◌∙◌, arith, length-drop}
use Rattle.std.specs.Prelude.{nat_le, pos, map}
use Rattle.std.specs.Option.{option_map, option_and_then}
use Rattle.std.specs.Result.{result_ok}
use Rattle.std.proofs.lemmas.Bool.{leb-true}
use denote.Hole.Carrier as carrier
use Rattle.sbe_types.specs.declared.schema.Level as levels
use Rattle.sbe_types.specs.declared.schema.Group as groups_of
use Rattle.sbe_types.specs.declared.kind.Order.{Order}
use Rattle.sbe_types.specs.declared.kind.Member.{Member}
use Rattle.sbe_types.specs.declared.path.Step.{Step}
use Rattle.sbe_types.specs.declared.path.Step.TheVariants as way
use Rattle.sbe_types.specs.declared.message.DataVal.{DataVal}
use Rattle.sbe_types.specs.declared.schema.Group.{Group, Group', out-Group}
use Rattle.sbe_types.specs.declared.schema.Level.{Level, Level', out-Level, Row_of-Group, end_of-Group, more_of-Group, items-the_row-Group, items_shown-the_row-Group-0}
use Rattle.sbe_types.specs.Places.{members_end}
use Rattle.sbe_wire.specs.declared.codes.FCode.TheVariants as code
use Rattle.sbe_wire.specs.Versions.{is_alive, floor}
use Rattle.sbe_wire.specs.Faults.{Fault, fault_at}
use Rattle.sbe_wire.specs.Reading.{Reader, ◌>>=◌, later, inside, then_read, nothing, bytes_read, times_read, each_read, data_read, dimension_read, dimension_of}
use Rattle.layout_tables.specs.declared.rows.PartRow.{PartRow}
use Rattle.layout_tables.specs.Rowed.{part_row}
use Rattle.var_data.specs.declared.data.DataErr.{DataErr}
use Rattle.var_data.specs.declared.data.DataErr.TheVariants as bad
use Rattle.var_data.specs.Ranges.{data_range}
use Rattle.sbe_wire.specs.declared.mode.Mode.{Mode}
use Rattle.body_walk.specs.inner.Cursor.{placed, skim, steps_end, parts_end, data_end, range_answer, dim_from}
use Rattle.body_walk.proofs.Cursor.{Leaves, at_if, at_all, leaves_then, leaves_nothing, leaves_judged, leaves_bytes, leaves_times, leaves_each, skim_then, skim_made, skim_nothing, skim_judged, times_walked}
use Rattle.body_walk.proofs.Walks.{data_leaves, parts_walked}
use Rattle.level_skip.specs.Passing.{passed, entry_passed, tail_passed, groups_passed, group_passed}
use Rattle.level_skip.specs.Behind.{offset_after, bytes_behind, steps_behind, groups_behind, part_behind, parts_behind}

-- ---- what is left is an end of the bytes

pub leaves_passed : {X : Type 0} (p : Reader X) → Leaves p → Leaves (passed p)
leaves_passed p h = leaves_then p (λ _. nothing tt) h (λ _. leaves_nothing tt)

pub leaves_entry : (tail : Reader Unit) (k : ℕ) → Leaves tail → Leaves (entry_passed tail k)
leaves_entry tail k h = leaves_then (passed (bytes_read k)) (λ _. tail) (leaves_passed (bytes_read k) (leaves_bytes k)) (λ _. h)

module _ (order : Order) (version : ℕ) where
  mutual
    unfolding tail_passed groups_passed group_passed

    pub leaves_tail : (level : Level) → Leaves (tail_passed order version level)
    leaves_tail (Level' name id semantic since block_length fields n groups parts) =
        let all_parts : Reader (List DataVal) = each_read (data_read order version) 0 parts in
        leaves_then (groups_passed order version groups) (λ _. passed all_parts) (leaves_groups groups)
        (λ _. leaves_passed all_parts (leaves_each (data_read order version) 0 parts (λ part. data_leaves order version part)))

    pub leaves_groups : {n : _} (row : Row_of-Group n) → Leaves (groups_passed order version row)
    leaves_groups end_of-Group = leaves_nothing tt
    leaves_groups (more_of-Group g rest) = leaves_then (group_passed order version g) (λ _. groups_passed order version rest) (leaves_group g) (λ _. leaves_groups rest)

    pub leaves_group : (g : Group) → Leaves (group_passed order version g)
    leaves_group (Group' dim level) =
        let least = floor version (out-Level level).fields in
        let dims : Reader (ℕ × ℕ) = dimension_read order dim least in
        let entry : ℕ → Reader Unit = λ k. entry_passed (tail_passed order version level) k in
        let entries : ℕ × ℕ → Reader Unit = λ d. passed (times_read (entry d.0) 0 d.1) in
        record {
          left = λ b. at_if (is_alive version (out-Level level).since) b (then_read dims entries b) (Ok (tt, b))
              ((leaves_then dims entries (leaves_judged (bytes_read (members_end 0 dim)) (dimension_of order dim least) (leaves_bytes (members_end 0 dim)))
              (λ d. leaves_passed (times_read (entry d.0) 0 d.1) (leaves_times (entry d.0) 0 d.1 (leaves_entry (tail_passed order version level) d.0 (leaves_tail level))))).left b)
              (at_all b tt);
        }

-- ---- one part after another

went_on : {X : Type 0} (len at : ℕ) (r : Result (X × List ℕ) Fault) (f : ℕ → Result ℕ Fault) (g : ℕ → Option ℕ) → ((n : ℕ) → n ≤ len → result_ok (f n) ≡ g n) →
    result_ok (placed len at r >>= f) ≡ option_and_then g (result_ok (placed len at r))
went_on len at (Ok r) f g same = same (len - length r.1) (omega arith)
went_on len at (Err e) f g same = refl

pub then_behind : {X Y : Type 0} (p : Reader X) (s : Reader Y) (g : ℕ → Option ℕ) (body : List ℕ) (at : ℕ) → at ≤ length body → Leaves p → ((n : ℕ) → n ≤ length body → offset_after s body n ≡ g n) →
    offset_after (then_read p (λ _. s)) body at ≡ option_and_then g (offset_after p body at)
then_behind p s g body at h leaves same =
    ap result_ok (skim_then p (λ _. s) (skim s body) body at h leaves (λ x n near e. refl))
    ∙ went_on (length body) at (p (drop at body)) (skim s body) g same

pub passed_behind : {X : Type 0} (p : Reader X) (body : List ℕ) (at : ℕ) → at ≤ length body → Leaves p → offset_after (passed p) body at ≡ offset_after p body at
passed_behind p body at h leaves = ap result_ok (skim_made p (λ _. tt) body at h leaves)

-- ---- blocks

bytes_there : (t : Bool) (k : ℕ) (body : List ℕ) (at : ℕ) → at ≤ length body → nat_le k (length body - at) ≡ t →
    result_ok (placed (length body) at (cond t (Ok (take k (drop at body), drop k (drop at body))) (Err (fault_at code.Truncated 0 (pos k))))) ≡ cond t (Some (at + k)) None
bytes_there true k body at h e =
    let room : k ≤ length body - at = leb-true k (length body - at) e in
    let left : length (drop k (drop at body)) ≡ length (drop at body) - k = length-drop k (drop at body) in
    ap Some (omega (arith, room, left, length-drop at body))
bytes_there false k body at h e = refl

pub bytes_are : (k : ℕ) (body : List ℕ) (at : ℕ) → at ≤ length body → offset_after (bytes_read k) body at ≡ bytes_behind k body at
bytes_are k body at h =
    ap (λ n. result_ok (placed (length body) at (cond (nat_le k n) (Ok (take k (drop at body), drop k (drop at body))) (Err (fault_at code.Truncated 0 (pos k)))))) (length-drop at body)
    ∙ bytes_there (nat_le k (length body - at)) k body at h refl

pub entry_is : (tail : Reader Unit) (k : ℕ) (body : List ℕ) (at : ℕ) → at ≤ length body → offset_after (entry_passed tail k) body at ≡ option_and_then (offset_after tail body) (bytes_behind k body at)
entry_is tail k body at h =
    then_behind (passed (bytes_read k)) tail (offset_after tail body) body at h (leaves_passed (bytes_read k) (leaves_bytes k)) (λ n near. refl)
    ∙ ap (option_and_then (offset_after tail body)) (passed_behind (bytes_read k) body at h (leaves_bytes k) ∙ bytes_are k body at h)

-- ---- steps

step_kept : (step : Step) (r : Result ℕ Fault) (f : ℕ → Result ℕ Fault) (g : ℕ → Option ℕ) → ((n : ℕ) → result_ok (f n) ≡ g n) → result_ok (inside step r >>= f) ≡ option_and_then g (result_ok r)
step_kept step (Ok n) f g same = same n
step_kept step (Err e) f g same = refl

steps_kept : (f : ℕ → Result ℕ Fault) (i n at : ℕ) → result_ok (steps_end f i n at) ≡ steps_behind (λ a. result_ok (f a)) n at
steps_kept f i zero at = refl
steps_kept f i (suc n) at = step_kept (way.Entry i) (f at) (steps_end f (i + 1) n) (steps_behind (λ a. result_ok (f a)) n) (λ next. steps_kept f (i + 1) n next)

-- ---- data

module _ (order : Order) (version : ℕ) where
  abbrev mode : Mode
  mode = record { order = order; known = true; version = version }

  range_kept : (t : Bool) (at : ℕ) (q : Result (ℕ × ℕ) DataErr) → result_ok (cond t (range_answer at q) (Ok at)) ≡ cond t (option_map (λ (range : ℕ × ℕ). range.1) (result_ok q)) (Some at)
  range_kept true at (Ok r) = refl
  range_kept true at (Err (bad.Truncated needed)) = refl
  range_kept true at (Err (bad.Length n)) = refl
  range_kept false at q = refl

  data_kept : (row : PartRow) (body : List ℕ) (at : ℕ) → result_ok (data_end mode row body at) ≡ part_behind order version row body at
  data_kept row body at = range_kept (is_alive version row.since) at (data_range order row.length body at)

  parts_kept : (i : ℕ) (rows : List PartRow) (body : List ℕ) (at : ℕ) → result_ok (parts_end mode i rows body at) ≡ parts_behind order version rows body at
  parts_kept i [] body at = refl
  parts_kept i (r ∷ rs) body at =
      step_kept (way.Part i) (data_end mode r body at) (parts_end mode (i + 1) rs body) (parts_behind order version rs body) (λ next. parts_kept (i + 1) rs body next)
      ∙ ap (option_and_then (parts_behind order version rs body)) (data_kept r body at)

  -- ---- groups and then data

  groups_are : {n : _} (row : Row_of-Group n) (body : List ℕ) (at : ℕ) → at ≤ length body → offset_after (groups_passed order version row) body at ≡ groups_behind order version (items-the_row-Group _ row) body at
  unfolding groups_passed
  groups_are end_of-Group body at h = ap result_ok (skim_nothing {X = Unit {0}} tt body at h)
  groups_are (more_of-Group g rest) body at h =
      then_behind (group_passed order version g) (groups_passed order version rest) (groups_behind order version (items-the_row-Group _ rest) body) body at h (leaves_group order version g)
      (λ n near. groups_are rest body n near)

  pub tail_is : (level : Level) (body : List ℕ) (at : ℕ) → at ≤ length body →
      offset_after (tail_passed order version level) body at ≡ option_and_then (parts_behind order version (map part_row (out-Level level).parts) body) (groups_behind order version (out-Level level).groups body at)
  unfolding tail_passed levels.out-Level carrier.out
  tail_is (Level' name id semantic since block_length fields n groups parts) body at h =
      let all_parts : Reader (List DataVal) = each_read (data_read order version) 0 parts in
      let last : ℕ → Option ℕ = parts_behind order version (map part_row parts) body in
      let leaves = leaves_each (data_read order version) 0 parts (λ part. data_leaves order version part) in
      then_behind (groups_passed order version groups) (passed all_parts) last body at h (leaves_groups order version groups)
      (λ m near. passed_behind all_parts body m near leaves ∙ ap result_ok (parts_walked mode 0 parts body m near) ∙ parts_kept 0 (map part_row parts) body m)
      ∙ ap (option_and_then last) (groups_are groups body at h)
      ∙ ap (λ (gs : List Group). option_and_then last (groups_behind order version gs body at)) (sym (items_shown-the_row-Group-0 n groups))

  -- ---- a group

  alive_kept : (t : Bool) (p : Reader Unit) (body : List ℕ) (at : ℕ) → at ≤ length body →
      result_ok (placed (length body) at (cond t (p (drop at body)) (Ok (tt, drop at body)))) ≡ cond t (offset_after p body at) (Some at)
  alive_kept true p body at h = refl
  alive_kept false p body at h = ap result_ok (skim_nothing {X = Unit {0}} tt body at h)

  dim_kept : (t : Bool) (r : Result (ℕ × ℕ) Fault) (e : Fault) (f : ℕ × ℕ → Result ℕ Fault) (g : ℕ × ℕ → Option ℕ) → ((d : ℕ × ℕ) → result_ok (f d) ≡ g d) →
      result_ok (cond t (r >>= f) (Err e)) ≡ option_and_then g (result_ok (cond t r (Err e)))
  dim_kept true (Ok d) e f g same = same d
  dim_kept true (Err u) e f g same = refl
  dim_kept false r e f g same = refl

  abbrev entry : Level → ℕ → Reader Unit
  entry level k = entry_passed (tail_passed order version level) k

  -- the place after the entries of a dimension that ends at a place
  abbrev pub entries_behind : Level → List ℕ → ℕ → ℕ × ℕ → Option ℕ
  entries_behind level body after d = steps_behind (offset_after (entry level d.0) body) d.1 after

  group_made : (dim : List Member) (level : Level) (body : List ℕ) (at : ℕ) → at ≤ length body →
      offset_after (group_passed order version (Group' dim level)) body at
      ≡ cond (is_alive version (out-Level level).since)
      (option_and_then (entries_behind level body (at + members_end 0 dim)) (result_ok (dim_from order dim (floor version (out-Level level).fields) body at)))
      (Some at)
  unfolding group_passed
  group_made dim level body at h =
      let least = floor version (out-Level level).fields in
      let w = members_end 0 dim in
      let alive = is_alive version (out-Level level).since in
      let entries : ℕ × ℕ → Reader (List Unit) = λ d. times_read (entry level d.0) 0 d.1 in
      let leaves : (d : ℕ × ℕ) → Leaves (entry level d.0) = λ d. leaves_entry (tail_passed order version level) d.0 (leaves_tail order version level) in
      let told : ℕ × ℕ → Result ℕ Fault = λ d. steps_end (skim (entry level d.0) body) 0 d.1 (at + w) in
      alive_kept alive (then_read (dimension_read order dim least) (λ d. passed (entries d))) body at h
      ∙ ap (λ o. cond alive o (Some at))
      (ap result_ok (skim_judged w (dimension_of order dim least) (λ d. passed (entries d)) told body at h
      (λ d near. skim_made (entries d) (λ _. tt) body (at + w) near (leaves_times (entry level d.0) 0 d.1 (leaves d)) ∙ times_walked (entry level d.0) 0 d.1 body (at + w) near (leaves d)))
      ∙ dim_kept (nat_le w (length body - at)) (later at (dimension_of order dim least (take w (drop at body)))) (fault_at code.Truncated at (pos w)) told (entries_behind level body (at + w))
      (λ d. steps_kept (skim (entry level d.0) body) 0 d.1 (at + w)))

  open_group : (g : Group) → group_passed order version g ≡ group_passed order version (Group' (out-Group g).dim (out-Group g).level)
  unfolding groups_of.out-Group carrier.out
  open_group (Group' dim level) = refl

  pub group_is : (g : Group) (body : List ℕ) (at : ℕ) → at ≤ length body →
      offset_after (group_passed order version g) body at
      ≡ cond (is_alive version (out-Level (out-Group g).level).since)
      (option_and_then (entries_behind (out-Group g).level body (at + members_end 0 (out-Group g).dim)) (result_ok (dim_from order (out-Group g).dim (floor version (out-Level (out-Group g).level).fields) body at)))
      (Some at)
  group_is g body at h = ap (λ p. offset_after p body at) (open_group g) ∙ group_made (out-Group g).dim (out-Group g).level body at h
