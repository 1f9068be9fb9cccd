-- Where an entry is read, exactly its bytes are passed over.
use Rattle.std.proofs.Common.{◌≡◌, ◌≤◌, ℕ, zero, suc, ◌+◌, ◌-◌, Bool, true, false, cond, List, [], ◌∷◌, ◌++◌, length, take, Result, Some, Ok, Err, refl, ap, ◌∙◌, arith, length-take, length-append}
use Rattle.std.specs.Prelude.{map, pos}
use Rattle.std.proofs.lemmas.Bool.{le-leb}
use Rattle.sbe_types.specs.declared.path.Step.{Step}
use Rattle.sbe_types.specs.declared.path.Step.TheVariants as way
use Rattle.sbe_types.specs.declared.message.Block.{Block}
use Rattle.sbe_types.specs.declared.message.DataVal.{DataVal}
use Rattle.sbe_types.specs.declared.message.GroupVal.{GroupVal}
use Rattle.sbe_types.specs.declared.message.GroupVal.TheVariants as groupval
use Rattle.sbe_types.specs.declared.schema.Group.{Group, Group'}
use Rattle.sbe_types.specs.declared.schema.Level.{Level, Level', out-Level, Row_of-Group, end_of-Group, more_of-Group}
use Rattle.sbe_wire.specs.declared.mode.Mode.{Mode}
use Rattle.sbe_wire.specs.declared.codes.FCode.TheVariants as code
use Rattle.sbe_wire.specs.Faults.{Fault, fault_at, TailFault}
use Rattle.sbe_wire.specs.Lays.{EntryLays, TailLays}
use Rattle.sbe_wire.specs.Placed.{IsPlacedLevel}
use Rattle.sbe_wire.specs.Versions.{is_alive, floor, form_of}
use Rattle.sbe_wire.specs.Reading.{Reader, ◌>>=◌, later, inside, and_then, then_read, nothing, and_check, read_and_check, bytes_read, read_in, times_read, each_read, fields_read, block_read, data_read, dimension_read, Tail, block_of, entry_read, tail_read, groups_read, group_read}
use Rattle.std.proofs.Math.Seq.{drop-append_seam}
use Rattle.std.specs.Result.{result_ok}
use Rattle.body_walk.specs.inner.Cursor.{placed}
use Rattle.level_skip.specs.Behind.{offset_after}
use Rattle.sbe_wire.proofs.Blocks.{entry_reads}
use Rattle.sbe_wire.proofs.Combine.{bind_ok, later_ok, inside_ok}
use Rattle.sbe_wire.proofs.Levels.{tail_reads, placed_fields, ignores}
use Rattle.body_walk.proofs.Cursor.{snd_is}
use Rattle.level_skip.specs.Passing.{passed, entry_passed, tail_passed, groups_passed, group_passed, level_passed}

-- ---- what one reader reads, another passes over

-- where p reads x, q reads f x and leaves as much
pub record Follows {X Y : Type 0} (f : X → Y) (p : Reader X) (q : Reader Y) : Type 0 where
  pub same : (b : List ℕ) (x : X) (rest : List ℕ) → p b ≡ Ok (x, rest) → q b ≡ Ok (f x, rest)

abbrev itself : {X : Type 0} → X → X
itself x = x

abbrev no_value : {X : Type 0} → X → Unit {0}
no_value x = tt

follows_self : {X : Type 0} (p : Reader X) → Follows itself p p
follows_self p = record { same = λ b x rest h. h }

follows_nothing : {X Y : Type 0} (f : X → Y) (x : X) → Follows f (nothing x) (nothing (f x))
follows_nothing f x = record { same = λ b y rest h. ap (λ r. r >>= (λ z. Ok (f z.0, z.1))) h }

parts_of_then : {X Y : Type 0} (b : List ℕ) (r : Result (X × List ℕ) Fault) (q : X → Reader Y) (y : Y × List ℕ) → and_then b r q ≡ Ok y → (p : X × List ℕ) × (r ≡ Ok p) × (q p.0 p.1 ≡ Ok y)
parts_of_then b (Err f) q y h = cc
parts_of_then b (Ok p) q y h = (p, refl, later_ok (length b - length p.1) (q p.0 p.1) y h)

both_read : {X Y : Type 0} (b : List ℕ) (r : Result (X × List ℕ) Fault) (q : X → Reader Y) (x : X) (rest : List ℕ) (y : Y × List ℕ) → r ≡ Ok (x, rest) → q x rest ≡ Ok y → and_then b r q ≡ Ok y
both_read b r q x rest y h k = ap (λ a. and_then b a q) h ∙ ap (later (length b - length rest)) k

follows_then : {X Y V W : Type 0} (f : X → Y) (g : V → W) (p : Reader X) (p2 : Reader Y) (q : X → Reader V) (q2 : Y → Reader W) → Follows f p p2 → ((x : X) → Follows g (q x) (q2 (f x))) → Follows g (then_read p q) (then_read p2 q2)
follows_then f g p p2 q q2 h k = record {
  same = λ b v rest e.
      let two = parts_of_then b (p b) q (v, rest) e in
      both_read b (p2 b) q2 (f two.0.0) two.0.1 (g v, rest) (h.same b two.0.0 two.0.1 two.1) ((k two.0.0).same two.0.1 v rest two.2);
}

-- a step of the path changes nothing that is read
follows_in : {X Y : Type 0} (f : X → Y) (step other : Step) (p : Reader X) (q : Reader Y) → Follows f p q → Follows f (read_in step p) (read_in other q)
follows_in f step other p q h = record { same = λ b x rest e. ap (inside other) (h.same b x rest (inside_ok step (p b) (x, rest) e)) }

follows_out : {X Y : Type 0} (f : X → Y) (step : Step) (p : Reader X) (q : Reader Y) → Follows f p q → Follows f (read_in step p) q
follows_out f step p q h = record { same = λ b x rest e. h.same b x rest (inside_ok step (p b) (x, rest) e) }

follows_passed : {X Y : Type 0} (f : X → Y) (p : Reader X) (q : Reader Y) → Follows f p q → Follows no_value p (passed q)
follows_passed f p q h = record { same = λ b x rest e. both_read b (q b) (λ _. nothing tt) (f x) rest (tt, rest) (h.same b x rest e) refl }

follows_made : {X Y : Type 0} (make : X → Y) (p : Reader X) (q : Reader Unit) → Follows no_value p q → Follows no_value (then_read p (λ x. nothing (make x))) q
follows_made make p q h = record {
  same = λ b y rest e.
      let two = parts_of_then b (p b) (λ x. nothing (make x)) (y, rest) e in
      h.same b two.0.0 two.0.1 two.1 ∙ ap (λ left. Ok (tt, left)) (snd_is two.2);
}

was_read : {X Y : Type 0} (judge : X → Result Y Fault) (r : Result (X × List ℕ) Fault) (y : Y) (rest : List ℕ) → and_check judge r ≡ Ok (y, rest) → (x : X) × (r ≡ Ok (x, rest))
was_read judge (Err f) y rest h = cc
was_read judge (Ok r) y rest h =
    let made = bind_ok (judge r.0) (λ z. Ok (z, r.1)) (y, rest) h in
    (r.0, ap (λ left. Ok (r.0, left)) (snd_is made.2))

follows_judged : {X Y : Type 0} (p : Reader X) (judge : X → Result Y Fault) (q : Reader Unit) → Follows no_value p q → Follows no_value (read_and_check p judge) q
follows_judged p judge q h = record {
  same = λ b y rest e.
      let read = was_read judge (p b) y rest e in
      h.same b read.0 rest read.1;
}

follows_times : {X : Type 0} (p : Reader X) (q : Reader Unit) (i n : ℕ) → Follows no_value p q → Follows (map no_value) (times_read p i n) (times_read q i n)
unfolding times_read
follows_times {X} p q i zero h = follows_nothing {X = List X} (map no_value) []
follows_times p q i (suc n) h =
    follows_then no_value (map no_value) (read_in (way.Entry i) p) (read_in (way.Entry i) q)
    (λ x. then_read (times_read p (suc i) n) (λ xs. nothing (x ∷ xs))) (λ u. then_read (times_read q (suc i) n) (λ us. nothing (u ∷ us)))
    (follows_in no_value (way.Entry i) (way.Entry i) p q h)
    (λ x. follows_then (map no_value) (map no_value) (times_read p (suc i) n) (times_read q (suc i) n) (λ xs. nothing (x ∷ xs)) (λ us. nothing (tt ∷ us))
    (follows_times p q (suc i) n h) (λ xs. follows_nothing (map no_value) (x ∷ xs)))

-- the numbers of the parts change nothing that is read
follows_each : {X Y : Type 0} (p : X → Reader Y) (i k : ℕ) (xs : List X) → Follows itself (each_read p i xs) (each_read p k xs)
unfolding each_read
follows_each p i k [] = record { same = λ b ys rest h. h }
follows_each p i k (x ∷ xs) =
    follows_then itself itself (read_in (way.Part i) (p x)) (read_in (way.Part k) (p x))
    (λ y. then_read (each_read p (suc i) xs) (λ ys. nothing (y ∷ ys))) (λ y. then_read (each_read p (suc k) xs) (λ ys. nothing (y ∷ ys)))
    (follows_in itself (way.Part i) (way.Part k) (p x) (p x) (follows_self (p x)))
    (λ y. follows_then itself itself (each_read p (suc i) xs) (each_read p (suc k) xs) (λ ys. nothing (y ∷ ys)) (λ ys. nothing (y ∷ ys))
    (follows_each p (suc i) (suc k) xs) (λ ys. follows_self (nothing (y ∷ ys))))

follows_alive : {X : Type 0} (t : Bool) (p : Reader X) (q : Reader Unit) (x : X) → Follows no_value p q → Follows no_value (λ b. cond t (p b) (Ok (x, b))) (λ b. cond t (q b) (Ok (tt, b)))
follows_alive true p q x h = record { same = λ b y rest e. h.same b y rest e }
follows_alive false p q x h = follows_nothing no_value x

-- ---- levels

module _ (mode : Mode) where
  entry_follows : (level : Level) (k : ℕ) → Follows no_value (tail_read mode level) (tail_passed mode.order mode.version level) →
      Follows no_value (entry_read (tail_read mode level) mode (out-Level level).fields k) (entry_passed (tail_passed mode.order mode.version level) k)
  entry_follows level k h =
      let fields = (out-Level level).fields in
      let tail : Reader Tail = tail_read mode level in
      follows_then no_value no_value (block_read mode fields k) (passed (bytes_read k)) (λ values. then_read tail (λ t. nothing (block_of values t))) (λ _. tail_passed mode.order mode.version level)
      (follows_judged (bytes_read k) (fields_read mode 0 0 fields) (passed (bytes_read k)) (follows_passed itself (bytes_read k) (bytes_read k) (follows_self (bytes_read k))))
      (λ values. follows_made (λ t. block_of values t) tail (tail_passed mode.order mode.version level) h)

  mutual
    unfolding tail_read groups_read group_read tail_passed groups_passed group_passed

    pub tail_follows : (level : Level) → Follows no_value (tail_read mode level) (tail_passed mode.order mode.version level)
    tail_follows (Level' name id semantic since block_length fields n groups parts) =
        let all_parts : ℕ → Reader (List DataVal) = λ i. each_read (data_read mode.order mode.version) i parts in
        follows_then no_value no_value (groups_read mode (length fields) groups) (groups_passed mode.order mode.version groups)
        (λ gs. then_read (all_parts (length fields + length gs)) (λ ds. nothing (gs, ds))) (λ _. passed (all_parts 0))
        (groups_follow (length fields) groups)
        (λ gs. follows_made (λ ds. (gs, ds)) (all_parts (length fields + length gs)) (passed (all_parts 0)) (follows_passed itself (all_parts (length fields + length gs)) (all_parts 0) (follows_each (data_read mode.order mode.version) (length fields + length gs) 0 parts)))

    groups_follow : (i : ℕ) {n : _} (row : Row_of-Group n) → Follows no_value (groups_read mode i row) (groups_passed mode.order mode.version row)
    groups_follow i end_of-Group = follows_nothing {X = List GroupVal} no_value []
    groups_follow i (more_of-Group g rest) =
        follows_then no_value no_value (read_in (way.Part i) (group_read mode g)) (group_passed mode.order mode.version g)
        (λ v. then_read (groups_read mode (suc i) rest) (λ vs. nothing (v ∷ vs))) (λ _. groups_passed mode.order mode.version rest)
        (follows_out no_value (way.Part i) (group_read mode g) (group_passed mode.order mode.version g) (group_follows g))
        (λ v. follows_made (λ vs. v ∷ vs) (groups_read mode (suc i) rest) (groups_passed mode.order mode.version rest) (groups_follow (suc i) rest))

    group_follows : (g : Group) → Follows no_value (group_read mode g) (group_passed mode.order mode.version g)
    group_follows (Group' dim level) =
        let fields = (out-Level level).fields in
        let dims : Reader (ℕ × ℕ) = dimension_read mode.order dim (floor mode.version fields) in
        let entries : ℕ × ℕ → Reader (List Block) = λ d. times_read (entry_read (tail_read mode level) mode fields d.0) 0 d.1 in
        let skips : ℕ × ℕ → Reader (List Unit) = λ d. times_read (entry_passed (tail_passed mode.order mode.version level) d.0) 0 d.1 in
        follows_alive (is_alive mode.version (out-Level level).since) (then_read dims (λ d. then_read (entries d) (λ es. nothing (groupval.Entries es)))) (then_read dims (λ d. passed (skips d))) groupval.Absent
        (follows_then itself no_value dims dims (λ d. then_read (entries d) (λ es. nothing (groupval.Entries es))) (λ d. passed (skips d)) (follows_self dims)
        (λ d. follows_made groupval.Entries (entries d) (passed (skips d)) (follows_passed (map no_value) (entries d) (skips d)
        (follows_times (entry_read (tail_read mode level) mode fields d.0) (entry_passed (tail_passed mode.order mode.version level) d.0) 0 d.1 (entry_follows level d.0 (tail_follows level))))))

  -- ---- an entry that lies

  pub entry_passes : (level : Level) (k : ℕ) (entry : Block) (front rest : List ℕ) → IsPlacedLevel level →
      EntryLays (λ e b. TailLays mode level e b) (form_of mode level) k entry front → level_passed mode.order mode.version level k (front ++ rest) ≡ Ok (tt, rest)
  entry_passes level k entry front rest placed lies =
      let fields = (out-Level level).fields in
      let tail : Reader Unit = tail_passed mode.order mode.version level in
      let met : floor mode.version fields ≤ length (take k front) = lies.1.0 in
      let short : length (take k front) ≤ k = simp length-take (omega arith) in
      let enough : floor mode.version fields ≤ k = omega (arith, met, short) in
      let reads = entry_reads mode (tail_read mode level) (λ e b. TailLays mode level e b) (TailFault mode level) fields k
      (ignores mode level) enough (placed_fields level placed) (tail_reads mode level placed) in
      ap (λ t. cond t (entry_passed tail k (front ++ rest)) (Err (fault_at code.BlockShort 0 (pos k)))) (le-leb (floor mode.version fields) k enough)
      ∙ (entry_follows level k (tail_follows level)).same (front ++ rest) entry rest (reads.complete entry front rest lies)

  pub entry_ends : (level : Level) (k : ℕ) (entry : Block) (before front rest : List ℕ) → IsPlacedLevel level →
      EntryLays (λ e b. TailLays mode level e b) (form_of mode level) k entry front →
      offset_after (level_passed mode.order mode.version level k) (before ++ (front ++ rest)) (length before) ≡ Some (length before + length front)
  entry_ends level k entry before front rest is_placed lies =
      let n = length (before ++ (front ++ rest)) in
      let end : n - length rest ≡ length before + length front = omega (arith, length-append before (front ++ rest), length-append front rest) in
      ap (λ b. result_ok (placed n (length before) (level_passed mode.order mode.version level k b))) (drop-append_seam before (front ++ rest))
      ∙ ap (λ r. result_ok (placed n (length before) r)) (entry_passes level k entry front rest is_placed lies)
      ∙ ap Some end
