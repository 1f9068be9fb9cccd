-- A level without a misfit fits.
use Rattle.std.proofs.Common.{◌≡◌, ℕ, suc, ◌+◌, ◌<◌, Bool, true, false, cond, List, [], ◌∷◌, length, Option, Some, None, Ok, Err, pos, refl, sym, ap, ◌∙◌, arith}
use Rattle.std.specs.Prelude.{◌&&◌, ◌==◌, ◌^◌, nat_lt, codes}
use Rattle.std.proofs.lemmas.Bool.Decides.{Decides-eqb, nat_tests}
use denote.Hole.Carrier as carrier
use Rattle.sbe_types.specs.declared.schema.Level as levels
use Rattle.sbe_types.specs.declared.kind.Order.{Order}
use Rattle.sbe_types.specs.declared.path.Step.TheVariants as way
use Rattle.sbe_types.specs.declared.schema.Field.{Field}
use Rattle.sbe_types.specs.declared.schema.DataField.{DataField}
use Rattle.sbe_types.specs.declared.schema.Group.{Group, Group'}
use Rattle.sbe_types.specs.declared.schema.Level.{Level, Level', out-Level, Row_of-Group, end_of-Group, more_of-Group, items-the_row-Group}
use Rattle.sbe_types.specs.declared.message.Value.{Value}
use Rattle.sbe_types.specs.declared.message.DataVal.{DataVal}
use Rattle.sbe_types.specs.declared.message.DataVal.TheVariants as dataval
use Rattle.sbe_types.specs.declared.message.Block.{Block, out-Block}
use Rattle.sbe_types.specs.declared.message.GroupVal.{GroupVal, items-the_row-Block}
use Rattle.sbe_types.specs.declared.message.GroupVal.TheVariants as groupval
use Rattle.sbe_types.specs.Numbers.{prim_width}
use Rattle.sbe_types.specs.Places.{end_past, members_end}
use Rattle.sbe_types.specs.Shown.{admits}
use Rattle.sbe_wire.specs.Named.{is_admitted}
use Rattle.sbe_wire.specs.Canonical.{entries_in}
use Rattle.sbe_wire.specs.Fits.{FieldsFit, PartFits, PartsFit, EachFits, BlockFits, GroupsFit, GroupFits}
use Rattle.sbe_wire.specs.Misfit.{Misfit, Taken, ◌then◌, taken_in, take_bytes, passed, or_else, misfit_in, value_misfit, fields_misfit, bad_shape, parts_shape, each_misfit, entries_shape, block_shape, groups_shape, group_shape, block_taken, part_taken, parts_taken, each_taken, entries_taken, tail_taken, groups_taken, group_taken}
use Rattle.sbe_wire.specs.Placed.{ArePlaced, IsPlacedLevel, ArePlacedGroups, IsPlacedGroup}
use Rattle.writing_laws.specs.Writable.{AreWritableFields, IsWritableLevel, AreWritableGroups, IsWritableGroup}
use Rattle.writing_laws.proofs.Refusals.{some_none, or_none, in_none}
use Rattle.writing_laws.proofs.KindFits.{kind_fits}
use Rattle.writing_laws.proofs.ListRows.{entries_is}
use Rattle.writing_laws.proofs.Takings.{err_ok, then_ok, in_ok, passed_ok}

-- ---- fields

pub fields_of : (order : Order) (version e i : ℕ) (fs : List Field) (vs : List Value) → ArePlaced e fs → AreWritableFields version fs → length fs ≡ length vs → fields_misfit i fs vs ≡ None → FieldsFit order fs vs
fields_of order version e i [] [] placed writable many h = tt
fields_of order version e i [] (v ∷ vs) placed writable many h = absurd (omega (arith, many))
fields_of order version e i (f ∷ fs) [] placed writable many h = absurd (omega (arith, many))
fields_of order version e i (f ∷ fs) (v ∷ vs) placed writable many h =
    let two = or_none (misfit_in (way.Part i) (value_misfit f.kind v)) (fields_misfit (suc i) fs vs) h in (
      kind_fits order f.kind placed.1 writable.0 v (in_none (way.Part i) (value_misfit f.kind v) two.0),
      fields_of order version (end_past e f.offset f.kind) (suc i) fs vs placed.2 writable.2 (omega (arith, many)) two.1,
    )

-- ---- data

-- what counts only where the test holds, and has counted
allowed : (t : Bool) (r : Taken) (m : Misfit) (n : ℕ) → cond t r (Err m) ≡ Ok n → (t ≡ true) × (r ≡ Ok n)
allowed true r m n h = (refl, h)
allowed false r m n h = absurd (err_ok h)

part_of : (limit before n : ℕ) (p : DataField) (bytes : List ℕ) → part_taken limit before p (dataval.Bytes bytes) ≡ Ok n → PartFits p (dataval.Bytes bytes)
part_of limit before n p bytes h =
    (bytes, refl, (allowed (admits p.length (pos (length bytes))) (take_bytes limit before (prim_width p.length.prim + length bytes)) _ n h).0)

parts_of : (limit i j before n : ℕ) (ps : List DataField) (vs : List DataVal) → length ps ≡ length vs → parts_shape j vs ≡ None → parts_taken limit i before ps vs ≡ Ok n → PartsFit ps vs
parts_of limit i j before n [] [] many shape h = tt
parts_of limit i j before n [] (v ∷ vs) many shape h = absurd (omega (arith, many))
parts_of limit i j before n (p ∷ ps) [] many shape h = absurd (omega (arith, many))
parts_of limit i j before n (p ∷ ps) (dataval.Absent ∷ vs) many shape h = absurd (some_none shape)
parts_of limit i j before n (p ∷ ps) (dataval.Bytes bytes ∷ vs) many shape h =
    let two = then_ok (taken_in (way.Part i) (part_taken limit before p (dataval.Bytes bytes))) (λ after. parts_taken limit (suc i) after ps vs) n h in (
      part_of limit before two.0 p bytes (in_ok (way.Part i) (part_taken limit before p (dataval.Bytes bytes)) two.0 two.1),
      parts_of limit (suc i) (suc j) two.0 n ps vs (omega (arith, many)) shape two.2,
    )

-- ---- entries

each_of : {X : Type 0} (P : X → Type 0) (f : ℕ → X → Taken) (g : X → Option Misfit) → ((x : X) (before n : ℕ) → f before x ≡ Ok n → g x ≡ None → P x) →
    (i j before n : ℕ) (xs : List X) → each_misfit g j xs ≡ None → each_taken f i before xs ≡ Ok n → EachFits P xs
each_of P f g each i j before n [] shape h = tt
each_of P f g each i j before n (x ∷ xs) shape h =
    let two = then_ok (taken_in (way.Entry i) (f before x)) (λ after. each_taken f (suc i) after xs) n h in
    let shapes = or_none (misfit_in (way.Entry j) (g x)) (each_misfit g (suc j) xs) shape in (
      each x before two.0 (in_ok (way.Entry i) (f before x) two.0 two.1) (in_none (way.Entry j) (g x) shapes.0),
      each_of P f g each (suc i) (suc j) two.0 n xs shapes.1 two.2,
    )

-- entries that are there
there_are : (shape : Block → Option Misfit) (v : GroupVal) → entries_shape shape (entries_in v) ≡ None → (es : List Block) × (v ≡ groupval.Entries es) × (entries_in v ≡ Some es)
there_are shape groupval.Absent h = absurd (some_none h)
there_are shape (groupval.Entries' n row) h = (items-the_row-Block _ row, sym (entries_is n row), refl)

looked_at : (n : ℕ) (m : Option Misfit) → n < 2 ^ 32 → cond (nat_lt n (2 ^ 32)) m None ≡ None → m ≡ None
looked_at n m few h = let small : nat_lt n (2 ^ 32) ≡ true = grind (arith, nat_tests) in sym (ap (λ t. cond t m None) small) ∙ h

-- ---- three numbers of parts

shape_of : (a b c d e f : ℕ) (m : Option Misfit) → cond ((a == b) && (c == d) && (e == f)) m bad_shape ≡ None → (a ≡ b) × (c ≡ d) × (e ≡ f) × (m ≡ None)
shape_of a b c d e f m h = by (a == b) (c == d) (e == f) refl refl refl h
  where
    by : (t u v : Bool) → (a == b) ≡ t → (c == d) ≡ u → (e == f) ≡ v → cond (t && u && v) m bad_shape ≡ None → (a ≡ b) × (c ≡ d) × (e ≡ f) × (m ≡ None)
    by true true true x y z k = ((Decides-eqb a b).0 x, (Decides-eqb c d).0 y, (Decides-eqb e f).0 z, k)
    by false u v x y z k = absurd (some_none k)
    by true false v x y z k = absurd (some_none k)
    by true true false x y z k = absurd (some_none k)

-- ---- levels

module _ (order : Order) (version limit : ℕ) where
  mutual
    unfolding block_shape tail_taken levels.out-Level carrier.out

    pub level_fits : (level : Level) → IsPlacedLevel level → IsWritableLevel version level → (block : Block) (before n : ℕ) → block_shape level block ≡ None →
        fields_misfit 0 (out-Level level).fields (out-Block block).fields ≡ None → tail_taken limit before level block ≡ Ok n → BlockFits order level block
    level_fits (Level' name id semantic since block_length fields k groups parts) placed writable block before n shape good h =
        let vs = (out-Block block).groups in
        let shapes = shape_of (length fields) (length (out-Block block).fields) (length (items-the_row-Group _ groups)) (length vs) (length parts) (length (out-Block block).parts)
        (or_else (groups_shape (length fields) groups vs) (parts_shape (length fields + length vs) (out-Block block).parts)) shape in
        let two = or_none (groups_shape (length fields) groups vs) (parts_shape (length fields + length vs) (out-Block block).parts) shapes.3 in
        let taken = then_ok (groups_taken limit (length fields) before groups vs) (λ after. parts_taken limit (length fields + length vs) after parts (out-Block block).parts) n h in (
          fields_of order version 0 0 fields (out-Block block).fields placed.0 writable.0 shapes.0 good,
          groups_fit (length fields) (length fields) before taken.0 groups placed.1 writable.2 vs shapes.1 two.0 taken.1,
          parts_of limit (length fields + length vs) (length fields + length vs) taken.0 n parts (out-Block block).parts shapes.2 two.1 taken.2,
        )

    groups_fit : (i j before n : ℕ) {k : _} (groups : Row_of-Group k) → ArePlacedGroups groups → AreWritableGroups version groups → (vs : List GroupVal) → length (items-the_row-Group _ groups) ≡ length vs →
        groups_shape j groups vs ≡ None → groups_taken limit i before groups vs ≡ Ok n → GroupsFit order groups vs
    groups_fit i j before n end_of-Group placed writable [] many shape h = tt
    groups_fit i j before n end_of-Group placed writable (v ∷ vs) many shape h = absurd (omega (arith, many))
    groups_fit i j before n (more_of-Group g rest) placed writable [] many shape h = absurd (omega (arith, many))
    groups_fit i j before n (more_of-Group g rest) placed writable (v ∷ vs) many shape h =
        let two = then_ok (taken_in (way.Part i) (group_taken limit before g v)) (λ after. groups_taken limit (suc i) after rest vs) n h in
        let shapes = or_none (misfit_in (way.Part j) (group_shape g v)) (groups_shape (suc j) rest vs) shape in (
          group_fits before two.0 g placed.0 writable.0 v (in_none (way.Part j) (group_shape g v) shapes.0) (in_ok (way.Part i) (group_taken limit before g v) two.0 two.1),
          groups_fit (suc i) (suc j) two.0 n rest placed.1 writable.1 vs (omega (arith, many)) shapes.1 two.2,
        )

    group_fits : (before n : ℕ) (g : Group) → IsPlacedGroup g → IsWritableGroup version g → (v : GroupVal) → group_shape g v ≡ None → group_taken limit before g v ≡ Ok n → GroupFits order g v
    group_fits before n (Group' dim level) placed writable v shape h =
        let shapes : Block → Option Misfit = λ entry. block_shape level entry in
        let counts : ℕ → Block → Taken = λ at entry. block_taken limit at (out-Level level).block_length (out-Level level).fields (out-Block entry).fields then (λ after. tail_taken limit after level entry) in
        let there = there_are shapes v shape in
        let es = there.0 in
        let taken : entries_taken limit before dim counts (Some es) ≡ Ok n = sym (ap (entries_taken limit before dim counts) there.2) ∙ h in
        let admitted = allowed (is_admitted dim (codes "numInGroup") (length es)) (take_bytes limit before (members_end 0 dim) then (λ after. each_taken counts 0 after es)) _ n taken in
        let two = then_ok (take_bytes limit before (members_end 0 dim)) (λ after. each_taken counts 0 after es) n admitted.1 in
        let each_shape : each_misfit shapes 0 es ≡ None =
        looked_at (length es) (each_misfit shapes 0 es) (writable.1.few (length es) admitted.0) (sym (ap (entries_shape shapes) there.2) ∙ shape) in (
          es,
          there.1,
          admitted.0,
          each_of (λ entry. BlockFits order level entry) counts shapes
              (λ entry at k counted right.
              let first = then_ok (block_taken limit at (out-Level level).block_length (out-Level level).fields (out-Block entry).fields) (λ after. tail_taken limit after level entry) k counted in
              let block = then_ok (take_bytes limit at (out-Level level).block_length) (λ after. passed after (fields_misfit 0 (out-Level level).fields (out-Block entry).fields)) first.0 first.1 in
              let good = passed_ok (fields_misfit 0 (out-Level level).fields (out-Block entry).fields) block.0 first.0 block.2 in
              level_fits level placed writable.2 entry first.0 k right good.0 first.2)
              0 0 two.0 n es each_shape two.2,
        )
