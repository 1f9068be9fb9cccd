-- The shape of a block, by the lists of its level's parts.
use Rattle.std.proofs.Common.{◌≡◌, ◌<◌, ◌+◌, ◌^◌, ℕ, zero, suc, Bool, true, false, cond, List, [], ◌∷◌, length, drop, Option, Some, None, pos, refl, sym, ap, ap₂, ◌∙◌, subst, arith}
use Rattle.std.specs.Prelude.{◌&&◌, ◌==◌, slice_get}
use Rattle.std.proofs.lemmas.Bool.{lt-ltb}
use denote.Hole.Carrier as carrier
use Rattle.sbe_types.specs.declared.message.Block.{Block, out-Block}
use Rattle.sbe_types.specs.declared.message.DataVal.{DataVal}
use Rattle.sbe_types.specs.declared.message.DataVal.TheVariants as dataval
use Rattle.sbe_types.specs.declared.message.GroupVal.{GroupVal}
use Rattle.sbe_types.specs.declared.path.Step.{Step}
use Rattle.sbe_types.specs.declared.path.Step.TheVariants as way
use Rattle.sbe_wire.specs.declared.codes.NCode.TheVariants as code
use Rattle.sbe_types.specs.declared.schema.Group as groups_of
use Rattle.sbe_types.specs.declared.schema.Group.{Group, Group', out-Group}
use Rattle.sbe_types.specs.declared.schema.Level as levels
use Rattle.sbe_types.specs.declared.schema.Level.{Level, Level', out-Level, Row_of-Group, end_of-Group, more_of-Group, items-the_row-Group, items_shown-the_row-Group-0}
use Rattle.sbe_wire.specs.Canonical.{entries_in}
use Rattle.sbe_wire.specs.Misfit.{Misfit, or_else, misfit_in, bad_shape, parts_shape, each_misfit, entries_shape, block_shape, groups_shape, group_shape}
use Rattle.tree_codec.specs.declared.first_misfit.FirstMisfit.{FirstMisfit}
use Rattle.tree_codec.specs.Shapes.{groups_unfit, misfit_of, is_gone, Throughout, ThroughoutRow, ThroughoutGroup}

some_is : {A : Type 0} {x y : A} → ◌≡◌ {A = Option A} (Some x) (Some y) → x ≡ y
some_is h = cc

-- ---- groups as a list

row_is : (i : ℕ) (n : _) (row : Row_of-Group n) (vs : List GroupVal) → groups_shape i row vs ≡ groups_unfit i (items-the_row-Group n row) vs
unfolding block_shape
row_is i n end_of-Group vs = refl
row_is i n (more_of-Group g rest) [] = refl
row_is i n (more_of-Group g rest) (v ∷ vs) = ap (or_else (misfit_in (way.Part i) (group_shape g v))) (row_is (suc i) _ rest vs)

pub group_is : (g : Group) (v : GroupVal) → group_shape g v ≡ entries_shape (λ entry. block_shape (out-Group g).level entry) (entries_in v)
unfolding block_shape groups_of.out-Group carrier.out
group_is (Group' dim level) v = refl

-- the first misfit of groups and then of data
abbrev tail_unfit : Level → Block → Option Misfit
tail_unfit level block =
    or_else (groups_unfit (length (out-Level level).fields) (out-Level level).groups (out-Block block).groups)
    (parts_shape (length (out-Level level).fields + length (out-Block block).groups) (out-Block block).parts)

abbrev counts_are : Level → Block → Bool
counts_are level block =
    (length (out-Level level).fields == length (out-Block block).fields) && (length (out-Level level).groups == length (out-Block block).groups)
    && (length (out-Level level).parts == length (out-Block block).parts)

shape_is : (level : Level) (block : Block) → block_shape level block ≡ cond (counts_are level block) (tail_unfit level block) bad_shape
unfolding block_shape levels.out-Level carrier.out
shape_is (Level' name id semantic since block_length fields n groups parts) block =
    let same = sym (items_shown-the_row-Group-0 n groups) in
    let f = length fields == length (out-Block block).fields in
    let p = length parts == length (out-Block block).parts in
    let rest = parts_shape (length fields + length (out-Block block).groups) (out-Block block).parts in
    ap₂ (λ (gs : List Group) (m : Option Misfit). cond (f && (length gs == length (out-Block block).groups) && p) (or_else m rest) bad_shape) same
    (row_is (length fields) _ groups (out-Block block).groups ∙ ap (λ gs. groups_unfit (length fields) gs (out-Block block).groups) same)

pub shape_none : (level : Level) (block : Block) → counts_are level block ≡ false → block_shape level block ≡ bad_shape
shape_none level block h = shape_is level block ∙ ap (λ t. cond t (tail_unfit level block) bad_shape) h

pub shape_all : (level : Level) (block : Block) → counts_are level block ≡ true → block_shape level block ≡ tail_unfit level block
shape_all level block h = shape_is level block ∙ ap (λ t. cond t (tail_unfit level block) bad_shape) h

-- ---- loops

drop_at : {A : Type 0} (xs : List A) (i : ℕ) (x : A) → slice_get xs i ≡ Some x → drop i xs ≡ x ∷ drop (suc i) xs
drop_at [] i x h = absurd cc
drop_at (y ∷ ys) zero x h = ap (λ z. z ∷ ys) (some_is h)
drop_at (y ∷ ys) (suc i) x h = drop_at ys i x h

-- what is left of the groups from number i on, of which the first is counted as k
pub groups_next : (k i : ℕ) (gs : List Group) (vs : List GroupVal) (g : Group) (v : GroupVal) → slice_get gs i ≡ Some g → slice_get vs i ≡ Some v
    → groups_unfit k (drop i gs) (drop i vs) ≡ or_else (misfit_in (way.Part k) (group_shape g v)) (groups_unfit (suc k) (drop (suc i) gs) (drop (suc i) vs))
groups_next k i gs vs g v h w = ap₂ (groups_unfit k) (drop_at gs i g h) (drop_at vs i v w)

pub entries_next : (f : Block → Option Misfit) (i : ℕ) (bs : List Block) (b : Block) → slice_get bs i ≡ Some b
    → each_misfit f i (drop i bs) ≡ or_else (misfit_in (way.Entry i) (f b)) (each_misfit f (suc i) (drop (suc i) bs))
entries_next f i bs b h = ap (each_misfit f i) (drop_at bs i b h)

part_step : (k : ℕ) (v : DataVal) (vs : List DataVal) (t : Bool) → is_gone v ≡ t → parts_shape k (v ∷ vs) ≡ cond t (misfit_in (way.Part k) bad_shape) (parts_shape (suc k) vs)
part_step k dataval.Absent vs t h = ap (λ s. cond s (misfit_in (way.Part k) bad_shape) (parts_shape (suc k) vs)) h
part_step k (dataval.Bytes bytes) vs t h = ap (λ s. cond s (misfit_in (way.Part k) bad_shape) (parts_shape (suc k) vs)) h

pub parts_next : (k i : ℕ) (vs : List DataVal) (v : DataVal) (t : Bool) → slice_get vs i ≡ Some v → is_gone v ≡ t
    → parts_shape k (drop i vs) ≡ cond t (misfit_in (way.Part k) bad_shape) (parts_shape (suc k) (drop (suc i) vs))
parts_next k i vs v t h gone = ap (parts_shape k) (drop_at vs i v h) ∙ part_step k v (drop (suc i) vs) t gone

-- ---- throughout

pub here : (P : Level → Type 0) (level : Level) → Throughout P level → P level
here P (Level' name id semantic since block_length fields n groups parts) h = h.0

row_at : (P : Level → Type 0) (n : _) (row : Row_of-Group n) (i : ℕ) (g : Group) → ThroughoutRow P row → slice_get (items-the_row-Group n row) i ≡ Some g → ThroughoutGroup P g
row_at P n end_of-Group i g h is = absurd cc
row_at P n (more_of-Group g' rest) zero g h is = subst (ThroughoutGroup P) (some_is is) h.0
row_at P n (more_of-Group g' rest) (suc i) g h is = row_at P _ rest i g h.1 is

group_level : (P : Level → Type 0) (g : Group) → ThroughoutGroup P g → Throughout P (out-Group g).level
unfolding groups_of.out-Group carrier.out
group_level P (Group' dim level) h = h

pub below : (P : Level → Type 0) (level : Level) (i : ℕ) (g : Group) → Throughout P level → slice_get (out-Level level).groups i ≡ Some g → Throughout P (out-Group g).level
unfolding levels.out-Level carrier.out
below P (Level' name id semantic since block_length fields n groups parts) i g h is =
    group_level P g (row_at P _ groups i g h.1 (sym (ap (λ gs. slice_get gs i) (items_shown-the_row-Group-0 n groups)) ∙ is))

-- ---- steps

-- the misfit inside a step
under_is : (u next : FirstMisfit) (s : Step) → next ≡ record { code = u.code; path = s ∷ u.path; detail = u.detail } → ◌≡◌ {A = Option Misfit} (Some (misfit_of next)) (misfit_in s (Some (misfit_of u)))
under_is u next s h = ap (λ (x : FirstMisfit). Some (misfit_of x)) h

module _ (k i : ℕ) (gs : List Group) (vs : List GroupVal) (g : Group) (v : GroupVal) (at : slice_get gs i ≡ Some g) (there : slice_get vs i ≡ Some v) where
  pub group_refused : (u next : FirstMisfit) → Some (misfit_of u) ≡ entries_shape (λ entry. block_shape (out-Group g).level entry) (entries_in v)
      → next ≡ record { code = u.code; path = way.Part k ∷ u.path; detail = u.detail } → Some (misfit_of next) ≡ groups_unfit k (drop i gs) (drop i vs)
  group_refused u next h is =
      under_is u next (way.Part k) is
      ∙ ap (λ m. or_else (misfit_in (way.Part k) m) (groups_unfit (suc k) (drop (suc i) gs) (drop (suc i) vs))) (h ∙ sym (group_is g v))
      ∙ sym (groups_next k i gs vs g v at there)

  pub group_passed : (k' : ℕ) → k' ≡ suc k → None ≡ entries_shape (λ entry. block_shape (out-Group g).level entry) (entries_in v)
      → groups_unfit k' (drop (i + 1) gs) (drop (i + 1) vs) ≡ groups_unfit k (drop i gs) (drop i vs)
  group_passed k' is h =
      let on : suc i ≡ i + 1 = omega arith in
      ap₂ (λ n j. groups_unfit n (drop j gs) (drop j vs)) is (sym on)
      ∙ ap (λ m. or_else (misfit_in (way.Part k) m) (groups_unfit (suc k) (drop (suc i) gs) (drop (suc i) vs))) (h ∙ sym (group_is g v))
      ∙ sym (groups_next k i gs vs g v at there)

module _ (f : Block → Option Misfit) (i : ℕ) (bs : List Block) (b : Block) (at : slice_get bs i ≡ Some b) where
  pub entry_refused : (u next : FirstMisfit) → Some (misfit_of u) ≡ f b → next ≡ record { code = u.code; path = way.Entry i ∷ u.path; detail = u.detail } → Some (misfit_of next) ≡ each_misfit f i (drop i bs)
  entry_refused u next h is =
      under_is u next (way.Entry i) is ∙ ap (λ m. or_else (misfit_in (way.Entry i) m) (each_misfit f (suc i) (drop (suc i) bs))) h ∙ sym (entries_next f i bs b at)

  pub entry_passed : None ≡ f b → each_misfit f (i + 1) (drop (i + 1) bs) ≡ each_misfit f i (drop i bs)
  entry_passed h =
      let on : suc i ≡ i + 1 = omega arith in
      ap (λ j. each_misfit f j (drop j bs)) (sym on) ∙ ap (λ m. or_else (misfit_in (way.Entry i) m) (each_misfit f (suc i) (drop (suc i) bs))) h ∙ sym (entries_next f i bs b at)

-- entries that any count can say
pub few_entries : (f : Block → Option Misfit) (bs : List Block) → length bs < 2 ^ 32 → entries_shape f (Some bs) ≡ each_misfit f 0 bs
few_entries f bs h = ap (λ t. cond t (each_misfit f 0 bs) None) (lt-ltb (length bs) (2 ^ 32) h)

module _ (k i : ℕ) (vs : List DataVal) (v : DataVal) (at : slice_get vs i ≡ Some v) where
  pub part_refused : (u next : FirstMisfit) → true ≡ is_gone v → u ≡ record { code = code.Shape; path = []; detail = pos 0 } → next ≡ record { code = u.code; path = way.Part k ∷ u.path; detail = u.detail }
      → Some (misfit_of next) ≡ parts_shape k (drop i vs)
  part_refused u next gone h is =
      under_is u next (way.Part k) is ∙ ap (λ (x : FirstMisfit). misfit_in (way.Part k) (Some (misfit_of x))) h ∙ sym (parts_next k i vs v true at (sym gone))

  pub part_passed : (k' : ℕ) → k' ≡ suc k → false ≡ is_gone v → parts_shape k' (drop (i + 1) vs) ≡ parts_shape k (drop i vs)
  part_passed k' is gone =
      let on : suc i ≡ i + 1 = omega arith in
      ap₂ (λ n j. parts_shape n (drop j vs)) is (sym on) ∙ sym (parts_next k i vs v false at (sym gone))
