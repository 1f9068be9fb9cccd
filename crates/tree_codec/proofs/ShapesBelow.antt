-- What a block of the schema's shape is.
use Rattle.std.proofs.Common.{◌≡◌, ◌<◌, ◌+◌, ◌^◌, ℕ, zero, suc, Bool, true, false, List, [], ◌∷◌, length, Option, Some, None, refl, sym, ap, ap₂, ◌∙◌}
use Rattle.std.specs.Prelude.{◌&&◌, ◌==◌, slice_get}
use Rattle.std.proofs.lemmas.Bool.Decides.{Decides-eqb}
use Rattle.sbe_types.specs.declared.message.Block.{Block, out-Block}
use Rattle.sbe_types.specs.declared.message.DataVal.{DataVal}
use Rattle.sbe_types.specs.declared.message.DataVal.TheVariants as dataval
use Rattle.sbe_types.specs.declared.message.GroupVal.{GroupVal}
use Rattle.sbe_types.specs.declared.path.Step.{Step}
use Rattle.sbe_types.specs.declared.path.Step.TheVariants as way
use Rattle.sbe_types.specs.declared.schema.Group.{Group, out-Group}
use Rattle.sbe_types.specs.declared.schema.Level.{Level, out-Level}
use Rattle.sbe_wire.specs.Canonical.{entries_in}
use Rattle.sbe_wire.specs.Misfit.{Misfit, or_else, misfit_in, bad_shape, parts_shape, each_misfit, entries_shape, block_shape, group_shape}
use Rattle.tree_codec.specs.Shapes.{groups_unfit, is_gone}
use Rattle.tree_codec.proofs.LevelShapes.{shape_none, shape_all, group_is, few_entries}

some_is : {A : Type 0} {x y : A} → ◌≡◌ {A = Option A} (Some x) (Some y) → x ≡ y
some_is h = cc

-- as many parts as the level has, no misfit in the groups, and no data that is absent
pub record Shaped (level : Level) (block : Block) : Type 0 where
  pub fields : length (out-Level level).fields ≡ length (out-Block block).fields
  pub groups : length (out-Level level).groups ≡ length (out-Block block).groups
  pub parts : length (out-Level level).parts ≡ length (out-Block block).parts
  pub unfit : groups_unfit (length (out-Level level).fields) (out-Level level).groups (out-Block block).groups ≡ None
  pub present : parts_shape (length (out-Level level).fields + length (out-Block block).groups) (out-Block block).parts ≡ None

pub none_first : (m n : Option Misfit) → or_else m n ≡ None → m ≡ None
none_first None n h = refl
none_first (Some x) n h = absurd cc

pub none_second : (m n : Option Misfit) → or_else m n ≡ None → n ≡ None
none_second None n h = h
none_second (Some x) n h = absurd cc

pub none_in : (s : Step) (m : Option Misfit) → misfit_in s m ≡ None → m ≡ None
none_in s None h = refl
none_in s (Some x) h = absurd cc

three : (a b c : Bool) → (a && b && c) ≡ true → (a ≡ true) × (b ≡ true) × (c ≡ true)
three true true true h = (refl, refl, refl)
three true true false h = absurd cc
three true false true h = absurd cc
three true false false h = absurd cc
three false true true h = absurd cc
three false true false h = absurd cc
three false false true h = absurd cc
three false false false h = absurd cc

clash : {A : Type 0} → bad_shape ≡ None → A
clash h = absurd cc

abbrev counts_are : Level → Block → Bool
counts_are level block =
    (length (out-Level level).fields == length (out-Block block).fields) && (length (out-Level level).groups == length (out-Block block).groups)
    && (length (out-Level level).parts == length (out-Block block).parts)

shaped_by : (level : Level) (block : Block) (t : Bool) → counts_are level block ≡ t → block_shape level block ≡ None → Shaped level block
shaped_by level block true e h =
    let both = three (length (out-Level level).fields == length (out-Block block).fields) (length (out-Level level).groups == length (out-Block block).groups)
    (length (out-Level level).parts == length (out-Block block).parts) e in
    let parts : Option Misfit = parts_shape (length (out-Level level).fields + length (out-Block block).groups) (out-Block block).parts in
    let unfit : Option Misfit = groups_unfit (length (out-Level level).fields) (out-Level level).groups (out-Block block).groups in
    let none : or_else unfit parts ≡ None = sym (shape_all level block e) ∙ h in
    record {
      fields = (Decides-eqb (length (out-Level level).fields) (length (out-Block block).fields)).0 both.0;
      groups = (Decides-eqb (length (out-Level level).groups) (length (out-Block block).groups)).0 both.1;
      parts = (Decides-eqb (length (out-Level level).parts) (length (out-Block block).parts)).0 both.2;
      unfit = none_first unfit parts none;
      present = none_second unfit parts none;
    }
shaped_by level block false e h = clash (sym (shape_none level block e) ∙ h)

pub shaped : (level : Level) (block : Block) → block_shape level block ≡ None → Shaped level block
shaped level block h = shaped_by level block (counts_are level block) refl h

groups_none : (k : ℕ) (gs : List Group) (vs : List GroupVal) (i : ℕ) (g : Group) (v : GroupVal) → groups_unfit k gs vs ≡ None → slice_get gs i ≡ Some g → slice_get vs i ≡ Some v → group_shape g v ≡ None
groups_none k [] vs i g v h at there = absurd cc
groups_none k (x ∷ gs) [] i g v h at there = absurd cc
groups_none k (x ∷ gs) (y ∷ vs) zero g v h at there =
    sym (ap₂ group_shape (some_is at) (some_is there)) ∙ none_in (way.Part k) (group_shape x y) (none_first (misfit_in (way.Part k) (group_shape x y)) (groups_unfit (suc k) gs vs) h)
groups_none k (x ∷ gs) (y ∷ vs) (suc i) g v h at there =
    groups_none (suc k) gs vs i g v (none_second (misfit_in (way.Part k) (group_shape x y)) (groups_unfit (suc k) gs vs) h) at there

pub group_shaped : (level : Level) (block : Block) (i : ℕ) (g : Group) (v : GroupVal) → block_shape level block ≡ None → slice_get (out-Level level).groups i ≡ Some g → slice_get (out-Block block).groups i ≡ Some v → group_shape g v ≡ None
group_shaped level block i g v h at there = groups_none (length (out-Level level).fields) (out-Level level).groups (out-Block block).groups i g v (shaped level block h).unfit at there

pub entry_shaped : (f : Block → Option Misfit) (k : ℕ) (bs : List Block) (i : ℕ) (b : Block) → each_misfit f k bs ≡ None → slice_get bs i ≡ Some b → f b ≡ None
entry_shaped f k [] i b h at = absurd cc
entry_shaped f k (x ∷ bs) zero b h at = sym (ap f (some_is at)) ∙ none_in (way.Entry k) (f x) (none_first (misfit_in (way.Entry k) (f x)) (each_misfit f (suc k) bs) h)
entry_shaped f k (x ∷ bs) (suc i) b h at = entry_shaped f (suc k) bs i b (none_second (misfit_in (way.Entry k) (f x)) (each_misfit f (suc k) bs) h) at

pub entries_shaped : (g : Group) (v : GroupVal) (entries : List Block) → group_shape g v ≡ None → entries_in v ≡ Some entries → length entries < 2 ^ 32 → each_misfit (λ entry. block_shape (out-Group g).level entry) 0 entries ≡ None
entries_shaped g v entries h is few =
    let shape : Block → Option Misfit = λ entry. block_shape (out-Group g).level entry in
    sym (few_entries shape entries few) ∙ sym (ap (entries_shape shape) is) ∙ sym (group_is g v) ∙ h

parts_none : (k : ℕ) (vs : List DataVal) (i : ℕ) (v : DataVal) → parts_shape k vs ≡ None → slice_get vs i ≡ Some v → is_gone v ≡ false
parts_none k [] i v h at = absurd cc
parts_none k (dataval.Absent ∷ vs) i v h at = absurd cc
parts_none k (dataval.Bytes b ∷ vs) zero v h at = sym (ap is_gone (some_is at))
parts_none k (dataval.Bytes b ∷ vs) (suc i) v h at = parts_none (suc k) vs i v h at

-- no data part of a block of this shape is absent
pub part_there : (level : Level) (block : Block) (i : ℕ) (v : DataVal) → block_shape level block ≡ None → slice_get (out-Block block).parts i ≡ Some v → is_gone v ≡ false
part_there level block i v h at = parts_none (length (out-Level level).fields + length (out-Block block).groups) (out-Block block).parts i v (shaped level block h).present at
