-- A misfit of a message's shape is not a lack of room, and its path leads to a part. A block without one has the parts of its level.
use Rattle.std.proofs.Common.{◌≡◌, ℕ, suc, ◌+◌, Bool, true, false, cond, List, [], ◌∷◌, length, Option, Some, None, pos, refl, sym, ap, ◌∙◌, subst, arith}
use Rattle.std.specs.Prelude.{◌&&◌, ◌==◌, ◌^◌, ◌<◌, nat_lt, map}
use Rattle.std.proofs.lemmas.Bool.Decides.{Decides-eqb, nat_tests}
use denote.Hole.Carrier as carrier
use Rattle.sbe_types.specs.declared.schema.Group as groups_of
use Rattle.sbe_types.specs.declared.schema.Level as levels
use Rattle.sbe_types.specs.declared.path.Step.TheVariants as way
use Rattle.sbe_types.specs.declared.schema.DataField.{DataField}
use Rattle.sbe_types.specs.declared.schema.Group.{Group, Group', out-Group}
use Rattle.sbe_types.specs.declared.schema.Level.{Level, Level', out-Level, Row_of-Group, end_of-Group, more_of-Group, items-the_row-Group, items_shown-the_row-Group-0}
use Rattle.sbe_types.specs.declared.message.DataVal.{DataVal}
use Rattle.sbe_types.specs.declared.message.DataVal.TheVariants as dataval
use Rattle.sbe_types.specs.declared.message.Block.{Block, out-Block}
use Rattle.sbe_types.specs.declared.message.GroupVal.{GroupVal}
use Rattle.sbe_wire.specs.declared.codes.NCode.TheVariants as code
use Rattle.sbe_wire.specs.Canonical.{entries_in}
use Rattle.sbe_wire.specs.Misfit.{Misfit, misfit_in, or_else, bad_shape, parts_shape, each_misfit, entries_shape, block_shape, groups_shape, group_shape}
use Rattle.layout_tables.specs.Paths.{Inside, in_level, in_group, in_nothing, group_part, data_part, level_parts, parts_inside}
use Rattle.writing_laws.proofs.Refusals.{some_none}
use Rattle.misfit_laws.proofs.Leading.{part_leads, entry_leads, Behind, first_is, next_are, groups_stand, data_stand}
use Rattle.misfit_laws.proofs.ValueWays.{LeadsOn, told_here, told_or, told_step}

-- ---- the parts of a block

pub bad : (inside : Inside) → LeadsOn inside bad_shape
bad inside = told_here inside code.Shape (pos 0) refl

parts_told : (inside : Inside) (i : ℕ) (ps : List DataField) (vs : List DataVal) → length ps ≡ length vs → Behind (parts_inside inside) i (map data_part ps) → LeadsOn inside (parts_shape i vs)
parts_told inside i ps [] many stand = tt
parts_told inside i [] (v ∷ vs) many stand = absurd (omega (arith, many))
parts_told inside i (p ∷ ps) (dataval.Absent ∷ vs) many stand =
    told_step inside (way.Part i) in_nothing bad_shape (part_leads inside i (data_part p) (first_is (parts_inside inside) i (data_part p) (map data_part ps) stand)) (bad in_nothing)
parts_told inside i (p ∷ ps) (dataval.Bytes bytes ∷ vs) many stand = parts_told inside (suc i) ps vs (omega (arith, many)) (next_are (parts_inside inside) i (data_part p) (map data_part ps) stand)

each_told : (level : Level) (entry : Block → Option Misfit) → ((block : Block) → LeadsOn (in_level level) (entry block)) → (i : ℕ) (blocks : List Block) → LeadsOn (in_group level) (each_misfit entry i blocks)
each_told level entry told i [] = tt
each_told level entry told i (block ∷ blocks) =
    told_or (in_group level) (misfit_in (way.Entry i) (entry block)) (each_misfit entry (suc i) blocks)
    (told_step (in_group level) (way.Entry i) (in_level level) (entry block) (entry_leads level i) (told block))
    (each_told level entry told (suc i) blocks)

told_where : (inside : Inside) (t : Bool) (m : Option Misfit) → LeadsOn inside m → LeadsOn inside (cond t m None)
told_where inside true m h = h
told_where inside false m h = tt

entries_told : (level : Level) (entry : Block → Option Misfit) → ((block : Block) → LeadsOn (in_level level) (entry block)) → (blocks : Option (List Block)) → LeadsOn (in_group level) (entries_shape entry blocks)
entries_told level entry told None = bad (in_group level)
entries_told level entry told (Some blocks) = told_where (in_group level) (nat_lt (length blocks) (2 ^ 32)) (each_misfit entry 0 blocks) (each_told level entry told 0 blocks)

-- ---- three numbers of parts

told_shape : (inside : Inside) (a b c : Bool) (m : Option Misfit) → (b ≡ true → c ≡ true → LeadsOn inside m) → LeadsOn inside (cond (a && b && c) m bad_shape)
told_shape inside true true true m h = h refl refl
told_shape inside false b c m h = bad inside
told_shape inside true false c m h = bad inside
told_shape inside true true false m h = bad inside

-- ---- levels

-- the data of a level stand after so many fields and groups
pub data_behind : (level : Level) (groups : ℕ) → length (out-Level level).groups ≡ groups →
    Behind (level_parts level) (length (out-Level level).fields + groups) (map data_part (out-Level level).parts)
data_behind level groups many = subst (λ m. Behind (level_parts level) (length (out-Level level).fields + m) (map data_part (out-Level level).parts)) many (data_stand level)

mutual
  unfolding block_shape levels.out-Level groups_of.out-Group carrier.out

  pub block_told : (level : Level) (block : Block) → LeadsOn (in_level level) (block_shape level block)
  block_told (Level' name id semantic since block_length fields n groups parts) block =
      let level = Level' name id semantic since block_length fields n groups parts in
      let gs = (out-Block block).groups in
      let ps = (out-Block block).parts in
      let rest = or_else (groups_shape (length fields) groups gs) (parts_shape (length fields + length gs) ps) in
      let same = items_shown-the_row-Group-0 n groups in
      told_shape (in_level level) (length fields == length (out-Block block).fields) (length (items-the_row-Group _ groups) == length gs) (length parts == length ps) rest
      (λ as_groups as_parts.
      told_or (in_level level) (groups_shape (length fields) groups gs) (parts_shape (length fields + length gs) ps)
      (groups_told (in_level level) (length fields) groups gs (subst (λ row. Behind (level_parts level) (length fields) (map group_part row)) same (groups_stand level)))
      (parts_told (in_level level) (length fields + length gs) parts ps ((Decides-eqb (length parts) (length ps)).0 as_parts)
      (data_behind level (length gs) (ap length same ∙ (Decides-eqb (length (items-the_row-Group _ groups)) (length gs)).0 as_groups))))

  groups_told : (inside : Inside) (i : ℕ) {n : _} (row : Row_of-Group n) (vs : List GroupVal) → Behind (parts_inside inside) i (map group_part (items-the_row-Group _ row)) → LeadsOn inside (groups_shape i row vs)
  groups_told inside i end_of-Group vs stand = tt
  groups_told inside i (more_of-Group g rest) [] stand = tt
  groups_told inside i (more_of-Group g rest) (v ∷ vs) stand =
      let others = map group_part (items-the_row-Group _ rest) in
      told_or inside (misfit_in (way.Part i) (group_shape g v)) (groups_shape (suc i) rest vs)
      (told_step inside (way.Part i) (in_group (out-Group g).level) (group_shape g v) (part_leads inside i (group_part g) (first_is (parts_inside inside) i (group_part g) others stand)) (group_told g v))
      (groups_told inside (suc i) rest vs (next_are (parts_inside inside) i (group_part g) others stand))

  group_told : (g : Group) (v : GroupVal) → LeadsOn (in_group (out-Group g).level) (group_shape g v)
  group_told (Group' dim level) v = entries_told level (λ block. block_shape level block) (λ block. block_told level block) (entries_in v)

-- ---- blocks without a misfit of their shape

pub shape_of : (a b c d e f : ℕ) (m : Option Misfit) → cond ((a == b) && (c == d) && (e == f)) m bad_shape ≡ None → (c ≡ d) × (m ≡ None)
shape_of a b c d e f m h = by (a == b) (c == d) (e == f) refl h
  where
    by : (t u v : Bool) → (c == d) ≡ u → cond (t && u && v) m bad_shape ≡ None → (c ≡ d) × (m ≡ None)
    by true true true y k = ((Decides-eqb c d).0 y, k)
    by false u v y k = absurd (some_none k)
    by true false v y k = absurd (some_none k)
    by true true false y k = absurd (some_none k)

-- entries that are looked at
pub looked_at : (n : ℕ) (m : Option Misfit) → n < 2 ^ 32 → cond (nat_lt n (2 ^ 32)) m None ≡ None → m ≡ None
looked_at n m few h = let small : nat_lt n (2 ^ 32) ≡ true = grind (arith, nat_tests) in sym (ap (λ t. cond t m None) small) ∙ h
