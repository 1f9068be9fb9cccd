-- A level that fits is of the schema's shape.
use Rattle.std.proofs.Common.{◌≡◌, ℕ, suc, ◌+◌, Bool, true, false, cond, List, [], ◌∷◌, length, Option, Some, None, refl, ap, ◌∙◌}
use Rattle.std.specs.Prelude.{◌&&◌, ◌==◌, ◌^◌, nat_lt}
use Rattle.std.proofs.lemmas.Bool.Decides.{Decides-eqb}
use Rattle.sbe_types.specs.declared.kind.Order.{Order}
use Rattle.sbe_types.specs.declared.path.Step.TheVariants as way
use Rattle.sbe_types.specs.declared.schema.Field.{Field}
use Rattle.sbe_types.specs.declared.schema.DataField.{DataField}
use Rattle.sbe_types.specs.declared.schema.Group.{Group, Group'}
use Rattle.sbe_types.specs.declared.schema.Level.{Level, Level', Row_of-Group, end_of-Group, more_of-Group, items-the_row-Group}
use Rattle.sbe_types.specs.declared.message.Value.{Value}
use Rattle.sbe_types.specs.declared.message.DataVal.{DataVal}
use Rattle.sbe_types.specs.declared.message.Block.{Block, out-Block}
use Rattle.sbe_types.specs.declared.message.GroupVal.{GroupVal, items_hidden-the_row-Block-1}
use Rattle.sbe_wire.specs.Canonical.{entries_in}
use Rattle.sbe_wire.specs.Fits.{FieldsFit, PartsFit, EachFits, BlockFits, GroupsFit, GroupFits}
use Rattle.sbe_wire.specs.Misfit.{Misfit, or_else, misfit_in, bad_shape, parts_shape, each_misfit, entries_shape, block_shape, groups_shape, group_shape}
use Rattle.writing_laws.proofs.Refusals.{none_or}

fields_many : (order : Order) (fs : List Field) (vs : List Value) → FieldsFit order fs vs → length fs ≡ length vs
fields_many order [] [] h = refl
fields_many order [] (v ∷ vs) h = absurd h
fields_many order (f ∷ fs) [] h = absurd h
fields_many order (f ∷ fs) (v ∷ vs) h = ap suc (fields_many order fs vs h.1)

parts_many : (ps : List DataField) (vs : List DataVal) → PartsFit ps vs → length ps ≡ length vs
parts_many [] [] h = refl
parts_many [] (v ∷ vs) h = absurd h
parts_many (p ∷ ps) [] h = absurd h
parts_many (p ∷ ps) (v ∷ vs) h = ap suc (parts_many ps vs h.1)

groups_many : (order : Order) {n : _} (groups : Row_of-Group n) (vs : List GroupVal) → GroupsFit order groups vs → length (items-the_row-Group _ groups) ≡ length vs
groups_many order end_of-Group [] h = refl
groups_many order end_of-Group (v ∷ vs) h = absurd h
groups_many order (more_of-Group g rest) [] h = absurd h
groups_many order (more_of-Group g rest) (v ∷ vs) h = ap suc (groups_many order rest vs h.1)

parts_there : (i : ℕ) (ps : List DataField) (vs : List DataVal) → PartsFit ps vs → parts_shape i vs ≡ None
parts_there i [] [] h = refl
parts_there i [] (v ∷ vs) h = absurd h
parts_there i (p ∷ ps) [] h = absurd h
parts_there i (p ∷ ps) (v ∷ vs) h = ap (λ v. parts_shape i (v ∷ vs)) h.0.1 ∙ parts_there (suc i) ps vs h.1

each_none : {X : Type 0} (P : X → Type 0) (f : X → Option Misfit) → ((x : X) → P x → f x ≡ None) → (i : ℕ) (xs : List X) → EachFits P xs → each_misfit f i xs ≡ None
each_none P f none i [] h = refl
each_none P f none i (x ∷ xs) h = none_or (misfit_in (way.Entry i) (f x)) (each_misfit f (suc i) xs) (ap (misfit_in (way.Entry i)) (none x h.0)) (each_none P f none (suc i) xs h.1)

either_none : (t : Bool) (m : Option Misfit) → m ≡ None → cond t m None ≡ None
either_none true m h = h
either_none false m h = refl

-- three numbers of parts that are right
shape_by : (a b c d e f : ℕ) (m : Option Misfit) → a ≡ b → c ≡ d → e ≡ f → m ≡ None → cond ((a == b) && (c == d) && (e == f)) m bad_shape ≡ None
shape_by a b c d e f m h k l none =
    ap (λ t. cond (t && (c == d) && (e == f)) m bad_shape) ((Decides-eqb a b).1 h)
    ∙ ap (λ t. cond (true && t && (e == f)) m bad_shape) ((Decides-eqb c d).1 k)
    ∙ ap (λ t. cond (true && true && t) m bad_shape) ((Decides-eqb e f).1 l)
    ∙ none

mutual
  unfolding block_shape

  pub level_shape : (order : Order) (level : Level) (block : Block) → BlockFits order level block → block_shape level block ≡ None
  level_shape order (Level' name id semantic since block_length fields n groups parts) block h =
      shape_by (length fields) (length (out-Block block).fields) (length (items-the_row-Group _ groups)) (length (out-Block block).groups) (length parts) (length (out-Block block).parts)
      (or_else (groups_shape (length fields) groups (out-Block block).groups) (parts_shape (length fields + length (out-Block block).groups) (out-Block block).parts))
      (fields_many order fields (out-Block block).fields h.0) (groups_many order groups (out-Block block).groups h.1) (parts_many parts (out-Block block).parts h.2)
      (none_or (groups_shape (length fields) groups (out-Block block).groups) (parts_shape (length fields + length (out-Block block).groups) (out-Block block).parts)
      (groups_there order (length fields) groups (out-Block block).groups h.1) (parts_there (length fields + length (out-Block block).groups) parts (out-Block block).parts h.2))

  groups_there : (order : Order) (i : ℕ) {n : _} (groups : Row_of-Group n) (vs : List GroupVal) → GroupsFit order groups vs → groups_shape i groups vs ≡ None
  groups_there order i end_of-Group vs h = refl
  groups_there order i (more_of-Group g rest) [] h = refl
  groups_there order i (more_of-Group g rest) (v ∷ vs) h =
      none_or (misfit_in (way.Part i) (group_shape g v)) (groups_shape (suc i) rest vs) (ap (misfit_in (way.Part i)) (group_there order g v h.0)) (groups_there order (suc i) rest vs h.1)

  group_there : (order : Order) (g : Group) (v : GroupVal) → GroupFits order g v → group_shape g v ≡ None
  group_there order (Group' dim level) v h =
      let shape : Block → Option Misfit = λ entry. block_shape level entry in
      let same : entries_in v ≡ Some h.0 = ap entries_in h.1 ∙ ap Some (items_hidden-the_row-Block-1 h.0) in
      ap (entries_shape shape) same
      ∙ either_none (nat_lt (length h.0) (2 ^ 32)) (each_misfit shape 0 h.0)
      (each_none (λ entry. BlockFits order level entry) shape (λ entry fits. level_shape order level entry fits) 0 h.0 h.3)
