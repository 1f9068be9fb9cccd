-- Where the fields of levels end.
use Rattle.std.proofs.Common.{◌≡◌, ◌<◌, length, get_or, refl, ℕ, zero, suc, List, [], ◌∷◌, ◌++◌, Option, Some, None, sym, subst}
use Rattle.std.specs.Prelude.{slice_get}
use Rattle.std.specs.List.{AllByRecursion}
use Rattle.std.proofs.lemmas.Option.{slice_get_read}
use denote.Hole.Carrier as carrier
use Rattle.sbe_types.specs.declared.kind.Member.{Member}
use Rattle.sbe_types.specs.declared.schema.Level as levels
use Rattle.sbe_types.specs.declared.schema.Group as groups_of
use Rattle.sbe_types.specs.declared.schema.Group.{Group, Group', out-Group}
use Rattle.sbe_types.specs.declared.schema.Level.{Level, Level', out-Level, Row_of-Group, end_of-Group, more_of-Group, items-the_row-Group, items_shown-the_row-Group-0}
use Rattle.sbe_types.specs.declared.schema.WireSchema.{WireSchema}
use Rattle.schema_facts.specs.Levels.{Node, nodes, nodes_below, nodes_of, nodes_from}
use Rattle.schema_facts.specs.Measured.{AreNarrowFields, AreMeasured, IsMeasured}
use Rattle.version_project.specs.Narrow.{IsNarrowLevel, AreNarrowGroups, IsNarrowGroup}
use Rattle.version_project.proofs.Items.{some_is}

rows_narrow : {n : _} (row : Row_of-Group n) → AreNarrowGroups row → AllByRecursion IsNarrowGroup (items-the_row-Group _ row)
unfolding AreNarrowGroups
rows_narrow end_of-Group h = tt
rows_narrow (more_of-Group g gs) h = (h.0, rows_narrow gs h.1)

pub fields_narrow : (level : Level) → IsNarrowLevel level → AreNarrowFields 0 (out-Level level).fields
unfolding IsNarrowLevel levels.out-Level carrier.out
fields_narrow (Level' name id semantic since block_length fs n gs ps) h = h.0

pub groups_narrow : (level : Level) → IsNarrowLevel level → AllByRecursion IsNarrowGroup (out-Level level).groups
unfolding IsNarrowLevel levels.out-Level carrier.out
groups_narrow (Level' name id semantic since block_length fs n gs ps) h = subst (AllByRecursion IsNarrowGroup) (sym (items_shown-the_row-Group-0 n gs)) (rows_narrow gs h.1)

pub level_narrow : (g : Group) → IsNarrowGroup g → IsNarrowLevel (out-Group g).level
unfolding IsNarrowGroup groups_of.out-Group carrier.out
level_narrow (Group' dim level) h = h

-- one of all
pub narrow_at : {X : Type 0} (P : X → Type 0) (xs : List X) (i : ℕ) (x : X) → AllByRecursion P xs → slice_get xs i ≡ Some x → P x
narrow_at P [] i x all at = cc
narrow_at P (y ∷ ys) zero x all at = subst P (some_is at) all.0
narrow_at P (y ∷ ys) (suc i) x all at = narrow_at P ys i x all.1 at

pub narrow_item : {X : Type 0} (P : X → Type 0) (xs zs : List X) (i : ℕ) (x : X) → AllByRecursion P xs → zs ≡ xs → i < length zs → x ≡ get_or zs i x → P x
narrow_item P xs zs i x all same h is =
    let here : i < length xs = subst (λ zs. i < length zs) same h in
    narrow_at P xs i x all (slice_get_read xs (length xs) i x refl here (subst (λ zs. x ≡ get_or zs i x) same is))

-- ---- of a measured schema

measured_front : (xs ys : List Node) → AreMeasured (xs ++ ys) → AreMeasured xs
measured_front [] ys h = tt
measured_front (x ∷ xs) ys h = (h.0, measured_front xs ys h.1)

measured_rest : (xs ys : List Node) → AreMeasured (xs ++ ys) → AreMeasured ys
measured_rest [] ys h = h
measured_rest (x ∷ xs) ys h = measured_rest xs ys h.1

mutual
  unfolding IsNarrowLevel AreNarrowGroups IsNarrowGroup nodes nodes_below nodes_of levels.out-Level carrier.out

  level_is : (t : ℕ) (dim : Option (List Member)) (level : Level) → AreMeasured (nodes t dim level) → IsNarrowLevel level
  level_is t dim (Level' name id semantic since block_length fs n gs ps) h = (h.0.fields, groups_are t gs h.1)

  groups_are : (t : ℕ) {n : _} (gs : Row_of-Group n) → AreMeasured (nodes_below t gs) → AreNarrowGroups gs
  groups_are t end_of-Group h = tt
  groups_are t (more_of-Group g gs) h = (group_is t g (measured_front (nodes_of t g) (nodes_below t gs) h), groups_are t gs (measured_rest (nodes_of t g) (nodes_below t gs) h))

  group_is : (t : ℕ) (g : Group) → AreMeasured (nodes_of t g) → IsNarrowGroup g
  group_is t (Group' dim level) h = level_is t (Some dim) level h

levels_are : (t : ℕ) (all : List Level) → AreMeasured (nodes_from t all) → AllByRecursion IsNarrowLevel all
levels_are t [] h = tt
levels_are t (level ∷ rest) h =
    (level_is t None level (measured_front (nodes t None level) (nodes_from (suc t) rest) h), levels_are (suc t) rest (measured_rest (nodes t None level) (nodes_from (suc t) rest) h))

pub messages_narrow : (schema : WireSchema) → IsMeasured schema → AllByRecursion IsNarrowLevel schema.messages
messages_narrow schema h = levels_are 0 schema.messages h.levels
