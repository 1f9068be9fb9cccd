-- The parts of new that are effective by old's version are those that old has, by their names.
use Rattle.std.proofs.Common.{◌≡◌, ℕ, Bool, true, false, cond, List, [], ◌∷◌, map, refl, sym, ap, ◌∙◌}
use Rattle.sbe_types.specs.declared.schema.Field.{Field}
use Rattle.sbe_types.specs.declared.schema.DataField.{DataField}
use Rattle.sbe_types.specs.declared.schema.Group.{Group, Group'}
use Rattle.sbe_types.specs.declared.schema.Level.{Level, Level', Row_of-Group, end_of-Group, more_of-Group}
use Rattle.sbe_types.specs.Places.{end_past}
use Rattle.version_laws.specs.Differ.{is_old, group_name, group_since}
use Rattle.version_laws.proofs.Stands.{Lists, FieldsStand, PartsStand, LevelStands, GroupsStand, GroupStands}
use Rattle.version_laws.specs.PartNames.{known_names, group_names, known_group_names, SameNames, SameNamesBelow, SameNamesIn}
use Rattle.version_laws.proofs.BlockMoves.{taken, passed, take_it, pass_it, by_bool}

names_step : (n : List ℕ) (t : Bool) (x y : List (List ℕ)) → t ≡ true → x ≡ y → cond t (n ∷ x) x ≡ n ∷ y
names_step n t x y e h = ap (λ t. cond t (n ∷ x) x) e ∙ ap (λ x. n ∷ x) h

names_pass : (n : List ℕ) (t : Bool) (x y : List (List ℕ)) → t ≡ false → x ≡ y → cond t (n ∷ x) x ≡ y
names_pass n t x y e h = ap (λ t. cond t (n ∷ x) x) e ∙ h

module _ (R : Lists) (version : ℕ) where
  field_names : (e : ℕ) (olds : List Field) (d : ℕ) (news : List Field) → FieldsStand R version e olds d news → known_names (λ (f : Field). is_old version f.since) (λ (f : Field). f.name) news ≡ map (λ (f : Field). f.name) olds
  field_names e [] d [] h = refl
  field_names e (f ∷ fs) d [] h = absurd h
  field_names e [] d (g ∷ gs) h =
      by_bool _ (is_old version g.since) (λ o. absurd (taken _ _ _ o h)) (λ o. names_pass _ _ _ _ o (field_names e [] (end_past d g.offset g.kind) gs (passed _ _ _ o h)))
  field_names e (f ∷ fs) d (g ∷ gs) h =
      by_bool _ (is_old version g.since)
      (λ o. let k = taken _ _ _ o h in
      names_step _ _ _ _ o (field_names (end_past e f.offset f.kind) fs (end_past d g.offset g.kind) gs k.1) ∙ ap (λ n. n ∷ map (λ (f : Field). f.name) fs) (sym k.0.name))
      (λ o. names_pass _ _ _ _ o (field_names e (f ∷ fs) (end_past d g.offset g.kind) gs (passed _ _ _ o h)))

  part_names : (olds news : List DataField) → PartsStand version olds news → known_names (λ (p : DataField). is_old version p.since) (λ (p : DataField). p.name) news ≡ map (λ (p : DataField). p.name) olds
  part_names [] [] h = refl
  part_names (f ∷ fs) [] h = absurd h
  part_names [] (g ∷ gs) h =
      by_bool _ (is_old version g.since) (λ o. absurd (taken _ _ _ o h)) (λ o. names_pass _ _ _ _ o (part_names [] gs (passed _ _ _ o h)))
  part_names (f ∷ fs) (g ∷ gs) h =
      by_bool _ (is_old version g.since)
      (λ o. let k = taken _ _ _ o h in
      names_step _ _ _ _ o (part_names fs gs k.1) ∙ ap (λ n. n ∷ map (λ (p : DataField). p.name) fs) (sym k.0.name))
      (λ o. names_pass _ _ _ _ o (part_names (f ∷ fs) gs (passed _ _ _ o h)))

  group_name_is : (f g : Group) → GroupStands R version f g → group_name f ≡ group_name g
  group_name_is (Group' od old) (Group' dim level) h = h.3

  names_of_groups : {n : _} (olds : Row_of-Group n) {k : _} (news : Row_of-Group k) → GroupsStand R version olds news → known_group_names version news ≡ group_names olds
  names_of_groups end_of-Group end_of-Group h = refl
  names_of_groups (more_of-Group f fs) end_of-Group h = absurd h
  names_of_groups end_of-Group (more_of-Group g gs) h =
      by_bool _ (is_old version (group_since g)) (λ o. absurd (taken _ _ _ o h)) (λ o. names_pass _ _ _ _ o (names_of_groups end_of-Group gs (passed _ _ _ o h)))
  names_of_groups (more_of-Group f fs) (more_of-Group g gs) h =
      by_bool _ (is_old version (group_since g))
      (λ o. let k = taken _ _ _ o h in
      names_step _ _ _ _ o (names_of_groups fs gs k.1) ∙ ap (λ n. n ∷ group_names fs) (sym (group_name_is f g k.0)))
      (λ o. names_pass _ _ _ _ o (names_of_groups (more_of-Group f fs) gs (passed _ _ _ o h)))

  mutual
    pub same_names : (old level : Level) → LevelStands R version old level → SameNames version old level
    same_names (Level' _ _ _ _ _ fs _ os ps) (Level' _ _ _ _ _ gs _ ns qs) h =
        (field_names 0 fs 0 gs h.0, names_of_groups os ns h.1, part_names ps qs h.2, names_below os ns h.1)

    names_below : {n : _} (olds : Row_of-Group n) {k : _} (news : Row_of-Group k) → GroupsStand R version olds news → SameNamesBelow version olds news
    names_below end_of-Group end_of-Group h = tt
    names_below (more_of-Group f fs) end_of-Group h = absurd h
    names_below end_of-Group (more_of-Group g gs) h = by_bool _ (is_old version (group_since g)) (λ o. absurd (taken _ _ _ o h)) (λ o. names_below end_of-Group gs (passed _ _ _ o h))
    names_below (more_of-Group f fs) (more_of-Group g gs) h =
        by_bool _ (is_old version (group_since g))
        (λ o. let k = taken _ _ _ o h in take_it _ _ _ o (names_in f g k.0, names_below fs gs k.1))
        (λ o. pass_it _ _ _ o (names_below (more_of-Group f fs) gs (passed _ _ _ o h)))

    names_in : (f g : Group) → GroupStands R version f g → SameNamesIn version f g
    names_in (Group' od old) (Group' dim level) h = same_names old level h.2
