-- The parts of a level, passed one by one.
use Rattle.std.proofs.Common.{◌≡◌, ℕ, zero, suc, ◌+◌, ◌<◌, ◌≤◌, Bool, true, false, List, [], ◌∷◌, ◌++◌, Option, Some, None, Result, Ok, Err, length, get_or, drop, refl, sym, ap, subst, ◌∙◌, arith}
use Rattle.std.specs.Prelude.{IfOk}
use Rattle.std.specs.List.{All}
use Rattle.std.proofs.lemmas.List.{drop_more, reverse-append}
use Rattle.sbe_types.specs.declared.schema.Field.{Field}
use Rattle.sbe_types.specs.declared.schema.DataField.{DataField}
use Rattle.sbe_types.specs.declared.schema.Group.{Group, out-Group}
use Rattle.sbe_types.specs.declared.schema.Level.{Level, out-Level}
use Rattle.reference_graph.specs.Expansion.{Structure}
use Rattle.bridge_rules.specs.Table.{rule_of, data_rule}
use Rattle.bridge_rules.proofs.BoolLemmas.{if_true, if_false}
use Rattle.bridge_terms.specs.Plans.{is_in}
use Rattle.bridge_plan.specs.Mappings.{Mapping, datatype_of}
use Rattle.bridge_plan.specs.Covers.{is_covered, or_path, inside, group_by, fields_uncovered, data_uncovered, group_uncovered, group_tag, uncovered}
use Rattle.bridge_cover.specs.declared.level.LevelMap.{LevelMap}
use Rattle.bridge_cover.specs.Parts.{entries_of, groups_left, ids_of, is_group, outermost_first, Passes, PassesFields, Sees}
use Rattle.bridge_cover.proofs.Passed.{field_listed, listed_as, none_listed}
use Rattle.bridge_cover.proofs.Groups.{group_is, level_listed}

-- ---- lists

next_of : {X : Type 0} (xs : List X) (i : ℕ) (x : X) → i < length xs → x ≡ get_or xs i x → drop i xs ≡ x ∷ drop (i + 1) xs
next_of xs i x h is = drop_more xs i x h ∙ ap (λ y. y ∷ drop (i + 1) xs) (sym is)

none_after : {X : Type 0} (xs : List X) (i : ℕ) → length xs ≤ i → drop i xs ≡ []
none_after [] zero h = refl
none_after [] (suc i) h = refl
none_after (x ∷ xs) zero h = absurd (omega arith)
none_after (x ∷ xs) (suc i) h = none_after xs i (omega arith)

-- what holds of all holds of one
pub all_at : {X : Type 0} (P : X → Type 0) (xs ys : List X) (i : ℕ) (x : X) → All P ys → xs ≡ ys → i < length xs → x ≡ get_or xs i x → P x
all_at P xs ys i x all same h is = subst P (sym is) (subst (All P) (sym same) all i x h)

-- what is told of an answer, said otherwise
pub if_told : {A E : Type 0} (P Q : A → Type 0) → ((x : A) → P x → Q x) → (r : Result A E) → IfOk r P → IfOk r Q
if_told P Q f (Ok x) h = f x h
if_told P Q f (Err e) h = h

-- ---- of a level

module _ (m : Mapping) (s : Structure) (here : LevelMap) where
  pub fields_begin : (fields : List Field) → Sees m s [] here → PassesFields m s here fields fields
  fields_begin fields sees = record { earlier = []; sees = sees; rest = refl; tags = none_listed fields }

  module _ (all : List Field) (i : ℕ) (p : PassesFields m s here (drop i all) all) where
    abbrev is_own : Field → Bool
    is_own f = is_covered m s p.earlier f.id (rule_of f.kind (datatype_of m f.id))

    pub field_passed : (f : Field) (now : LevelMap) → i < length all → f ≡ get_or all i f → (covered : Bool) →
        covered ≡ is_own f → covered ≡ true → Sees m s (f.id ∷ p.earlier) now →
        PassesFields m s now (drop (i + 1) all) all
    field_passed f now h is covered e test sees =
        let next = next_of all i f h is in
        record {
          earlier = f.id ∷ p.earlier;
          sees = sees;
          rest =
              sym (if_true (is_own f) (fields_uncovered m s (f.id ∷ p.earlier) (drop (i + 1) all)) (Some (f.name ∷ [])) (sym e ∙ test))
              ∙ ap (fields_uncovered m s p.earlier) (sym next) ∙ p.rest;
          tags = field_listed f (drop (i + 1) all) p.earlier (ids_of all)
              (λ tag. ap (λ fs. is_in tag (ids_of fs ++ p.earlier)) (sym next) ∙ p.tags tag);
        }

    pub field_missed : (f : Field) → i < length all → f ≡ get_or all i f → (covered : Bool) → covered ≡ is_own f →
        covered ≡ false → (path : List (List ℕ)) → path ≡ f.name ∷ [] →
        (level : Level) → all ≡ (out-Level level).fields → outermost_first (Some path) ≡ uncovered m s level
    field_missed f h is covered e test path named level same =
        let groups = groups_left m s (ids_of (out-Level level).fields) (out-Level level).groups (out-Level level).parts in
        let rest = fields_uncovered m s (f.id ∷ p.earlier) (drop (i + 1) all) in
        ap (λ q. outermost_first (Some q)) named ∙ ap (λ o. or_path o groups) (sym (if_false (is_own f) rest (Some (f.name ∷ [])) (sym e ∙ test)))
        ∙ ap (λ fs. or_path (fields_uncovered m s p.earlier fs) groups) (sym (next_of all i f h is)) ∙ ap (λ o. or_path o groups) p.rest
        ∙ ap (λ fs. or_path (fields_uncovered m s [] fs) groups) same ∙ sym (level_listed m s level)

    pub fields_passed : length all ≤ i → Sees m s (ids_of all) here
    fields_passed h =
        listed_as m s p.earlier here p.sees (ids_of all) (λ tag. ap (λ fs. is_in tag (ids_of fs ++ p.earlier))
        (sym (none_after all i h)) ∙ p.tags tag)

    pub groups_told : length all ≤ i → (level : Level) → all ≡ (out-Level level).fields → (gs : List Group) →
        gs ≡ (out-Level level).groups → (parts : List DataField) → parts ≡ (out-Level level).parts →
        (path : Option (List (List ℕ))) → outermost_first path ≡ groups_left m s (ids_of all) gs parts → outermost_first path ≡ uncovered m s level
    groups_told h level fields gs groups parts data_same path e =
        e ∙ ap (λ o. or_path o (groups_left m s (ids_of all) gs parts))
        (ap (fields_uncovered m s p.earlier) (sym (none_after all i h)) ∙ p.rest)
        ∙ (λ j. or_path (fields_uncovered m s [] (fields j)) (groups_left m s (ids_of (fields j)) (groups j) (data_same j)))
        ∙ sym (level_listed m s level)

  -- ---- groups

  pub groups_begin : (before : List ℕ) (gs : List Group) (parts : List DataField) → Sees m s before here →
      Passes m s here (λ earlier. groups_left m s earlier gs parts) (groups_left m s before gs parts)
  groups_begin before gs parts sees = record { earlier = before; sees = sees; rest = refl }

  module _ (all : List Group) (parts : List DataField) (i : ℕ) (whole : Option (List (List ℕ)))
      (p : Passes m s here (λ earlier. groups_left m s earlier (drop i all) parts) whole) where
    pub group_passed : (g : Group) (now : LevelMap) → i < length all → g ≡ get_or all i g →
        None ≡ group_uncovered m s p.earlier g → Sees m s (group_tag g ∷ p.earlier) now →
        Passes m s now (λ earlier. groups_left m s earlier (drop (i + 1) all) parts) whole
    group_passed g now h is none sees = record {
      earlier = group_tag g ∷ p.earlier;
      sees = sees;
      rest =
          ap (λ o. or_path o (groups_left m s (group_tag g ∷ p.earlier) (drop (i + 1) all) parts)) none
          ∙ ap (λ gs. groups_left m s p.earlier gs parts) (sym (next_of all i g h is)) ∙ p.rest;
    }

    pub group_missed : (g : Group) → i < length all → g ≡ get_or all i g → (path : List (List ℕ)) →
        outermost_first (Some path) ≡ group_uncovered m s p.earlier g → outermost_first (Some path) ≡ whole
    group_missed g h is path e =
        ap (λ o. or_path o (groups_left m s (group_tag g ∷ p.earlier) (drop (i + 1) all) parts)) e
        ∙ ap (λ gs. groups_left m s p.earlier gs parts) (sym (next_of all i g h is)) ∙ p.rest

    pub data_told : length all ≤ i → (path : Option (List (List ℕ))) → outermost_first path ≡ data_uncovered m s p.earlier parts → outermost_first path ≡ whole
    data_told h path e = e ∙ ap (λ gs. groups_left m s p.earlier gs parts) (sym (none_after all i h)) ∙ p.rest

  -- ---- data

  pub data_begin : (before : List ℕ) (parts : List DataField) → Sees m s before here →
      Passes m s here (λ earlier. data_uncovered m s earlier parts) (data_uncovered m s before parts)
  data_begin before parts sees = record { earlier = before; sees = sees; rest = refl }

  module _ (all : List DataField) (i : ℕ) (whole : Option (List (List ℕ)))
      (p : Passes m s here (λ earlier. data_uncovered m s earlier (drop i all)) whole) where
    abbrev is_own_data : DataField → Bool
    is_own_data d = is_covered m s p.earlier d.id (data_rule d (datatype_of m d.id))

    pub part_passed : (d : DataField) (now : LevelMap) → i < length all → d ≡ get_or all i d → (covered : Bool) →
        covered ≡ is_own_data d → covered ≡ true → Sees m s (d.id ∷ p.earlier) now →
        Passes m s now (λ earlier. data_uncovered m s earlier (drop (i + 1) all)) whole
    part_passed d now h is covered e test sees = record {
      earlier = d.id ∷ p.earlier;
      sees = sees;
      rest =
          sym (if_true (is_own_data d) (data_uncovered m s (d.id ∷ p.earlier) (drop (i + 1) all)) (Some (d.name ∷ [])) (sym e ∙ test))
          ∙ ap (data_uncovered m s p.earlier) (sym (next_of all i d h is)) ∙ p.rest;
    }

    pub part_missed : (d : DataField) → i < length all → d ≡ get_or all i d → (covered : Bool) → covered ≡ is_own_data d →
        covered ≡ false → (path : List (List ℕ)) → path ≡ d.name ∷ [] →
        outermost_first (Some path) ≡ whole
    part_missed d h is covered e test path named =
        ap (λ q. outermost_first (Some q)) named
        ∙ sym (if_false (is_own_data d) (data_uncovered m s (d.id ∷ p.earlier) (drop (i + 1) all)) (Some (d.name ∷ [])) (sym e ∙ test))
        ∙ ap (data_uncovered m s p.earlier) (sym (next_of all i d h is)) ∙ p.rest

    pub none_missed : length all ≤ i → None ≡ whole
    none_missed h = ap (data_uncovered m s p.earlier) (sym (none_after all i h)) ∙ p.rest

-- ---- of a group

module _ (m : Mapping) (s : Structure) (before : List ℕ) (g : Group) where
  abbrev own : Level
  own = (out-Group g).level

  pub group_refused : is_group m s before own ≡ false → (path : List (List ℕ)) → path ≡ (out-Level own).name ∷ [] →
      outermost_first (Some path) ≡ group_uncovered m s before g
  group_refused test path named =
      ap (λ q. outermost_first (Some q)) named ∙ ap (λ b. group_by b (out-Level own).name (uncovered m (entries_of s own) own)) (sym test)
      ∙ sym (group_is m s before g)

  pub group_covered : is_group m s before own ≡ true → None ≡ uncovered m (entries_of s own) own → None ≡ group_uncovered m s before g
  group_covered test none =
      ap (inside (out-Level own).name) none ∙ ap (λ b. group_by b (out-Level own).name (uncovered m (entries_of s own) own))
      (sym test) ∙ sym (group_is m s before g)

  pub group_entered : is_group m s before own ≡ true → (within path : List (List ℕ)) →
      outermost_first (Some within) ≡ uncovered m (entries_of s own) own → path ≡ within ++ ((out-Level own).name ∷ []) →
      outermost_first (Some path) ≡ group_uncovered m s before g
  group_entered test within path e longer =
      ap (λ q. outermost_first (Some q)) longer ∙ ap Some (reverse-append within ((out-Level own).name ∷ [])) ∙ ap (inside (out-Level own).name) e
      ∙ ap (λ b. group_by b (out-Level own).name (uncovered m (entries_of s own) own)) (sym test) ∙ sym (group_is m s before g)
