-- A name that no other item has is found at its own place.
use Rattle.std.proofs.Common.{◌≡◌, ◌≢◌, ◌+◌, ◌<◌, ℕ, zero, suc, Bool, true, false, List, [], ◌∷◌, ◌++◌, length, get_or, Option, Some, None, refl, sym, ap, ◌∙◌, subst, arith, length-append}
use Rattle.std.specs.Prelude.{AllPairs, map, slice_get, if◌then◌else◌}
use Rattle.std.specs.List.{AllByRecursion}
use Rattle.std.specs.Option.{option_map}
use Rattle.std.specs.Str.{bytes_eq}
use Rattle.std.proofs.lemmas.Option.{slice_get-map, slice_get_within}
use Rattle.std.proofs.lemmas.Slice.Eq.{bytes_eq-Decides}
use Rattle.sbe_types.specs.declared.schema.DataField.{DataField}
use Rattle.sbe_types.specs.declared.schema.Field.{Field}
use Rattle.sbe_types.specs.declared.schema.Group.{Group, out-Group}
use Rattle.sbe_types.specs.declared.schema.Level.{Level, out-Level}
use Rattle.sbe_types.specs.declared.schema.WireSchema.{WireSchema}
use Rattle.schema_facts.specs.CheckedLevels.{HasNames}
use Rattle.schema_facts.specs.IsChecked.{IsChecked}
use Rattle.schema_facts.specs.Levels.{Node, all_nodes, fields_at, groups_at, parts_at, fields_in, groups_in, parts_in}
use Rattle.id_tables.specs.Places.{place_by, name_place}
use Rattle.layout_names.specs.Names.{field_names, group_names, data_names, template_named, field_named, group_named, data_named}

abbrev Differ : List (List ℕ) → Type 0
Differ names = AllPairs (λ a b. a ≢ b) names

-- ---- lists no two of whose names are the same

differ_tail : (x : List ℕ) (xs : List (List ℕ)) → Differ (x ∷ xs) → Differ xs
differ_tail x xs h i j d lt within = h (suc i) (suc j) d (omega (arith, lt)) (omega (arith, within))

differ_behind : (a b : List (List ℕ)) → Differ (a ++ b) → Differ b
differ_behind [] b h = h
differ_behind (x ∷ a) b h = differ_behind a b (differ_tail x (a ++ b) h)

in_front : (a b : List (List ℕ)) (i : ℕ) (d : List ℕ) → i < length a → get_or (a ++ b) i d ≡ get_or a i d
in_front [] b i d h = absurd (omega (arith, h))
in_front (x ∷ a) b zero d h = refl
in_front (x ∷ a) b (suc i) d h = in_front a b i d (omega (arith, h))

differ_front : (a b : List (List ℕ)) → Differ (a ++ b) → Differ a
differ_front a b h i j d lt within e =
    h i j d lt (omega (arith, within, length-append a b)) (in_front a b i d (omega (arith, lt, within)) ∙ e ∙ sym (in_front a b j d within))

-- ---- the place of a name

name_read : (xs : List (List ℕ)) (i : ℕ) (name : List ℕ) → slice_get xs i ≡ Some name → get_or xs i name ≡ name
name_read [] i name h = cc
name_read (x ∷ xs) zero name h = cc
name_read (x ∷ xs) (suc i) name h = name_read xs i name h

by_test : (a b : List ℕ) → (a ≡ b → ⊥) → (t : Bool) → bytes_eq a b ≡ t → t ≡ false
by_test a b h true e = absurd (h ((bytes_eq-Decides a b).0 e))
by_test a b h false e = refl

here : (t : Bool) (k : ℕ) (more : Option ℕ) → t ≡ true → (if t then Some k else more) ≡ Some k
here true k more h = refl
here false k more h = cc

later : (t : Bool) (k n : ℕ) (more : Option ℕ) → t ≡ false → more ≡ Some n → (if t then Some k else more) ≡ Some n
later true k n more h m = cc
later false k n more h m = m

found_from : (xs : List (List ℕ)) (k i : ℕ) (name : List ℕ) → Differ xs → slice_get xs i ≡ Some name → place_by (bytes_eq name) k xs ≡ Some (k + i)
found_from [] k i name d h = cc
found_from (x ∷ xs) k zero name d h =
    let is : x ≡ name = cc in
    let same : k ≡ k + 0 = omega arith in
    here (bytes_eq name x) k (place_by (bytes_eq name) (k + 1) xs) ((bytes_eq-Decides name x).1 (sym is)) ∙ ap Some same
found_from (x ∷ xs) k (suc i) name d h =
    let place : k + 1 + i ≡ k + suc i = omega arith in
    let apart : (name ≡ x → ⊥) = λ e. d 0 (suc i) name (omega arith) (omega (arith, slice_get_within xs i name h)) (sym e ∙ sym (name_read xs i name h)) in
    later (bytes_eq name x) k (k + suc i) (place_by (bytes_eq name) (k + 1) xs) (by_test name x apart (bytes_eq name x) refl)
    (found_from xs (k + 1) i name (differ_tail x xs d) h ∙ ap Some place)

-- the item of a name is found, where no other has it
pub found_named : {X : Type 0} (name : X → List ℕ) (xs : List X) (i : ℕ) (x : X) → Differ (map name xs) → slice_get xs i ≡ Some x → name_place (name x) (map name xs) ≡ Some i
found_named name xs i x d h =
    let same : 0 + i ≡ i = omega arith in
    found_from (map name xs) 0 i (name x) d (slice_get-map name xs i ∙ ap (option_map name) h) ∙ ap Some same

-- ---- the parts of a level

each_at : {X : Type 0} (P : X → Type 0) (xs : List X) (n : ℕ) (x : X) → AllByRecursion P xs → slice_get xs n ≡ Some x → P x
each_at P [] n x all h = cc
each_at P (y ∷ ys) zero x all h = let is : y ≡ x = cc in subst P is all.0
each_at P (y ∷ ys) (suc n) x all h = each_at P ys n x all.1 h

module _ (schema : WireSchema) (checked : IsChecked schema) (n : ℕ) where
  fields_by : (o : Option Node) → slice_get (all_nodes schema) n ≡ o → Differ (field_names (fields_in (option_map (λ (node : Node). node.level) o)))
  fields_by None at = λ i j d lt within. absurd (omega (arith, within))
  fields_by (Some node) at =
      differ_front (field_names (out-Level node.level).fields) (group_names (out-Level node.level).groups ++ data_names (out-Level node.level).parts)
      (each_at (λ (m : Node). HasNames m.level) (all_nodes schema) n node checked.names at).names_differ

  groups_by : (o : Option Node) → slice_get (all_nodes schema) n ≡ o → Differ (group_names (groups_in (option_map (λ (node : Node). node.level) o)))
  groups_by None at = λ i j d lt within. absurd (omega (arith, within))
  groups_by (Some node) at =
      differ_front (group_names (out-Level node.level).groups) (data_names (out-Level node.level).parts)
      (differ_behind (field_names (out-Level node.level).fields) (group_names (out-Level node.level).groups ++ data_names (out-Level node.level).parts)
      (each_at (λ (m : Node). HasNames m.level) (all_nodes schema) n node checked.names at).names_differ)

  data_by : (o : Option Node) → slice_get (all_nodes schema) n ≡ o → Differ (data_names (parts_in (option_map (λ (node : Node). node.level) o)))
  data_by None at = λ i j d lt within. absurd (omega (arith, within))
  data_by (Some node) at =
      differ_behind (group_names (out-Level node.level).groups) (data_names (out-Level node.level).parts)
      (differ_behind (field_names (out-Level node.level).fields) (group_names (out-Level node.level).groups ++ data_names (out-Level node.level).parts)
      (each_at (λ (m : Node). HasNames m.level) (all_nodes schema) n node checked.names at).names_differ)

  pub own_field : (i : ℕ) (f : Field) → slice_get (fields_at schema n) i ≡ Some f → field_named f.name schema n ≡ Some i
  own_field i f h = found_named (λ (f : Field). f.name) (fields_at schema n) i f (fields_by (slice_get (all_nodes schema) n) refl) h

  pub own_group : (i : ℕ) (g : Group) → slice_get (groups_at schema n) i ≡ Some g → group_named (out-Level (out-Group g).level).name schema n ≡ Some i
  own_group i g h = found_named (λ (g : Group). (out-Level (out-Group g).level).name) (groups_at schema n) i g (groups_by (slice_get (all_nodes schema) n) refl) h

  pub own_data : (i : ℕ) (d : DataField) → slice_get (parts_at schema n) i ≡ Some d → data_named d.name schema n ≡ Some i
  own_data i d h = found_named (λ (d : DataField). d.name) (parts_at schema n) i d (data_by (slice_get (all_nodes schema) n) refl) h

pub own_message : (schema : WireSchema) → IsChecked schema → (t : ℕ) (level : Level) → slice_get schema.messages t ≡ Some level → template_named (out-Level level).name schema ≡ Some t
own_message schema checked t level h = found_named (λ (l : Level). (out-Level l).name) schema.messages t level checked.messages.names_differ h
