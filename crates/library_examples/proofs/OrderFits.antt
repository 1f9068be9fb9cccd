-- The message of an order fits where its values have no misfit, and its counts are admitted.
use Rattle.std.proofs.Common.{◌≡◌, ◌≤◌, ◌<◌, ◌+◌, ◌-◌, ℕ, suc, ℤ, Bool, true, false, cond, List, [], ◌∷◌, length, drop, map, get_or, Option, Some, None, pos, refl, sym, ap, ap₂, ◌∙◌, subst, arith}
use Rattle.std.specs.Prelude.{slice_get, codes}
use Rattle.std.specs.Option.{option_map_or}
use Rattle.std.proofs.lemmas.List.{drop_all, length-map}
use denote.Hole.Carrier as carrier
use Rattle.sbe_types.specs.declared.kind.Member.{Member}
use Rattle.sbe_types.specs.declared.kind.Order.{Order}
use Rattle.sbe_types.specs.declared.message.Block.{Block}
use Rattle.sbe_types.specs.declared.message.DataVal.TheVariants as dataval
use Rattle.sbe_types.specs.declared.message.GroupVal.{GroupVal}
use Rattle.sbe_types.specs.declared.message.GroupVal.TheVariants as groupval
use Rattle.sbe_types.specs.declared.message.Value.{Value}
use Rattle.sbe_types.specs.declared.message.Value.TheVariants as value
use Rattle.sbe_types.specs.declared.path.Step.TheVariants as way
use Rattle.sbe_types.specs.declared.schema.DataField.{DataField}
use Rattle.sbe_types.specs.declared.schema.Field.{Field}
use Rattle.sbe_types.specs.declared.schema.Group as groups_of
use Rattle.sbe_types.specs.declared.schema.Group.{Group, Group', out-Group}
use Rattle.sbe_types.specs.declared.schema.Level as levels_of
use Rattle.sbe_types.specs.declared.schema.Level.{Level, Level', out-Level, Row_of-Group, end_of-Group, more_of-Group, items-the_row-Group, items_shown-the_row-Group-0}
use Rattle.sbe_types.specs.declared.schema.WireSchema.{WireSchema}
use Rattle.sbe_types.specs.Places.{is_const}
use Rattle.sbe_types.specs.Shown.{admits}
use Rattle.sbe_wire.specs.Fits.{BlockFits, EachFits, FieldsFit, Fits, GroupFits, GroupsFit, PartFits, PartsFit}
use Rattle.sbe_wire.specs.Misfit.{Misfit, or_else, other_kind, value_misfit}
use Rattle.sbe_wire.specs.Named.{is_admitted}
use Rattle.schema_facts.specs.IsChecked.{IsChecked}
use Rattle.schema_facts.specs.Levels.{fields_at, fields_in, groups_in, level_at, parts_in, root_of}
use Rattle.writing_laws.specs.Writable.{AreWritableFields, AreWritableGroups, IsWritableGroup, IsWritableLevel}
use Rattle.writing_laws.proofs.KindFits.{kind_fits}
use Rattle.writing_laws.proofs.Refusals.{in_none, or_none, some_none}
use Rattle.writable_schemas.proofs.CheckedSchemas.{schema_writable}
use Rattle.body_walk.specs.inner.Ready.{IsReadySchema}
use Rattle.body_walk.proofs.Opens.{item_at, level_within}
use Rattle.kind_bytes.specs.Misfits.{field_misfit}
use Rattle.typed_writer.specs.declared.stack.Frame.{Frame}
use Rattle.typed_writer.specs.declared.stack.Frame.TheVariants.{Tail}
use Rattle.typed_writer.specs.Held.{Held}
use Rattle.typed_writer.specs.States.{level_of}
use Rattle.typed_writer.specs.Steps.{Groups, Opens, admits_data, admits_entries, misfit_at, next_data, next_group}
use Rattle.typed_writer.proofs.Setting.{field_order, misfit_told}
use Rattle.tree_codec.proofs.RoomSteps.{drop_at}
use Rattle.library_examples.specs.Orders.{IsOrderSchema, LegFits, LegsFit, leg_block, legs_misfit, legs_of, order_block, order_message}
use Rattle.library_examples.proofs.OrderBytes.{OrderLevels, one_item, order_levels}

head_is : {A : Type 0} {x y : A} {xs ys : List A} → x ∷ xs ≡ y ∷ ys → x ≡ y
head_is h = cc

tail_is : {A : Type 0} {x y : A} {xs ys : List A} → x ∷ xs ≡ y ∷ ys → xs ≡ ys
tail_is h = cc

none_there : {A : Type 0} {x : A} {xs : List A} → x ∷ xs ≡ [] → ⊥
none_there h = cc

-- ---- levels that can be written

module _ (version : ℕ) where
  fields_writable : (level : Level) → IsWritableLevel version level → AreWritableFields version (out-Level level).fields
  unfolding levels_of.out-Level carrier.out
  fields_writable (Level' name id semantic since block_length fields n groups parts) h = h.0

  entries_writable : (g : Group) → IsWritableGroup version g → IsWritableLevel version (out-Group g).level
  unfolding groups_of.out-Group carrier.out
  entries_writable (Group' dim level) h = h.2

  first_writable : {n : _} (row : Row_of-Group n) (g : Group) → items-the_row-Group _ row ≡ g ∷ [] → AreWritableGroups version row → IsWritableLevel version (out-Group g).level
  first_writable end_of-Group g is h = absurd (none_there (sym is))
  first_writable (more_of-Group x rest) g is h = subst (λ y. IsWritableLevel version (out-Group y).level) (head_is is) (entries_writable x h.0)

  group_writable : (level : Level) (g : Group) → (out-Level level).groups ≡ g ∷ [] → IsWritableLevel version level → IsWritableLevel version (out-Group g).level
  unfolding levels_of.out-Level carrier.out
  group_writable (Level' name id semantic since block_length fields n groups parts) g one h = first_writable groups g (sym (items_shown-the_row-Group-0 n groups) ∙ one) h.2

-- ---- a block of one field

set_to : (t : Bool) (m : Option Misfit) → cond t other_kind m ≡ None → m ≡ None
set_to true m h = absurd (some_none h)
set_to false m h = h

-- the field fits that has no misfit
field_fits : (schema : WireSchema) (n : ℕ) (level : Level) (v : Value) → IsChecked schema → IsWritableLevel schema.version level → level_at schema n ≡ Some level → length (out-Level level).fields ≡ 1 →
    misfit_at schema n 0 v ≡ None → FieldsFit schema.order (out-Level level).fields (v ∷ [])
field_fits schema n level v checked writable at one none =
    let item = one_item (out-Level level).fields one in
    let f : Field = item.0 in
    let here : slice_get (fields_at schema n) 0 ≡ Some f = ap (λ o. slice_get (fields_in o) 0) at ∙ ap (λ fs. slice_get fs 0) item.1 in
    let order = field_order schema n 0 f checked (level_within schema n level at) here in
    let told = in_none (way.Part 0) (field_misfit f.kind v) (misfit_told schema n 0 f v here ∙ none) in
    let can = subst (AreWritableFields schema.version) item.1 (fields_writable schema.version level writable) in
    let fits = kind_fits schema.order f.kind order.within.placed can.0 v (set_to (is_const f.kind) (value_misfit f.kind v) told) in
    subst (λ fs. FieldsFit schema.order fs (v ∷ [])) (sym item.1) (fits, tt)

-- ---- levels by the lists of their parts

module _ (order : Order) where
  no_groups : {n : _} (row : Row_of-Group n) → items-the_row-Group _ row ≡ [] → GroupsFit order row []
  no_groups end_of-Group is = tt
  no_groups (more_of-Group g rest) is = absurd (none_there is)

  one_group : {n : _} (row : Row_of-Group n) (g : Group) (v : GroupVal) → items-the_row-Group _ row ≡ g ∷ [] → GroupFits order g v → GroupsFit order row (v ∷ [])
  one_group end_of-Group g v is fits = absurd (none_there (sym is))
  one_group (more_of-Group h rest) g v is fits = (subst (λ x. GroupFits order x v) (sym (head_is is)) fits, no_groups rest (tail_is is))

  group_fits : (g : Group) (es : List Block) → is_admitted (out-Group g).dim (codes "numInGroup") (length es) ≡ true → EachFits (λ e. BlockFits order (out-Group g).level e) es → GroupFits order g (groupval.Entries es)
  unfolding groups_of.out-Group carrier.out
  group_fits (Group' dim level) es admitted each = (es, refl, admitted, each)

  leg_level : (level : Level) (quantity : ℤ) → (out-Level level).groups ≡ [] → (out-Level level).parts ≡ [] → FieldsFit order (out-Level level).fields (value.Num quantity ∷ []) → BlockFits order level (leg_block quantity)
  unfolding levels_of.out-Level carrier.out
  leg_level (Level' name id semantic since block_length fields n groups parts) quantity no_group no_part fits =
      (fits, no_groups groups (sym (items_shown-the_row-Group-0 n groups) ∙ no_group), subst (λ ps. PartsFit ps []) (sym no_part) tt)

  root_level : (level : Level) (number : ℤ) (xs : List ℤ) (note : List ℕ) (g : Group) (p : DataField) → (out-Level level).groups ≡ g ∷ [] → (out-Level level).parts ≡ p ∷ [] →
      FieldsFit order (out-Level level).fields (value.Num number ∷ []) → GroupFits order g (groupval.Entries (map leg_block xs)) → PartFits p (dataval.Bytes note) → BlockFits order level (order_block number xs note)
  unfolding levels_of.out-Level carrier.out
  root_level (Level' name id semantic since block_length fields n groups parts) number xs note g p one_g one_p fits group part = (
    fits,
    one_group groups g (groupval.Entries (map leg_block xs)) (sym (items_shown-the_row-Group-0 n groups) ∙ one_g) group,
    subst (λ ps. PartsFit ps (dataval.Bytes note ∷ [])) (sym one_p) (part, tt),
  )

-- ---- legs

module _ (schema : WireSchema) where
  -- a leg that was set
  pub leg_set : (quantity : ℤ) (old opened : Held) → level_of old.frames ≡ legs_of schema → Opens schema old opened → misfit_at schema (level_of opened.frames) 0 (value.Num quantity) ≡ None → LegFits schema quantity
  leg_set quantity old opened here opens none =
      subst (λ n. misfit_at schema n 0 (value.Num quantity) ≡ None) (ap level_of opens.frames ∙ here) none

  -- one leg more
  pub legs_on : (xs : List ℤ) (i : ℕ) (x : ℤ) → i < length xs → x ≡ get_or xs i x → LegFits schema x → legs_misfit schema (drop i xs) ≡ legs_misfit schema xs →
      legs_misfit schema (drop (i + 1) xs) ≡ legs_misfit schema xs
  legs_on xs i x low is one so_far =
      let on : suc i ≡ i + 1 = omega arith in
      let front : drop i xs ≡ x ∷ drop (i + 1) xs = drop_at xs i x (item_at xs i x low is) ∙ ap (λ j. x ∷ drop j xs) on in
      ap (λ m. or_else m (legs_misfit schema (drop (i + 1) xs))) (sym one) ∙ sym (ap (legs_misfit schema) front) ∙ so_far

  -- all legs, after their dimension
  pub legs_fit : (xs : List ℤ) (i : ℕ) (old opened : Held) → old.frames ≡ Tail (root_of schema 0) 0 ∷ [] → Groups schema (length xs) old opened → length xs ≤ i →
      legs_misfit schema (drop i xs) ≡ legs_misfit schema xs → LegsFit schema xs
  legs_fit xs i old opened at groups over so_far = (
    subst (λ n. admits_entries schema n (length xs) ≡ true) (ap (next_group schema) at) groups.admitted,
    sym so_far ∙ ap (legs_misfit schema) (drop_all i xs over),
  )

-- ---- the whole

module _ (schema : WireSchema) (ready : IsReadySchema schema) (order : IsOrderSchema schema) where
  levels : OrderLevels schema
  levels = order_levels schema order

  abbrev legs : Level
  legs = (out-Group levels.group).level

  root_writable : IsWritableLevel schema.version levels.root
  root_writable = (schema_writable schema ready.checked).levels 0 levels.root levels.message

  legs_writable : IsWritableLevel schema.version legs
  legs_writable = group_writable schema.version levels.root levels.group levels.groups root_writable

  each_leg : (xs : List ℤ) → legs_misfit schema xs ≡ None → EachFits (λ entry. BlockFits schema.order legs entry) (map leg_block xs)
  each_leg [] h = tt
  each_leg (x ∷ xs) h =
      let two = or_none (misfit_at schema (legs_of schema) 0 (value.Num x)) (legs_misfit schema xs) h in
      (leg_level schema.order legs x levels.leg_groups levels.leg_parts (field_fits schema (legs_of schema) legs (value.Num x) ready.checked legs_writable levels.legs_at levels.leg_field two.0), each_leg xs two.1)

  group_there : (xs : List ℤ) → LegsFit schema xs → GroupFits schema.order levels.group (groupval.Entries (map leg_block xs))
  group_there xs h =
      let many : length (map leg_block xs) ≡ length xs = length-map xs leg_block in
      let admitted : is_admitted (out-Group levels.group).dim (codes "numInGroup") (length xs) ≡ true =
      sym (ap (λ o. option_map_or (λ (dim : List Member). is_admitted dim (codes "numInGroup") (length xs)) o false) levels.dim_is) ∙ h.0 in
      group_fits schema.order levels.group (map leg_block xs) (ap (is_admitted (out-Group levels.group).dim (codes "numInGroup")) many ∙ admitted) (each_leg xs h.1)

  part_there : (note : List ℕ) (frames : List Frame) → frames ≡ Tail (root_of schema 0) 1 ∷ [] → admits_data schema frames (length note) ≡ true → PartFits levels.part (dataval.Bytes note)
  part_there note frames at admitted =
      let next : next_data schema frames ≡ Some levels.part =
      ap (next_data schema) at
      ∙ ap (λ o. slice_get (parts_in o) (1 - length (groups_in o))) levels.root_at
      ∙ ap₂ (λ ps (gs : List Group). slice_get ps (1 - length gs)) levels.parts levels.groups in
      (note, refl, sym (ap (λ o. option_map_or (λ (p : DataField). admits p.length (pos (length note))) o false) next) ∙ admitted)

  -- the message of an order whose parts were taken
  pub order_fits : (number : ℤ) (xs : List ℤ) (note : List ℕ) (frames : List Frame) → misfit_at schema (root_of schema 0) 0 (value.Num number) ≡ None → LegsFit schema xs → frames ≡ Tail (root_of schema 0) 1 ∷ [] →
      admits_data schema frames (length note) ≡ true → Fits schema (order_message schema.version number xs note)
  order_fits number xs note frames none legs_fit at admitted =
      let field = field_fits schema (root_of schema 0) levels.root (value.Num number) ready.checked root_writable levels.root_at levels.field none in
      (levels.root, levels.message, refl, root_level schema.order levels.root number xs note levels.group levels.part levels.groups levels.parts field (group_there xs legs_fit) (part_there note frames at admitted))
