-- The path of a part without an empty value leads to a part of the message.
use Rattle.std.proofs.Common.{◌≡◌, ℕ, suc, ◌+◌, true, List, [], ◌∷◌, length, Option, Some, None, Result, Ok, Err, pos, refl, ap, ◌∙◌, subst}
use Rattle.std.specs.Prelude.{⊤, map, is_some, slice_get, if◌then◌else◌, codes}
use Rattle.std.specs.Option.{option_and_then}
use denote.Hole.Carrier as carrier
use Rattle.sbe_types.specs.declared.schema.Group as groups_of
use Rattle.sbe_types.specs.declared.schema.Level as levels
use Rattle.sbe_types.specs.declared.path.Step.{Step}
use Rattle.sbe_types.specs.declared.path.Step.TheVariants as way
use Rattle.sbe_types.specs.declared.schema.Field.{Field}
use Rattle.sbe_types.specs.declared.schema.DataField.{DataField}
use Rattle.sbe_types.specs.declared.schema.Group.{Group, Group', out-Group}
use Rattle.sbe_types.specs.declared.schema.Level.{Level, Level', out-Level, Row_of-Group, end_of-Group, more_of-Group, items-the_row-Group, items_shown-the_row-Group-0}
use Rattle.sbe_types.specs.declared.schema.WireSchema.{WireSchema}
use Rattle.sbe_types.specs.declared.message.Value.{Value}
use Rattle.sbe_types.specs.declared.message.Value.TheVariants as value
use Rattle.sbe_types.specs.declared.message.DataVal.{DataVal}
use Rattle.sbe_types.specs.declared.message.DataVal.TheVariants as dataval
use Rattle.sbe_types.specs.declared.message.Block.{Block, out-Block}
use Rattle.sbe_types.specs.declared.message.GroupVal.{GroupVal, items-the_row-Block}
use Rattle.sbe_types.specs.declared.message.GroupVal.TheVariants as groupval
use Rattle.sbe_types.specs.declared.message.Msg.{Msg}
use Rattle.sbe_types.specs.Shown.{admits}
use Rattle.sbe_wire.specs.Named.{is_admitted}
use Rattle.layout_tables.specs.Paths.{Inside, in_level, in_group, NamedPart, field_part, group_part, data_part, level_parts, parts_inside, path_from, IsPathOf}
use Rattle.misfit_laws.proofs.Leading.{Leads, LeadsBy, here, part_leads, entry_leads, Behind, first_is, next_are, fields_stand, groups_stand}
use Rattle.misfit_laws.proofs.ShapeWays.{data_behind}
use Rattle.regrade_laws.specs.Fill.{Fills, fill, fill_or_lack, field_or_fill, part_or_fill}
use Rattle.regrade_laws.specs.Filled.{in_step, then_all, filled_list, filled_entries, group_of, block_of, row_length, filled_block, filled_groups, filled_group}
use Rattle.regrade_laws.specs.Regraded.{Refusal, NoFill, in_version, filled_by, filled_in}

-- the path of a part that has no fill leads on from the place
abbrev Lacks : (X : Type 0) → Inside → Fills X → Type 0
Lacks X inside (Ok x) = ⊤
Lacks X inside (Err path) = Leads inside path

lacks_step : (X : Type 0) (inside : Inside) (step : Step) (below : Inside) (r : Fills X) → LeadsBy inside step below → Lacks X below r →
    Lacks X inside (in_step step r)
lacks_step X inside step below (Ok x) leads h = tt
lacks_step X inside step below (Err path) leads h = leads path h

lacks_then : (X : Type 0) (inside : Inside) (r : Fills X) (more : Fills (List X)) → Lacks X inside r → Lacks (List X) inside more →
    Lacks (List X) inside (then_all r more)
lacks_then X inside (Ok x) (Ok xs) h k = tt
lacks_then X inside (Ok x) (Err path) h k = k
lacks_then X inside (Err path) more h k = h

lacks_here : (X : Type 0) (inside : Inside) (o : Option X) → Lacks X inside (fill_or_lack o)
lacks_here X inside None = here inside [] refl
lacks_here X inside (Some x) = tt

-- ---- parts of a level

field_lacks : (inside : Inside) (f : Field) (v : Value) → Lacks Value inside (field_or_fill f v)
field_lacks inside f value.Absent = lacks_here Value inside (fill f.kind)
field_lacks inside f v = tt

part_lacks : (inside : Inside) (p : DataField) (v : DataVal) → Lacks DataVal inside (part_or_fill p v)
part_lacks inside p dataval.Absent = lacks_here DataVal inside (if admits p.length (pos 0) then Some (dataval.Bytes []) else None)
part_lacks inside p (dataval.Bytes bytes) = tt

module _ (P V : Type 0) (part_of : P → NamedPart) (written : P → V → Fills V) (inside : Inside) (lacks : (p : P) (v : V) → Lacks V (part_of p).inside (written p v)) where
  list_lacks : (i : ℕ) (ps : List P) (vs : List V) → Behind (parts_inside inside) i (map part_of ps) →
      Lacks (List V) inside (filled_list written i ps vs)
  list_lacks i [] vs stand = tt
  list_lacks i (p ∷ ps) [] stand = tt
  list_lacks i (p ∷ ps) (v ∷ vs) stand =
      lacks_then V inside (in_step (way.Part i) (written p v)) (filled_list written (suc i) ps vs)
      (lacks_step V inside (way.Part i) (part_of p).inside (written p v) (part_leads inside i (part_of p) (first_is (parts_inside inside) i (part_of p) (map part_of ps) stand)) (lacks p v))
      (list_lacks (suc i) ps vs (next_are (parts_inside inside) i (part_of p) (map part_of ps) stand))

entries_lack : (level : Level) (written : Block → Fills Block) → ((entry : Block) → Lacks Block (in_level level) (written entry)) →
    (i : ℕ) (es : List Block) →
    Lacks (List Block) (in_group level) (filled_entries written i es)
entries_lack level written lacks i [] = tt
entries_lack level written lacks i (e ∷ es) =
    lacks_then Block (in_group level) (in_step (way.Entry i) (written e)) (filled_entries written (suc i) es)
    (lacks_step Block (in_group level) (way.Entry i) (in_level level) (written e) (entry_leads level i) (lacks e))
    (entries_lack level written lacks (suc i) es)

group_of_lacks : (inside : Inside) (r : Fills (List Block)) → Lacks (List Block) inside r → Lacks GroupVal inside (group_of r)
group_of_lacks inside (Ok es) h = tt
group_of_lacks inside (Err path) h = h

block_of_lacks : (inside : Inside) (fields : Fills (List Value)) (groups : Fills (List GroupVal)) (parts : Fills (List DataVal)) →
    Lacks (List Value) inside fields → Lacks (List GroupVal) inside groups → Lacks (List DataVal) inside parts → Lacks Block inside (block_of fields groups parts)
block_of_lacks inside (Err path) groups parts h k l = h
block_of_lacks inside (Ok fields) (Err path) parts h k l = k
block_of_lacks inside (Ok fields) (Ok groups) (Err path) h k l = l
block_of_lacks inside (Ok fields) (Ok groups) (Ok parts) h k l = tt

row_items : {n : _} (row : Row_of-Group n) → length (items-the_row-Group _ row) ≡ row_length row
row_items end_of-Group = refl
row_items (more_of-Group g rest) = ap suc (row_items rest)

mutual
  unfolding filled_block filled_groups filled_group levels.out-Level groups_of.out-Group carrier.out

  pub block_lacks : (level : Level) (block : Block) → Lacks Block (in_level level) (filled_block level block)
  block_lacks (Level' name id semantic since block_length fields n groups parts) block =
      let level = Level' name id semantic since block_length fields n groups parts in
      let old = out-Block block in
      let same = items_shown-the_row-Group-0 n groups in
      block_of_lacks (in_level level) (filled_list field_or_fill 0 fields old.fields) (filled_groups (length fields) groups old.groups)
      (filled_list part_or_fill (length fields + row_length groups) parts old.parts)
      (list_lacks Field Value field_part field_or_fill (in_level level) (λ f v. field_lacks (field_part f).inside f v) 0 fields old.fields (fields_stand level))
      (groups_lack (in_level level) (length fields) groups old.groups (subst (λ row. Behind (level_parts level) (length fields) (map group_part row)) same (groups_stand level)))
      (list_lacks DataField DataVal data_part part_or_fill (in_level level) (λ p v. part_lacks (data_part p).inside p v) (length fields + row_length groups) parts old.parts
      (data_behind level (row_length groups) (ap length same ∙ row_items groups)))

  groups_lack : (inside : Inside) (i : ℕ) {n : _} (row : Row_of-Group n) (vs : List GroupVal) →
      Behind (parts_inside inside) i (map group_part (items-the_row-Group _ row)) →
      Lacks (List GroupVal) inside (filled_groups i row vs)
  groups_lack inside i end_of-Group vs stand = tt
  groups_lack inside i (more_of-Group g rest) [] stand = tt
  groups_lack inside i (more_of-Group g rest) (v ∷ vs) stand =
      let others = map group_part (items-the_row-Group _ rest) in
      lacks_then GroupVal inside (in_step (way.Part i) (filled_group g v)) (filled_groups (suc i) rest vs)
      (lacks_step GroupVal inside (way.Part i) (in_group (out-Group g).level) (filled_group g v) (part_leads inside i (group_part g) (first_is (parts_inside inside) i (group_part g) others stand)) (group_lacks g v))
      (groups_lack inside (suc i) rest vs (next_are (parts_inside inside) i (group_part g) others stand))

  group_lacks : (g : Group) (v : GroupVal) → Lacks GroupVal (in_group (out-Group g).level) (filled_group g v)
  group_lacks (Group' dim level) groupval.Absent = lacks_here GroupVal (in_group level) (if is_admitted dim (codes "numInGroup") 0 then Some (groupval.Entries []) else None)
  group_lacks (Group' dim level) (groupval.Entries' n row) =
      group_of_lacks (in_group level) (filled_entries (λ entry. filled_block level entry) 0 (items-the_row-Block _ row))
      (entries_lack level (λ entry. filled_block level entry) (λ entry. block_lacks level entry) 0 (items-the_row-Block _ row))

-- ---- of a message

same_path : {X : Type 0} {a b : List Step} → ◌≡◌ {A = Result X Refusal} (Err (NoFill a)) (Err (NoFill b)) → a ≡ b
same_path h = cc

module _ (to : WireSchema) (path : List Step) where
  in_block : (n : Msg) (level : Level) (r : Fills Block) → Lacks Block (in_level level) r → in_version to.version n r ≡ Err (NoFill path) →
      Leads (in_level level) path
  in_block n level (Ok block) h e = cc
  in_block n level (Err other) h e = subst (Leads (in_level level)) (same_path e) h

  leads_there : (n : Msg) (level : Level) → slice_get to.messages n.template ≡ Some level → Leads (in_level level) path → IsPathOf to n.template path
  leads_there n level at leads = ap (λ o. is_some (option_and_then (λ l. path_from true (in_level l) path) o)) at ∙ leads true

  by_level : (n : Msg) (o : Option Level) → slice_get to.messages n.template ≡ o → filled_by to.version n o ≡ Err (NoFill path) →
      IsPathOf to n.template path
  by_level n None at e = cc
  by_level n (Some level) at e = leads_there n level at (in_block n level (filled_block level n.block) (block_lacks level n.block) e)

  pub lack_leads : (o : Option Msg) → filled_in to o ≡ Err (NoFill path) → (n : Msg) × (o ≡ Some n) × IsPathOf to n.template path
  lack_leads None e = cc
  lack_leads (Some n) e = (n, refl, by_level n (slice_get to.messages n.template) refl e)
