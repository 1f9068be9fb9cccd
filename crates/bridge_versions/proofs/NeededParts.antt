-- A message that lacks no part that a text needs, part by part.
use Rattle.std.proofs.Common.{◌≡◌, ℕ, zero, suc, true, false, List, [], ◌∷◌, Some, refl, sym, ap, ◌∙◌, pos}
use Rattle.std.specs.Prelude.{◌&&◌, ◌||◌, not, slice_get, codes}
use Rattle.std.specs.List.{list_all}
use denote.Hole.Carrier as carrier
use Rattle.sbe_types.specs.declared.schema.Level as levels
use Rattle.sbe_types.specs.declared.schema.Group as grouped
use Rattle.sbe_types.specs.declared.schema.Field.{Field}
use Rattle.sbe_types.specs.declared.schema.DataField.{DataField}
use Rattle.sbe_types.specs.declared.schema.Group.{Group, Group', out-Group}
use Rattle.sbe_types.specs.declared.schema.Level.{Level, Level', Row_of-Group, end_of-Group, more_of-Group, items-the_row-Group, out-Level}
use Rattle.sbe_types.specs.declared.message.Value.{Value}
use Rattle.sbe_types.specs.declared.message.Value as value
use Rattle.sbe_types.specs.declared.message.DataVal.{DataVal}
use Rattle.sbe_types.specs.declared.message.DataVal.TheVariants as dataval
use Rattle.sbe_types.specs.declared.message.Block.{Block, out-Block}
use Rattle.sbe_types.specs.declared.message.GroupVal.{GroupVal}
use Rattle.sbe_types.specs.declared.message.GroupVal as groupval
use Rattle.sbe_types.specs.Shown.{admits}
use Rattle.sbe_wire.specs.Named.{is_admitted}
use Rattle.version_laws.specs.Plain.{is_absent_part, is_absent_group}
use Rattle.bridge_rules.proofs.OptionLemmas.{some_is, none_some, and_first, and_second}
use Rattle.bridge_rules.proofs.BoolLemmas.{true_false, not_true}
use Rattle.bridge_terms.specs.Plans.{Each}
use Rattle.bridge_terms.specs.Blocks.{nth_or, entries_of}
use Rattle.bridge_plan.specs.Covers.{groups_in, level_in}
use Rattle.bridge_versions.specs.Needed.{is_needed, is_absent, has_fields, has_parts, has_needed, has_groups, has_entries}

-- ---- lists

field_may : (fs : List Field) (vs : List Value) → has_fields fs vs ≡ true → (i : ℕ) (f : Field) → slice_get fs i ≡ Some f → nth_or value.Absent i vs ≡ value.Absent → is_needed f.kind ≡ false
field_may [] vs h i f at gone = none_some at
field_may (g ∷ gs) [] h i f at gone = true_false h refl
field_may (g ∷ gs) (v ∷ vs) h zero f at gone =
    let here = not_true (is_absent v && is_needed g.kind) (and_first _ _ h) in
    ap (λ (x : Field). is_needed x.kind) (sym (some_is at)) ∙ sym (ap (λ w. is_absent w && is_needed g.kind) gone) ∙ here
field_may (g ∷ gs) (v ∷ vs) h (suc i) f at gone = field_may gs vs (and_second _ _ h) i f at gone

part_may : (ds : List DataField) (vs : List DataVal) → has_parts ds vs ≡ true → (i : ℕ) (d : DataField) → slice_get ds i ≡ Some d → nth_or dataval.Absent i vs ≡ dataval.Absent → admits d.length (pos 0) ≡ true
part_may [] vs h i d at gone = none_some at
part_may (e ∷ es) [] h i d at gone = true_false h refl
part_may (e ∷ es) (v ∷ vs) h zero d at gone =
    ap (λ (x : DataField). admits x.length (pos 0)) (sym (some_is at)) ∙ sym (ap (λ w. not (is_absent_part w) || admits e.length (pos 0)) gone) ∙ and_first _ _ h
part_may (e ∷ es) (v ∷ vs) h (suc i) d at gone = part_may es vs (and_second _ _ h) i d at gone

group_has : {n : _} (row : Row_of-Group n) (vs : List GroupVal) → has_groups row vs ≡ true → (i : ℕ) (g : Group) → slice_get (items-the_row-Group _ row) i ≡ Some g → has_entries g (nth_or groupval.Absent i vs) ≡ true
group_has end_of-Group vs h i g at = none_some at
group_has (more_of-Group x rest) [] h i g at = true_false h refl
group_has (more_of-Group x rest) (v ∷ vs) h zero g at = ap (λ y. has_entries y v) (sym (some_is at)) ∙ and_first (has_entries x v) _ h
group_has (more_of-Group x rest) (v ∷ vs) h (suc i) g at = group_has rest vs (and_second (has_entries x v) _ h) i g at

-- ---- a level

record HasParts (level : Level) (block : Block) : Type 0 where
  fields : has_fields (out-Level level).fields (out-Block block).fields ≡ true
  groups : (i : ℕ) (g : Group) → slice_get (groups_in level) i ≡ Some g → has_entries g (nth_or groupval.Absent i (out-Block block).groups) ≡ true
  parts : has_parts (out-Level level).parts (out-Block block).parts ≡ true

level_has : (level : Level) (block : Block) → has_needed level block ≡ true → HasParts level block
unfolding levels.out-Level carrier.out
level_has (Level' name id semantic since block_length fields n groups parts) block h =
    let rest = and_second (has_fields fields (out-Block block).fields) _ h in
    record {
      fields = and_first (has_fields fields (out-Block block).fields) _ h;
      groups = group_has groups (out-Block block).groups (and_first (has_groups groups (out-Block block).groups) _ rest);
      parts = and_second (has_groups groups (out-Block block).groups) _ rest;
    }

pub absent_field : (level : Level) (block : Block) → has_needed level block ≡ true → (i : ℕ) (f : Field) → slice_get (out-Level level).fields i ≡ Some f →
    nth_or value.Absent i (out-Block block).fields ≡ value.Absent → is_needed f.kind ≡ false
absent_field level block h = field_may (out-Level level).fields (out-Block block).fields (level_has level block h).fields

pub absent_data : (level : Level) (block : Block) → has_needed level block ≡ true → (i : ℕ) (d : DataField) → slice_get (out-Level level).parts i ≡ Some d →
    nth_or dataval.Absent i (out-Block block).parts ≡ dataval.Absent → admits d.length (pos 0) ≡ true
absent_data level block h = part_may (out-Level level).parts (out-Block block).parts (level_has level block h).parts

pub own_group : (level : Level) (block : Block) → has_needed level block ≡ true → (i : ℕ) (g : Group) → slice_get (groups_in level) i ≡ Some g → has_entries g (nth_or groupval.Absent i (out-Block block).groups) ≡ true
own_group level block h = (level_has level block h).groups

-- ---- a group

-- an absent group may have no entries
pub absent_group : (g : Group) (v : GroupVal) → has_entries g v ≡ true → v ≡ groupval.Absent → is_admitted (out-Group g).dim (codes "numInGroup") 0 ≡ true
unfolding grouped.out-Group carrier.out
absent_group (Group' dim level) v h gone = sym (ap (λ w. not (is_absent_group w) || is_admitted dim (codes "numInGroup") 0) gone) ∙ and_first _ _ h

each_has : (level : Level) (es : List Block) → list_all (λ e. has_needed level e) es ≡ true → Each (λ e. has_needed level e ≡ true) es
each_has level [] h = tt
each_has level (e ∷ es) h = (and_first (has_needed level e) _ h, each_has level es (and_second (has_needed level e) _ h))

pub own_entries : (g : Group) (v : GroupVal) → has_entries g v ≡ true → Each (λ e. has_needed (level_in g) e ≡ true) (entries_of v)
own_entries (Group' dim level) v h = each_has level (entries_of v) (and_second (not (is_absent_group v) || is_admitted dim (codes "numInGroup") 0) _ h)
