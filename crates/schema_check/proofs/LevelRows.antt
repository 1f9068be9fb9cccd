-- A group that is resolved, over the list of its parts.
use Rattle.std.proofs.Common.{◌≡◌, ℕ, List, [], ◌∷◌, ◌++◌, append_assoc, refl, ap, sym, ◌∙◌}
use Rattle.std.specs.Prelude.{Result, Ok, Err, OnOk}
use Rattle.lists.specs.declared.list.NoMem.{NoMem}
use mathlib.Core.Former.{Count}
use Rattle.sbe_types.specs.declared.schema.Field.{Field}
use Rattle.sbe_types.specs.declared.schema.DataField.{DataField}
use Rattle.sbe_types.specs.declared.schema.Group.{Group, roll-Group}
use Rattle.sbe_types.specs.declared.schema.Level.{Level, roll-Level}
use Rattle.sbe_types.specs.declared.tree.GroupEl.{GroupEl}
use Rattle.sbe_types.specs.declared.tree.PartItem.{PartItem, Row_of-PartItem, end_of-PartItem, more_of-PartItem, items-the_row-PartItem, items_hidden-the_row-PartItem-0}
use Rattle.sbe_types.specs.declared.tree.PartItem as part
use Rattle.schema_rules.specs.Kinds.{members_named}
use Rattle.schema_rules.specs.Resolved.{Within, inside, block_of, with_field, with_data, with_group, row_fields, row_data, row_groups, list_fields, list_data, list_groups}
use Rattle.schema_facts.specs.Ends.{resolved_group}

abbrev row_in : PartItem → (n : Count) × Row_of-PartItem n
row_in (part.Group' _ _ _ _ _ _ row) = (_, row)
row_in _ = (_, end_of-PartItem)

field_row : (within : Within) (n : _) (row : Row_of-PartItem n) → row_fields within row ≡ list_fields within (items-the_row-PartItem n row)
field_row within n end_of-PartItem = refl
field_row within n (more_of-PartItem p rest) = ap (with_field within p) (field_row within _ rest)

data_row : (within : Within) (n : _) (row : Row_of-PartItem n) → row_data within row ≡ list_data within (items-the_row-PartItem n row)
data_row within n end_of-PartItem = refl
data_row within n (more_of-PartItem p rest) = ap (with_data within p) (data_row within _ rest)

group_row : (within : Within) (n : _) (row : Row_of-PartItem n) → row_groups within row ≡ list_groups within (items-the_row-PartItem n row)
group_row within n end_of-PartItem = refl
group_row within n (more_of-PartItem p rest) = ap (with_group within p) (group_row within _ rest)

abbrev made : Within → GroupEl → List Field → List Group → List DataField → Group
made within g fields groups parts =
    roll-Group (record {
      dim = members_named within.types g.dimension_type;
      level = roll-Level (record {
        name = g.name;
        id = g.id;
        semantic = [];
        since = (inside within g.since_version).since;
        block_length = block_of g.block_length fields;
        fields = fields;
        groups = groups;
        parts = parts;
      });
    })

group_made : (within : Within) (g : GroupEl) (rest : List Group) → with_group within (part.Group g) rest ≡ resolved_group within g ∷ rest
group_made within g rest =
    let inner : Within = inside within g.since_version in
    let row = row_in (part.Group g) in
    ap (λ (fs : List Field). made within g fs (row_groups inner row.1) (row_data inner row.1) ∷ rest)
    (field_row inner row.0 row.1 ∙ ap (list_fields inner) (items_hidden-the_row-PartItem-0 g.children))
    ∙ ap (λ (gs : List Group). made within g (list_fields inner g.children) gs (row_data inner row.1) ∷ rest)
    (group_row inner row.0 row.1 ∙ ap (list_groups inner) (items_hidden-the_row-PartItem-0 g.children))
    ∙ ap (λ (ds : List DataField). made within g (list_fields inner g.children) (list_groups inner g.children) ds ∷ rest)
    (data_row inner row.0 row.1 ∙ ap (list_data inner) (items_hidden-the_row-PartItem-0 g.children))

-- a group that was pushed
pub pushed_group : (r : Result (Unit {0}) NoMem) (new old rest : List Group) (one : Group) (within : Within) (p : PartItem) (g : GroupEl) →
    OnOk r (new ≡ old ++ one ∷ []) → p ≡ part.Group g → one ≡ resolved_group within g → OnOk r (new ++ rest ≡ old ++ with_group within p rest)
pushed_group (Err e) new old rest one within p g h is same = tt
pushed_group (Ok u) new old rest one within p g h is same =
    ap (λ (xs : List Group). xs ++ rest) h ∙ append_assoc old (one ∷ []) rest
    ∙ ap (λ (x : Group). old ++ (x ∷ rest)) same
    ∙ ap (λ (xs : List Group). old ++ xs) (sym (group_made within g rest) ∙ ap (λ (q : PartItem). with_group within q rest) (sym is))
