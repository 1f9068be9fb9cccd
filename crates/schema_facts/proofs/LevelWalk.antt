-- What holds of each level of a tree that passed the rules holds of each level of its checked schema.
use Rattle.std.proofs.Common.{◌≡◌, ◌≤◌, ℕ, suc, false, List, [], ◌∷◌, ◌++◌, length, Option, Some, None, max, refl, ap, sym, subst, ◌∙◌, arith}
use Rattle.std.specs.Prelude.{⊤, Ok, flat_map, unwrap_or, not, nat_lt, ◌&&◌, ◌==◌}
use Rattle.std.specs.List.{AllByRecursion}
use Rattle.std.proofs.lemmas.Bool.{ltb-false}
use mathlib.Core.Former.{list_count, this}
use denote.Hole.Carrier as carrier
use Rattle.sbe_types.specs.declared.schema.Level as levels
use Rattle.sbe_types.specs.declared.schema.Group as groups_of
use Rattle.sbe_types.specs.declared.kind.Member.{Member}
use Rattle.sbe_types.specs.declared.limits.TheConstants.{PART_LIMIT}
use Rattle.sbe_types.specs.declared.schema.Field.{Field}
use Rattle.sbe_types.specs.declared.schema.DataField.{DataField}
use Rattle.sbe_types.specs.declared.schema.Group.{Group, Group', out-Group, roll-Group, out-roll-Group}
use Rattle.sbe_types.specs.declared.schema.Level.{Level, Level', out-Level, roll-Level, out-roll-Level, Row_of-Group, end_of-Group, more_of-Group, items-the_row-Group, items_shown-the_row-Group-0}
use Rattle.sbe_types.specs.declared.tree.PartItem.{PartItem, Row_of-PartItem, end_of-PartItem, more_of-PartItem, items-the_row-PartItem}
use Rattle.sbe_types.specs.declared.tree.PartItem as part
use Rattle.sbe_types.specs.declared.tree.TypesItem.{TypesItem}
use Rattle.sbe_types.specs.InForm.{IsName, IsPartInForm, ArePartsInForm, count_parts}
use Rattle.schema_rules.specs.declared.levels.LevelFacts.{LevelFacts}
use Rattle.schema_rules.specs.declared.levels.LevelScope.{LevelScope}
use Rattle.schema_rules.specs.declared.levels.PartHead.{PartHead}
use Rattle.schema_rules.specs.Kinds.{members_named}
use Rattle.schema_rules.specs.PartRules.{Scope, PartsBefore, no_part, with_part, part_name, entries_level, since_in, dimension_rules, group_rules, level_check, part_check, parts_check, is_short, is_bad_block, begins_wrong, greatest_since}
use Rattle.schema_rules.specs.Resolved.{Within, block_of, row_fields, row_groups, row_data, list_fields, list_groups, list_data, with_field, with_data, with_group}
use Rattle.schema_facts.specs.Levels.{Node, nodes, nodes_below, nodes_of, node}
use Rattle.schema_facts.proofs.LevelSteps.{neither, Kept, EachKept, PartKept, EntriesKept, part_kept, parts_kept, parts_after, first_part, row_list, entries_scope, head_of}

-- ---- nodes over lists

below_is : (t : ℕ) {n : _} (row : Row_of-Group n) → nodes_below t row ≡ flat_map (nodes_of t) (items-the_row-Group _ row)
unfolding nodes_below
below_is t end_of-Group = refl
below_is t (more_of-Group g rest) = ap (λ l. nodes_of t g ++ l) (below_is t rest)

-- a level, and then the levels of its groups
pub nodes_open : (t : ℕ) (dim : Option (List Member)) (level : Level) → nodes t dim level ≡ node t dim level ∷ flat_map (nodes_of t) (out-Level level).groups
unfolding nodes levels.out-Level carrier.out
nodes_open t dim (Level' name id semantic since block_length fields n groups parts) =
    ap (λ l. node t dim (Level' name id semantic since block_length fields n groups parts) ∷ l) (below_is t groups ∙ ap (flat_map (nodes_of t)) (sym (items_shown-the_row-Group-0 n groups)))

-- the levels of a group are those of its level
pub open_group : (t : ℕ) (g : Group) → nodes_of t g ≡ nodes t (Some (out-Group g).dim) (out-Group g).level
unfolding nodes_of groups_of.out-Group carrier.out
open_group t (Group' dim level) = refl

-- what holds of two lists holds of both joined
pub all_joined : {X : Type 0} (P : X → Type 0) (xs ys : List X) → AllByRecursion P xs → AllByRecursion P ys → AllByRecursion P (xs ++ ys)
all_joined P [] ys h k = k
all_joined P (x ∷ xs) ys h k = (h.0, all_joined P xs ys h.1 k)

-- ---- levels of a tree

-- what is the same for all levels of a schema
pub record Base : Type 0 where
  pub types : List TypesItem
  pub version : ℕ
  pub header : List Member

-- what a message or a group says beside its parts
pub record Head : Type 0 where
  pub name : List ℕ
  pub id : ℕ
  pub semantic : List ℕ
  pub stated : Option ℕ

-- a level among the types of its schema
abbrev pub scope_of : Base → LevelScope → Scope
scope_of base level = record { types = base.types; level = level }

-- the same, as the resolved schema is made
abbrev pub within_of : Base → LevelScope → Within
within_of base level = record { types = base.types; since = level.since }

-- what is told of all parts of a level
abbrev pub told_of : Scope → List PartItem → LevelFacts
told_of scope ps = (parts_after scope no_part ps).all

-- a group's dimension, and that its entries take bytes
pub record DimensionKept (base : Base) (dim : List Member) (all : LevelFacts) : Type 0 where
  pub name : List ℕ
  pub is : dim ≡ members_named base.types name
  pub rules : Kept (dimension_rules base.types name)
  pub entry : (all.floor == 0 && not all.alive) ≡ false

-- of the dimension before a level, if there is one
abbrev pub DimKept : Base → Option (List Member) → LevelFacts → Type 0
DimKept base None all = ⊤
DimKept base (Some dim) all = DimensionKept base dim all

-- a level that passed the rules
pub record Passed (base : Base) (level : LevelScope) (dim : Option (List Member)) (head : Head) (ps : List PartItem) : Type 0 where
  pub version : level.version ≡ base.version
  pub since : level.since ≤ base.version
  pub name : IsName head.name
  pub count : length ps ≤ PART_LIMIT
  pub form : AllByRecursion IsPartInForm ps
  pub each : EachKept (scope_of base level) no_part ps
  pub short : is_short head.stated (told_of (scope_of base level) ps).reached ≡ false
  pub wide : is_bad_block (unwrap_or dim base.header) (unwrap_or head.stated (told_of (scope_of base level) ps).reached) ≡ false
  pub told : DimKept base dim (told_of (scope_of base level) ps)

-- ---- the level that it stands for

-- a level with this head and these parts
abbrev pub level_with : Within → Head → List Field → List Group → List DataField → Level
level_with within head fields groups parts =
    roll-Level (record {
      name = head.name;
      id = head.id;
      semantic = head.semantic;
      since = within.since;
      block_length = block_of head.stated fields;
      fields = fields;
      groups = groups;
      parts = parts;
    })

-- the level that parts stand for
abbrev pub level_of : Within → Head → List PartItem → Level
level_of within head ps = level_with within head (list_fields within ps) (list_groups within ps) (list_data within ps)

-- the fields, data and groups of a row are those of its list
pub fields_row : (within : Within) (n : _) (row : Row_of-PartItem n) → row_fields within row ≡ list_fields within (items-the_row-PartItem n row)
fields_row within n end_of-PartItem = refl
fields_row within n (more_of-PartItem p rest) = ap (with_field within p) (fields_row within _ rest)

pub data_row : (within : Within) (n : _) (row : Row_of-PartItem n) → row_data within row ≡ list_data within (items-the_row-PartItem n row)
data_row within n end_of-PartItem = refl
data_row within n (more_of-PartItem p rest) = ap (with_data within p) (data_row within _ rest)

pub groups_row : (within : Within) (n : _) (row : Row_of-PartItem n) → row_groups within row ≡ list_groups within (items-the_row-PartItem n row)
groups_row within n end_of-PartItem = refl
groups_row within n (more_of-PartItem p rest) = ap (with_group within p) (groups_row within _ rest)

-- the level that a row of parts stands for
abbrev pub row_level : Within → Head → {n : _} → Row_of-PartItem n → Level
row_level within head row = level_with within head (row_fields within row) (row_groups within row) (row_data within row)

level_row : (within : Within) (head : Head) (n : _) (row : Row_of-PartItem n) → row_level within head row ≡ level_of within head (items-the_row-PartItem n row)
level_row within head n row =
    ap (λ fs. level_with within head fs (row_groups within row) (row_data within row)) (fields_row within n row)
    ∙ ap (λ gs. level_with within head (list_fields within (items-the_row-PartItem n row)) gs (row_data within row)) (groups_row within n row)
    ∙ ap (λ ds. level_with within head (list_fields within (items-the_row-PartItem n row)) (list_groups within (items-the_row-PartItem n row)) ds) (data_row within n row)

form_row : (n : _) (row : Row_of-PartItem n) → ArePartsInForm row → AllByRecursion IsPartInForm (items-the_row-PartItem n row)
form_row n end_of-PartItem h = tt
form_row n (more_of-PartItem p rest) h = (h.0, form_row _ rest h.1)

-- the groups of such a level
pub groups_of_level : (within : Within) (head : Head) (fields : List Field) (groups : List Group) (parts : List DataField) →
    (out-Level (level_with within head fields groups parts)).groups ≡ groups
groups_of_level within head fields groups parts = ap (λ l. l.groups) (out-roll-Level _)

-- ---- the walk

-- a level of which the version is the schema's, and the since no later
pub record Known (base : Base) (level : LevelScope) : Type 0 where
  pub version : level.version ≡ base.version
  pub since : level.since ≤ base.version

-- a part that passed has no later since than the schema
pub own_known : (level : LevelScope) (all : LevelFacts) (head : PartHead) → begins_wrong level all head ≡ false → head.since ≤ level.version
own_known level all head h =
    ltb-false level.version head.since (neither (nat_lt level.version head.since) (not head.is_fixed && nat_lt (since_in level head.since) (greatest_since all head.class)) h).0

inner_known : (base : Base) (level : LevelScope) (own : ℕ) → Known base level → own ≤ level.version → Known base (entries_level level own)
inner_known base level own known h =
    let late : max level.since own ≤ base.version = omega (arith, known.version, known.since) in
    record { version = known.version; since = late }

-- what a group says beside its parts
abbrev pub head_of_group : List ℕ → ℕ → Option ℕ → Head
head_of_group name id stated = record { name = name; id = id; semantic = []; stated = stated }

row_count : (n : _) (row : Row_of-PartItem n) → length (items-the_row-PartItem n row) ≡ count_parts row
row_count n end_of-PartItem = refl
row_count n (more_of-PartItem p rest) = ap suc (row_count _ rest)

-- a group that passed, with its parts as a list
group_passed : (base : Base) (level : LevelScope) → Known base level → (before : PartsBefore) (name : List ℕ) (id : ℕ) (dimension : List ℕ) (since : ℕ) (stated : Option ℕ) (n : List (Unit {0})) (row : Row_of-PartItem (list_count (this {0}) n 0)) →
    PartKept (scope_of base level) before (part.Group' name id dimension since stated n row) → IsPartInForm (part.Group' name id dimension since stated n row) →
    Passed base (entries_level level since) (Some (members_named base.types dimension)) (head_of_group name id stated) (items-the_row-PartItem _ row)
group_passed base level known before name id dimension since stated n row kept form =
    let inner : Scope = entries_scope (scope_of base level) since in
    let ps : List PartItem = items-the_row-PartItem _ row in
    let own : EntriesKept (scope_of base level) dimension since stated _ row = kept.own in
    let parts = parts_kept inner no_part ps own.found (sym (row_list inner no_part _ row) ∙ own.parts) in
    let rules : Kept (group_rules level.around (members_named base.types dimension) stated (told_of inner ps)) =
    subst (λ (after : PartsBefore). Kept (group_rules level.around (members_named base.types dimension) stated after.all)) parts.told own.group in
    let here = inner_known base level since known (own_known level before.all (head_of (scope_of base level) (part.Group' name id dimension since stated n row)) kept.head.1.1.0) in
    record {
      version = here.version;
      since = here.since;
      name = form.0;
      count = subst (λ k. k ≤ PART_LIMIT) (sym (row_count _ row)) form.2;
      form = form_row _ row form.3;
      each = parts.each;
      short = rules.0;
      wide = rules.1.1.1.0;
      told = record { name = dimension; is = refl; rules = own.members; entry = rules.1.0 };
    }

module _ (base : Base) (P : Node → Type 0) (gives : (t : ℕ) (dim : Option (List Member)) (level : LevelScope) (head : Head) (ps : List PartItem) →
    Passed base level dim head ps → P (node t dim (level_of (within_of base level) head ps))) where
  pub one_level : (t : ℕ) (dim : Option (List Member)) (within : Within) (head : Head) (fields : List Field) (groups : List Group) (parts : List DataField) →
      P (node t dim (level_with within head fields groups parts)) → AllByRecursion P (flat_map (nodes_of t) groups) → AllByRecursion P (nodes t dim (level_with within head fields groups parts))
  one_level t dim within head fields groups parts here below =
      let level : Level = level_with within head fields groups parts in
      subst (λ ns. AllByRecursion P ns) (sym (nodes_open t dim level))
      (here, subst (λ gs. AllByRecursion P (flat_map (nodes_of t) gs)) (sym (groups_of_level within head fields groups parts)) below)

  one_group : (t : ℕ) (dim : List Member) (level : Level) → AllByRecursion P (nodes t (Some dim) level) → AllByRecursion P (nodes_of t (roll-Group (record { dim = dim; level = level })))
  one_group t dim level h =
      let g : Group = roll-Group (record { dim = dim; level = level }) in
      subst (λ ns. AllByRecursion P ns) (sym (open_group t g)) (subst (λ r. AllByRecursion P (nodes t (Some r.dim) r.level)) (sym (out-roll-Group (record { dim = dim; level = level }))) h)

  mutual
    row_walked : (t : ℕ) (level : LevelScope) → Known base level → (before after : PartsBefore) {n : _} (row : Row_of-PartItem n) →
        level_check (scope_of base level) before row ≡ Ok after → ArePartsInForm row → AllByRecursion P (flat_map (nodes_of t) (row_groups (within_of base level) row))
    row_walked t level known before after end_of-PartItem h form = tt
    row_walked t level known before after (more_of-PartItem p rest) h form =
        let scope : Scope = scope_of base level in
        let two = first_part (part_name p) (part_check scope before p) (level_check scope (with_part scope before p) rest) after h in
        part_walked t level known before p (row_groups (within_of base level) rest) two.0 form.0 (row_walked t level known (with_part scope before p) after rest two.1 form.1)

    part_walked : (t : ℕ) (level : LevelScope) → Known base level → (before : PartsBefore) (p : PartItem) (gs : List Group) →
        part_check (scope_of base level) before p ≡ Ok tt → IsPartInForm p → AllByRecursion P (flat_map (nodes_of t) gs) → AllByRecursion P (flat_map (nodes_of t) (with_group (within_of base level) p gs))
    part_walked t level known before (part.Field f) gs h form below = below
    part_walked t level known before (part.Data d) gs h form below = below
    part_walked t level known before (part.Group' name id dimension since stated n row) gs h form below =
        let scope : Scope = scope_of base level in
        let kept = part_kept scope before (part.Group' name id dimension since stated n row) h in
        let own : EntriesKept scope dimension since stated _ row = kept.own in
        let inner : LevelScope = entries_level level since in
        let within : Within = within_of base inner in
        let dim : List Member = members_named base.types dimension in
        let head : Head = head_of_group name id stated in
        let passed = group_passed base level known before name id dimension since stated n row kept form in
        let here : P (node t (Some dim) (row_level within head row)) =
        subst (λ (l : Level). P (node t (Some dim) l)) (sym (level_row within head _ row)) (gives t (Some dim) inner head (items-the_row-PartItem _ row) passed) in
        let inside = row_walked t inner (record { version = passed.version; since = passed.since }) no_part own.found row own.parts form.3 in
        let whole = one_group t dim (row_level within head row) (one_level t (Some dim) within head (row_fields within row) (row_groups within row) (row_data within row) here inside) in
        all_joined P (nodes_of t (roll-Group (record { dim = dim; level = row_level within head row }))) (flat_map (nodes_of t) gs) whole below

  -- the groups of parts that were judged, as a list
  pub parts_walked : (t : ℕ) (level : LevelScope) → Known base level → (before after : PartsBefore) (ps : List PartItem) →
      parts_check (scope_of base level) before ps ≡ Ok after → AllByRecursion IsPartInForm ps → AllByRecursion P (flat_map (nodes_of t) (list_groups (within_of base level) ps))
  parts_walked t level known before after [] h form = tt
  parts_walked t level known before after (p ∷ ps) h form =
      let scope : Scope = scope_of base level in
      let two = first_part (part_name p) (part_check scope before p) (parts_check scope (with_part scope before p) ps) after h in
      part_walked t level known before p (list_groups (within_of base level) ps) two.0 form.0 (parts_walked t level known (with_part scope before p) after ps two.1 form.1)
