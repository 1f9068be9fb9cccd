-- The walk that copies what an older schema knows.
use Rattle.std.proofs.Common.{◌≡◌, ◌<◌, ℕ, ◌+◌, Bool, true, false, cond, List, [], ◌∷◌, ◌++◌, length, drop, get_or, Some, refl, sym, ap, ◌∙◌, subst, append_assoc, map}
use Rattle.std.specs.Prelude.{slice_get}
use denote.Hole.Carrier as carrier
use Rattle.sbe_types.specs.declared.schema.Level as levels
use Rattle.sbe_types.specs.declared.schema.Group as groups_of
use Rattle.sbe_types.specs.declared.schema.Field.{Field}
use Rattle.sbe_types.specs.declared.schema.DataField.{DataField}
use Rattle.sbe_types.specs.declared.schema.Group.{Group, Group', out-Group}
use Rattle.sbe_types.specs.declared.schema.Level.{Level, Level', out-Level, Row_of-Group, end_of-Group, more_of-Group, items-the_row-Group, items_shown-the_row-Group-0}
use Rattle.sbe_types.specs.declared.message.Value.{Value}
use Rattle.sbe_types.specs.declared.message.DataVal.{DataVal}
use Rattle.sbe_types.specs.declared.message.Block.{Block, out-Block}
use Rattle.sbe_types.specs.declared.message.GroupVal.{GroupVal}
use Rattle.sbe_types.specs.declared.message.GroupVal.TheVariants as groupval
use Rattle.version_project.specs.Each.{known_each, known_fields, known_groups, known_parts}
use Rattle.version_laws.specs.Differ.{is_old, group_since}
use Rattle.version_laws.specs.Projected.{each_entry, old_field, old_part, projected_list, projected_block, projected_groups, projected_group}
use Rattle.version_laws.proofs.TailMoves.{each_of}
use Rattle.version_project.proofs.Items.{drop_at, item_at}

module _ {X Y : Type 0} (known : X → Bool) (f : X → Y → Y) where
  each_step : (xs : List X) (ys : List Y) (i : ℕ) (x : X) (y : Y) → i < length xs → x ≡ get_or xs i x → slice_get ys i ≡ Some y →
      known_each known f (drop i xs) (drop i ys) ≡ cond (known x) (f x y ∷ known_each known f (drop (i + 1) xs) (drop (i + 1) ys)) (known_each known f (drop (i + 1) xs) (drop (i + 1) ys))
  each_step xs ys i x y h at is =
      ap (λ l. known_each known f l (drop i ys)) (item_at xs xs i x refl h at) ∙ ap (λ l. known_each known f (x ∷ drop (i + 1) xs) l) (drop_at ys i y is)

  pub each_go : (xs zs : List X) (ys out : List Y) (i : ℕ) (x : X) (y r : Y) (whole : List Y) → zs ≡ xs → i < length zs → x ≡ get_or zs i x → slice_get ys i ≡ Some y → known x ≡ true → r ≡ f x y →
      out ++ known_each known f (drop i xs) (drop i ys) ≡ whole → (out ++ r ∷ []) ++ known_each known f (drop (i + 1) xs) (drop (i + 1) ys) ≡ whole
  each_go xs zs ys out i x y r whole same h at is old e so_far =
      let rest = known_each known f (drop (i + 1) xs) (drop (i + 1) ys) in
      append_assoc out (r ∷ []) rest ∙ ap (λ r. out ++ (r ∷ rest)) e
      ∙ sym (ap (λ l. out ++ l) (each_step xs ys i x y (subst (λ zs. i < length zs) same h) (subst (λ zs. x ≡ get_or zs i x) same at) is ∙ ap (λ t. cond t (f x y ∷ rest) rest) old)) ∙ so_far

  -- a part that old lacks, where there is a value
  pub each_pass : (xs zs : List X) (ys out : List Y) (i : ℕ) (x : X) (y : Y) (whole : List Y) → zs ≡ xs → i < length zs → x ≡ get_or zs i x → slice_get ys i ≡ Some y → known x ≡ false →
      out ++ known_each known f (drop i xs) (drop i ys) ≡ whole → out ++ known_each known f (drop (i + 1) xs) (drop (i + 1) ys) ≡ whole
  each_pass xs zs ys out i x y whole same h at is old so_far =
      let rest = known_each known f (drop (i + 1) xs) (drop (i + 1) ys) in
      sym (ap (λ l. out ++ l) (each_step xs ys i x y (subst (λ zs. i < length zs) same h) (subst (λ zs. x ≡ get_or zs i x) same at) is ∙ ap (λ t. cond t (f x y ∷ rest) rest) old)) ∙ so_far

parts_each : (version : ℕ) (ps : List DataField) (vs : List DataVal) → projected_list (old_part version) ps vs ≡ known_parts version ps vs
parts_each version [] vs = refl
parts_each version (p ∷ ps) [] = refl
parts_each version (p ∷ ps) (v ∷ vs) = ap (λ r. cond (old_part version p) (v ∷ r) r) (parts_each version ps vs)

fields_each : (version : ℕ) (fs : List Field) (vs : List Value) → projected_list (old_field version) fs vs ≡ known_fields version fs vs
fields_each version [] vs = refl
fields_each version (f ∷ fs) [] = refl
fields_each version (f ∷ fs) (v ∷ vs) = ap (λ r. cond (old_field version f) (v ∷ r) r) (fields_each version fs vs)

rows_each : (version : ℕ) {n : _} (groups : Row_of-Group n) (vs : List GroupVal) → projected_groups version groups vs ≡ known_groups version (items-the_row-Group _ groups) vs
unfolding projected_groups
rows_each version end_of-Group vs = refl
rows_each version (more_of-Group g gs) [] = refl
rows_each version (more_of-Group g gs) (v ∷ vs) = ap (λ r. cond (is_old version (group_since g)) (projected_group version g v ∷ r) r) (rows_each version gs vs)

abbrev pub block_of : List Value → List GroupVal → List DataVal → Block
block_of fields groups parts = record { fields = fields; groups = groups; parts = parts }

pub block_is : (version : ℕ) (level : Level) (block : Block) (fields : List Value) (groups : List GroupVal) (parts : List DataVal) →
    fields ≡ known_fields version (out-Level level).fields (out-Block block).fields →
    groups ≡ known_groups version (out-Level level).groups (out-Block block).groups →
    parts ≡ known_parts version (out-Level level).parts (out-Block block).parts →
    block_of fields groups parts ≡ projected_block version level block
unfolding projected_block levels.out-Level carrier.out
block_is version (Level' name id semantic since block_length fs n gs ps) block fields groups parts a b c =
    ap (λ x. block_of x groups parts) (a ∙ sym (fields_each version fs (out-Block block).fields))
    ∙ ap (λ x. block_of (out-Block (projected_block version (Level' name id semantic since block_length fs n gs ps) block)).fields x parts)
    (b ∙ ap (λ l. known_groups version l (out-Block block).groups) (items_shown-the_row-Group-0 n gs) ∙ sym (rows_each version gs (out-Block block).groups))
    ∙ ap (λ x. block_of (out-Block (projected_block version (Level' name id semantic since block_length fs n gs ps) block)).fields (projected_groups version gs (out-Block block).groups) x) (c ∙ sym (parts_each version ps (out-Block block).parts))

pub group_is : (version : ℕ) (g : Group) (v : GroupVal) → projected_group version g v ≡ each_entry (projected_block version (out-Group g).level) v
unfolding projected_group groups_of.out-Group carrier.out
group_is version (Group' dim level) v = refl

pub absent_is : (version : ℕ) (g : Group) (v : GroupVal) → v ≡ groupval.Absent → groupval.Absent ≡ projected_group version g v
absent_is version g v h = sym (group_is version g v ∙ ap (each_entry (projected_block version (out-Group g).level)) h)

pub entries_are : (version : ℕ) (g : Group) (v : GroupVal) (es out : List Block) → v ≡ groupval.Entries es → out ≡ map (projected_block version (out-Group g).level) es → groupval.Entries out ≡ projected_group version g v
entries_are version g v es out h e =
    ap groupval.Entries e ∙ sym (group_is version g v ∙ ap (each_entry (projected_block version (out-Group g).level)) h ∙ each_of (projected_block version (out-Group g).level) es)
