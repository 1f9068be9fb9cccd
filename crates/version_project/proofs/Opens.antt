-- The tests of plain entries, as the code walks.
use Rattle.std.proofs.Common.{◌≡◌, ◌<◌, ℕ, ◌+◌, Bool, true, false, cond, List, [], ◌∷◌, length, drop, get_or, Some, refl, sym, ap, ◌∙◌, subst}
use Rattle.std.specs.Prelude.{◌&&◌, slice_get}
use denote.Hole.Carrier as carrier
use Rattle.sbe_types.specs.declared.schema.Level as levels
use Rattle.sbe_types.specs.declared.schema.Group as groups_of
use Rattle.sbe_types.specs.declared.schema.Group.{Group, Group', out-Group}
use Rattle.sbe_types.specs.declared.schema.Level.{Level, Level', out-Level, Row_of-Group, end_of-Group, more_of-Group, items-the_row-Group, items_shown-the_row-Group-0}
use Rattle.sbe_types.specs.declared.message.Block.{Block, out-Block}
use Rattle.sbe_types.specs.declared.message.GroupVal.{GroupVal, items_hidden-the_row-Block-1}
use Rattle.sbe_types.specs.declared.message.GroupVal.TheVariants as groupval
use Rattle.std.specs.List.{list_all}
use Rattle.version_laws.specs.Differ.{is_old}
use Rattle.version_laws.specs.Plain.{is_absent_group}
use Rattle.version_project.proofs.Items.{drop_at, item_at}
use Rattle.version_project.specs.IsPlain.{all_pairs, part_is_plain, entries_pass, entry_is_plain, groups_are_plain, group_is_plain}

-- ---- a pair of lists, item by item

pub pairs_step : {X Y : Type 0} (test : X → Y → Bool) (xs : List X) (ys : List Y) (i : ℕ) (x : X) (y : Y) → i < length xs → x ≡ get_or xs i x → slice_get ys i ≡ Some y →
    all_pairs test (drop i xs) (drop i ys) ≡ (test x y && all_pairs test (drop (i + 1) xs) (drop (i + 1) ys))
pairs_step test xs ys i x y h at is =
    ap (λ l. all_pairs test l (drop i ys)) (item_at xs xs i x refl h at) ∙ ap (λ l. all_pairs test (x ∷ drop (i + 1) xs) l) (drop_at ys i y is)

pub pairs_go : {X Y : Type 0} (test : X → Y → Bool) (xs zs : List X) (ys : List Y) (i : ℕ) (x : X) (y : Y) (r : Bool) → zs ≡ xs → i < length zs → x ≡ get_or zs i x → slice_get ys i ≡ Some y → r ≡ test x y → r ≡ true →
    all_pairs test (drop i xs) (drop i ys) ≡ all_pairs test xs ys → all_pairs test (drop (i + 1) xs) (drop (i + 1) ys) ≡ all_pairs test xs ys
pairs_go test xs zs ys i x y r same h at is e t so_far =
    sym (ap (λ b. b && all_pairs test (drop (i + 1) xs) (drop (i + 1) ys)) (sym e ∙ t)) ∙ sym (pairs_step test xs ys i x y (subst (λ zs. i < length zs) same h) (subst (λ zs. x ≡ get_or zs i x) same at) is) ∙ so_far

pub pairs_stop : {X Y : Type 0} (test : X → Y → Bool) (xs zs : List X) (ys : List Y) (i : ℕ) (x : X) (y : Y) (r : Bool) → zs ≡ xs → i < length zs → x ≡ get_or zs i x → slice_get ys i ≡ Some y → r ≡ test x y → r ≡ false →
    all_pairs test (drop i xs) (drop i ys) ≡ all_pairs test xs ys → false ≡ all_pairs test xs ys
pairs_stop test xs zs ys i x y r same h at is e t so_far =
    sym (ap (λ b. b && all_pairs test (drop (i + 1) xs) (drop (i + 1) ys)) (sym e ∙ t)) ∙ sym (pairs_step test xs ys i x y (subst (λ zs. i < length zs) same h) (subst (λ zs. x ≡ get_or zs i x) same at) is) ∙ so_far

-- ---- levels

rows_plain : (version : ℕ) {n : _} (groups : Row_of-Group n) (vs : List GroupVal) → groups_are_plain version groups vs ≡ all_pairs (group_is_plain version) (items-the_row-Group _ groups) vs
unfolding groups_are_plain
rows_plain version end_of-Group vs = refl
rows_plain version (more_of-Group g gs) [] = refl
rows_plain version (more_of-Group g gs) (v ∷ vs) = ap (λ t. group_is_plain version g v && t) (rows_plain version gs vs)

pub entry_opens : (version : ℕ) (level : Level) (block : Block) →
    entry_is_plain version level block ≡ (all_pairs (group_is_plain version) (out-Level level).groups (out-Block block).groups && all_pairs (part_is_plain version) (out-Level level).parts (out-Block block).parts)
unfolding entry_is_plain levels.out-Level carrier.out
entry_opens version (Level' name id semantic since block_length fields n groups parts) block =
    ap (λ t. t && all_pairs (part_is_plain version) parts (out-Block block).parts)
    (rows_plain version groups (out-Block block).groups ∙ ap (λ gs. all_pairs (group_is_plain version) gs (out-Block block).groups) (sym (items_shown-the_row-Group-0 n groups)))

pub group_opens : (version : ℕ) (g : Group) (v : GroupVal) →
    group_is_plain version g v ≡ cond (is_old version (out-Level (out-Group g).level).since) (entries_pass (entry_is_plain version (out-Group g).level) v) (is_absent_group v)
unfolding group_is_plain groups_of.out-Group carrier.out
group_opens version (Group' dim level) v = refl

pub both_tests : (version : ℕ) (level : Level) (block : Block) (p q : Bool) → p ≡ all_pairs (group_is_plain version) (out-Level level).groups (out-Block block).groups →
    q ≡ all_pairs (part_is_plain version) (out-Level level).parts (out-Block block).parts → (p && q) ≡ entry_is_plain version level block
both_tests version level block p q h k =
    ap (λ t. t && q) h ∙ ap (λ t. all_pairs (group_is_plain version) (out-Level level).groups (out-Block block).groups && t) k ∙ sym (entry_opens version level block)

pub no_groups_pass : (version : ℕ) (level : Level) (block : Block) (p : Bool) → p ≡ all_pairs (group_is_plain version) (out-Level level).groups (out-Block block).groups → p ≡ false → p ≡ entry_is_plain version level block
no_groups_pass version level block p h f =
    f ∙ ap (λ t. t && all_pairs (part_is_plain version) (out-Level level).parts (out-Block block).parts) (sym f ∙ h) ∙ sym (entry_opens version level block)

pub absent_is_plain : (version : ℕ) (g : Group) (v : GroupVal) → v ≡ groupval.Absent → true ≡ group_is_plain version g v
absent_is_plain version g v h = sym (group_opens version g v ∙ by_both (is_old version (out-Level (out-Group g).level).since))
  where
    by_both : (t : Bool) → cond t (entries_pass (entry_is_plain version (out-Group g).level) v) (is_absent_group v) ≡ true
    by_both true = ap (entries_pass (entry_is_plain version (out-Group g).level)) h
    by_both false = ap is_absent_group h

pub known_is_plain : (version : ℕ) (g : Group) (v : GroupVal) (es : List Block) (r : Bool) → v ≡ groupval.Entries es → is_old version (out-Level (out-Group g).level).since ≡ true → r ≡ list_all (entry_is_plain version (out-Group g).level) es → r ≡ group_is_plain version g v
known_is_plain version g v es r h old e =
    e ∙ ap (list_all (entry_is_plain version (out-Group g).level)) (sym (items_hidden-the_row-Block-1 es)) ∙ ap (entries_pass (entry_is_plain version (out-Group g).level)) (sym h)
    ∙ sym (group_opens version g v ∙ ap (λ t. cond t (entries_pass (entry_is_plain version (out-Group g).level) v) (is_absent_group v)) old)

pub added_is_not : (version : ℕ) (g : Group) (v : GroupVal) (es : List Block) → v ≡ groupval.Entries es → is_old version (out-Level (out-Group g).level).since ≡ false → false ≡ group_is_plain version g v
added_is_not version g v es h old =
    ap is_absent_group (sym h) ∙ sym (group_opens version g v ∙ ap (λ t. cond t (entries_pass (entry_is_plain version (out-Group g).level) v) (is_absent_group v)) old)
