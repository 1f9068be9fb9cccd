-- A message has no more entries in another version of its schema.
use Rattle.std.proofs.Common.{◌≡◌, ◌≤◌, ◌+◌, ℕ, suc, Bool, true, false, List, [], ◌∷◌, map, Some, refl, sym, ap, ◌∙◌, subst, arith}
use Rattle.std.specs.Bool.{MatchBool}
use denote.Hole.Carrier as carrier
use Rattle.sbe_types.specs.declared.schema.Level as levels
use Rattle.sbe_types.specs.declared.schema.Group.{Group, Group'}
use Rattle.sbe_types.specs.declared.schema.Level.{Level, Level', Row_of-Group, end_of-Group, more_of-Group}
use Rattle.sbe_types.specs.declared.message.Block.{Block, out-Block}
use Rattle.sbe_types.specs.declared.message.GroupVal.{GroupVal, items-the_row-Block, items_hidden-the_row-Block-1}
use Rattle.sbe_types.specs.declared.message.GroupVal.TheVariants as groupval
use Rattle.sbe_wire.specs.Canonical.{entries_in}
use Rattle.schema_facts.specs.Counted.{total, over_entries, count_in, count_groups, count_group}
use Rattle.version_laws.specs.Differ.{is_old, group_since}
use Rattle.version_laws.specs.Projected.{each_entry, projected_block, projected_groups, projected_group, lifted_block, lifted_groups, lifted_group}
use Rattle.version_laws.proofs.Stands.{Lists, LevelStands, GroupsStand, GroupStands}
use Rattle.version_laws.proofs.BlockMoves.{taken, passed, by_bool}
use Rattle.regrade_laws.proofs.Filling.{choice_yes, choice_not}

total_map : (f g : Block → ℕ) (move : Block → Block) → ((e : Block) → f (move e) ≤ g e) → (es : List Block) → total f (map move es) ≤ total g es
total_map f g move each [] = omega arith
total_map f g move each (e ∷ es) = omega (arith, each e, total_map f g move each es)

-- entries that are moved, counted
moved_entries : (f g : Block → ℕ) (move : Block → Block) → ((e : Block) → f (move e) ≤ g e) → (v : GroupVal) → over_entries f (entries_in (each_entry move v)) ≤ over_entries g (entries_in v)
moved_entries f g move each groupval.Absent = omega arith
moved_entries f g move each (groupval.Entries' n row) =
    let es = items-the_row-Block _ row in
    let is : over_entries f (entries_in (groupval.Entries (map move es))) ≡ total f (map move es) = ap (λ bs. total f bs) (items_hidden-the_row-Block-1 (map move es)) in
    omega (arith, is, total_map f g move each es)

-- an absent group has no entries
absent_none : (g : Group) → count_group g groupval.Absent ≡ 0
unfolding count_in
absent_none (Group' dim level) = refl

no_values : {n : _} (row : Row_of-Group n) → count_groups row [] ≡ 0
unfolding count_in
no_values end_of-Group = refl
no_values (more_of-Group g gs) = refl

module _ (R : Lists) (version : ℕ) where
  mutual
    unfolding count_in lifted_block levels.out-Level carrier.out

    pub lifted_entries : (old level : Level) (block : Block) → LevelStands R version old level → count_in level (lifted_block version level block) ≤ count_in old block
    lifted_entries (Level' _ _ _ _ _ fs _ os ps) (Level' _ _ _ _ _ gs _ ns qs) block h = lifted_rows os ns (out-Block block).groups h.1

    lifted_rows : {n : _} (olds : Row_of-Group n) {k : _} (news : Row_of-Group k) (vs : List GroupVal) → GroupsStand R version olds news → count_groups news (lifted_groups version news vs) ≤ count_groups olds vs
    lifted_rows end_of-Group end_of-Group vs h = omega arith
    lifted_rows (more_of-Group f fs) end_of-Group vs h = absurd h
    lifted_rows end_of-Group (more_of-Group g gs) [] h =
        by_bool _ (is_old version (group_since g)) (λ o. absurd (taken _ _ _ o h)) (λ o. omega (arith, absent_none g, lifted_rows end_of-Group gs [] (passed _ _ _ o h)))
    lifted_rows end_of-Group (more_of-Group g gs) (v ∷ vs) h =
        by_bool _ (is_old version (group_since g)) (λ o. absurd (taken _ _ _ o h))
        (λ o. let later : count_groups gs (lifted_groups version gs (v ∷ vs)) ≤ 0 = lifted_rows end_of-Group gs (v ∷ vs) (passed _ _ _ o h) in
        subst (λ xs. count_groups (more_of-Group g gs) xs ≤ 0) (sym (choice_not (is_old version (group_since g)) (lifted_group version g v ∷ lifted_groups version gs vs) (groupval.Absent ∷ lifted_groups version gs (v ∷ vs)) o))
        (omega (arith, absent_none g, later)))
    lifted_rows (more_of-Group f fs) (more_of-Group g gs) [] h =
        by_bool _ (is_old version (group_since g))
        (λ o. omega (arith, absent_none g, lifted_rows fs gs [] (taken _ _ _ o h).1, no_values fs))
        (λ o. omega (arith, absent_none g, lifted_rows (more_of-Group f fs) gs [] (passed _ _ _ o h)))
    lifted_rows (more_of-Group f fs) (more_of-Group g gs) (v ∷ vs) h =
        by_bool _ (is_old version (group_since g))
        (λ o. let k = taken _ _ _ o h in
        let here = lifted_one f g v k.0 in
        let later = lifted_rows fs gs vs k.1 in
        subst (λ xs. count_groups (more_of-Group g gs) xs ≤ count_groups (more_of-Group f fs) (v ∷ vs)) (sym (choice_yes (is_old version (group_since g)) (lifted_group version g v ∷ lifted_groups version gs vs) (groupval.Absent ∷ lifted_groups version gs (v ∷ vs)) o))
        (omega (arith, here, later)))
        (λ o. let later : count_groups gs (lifted_groups version gs (v ∷ vs)) ≤ count_groups (more_of-Group f fs) (v ∷ vs) = lifted_rows (more_of-Group f fs) gs (v ∷ vs) (passed _ _ _ o h) in
        subst (λ xs. count_groups (more_of-Group g gs) xs ≤ count_groups (more_of-Group f fs) (v ∷ vs)) (sym (choice_not (is_old version (group_since g)) (lifted_group version g v ∷ lifted_groups version gs vs) (groupval.Absent ∷ lifted_groups version gs (v ∷ vs)) o))
        (omega (arith, absent_none g, later)))

    lifted_one : (f g : Group) (v : GroupVal) → GroupStands R version f g → count_group g (lifted_group version g v) ≤ count_group f v
    lifted_one (Group' od old) (Group' dim level) v h =
        moved_entries (λ e. suc (count_in level e)) (λ e. suc (count_in old e)) (λ e. lifted_block version level e) (λ e. omega (arith, lifted_entries old level e h.2)) v

  mutual
    unfolding count_in projected_block levels.out-Level carrier.out

    pub projected_entries : (old level : Level) (block : Block) → LevelStands R version old level → count_in old (projected_block version level block) ≤ count_in level block
    projected_entries (Level' _ _ _ _ _ fs _ os ps) (Level' _ _ _ _ _ gs _ ns qs) block h = projected_rows os ns (out-Block block).groups h.1

    projected_rows : {n : _} (olds : Row_of-Group n) {k : _} (news : Row_of-Group k) (vs : List GroupVal) → GroupsStand R version olds news → count_groups olds (projected_groups version news vs) ≤ count_groups news vs
    projected_rows end_of-Group news vs h = omega arith
    projected_rows (more_of-Group f fs) end_of-Group vs h = absurd h
    projected_rows (more_of-Group f fs) (more_of-Group g gs) [] h = omega arith
    projected_rows (more_of-Group f fs) (more_of-Group g gs) (v ∷ vs) h =
        by_bool _ (is_old version (group_since g))
        (λ o. let k = taken _ _ _ o h in
        let here = projected_one f g v k.0 in
        let later = projected_rows fs gs vs k.1 in
        subst (λ xs. count_groups (more_of-Group f fs) xs ≤ count_groups (more_of-Group g gs) (v ∷ vs)) (sym (choice_yes (is_old version (group_since g)) (projected_group version g v ∷ projected_groups version gs vs) (projected_groups version gs vs) o))
        (omega (arith, here, later)))
        (λ o. let later : count_groups (more_of-Group f fs) (projected_groups version gs vs) ≤ count_groups gs vs = projected_rows (more_of-Group f fs) gs vs (passed _ _ _ o h) in
        subst (λ xs. count_groups (more_of-Group f fs) xs ≤ count_groups (more_of-Group g gs) (v ∷ vs)) (sym (choice_not (is_old version (group_since g)) (projected_group version g v ∷ projected_groups version gs vs) (projected_groups version gs vs) o))
        (omega (arith, later)))

    projected_one : (f g : Group) (v : GroupVal) → GroupStands R version f g → count_group f (projected_group version g v) ≤ count_group g v
    projected_one (Group' od old) (Group' dim level) v h =
        moved_entries (λ e. suc (count_in old e)) (λ e. suc (count_in level e)) (λ e. projected_block version level e) (λ e. omega (arith, projected_entries old level e h.2)) v
