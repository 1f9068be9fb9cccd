-- The trees of what is seen of values are these values.
use Rattle.std.proofs.Common.{◌≡◌, List, [], ◌∷◌, Option, refl, sym, ap, ap₂, ◌∙◌, subst}
use Rattle.std.specs.Prelude.{map}
use denote.Hole.Carrier as carrier
use Rattle.sbe_types.specs.declared.message.Block.{Block}
use Rattle.sbe_types.specs.declared.message.DataVal.{DataVal}
use Rattle.sbe_types.specs.declared.message.DataVal.TheVariants as dataval
use Rattle.sbe_types.specs.declared.message.GroupVal as groupval
use Rattle.sbe_types.specs.declared.message.GroupVal.{GroupVal, Row_of-Block, items-the_row-Block, items_shown-the_row-Block-1, roll-out-GroupVal}
use Rattle.sbe_types.specs.declared.schema.Group as groups
use Rattle.sbe_types.specs.declared.schema.Group.{Group, Group', out-Group}
use Rattle.sbe_types.specs.declared.schema.Level.{Level}
use Rattle.flyweight_view.specs.TypedBlocks.{typed_groups, TypedBlock, typed_level, bytes_in, entries_in}
use Rattle.tree_codec.specs.Trees.{part_of, blocks_of, group_of, Each, IsWhole, GroupIsWhole, GroupsAreWhole, IsWholeBlock, AllWhole, IsWholeGroup, AreWholeGroups}
use Rattle.tree_codec.proofs.WholeLays.{seen_whole}

-- ---- data

part_back : (v : DataVal) → part_of (bytes_in v) ≡ v
part_back dataval.Absent = refl
part_back (dataval.Bytes bytes) = refl

pub parts_back : (vs : List DataVal) → map part_of (map bytes_in vs) ≡ vs
parts_back [] = refl
parts_back (v ∷ vs) = ap₂ (λ (x : DataVal) xs. x ∷ xs) (part_back v) (parts_back vs)

-- ---- groups

entries_is : (n : _) (row : Row_of-Block _) → groupval.TheVariants.Entries (items-the_row-Block _ row) ≡ groupval.TheVariants.Entries' n row
unfolding groupval.out-GroupVal carrier.out groupval.roll-GroupVal carrier.roll
entries_is n row = ap groupval.TheVariants.Entries (sym (items_shown-the_row-Block-1 n row)) ∙ roll-out-GroupVal (groupval.TheVariants.Entries' n row)

blocks_back : (level : Level) (bs : List Block) → blocks_of (map (typed_level level) bs) ≡ bs
blocks_back level [] = refl
blocks_back level (b ∷ bs) = ap (λ xs. b ∷ xs) (blocks_back level bs)

group_back : (level : Level) (v : GroupVal) → group_of (entries_in level v) ≡ v
group_back level groupval.Absent = refl
group_back level (groupval.Entries' n row) = ap groupval.TheVariants.Entries (blocks_back level (items-the_row-Block _ row)) ∙ entries_is n row

pub groups_back : (gs : List Group) (vs : List GroupVal) → GroupsAreWhole gs vs → map group_of (typed_groups gs vs) ≡ vs
groups_back [] [] h = refl
groups_back [] (v ∷ vs) h = absurd h
groups_back (g ∷ gs) [] h = absurd h
groups_back (g ∷ gs) (v ∷ vs) h = ap₂ (λ (x : GroupVal) xs. x ∷ xs) (group_back (out-Group g).level v) (groups_back gs vs h.1)

-- ---- what is seen of them is whole

all_whole : (level : Level) (bs : List Block) → Each (λ entry. IsWhole level entry) bs → AllWhole (map (typed_level level) bs)
all_whole level [] h = tt
all_whole level (b ∷ bs) h = (seen_whole level b h.0, all_whole level bs h.1)

group_seen_whole : (g : Group) (v : GroupVal) → GroupIsWhole g v → IsWholeGroup (entries_in (out-Group g).level v)
unfolding groups.out-Group carrier.out
group_seen_whole (Group' dim level) groupval.Absent h = tt
group_seen_whole (Group' dim level) (groupval.Entries' n row) h = all_whole level (items-the_row-Block _ row) h

pub groups_seen_whole : (gs : List Group) (vs : List GroupVal) → GroupsAreWhole gs vs → AreWholeGroups (typed_groups gs vs)
groups_seen_whole [] [] h = tt
groups_seen_whole [] (v ∷ vs) h = absurd h
groups_seen_whole (g ∷ gs) [] h = absurd h
groups_seen_whole (g ∷ gs) (v ∷ vs) h = (group_seen_whole g v h.0, groups_seen_whole gs vs h.1)

pub first_whole : (o : Option (List TypedBlock)) (os all : List (Option (List TypedBlock))) → all ≡ o ∷ os → AreWholeGroups all → IsWholeGroup o × AreWholeGroups os
first_whole o os all is h = subst AreWholeGroups is h

pub first_entry : (s : TypedBlock) (ss all : List TypedBlock) → all ≡ s ∷ ss → AllWhole all → IsWholeBlock s × AllWhole ss
first_entry s ss all is h = subst AllWhole is h
