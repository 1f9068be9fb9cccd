-- The texts of levels, and of the blocks that a view shows.
use Rattle.std.proofs.Common.{◌≡◌, ◌<◌, ◌+◌, ℕ, zero, suc, List, [], ◌∷◌, ◌++◌, length, Option, Some, None, refl, sym, ap, ◌∙◌, subst, arith}
use Rattle.std.proofs.lemmas.Option.{slice_get_within}
use Rattle.std.specs.Prelude.{slice_get, map, IfSome, ⊤}
use denote.Hole.Carrier as carrier
use Rattle.sbe_types.specs.declared.schema.Group as groups
use Rattle.sbe_types.specs.declared.schema.Level as levels
use Rattle.sbe_types.specs.declared.schema.Group.{Group, Group', out-Group}
use Rattle.sbe_types.specs.declared.schema.Level.{Level, Level', out-Level, Row_of-Group, end_of-Group, more_of-Group, items-the_row-Group, items_shown-the_row-Group-0}
use Rattle.sbe_types.specs.declared.message.Block.{Block, out-Block}
use Rattle.sbe_types.specs.declared.message.GroupVal.{GroupVal, items-the_row-Block}
use Rattle.sbe_types.specs.declared.message.GroupVal as groupval
use Rattle.flyweight_view.specs.TypedBlocks.{TypedBlock, typed_level, entries_in, typed_groups}
use Rattle.json_rows.specs.declared.rows.TextRows.{TextRows}
use Rattle.json_rows.specs.Tables.{HasPieces}
use Rattle.tree_json.specs.declared.texts.LevelTexts.{LevelTexts, out-LevelTexts, roll-LevelTexts, out-roll-LevelTexts}
use Rattle.tree_json.specs.Texts.{level_pieces, texts_at, AreGroupTexts, AreLevelTexts, AreMessageTexts, AreRowTexts, AreTexts, AreTextsOf, AreTextsOfAll, AreTextsOfGroup, HaveTexts}

-- ---- a level's texts, over the list of its groups

mutual
  unfolding groups.out-Group carrier.out

  group_has : (g : Group) (t : LevelTexts) → AreGroupTexts g t → AreLevelTexts (out-Group g).level t
  group_has (Group' dim level) t h = h

  group_back : (g : Group) (t : LevelTexts) → AreLevelTexts (out-Group g).level t → AreGroupTexts g t
  group_back (Group' dim level) t h = h

rows_have : {n : _} (row : Row_of-Group n) (ts : List LevelTexts) → AreRowTexts row ts → HaveTexts (items-the_row-Group _ row) ts
rows_have end_of-Group [] h = tt
rows_have end_of-Group (t ∷ ts) h = absurd h
rows_have (more_of-Group g rest) [] h = absurd h
rows_have (more_of-Group g rest) (t ∷ ts) h = (group_has g t h.0, rows_have rest ts h.1)

rows_back : {n : _} (row : Row_of-Group n) (ts : List LevelTexts) → HaveTexts (items-the_row-Group _ row) ts → AreRowTexts row ts
rows_back end_of-Group [] h = tt
rows_back end_of-Group (t ∷ ts) h = absurd h
rows_back (more_of-Group g rest) [] h = absurd h
rows_back (more_of-Group g rest) (t ∷ ts) h = (group_back g t h.0, rows_back rest ts h.1)

pub level_has : (level : Level) (t : LevelTexts) → AreLevelTexts level t → HasPieces (level_pieces level) (out-LevelTexts t).fields × HaveTexts (out-Level level).groups (out-LevelTexts t).groups
unfolding levels.out-Level carrier.out
level_has (Level' name id semantic since block_length fields n groups parts) t h =
    (h.0, subst (λ gs. HaveTexts gs (out-LevelTexts t).groups) (sym (items_shown-the_row-Group-0 n groups)) (rows_have groups (out-LevelTexts t).groups h.1))

pub level_back : (level : Level) (t : LevelTexts) → HasPieces (level_pieces level) (out-LevelTexts t).fields → HaveTexts (out-Level level).groups (out-LevelTexts t).groups → AreLevelTexts level t
unfolding levels.out-Level carrier.out
level_back (Level' name id semantic since block_length fields n groups parts) t h k =
    (h, rows_back groups (out-LevelTexts t).groups (subst (λ gs. HaveTexts gs (out-LevelTexts t).groups) (items_shown-the_row-Group-0 n groups) k))

-- the texts that are put together of those of a level's fields and groups
pub level_made : (level : Level) (fields : TextRows) (groups : List LevelTexts) → HasPieces (level_pieces level) fields → HaveTexts (out-Level level).groups groups →
    AreLevelTexts level (roll-LevelTexts (record { fields = fields; groups = groups }))
level_made level fields groups h k =
    let same = sym (out-roll-LevelTexts (record { fields = fields; groups = groups })) in
    level_back level (roll-LevelTexts (record { fields = fields; groups = groups })) (subst (λ r. HasPieces (level_pieces level) r.fields) same h) (subst (λ r. HaveTexts (out-Level level).groups r.groups) same k)

-- ---- blocks that are seen

pub block_texts : (level : Level) (b : Block) (t : LevelTexts) → AreLevelTexts level t → AreTextsOf (typed_level level b) t
block_texts level b t h = let two = level_has level t h in record { fields = two.0; groups = two.1 }

blocks_texts : (level : Level) (bs : List Block) (t : LevelTexts) → AreLevelTexts level t → AreTextsOfAll (Some t) (map (typed_level level) bs)
blocks_texts level [] t h = tt
blocks_texts level (b ∷ bs) t h = (block_texts level b t h, blocks_texts level bs t h)

entries_texts : (level : Level) (v : GroupVal) (t : LevelTexts) → AreLevelTexts level t → AreTextsOfGroup (Some t) (entries_in level v)
entries_texts level groupval.Absent t h = tt
entries_texts level (groupval.Entries' n row) t h = blocks_texts level (items-the_row-Block _ row) t h

no_texts_all : (ss : List TypedBlock) → AreTextsOfAll None ss
no_texts_all [] = tt
no_texts_all (s ∷ ss) = (tt, no_texts_all ss)

no_texts_group : (o : Option (List TypedBlock)) → AreTextsOfGroup None o
no_texts_group None = tt
no_texts_group (Some ss) = no_texts_all ss

-- ---- groups, one after another

-- each group from number i on has its texts
abbrev pub GroupsHave : Option LevelTexts → ℕ → List (Option (List TypedBlock)) → Type 0
GroupsHave o i [] = ⊤
GroupsHave o i (x ∷ xs) = AreTextsOfGroup (texts_at o i) x × GroupsHave o (i + 1) xs

no_texts_groups : (i : ℕ) (xs : List (Option (List TypedBlock))) → GroupsHave None i xs
no_texts_groups i [] = tt
no_texts_groups i (x ∷ xs) = (no_texts_group x, no_texts_groups (i + 1) xs)

some_texts_groups : (t : LevelTexts) (k : ℕ) (gs : List Group) (ts : List LevelTexts) (vs : List GroupVal) →
    ((j : ℕ) → slice_get (out-LevelTexts t).groups (k + j) ≡ slice_get ts j) → HaveTexts gs ts → GroupsHave (Some t) k (typed_groups gs vs)
some_texts_groups t k [] ts vs at h = tt
some_texts_groups t k (g ∷ gs) [] vs at h = absurd h
some_texts_groups t k (g ∷ gs) (u ∷ us) [] at h = tt
some_texts_groups t k (g ∷ gs) (u ∷ us) (v ∷ vs) at h =
    let here : slice_get (out-LevelTexts t).groups k ≡ Some u = ap (slice_get (out-LevelTexts t).groups) (omega arith) ∙ at 0 in (
      subst (λ o. AreTextsOfGroup o (entries_in (out-Group g).level v)) (sym here) (entries_texts (out-Group g).level v u h.0),
      some_texts_groups t (k + 1) gs us vs (λ j. ap (slice_get (out-LevelTexts t).groups) (omega arith) ∙ at (suc j)) h.1,
    )

pub groups_have : (o : Option LevelTexts) (s : TypedBlock) → AreTexts o s → GroupsHave o 0 (typed_groups s.groups (out-Block s.block).groups)
groups_have None s h = no_texts_groups 0 (typed_groups s.groups (out-Block s.block).groups)
groups_have (Some t) s h =
    some_texts_groups t 0 s.groups (out-LevelTexts t).groups (out-Block s.block).groups (λ j. ap (slice_get (out-LevelTexts t).groups) (omega arith)) h.groups

-- as many texts as groups
have_many : (gs : List Group) (ts : List LevelTexts) → HaveTexts gs ts → length gs ≡ length ts
have_many [] [] h = refl
have_many [] (t ∷ ts) h = absurd h
have_many (g ∷ gs) [] h = absurd h
have_many (g ∷ gs) (t ∷ ts) h = ap suc (have_many gs ts h.1)

pub group_within : (t : LevelTexts) (s : TypedBlock) (i : ℕ) → AreTextsOf s t → i < length s.groups → i < length (out-LevelTexts t).groups
group_within t s i h low = omega (arith, low, have_many s.groups (out-LevelTexts t).groups h.groups)

pub texts_within : (o : Option LevelTexts) (s : TypedBlock) (i : ℕ) → AreTexts o s → i < length s.groups → IfSome o (λ t. i < length (out-LevelTexts t).groups)
texts_within None s i h low = tt
texts_within (Some t) s i h low = group_within t s i h low

-- the texts of a message's level are those of its root
pub root_texts : (level : Level) (b : Block) (o : Option LevelTexts) → IfSome o (AreLevelTexts level) → AreTexts o (typed_level level b)
root_texts level b None h = tt
root_texts level b (Some t) h = block_texts level b t h

-- ---- while they are made

pub groups_more : (gs : List Group) (ts : List LevelTexts) (g : Group) (t : LevelTexts) → HaveTexts gs ts → AreLevelTexts (out-Group g).level t → HaveTexts (gs ++ g ∷ []) (ts ++ t ∷ [])
groups_more [] [] g t h k = (k, tt)
groups_more [] (u ∷ us) g t h k = absurd h
groups_more (f ∷ fs) [] g t h k = absurd h
groups_more (f ∷ fs) (u ∷ us) g t h k = (h.0, groups_more fs us g t h.1 k)

pub messages_more : (ls : List Level) (ts : List LevelTexts) (l : Level) (t : LevelTexts) → AreMessageTexts ls ts → AreLevelTexts l t → AreMessageTexts (ls ++ l ∷ []) (ts ++ t ∷ [])
messages_more [] [] l t h k = (k, tt)
messages_more [] (u ∷ us) l t h k = absurd h
messages_more (m ∷ ms) [] l t h k = absurd h
messages_more (m ∷ ms) (u ∷ us) l t h k = (h.0, messages_more ms us l t h.1 k)

-- ---- the texts of one message

pub messages_many : (ls : List Level) (ts : List LevelTexts) → AreMessageTexts ls ts → length ls ≡ length ts
messages_many [] [] h = refl
messages_many [] (t ∷ ts) h = absurd h
messages_many (l ∷ ls) [] h = absurd h
messages_many (l ∷ ls) (t ∷ ts) h = ap suc (messages_many ls ts h.1)

some_is : {A : Type 0} {x y : A} → ◌≡◌ {A = Option A} (Some x) (Some y) → x ≡ y
some_is h = cc

pub message_has : (ls : List Level) (ts : List LevelTexts) (i : ℕ) (l : Level) (t : LevelTexts) → AreMessageTexts ls ts → slice_get ls i ≡ Some l → slice_get ts i ≡ Some t → AreLevelTexts l t
message_has [] ts i l t h at has = absurd (omega (arith, slice_get_within [] i l at))
message_has (m ∷ ms) [] i l t h at has = absurd h
message_has (m ∷ ms) (u ∷ us) zero l t h at has = subst (AreLevelTexts l) (some_is has) (subst (λ x. AreLevelTexts x u) (some_is at) h.0)
message_has (m ∷ ms) (u ∷ us) (suc i) l t h at has = message_has ms us i l t h.1 at has
