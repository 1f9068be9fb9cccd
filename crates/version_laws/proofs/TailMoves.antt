-- Groups and data of levels that stand to each other.
use Rattle.std.proofs.Common.{◌≡◌, ℕ, suc, Bool, true, false, cond, List, [], ◌∷◌, length, take, drop, map, refl, sym, ap, ◌∙◌, subst}
use Rattle.std.specs.Prelude.{IsTrue, pos}
use Rattle.std.specs.Bool.{MatchBool}
use denote.Hole.Carrier as carrier
use Rattle.sbe_types.specs.declared.schema.Level as levels
use Rattle.sbe_types.specs.declared.kind.Order.{Order}
use Rattle.sbe_types.specs.declared.kind.Member.{Member}
use Rattle.sbe_types.specs.declared.kind.Leaf.{Leaf as LeafOf}
use Rattle.sbe_types.specs.declared.schema.DataField.{DataField}
use Rattle.sbe_types.specs.declared.schema.Group.{Group, Group'}
use Rattle.sbe_types.specs.declared.schema.Level.{Level, Level', out-Level, Row_of-Group, end_of-Group, more_of-Group}
use Rattle.sbe_types.specs.declared.message.Value.TheVariants as value
use Rattle.sbe_types.specs.declared.message.DataVal.{DataVal}
use Rattle.sbe_types.specs.declared.message.DataVal.TheVariants as dataval
use Rattle.sbe_types.specs.declared.message.Block.{Block, out-Block}
use Rattle.sbe_types.specs.declared.message.GroupVal.{GroupVal, items_hidden-the_row-Block-1}
use Rattle.sbe_types.specs.declared.message.GroupVal.TheVariants as groupval
use Rattle.sbe_types.specs.Numbers.{number_of, natural, prim_width}
use Rattle.sbe_types.specs.Shown.{admits}
use Rattle.sbe_wire.specs.declared.mode.Mode.{Mode}
use Rattle.sbe_wire.specs.Versions.{is_alive, form_of}
use Rattle.sbe_wire.specs.Lays.{IsConcatenation, IsConcatenationOfBoth, DataLies, DataLays, DimensionLays, BlockLays, EntryLays, TailLays, GroupsLay, GroupLays}
use Rattle.sbe_wire.specs.Placed.{ArePlaced, IsPlacedLevel}
use Rattle.version_laws.specs.Differ.{is_old, group_since}
use Rattle.version_laws.specs.Projected.{each_entry, projected_list, lifted_list, old_field, old_part, projected_block, lifted_block, lifted_groups, lifted_group}
use Rattle.version_laws.proofs.Stands.{Lists, Listed, FieldsStand, PartStands, PartsStand, LevelStands, GroupsStand, GroupStands}
use Rattle.version_laws.proofs.KindMoves.{Keeps}
use Rattle.version_laws.proofs.NamedMoves.{dimension_moves}
use Rattle.version_laws.proofs.BlockMoves.{moded, taken, passed, pass_it, chosen_alike, by_bool, AlikeTo, DeadBeyond, lift_block}

-- ---- entries

pub each_of : (f : Block → Block) (es : List Block) → each_entry f (groupval.Entries es) ≡ groupval.Entries (map f es)
each_of f es = ap (λ bs. groupval.Entries (map f bs)) (items_hidden-the_row-Block-1 es)

pub map_length : (f : Block → Block) (es : List Block) → length (map f es) ≡ length es
map_length f [] = refl
map_length f (e ∷ es) = ap (λ n. suc n) (map_length f es)

pub joined_map : (P Q : Block → List ℕ → Type 0) (f : Block → Block) → ((e : Block) (b : List ℕ) → P e b → Q (f e) b) → (es : List Block) (b : List ℕ) → IsConcatenation P es b → IsConcatenation Q (map f es) b
joined_map P Q f step [] b h = h
joined_map P Q f step (e ∷ es) b h = (h.0, h.1, h.2, step e h.0 h.3, joined_map P Q f step es h.1 h.4)

pub chosen_both : (X Y Z W : Type 0) (t u : Bool) → t ≡ u → (X → Z) → (Y → W) → MatchBool t X Y → MatchBool u Z W
chosen_both X Y Z W t u e f g h = subst (λ u. MatchBool u Z W) e (by_case t h)
  where
    by_case : (t : Bool) → MatchBool t X Y → MatchBool t Z W
    by_case true h = f h
    by_case false h = g h

-- ---- data

part_moves : (order : Order) (f g : DataField) → f.length ≡ g.length → (bytes b : List ℕ) → DataLies order f bytes b → DataLies order g bytes b
part_moves order f g e bytes b h = record {
  before = h.before;
  whole = h.whole;
  wide = h.wide ∙ ap (λ (l : LeafOf). prim_width l.prim) e;
  counts = sym (ap (λ (l : LeafOf). natural (number_of order l.prim h.before)) e) ∙ h.counts;
  admitted = subst (λ (l : LeafOf). IsTrue (admits l (pos (length bytes)))) e h.admitted;
}

pub data_moves : (order : Order) (version version' : ℕ) (f g : DataField) → f.length ≡ g.length → is_alive version f.since ≡ is_alive version' g.since → (v : DataVal) (b : List ℕ) →
    DataLays order version f v b → DataLays order version' g v b
data_moves order version version' f g e alive v b lies =
    chosen_alike _ _ _ (is_alive version f.since) (is_alive version' g.since) alive (λ s. (s.0, s.1, part_moves order f g e s.0 b s.2)) lies

pub absent_data : (order : Order) (version : ℕ) (g : DataField) (v : DataVal) (b : List ℕ) → v ≡ dataval.Absent → DataLays order version g v b → b ≡ []
absent_data order version g v b is lies =
    by_bool _ (is_alive version g.since) (λ o. absurd (never (sym is ∙ (taken _ _ _ o lies).1))) (λ o. (passed _ _ _ o lies).1)
  where
    never : {bytes : List ℕ} → ◌≡◌ {A = DataVal} dataval.Absent (dataval.Bytes bytes) → ⊥
    never k = cc

-- ---- the fields of a level

pub fields_stand : (R : Lists) (least : ℕ) (old level : Level) → LevelStands R least old level → FieldsStand R least 0 (out-Level old).fields 0 (out-Level level).fields
unfolding levels.out-Level carrier.out
fields_stand R least (Level' _ _ _ _ _ fs _ os ps) (Level' _ _ _ _ _ gs _ ns qs) h = h.0

pub placed_fields : (level : Level) → IsPlacedLevel level → ArePlaced 0 (out-Level level).fields
unfolding levels.out-Level carrier.out
placed_fields (Level' name id semantic since block_length fields n groups parts) h = h.0

pub lifted_fields : (least : ℕ) (level : Level) (block : Block) → (out-Block (lifted_block least level block)).fields ≡ lifted_list (old_field least) value.Absent (out-Level level).fields (out-Block block).fields
unfolding levels.out-Level carrier.out lifted_block
lifted_fields least (Level' _ _ _ _ _ gs _ ns qs) block = refl

pub projected_fields : (least : ℕ) (level : Level) (block : Block) → (out-Block (projected_block least level block)).fields ≡ projected_list (old_field least) (out-Level level).fields (out-Block block).fields
unfolding levels.out-Level carrier.out projected_block
projected_fields least (Level' _ _ _ _ _ gs _ ns qs) block = refl

-- ---- tails, from old to new

module _ (order : Order) (R : Lists) (known known' : Bool) (least version version' : ℕ) (alike : AlikeTo least version version') where
  abbrev mode : Mode
  mode = moded order known version

  abbrev mode' : Mode
  mode' = moded order known' version'

  part_alive : (f g : DataField) → PartStands f g → is_old least g.since ≡ true → is_alive version f.since ≡ is_alive version' g.since
  part_alive f g h o = ap (is_alive version) h.since ∙ alike g.since o

  pub lift_parts : DeadBeyond least version' → (olds news : List DataField) → PartsStand least olds news → (vs : List DataVal) (b : List ℕ) →
      IsConcatenationOfBoth (DataLays order version) olds vs b → IsConcatenationOfBoth (DataLays order version') news (lifted_list (old_part least) dataval.Absent news vs) b
  lift_parts dead [] [] h [] b lies = lies
  lift_parts dead [] [] h (v ∷ vs) b lies = absurd lies
  lift_parts dead (f ∷ fs) [] h vs b lies = absurd h
  lift_parts dead [] (g ∷ gs) h [] b lies =
      by_bool _ (is_old least g.since) (λ o. absurd (taken _ _ _ o h))
      (λ o. ([], b, refl, pass_it _ _ _ (dead g.since o) (refl, refl), lift_parts dead [] gs (passed _ _ _ o h) [] b lies))
  lift_parts dead [] (g ∷ gs) h (v ∷ vs) b lies = absurd lies
  lift_parts dead (f ∷ fs) (g ∷ gs) h [] b lies = absurd lies
  lift_parts dead (f ∷ fs) (g ∷ gs) h (v ∷ vs) b lies =
      by_bool _ (is_old least g.since)
      (λ o. let k = taken _ _ _ o h in
      subst (λ t. IsConcatenationOfBoth (DataLays order version') (g ∷ gs) (cond t (v ∷ lifted_list (old_part least) dataval.Absent gs vs) (dataval.Absent ∷ lifted_list (old_part least) dataval.Absent gs (v ∷ vs))) b) (sym o)
      (lies.0, lies.1, lies.2, data_moves order version version' f g k.0.length (part_alive f g k.0 o) v lies.0 lies.3, lift_parts dead fs gs k.1 vs lies.1 lies.4))
      (λ o. subst (λ t. IsConcatenationOfBoth (DataLays order version') (g ∷ gs) (cond t (v ∷ lifted_list (old_part least) dataval.Absent gs vs) (dataval.Absent ∷ lifted_list (old_part least) dataval.Absent gs (v ∷ vs))) b) (sym o)
      ([], b, refl, pass_it _ _ _ (dead g.since o) (refl, refl), lift_parts dead (f ∷ fs) gs (passed _ _ _ o h) (v ∷ vs) b lies))

  -- an entry, and then a group, where the tail of an entry lifts
  module _ (keeps : Keeps R known known') (dead : DeadBeyond least version') (old_dim dim : List Member) (old level : Level) (stands : GroupStands R least (Group' old_dim old) (Group' dim level)) where
    abbrev TailLifts : Type 0
    TailLifts = (entry : Block) (b : List ℕ) → TailLays mode old entry b → TailLays mode' level (lifted_block least level entry) b

    abbrev OldEntry : ℕ → Block → List ℕ → Type 0
    OldEntry k = EntryLays (λ entry e. TailLays mode old entry e) (form_of mode old) k

    abbrev NewEntry : ℕ → Block → List ℕ → Type 0
    NewEntry k = EntryLays (λ entry e. TailLays mode' level entry e) (form_of mode' level) k

    lift_entry : TailLifts → (k : ℕ) (entry : Block) (b : List ℕ) → OldEntry k entry b → NewEntry k (lifted_block least level entry) b
    lift_entry tail k entry b lies =
        let block = lift_block order R known known' least version version' alike keeps dead (out-Level old).fields (out-Level level).fields (fields_stand R least old level stands.2) (out-Block entry).fields (take k b) lies.1 in
        (lies.0, subst (λ vs. BlockLays mode' (out-Level level).fields vs (take k b)) (sym (lifted_fields least level entry)) block, tail entry (drop k b) lies.2)

    of_group : TailLifts → is_old least (out-Level level).since ≡ true → (v : GroupVal) (b : List ℕ) → GroupLays mode (Group' old_dim old) v b →
        GroupLays mode' (Group' dim level) (lifted_group least (Group' dim level) v) b
    unfolding lifted_group
    of_group tail o v b lies =
        chosen_both _ _ _ _ (is_alive version (out-Level old).since) (is_alive version' (out-Level level).since) (ap (is_alive version) stands.0 ∙ alike (out-Level level).since o)
        (λ s. let lie = s.2 in (
          map (lifted_block least level) s.0,
          ap (each_entry (lifted_block least level)) s.1 ∙ each_of (lifted_block least level) s.0,
          (
            lie.0,
            lie.1,
            lie.2,
            lie.3,
            subst (λ n. DimensionLays order dim lie.0 n lie.1) (sym (map_length (lifted_block least level) s.0)) (dimension_moves (Listed false) order old_dim dim stands.1 lie.0 (length s.0) lie.1 lie.4),
            joined_map (OldEntry lie.0) (NewEntry lie.0) (lifted_block least level) (lift_entry tail lie.0) s.0 lie.2 lie.5,
          ),
        ))
        (λ s. (ap (each_entry (lifted_block least level)) s.0, s.1)) lies

  module _ (keeps : Keeps R known known') (dead : DeadBeyond least version') where
    mutual
      unfolding lifted_block lifted_groups levels.out-Level carrier.out

      pub lift_tail : (old level : Level) → LevelStands R least old level → (block : Block) (b : List ℕ) → TailLays mode old block b →
          TailLays mode' level (lifted_block least level block) b
      lift_tail (Level' _ _ _ _ _ fs _ os ps) (Level' _ _ _ _ _ gs _ ns qs) h block b lies =
          (lies.0, lies.1, lies.2, lift_groups os ns h.1 (out-Block block).groups lies.0 lies.3, lift_parts dead ps qs h.2 (out-Block block).parts lies.1 lies.4)

      lift_groups : {n : _} (olds : Row_of-Group n) {k : _} (news : Row_of-Group k) → GroupsStand R least olds news → (vs : List GroupVal) (b : List ℕ) →
          GroupsLay mode olds vs b → GroupsLay mode' news (lifted_groups least news vs) b
      lift_groups end_of-Group end_of-Group h [] b lies = lies
      lift_groups end_of-Group end_of-Group h (v ∷ vs) b lies = absurd lies
      lift_groups (more_of-Group f fs) end_of-Group h vs b lies = absurd h
      lift_groups end_of-Group (more_of-Group (Group' dim level) gs) h [] b lies =
          by_bool _ (is_old least (out-Level level).since) (λ o. absurd (taken _ _ _ o h))
          (λ o. ([], b, refl, pass_it _ _ _ (dead (out-Level level).since o) (refl, refl), lift_groups end_of-Group gs (passed _ _ _ o h) [] b lies))
      lift_groups end_of-Group (more_of-Group g gs) h (v ∷ vs) b lies = absurd lies
      lift_groups (more_of-Group f fs) (more_of-Group g gs) h [] b lies = absurd lies
      lift_groups (more_of-Group f fs) (more_of-Group (Group' dim level) gs) h (v ∷ vs) b lies =
          by_bool _ (is_old least (out-Level level).since)
          (λ o. let k = taken _ _ _ o h in
          subst (λ t. GroupsLay mode' (more_of-Group (Group' dim level) gs) (cond t (lifted_group least (Group' dim level) v ∷ lifted_groups least gs vs) (groupval.Absent ∷ lifted_groups least gs (v ∷ vs))) b) (sym o)
          (lies.0, lies.1, lies.2, lift_group f (Group' dim level) k.0 o v lies.0 lies.3, lift_groups fs gs k.1 vs lies.1 lies.4))
          (λ o. subst (λ t. GroupsLay mode' (more_of-Group (Group' dim level) gs) (cond t (lifted_group least (Group' dim level) v ∷ lifted_groups least gs vs) (groupval.Absent ∷ lifted_groups least gs (v ∷ vs))) b) (sym o)
          ([], b, refl, pass_it _ _ _ (dead (out-Level level).since o) (refl, refl), lift_groups (more_of-Group f fs) gs (passed _ _ _ o h) (v ∷ vs) b lies))

      lift_group : (f g : Group) → GroupStands R least f g → is_old least (group_since g) ≡ true → (v : GroupVal) (b : List ℕ) → GroupLays mode f v b →
          GroupLays mode' g (lifted_group least g v) b
      lift_group (Group' old_dim old) (Group' dim level) h o v b lies = of_group keeps dead old_dim dim old level h (lift_tail old level h.2) o v b lies
