-- Groups and data of levels that stand to each other, from new to old.
use Rattle.std.proofs.Common.{◌≡◌, ℕ, Bool, true, false, cond, List, [], ◌∷◌, ◌++◌, length, take, drop, map, refl, sym, ap, ◌⊎◌, inl, inr, append_assoc, ◌∙◌, subst}
use Rattle.std.proofs.lemmas.List.{append-nil}
use denote.Hole.Carrier as carrier
use Rattle.sbe_types.specs.declared.schema.Level as levels
use Rattle.sbe_types.specs.declared.kind.Order.{Order}
use Rattle.sbe_types.specs.declared.kind.Member.{Member}
use Rattle.sbe_types.specs.declared.schema.DataField.{DataField}
use Rattle.sbe_types.specs.declared.schema.Group.{Group, Group'}
use Rattle.sbe_types.specs.declared.schema.Level.{Level, Level', out-Level, Row_of-Group, end_of-Group, more_of-Group}
use Rattle.sbe_types.specs.declared.message.DataVal.{DataVal}
use Rattle.sbe_types.specs.declared.message.DataVal.TheVariants as dataval
use Rattle.sbe_types.specs.declared.message.Block.{Block, out-Block}
use Rattle.sbe_types.specs.declared.message.GroupVal.{GroupVal, items_hidden-the_row-Block-1}
use Rattle.sbe_types.specs.declared.message.GroupVal.TheVariants as groupval
use Rattle.sbe_wire.specs.declared.mode.Mode.{Mode}
use Rattle.sbe_wire.specs.Versions.{is_alive, form_of}
use Rattle.sbe_wire.specs.Lays.{IsConcatenation, IsConcatenationOfBoth, DataLays, DimensionLays, BlockLays, EntryLays, TailLays, GroupsLay, GroupLays}
use Rattle.sbe_wire.specs.Placed.{IsPlacedLevel, ArePlacedGroups, IsPlacedGroup}
use Rattle.version_laws.specs.Differ.{is_old, group_since}
use Rattle.version_laws.specs.Projected.{each_entry, projected_list, old_part, projected_block, projected_groups, projected_group}
use Rattle.version_laws.proofs.Stands.{Lists, Listed, PartStands, PartsStand, LevelStands, GroupsStand, GroupStands}
use Rattle.version_laws.proofs.KindMoves.{Keeps, flipped}
use Rattle.version_laws.specs.Plain.{AllOf, EachEntry, PlainParts, PlainEntry, PlainGroups, PlainGroup, NoOldParts, NoOldGroups, is_absent_part, is_absent_group, PlainRootParts, PlainRootGroups, PlainRoot}
use Rattle.version_laws.proofs.NamedMoves.{dimension_back}
use Rattle.version_laws.proofs.BlockMoves.{moded, taken, passed, by_bool, AlikeTo, DeadBeyond, cut_block}
use Rattle.version_laws.proofs.TailMoves.{each_of, map_length, chosen_both, data_moves, absent_data, fields_stand, placed_fields, projected_fields}

nil_in_front : (b front back : List ℕ) → b ≡ front ++ back → front ≡ [] → back ≡ b
nil_in_front b front back h e = ap (λ f. f ++ back) (sym e) ∙ sym h

pub all_of : (P : Block → Type 0) (es : List Block) → EachEntry P (groupval.Entries es) → AllOf P es
all_of P es h = subst (AllOf P) (items_hidden-the_row-Block-1 es) h

joined_all : (A : Block → Type 0) (P Q : Block → List ℕ → Type 0) (f : Block → Block) → ((e : Block) (b : List ℕ) → A e → P e b → Q (f e) b) → (es : List Block) (b : List ℕ) → AllOf A es → IsConcatenation P es b → IsConcatenation Q (map f es) b
joined_all A P Q f step [] b a h = h
joined_all A P Q f step (e ∷ es) b a h = (h.0, h.1, h.2, step e h.0 a.0 h.3, joined_all A P Q f step es h.1 a.1 h.4)

absent_entries : (es : List Block) → ◌≡◌ {A = GroupVal} groupval.Absent (groupval.Entries es) → ⊥
absent_entries es k = cc

absent_bytes : (bytes : List ℕ) → ◌≡◌ {A = DataVal} dataval.Absent (dataval.Bytes bytes) → ⊥
absent_bytes bytes k = cc

absent_group : (mode : Mode) (g : Group) (v : GroupVal) (b : List ℕ) → v ≡ groupval.Absent → GroupLays mode g v b → b ≡ []
absent_group mode (Group' dim level) v b is lies =
    by_bool _ (is_alive mode.version (out-Level level).since) (λ o. absurd (absent_entries _ (sym is ∙ (taken _ _ _ o lies).1))) (λ o. (passed _ _ _ o lies).1)

is_absent_g : (v : GroupVal) → is_absent_group v ≡ true → v ≡ groupval.Absent
is_absent_g groupval.Absent h = refl
is_absent_g (groupval.Entries' n row) h = cc

is_absent_p : (v : DataVal) → is_absent_part v ≡ true → v ≡ dataval.Absent
is_absent_p dataval.Absent h = refl
is_absent_p (dataval.Bytes bytes) h = cc

clash : ◌≡◌ {A = Bool} false true → ⊥
clash k = cc

cons_nil : (f : DataField) (fs : List DataField) → ◌≡◌ {A = List DataField} (f ∷ fs) [] → ⊥
cons_nil f fs k = cc

-- ---- where old has nothing more

no_parts_left : (least : ℕ) (news : List DataField) → PartsStand least [] news → NoOldParts least news
no_parts_left least [] h = tt
no_parts_left least (g ∷ gs) h = by_bool _ (is_old least g.since) (λ o. absurd (taken _ _ _ o h)) (λ o. (o, no_parts_left least gs (passed _ _ _ o h)))

none_of_parts : (least : ℕ) (olds news : List DataField) → PartsStand least olds news → NoOldParts least news → olds ≡ []
none_of_parts least [] news h none = refl
none_of_parts least (f ∷ fs) [] h none = absurd h
none_of_parts least (f ∷ fs) (g ∷ gs) h none = none_of_parts least (f ∷ fs) gs (passed _ _ _ none.0 h) none.1

no_part_values : (least : ℕ) (news : List DataField) → NoOldParts least news → (vs : List DataVal) → projected_list (old_part least) news vs ≡ []
no_part_values least [] none vs = refl
no_part_values least (g ∷ gs) none [] = refl
no_part_values least (g ∷ gs) none (v ∷ vs) =
    ap (λ t. cond t (v ∷ projected_list (old_part least) gs vs) (projected_list (old_part least) gs vs)) none.0 ∙ no_part_values least gs none.1 vs

module _ (order : Order) (R : Lists) (known known' : Bool) (least version version' : ℕ) (alike : AlikeTo least version version') where
  abbrev mode : Mode
  mode = moded order known version

  abbrev mode' : Mode
  mode' = moded order known' version'

  part_alive : (f g : DataField) → PartStands f g → is_old least g.since ≡ true → is_alive version' g.since ≡ is_alive version f.since
  part_alive f g h o = sym (ap (is_alive version) h.since ∙ alike g.since o)

  abbrev OldParts : List DataField → List DataVal → List ℕ → Type 0
  OldParts = IsConcatenationOfBoth (DataLays order version)

  abbrev NewParts : List DataField → List DataVal → List ℕ → Type 0
  NewParts = IsConcatenationOfBoth (DataLays order version')

  abbrev kept_parts : List DataField → List DataVal → List DataVal
  kept_parts news vs = projected_list (old_part least) news vs

  -- ---- data of entries

  cut_parts : (olds news : List DataField) → PartsStand least olds news → (vs : List DataVal) (b : List ℕ) → PlainParts least news vs → NewParts news vs b → OldParts olds (kept_parts news vs) b
  cut_parts [] [] h [] b plain lies = lies
  cut_parts [] [] h (v ∷ vs) b plain lies = absurd lies
  cut_parts (f ∷ fs) [] h vs b plain lies = absurd h
  cut_parts olds (g ∷ gs) h [] b plain lies = absurd lies
  cut_parts [] (g ∷ gs) h (v ∷ vs) b plain lies =
      by_bool _ (is_old least g.since) (λ o. absurd (taken _ _ _ o h))
      (λ o. subst (λ t. OldParts [] (cond t (v ∷ kept_parts gs vs) (kept_parts gs vs)) b) (sym o)
      (subst (OldParts [] (kept_parts gs vs)) (nil_in_front b lies.0 lies.1 lies.2 (absent_data order version' g v lies.0 (passed _ _ _ o plain.0) lies.3))
      (cut_parts [] gs (passed _ _ _ o h) vs lies.1 plain.1 lies.4)))
  cut_parts (f ∷ fs) (g ∷ gs) h (v ∷ vs) b plain lies =
      by_bool _ (is_old least g.since)
      (λ o. let k = taken _ _ _ o h in
      subst (λ t. OldParts (f ∷ fs) (cond t (v ∷ kept_parts gs vs) (kept_parts gs vs)) b) (sym o)
      (lies.0, lies.1, lies.2, data_moves order version' version g f (sym k.0.length) (part_alive f g k.0 o) v lies.0 lies.3, cut_parts fs gs k.1 vs lies.1 plain.1 lies.4))
      (λ o. subst (λ t. OldParts (f ∷ fs) (cond t (v ∷ kept_parts gs vs) (kept_parts gs vs)) b) (sym o)
      (subst (OldParts (f ∷ fs) (kept_parts gs vs)) (nil_in_front b lies.0 lies.1 lies.2 (absent_data order version' g v lies.0 (passed _ _ _ o plain.0) lies.3))
      (cut_parts (f ∷ fs) gs (passed _ _ _ o h) vs lies.1 plain.1 lies.4)))

  -- ---- an entry, and then a group

  module _ (keeps : Keeps (flipped R) known' known) (old_dim dim : List Member) (old level : Level) (stands : GroupStands R least (Group' old_dim old) (Group' dim level)) (placed : IsPlacedLevel level) where
    abbrev TailCut : Type 0
    TailCut = (entry : Block) (b : List ℕ) → PlainEntry least level entry → TailLays mode' level entry b → TailLays mode old (projected_block least level entry) b

    abbrev OldEntry : ℕ → Block → List ℕ → Type 0
    OldEntry k = EntryLays (λ entry e. TailLays mode old entry e) (form_of mode old) k

    abbrev NewEntry : ℕ → Block → List ℕ → Type 0
    NewEntry k = EntryLays (λ entry e. TailLays mode' level entry e) (form_of mode' level) k

    cut_entry : TailCut → (k : ℕ) (entry : Block) (b : List ℕ) → PlainEntry least level entry → NewEntry k entry b → OldEntry k (projected_block least level entry) b
    cut_entry tail k entry b plain lies =
        let block = cut_block order R known known' least version version' alike keeps (out-Level old).fields (out-Level level).fields
        (fields_stand R least old level stands.2) (placed_fields level placed) (out-Block entry).fields (take k b) lies.1 in
        (lies.0, subst (λ vs. BlockLays mode (out-Level old).fields vs (take k b)) (sym (projected_fields least level entry)) block, tail entry (drop k b) plain lies.2)

    of_group : TailCut → is_old least (out-Level level).since ≡ true → (v : GroupVal) (b : List ℕ) → PlainGroup least (Group' dim level) v → GroupLays mode' (Group' dim level) v b →
        GroupLays mode (Group' old_dim old) (projected_group least (Group' dim level) v) b
    unfolding projected_group
    of_group tail o v b plain lies =
        chosen_both _ _ _ _ (is_alive version' (out-Level level).since) (is_alive version (out-Level old).since) (sym (ap (is_alive version) stands.0 ∙ alike (out-Level level).since o))
        (λ s. let lie = s.2 in (
          map (projected_block least level) s.0,
          ap (each_entry (projected_block least level)) s.1 ∙ each_of (projected_block least level) s.0,
          (
            lie.0,
            lie.1,
            lie.2,
            lie.3,
            subst (λ n. DimensionLays order old_dim lie.0 n lie.1) (sym (map_length (projected_block least level) s.0)) (dimension_back (Listed false) order old_dim dim stands.1 lie.0 (length s.0) lie.1 lie.4),
            joined_all (PlainEntry least level) (NewEntry lie.0) (OldEntry lie.0) (projected_block least level) (cut_entry tail lie.0) s.0 lie.2
                (all_of (PlainEntry least level) s.0 (subst (EachEntry (PlainEntry least level)) s.1 plain)) lie.5,
          ),
        ))
        (λ s. (ap (each_entry (projected_block least level)) s.0, s.1)) lies

  module _ (keeps : Keeps (flipped R) known' known) where
    abbrev kept_groups : {k : _} → Row_of-Group k → List GroupVal → List GroupVal
    kept_groups news vs = projected_groups least news vs

    mutual
      unfolding projected_block projected_groups levels.out-Level carrier.out

      pub cut_tail : (old level : Level) → LevelStands R least old level → IsPlacedLevel level → (block : Block) (b : List ℕ) → PlainEntry least level block → TailLays mode' level block b →
          TailLays mode old (projected_block least level block) b
      cut_tail (Level' _ _ _ _ _ fs _ os ps) (Level' _ _ _ _ _ gs _ ns qs) h placed block b plain lies =
          (lies.0, lies.1, lies.2, cut_groups os ns h.1 placed.1 (out-Block block).groups lies.0 plain.0 lies.3, cut_parts ps qs h.2 (out-Block block).parts lies.1 plain.1 lies.4)

      cut_groups : {n : _} (olds : Row_of-Group n) {k : _} (news : Row_of-Group k) → GroupsStand R least olds news → ArePlacedGroups news → (vs : List GroupVal) (b : List ℕ) → PlainGroups least news vs →
          GroupsLay mode' news vs b → GroupsLay mode olds (projected_groups least news vs) b
      cut_groups end_of-Group end_of-Group h placed [] b plain lies = lies
      cut_groups end_of-Group end_of-Group h placed (v ∷ vs) b plain lies = absurd lies
      cut_groups (more_of-Group f fs) end_of-Group h placed vs b plain lies = absurd h
      cut_groups olds (more_of-Group g gs) h placed [] b plain lies = absurd lies
      cut_groups end_of-Group (more_of-Group g gs) h placed (v ∷ vs) b plain lies =
          by_bool _ (is_old least (group_since g)) (λ o. absurd (taken _ _ _ o h))
          (λ o. subst (λ t. GroupsLay mode end_of-Group (cond t (projected_group least g v ∷ projected_groups least gs vs) (projected_groups least gs vs)) b) (sym o)
          (subst (GroupsLay mode end_of-Group (projected_groups least gs vs)) (nil_in_front b lies.0 lies.1 lies.2 (absent_group mode' g v lies.0 (passed _ _ _ o plain.0) lies.3))
          (cut_groups end_of-Group gs (passed _ _ _ o h) placed.1 vs lies.1 plain.1 lies.4)))
      cut_groups (more_of-Group f fs) (more_of-Group g gs) h placed (v ∷ vs) b plain lies =
          by_bool _ (is_old least (group_since g))
          (λ o. let k = taken _ _ _ o h in
          subst (λ t. GroupsLay mode (more_of-Group f fs) (cond t (projected_group least g v ∷ projected_groups least gs vs) (projected_groups least gs vs)) b) (sym o)
          (lies.0, lies.1, lies.2, cut_group f g k.0 placed.0 o v lies.0 (taken _ _ _ o plain.0) lies.3, cut_groups fs gs k.1 placed.1 vs lies.1 plain.1 lies.4))
          (λ o. subst (λ t. GroupsLay mode (more_of-Group f fs) (cond t (projected_group least g v ∷ projected_groups least gs vs) (projected_groups least gs vs)) b) (sym o)
          (subst (GroupsLay mode (more_of-Group f fs) (projected_groups least gs vs)) (nil_in_front b lies.0 lies.1 lies.2 (absent_group mode' g v lies.0 (passed _ _ _ o plain.0) lies.3))
          (cut_groups (more_of-Group f fs) gs (passed _ _ _ o h) placed.1 vs lies.1 plain.1 lies.4)))

      cut_group : (f g : Group) → GroupStands R least f g → IsPlacedGroup g → is_old least (group_since g) ≡ true → (v : GroupVal) (b : List ℕ) → PlainGroup least g v → GroupLays mode' g v b →
          GroupLays mode f (projected_group least g v) b
      cut_group (Group' old_dim old) (Group' dim level) h placed o v b plain lies = of_group keeps old_dim dim old level h placed (cut_tail old level h.2 placed) o v b plain lies

  -- ---- the root: after what old has, new's additions may stand

  -- old's data at the front, and nothing more where no addition is alive
  abbrev PartsCut : List DataField → List DataVal → List ℕ → Type 0
  PartsCut olds vs b = (front : List ℕ) × (back : List ℕ) × (b ≡ front ++ back) × OldParts olds vs front × (DeadBeyond least version' → back ≡ [])

  there_part : (g : DataField) (v : DataVal) (b : List ℕ) → is_absent_part v ≡ false → is_old least g.since ≡ false → DataLays order version' g v b → DeadBeyond least version' → ⊥
  there_part g v b there o lies dead = absurd (clash (sym there ∙ ap is_absent_part (passed _ _ _ (dead g.since o) lies).0))

  there_group : (g : Group) (v : GroupVal) (b : List ℕ) → is_absent_group v ≡ false → is_old least (group_since g) ≡ false → GroupLays mode' g v b → DeadBeyond least version' → ⊥
  there_group (Group' dim level) v b there o lies dead = absurd (clash (sym there ∙ ap is_absent_group (passed _ _ _ (dead (out-Level level).since o) lies).0))

  dead_parts : DeadBeyond least version' → (news : List DataField) → NoOldParts least news → (vs : List DataVal) (b : List ℕ) → NewParts news vs b → b ≡ []
  dead_parts dead [] none [] b lies = lies
  dead_parts dead [] none (v ∷ vs) b lies = absurd lies
  dead_parts dead (g ∷ gs) none [] b lies = absurd lies
  dead_parts dead (g ∷ gs) none (v ∷ vs) b lies =
      sym (nil_in_front b lies.0 lies.1 lies.2 (passed _ _ _ (dead g.since none.0) lies.3).1) ∙ dead_parts dead gs none.1 vs lies.1 lies.4

  no_parts_lie : (olds news : List DataField) → PartsStand least olds news → NoOldParts least news → (vs : List DataVal) → OldParts olds (kept_parts news vs) []
  no_parts_lie olds news h none vs =
      subst (λ os. OldParts os (kept_parts news vs) []) (sym (none_of_parts least olds news h none)) (subst (λ xs. OldParts [] xs []) (sym (no_part_values least news none vs)) refl)

  cut_root_parts : (olds news : List DataField) → PartsStand least olds news → (vs : List DataVal) (b : List ℕ) → PlainRootParts least news vs → NewParts news vs b → PartsCut olds (kept_parts news vs) b
  cut_root_parts [] [] h [] b plain lies = ([], [], lies, refl, λ d. refl)
  cut_root_parts [] [] h (v ∷ vs) b plain lies = absurd lies
  cut_root_parts (f ∷ fs) [] h vs b plain lies = absurd h
  cut_root_parts olds (g ∷ gs) h [] b plain lies = absurd lies
  cut_root_parts [] (g ∷ gs) h (v ∷ vs) b plain lies =
      let none = no_parts_left least (g ∷ gs) h in
      ([], b, refl, subst (λ xs. OldParts [] xs []) (sym (no_part_values least (g ∷ gs) none (v ∷ vs))) refl, λ dead. dead_parts dead (g ∷ gs) none (v ∷ vs) b lies)
  cut_root_parts (f ∷ fs) (g ∷ gs) h (v ∷ vs) b plain lies =
      by_bool _ (is_old least g.since)
      (λ o. let k = taken _ _ _ o h in
      let more = cut_root_parts fs gs k.1 vs lies.1 (taken _ _ _ o plain) lies.4 in
      subst (λ t. PartsCut (f ∷ fs) (cond t (v ∷ kept_parts gs vs) (kept_parts gs vs)) b) (sym o) (
        lies.0 ++ more.0,
        more.1,
        lies.2 ∙ ap (λ r. lies.0 ++ r) more.2 ∙ sym (append_assoc lies.0 more.0 more.1),
        (lies.0, more.0, refl, data_moves order version' version g f (sym k.0.length) (part_alive f g k.0 o) v lies.0 lies.3, more.3),
        more.4,
      ))
      (λ o. by_bool _ (is_absent_part v)
      (λ a. let more = cut_root_parts (f ∷ fs) gs (passed _ _ _ o h) vs lies.1 (taken _ _ _ a (passed _ _ _ o plain)) lies.4 in
      subst (λ t. PartsCut (f ∷ fs) (cond t (v ∷ kept_parts gs vs) (kept_parts gs vs)) b) (sym o)
      (subst (PartsCut (f ∷ fs) (kept_parts gs vs)) (nil_in_front b lies.0 lies.1 lies.2 (absent_data order version' g v lies.0 (is_absent_p v a) lies.3)) more))
      (λ a. absurd (cons_nil f fs (none_of_parts least (f ∷ fs) gs (passed _ _ _ o h) (passed _ _ _ a (passed _ _ _ o plain))))))

  module _ (keeps : Keeps (flipped R) known' known) (parts : List DataField) (ds : List DataVal) where
    abbrev OldGroups : {n : _} → Row_of-Group n → List GroupVal → List ℕ → Type 0
    OldGroups olds vs b = GroupsLay mode olds vs b

    -- old's groups at the front; after them nothing yet, or an addition, and then old has no data
    abbrev GroupsCut : {n : _} → Row_of-Group n → List GroupVal → List ℕ → Type 0
    GroupsCut olds vs b = (front : List ℕ) × (back : List ℕ) × (b ≡ front ++ back) × OldGroups olds vs front
        × (((back ≡ []) × PlainRootParts least parts ds) ⊎ (NoOldParts least parts × (DeadBeyond least version' → ⊥)))

    no_group_values : {k : _} (news : Row_of-Group k) → NoOldGroups least news → (vs : List GroupVal) → projected_groups least news vs ≡ []
    unfolding projected_groups
    no_group_values end_of-Group none vs = refl
    no_group_values (more_of-Group g gs) none [] = refl
    no_group_values (more_of-Group g gs) none (v ∷ vs) =
        ap (λ t. cond t (projected_group least g v ∷ projected_groups least gs vs) (projected_groups least gs vs)) none.0 ∙ no_group_values gs none.1 vs

    no_groups_lie : {n : _} (olds : Row_of-Group n) {k : _} (news : Row_of-Group k) → GroupsStand R least olds news → NoOldGroups least news → OldGroups olds [] []
    no_groups_lie end_of-Group news h none = refl
    no_groups_lie (more_of-Group f fs) end_of-Group h none = absurd h
    no_groups_lie (more_of-Group f fs) (more_of-Group g gs) h none = no_groups_lie (more_of-Group f fs) gs (passed _ _ _ none.0 h) none.1

    cut_root_groups : {n : _} (olds : Row_of-Group n) {k : _} (news : Row_of-Group k) → GroupsStand R least olds news → ArePlacedGroups news → (vs : List GroupVal) (b : List ℕ) →
        PlainRootGroups least parts ds news vs → GroupsLay mode' news vs b → GroupsCut olds (projected_groups least news vs) b
    unfolding projected_groups
    cut_root_groups end_of-Group end_of-Group h placed [] b plain lies = ([], [], lies, refl, inl (refl, plain))
    cut_root_groups end_of-Group end_of-Group h placed (v ∷ vs) b plain lies = absurd lies
    cut_root_groups (more_of-Group f fs) end_of-Group h placed vs b plain lies = absurd h
    cut_root_groups olds (more_of-Group g gs) h placed [] b plain lies = absurd lies
    cut_root_groups end_of-Group (more_of-Group g gs) h placed (v ∷ vs) b plain lies =
        by_bool _ (is_old least (group_since g)) (λ o. absurd (taken _ _ _ o h))
        (λ o. subst (λ t. GroupsCut end_of-Group (cond t (projected_group least g v ∷ projected_groups least gs vs) (projected_groups least gs vs)) b) (sym o)
        (by_bool _ (is_absent_group v)
        (λ a. subst (GroupsCut end_of-Group (projected_groups least gs vs)) (nil_in_front b lies.0 lies.1 lies.2 (absent_group mode' g v lies.0 (is_absent_g v a) lies.3))
        (cut_root_groups end_of-Group gs (passed _ _ _ o h) placed.1 vs lies.1 (taken _ _ _ a (passed _ _ _ o plain)) lies.4))
        (λ a. let none = passed _ _ _ a (passed _ _ _ o plain) in
        ([], b, refl, subst (λ xs. OldGroups end_of-Group xs []) (sym (no_group_values gs none.0 vs)) refl, inr (none.1, there_group g v lies.0 a o lies.3)))))
    cut_root_groups (more_of-Group f fs) (more_of-Group g gs) h placed (v ∷ vs) b plain lies =
        by_bool _ (is_old least (group_since g))
        (λ o. let k = taken _ _ _ o h in
        let p = taken _ _ _ o plain in
        let more = cut_root_groups fs gs k.1 placed.1 vs lies.1 p.1 lies.4 in
        subst (λ t. GroupsCut (more_of-Group f fs) (cond t (projected_group least g v ∷ projected_groups least gs vs) (projected_groups least gs vs)) b) (sym o) (
          lies.0 ++ more.0,
          more.1,
          lies.2 ∙ ap (λ r. lies.0 ++ r) more.2 ∙ sym (append_assoc lies.0 more.0 more.1),
          (lies.0, more.0, refl, cut_group keeps f g k.0 placed.0 o v lies.0 p.0 lies.3, more.3),
          more.4,
        ))
        (λ o. subst (λ t. GroupsCut (more_of-Group f fs) (cond t (projected_group least g v ∷ projected_groups least gs vs) (projected_groups least gs vs)) b) (sym o)
        (by_bool _ (is_absent_group v)
        (λ a. subst (GroupsCut (more_of-Group f fs) (projected_groups least gs vs)) (nil_in_front b lies.0 lies.1 lies.2 (absent_group mode' g v lies.0 (is_absent_g v a) lies.3))
        (cut_root_groups (more_of-Group f fs) gs (passed _ _ _ o h) placed.1 vs lies.1 (taken _ _ _ a (passed _ _ _ o plain)) lies.4))
        (λ a. let none = passed _ _ _ a (passed _ _ _ o plain) in
        ([], b, refl, subst (λ xs. OldGroups (more_of-Group f fs) xs []) (sym (no_group_values gs none.0 vs)) (no_groups_lie (more_of-Group f fs) gs (passed _ _ _ o h) none.0), inr (none.1, there_group g v lies.0 a o lies.3)))))

  abbrev RootCut : Level → Block → List ℕ → Type 0
  RootCut old block b = (front : List ℕ) × (back : List ℕ) × (b ≡ front ++ back) × TailLays mode old block front × (DeadBeyond least version' → back ≡ [])

  pub cut_root : Keeps (flipped R) known' known → (old level : Level) → LevelStands R least old level → IsPlacedLevel level → (block : Block) (b : List ℕ) → PlainRoot least level block →
      TailLays mode' level block b → RootCut old (projected_block least level block) b
  unfolding projected_block
  cut_root keeps (Level' _ _ _ _ _ fs _ os ps) (Level' _ _ _ _ _ gs _ ns qs) h placed block b plain lies =
      let groups = cut_root_groups keeps qs (out-Block block).parts os ns h.1 placed.1 (out-Block block).groups lies.0 plain lies.3 in
      elim groups.4 [
        | inl e ↦
            let parts = cut_root_parts ps qs h.2 (out-Block block).parts lies.1 e.1 lies.4 in
            let whole : lies.0 ≡ groups.0 = groups.2 ∙ ap (λ r. groups.0 ++ r) e.0 ∙ append-nil groups.0 in (
              groups.0 ++ parts.0,
              parts.1,
              lies.2 ∙ ap (λ f. f ++ lies.1) whole ∙ ap (λ r. groups.0 ++ r) parts.2 ∙ sym (append_assoc groups.0 parts.0 parts.1),
              (groups.0, parts.0, refl, groups.3, parts.3),
              parts.4,
            )
        | inr e ↦ (
          groups.0,
          groups.1 ++ lies.1,
          lies.2 ∙ ap (λ f. f ++ lies.1) groups.2 ∙ append_assoc groups.0 groups.1 lies.1,
          (groups.0, [], sym (append-nil groups.0), groups.3, no_parts_lie ps qs h.2 e.0 (out-Block block).parts),
          λ dead. absurd (e.1 dead),
        )
      ]
