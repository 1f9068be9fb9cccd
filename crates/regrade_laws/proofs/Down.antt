-- What is read of a later message needs no fill.
use Rattle.std.proofs.Common.{◌≡◌, ℕ, suc, ◌+◌, ◌<◌, Bool, true, false, List, [], ◌∷◌, map, length, take, drop, Option, Some, None, Ok, refl, sym, ap, ◌∙◌, subst, arith}
use Rattle.std.specs.Prelude.{nat_le, nat_lt, slice_get, ⊤, ◌&&◌, ◌||◌, not, if◌then◌else◌}
use Rattle.std.specs.Bool.{MatchBool}
use Rattle.std.proofs.lemmas.Bool.{le-leb, leb-true}
use Rattle.std.proofs.lemmas.Bool.Decides.{nat_tests}
use denote.Hole.Carrier as carrier
use Rattle.sbe_types.specs.declared.schema.Level as levels
use Rattle.sbe_types.specs.declared.kind.Order.{Order}
use Rattle.sbe_types.specs.declared.kind.Kind.{Kind, Leaf, Enum, Set, Const, Comp'}
use Rattle.sbe_types.specs.declared.path.Step.TheVariants as way
use Rattle.sbe_types.specs.declared.schema.Field.{Field}
use Rattle.sbe_types.specs.declared.schema.DataField.{DataField}
use Rattle.sbe_types.specs.declared.schema.Group.{Group, Group'}
use Rattle.sbe_types.specs.declared.schema.Level.{Level, Level', out-Level, Row_of-Group, end_of-Group, more_of-Group}
use Rattle.sbe_types.specs.declared.schema.WireSchema.{WireSchema}
use Rattle.sbe_types.specs.declared.message.Block.{Block, out-Block}
use Rattle.sbe_types.specs.declared.message.Msg.{Msg}
use Rattle.sbe_types.specs.declared.message.Value.{Value}
use Rattle.sbe_types.specs.declared.message.Value.TheVariants as value
use Rattle.sbe_types.specs.declared.message.DataVal.{DataVal}
use Rattle.sbe_types.specs.declared.message.GroupVal.{GroupVal, items_hidden-the_row-Block-1}
use Rattle.sbe_types.specs.declared.message.GroupVal.TheVariants as groupval
use Rattle.sbe_types.specs.Places.{end_past}
use Rattle.sbe_types.specs.declared.kind.Leaf.{Leaf as LeafOf}
use Rattle.sbe_types.specs.declared.kind.LeafShape.{LeafShape}
use Rattle.sbe_types.specs.declared.kind.LeafShape.TheVariants.{Number, RangedText, EncodedText, Octets, Numbers}
use Rattle.sbe_types.specs.Numbers.{number_of, natural}
use Rattle.sbe_types.specs.Shown.{is_null, admits, is_optional, is_listed, has_listed_bits}
use Rattle.sbe_types.specs.Shows.{Shows, ShowsLeaf, is_empty}
use Rattle.sbe_wire.specs.Faults.{message_named}
use Rattle.sbe_wire.specs.Placed.{IsPlaced}
use Rattle.sbe_wire.proofs.Messages.{named_is}
use Rattle.sbe_wire.specs.declared.mode.Mode.{Mode}
use Rattle.sbe_wire.specs.Versions.{acting, is_alive, mode_of, form_of}
use Rattle.sbe_wire.specs.Lays.{IsConcatenation, IsConcatenationOfBoth, FieldsLay, DataLays, EntryLays, TailLays, GroupsLay, GroupLays, Lays}
use Rattle.version_laws.specs.Differ.{differ, is_old, group_since}
use Rattle.version_laws.specs.Plain.{AllOf}
use Rattle.version_laws.specs.Projected.{projected, projected_from, lifted, with_block, each_entry, projected_list, old_field, old_part, projected_block, projected_groups, projected_group}
use Rattle.version_laws.proofs.Stands.{Lists, Listed, FieldsStand, PartsStand, LevelStands, GroupsStand, GroupStands}
use Rattle.version_laws.proofs.BlockMoves.{taken, passed, take_it, pass_it, by_bool}
use Rattle.version_laws.proofs.TailMoves.{each_of}
use Rattle.version_laws.proofs.BodyMoves.{has_template}
use Rattle.version_laws.proofs.Tests.{schema_stands}
use Rattle.regrade_laws.specs.Fill.{Fills, field_or_fill, part_or_fill}
use Rattle.regrade_laws.specs.Filled.{in_step, then_all, filled_list, filled_entries, group_of, block_of, row_length, filled_block, filled_groups, filled_group}
use Rattle.regrade_laws.specs.Regraded.{in_version, filled_by, filled_in, moved, regraded}
use Rattle.regrade_laws.proofs.Whole.{named_id}
use Rattle.regrade_laws.proofs.Filling.{choice_yes, choice_not}

-- a value that no fill replaces, whatever the part
abbrev pub Stays : {P V : Type 0} → (P → V → Fills V) → V → Type 0
Stays {P} kept v = (p : P) → kept p v ≡ Ok v

-- each part that is known has a value that stays
abbrev pub ThereList : {P V : Type 0} → (P → V → Fills V) → (P → Bool) → List P → List V → Type 0
ThereList kept known [] vs = ⊤
ThereList kept known (p ∷ ps) [] = ⊤
ThereList kept known (p ∷ ps) (v ∷ vs) = MatchBool (known p) (Stays kept v) ⊤ × ThereList kept known ps vs

abbrev mutual
  pub ThereTail : ℕ → Level → Block → Type 0
  ThereTail version (Level' _ _ _ _ _ fields _ groups parts) block = ThereGroups version groups (out-Block block).groups × ThereList part_or_fill (old_part version) parts (out-Block block).parts

  pub ThereGroups : ℕ → {n : _} → Row_of-Group n → List GroupVal → Type 0
  ThereGroups version end_of-Group vs = ⊤
  ThereGroups version (more_of-Group g gs) [] = ⊤
  ThereGroups version (more_of-Group g gs) (v ∷ vs) = MatchBool (is_old version (group_since g)) (ThereGroup version g v) ⊤ × ThereGroups version gs vs

  pub ThereGroup : ℕ → Group → GroupVal → Type 0
  ThereGroup version (Group' dim level) v =
      (entries : List Block) × (v ≡ groupval.Entries entries) × AllOf (λ e. ThereList field_or_fill (old_field version) (out-Level level).fields (out-Block e).fields × ThereTail version level e) entries

abbrev pub ThereBlock : ℕ → Level → Block → Type 0
ThereBlock version level block = ThereList field_or_fill (old_field version) (out-Level level).fields (out-Block block).fields × ThereTail version level block

-- ---- nothing is filled

module _ (R : Lists) (version : ℕ) where
  stays_fields : (e : ℕ) (olds : List Field) (d : ℕ) (news : List Field) (i : ℕ) (vs : List Value) → FieldsStand R version e olds d news → ThereList field_or_fill (old_field version) news vs →
      filled_list field_or_fill i olds (projected_list (old_field version) news vs) ≡ Ok (projected_list (old_field version) news vs)
  stays_fields e [] d [] i vs h there = refl
  stays_fields e (f ∷ fs) d [] i vs h there = absurd h
  stays_fields e [] d (g ∷ gs) i [] h there = refl
  stays_fields e (f ∷ fs) d (g ∷ gs) i [] h there = refl
  stays_fields e [] d (g ∷ gs) i (v ∷ vs) h there =
      by_bool _ (is_old version g.since) (λ o. absurd (taken _ _ _ o h))
      (λ o. let c = choice_not (is_old version g.since) (v ∷ projected_list (old_field version) gs vs) (projected_list (old_field version) gs vs) o in
      subst (λ xs. filled_list field_or_fill i [] xs ≡ Ok xs) (sym c) (stays_fields e [] (end_past d g.offset g.kind) gs i vs (passed _ _ _ o h) there.1))
  stays_fields e (f ∷ fs) d (g ∷ gs) i (v ∷ vs) h there =
      by_bool _ (is_old version g.since)
      (λ o. let k = taken _ _ _ o h in
      let c = choice_yes (is_old version g.since) (v ∷ projected_list (old_field version) gs vs) (projected_list (old_field version) gs vs) o in
      let stays = taken _ _ _ o there.0 in
      let later = stays_fields (end_past e f.offset f.kind) fs (end_past d g.offset g.kind) gs (suc i) vs k.1 there.1 in
      subst (λ xs. filled_list field_or_fill i (f ∷ fs) xs ≡ Ok xs) (sym c)
      (ap (λ x. then_all (in_step (way.Part i) x) (filled_list field_or_fill (suc i) fs (projected_list (old_field version) gs vs))) (stays f) ∙ ap (then_all (Ok v)) later))
      (λ o. let c = choice_not (is_old version g.since) (v ∷ projected_list (old_field version) gs vs) (projected_list (old_field version) gs vs) o in
      subst (λ xs. filled_list field_or_fill i (f ∷ fs) xs ≡ Ok xs) (sym c) (stays_fields e (f ∷ fs) (end_past d g.offset g.kind) gs i vs (passed _ _ _ o h) there.1))

  stays_parts : (olds news : List DataField) (i : ℕ) (vs : List DataVal) → PartsStand version olds news → ThereList part_or_fill (old_part version) news vs →
      filled_list part_or_fill i olds (projected_list (old_part version) news vs) ≡ Ok (projected_list (old_part version) news vs)
  stays_parts [] [] i vs h there = refl
  stays_parts (f ∷ fs) [] i vs h there = absurd h
  stays_parts [] (g ∷ gs) i [] h there = refl
  stays_parts (f ∷ fs) (g ∷ gs) i [] h there = refl
  stays_parts [] (g ∷ gs) i (v ∷ vs) h there =
      by_bool _ (is_old version g.since) (λ o. absurd (taken _ _ _ o h))
      (λ o. let c = choice_not (is_old version g.since) (v ∷ projected_list (old_part version) gs vs) (projected_list (old_part version) gs vs) o in
      subst (λ xs. filled_list part_or_fill i [] xs ≡ Ok xs) (sym c) (stays_parts [] gs i vs (passed _ _ _ o h) there.1))
  stays_parts (f ∷ fs) (g ∷ gs) i (v ∷ vs) h there =
      by_bool _ (is_old version g.since)
      (λ o. let k = taken _ _ _ o h in
      let c = choice_yes (is_old version g.since) (v ∷ projected_list (old_part version) gs vs) (projected_list (old_part version) gs vs) o in
      let stays = taken _ _ _ o there.0 in
      let later = stays_parts fs gs (suc i) vs k.1 there.1 in
      subst (λ xs. filled_list part_or_fill i (f ∷ fs) xs ≡ Ok xs) (sym c)
      (ap (λ x. then_all (in_step (way.Part i) x) (filled_list part_or_fill (suc i) fs (projected_list (old_part version) gs vs))) (stays f) ∙ ap (then_all (Ok v)) later))
      (λ o. let c = choice_not (is_old version g.since) (v ∷ projected_list (old_part version) gs vs) (projected_list (old_part version) gs vs) o in
      subst (λ xs. filled_list part_or_fill i (f ∷ fs) xs ≡ Ok xs) (sym c) (stays_parts (f ∷ fs) gs i vs (passed _ _ _ o h) there.1))

  stays_entries : (old level : Level) → ((b : Block) → ThereBlock version level b → filled_block old (projected_block version level b) ≡ Ok (projected_block version level b)) →
      (i : ℕ) (es : List Block) → AllOf (λ e. ThereBlock version level e) es →
      filled_entries (λ e. filled_block old e) i (map (λ e. projected_block version level e) es) ≡ Ok (map (λ e. projected_block version level e) es)
  stays_entries old level stays i [] there = refl
  stays_entries old level stays i (e ∷ es) there =
      ap (λ b. then_all (in_step (way.Entry i) b) (filled_entries (λ e. filled_block old e) (suc i) (map (λ e. projected_block version level e) es))) (stays e there.0)
      ∙ ap (then_all (Ok (projected_block version level e))) (stays_entries old level stays (suc i) es there.1)

  mutual
    unfolding projected_block projected_groups projected_group filled_block filled_groups filled_group levels.out-Level carrier.out

    pub stays_block : (old level : Level) (block : Block) → LevelStands R version old level → ThereBlock version level block → filled_block old (projected_block version level block) ≡ Ok (projected_block version level block)
    stays_block (Level' name id semantic since size fs n os ps) (Level' name' id' semantic' since' size' gs n' ns qs) block h there =
        let old = out-Block block in
        let x = projected_list (old_field version) gs old.fields in
        let y = projected_groups version ns old.groups in
        let z = projected_list (old_part version) qs old.parts in
        let f : filled_list field_or_fill 0 fs x ≡ Ok x = stays_fields 0 fs 0 gs 0 old.fields h.0 there.0 in
        let g : filled_groups (length fs) os y ≡ Ok y = stays_groups os ns (length fs) old.groups h.1 there.1.0 in
        let d : filled_list part_or_fill (length fs + row_length os) ps z ≡ Ok z = stays_parts ps qs (length fs + row_length os) old.parts h.2 there.1.1 in
        ap (λ b. block_of b (filled_groups (length fs) os y) (filled_list part_or_fill (length fs + row_length os) ps z)) f
        ∙ ap (λ b. block_of (Ok x) b (filled_list part_or_fill (length fs + row_length os) ps z)) g ∙ ap (λ b. block_of (Ok x) (Ok y) b) d

    stays_groups : {n : _} (olds : Row_of-Group n) {k : _} (news : Row_of-Group k) (i : ℕ) (vs : List GroupVal) → GroupsStand R version olds news → ThereGroups version news vs →
        filled_groups i olds (projected_groups version news vs) ≡ Ok (projected_groups version news vs)
    stays_groups end_of-Group end_of-Group i vs h there = refl
    stays_groups (more_of-Group f fs) end_of-Group i vs h there = absurd h
    stays_groups end_of-Group (more_of-Group g gs) i [] h there = refl
    stays_groups (more_of-Group f fs) (more_of-Group g gs) i [] h there = refl
    stays_groups end_of-Group (more_of-Group g gs) i (v ∷ vs) h there =
        by_bool _ (is_old version (group_since g)) (λ o. absurd (taken _ _ _ o h))
        (λ o. let c = choice_not (is_old version (group_since g)) (projected_group version g v ∷ projected_groups version gs vs) (projected_groups version gs vs) o in
        subst (λ xs. filled_groups i end_of-Group xs ≡ Ok xs) (sym c) (stays_groups end_of-Group gs i vs (passed _ _ _ o h) there.1))
    stays_groups (more_of-Group f fs) (more_of-Group g gs) i (v ∷ vs) h there =
        by_bool _ (is_old version (group_since g))
        (λ o. let k = taken _ _ _ o h in
        let c = choice_yes (is_old version (group_since g)) (projected_group version g v ∷ projected_groups version gs vs) (projected_groups version gs vs) o in
        let here = stays_group f g v k.0 (taken _ _ _ o there.0) in
        let later = stays_groups fs gs (suc i) vs k.1 there.1 in
        subst (λ xs. filled_groups i (more_of-Group f fs) xs ≡ Ok xs) (sym c)
        (ap (λ x. then_all (in_step (way.Part i) x) (filled_groups (suc i) fs (projected_groups version gs vs))) here ∙ ap (then_all (Ok (projected_group version g v))) later))
        (λ o. let c = choice_not (is_old version (group_since g)) (projected_group version g v ∷ projected_groups version gs vs) (projected_groups version gs vs) o in
        subst (λ xs. filled_groups i (more_of-Group f fs) xs ≡ Ok xs) (sym c) (stays_groups (more_of-Group f fs) gs i vs (passed _ _ _ o h) there.1))

    stays_group : (f g : Group) (v : GroupVal) → GroupStands R version f g → ThereGroup version g v → filled_group f (projected_group version g v) ≡ Ok (projected_group version g v)
    stays_group (Group' od old) (Group' dim level) v h there =
        let es = there.0 in
        let back = map (λ e. projected_block version level e) es in
        let is : each_entry (λ e. projected_block version level e) v ≡ groupval.Entries back = ap (each_entry (λ e. projected_block version level e)) there.1 ∙ each_of (λ e. projected_block version level e) es in
        let entries = stays_entries old level (λ b k. stays_block old level b h.2 k) 0 es there.2 in
        let filled : filled_group (Group' od old) (groupval.Entries back) ≡ Ok (groupval.Entries back) =
        ap (λ bs. group_of (filled_entries (λ e. filled_block old e) 0 bs)) (items_hidden-the_row-Block-1 back) ∙ ap group_of entries
        in
        subst (λ x. filled_group (Group' od old) x ≡ Ok x) (sym is) filled

-- ---- what lies isn't absent, where the part is alive

-- what a number shows isn't absent
number_shows : (null there : Bool) (n : _) → (if null then Some value.Null else (if there then Some (value.Num n) else None)) ≡ Some value.Absent → ⊥
number_shows true there n h = cc
number_shows false true n h = cc
number_shows false false n h = cc

enum_shows : (null there : Bool) (n : _) → (if null then Some value.Null else (if there then Some (value.Enum n) else None)) ≡ Some value.Absent → ⊥
enum_shows true there n h = cc
enum_shows false true n h = cc
enum_shows false false n h = cc

set_shows : (there : Bool) (n : ℕ) → (if there then Some (value.Set n) else None) ≡ Some value.Absent → ⊥
set_shows true n h = cc
set_shows false n h = cc

text_shows : (null : Bool) (text : List ℕ) → value.Absent ≡ (if null then value.Null else value.Text text) → ⊥
text_shows true text h = cc
text_shows false text h = cc

leaf_shows : (order : Order) (l : LeafOf) (shape : LeafShape) (b : List ℕ) → ShowsLeaf order shape l value.Absent b → ⊥
leaf_shows order l Number b shows = let n = number_of order l.prim b in number_shows (is_null l n) (admits l n) n shows
leaf_shows order l RangedText b shows = text_shows (is_optional l.presence && is_empty shows.0) shows.0 shows.5
leaf_shows order l EncodedText b shows = text_shows (is_optional l.presence && is_empty shows.0) shows.0 shows.5
leaf_shows order l Octets b shows = let is : value.Absent ≡ value.Nums shows.0 = shows.1 in cc
leaf_shows order l Numbers b shows = let is : value.Absent ≡ value.Nums shows.0 = shows.1 in cc

absent_shows : (order : Order) (known : Bool) (kind : Kind) (b : List ℕ) → Shows order known kind value.Absent b → ⊥
absent_shows order known (Leaf l) b shows = leaf_shows order l l.shape b shows.1
absent_shows order known (Enum l names) b shows = let n = number_of order l.prim b in enum_shows (is_null l n) (is_listed names n || not known) n shows.1
absent_shows order known (Set p names) b shows = let n = natural (number_of order p b) in set_shows (has_listed_bits names 64 n || not known) n shows.1
absent_shows order known (Const c) b shows = let is : value.Absent ≡ value.Const = shows.1 in cc
absent_shows order known (Comp' n members) b shows = let is : value.Absent ≡ value.Comp shows.1.0 = shows.1.1 in cc

shows_there : (order : Order) (known : Bool) (kind : Kind) (v : Value) (b : List ℕ) → Shows order known kind v b → Stays field_or_fill v
shows_there order known kind value.Absent b shows = absurd (absent_shows order known kind b shows)
shows_there order known kind v b shows = λ f. refl

module _ (mode : Mode) (version : ℕ) (alive : (since : ℕ) → is_old version since ≡ true → is_alive mode.version since ≡ true) where
  fields_lie : (e : ℕ) (fs : List Field) (vs : List Value) (b : List ℕ) → FieldsLay mode e fs vs b → ThereList field_or_fill (old_field version) fs vs
  fields_lie e [] vs b lies = tt
  fields_lie e (f ∷ fs) [] b lies = tt
  fields_lie e (f ∷ fs) (v ∷ vs) b lies =
      (by_bool _ (is_old version f.since) (λ o. take_it _ _ _ o (shows_there mode.order mode.known f.kind v _ (taken _ _ _ (alive f.since o) lies.0))) (λ o. pass_it _ _ _ o tt), fields_lie (end_past e f.offset f.kind) fs vs b lies.1)

  parts_lie : (ps : List DataField) (vs : List DataVal) (b : List ℕ) → IsConcatenationOfBoth (DataLays mode.order mode.version) ps vs b → ThereList part_or_fill (old_part version) ps vs
  parts_lie [] vs b lies = tt
  parts_lie (p ∷ ps) [] b lies = tt
  parts_lie (p ∷ ps) (v ∷ vs) b lies =
      (by_bool _ (is_old version p.since) (λ o. take_it _ _ _ o (let is = taken _ _ _ (alive p.since o) lies.3 in λ q. ap (part_or_fill q) is.1 ∙ ap Ok (sym is.1))) (λ o. pass_it _ _ _ o tt), parts_lie ps vs lies.1 lies.4)

  entries_lie : (level : Level) (k : ℕ) → ((e : Block) (b : List ℕ) → TailLays mode level e b → ThereTail version level e) → (es : List Block) (b : List ℕ) →
      IsConcatenation (EntryLays (λ entry e. TailLays mode level entry e) (form_of mode level) k) es b → AllOf (λ e. ThereBlock version level e) es
  entries_lie level k tail [] b lies = tt
  entries_lie level k tail (e ∷ es) b lies =
      ((fields_lie 0 (out-Level level).fields (out-Block e).fields (take k lies.0) lies.3.1.1, tail e (drop k lies.0) lies.3.2), entries_lie level k tail es lies.1 lies.4)

  mutual
    unfolding levels.out-Level carrier.out

    pub tail_lies : (level : Level) (block : Block) (b : List ℕ) → TailLays mode level block b → ThereTail version level block
    tail_lies (Level' _ _ _ _ _ fields _ groups parts) block b lies = (groups_lie groups (out-Block block).groups lies.0 lies.3, parts_lie parts (out-Block block).parts lies.1 lies.4)

    groups_lie : {n : _} (row : Row_of-Group n) (vs : List GroupVal) (b : List ℕ) → GroupsLay mode row vs b → ThereGroups version row vs
    groups_lie end_of-Group vs b lies = tt
    groups_lie (more_of-Group g gs) [] b lies = tt
    groups_lie (more_of-Group g gs) (v ∷ vs) b lies =
        (by_bool _ (is_old version (group_since g)) (λ o. take_it _ _ _ o (group_lies g v lies.0 o lies.3)) (λ o. pass_it _ _ _ o tt), groups_lie gs vs lies.1 lies.4)

    group_lies : (g : Group) (v : GroupVal) (b : List ℕ) → is_old version (group_since g) ≡ true → GroupLays mode g v b → ThereGroup version g v
    group_lies (Group' dim level) v b o lies =
        let is = taken _ _ _ (alive (out-Level level).since o) lies in
        (is.0, is.1, entries_lie level is.2.0 (tail_lies level) is.0 is.2.2 is.2.5)

-- ---- the whole message

pub down : (from to : WireSchema) → differ to from ≡ None → IsPlaced from → to.version < from.version → (m p : Msg) (body : List ℕ) → Lays from m body → to.version < m.version → projected to from m ≡ Some p →
    regraded from to m ≡ Ok (record { template = p.template; version = to.version; block = p.block })
down from to same placed later m p body lies above is =
    let stands = schema_stands to from same in
    let level = lies.0 in
    let id = (out-Level level).id in
    let less : nat_le from.version to.version ≡ false = grind (arith, nat_tests, later) in
    let found : projected to from m ≡ with_block m (message_named 0 id to.messages) (λ other. projected_block to.version level m.block) = ap (projected_from to m) lies.5 in
    let has = has_template m (message_named 0 id to.messages) (λ other. projected_block to.version level m.block) p (sym found ∙ is) in
    let t : ℕ × Level = has.0 in
    let block : Block = projected_block to.version level m.block in
    let q : Msg = record { template = t.0; version = m.version; block = block } in
    let named : Some q ≡ Some p = ap (λ o. with_block m o (λ other. projected_block to.version level m.block)) (sym has.1) ∙ sym found ∙ is in
    let p_is : q ≡ p = cc in
    let t_at : slice_get to.messages t.0 ≡ Some t.1 = named_is to id t has.1 in
    let t_id : (out-Level t.1).id ≡ id = named_id 0 id to.messages t has.1 in
    let there = stands.messages t.0 t.1 t_at in
    let one : Some there.0 ≡ Some (m.template, level) = sym there.1 ∙ ap (λ i. message_named 0 i from.messages) t_id ∙ placed.ids m.template level lies.5 in
    let other : there.0 ≡ (m.template, level) = cc in
    let R = Listed (nat_lt to.version from.version) in
    let extends : LevelStands R to.version t.1 level = subst (λ (x : ℕ × Level). LevelStands R to.version t.1 x.1) other there.2 in
    let mode = mode_of from m.version in
    let alive : (since : ℕ) → is_old to.version since ≡ true → is_alive mode.version since ≡ true = λ since o. le-leb since (acting from m.version) (omega (arith, leb-true since to.version o, later, above)) in
    let block_there : ThereBlock to.version level m.block =
    (fields_lie mode to.version alive 0 (out-Level level).fields (out-Block m.block).fields lies.2 lies.8.1, tail_lies mode to.version alive level m.block lies.3 lies.9)
    in
    let filled : filled_block t.1 block ≡ Ok block = stays_block R to.version t.1 level m.block extends block_there in
    let moves : moved from to m ≡ Some q = ap (λ b. if b then lifted from to m else projected to from m) less ∙ is ∙ ap Some (sym p_is) in
    let done : Msg = record { template = t.0; version = to.version; block = block } in
    let told : regraded from to m ≡ Ok done = ap (filled_in to) moves ∙ ap (filled_by to.version q) t_at ∙ ap (in_version to.version q) filled in
    told ∙ ap (λ (x : Msg). let y : Msg = record { template = x.template; version = to.version; block = x.block } in Ok y) p_is
