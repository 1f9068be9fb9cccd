-- Blocks read back: their fields, their groups with their entries, and their data.
use Rattle.std.proofs.Common.{◌≡◌, ◌≤◌, ◌+◌, ◌*◌, ℕ, suc, List, [], ◌∷◌, ◌++◌, Option, Some, Ok, map, refl, sym, ap, ◌∙◌, subst, arith}
use Rattle.std.specs.Prelude.{codes}
use Rattle.std.specs.List.{AllByRecursion}
use Rattle.std.specs.Option.{option_map}
use denote.Hole.Carrier as carrier
use Rattle.sbe_types.specs.declared.schema.Group as groups
use Rattle.sbe_types.specs.declared.schema.Level as levels
use Rattle.serde_json.specs.Data.{Data, object, array, Members, no_members, items_depth}
use Rattle.serde_json.specs.Find.{get_member}
use Rattle.sbe_types.specs.declared.kind.Order.{Order}
use Rattle.sbe_types.specs.declared.kind.Member.{Member}
use Rattle.sbe_types.specs.declared.schema.Group.{Group, Group', out-Group}
use Rattle.sbe_types.specs.declared.schema.Level.{Level, Level', out-Level, Row_of-Group, end_of-Group, more_of-Group, items-the_row-Group, items_shown-the_row-Group-0}
use Rattle.sbe_types.specs.declared.message.Block.{Block, out-Block}
use Rattle.sbe_types.specs.declared.message.GroupVal.{GroupVal, items_hidden-the_row-Block-1}
use Rattle.sbe_types.specs.declared.message.GroupVal.TheVariants as groupval
use Rattle.sbe_types.specs.InForm.{IsName}
use Rattle.sbe_wire.specs.Fits.{EachFits, BlockFits, GroupsFit, GroupFits}
use Rattle.schema_facts.specs.Levels.{Node, nodes, nodes_below, nodes_of}
use Rattle.schema_facts.specs.CheckedLevels.{HasNames, HasKinds, part_names, groups_deep, row_deep, group_deep}
use Rattle.schema_facts.proofs.LevelForms.{all_apart}
use Rattle.json_values.specs.Values.{Entry, listed, zipped}
use Rattle.tree_json.specs.Lines.{field_entry, part_entry, entries_in, group_name, items_by, block_entries, groups_entries, group_data}
use Rattle.line_values.specs.Refusals.{Reading, ◌>>=◌, inside}
use Rattle.line_values.specs.Objects.{each}
use Rattle.line_values.specs.Keys.{field_names, data_names, entry_names}
use Rattle.line_reading.specs.Lines.{group_names, entry_in, group_in, block_read, groups_read, group_read}
use Rattle.line_laws.specs.AsRead.{as_read, items_as_read, put_all, ItemsHaveIntegers, ItemsHaveTexts}
use Rattle.line_laws.specs.Listed.{IsNew, AreDistinct, Finds, AreKnown}
use Rattle.line_laws.specs.LinesBack.{EachThere, BlockHasBytes, GroupsHaveBytes, GroupHasBytes}
use Rattle.line_laws.proofs.Finding.{listed_is_found, listed_is_known}
use Rattle.line_laws.proofs.Differ.{IsOther, DoDiffer, do_differ}
use Rattle.line_laws.proofs.Shown.{IsPrinted, ArePrinted, listed_integers, listed_texts, listed_deep, deeper, all_deeper}
use Rattle.line_laws.proofs.TextBack.{name_text}
use Rattle.line_laws.proofs.KindBack.{named_here, named_more}
use Rattle.line_laws.proofs.FieldsBack.{names_of_fields, names_of_parts, differ_front, differ_back, apart, ascii, object_printed, part_back, fields_known, fields_distinct, fields_back, fields_printed, parts_known, parts_distinct, parts_back, parts_printed}

-- ---- groups

abbrev names_of_groups : {n : _} → Row_of-Group n → List (List ℕ)
names_of_groups gs = map group_name (items-the_row-Group _ gs)

groups_known : {n : _} (gs : Row_of-Group n) (vs : List GroupVal) → AreKnown (group_names gs) (groups_entries gs vs)
unfolding block_entries
groups_known end_of-Group vs = tt
groups_known (more_of-Group g rest) [] = tt
groups_known (more_of-Group g rest) (v ∷ vs) = (named_here (group_name g) (group_names rest), named_more (group_name g) (group_names rest) (groups_entries rest vs) (groups_known rest vs))

new_group : (name : List ℕ) {n : _} (gs : Row_of-Group n) (vs : List GroupVal) → IsOther name (names_of_groups gs) → IsNew name (groups_entries gs vs)
unfolding block_entries
new_group name end_of-Group vs h = tt
new_group name (more_of-Group g rest) [] h = tt
new_group name (more_of-Group g rest) (v ∷ vs) h = (h.0, new_group name rest vs h.1)

groups_distinct : {n : _} (gs : Row_of-Group n) (vs : List GroupVal) → DoDiffer (names_of_groups gs) → AreDistinct (groups_entries gs vs)
unfolding block_entries
groups_distinct end_of-Group vs h = tt
groups_distinct (more_of-Group g rest) [] h = tt
groups_distinct (more_of-Group g rest) (v ∷ vs) h = (new_group (group_name g) rest vs h.0, groups_distinct rest vs h.1)

-- ---- entries

-- each entry of which P holds is read from its members
entries_back : (F : Block → List Entry) (R : Members → Reading Block) (P : Block → Type 0) → ((b : Block) → AreKnown entry_names (F b)) → ((b : Block) → P b → R (put_all (listed (F b)) no_members) ≡ Ok b)
    → (i : ℕ) (es : List Block) → EachFits P es → each (entry_in R) i (items_as_read (items_by (λ e. object (listed (F e))) es)) ≡ Ok es
unfolding each
entries_back F R P named back i [] h = refl
entries_back F R P named back i (e ∷ es) h = rw (listed_is_known entry_names (F e) (named e), back e h.0, entries_back F R P named back (suc i) es h.1) refl

items_integers : (F : Block → List Entry) (n : ℕ) (P : Block → Type 0) → ((b : Block) → P b → ArePrinted n (F b)) → (es : List Block) → EachFits P es → ItemsHaveIntegers (items_by (λ e. object (listed (F e))) es)
items_integers F n P each [] h = tt
items_integers F n P each (e ∷ es) h = (listed_integers n (F e) (each e h.0), items_integers F n P each es h.1)

items_texts : (F : Block → List Entry) (n : ℕ) (P : Block → Type 0) → ((b : Block) → P b → ArePrinted n (F b)) → (es : List Block) → EachFits P es → ItemsHaveTexts (items_by (λ e. object (listed (F e))) es)
items_texts F n P each [] h = tt
items_texts F n P each (e ∷ es) h = (listed_texts n (F e) (each e h.0), items_texts F n P each es h.1)

items_deep : (F : Block → List Entry) (n : ℕ) (P : Block → Type 0) → ((b : Block) → P b → ArePrinted n (F b)) → (es : List Block) → EachFits P es → items_depth (items_by (λ e. object (listed (F e))) es) ≤ suc n
items_deep F n P each [] h = omega arith
items_deep F n P each (e ∷ es) h = omega (arith, listed_deep n (F e) (each e h.0), items_deep F n P each es h.1)

-- two facts of each entry
both_fit : (P Q : Block → Type 0) (es : List Block) → EachFits P es → EachFits Q es → EachFits (λ e. P e × Q e) es
both_fit P Q [] h k = tt
both_fit P Q (e ∷ es) h k = ((h.0, k.0), both_fit P Q es h.1 k.1)

-- ---- what is good of a block and of a group

-- the block is read from what its entries are found as, and they are printed
pub record BlockGood (level : Level) (b : Block) : Type 0 where
  pub read : (ms : Members) → Finds (block_entries level b) ms → block_read level ms ≡ Ok b
  pub printed : ArePrinted (3 * groups_deep level + 6) (block_entries level b)

-- the same of a group
pub record GroupGood (g : Group) (v : GroupVal) : Type 0 where
  pub read : (ms : Members) → get_member (group_name g) ms ≡ option_map as_read (group_data g v) → group_read g ms ≡ Ok v
  pub printed : IsPrinted (3 * group_deep g + 5) (group_data g v)

-- the same of groups
pub record GroupsGood {n : _} (gs : Row_of-Group n) (vs : List GroupVal) : Type 0 where
  pub read : (ms : Members) → Finds (groups_entries gs vs) ms → groups_read gs ms ≡ Ok vs
  pub printed : ArePrinted (3 * row_deep gs + 5) (groups_entries gs vs)

pub block_known : (level : Level) (b : Block) → AreKnown entry_names (block_entries level b)
unfolding block_entries
block_known (Level' name id semantic since block_length fields n groups parts) b = (refl, (refl, (refl, tt)))

pub block_distinct : (level : Level) (b : Block) → AreDistinct (block_entries level b)
unfolding block_entries
block_distinct (Level' name id semantic since block_length fields n groups parts) b =
    ((apart (codes "data") (codes "fields") refl, (apart (codes "data") (codes "groups") refl, tt)), ((apart (codes "fields") (codes "groups") refl, tt), (tt, tt)))

-- ---- a group

abbrev entries_data : Level → List Block → Data
entries_data level es = array (items_by (λ e. object (listed (block_entries level e))) es)

-- a group from its entries
group_made : (dim : List Member) (level : Level) (v : GroupVal) (es : List Block) → v ≡ groupval.Entries es → entries_in v ≡ Some es → (P : Block → Type 0) → ((e : Block) → P e → BlockGood level e) → EachFits P es
    → GroupGood (Group' dim level) v
unfolding block_entries block_read groups_deep groups.out-Group carrier.out
group_made dim level v es is there P good each =
    let n = 3 * groups_deep level + 6 in
    let F : Block → List Entry = λ e. block_entries level e in
    let printed : (e : Block) → P e → ArePrinted n (F e) = λ e h. (good e h).printed in
    let back : (e : Block) → P e → block_read level (put_all (listed (F e)) no_members) ≡ Ok e = λ e h. (good e h).read _ (listed_is_found (F e) (block_distinct level e)) in
    let name = (out-Level level).name in
    record {
      read = λ ms found. (
          ap (λ o. inside name (group_in (λ found. block_read level found) o)) (found ∙ ap (λ o. option_map as_read (option_map (entries_data level) o)) there)
          ∙ ap (λ r. inside name (r >>= (λ entries. Ok (groupval.Entries entries)))) (entries_back F (λ found. block_read level found) P (block_known level) back 0 es each)
          ∙ ap Ok (sym is)
          );
      printed =
          subst (λ o. IsPrinted (3 * group_deep (Group' dim level) + 5) (option_map (entries_data level) o)) (sym there) (record {
            integers = items_integers F n P printed es each;
            texts = items_texts F n P printed es each;
            deep = omega (arith, items_deep F n P printed es each);
          });
    }

abbrev Named : Node → Type 0
Named node = HasNames node.level

mutual
  unfolding block_entries block_read nodes groups_deep groups.out-Group levels.out-Level carrier.out

  pub block_good : (order : Order) (t : ℕ) (dim : Option (List Member)) (level : Level) (b : Block) → AllByRecursion Named (nodes t dim level) → AllByRecursion HasKinds (nodes t dim level) → BlockHasBytes level b → BlockFits order level b
      → BlockGood level b
  block_good order t dim (Level' name id semantic since block_length fields n groups parts) b named kinds bytes fits =
      let level = Level' name id semantic since block_length fields n groups parts in
      let shown = items_shown-the_row-Group-0 n groups in
      let field_list = names_of_fields fields in
      let group_list = map group_name (out-Level level).groups in
      let data_list = names_of_parts parts in
      let own = all_apart IsName field_list (group_list ++ data_list) named.0.parts in
      let after = all_apart IsName group_list data_list own.1 in
      let differ = do_differ (part_names level) named.0.names_differ in
      let later = differ_back field_list (group_list ++ data_list) differ in
      let group_names_are = subst (λ gs. AllByRecursion IsName (map group_name gs)) shown after.0 in
      let groups_differ = subst (λ gs. DoDiffer (map group_name gs)) shown (differ_front group_list data_list later) in
      let rest = groups_good order t groups (out-Block b).groups group_names_are named.1 kinds.1 bytes.1 fits.1 in
      let F = zipped field_entry fields (out-Block b).fields in
      let G = groups_entries groups (out-Block b).groups in
      let D = zipped part_entry parts (out-Block b).parts in
      record {
        read = λ ms found. (
            let f = part_back (codes "fields") (field_names fields) F ms found.1.0 (fields_known fields (out-Block b).fields) in
            let g = part_back (codes "groups") (group_names groups) G ms found.1.1.0 (groups_known groups (out-Block b).groups) in
            let d = part_back (codes "data") (data_names parts) D ms found.0 (parts_known parts (out-Block b).parts) in
            let vs = fields_back order fields (out-Block b).fields (put_all (listed F) no_members) kinds.0.fields bytes.0 fits.0 (listed_is_found F (fields_distinct fields (out-Block b).fields (differ_front field_list (group_list ++ data_list) differ))) in
            let ws = rest.read (put_all (listed G) no_members) (listed_is_found G (groups_distinct groups (out-Block b).groups groups_differ)) in
            let ps = parts_back parts (out-Block b).parts (put_all (listed D) no_members) bytes.2 fits.2 (listed_is_found D (parts_distinct parts (out-Block b).parts (differ_back group_list data_list later))) in
            rw (f, vs, g, ws, d, ps) refl
            );
        printed = (
          ascii (codes "data") refl,
          deeper 6 _ _ (omega arith) (object_printed 5 D (parts_printed parts (out-Block b).parts after.1)),
          (
            ascii (codes "fields") refl,
            deeper 6 _ _ (omega arith) (object_printed 5 F (fields_printed order fields (out-Block b).fields own.0 kinds.0.fields bytes.0 fits.0)),
            (ascii (codes "groups") refl, deeper _ _ _ (omega arith) (object_printed (3 * row_deep groups + 5) G rest.printed), tt),
          ),
        );
      }

  groups_good : (order : Order) (t : ℕ) {n : _} (gs : Row_of-Group n) (vs : List GroupVal) → AllByRecursion IsName (names_of_groups gs) → AllByRecursion Named (nodes_below t gs) → AllByRecursion HasKinds (nodes_below t gs)
      → GroupsHaveBytes gs vs → GroupsFit order gs vs → GroupsGood gs vs
  groups_good order t end_of-Group [] own named kinds bytes fits = record { read = λ ms found. refl; printed = tt }
  groups_good order t end_of-Group (v ∷ vs) own named kinds bytes fits = absurd fits
  groups_good order t (more_of-Group g rest) [] own named kinds bytes fits = absurd fits
  groups_good order t (more_of-Group g rest) (v ∷ vs) own named kinds bytes fits =
      let names = all_apart Named (nodes_of t g) (nodes_below t rest) named in
      let orders = all_apart HasKinds (nodes_of t g) (nodes_below t rest) kinds in
      let here = group_good order t g v names.0 orders.0 bytes.0 fits.0 in
      let there = groups_good order t rest vs own.1 names.1 orders.1 bytes.1 fits.1 in
      record {
        read = λ ms found. (rw (here.read ms found.0, there.read ms found.1) refl);
        printed = (name_text (group_name g) own.0, deeper _ _ (group_data g v) (omega arith) here.printed, all_deeper _ _ (groups_entries rest vs) (omega arith) there.printed);
      }

  group_good : (order : Order) (t : ℕ) (g : Group) (v : GroupVal) → AllByRecursion Named (nodes_of t g) → AllByRecursion HasKinds (nodes_of t g) → GroupHasBytes g v → GroupFits order g v → GroupGood g v
  group_good order t (Group' dim level) v named kinds bytes fits =
      let es = fits.0 in
      let there : entries_in v ≡ Some es = ap entries_in fits.1 ∙ ap Some (items_hidden-the_row-Block-1 es) in
      group_made dim level v es fits.1 there (λ e. BlockHasBytes level e × BlockFits order level e)
      (λ e h. block_good order t (Some dim) level e named kinds h.0 h.1)
      (both_fit (λ e. BlockHasBytes level e) (λ e. BlockFits order level e) es (subst (EachThere (λ e. BlockHasBytes level e)) there bytes) fits.3)
