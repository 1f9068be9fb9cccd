-- The test of plain messages tells which are plain.
use Rattle.std.proofs.Common.{◌≡◌, ℕ, Bool, true, false, cond, List, [], ◌∷◌, Some, refl, sym, ◌∙◌, subst}
use Rattle.std.specs.Prelude.{⊤, IsTrue, ◌↔◌, not, ◌&&◌, ◌||◌, slice_get}
use Rattle.std.specs.Bool.{MatchBool}
use Rattle.std.specs.List.{list_all, list_any}
use denote.Hole.Carrier as carrier
use Rattle.sbe_types.specs.declared.schema.Level as levels
use Rattle.sbe_types.specs.declared.schema.DataField.{DataField}
use Rattle.sbe_types.specs.declared.schema.Group.{Group, Group'}
use Rattle.sbe_types.specs.declared.schema.Level.{Level, Level', out-Level, Row_of-Group, end_of-Group, more_of-Group, items-the_row-Group, items_shown-the_row-Group-0}
use Rattle.sbe_types.specs.declared.schema.WireSchema.{WireSchema}
use Rattle.sbe_types.specs.declared.message.DataVal.{DataVal}
use Rattle.sbe_types.specs.declared.message.DataVal.TheVariants as dataval
use Rattle.sbe_types.specs.declared.message.Block.{Block, out-Block}
use Rattle.sbe_types.specs.declared.message.GroupVal.{GroupVal, items-the_row-Block}
use Rattle.sbe_types.specs.declared.message.GroupVal.TheVariants as groupval
use Rattle.sbe_types.specs.declared.message.Msg.{Msg}
use Rattle.version_laws.specs.Differ.{is_old, group_since}
use Rattle.version_laws.specs.Projected.{old_part}
use Rattle.version_laws.specs.Plain.{AllOf, EachEntry, PlainParts, PlainEntry, PlainGroups, PlainGroup, NoOldParts, NoOldGroups, is_absent_part, is_absent_group, PlainRootParts, PlainRootGroups, PlainRoot, Plain}
use Rattle.version_project.specs.IsPlain.{all_pairs, part_is_plain, entries_pass, entry_is_plain, groups_are_plain, group_is_plain, old_group, root_parts_pass, root_groups_pass, root_is_plain}
use Rattle.version_project.proofs.Items.{some_is}

abbrev pub Tells : Bool → Type 0 → Type 0
Tells b P = IsTrue b ↔ P

no : (P : Type 0) → ◌≡◌ {A = Bool} false true → P
no P h = cc

holds : (P : Type 0) → P → Tells true P
holds P p = (λ _. p, λ _. refl)

both : (b c : Bool) (P Q : Type 0) → Tells b P → Tells c Q → Tells (b && c) (P × Q)
both true c P Q p q = (λ h. (p.0 refl, q.0 h), λ h. q.1 h.1)
both false c P Q p q = (λ h. no (P × Q) h, λ h. p.1 h.0)

choice : (t b c : Bool) (P Q : Type 0) → Tells b P → Tells c Q → Tells (cond t b c) (MatchBool t P Q)
choice true b c P Q p q = p
choice false b c P Q p q = q

absent_part : (v : DataVal) → Tells (is_absent_part v) (v ≡ dataval.Absent)
absent_part dataval.Absent = (λ _. refl, λ _. refl)
absent_part (dataval.Bytes bytes) = (λ h. no _ h, λ h. cc)

absent_group : (v : GroupVal) → Tells (is_absent_group v) (v ≡ groupval.Absent)
absent_group groupval.Absent = (λ _. refl, λ _. refl)
absent_group (groupval.Entries' n row) = (λ h. no _ h, λ h. cc)

part_tells : (t : Bool) (v : DataVal) → Tells (t || is_absent_part v) (MatchBool t ⊤ (v ≡ dataval.Absent))
part_tells true v = (λ _. tt, λ _. refl)
part_tells false v = absent_part v

parts_tell : (version : ℕ) (ps : List DataField) (vs : List DataVal) → Tells (all_pairs (part_is_plain version) ps vs) (PlainParts version ps vs)
parts_tell version [] vs = holds ⊤ tt
parts_tell version (p ∷ ps) [] = holds ⊤ tt
parts_tell version (p ∷ ps) (v ∷ vs) = both (part_is_plain version p v) (all_pairs (part_is_plain version) ps vs) _ _ (part_tells (is_old version p.since) v) (parts_tell version ps vs)

all_tell : (test : Block → Bool) (P : Block → Type 0) → ((e : Block) → Tells (test e) (P e)) → (es : List Block) → Tells (list_all test es) (AllOf P es)
all_tell test P each [] = holds ⊤ tt
all_tell test P each (e ∷ es) = both (test e) (list_all test es) (P e) (AllOf P es) (each e) (all_tell test P each es)

entries_tell : (test : Block → Bool) (P : Block → Type 0) → ((e : Block) → Tells (test e) (P e)) → (v : GroupVal) → Tells (entries_pass test v) (EachEntry P v)
entries_tell test P each groupval.Absent = holds ⊤ tt
entries_tell test P each (groupval.Entries' n row) = all_tell test P each (items-the_row-Block _ row)

mutual
  unfolding entry_is_plain groups_are_plain group_is_plain

  pub entry_tells : (version : ℕ) (level : Level) (block : Block) → Tells (entry_is_plain version level block) (PlainEntry version level block)
  entry_tells version (Level' name id semantic since block_length fs n gs ps) block =
      both (groups_are_plain version gs (out-Block block).groups) (all_pairs (part_is_plain version) ps (out-Block block).parts) _ _
      (groups_tell version gs (out-Block block).groups) (parts_tell version ps (out-Block block).parts)

  groups_tell : (version : ℕ) {n : _} (gs : Row_of-Group n) (vs : List GroupVal) → Tells (groups_are_plain version gs vs) (PlainGroups version gs vs)
  groups_tell version end_of-Group vs = holds ⊤ tt
  groups_tell version (more_of-Group g gs) [] = holds ⊤ tt
  groups_tell version (more_of-Group g gs) (v ∷ vs) = both (group_is_plain version g v) (groups_are_plain version gs vs) _ _ (group_tells version g v) (groups_tell version gs vs)

  group_tells : (version : ℕ) (g : Group) (v : GroupVal) → Tells (group_is_plain version g v) (MatchBool (is_old version (group_since g)) (PlainGroup version g v) (v ≡ groupval.Absent))
  group_tells version (Group' dim level) v =
      choice (is_old version (out-Level level).since) (entries_pass (λ entry. entry_is_plain version level entry) v) (is_absent_group v) _ _
      (entries_tell (λ entry. entry_is_plain version level entry) (λ entry. PlainEntry version level entry) (λ entry. entry_tells version level entry) v)
      (absent_group v)

-- ---- the root

none_tells : (a b : Bool) (N : Type 0) → Tells (not b) N → Tells (not (a || b)) ((a ≡ false) × N)
none_tells true b N n = (λ h. no _ h, λ h. no _ (sym h.0))
none_tells false b N n = (λ h. (refl, n.0 h), λ h. n.1 h.1)

no_parts_tell : (version : ℕ) (ps : List DataField) → Tells (not (list_any (old_part version) ps)) (NoOldParts version ps)
no_parts_tell version [] = holds ⊤ tt
no_parts_tell version (p ∷ ps) = none_tells (is_old version p.since) (list_any (old_part version) ps) (NoOldParts version ps) (no_parts_tell version ps)

no_groups_tell : (version : ℕ) {n : _} (gs : Row_of-Group n) → Tells (not (list_any (old_group version) (items-the_row-Group _ gs))) (NoOldGroups version gs)
no_groups_tell version end_of-Group = holds ⊤ tt
no_groups_tell version (more_of-Group g gs) =
    none_tells (is_old version (group_since g)) (list_any (old_group version) (items-the_row-Group _ gs)) (NoOldGroups version gs) (no_groups_tell version gs)

part_step : (old absent rest any : Bool) (Q N : Type 0) → Tells rest Q → Tells (not any) N → Tells (cond (old || absent) rest (not (old || any))) (MatchBool old Q (MatchBool absent Q N))
part_step true absent rest any Q N q n = q
part_step false true rest any Q N q n = q
part_step false false rest any Q N q n = n

root_parts_tell : (version : ℕ) (ps : List DataField) (vs : List DataVal) → Tells (root_parts_pass version ps vs) (PlainRootParts version ps vs)
root_parts_tell version [] vs = holds ⊤ tt
root_parts_tell version (p ∷ ps) [] = holds ⊤ tt
root_parts_tell version (p ∷ ps) (v ∷ vs) =
    part_step (is_old version p.since) (is_absent_part v) (root_parts_pass version ps vs) (list_any (old_part version) ps) _ _ (root_parts_tell version ps vs) (no_parts_tell version ps)

-- a group that old has, whose entries pass or not; or one that it lacks, which is absent or not
group_step : (old absent entries test rest any after : Bool) (P Q N M : Type 0) → test ≡ cond old entries absent → Tells entries P → Tells rest Q → Tells (not any) N → Tells (not after) M →
    Tells (cond test rest (not (old || any) && not after)) (MatchBool old (P × Q) (MatchBool absent Q (N × M)))
group_step true absent true test rest any after P Q N M is p q n m = subst (λ t. Tells (cond t rest (false && not after)) (P × Q)) (sym is) (λ h. (p.0 refl, q.0 h), λ h. q.1 h.1)
group_step true absent false test rest any after P Q N M is p q n m = subst (λ t. Tells (cond t rest (false && not after)) (P × Q)) (sym is) (λ h. no _ h, λ h. p.1 h.0)
group_step false true entries test rest any after P Q N M is p q n m = subst (λ t. Tells (cond t rest (not any && not after)) Q) (sym is) q
group_step false false entries test rest any after P Q N M is p q n m = subst (λ t. Tells (cond t rest (not any && not after)) (N × M)) (sym is) (both (not any) (not after) N M n m)

group_test : (version : ℕ) (g : Group) (v : GroupVal) → (entries : Bool) × (group_is_plain version g v ≡ cond (is_old version (group_since g)) entries (is_absent_group v)) × Tells entries (PlainGroup version g v)
unfolding group_is_plain
group_test version (Group' dim level) v = (
  entries_pass (λ entry. entry_is_plain version level entry) v,
  refl,
  entries_tell (λ entry. entry_is_plain version level entry) (λ entry. PlainEntry version level entry) (λ entry. entry_tells version level entry) v,
)

root_groups_tell : (version : ℕ) (ps : List DataField) (ds : List DataVal) {n : _} (gs : Row_of-Group n) (vs : List GroupVal) →
    Tells (root_groups_pass version ps ds (items-the_row-Group _ gs) vs) (PlainRootGroups version ps ds gs vs)
root_groups_tell version ps ds end_of-Group vs = root_parts_tell version ps ds
root_groups_tell version ps ds (more_of-Group g gs) [] = holds ⊤ tt
root_groups_tell version ps ds (more_of-Group g gs) (v ∷ vs) =
    let test = group_test version g v in
    group_step (is_old version (group_since g)) (is_absent_group v) test.0 (group_is_plain version g v) (root_groups_pass version ps ds (items-the_row-Group _ gs) vs)
    (list_any (old_group version) (items-the_row-Group _ gs)) (list_any (old_part version) ps) (PlainGroup version g v) (PlainRootGroups version ps ds gs vs)
    (NoOldGroups version gs) (NoOldParts version ps) test.1 test.2 (root_groups_tell version ps ds gs vs) (no_groups_tell version gs) (no_parts_tell version ps)

pub root_tells : (version : ℕ) (level : Level) (block : Block) → Tells (root_is_plain version level block) (PlainRoot version level block)
unfolding levels.out-Level carrier.out
root_tells version (Level' name id semantic since block_length fs n gs ps) block =
    subst (λ l. Tells (root_groups_pass version ps (out-Block block).parts l (out-Block block).groups) (PlainRootGroups version ps (out-Block block).parts gs (out-Block block).groups)) (sym (items_shown-the_row-Group-0 n gs))
    (root_groups_tell version ps (out-Block block).parts gs (out-Block block).groups)

-- ---- the message

pub message_tells : (old new : WireSchema) (m : Msg) (level : Level) → slice_get new.messages m.template ≡ Some level → Tells (root_is_plain old.version level m.block) (Plain old new m)
message_tells old new m level at = (
  λ h other is. subst (λ l. PlainRoot old.version l m.block) (some_is (sym at ∙ is)) ((root_tells old.version level m.block).0 h),
  λ plain. (root_tells old.version level m.block).1 (plain level at),
)
