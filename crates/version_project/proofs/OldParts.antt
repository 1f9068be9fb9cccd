-- What the older schema has, by the version since which it is effective.
use Rattle.std.proofs.Common.{◌≡◌, ◌≤◌, ◌<◌, ℕ, true, false, refl, ap, ◌∙◌, arith}
use Rattle.std.proofs.lemmas.Bool.Decides.{nat_tests}
use denote.Hole.Carrier as carrier
use Rattle.sbe_types.specs.declared.schema.Group as groups_of
use Rattle.sbe_types.specs.declared.schema.Group.{Group, Group', out-Group}
use Rattle.sbe_types.specs.declared.schema.Level.{out-Level}
use Rattle.version_laws.specs.Differ.{is_old, group_since, group_name}

pub old_has : (version since : ℕ) → since ≤ version → is_old version since ≡ true
old_has version since h = grind (arith, nat_tests)

pub old_lacks : (version since : ℕ) → version < since → is_old version since ≡ false
old_lacks version since h = grind (arith, nat_tests)

-- ---- groups

pub name_is : (g : Group) → group_name g ≡ (out-Level (out-Group g).level).name
unfolding groups_of.out-Group carrier.out
name_is (Group' dim level) = refl

pub since_is : (g : Group) → group_since g ≡ (out-Level (out-Group g).level).since
unfolding groups_of.out-Group carrier.out
since_is (Group' dim level) = refl

pub old_has_group : (version : ℕ) (g : Group) → (out-Level (out-Group g).level).since ≤ version → is_old version (group_since g) ≡ true
old_has_group version g h = ap (is_old version) (since_is g) ∙ old_has version (out-Level (out-Group g).level).since h

pub old_lacks_group : (version : ℕ) (g : Group) → version < (out-Level (out-Group g).level).since → is_old version (group_since g) ≡ false
old_lacks_group version g h = ap (is_old version) (since_is g) ∙ old_lacks version (out-Level (out-Group g).level).since h
