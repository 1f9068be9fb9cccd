-- Where nothing breaks the way forward, each message of new is plain.
use Rattle.std.proofs.Common.{◌≡◌, ℕ, zero, suc, Bool, true, false, cond, List, [], ◌∷◌, Option, Some, None, refl, sym, ap, ◌∙◌, subst}
use Rattle.std.specs.Prelude.{not, ◌||◌, slice_get}
use Rattle.sbe_types.specs.declared.schema.DataField.{DataField}
use Rattle.sbe_types.specs.declared.schema.Group.{Group, Group'}
use Rattle.sbe_types.specs.declared.schema.Level.{Level, Level', out-Level, Row_of-Group, end_of-Group, more_of-Group}
use Rattle.sbe_types.specs.declared.schema.WireSchema.{WireSchema}
use Rattle.sbe_types.specs.declared.message.DataVal.{DataVal}
use Rattle.sbe_types.specs.declared.message.Block.{Block, out-Block}
use Rattle.sbe_types.specs.declared.message.GroupVal.{GroupVal, items-the_row-Block}
use Rattle.sbe_types.specs.declared.message.GroupVal.TheVariants as groupval
use Rattle.sbe_types.specs.declared.message.Msg.{Msg}
use Rattle.sbe_wire.specs.Faults.{message_named}
use Rattle.version_laws.specs.declared.difference.Compat.TheVariants as answer
use Rattle.version_laws.specs.declared.difference.Difference.{Difference}
use Rattle.version_laws.specs.Answer.{compat_of}
use Rattle.version_laws.specs.Differ.{is_old, group_since, group_name}
use Rattle.version_laws.specs.Forward.{NamePath, or_later, below, added_part, added_in, added_group, added_below, has_old_part, has_old_group, early_part, early_group, added_at_root, added_of, added_among, first_added}
use Rattle.version_laws.specs.Projected.{projected_from, projected}
use Rattle.version_laws.proofs.BodyMoves.{has_template}
use Rattle.version_laws.specs.Plain.{AllOf, EachEntry, PlainParts, PlainEntry, PlainGroups, PlainGroup, NoOldParts, NoOldGroups, is_absent_part, is_absent_group, PlainRootParts, PlainRootGroups, PlainRoot, Plain}
use Rattle.version_laws.proofs.BlockMoves.{by_bool, take_it, pass_it}

some_is : {A : Type 0} {x y : A} → ◌≡◌ {A = Option A} (Some x) (Some y) → x ≡ y
some_is h = cc

later_none : (a b : Option NamePath) → or_later a b ≡ None → (a ≡ None) × (b ≡ None)
later_none None b h = (refl, h)
later_none (Some p) b h = cc

below_none : (name : List ℕ) (d : Option NamePath) → below name d ≡ None → d ≡ None
below_none name None h = refl
below_none name (Some d) h = cc

some_none : (p : NamePath) → ◌≡◌ {A = Option NamePath} (Some p) None → ⊥
some_none p h = cc

when_true : {A : Type 0} (t : Bool) (x y : A) → t ≡ true → cond t x y ≡ x
when_true t x y e = ap (λ t. cond t x y) e

when_false : {A : Type 0} (t : Bool) (x y : A) → t ≡ false → cond t x y ≡ y
when_false t x y e = ap (λ t. cond t x y) e

neither : (x y : Bool) → (x || y) ≡ false → (x ≡ false) × (y ≡ false)
neither true y h = cc
neither false y h = (refl, h)

-- ---- entries

plain_parts : (version : ℕ) (parts : List DataField) → added_part version parts ≡ None → (vs : List DataVal) → PlainParts version parts vs
plain_parts version [] h vs = tt
plain_parts version (p ∷ ps) h [] = tt
plain_parts version (p ∷ ps) h (v ∷ vs) =
    by_bool _ (is_old version p.since)
    (λ o. (take_it _ _ _ o tt, plain_parts version ps (sym (when_true _ _ _ o) ∙ h) vs))
    (λ o. absurd (some_none _ (sym (when_false _ _ _ o) ∙ h)))

all_plain : (P : Block → Type 0) → ((e : Block) → P e) → (es : List Block) → AllOf P es
all_plain P h [] = tt
all_plain P h (e ∷ es) = (h e, all_plain P h es)

each_plain : (P : Block → Type 0) → ((e : Block) → P e) → (v : GroupVal) → EachEntry P v
each_plain P h groupval.Absent = tt
each_plain P h (groupval.Entries' n row) = all_plain P h (items-the_row-Block _ row)

mutual
  unfolding added_in added_group added_below

  plain_entry : (version : ℕ) (level : Level) → added_in version level ≡ None → (block : Block) → PlainEntry version level block
  plain_entry version (Level' _ _ _ _ _ _ _ groups parts) h block =
      let two = later_none _ _ h in
      (plain_groups version groups two.0 (out-Block block).groups, plain_parts version parts two.1 (out-Block block).parts)

  plain_groups : (version : ℕ) {n : _} (groups : Row_of-Group n) → added_group version groups ≡ None → (vs : List GroupVal) → PlainGroups version groups vs
  plain_groups version end_of-Group h vs = tt
  plain_groups version (more_of-Group g gs) h [] = tt
  plain_groups version (more_of-Group g gs) h (v ∷ vs) =
      by_bool _ (is_old version (group_since g))
      (λ o. let two = later_none _ _ (sym (when_true _ _ _ o) ∙ h) in
      (take_it _ _ _ o (plain_group version g (below_none (group_name g) _ two.0) v), plain_groups version gs two.1 vs))
      (λ o. absurd (some_none _ (sym (when_false _ _ _ o) ∙ h)))

  plain_group : (version : ℕ) (g : Group) → added_below version g ≡ None → (v : GroupVal) → PlainGroup version g v
  plain_group version (Group' dim level) h v = each_plain (PlainEntry version level) (plain_entry version level h) v

-- ---- the root

no_old_parts : (version : ℕ) (parts : List DataField) → has_old_part version parts ≡ false → NoOldParts version parts
no_old_parts version [] h = tt
no_old_parts version (p ∷ ps) h = let two = neither _ _ h in (two.0, no_old_parts version ps two.1)

no_old_groups : (version : ℕ) {n : _} (groups : Row_of-Group n) → has_old_group version groups ≡ false → NoOldGroups version groups
no_old_groups version end_of-Group h = tt
no_old_groups version (more_of-Group g gs) h = let two = neither _ _ h in (two.0, no_old_groups version gs two.1)

early_step : (x y : Bool) (m n : Option NamePath) → cond (x || not y) m n ≡ None → x ≡ false → (p : NamePath) → n ≡ Some p → (y ≡ false) × (m ≡ None)
early_step true y m n h x p e = cc
early_step false true m n h x p e = cc
early_step false false m n h x p e = (refl, h)

early_old : (x y : Bool) (m n : Option NamePath) → cond (x || not y) m n ≡ None → x ≡ true → m ≡ None
early_old true y m n h x = h
early_old false y m n h x = cc

plain_root_parts : (version : ℕ) (parts : List DataField) → early_part version parts ≡ None → (vs : List DataVal) → PlainRootParts version parts vs
plain_root_parts version [] h vs = tt
plain_root_parts version (p ∷ ps) h [] = tt
plain_root_parts version (p ∷ ps) h (v ∷ vs) =
    by_bool _ (is_old version p.since)
    (λ o. take_it _ _ _ o (plain_root_parts version ps (early_old _ _ _ _ h o) vs))
    (λ o. let step = early_step _ _ _ _ h o (p.name ∷ []) refl in
    pass_it _ _ _ o (by_bool _ (is_absent_part v) (λ a. take_it _ _ _ a (plain_root_parts version ps step.1 vs)) (λ a. pass_it _ _ _ a (no_old_parts version ps step.0))))

plain_root_groups : (version : ℕ) (parts : List DataField) (ds : List DataVal) {n : _} (groups : Row_of-Group n) → early_group version parts groups ≡ None → (vs : List GroupVal) → PlainRootGroups version parts ds groups vs
plain_root_groups version parts ds end_of-Group h vs = plain_root_parts version parts h ds
plain_root_groups version parts ds (more_of-Group g gs) h [] = tt
plain_root_groups version parts ds (more_of-Group g gs) h (v ∷ vs) =
    by_bool _ (is_old version (group_since g))
    (λ o. let two = later_none _ _ (sym (when_true _ _ _ o) ∙ h) in
    take_it _ _ _ o (plain_group version g (below_none (group_name g) _ two.0) v, plain_root_groups version parts ds gs two.1 vs))
    (λ o. let k = sym (when_false _ _ _ o) ∙ h in
    pass_it _ _ _ o (by_bool _ (has_old_group version gs || has_old_part version parts)
    (λ t. absurd (some_none _ (sym (when_true _ _ _ t) ∙ k)))
    (λ t. let none = neither _ _ t in
    by_bool _ (is_absent_group v) (λ a. take_it _ _ _ a (plain_root_groups version parts ds gs (sym (when_false _ _ _ t) ∙ k) vs))
    (λ a. pass_it _ _ _ a (no_old_groups version gs none.0, no_old_parts version parts none.1)))))

pub plain_root : (version : ℕ) (level : Level) → added_at_root version level ≡ None → (block : Block) → PlainRoot version level block
unfolding added_at_root
plain_root version (Level' _ _ _ _ _ _ _ groups parts) h block = plain_root_groups version parts (out-Block block).parts groups h (out-Block block).groups

-- ---- messages

of_level : (version : ℕ) (new : Level) (o : Option (ℕ × Level)) → added_of version new o ≡ None → (t : ℕ × Level) → o ≡ Some t → added_at_root version new ≡ None
of_level version new None h t e = cc
of_level version new (Some old) h t e = below_none (out-Level new).name _ h

none_among : (version : ℕ) (old news : List Level) → added_among version old news ≡ None → (i : ℕ) (level : Level) → slice_get news i ≡ Some level → (t : ℕ × Level) → message_named 0 (out-Level level).id old ≡ Some t →
    added_at_root version level ≡ None
none_among version old [] h i level at t e = cc
none_among version old (new ∷ news) h zero level at t e =
    let is : new ≡ level = some_is at in
    subst (λ l. added_at_root version l ≡ None) is (of_level version new _ (later_none _ _ h).0 t (ap (λ l. message_named 0 (out-Level l).id old) is ∙ e))
none_among version old (new ∷ news) h (suc i) level at t e = none_among version old news (later_none _ _ h).1 i level at t e

-- where nothing is added in the way, a message whose template old has is plain
pub forward_plain : (old new : WireSchema) → first_added old new ≡ None → (m n : Msg) → projected old new m ≡ Some n → Plain old new m
forward_plain old new h m n is level at =
    let t = has_template m _ _ n (sym (ap (projected_from old m) at) ∙ is) in
    plain_root old.version level (none_among old.version old.messages new.messages h m.template level at t.0 t.1) m.block

-- ---- the answer that both ways go

pub both_none : (d : Option Difference) (added : Option NamePath) → compat_of d added ≡ answer.TwoWay → (d ≡ None) × (added ≡ None)
both_none (Some d) added h = cc
both_none None (Some names) h = cc
both_none None None h = (refl, refl)
