-- The pairs of tags of fields.
use Rattle.std.proofs.Common.{◌≡◌, Bool, List, [], ◌∷◌, filter_map, Option, Some, None, refl}
use Rattle.std.specs.Borrow.{Bor}
use Rattle.std.specs.List.{AllByRecursion, cons_option}
use Rattle.map_types.specs.declared.tree.FieldEl.{FieldEl}
use Rattle.map_members.specs.Lent.{lent_members}
use Rattle.orchestra_map.specs.DataFields.{data_pair}
use Rattle.tagvalue_codec.specs.declared.data_tags.Pair.{Pair}
use Rattle.same_texts.specs.Follow.{IsOwnPair}
use Rattle.text_judge.specs.OwnPairs.{HaveOwnPairs}

one_listed : {Y : Type 0} (P : Y → Type 0) (o : Option Y) (ys : List Y) → ((y : Y) → o ≡ Some y → P y) → AllByRecursion P ys → AllByRecursion P (cons_option o ys)
one_listed P None ys own all = all
one_listed P (Some y) ys own all = (own y refl, all)

-- what is tested of each field holds of each pair
pub pairs_listed : (tags : List Pair) (hidden : Bool) (fields : List (Bor FieldEl)) → HaveOwnPairs tags fields → AllByRecursion (IsOwnPair tags) (filter_map (data_pair hidden) (lent_members fields))
pairs_listed tags hidden [] all = tt
pairs_listed tags hidden (f ∷ fs) all = one_listed (IsOwnPair tags) (data_pair hidden f.now) (filter_map (data_pair hidden) (lent_members fs)) (all.0 hidden) (pairs_listed tags hidden fs all.1)
