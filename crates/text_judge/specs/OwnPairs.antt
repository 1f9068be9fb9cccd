-- Fields of a mapping whose length fields belong to one data field each. Own profile.
use Rattle.std.specs.Prelude.{◌≡◌, Bool, List, Some}
use Rattle.std.specs.Borrow.{Bor}
use Rattle.std.specs.List.{AllByRecursion}
use Rattle.map_types.specs.declared.tree.FieldEl.{FieldEl}
use Rattle.orchestra_map.specs.DataFields.{data_pair}
use Rattle.tagvalue_codec.specs.declared.data_tags.Pair.{Pair}
use Rattle.same_texts.specs.Follow.{IsOwnPair}

-- the length field of a data field, if it has one, belongs to it alone
abbrev pub HasOwnPair : List Pair → FieldEl → Type 0
HasOwnPair tags f = (hidden : Bool) (pair : Pair) → data_pair hidden f ≡ Some pair → IsOwnPair tags pair

-- the same for each field
abbrev pub HaveOwnPairs : List Pair → List (Bor FieldEl) → Type 0
HaveOwnPairs tags fields = AllByRecursion (λ (f : Bor FieldEl). HasOwnPair tags f.now) fields
