-- What is at a number of a block, and what is seen there.
use Rattle.std.proofs.Common.{◌≡◌, ◌<◌, ℕ, zero, suc, List, [], ◌∷◌, length, Option, Some, None, refl, sym, ap, ◌∙◌, arith}
use Rattle.std.specs.Prelude.{map, slice_get}
use Rattle.std.specs.Option.{option_map}
use Rattle.sbe_types.specs.declared.message.DataVal.{DataVal}
use Rattle.sbe_types.specs.declared.message.DataVal.TheVariants as dataval
use Rattle.sbe_types.specs.declared.message.GroupVal.{GroupVal}
use Rattle.sbe_types.specs.declared.message.GroupVal as groupval
use Rattle.sbe_types.specs.declared.schema.Group.{Group, out-Group}
use Rattle.flyweight_view.specs.TypedBlocks.{TypedBlock, typed_level, bytes_in, typed_group, entries_in}
use Rattle.bridge_terms.specs.Blocks.{data_value, entries_of, nth_or}
use Rattle.message_walk.specs.Rows.{entries_shown, value_of_bytes}

some_is : {A : Type 0} {x y : A} → ◌≡◌ {A = Option A} (Some x) (Some y) → x ≡ y
some_is h = cc

pub nth_is : {X : Type 0} (none : X) (n : ℕ) (xs : List X) (x : X) → slice_get xs n ≡ Some x → nth_or none n xs ≡ x
nth_is none n [] x h = cc
nth_is none zero (y ∷ xs) x h = some_is h
nth_is none (suc n) (y ∷ xs) x h = nth_is none n xs x h

-- a number at which there is something is in range
pub in_range : {X : Type 0} (n : ℕ) (xs : List X) (x : X) → slice_get xs n ≡ Some x → n < length xs
in_range n [] x h = cc
in_range zero (y ∷ xs) x h = omega arith
in_range (suc n) (y ∷ xs) x h = omega (arith, in_range n xs x h)

-- the bytes of data that are seen are those of the data that is there
value_is : (d : DataVal) → value_of_bytes (bytes_in d) ≡ data_value d
value_is dataval.Absent = refl
value_is (dataval.Bytes bytes) = refl

data_there : (o : Option DataVal) (result : Option (List ℕ)) → option_map bytes_in o ≡ Some result → (d : DataVal) × (o ≡ Some d) × (bytes_in d ≡ result)
data_there None result h = cc
data_there (Some d) result h = (d, refl, some_is h)

pub data_seen : (none : DataVal) (n : ℕ) (parts : List DataVal) (result : Option (List ℕ)) → option_map bytes_in (slice_get parts n) ≡ Some result
    → value_of_bytes result ≡ data_value (nth_or none n parts)
data_seen none n parts result h =
    let there = data_there (slice_get parts n) result h in
    ap value_of_bytes (sym there.2) ∙ value_is there.0 ∙ ap data_value (sym (nth_is none n parts there.0 there.1))

-- the entries of a group that are seen are those that are there
entries_are : (g : Group) (v : GroupVal) → entries_shown (entries_in (out-Group g).level v) ≡ map (typed_level (out-Group g).level) (entries_of v)
entries_are g groupval.Absent = refl
entries_are g (groupval.Entries' n row) = refl

got : (g : Group) (o : Option GroupVal) (result : Option (List TypedBlock)) → typed_group (Some g) o ≡ Some result → (v : GroupVal) × (o ≡ Some v) × (entries_in (out-Group g).level v ≡ result)
got g None result h = cc
got g (Some v) result h = (v, refl, some_is h)

pub group_seen_at : (groups : List Group) (vs : List GroupVal) (none : GroupVal) (n : ℕ) (g : Group) (result : Option (List TypedBlock))
    → slice_get groups n ≡ Some g → typed_group (slice_get groups n) (slice_get vs n) ≡ Some result
    → entries_shown result ≡ map (typed_level (out-Group g).level) (entries_of (nth_or none n vs))
group_seen_at groups vs none n g result found seen =
    let there = got g (slice_get vs n) result (ap (λ o. typed_group o (slice_get vs n)) (sym found) ∙ seen) in
    ap entries_shown (sym there.2) ∙ entries_are g there.0 ∙ ap (λ v. map (typed_level (out-Group g).level) (entries_of v)) (sym (nth_is none n vs there.0 there.1))
