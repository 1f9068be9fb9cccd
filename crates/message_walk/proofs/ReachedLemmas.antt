-- What is left of the groups and the data of a block.
use Rattle.std.proofs.Common.{◌≡◌, ◌≤◌, ◌+◌, ◌-◌, ℕ, List, ◌∷◌, drop, Option, Some, sym, ap, ◌∙◌, arith}
use Rattle.std.proofs.lemmas.List.{drop-drop}
use Rattle.std.specs.Prelude.{map, slice_get}
use Rattle.sbe_types.specs.declared.message.Block.{out-Block}
use Rattle.sbe_types.specs.declared.message.DataVal.TheVariants as dataval
use Rattle.sbe_types.specs.declared.message.GroupVal.TheVariants as groupval
use Rattle.sbe_types.specs.declared.schema.Group.{Group, out-Group}
use Rattle.bridge_terms.specs.Blocks.{data_value, entries_of, nth_or}
use Rattle.flyweight_view.specs.TypedBlocks.{TypedBlock, bytes_in, typed_groups, typed_level}
use Rattle.flyweight_view.proofs.TailsSeen.{drop_on, group_there, part_there}
use Rattle.message_walk.specs.Reached.{AreGroupsFrom, ArePartsFrom}
use Rattle.message_walk.specs.Rows.{entries_shown, value_of_bytes}
use Rattle.message_walk.proofs.Nth.{data_seen, group_seen_at}

-- so many steps further in a list
stepped : {X : Type 0} (all before after : List X) (m n : ℕ) → before ≡ drop m all → m ≤ n → after ≡ drop (n - m) before → after ≡ drop n all
stepped all before after m n is within more =
    let sum : m + (n - m) ≡ n = omega (arith, within) in
    more ∙ ap (λ (xs : List _). drop (n - m) xs) is ∙ drop-drop (n - m) m all ∙ ap (λ k. drop k all) sum

-- the one at the number, after others were stepped over
pub record GroupsStep (seen : TypedBlock) (n : ℕ) (x : Option (List TypedBlock)) (rest : List (Option (List TypedBlock))) : Type 0 where
  pub left : AreGroupsFrom seen (n + 1) rest
  pub entries : (g : Group) → slice_get seen.groups n ≡ Some g
      → entries_shown x ≡ map (typed_level (out-Group g).level) (entries_of (nth_or groupval.Absent n (out-Block seen.block).groups))

pub groups_step : (seen : TypedBlock) (m n : ℕ) (gs after : List (Option (List TypedBlock))) (x : Option (List TypedBlock)) (rest : List (Option (List TypedBlock)))
    → AreGroupsFrom seen m gs → m ≤ n → after ≡ drop (n - m) gs → after ≡ x ∷ rest → GroupsStep seen n x rest
groups_step seen m n gs after x rest are within more is =
    let vs = (out-Block seen.block).groups in
    let all = typed_groups seen.groups vs in
    let there = sym (stepped all gs after m n are.left within more) ∙ is in
    record {
      left = record { left = drop_on all n x rest there; many = are.many };
      entries = λ g found. group_seen_at seen.groups vs groupval.Absent n g x found (group_there seen.groups vs n x rest there);
    }

pub record PartsStep (seen : TypedBlock) (n : ℕ) (x : Option (List ℕ)) (rest : List (Option (List ℕ))) : Type 0 where
  pub left : ArePartsFrom seen (n + 1) rest
  pub bytes : value_of_bytes x ≡ data_value (nth_or dataval.Absent n (out-Block seen.block).parts)

pub parts_step : (seen : TypedBlock) (m n : ℕ) (ps after : List (Option (List ℕ))) (x : Option (List ℕ)) (rest : List (Option (List ℕ)))
    → ArePartsFrom seen m ps → m ≤ n → after ≡ drop (n - m) ps → after ≡ x ∷ rest → PartsStep seen n x rest
parts_step seen m n ps after x rest are within more is =
    let vs = (out-Block seen.block).parts in
    let all = map bytes_in vs in
    let there = sym (stepped all ps after m n are.left within more) ∙ is in
    record {
      left = record { left = drop_on all n x rest there; many = are.many };
      bytes = data_seen dataval.Absent n vs x (part_there vs n x rest there);
    }
