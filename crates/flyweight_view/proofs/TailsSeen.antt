-- The groups and the data after a block that is seen.
use Rattle.std.proofs.Common.{◌≡◌, ◌≤◌, ◌<◌, ◌+◌, ℕ, zero, suc, List, [], ◌∷◌, length, drop, Option, Some, Result, Ok, refl, sym, ap, ◌∙◌, subst, arith, length-drop}
use Rattle.std.specs.Prelude.{map, slice_get}
use Rattle.std.specs.Option.{option_map}
use Rattle.std.proofs.lemmas.List.{drop-drop}
use Rattle.sbe_types.specs.declared.message.Block.{Block, out-Block}
use Rattle.sbe_types.specs.declared.message.DataVal.{DataVal}
use Rattle.sbe_types.specs.declared.message.GroupVal.{GroupVal}
use Rattle.sbe_types.specs.declared.schema.Group.{Group, out-Group}
use Rattle.sbe_types.specs.declared.schema.Level.{out-Level}
use Rattle.sbe_wire.specs.Faults.{Fault}
use Rattle.sbe_wire.specs.Reading.{Tail, each_read}
use Rattle.sbe_wire.proofs.Combine.{ok_is}
use Rattle.flyweight_view.specs.declared.ends.GroupCursor.{GroupCursor}
use Rattle.body_walk.specs.declared.layer.Layer.{Layer}
use Rattle.flyweight_view.specs.declared.plan.Plan.{Plan}
use Rattle.flyweight_view.specs.declared.plan.Plan.TheVariants as plan
use Rattle.flyweight_view.specs.declared.plan.Span.{Span}
use Rattle.flyweight_view.specs.inner.Groups.{groups_by, groups_at, groups_left, StandThere}
use Rattle.body_walk.specs.inner.Layers.{IsLayer}
use Rattle.flyweight_view.specs.inner.Lefts.{items_of, rest_of}
use Rattle.flyweight_view.specs.TypedBlocks.{typed_groups, TypedBlock, bytes_in, entries_in, typed_group}
use Rattle.flyweight_view.specs.inner.Parts.{parts_at, parts_by, parts_left, LineUp}
use Rattle.flyweight_view.specs.inner.Planned.{fields_of, groups_of, parts_of, tail_of, block_of, planned_block, IsPlan, IsPlannedBlock}
use Rattle.flyweight_view.proofs.Lefts.{ok_from, each_many}
use Rattle.body_walk.proofs.Opens.{none_there}
use Rattle.flyweight_view.proofs.Tails.{EntryParts, entry_parts, TailParts, tail_parts}

-- the level of a plan, in the body of a span
abbrev pub layer_of : Span → Layer → Layer
layer_of s x = record { layout = x.layout; number = x.number; level = x.level; mode = s.mode; body = s.body }

-- the cursor of the first group after a block
abbrev pub first_cursor : Span → ℕ → GroupCursor
first_cursor s child = record { next = 0; child = child; at = s.at + s.size }

module _ (s : Span) (p : Plan) (seen : IsPlannedBlock s p) where
  abbrev block : Block
  block = block_of (planned_block s p)

  abbrev groups : List GroupVal
  groups = (out-Block block).groups

  abbrev parts : List DataVal
  parts = (out-Block block).parts

  abbrev rest : List ℕ
  rest = seen.reads.0

  entry : EntryParts (tail_of s.mode p) s.size (drop s.at s.body.now) (block, rest)
  entry = entry_parts (tail_of s.mode p) s.mode (fields_of p) s.size (drop s.at s.body.now) (block, rest) seen.reads.1

  tail_is : entry.t ≡ (groups, parts)
  tail_is = ap (λ (gs : List GroupVal). (gs, entry.t.1)) (sym entry.groups) ∙ ap (λ (ds : List DataVal). (groups, ds)) (sym entry.parts)

  tail_reads : tail_of s.mode p (drop (s.at + s.size) s.body.now) ≡ Ok ((groups, parts), rest)
  tail_reads =
      ap (tail_of s.mode p) (sym (drop-drop s.size s.at s.body.now)) ∙ entry.reads
      ∙ ap (λ (t : Tail). Ok (t, rest)) tail_is

  -- ---- of a level

  module _ (x : Layer) (is : p ≡ plan.Level x.layout x.number x.level) where
    pub layer_is : IsLayer (layer_of s x)
    layer_is = subst (λ (q : Plan). IsPlan q s.size) is seen.plan_is

    two : TailParts s.mode x.level.now (drop (s.at + s.size) s.body.now) (groups, parts) rest
    two = tail_parts s.mode x.level.now (drop (s.at + s.size) s.body.now) (groups, parts) rest
        (subst (λ (q : Plan). tail_of s.mode q (drop (s.at + s.size) s.body.now) ≡ Ok ((groups, parts), rest)) is tail_reads)

    pub first_stands : (child : ℕ) → child ≡ x.number + 1 → StandThere (layer_of s x) (first_cursor s child)
    first_stands child is = record {
      child = omega (arith, is);
      near = seen.near;
      reads = ok_from (groups_at (layer_of s x) (first_cursor s child)) (groups, two.middle) two.groups;
    }

    pub first_left : (child : ℕ) → groups_left (layer_of s x) (first_cursor s child) ≡ typed_groups (groups_of p) groups
    first_left child =
        ap (λ (r : Result (List GroupVal × List ℕ) Fault). typed_groups (out-Level x.level.now).groups (items_of r)) two.groups
        ∙ ap (λ (q : Plan). typed_groups (groups_of q) groups) (sym is)

    module _ (child at : ℕ) (ends : rest_of (groups_at (layer_of s x) (first_cursor s child)) ≡ drop at s.body.now) where
      middle_is : two.middle ≡ drop at s.body.now
      middle_is = sym (ap rest_of two.groups) ∙ ends

      parts_are : each_read (parts_by s.mode) 0 (out-Level x.level.now).parts (drop at s.body.now) ≡ Ok (parts, rest)
      parts_are = ap (each_read (parts_by s.mode) 0 (out-Level x.level.now).parts) (sym middle_is) ∙ two.parts

      pub parts_line : at ≤ length s.body.now → LineUp (layer_of s x) 0 at
      parts_line near = record { near = near; reads = ok_from _ (parts, rest) parts_are }

      pub parts_rest : rest_of (parts_at (layer_of s x) 0 at) ≡ rest
      parts_rest = ap rest_of parts_are

      pub parts_first : parts_left (layer_of s x) 0 at ≡ map bytes_in parts
      parts_first = ap (λ (r : Result (List DataVal × List ℕ) Fault). map bytes_in (items_of r)) parts_are

  -- ---- as many as there are

  groups_many : length groups ≡ length (groups_of p)
  groups_many = many p refl
    where
      many : (q : Plan) → p ≡ q → length groups ≡ length (groups_of q)
      many (plan.Level layout number level) is =
          let two = tail_parts s.mode level.now (drop (s.at + s.size) s.body.now) (groups, parts) rest
          (subst (λ (q : Plan). tail_of s.mode q (drop (s.at + s.size) s.body.now) ≡ Ok ((groups, parts), rest)) is tail_reads) in
          each_many (groups_by s.mode) 0 (out-Level level.now).groups (drop (s.at + s.size) s.body.now) (groups, two.middle) two.groups
      many (plan.Members members) is =
          let none = subst (λ (q : Plan). tail_of s.mode q (drop (s.at + s.size) s.body.now) ≡ Ok ((groups, parts), rest)) is tail_reads in
          ap (λ (z : Tail × List ℕ). length z.0.0) (sym (ok_is none))

  parts_many : length parts ≡ length (parts_of p)
  parts_many = many p refl
    where
      many : (q : Plan) → p ≡ q → length parts ≡ length (parts_of q)
      many (plan.Level layout number level) is =
          let two = tail_parts s.mode level.now (drop (s.at + s.size) s.body.now) (groups, parts) rest
          (subst (λ (q : Plan). tail_of s.mode q (drop (s.at + s.size) s.body.now) ≡ Ok ((groups, parts), rest)) is tail_reads) in
          each_many (parts_by s.mode) 0 (out-Level level.now).parts two.middle (parts, rest) two.parts
      many (plan.Members members) is =
          let none = subst (λ (q : Plan). tail_of s.mode q (drop (s.at + s.size) s.body.now) ≡ Ok ((groups, parts), rest)) is tail_reads in
          ap (λ (z : Tail × List ℕ). length z.0.1) (sym (ok_is none))

  -- ---- of a composite

  pub no_groups : (members : _) → p ≡ plan.Members members → [] ≡ typed_groups (groups_of p) groups
  no_groups members is = ap (λ (q : Plan). typed_groups (groups_of q) groups) (sym is)

  pub no_parts : (members : _) → p ≡ plan.Members members → [] ≡ map bytes_in parts
  no_parts members is =
      let none = subst (λ (q : Plan). tail_of s.mode q (drop (s.at + s.size) s.body.now) ≡ Ok ((groups, parts), rest)) is tail_reads in
      ap (λ (z : Tail × List ℕ). map bytes_in z.0.1) (ok_is none)

  -- ---- where there are none

  pub without_groups : (x : Layer) → p ≡ plan.Level x.layout x.number x.level → (out-Level x.level.now).groups ≡ [] → [] ≡ typed_groups (groups_of p) groups
  without_groups x is none = sym (ap (λ gs. typed_groups gs groups) (ap groups_of is ∙ none))

  pub without_parts : (x : Layer) → p ≡ plan.Level x.layout x.number x.level → (out-Level x.level.now).parts ≡ [] → [] ≡ map bytes_in parts
  without_parts x is none = sym (ap (map bytes_in) (none_there parts (parts_many ∙ ap length (ap parts_of is ∙ none))))

  -- ---- by their numbers

  pub all_groups : length (typed_groups (groups_of p) groups) ≡ length (groups_of p)
  all_groups = long (groups_of p) groups groups_many
    where
      long : (gs : List Group) (vs : List GroupVal) → length vs ≡ length gs → length (typed_groups gs vs) ≡ length gs
      long [] vs same = refl
      long (g ∷ gs) [] same = absurd (omega (arith, same))
      long (g ∷ gs) (v ∷ vs) same = ap suc (long gs vs (omega (arith, same)))

  pub all_parts : length (map bytes_in parts) ≡ length (parts_of p)
  all_parts = long parts ∙ parts_many
    where
      long : (vs : List DataVal) → length (map bytes_in vs) ≡ length vs
      long [] = refl
      long (v ∷ vs) = ap suc (long vs)

pub group_there : (gs : List Group) (vs : List GroupVal) (i : ℕ) (x : Option (List TypedBlock)) (xs : List (Option (List TypedBlock))) → drop i (typed_groups gs vs) ≡ x ∷ xs → typed_group (slice_get gs i) (slice_get vs i) ≡ Some x
group_there [] vs zero x xs h = cc
group_there [] vs (suc i) x xs h = cc
group_there (g ∷ gs) [] zero x xs h = cc
group_there (g ∷ gs) [] (suc i) x xs h = cc
group_there (g ∷ gs) (v ∷ vs) zero x xs h = let first : entries_in (out-Group g).level v ≡ x = cc in ap Some first
group_there (g ∷ gs) (v ∷ vs) (suc i) x xs h = group_there gs vs i x xs h

pub part_there : (vs : List DataVal) (i : ℕ) (x : Option (List ℕ)) (xs : List (Option (List ℕ))) → drop i (map bytes_in vs) ≡ x ∷ xs → option_map bytes_in (slice_get vs i) ≡ Some x
part_there [] zero x xs h = cc
part_there [] (suc i) x xs h = cc
part_there (v ∷ vs) zero x xs h = let first : bytes_in v ≡ x = cc in ap Some first
part_there (v ∷ vs) (suc i) x xs h = part_there vs i x xs h

-- one step further in a list
pub drop_on : {X : Type 0} (xs : List X) (i : ℕ) (x : X) (ys : List X) → drop i xs ≡ x ∷ ys → ys ≡ drop (i + 1) xs
drop_on {X} xs i x ys h =
    ap (λ (l : List X). drop 1 l) (sym h) ∙ drop-drop 1 i xs

pub more_left : {X : Type 0} (xs ys : List X) (i : ℕ) → ys ≡ drop i xs → i < length xs → 0 < length ys
more_left xs ys i is below =
    let long = length-drop i xs in
    omega (arith, ap length is, long, below)
