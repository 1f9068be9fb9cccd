-- The parts of an order, one after another, are the canonical body of its message.
use Rattle.std.proofs.Common.{◌≡◌, ◌≤◌, ◌<◌, ◌+◌, ◌-◌, ℕ, suc, ℤ, List, [], ◌∷◌, length, drop, map, get_or, Option, Some, refl, sym, ap, ap₂, ◌∙◌, subst, arith}
use Rattle.std.specs.Prelude.{slice_get}
use Rattle.std.specs.Option.{option_and_then}
use Rattle.std.proofs.lemmas.List.{drop_all, length-map}
use denote.Hole.Carrier as carrier
use Rattle.sbe_types.specs.declared.kind.Member.{Member}
use Rattle.sbe_types.specs.declared.kind.Order.{Order}
use Rattle.sbe_types.specs.declared.message.Block.{Block, out-Block}
use Rattle.sbe_types.specs.declared.message.DataVal.TheVariants as dataval
use Rattle.sbe_types.specs.declared.message.GroupVal.{GroupVal}
use Rattle.sbe_types.specs.declared.message.GroupVal.TheVariants as groupval
use Rattle.sbe_types.specs.declared.message.Value.{Value}
use Rattle.sbe_types.specs.declared.message.Value.TheVariants as value
use Rattle.sbe_types.specs.declared.schema.DataField.{DataField}
use Rattle.sbe_types.specs.declared.schema.Group.{Group, out-Group}
use Rattle.sbe_types.specs.declared.schema.Level.{Level, out-Level}
use Rattle.sbe_types.specs.declared.schema.WireSchema.{WireSchema}
use Rattle.sbe_types.specs.Wire.{both}
use Rattle.sbe_wire.specs.Canonical.{all_bytes, block_bytes, canonical, dimension_numbers, entries_bytes, group_bytes, header_numbers, named_bytes, part_bytes, parts_bytes, root_bytes, tail_bytes}
use Rattle.schema_facts.specs.Levels.{fields_at, fields_in, groups_in, level_at, parts_in, root_of}
use Rattle.layout_tables.specs.Parts.{dim_at}
use Rattle.layout_tables.proofs.GroupWalk.{group_is, groups_begin}
use Rattle.layout_tables.proofs.Items.{item_there}
use Rattle.body_walk.specs.inner.Ready.{IsReadySchema}
use Rattle.body_walk.proofs.Bodies.{root_level}
use Rattle.body_walk.proofs.Opens.{child_here, item_at, level_within}
use Rattle.typed_writer.specs.declared.stack.Frame.{Frame}
use Rattle.typed_writer.specs.declared.stack.Frame.TheVariants.{Tail}
use Rattle.kind_bytes.specs.Members.{followed_by}
use Rattle.typed_writer.specs.Empty.{empty_block}
use Rattle.typed_writer.specs.Held.{Held}
use Rattle.typed_writer.specs.States.{SetsFields, block_at, level_of}
use Rattle.typed_writer.specs.Steps.{Adds, Begins, Groups, Opens, SetsField, block_in, dimension_in, ends, goes_on_as, header_in, next_data, next_group}
use Rattle.typed_writer.proofs.Holding.{header_holds, header_stands}
use Rattle.typed_writer.proofs.Lists.{behind_both, behind_none}
use Rattle.tree_codec.specs.Puts.{Fills, entry_put, groups_put, task_of}
use Rattle.tree_codec.proofs.FillSteps.{FilledTo, all_filled, next_filled, none_filled, value_holds}
use Rattle.tree_codec.proofs.PutParts.{own_block}
use Rattle.tree_codec.proofs.PutSteps.{both_are, both_behind, group_bytes_is, left_behind, named_long, nothing_left, tail_bytes_is}
use Rattle.tree_codec.proofs.RoomSteps.{drop_at, entries_are}
use Rattle.library_examples.specs.Orders.{IsOrderSchema, leg_block, leg_bytes, legs_bytes, legs_of, order_block, order_message}

-- ---- lists of one item, or of none

pub one_item : {A : Type 0} (xs : List A) → length xs ≡ 1 → (x : A) × (xs ≡ x ∷ [])
one_item [] h = absurd (omega (arith, h))
one_item (x ∷ []) h = (x, refl)
one_item (x ∷ y ∷ ys) h = absurd (omega (arith, h))

pub no_item : {A : Type 0} (xs : List A) → length xs ≡ 0 → xs ≡ []
no_item [] h = refl
no_item (x ∷ xs) h = absurd (omega (arith, h))

-- ---- the levels of an order

-- the root and the group of an order, and its data
pub record OrderLevels (schema : WireSchema) : Type 0 where
  pub root : Level
  pub group : Group
  pub part : DataField
  pub message : slice_get schema.messages 0 ≡ Some root
  pub root_at : level_at schema (root_of schema 0) ≡ Some root
  pub field : length (out-Level root).fields ≡ 1
  pub groups : (out-Level root).groups ≡ group ∷ []
  pub parts : (out-Level root).parts ≡ part ∷ []
  pub legs_at : level_at schema (legs_of schema) ≡ Some (out-Group group).level
  pub dim_is : dim_at schema (legs_of schema) ≡ Some (out-Group group).dim
  pub leg_field : length (out-Level (out-Group group).level).fields ≡ 1
  pub leg_groups : (out-Level (out-Group group).level).groups ≡ []
  pub leg_parts : (out-Level (out-Group group).level).parts ≡ []

pub order_levels : (schema : WireSchema) → IsOrderSchema schema → OrderLevels schema
order_levels schema is =
    let n : ℕ = root_of schema 0 in
    let first = item_there schema.messages 0 is.message in
    let root : Level = first.0 in
    let at : level_at schema n ≡ Some root = root_level schema 0 n root refl first.1 in
    let group = one_item (out-Level root).groups (sym (ap (λ o. length (groups_in o)) at) ∙ is.groups) in
    let part = one_item (out-Level root).parts (sym (ap (λ o. length (parts_in o)) at) ∙ is.parts) in
    let from = groups_begin schema n (level_within schema n root at) in
    let number : n + 1 ≡ legs_of schema = group_is schema n 0 (n + 1) from in
    let more : 0 < length (out-Level root).groups = omega (arith, ap length group.1) in
    let here = child_here schema n root at (n + 1) 0 from more group.0 (sym (ap (λ gs. get_or gs 0 group.0) group.1)) in
    let legs_at : level_at schema (legs_of schema) ≡ Some (out-Group group.0).level = ap (level_at schema) (sym number) ∙ here.level_is in
    let level : Level = (out-Group group.0).level in
    record {
      root = root;
      group = group.0;
      part = part.0;
      message = first.1;
      root_at = at;
      field = sym (ap (λ o. length (fields_in o)) at) ∙ is.fields;
      groups = group.1;
      parts = part.1;
      legs_at = legs_at;
      dim_is = ap (dim_at schema) (sym number) ∙ here.dim_is;
      leg_field = sym (ap (λ o. length (fields_in o)) legs_at) ∙ is.leg_fields;
      leg_groups = no_item (out-Level level).groups (sym (ap (λ o. length (groups_in o)) legs_at) ∙ is.leg_groups);
      leg_parts = no_item (out-Level level).parts (sym (ap (λ o. length (parts_in o)) legs_at) ∙ is.leg_parts);
    }

-- ---- a block of one field

module _ (schema : WireSchema) (level : Level) (block : Block) (v : Value) (ready : IsReadySchema schema) (one : length (out-Level level).fields ≡ 1) (holds : (out-Block block).fields ≡ v ∷ []) where
  pub one_filled : (old new : Held) → level_at schema (level_of old.frames) ≡ Some level → SetsFields schema old → SetsFields schema new → SetsField schema (level_of old.frames) 0 v old new →
      Fills (task_of schema level block) old new
  one_filled old new at state now sets =
      let task = task_of schema level block in
      let there : slice_get (out-Block block).fields 0 ≡ Some v = ap (λ vs. slice_get vs 0) holds in
      let next = value_holds schema level block 0 old ready at v new state there sets in
      let filled = next_filled task 0 old old new (none_filled task old) next in
      let at_new : level_at schema (level_of new.frames) ≡ Some level = ap (λ fs. level_at schema (level_of fs)) next.same.frames ∙ at in
      all_filled schema level block old new ready now at_new (one ∙ sym (ap length holds)) (subst (λ k. FilledTo task k old new) (sym one) filled)

pub leg_fields : (quantity : ℤ) → (out-Block (leg_block quantity)).fields ≡ value.Num quantity ∷ []
unfolding carrier.out
leg_fields quantity = refl

pub order_groups : (number : ℤ) (legs : List ℤ) (note : List ℕ) → (out-Block (order_block number legs note)).groups ≡ groupval.Entries (map leg_block legs) ∷ []
unfolding carrier.out
order_groups number legs note = refl

pub order_parts : (number : ℤ) (legs : List ℤ) (note : List ℕ) → (out-Block (order_block number legs note)).parts ≡ dataval.Bytes note ∷ []
unfolding carrier.out
order_parts number legs note = refl

-- a leg has nothing after its block
pub no_tail : (order : Order) (level : Level) (quantity : ℤ) → (out-Level level).groups ≡ [] → (out-Level level).parts ≡ [] → tail_bytes order level (leg_block quantity) ≡ Some []
unfolding carrier.out
no_tail order level quantity groups parts =
    tail_bytes_is order level (leg_block quantity)
    ∙ ap (λ gs. both (groups_put order gs []) (parts_bytes order (out-Level level).parts [])) groups
    ∙ ap (λ ps. both (Some []) (parts_bytes order ps [])) parts

pub order_fields : (number : ℤ) (legs : List ℤ) (note : List ℕ) → (out-Block (order_block number legs note)).fields ≡ value.Num number ∷ []
unfolding carrier.out
order_fields number legs note = refl

module _ (schema : WireSchema) (ready : IsReadySchema schema) (order : IsOrderSchema schema) where
  levels : OrderLevels schema
  levels = order_levels schema order

  abbrev legs : Level
  legs = (out-Group levels.group).level

  -- ---- a leg

  leg_put : (quantity : ℤ) → leg_bytes schema quantity ≡ entry_put schema.order legs (leg_block quantity)
  leg_put quantity = ap (option_and_then (λ (level : Level). entry_put schema.order level (leg_block quantity))) levels.legs_at

  -- an entry that was begun, set and closed
  pub leg_written : (quantity : ℤ) (t : Frame) (old opened filled tailed new : Held) → level_of old.frames ≡ legs_of schema → Opens schema old opened → SetsFields schema opened → SetsFields schema filled →
      SetsField schema (level_of opened.frames) 0 (value.Num quantity) opened filled → tailed ≡ goes_on_as filled t → new ≡ ends tailed → followed_by old.bytes (leg_bytes schema quantity) ≡ Some new.bytes
  leg_written quantity t old opened filled tailed new here opens state now sets goes ended =
      let n : ℕ = level_of old.frames in
      let at : level_at schema n ≡ Some legs = ap (level_at schema) here ∙ levels.legs_at in
      let at_opened : level_at schema (level_of opened.frames) ≡ Some legs = ap (λ fs. level_at schema (level_of fs)) opens.frames ∙ at in
      let fills = one_filled schema legs (leg_block quantity) (value.Num quantity) ready levels.leg_field (leg_fields quantity) opened filled at_opened state now sets in
      let long : ℕ = (out-Level legs).block_length in
      let empty : followed_by old.bytes (empty_block schema.order long (out-Level legs).fields) ≡ Some opened.bytes =
      sym (ap (λ b. followed_by old.bytes (empty_block schema.order b (fields_at schema n))) (own_block schema n legs at)
      ∙ ap (λ o. followed_by old.bytes (empty_block schema.order long (fields_in o))) at)
      ∙ opens.bytes in
      let block = fills.bytes old.bytes (sym opens.at) empty in
      let tail : followed_by filled.bytes (tail_bytes schema.order legs (leg_block quantity)) ≡ Some filled.bytes = ap (followed_by filled.bytes) (no_tail schema.order legs quantity levels.leg_groups levels.leg_parts) ∙ behind_none filled.bytes in
      ap (followed_by old.bytes) (leg_put quantity) ∙ behind_both old.bytes filled.bytes filled.bytes _ _ block tail ∙ ap (λ (h : Held). Some h.bytes) (sym (ended ∙ ap ends goes))

  -- ---- all legs

  abbrev legs_in : List ℤ → Option (List ℕ)
  legs_in xs = all_bytes (leg_bytes schema) xs

  legs_put : (xs : List ℤ) → legs_in xs ≡ all_bytes (λ entry. entry_put schema.order legs entry) (map leg_block xs)
  legs_put [] = refl
  legs_put (x ∷ xs) = ap₂ both (leg_put x) (legs_put xs)

  -- one leg more
  pub legs_next : (xs : List ℤ) (i : ℕ) (x : ℤ) (old now new : List ℕ) → i < length xs → x ≡ get_or xs i x → followed_by now (leg_bytes schema x) ≡ Some new →
      followed_by now (legs_in (drop i xs)) ≡ followed_by old (legs_in xs) → followed_by new (legs_in (drop (i + 1) xs)) ≡ followed_by old (legs_in xs)
  legs_next xs i x old now new low is one so_far =
      let on : suc i ≡ i + 1 = omega arith in
      let front : drop i xs ≡ x ∷ drop (i + 1) xs = drop_at xs i x (item_at xs i x low is) ∙ ap (λ j. x ∷ drop j xs) on in
      left_behind now new (leg_bytes schema x) (legs_in (drop (i + 1) xs)) (legs_in (drop i xs)) (followed_by old (legs_in xs)) one (ap (all_bytes (leg_bytes schema)) front) so_far

  -- the dimension, and all legs after it
  pub legs_written : (xs : List ℤ) (i : ℕ) (old opened last new : Held) → old.frames ≡ Tail (root_of schema 0) 0 ∷ [] → Groups schema (length xs) old opened → length xs ≤ i →
      followed_by last.bytes (legs_in (drop i xs)) ≡ followed_by opened.bytes (legs_in xs) → new ≡ ends last → followed_by old.bytes (legs_bytes schema xs) ≡ Some new.bytes
  legs_written xs i old opened last new at groups over left ended =
      let next : next_group schema old.frames ≡ legs_of schema = ap (next_group schema) at in
      let all : followed_by opened.bytes (legs_in xs) ≡ Some last.bytes =
      nothing_left last.bytes (legs_in (drop i xs)) (followed_by opened.bytes (legs_in xs)) (ap (all_bytes (leg_bytes schema)) (drop_all i xs over)) left in
      behind_both old.bytes opened.bytes new.bytes _ _
      (ap (λ k. followed_by old.bytes (dimension_in schema k (length xs))) (sym next) ∙ groups.bytes)
      (all ∙ ap (λ (h : Held). Some h.bytes) (sym ended))

  -- ---- the whole

  -- the group of an order
  group_put : (xs : List ℤ) → group_bytes schema.order levels.group (groupval.Entries (map leg_block xs)) ≡ legs_bytes schema xs
  group_put xs =
      let g : Group = levels.group in
      let v : GroupVal = groupval.Entries (map leg_block xs) in
      let long : ℕ = (out-Level legs).block_length in
      let many : ℕ = length xs in
      let dim : dimension_in schema (legs_of schema) many ≡ named_bytes schema.order (dimension_numbers long many) 0 (out-Group g).dim =
      ap (λ (o : Option (List Member)). option_and_then (λ (ms : List Member). named_bytes schema.order (dimension_numbers (block_at schema (legs_of schema)) many) 0 ms) o) levels.dim_is
      ∙ ap (λ b. named_bytes schema.order (dimension_numbers b many) 0 (out-Group g).dim) (own_block schema (legs_of schema) legs levels.legs_at) in
      group_bytes_is schema.order g v
      ∙ ap (entries_bytes schema.order (out-Group g).dim long (λ entry. entry_put schema.order legs entry)) (entries_are v (map leg_block xs) refl)
      ∙ ap₂ both (ap (λ k. named_bytes schema.order (dimension_numbers long k) 0 (out-Group g).dim) (length-map xs leg_block) ∙ sym dim) (sym (legs_put xs))

  -- the group and the data after the root's block
  tail_written : (number : ℤ) (xs : List ℤ) (note front : List ℕ) (mid last : Held) → followed_by front (legs_bytes schema xs) ≡ Some mid.bytes → mid.frames ≡ Tail (root_of schema 0) 1 ∷ [] → Adds schema note mid last →
      followed_by front (tail_bytes schema.order levels.root (order_block number xs note)) ≡ Some last.bytes
  unfolding carrier.out
  tail_written number xs note front mid last legs_there at adds =
      let root : Level = levels.root in
      let v : GroupVal = groupval.Entries (map leg_block xs) in
      let next : next_data schema mid.frames ≡ Some levels.part =
      ap (next_data schema) at
      ∙ ap (λ o. slice_get (parts_in o) (1 - length (groups_in o))) levels.root_at
      ∙ ap₂ (λ ps (gs : List Group). slice_get ps (1 - length gs)) levels.parts levels.groups in
      let group : followed_by front (both (group_bytes schema.order levels.group v) (Some [])) ≡ Some mid.bytes =
      behind_both front mid.bytes mid.bytes _ _ (ap (followed_by front) (group_put xs) ∙ legs_there) (behind_none mid.bytes) in
      let part : followed_by mid.bytes (part_bytes schema.order levels.part (dataval.Bytes note)) ≡ Some last.bytes =
      sym (ap (λ (o : Option DataField). followed_by mid.bytes (option_and_then (λ (p : DataField). part_bytes schema.order p (dataval.Bytes note)) o)) next) ∙ adds.bytes in
      ap (followed_by front)
      (tail_bytes_is schema.order root (order_block number xs note)
      ∙ ap₂ (λ gs ps. both (groups_put schema.order gs (v ∷ [])) (parts_bytes schema.order ps (dataval.Bytes note ∷ []))) levels.groups levels.parts)
      ∙ behind_both front mid.bytes last.bytes _ _ group (behind_both mid.bytes last.bytes last.bytes _ _ part (behind_none last.bytes))

  pub order_written : (number : ℤ) (xs : List ℤ) (note : List ℕ) (t : Frame) (old begun filled tailed mid last : Held) → Begins schema 0 old begun → SetsFields schema begun → SetsFields schema filled →
      SetsField schema (level_of begun.frames) 0 (value.Num number) begun filled → tailed ≡ goes_on_as filled t → followed_by tailed.bytes (legs_bytes schema xs) ≡ Some mid.bytes → mid.frames ≡ Tail (root_of schema 0) 1 ∷ [] →
      Adds schema note mid last → canonical schema (order_message schema.version number xs note) ≡ Some last.bytes
  unfolding canonical
  order_written number xs note t old begun filled tailed mid last begins state now sets goes legs_there at adds =
      let n : ℕ = root_of schema 0 in
      let root : Level = levels.root in
      let block : Block = order_block number xs note in
      let long : ℕ = (out-Level root).block_length in
      let at_begun : level_at schema (level_of begun.frames) ≡ Some root = ap (λ fs. level_at schema (level_of fs)) begins.frames ∙ levels.root_at in
      let fills = one_filled schema root block (value.Num number) ready levels.field (order_fields number xs note) begun filled at_begun state now sets in
      let parts = both_are (header_in schema 0) (block_in schema n) begun.bytes begins.bytes in
      let header : named_bytes schema.order (header_numbers schema root) 0 schema.header.members ≡ Some parts.0 =
      sym (ap (λ (o : Option Level). option_and_then (λ (l : Level). named_bytes schema.order (header_numbers schema l) 0 schema.header.members) o) levels.message) ∙ parts.2 in
      let wide = named_long schema.order (header_numbers schema root) 0 schema.header.members parts.0 (header_stands schema ready.checked) (header_holds schema 0 root ready.checked levels.message) header in
      let ends_there : length parts.0 ≡ begun.at = omega (arith, wide, begins.at) in
      let empty : followed_by parts.0 (empty_block schema.order long (out-Level root).fields) ≡ Some begun.bytes =
      sym (ap (λ b. followed_by parts.0 (empty_block schema.order b (fields_at schema n))) (own_block schema n root levels.root_at)
      ∙ ap (λ o. followed_by parts.0 (empty_block schema.order long (fields_in o))) levels.root_at)
      ∙ ap (followed_by parts.0) parts.3 ∙ ap Some (sym parts.4) in
      let own : Option (List ℕ) = block_bytes schema.order long (out-Level root).fields (out-Block block).fields in
      let tail : Option (List ℕ) = tail_bytes schema.order root block in
      let there = subst (λ (h : Held). followed_by h.bytes (legs_bytes schema xs) ≡ Some mid.bytes) goes legs_there in
      ap (root_bytes schema block) levels.message
      ∙ ap (λ o. both o (both own tail)) header
      ∙ both_behind parts.0 (both own tail)
      ∙ behind_both parts.0 filled.bytes last.bytes own tail (fills.bytes parts.0 ends_there empty) (tail_written number xs note filled.bytes mid last there at adds)
