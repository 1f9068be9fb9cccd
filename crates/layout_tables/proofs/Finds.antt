-- Where a level stands in the tree.
use Rattle.std.proofs.Common.{◌≡◌, inl, inr, ◌≤◌, ◌<◌, ℕ, zero, suc, ◌+◌, List, [], ◌∷◌, ◌++◌, length, take, drop, get_or, Option, Some, None, refl, sym, ap, ◌∙◌, subst, arith, append_assoc, length-append}
use Rattle.std.specs.Prelude.{slice_get, flat_map}
use Rattle.std.specs.Option.{option_map}
use Rattle.std.proofs.lemmas.Option.{slice_get_within}
use Rattle.sbe_types.specs.declared.kind.Member.{Member}
use Rattle.sbe_types.specs.declared.schema.Group.{Group, Group', out-Group}
use Rattle.sbe_types.specs.declared.schema.Level.{Level, Level', out-Level, Row_of-Group, end_of-Group, more_of-Group}
use Rattle.sbe_types.specs.declared.schema.WireSchema.{WireSchema}
use Rattle.layout_tables.specs.declared.rows.LevelRow.{LevelRow}
use Rattle.schema_facts.specs.Levels.{Node, nodes, nodes_below, nodes_of, nodes_from, all_nodes, root_of, Stands, node, group_node, level_at}
use Rattle.layout_tables.specs.Rowed.{RowFor}
use Rattle.layout_tables.proofs.Nodes.{stands_more, stands_behind, stands_first, stands_split, whole, nodes_open, open_group}
use Rattle.layout_tables.proofs.Items.{in_two, drop_is}

mutual
  unfolding nodes nodes_below nodes_of

  template_in : (t : ℕ) (dim : Option (List Member)) (level : Level) (k : ℕ) (this : Node) → slice_get (nodes t dim level) k ≡ Some this → this.template ≡ t
  template_in t dim (Level' name id semantic since block_length fields n groups parts) zero this h =
      let same : node t dim (Level' name id semantic since block_length fields n groups parts) ≡ this = cc in
      sym (ap (λ (x : Node). x.template) same)
  template_in t dim (Level' name id semantic since block_length fields n groups parts) (suc k) this h = template_below t groups k this h

  template_below : (t : ℕ) {n : _} (row : Row_of-Group n) (k : ℕ) (this : Node) → slice_get (nodes_below t row) k ≡ Some this → this.template ≡ t
  template_below t end_of-Group k this h = cc
  template_below t (more_of-Group g rest) k this h = elim (in_two (nodes_of t g) (nodes_below t rest) k this h) [
    | inl e ↦ template_of t g k this e
    | inr e ↦ template_below t rest e.0 this e.2
  ]

  template_of : (t : ℕ) (g : Group) (k : ℕ) (this : Node) → slice_get (nodes_of t g) k ≡ Some this → this.template ≡ t
  template_of t (Group' dim level) k this h = template_in t (Some dim) level k this h

-- the message around level n, and where its levels stand
pub record InMessage (k : ℕ) (messages : List Level) (n t : ℕ) : Type 0 where
  pub i : ℕ
  pub root : Level
  pub is : t ≡ k + i
  pub there : slice_get messages i ≡ Some root
  pub low : length (nodes_from k (take i messages)) ≤ n
  pub high : n < length (nodes_from k (take i messages)) + length (nodes t None root)
  pub stands : Stands (nodes_from k messages) (length (nodes_from k (take i messages))) (nodes t None root)

pub in_message : (k : ℕ) (messages : List Level) (n : ℕ) (this : Node) → slice_get (nodes_from k messages) n ≡ Some this → InMessage k messages n this.template
in_message k [] n this h = cc
in_message k (l ∷ ls) n this h = elim (in_two (nodes k None l) (nodes_from (suc k) ls) n this h) [
  | inl e ↦
      let t = template_in k None l n this e in
      let first : 0 ≤ n = omega arith in
      let last : n < 0 + length (nodes k None l) = omega (arith, slice_get_within (nodes k None l) n this e) in
      subst (λ m. InMessage k (l ∷ ls) n m) (sym t) (record {
        i = 0;
        root = l;
        is = omega arith;
        there = refl;
        low = first;
        high = last;
        stands = stands_more (nodes k None l) (nodes_from (suc k) ls) 0 (nodes k None l) (whole (nodes k None l));
      })
  | inr e ↦
      let rest = in_message (suc k) ls e.0 this e.2 in
      let long : length (nodes_from k (take (suc rest.i) (l ∷ ls))) ≡ length (nodes k None l) + length (nodes_from (suc k) (take rest.i ls)) = length-append (nodes k None l) (nodes_from (suc k) (take rest.i ls)) in
      let low : length (nodes_from k (take (suc rest.i) (l ∷ ls))) ≤ n = omega (arith, long, e.1, rest.low) in
      let high : n < length (nodes_from k (take (suc rest.i) (l ∷ ls))) + length (nodes this.template None rest.root) = omega (arith, long, e.1, rest.high) in
      record {
        i = suc rest.i;
        root = rest.root;
        is = omega (arith, rest.is);
        there = rest.there;
        low = low;
        high = high;
        stands = subst (λ m. Stands (nodes k None l ++ nodes_from (suc k) ls) m (nodes this.template None rest.root)) (sym long)
            (stands_behind (nodes k None l) (nodes_from (suc k) ls) (length (nodes_from (suc k) (take rest.i ls))) (nodes this.template None rest.root) rest.stands);
      }
]

-- ---- the levels of a message

-- the message of a level, and what is known of its root
pub record IsRoot (schema : WireSchema) (n t : ℕ) : Type 0 where
  pub root : Level
  pub there : slice_get schema.messages t ≡ Some root
  pub low : root_of schema t ≤ n
  pub high : n < root_of schema t + length (nodes t None root)
  pub stands : Stands (all_nodes schema) (root_of schema t) (nodes t None root)

pub root_is : (schema : WireSchema) (n : ℕ) (this : Node) → slice_get (all_nodes schema) n ≡ Some this → IsRoot schema n this.template
root_is schema n this at =
    let m = in_message 0 schema.messages n this at in
    let same : m.i ≡ this.template = omega (arith, m.is) in
    record {
      root = m.root;
      there = ap (slice_get schema.messages) (sym same) ∙ m.there;
      low = subst (λ i. root_of schema i ≤ n) same m.low;
      high = subst (λ i. n < root_of schema i + length (nodes this.template None m.root)) same m.high;
      stands = subst (λ i. Stands (all_nodes schema) (root_of schema i) (nodes this.template None m.root)) same m.stands;
    }

-- ---- the groups of a level

stands_front : (xs : List Node) (k : ℕ) (ys zs : List Node) → Stands xs k (ys ++ zs) → Stands xs k ys
stands_front xs k ys zs h = (h.0, zs ++ h.1, h.2 ∙ ap (λ l. h.0 ++ l) (append_assoc ys zs h.1), h.3)

-- a group's level, the levels of its groups, and those after it
pub record ChildAt (schema : WireSchema) (t k : ℕ) (g : Group) (rest : List Group) : Type 0 where
  pub at : slice_get (all_nodes schema) k ≡ Some (group_node t g)
  pub below : Stands (all_nodes schema) (k + 1) (flat_map (nodes_of t) (out-Level (out-Group g).level).groups)
  pub after : Stands (all_nodes schema) (k + length (nodes_of t g)) (flat_map (nodes_of t) rest)
  pub many : length (nodes_of t g) ≡ suc (length (flat_map (nodes_of t) (out-Level (out-Group g).level).groups))
  pub all : length (flat_map (nodes_of t) (g ∷ rest)) ≡ length (nodes_of t g) + length (flat_map (nodes_of t) rest)

first_child : (schema : WireSchema) (t k : ℕ) (g : Group) (rest : List Group) → Stands (all_nodes schema) k (flat_map (nodes_of t) (g ∷ rest)) → ChildAt schema t k g rest
first_child schema t k g rest h =
    let kids = flat_map (nodes_of t) (out-Level (out-Group g).level).groups in
    let open_g : nodes_of t g ≡ group_node t g ∷ kids = open_group t g ∙ nodes_open t (Some (out-Group g).dim) (out-Group g).level in
    let here = subst (λ ns. Stands (all_nodes schema) k (ns ++ flat_map (nodes_of t) rest)) open_g h in
    record {
      at = stands_first (all_nodes schema) k (group_node t g) (kids ++ flat_map (nodes_of t) rest) here;
      below = stands_front (all_nodes schema) (k + 1) kids (flat_map (nodes_of t) rest) (stands_split (all_nodes schema) k (group_node t g ∷ []) (kids ++ flat_map (nodes_of t) rest) here);
      after = stands_split (all_nodes schema) k (nodes_of t g) (flat_map (nodes_of t) rest) h;
      many = ap length open_g;
      all = length-append (nodes_of t g) (flat_map (nodes_of t) rest);
    }

pub child_at : (schema : WireSchema) (t k : ℕ) (gs : List Group) (i : ℕ) (g : Group) → i < length gs → g ≡ get_or gs i g → Stands (all_nodes schema) k (flat_map (nodes_of t) (drop i gs)) →
    ChildAt schema t k g (drop (i + 1) gs)
child_at schema t k gs i g h is stands =
    first_child schema t k g (drop (i + 1) gs) (subst (λ l. Stands (all_nodes schema) k (flat_map (nodes_of t) l)) (drop_is gs i g h is) stands)

-- how many levels are left
pub left_is : (t : ℕ) (gs : List Group) (i : ℕ) (g : Group) → i < length gs → g ≡ get_or gs i g → length (flat_map (nodes_of t) (drop i gs)) ≡ length (nodes_of t g) + length (flat_map (nodes_of t) (drop (i + 1) gs))
left_is t gs i g h is = ap (λ l. length (flat_map (nodes_of t) l)) (drop_is gs i g h is) ∙ length-append (nodes_of t g) (flat_map (nodes_of t) (drop (i + 1) gs))

-- the row of a group's level tells where its levels end
pub child_end : (schema : WireSchema) (t k : ℕ) (g : Group) (row : LevelRow) → slice_get (all_nodes schema) k ≡ Some (group_node t g) → RowFor schema k row → row.end ≡ k + length (nodes_of t g)
child_end schema t k g row at is =
    let both : Some is.0 ≡ Some (group_node t g) = sym is.1 ∙ at in
    let same : is.0 ≡ group_node t g = cc in
    is.2.end ∙ ap (λ (x : Node). k + length (nodes x.template x.dim x.level)) same ∙ ap (λ l. k + length l) (sym (open_group t g))

-- ---- a level by its row

pub template_within : (schema : WireSchema) (n : ℕ) (row : LevelRow) → RowFor schema n row → row.template < length schema.messages
template_within schema n row is =
    let root = root_is schema n is.0 is.1 in
    omega (arith, is.2.template, slice_get_within schema.messages is.0.template root.root root.there)

-- the message of a level
pub message_of : (schema : WireSchema) (n : ℕ) (row : LevelRow) (root : Level) → RowFor schema n row → slice_get schema.messages row.template ≡ Some root → (of : IsRoot schema n row.template) × (of.root ≡ root)
message_of schema n row root is there =
    let of = subst (λ t. IsRoot schema n t) (sym is.2.template) (root_is schema n is.0 is.1) in
    let both : Some of.root ≡ Some root = sym of.there ∙ there in
    let same : of.root ≡ root = cc in
    (of, same)

-- the levels of a message, the root and then those of its groups
pub opened_message : (schema : WireSchema) (n : ℕ) (row : LevelRow) (root : Level) → RowFor schema n row → slice_get schema.messages row.template ≡ Some root →
    Stands (all_nodes schema) (root_of schema row.template) (node row.template None root ∷ flat_map (nodes_of row.template) (out-Level root).groups)
opened_message schema n row root is there =
    let of = message_of schema n row root is there in
    subst (λ ns. Stands (all_nodes schema) (root_of schema row.template) ns) (nodes_open row.template None root)
    (subst (λ (l : Level). Stands (all_nodes schema) (root_of schema row.template) (nodes row.template None l)) of.1 of.0.stands)

pub root_found : (schema : WireSchema) (n first : ℕ) (row : LevelRow) (root : Level) → RowFor schema n row → slice_get schema.messages row.template ≡ Some root → first ≡ root_of schema row.template → n ≤ first → level_at schema n ≡ Some root
root_found schema n first row root is there begins high =
    let of = message_of schema n row root is there in
    let same : n ≡ root_of schema row.template = omega (arith, begins, high, of.0.low) in
    let at = stands_first (all_nodes schema) (root_of schema row.template) (node row.template None root) _ (opened_message schema n row root is there) in
    ap (λ k. level_at schema k) same ∙ ap (option_map (λ (x : Node). x.level)) at

-- where the levels of the root's groups stand
pub record BelowRoot (schema : WireSchema) (n first t : ℕ) (groups : List Group) : Type 0 where
  pub stands : Stands (all_nodes schema) (first + 1) (flat_map (nodes_of t) groups)
  pub low : first + 1 ≤ n
  pub high : n < first + 1 + length (flat_map (nodes_of t) groups)

pub below_root : (schema : WireSchema) (n first : ℕ) (row : LevelRow) (root : Level) → RowFor schema n row → slice_get schema.messages row.template ≡ Some root →
    first ≡ root_of schema row.template → first < n → BelowRoot schema n first row.template (out-Level root).groups
below_root schema n first row root is there same other =
    let of = message_of schema n row root is there in
    let t = row.template in
    let kids = flat_map (nodes_of t) (out-Level root).groups in
    let long : length (nodes t None of.0.root) ≡ suc (length kids) = ap (λ (l : Level). length (nodes t None l)) of.1 ∙ ap length (nodes_open t None root) in
    record {
      stands = subst (λ k. Stands (all_nodes schema) (k + 1) kids) (sym same) (stands_split (all_nodes schema) (root_of schema t) (node t None root ∷ []) kids (opened_message schema n row root is there));
      low = omega (arith, same, of.0.low, other);
      high = omega (arith, same, of.0.high, long);
    }

-- the level of a group that was found
pub group_found : (schema : WireSchema) (n t : ℕ) (g : Group) → slice_get (all_nodes schema) n ≡ Some (group_node t g) → level_at schema n ≡ Some (out-Group g).level
group_found schema n t g at = ap (option_map (λ (x : Node). x.level)) at

-- after the last group no level is left
pub none_left : (t : ℕ) (gs : List Group) (i : ℕ) → length gs ≤ i → length (flat_map (nodes_of t) (drop i gs)) ≡ 0
none_left t [] zero h = refl
none_left t [] (suc i) h = refl
none_left t (g ∷ gs) zero h = absurd (omega arith)
none_left t (g ∷ gs) (suc i) h = none_left t gs i (omega arith)
