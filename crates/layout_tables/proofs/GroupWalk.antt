-- The groups of a level by their numbers.
use Rattle.std.proofs.lemmas.Bool.{cases_lt}
use Rattle.std.proofs.Common.{◌≡◌, inl, inr, ◌<◌, ℕ, zero, suc, ◌+◌, List, [], ◌∷◌, length, take, drop, get_or, Option, Some, None, refl, sym, ap, ◌∙◌, subst, arith, length-append}
use Rattle.std.specs.Prelude.{slice_get, flat_map}
use Rattle.std.specs.Option.{option_map, option_and_then, IsSome}
use Rattle.std.proofs.lemmas.Option.{slice_get_within, get_or_from_slice_get}
use Rattle.sbe_types.specs.declared.kind.Member.{Member}
use Rattle.sbe_types.specs.declared.schema.Group.{Group, Group', out-Group}
use Rattle.sbe_types.specs.declared.schema.Level.{Level, Level', out-Level, Row_of-Group, end_of-Group, more_of-Group}
use Rattle.sbe_types.specs.declared.schema.WireSchema.{WireSchema}
use Rattle.schema_facts.specs.Levels.{Node, nodes, nodes_below, nodes_of, all_nodes, groups_at, groups_in, level_at, node, group_node, root_of, Stands}
use Rattle.layout_tables.specs.declared.rows.LevelRow.{LevelRow}
use Rattle.layout_tables.specs.Rowed.{RowFor}
use Rattle.layout_tables.specs.Parts.{group_number, dim_at}
use Rattle.layout_tables.proofs.Nodes.{children, stands_first}
use Rattle.layout_tables.proofs.Nodes.{flat_more}
use Rattle.layout_tables.proofs.Finds.{ChildAt, child_at, child_end, message_of, opened_message}
use Rattle.layout_tables.proofs.Items.{item_there}

mutual
  unfolding nodes nodes_below nodes_of

  many_nodes : (t u : ℕ) (dim : Option (List Member)) (level : Level) → length (nodes t dim level) ≡ length (nodes u dim level)
  many_nodes t u dim (Level' name id semantic since block_length fields n groups parts) = ap suc (many_below t u groups)

  many_below : (t u : ℕ) {n : _} (row : Row_of-Group n) → length (nodes_below t row) ≡ length (nodes_below u row)
  many_below t u end_of-Group = refl
  many_below t u (more_of-Group g rest) =
      omega (arith, length-append (nodes_of t g) (nodes_below t rest), length-append (nodes_of u g) (nodes_below u rest), many_of t u g, many_below t u rest)

  pub many_of : (t u : ℕ) (g : Group) → length (nodes_of t g) ≡ length (nodes_of u g)
  many_of t u (Group' dim level) = many_nodes t u (Some dim) level

-- how far a walk over a level's groups has come: the next one's level is number child
pub record GroupsFrom (schema : WireSchema) (n k child : ℕ) : Type 0 where
  pub this : Node
  pub at : slice_get (all_nodes schema) n ≡ Some this
  pub stands : Stands (all_nodes schema) child (flat_map (nodes_of this.template) (drop k (out-Level this.level).groups))
  pub number : child ≡ n + 1 + length (flat_map (nodes_of 0) (take k (out-Level this.level).groups))

pub groups_begin : (schema : WireSchema) (n : ℕ) → n < length (all_nodes schema) → GroupsFrom schema n 0 (n + 1)
groups_begin schema n h =
    let this = item_there (all_nodes schema) n h in
    record {
      this = this.0;
      at = this.1;
      stands = children schema n this.0 this.1;
      number = omega arith;
    }

-- a group of the level, and where its levels stand
pub record GroupHere (schema : WireSchema) (n k child : ℕ) (w : GroupsFrom schema n k child) : Type 0 where
  pub g : Group
  pub there : slice_get (out-Level w.this.level).groups k ≡ Some g
  pub within : k < length (out-Level w.this.level).groups
  pub is : g ≡ get_or (out-Level w.this.level).groups k g
  pub child_is : ChildAt schema w.this.template child g (drop (k + 1) (out-Level w.this.level).groups)

pub groups_are : (schema : WireSchema) (n : ℕ) (this : Node) → slice_get (all_nodes schema) n ≡ Some this → groups_at schema n ≡ (out-Level this.level).groups
groups_are schema n this at = ap (λ (o : Option Node). groups_in (option_map (λ (x : Node). x.level) o)) at

pub here : (schema : WireSchema) (n k child : ℕ) (w : GroupsFrom schema n k child) → k < length (groups_at schema n) → GroupHere schema n k child w
here schema n k child w h =
    let groups = (out-Level w.this.level).groups in
    let within : k < length groups = omega (arith, ap length (groups_are schema n w.this w.at)) in
    let item = item_there groups k within in
    let is : item.0 ≡ get_or groups k item.0 = sym (get_or_from_slice_get groups k item.0 item.0 item.1) in
    record {
      g = item.0;
      there = item.1;
      within = within;
      is = is;
      child_is = child_at schema w.this.template child groups k item.0 within is w.stands;
    }

pub group_within : (schema : WireSchema) (n k child : ℕ) → GroupsFrom schema n k child → k < length (groups_at schema n) → child < length (all_nodes schema)
group_within schema n k child w h =
    let this = here schema n k child w h in
    slice_get_within (all_nodes schema) child _ this.child_is.at

pub groups_go : (schema : WireSchema) (n k child : ℕ) (row : LevelRow) → GroupsFrom schema n k child → k < length (groups_at schema n) → RowFor schema child row → GroupsFrom schema n (k + 1) row.end
groups_go schema n k child row w h is =
    let this = here schema n k child w h in
    let t = w.this.template in
    let groups = (out-Level w.this.level).groups in
    let end : row.end ≡ child + length (nodes_of t this.g) = child_end schema t child this.g row this.child_is.at is in
    let more : length (flat_map (nodes_of 0) (take (k + 1) groups)) ≡ length (flat_map (nodes_of 0) (take k groups)) + length (nodes_of 0 this.g) =
    ap length (flat_more 0 groups k this.g this.within this.is) ∙ length-append (flat_map (nodes_of 0) (take k groups)) (nodes_of 0 this.g) in
    record {
      this = w.this;
      at = w.at;
      stands = subst (λ m. Stands (all_nodes schema) m (flat_map (nodes_of t) (drop (k + 1) groups))) (sym end) this.child_is.after;
      number = omega (arith, end, more, w.number, many_of t 0 this.g);
    }

pub group_is : (schema : WireSchema) (n k child : ℕ) → GroupsFrom schema n k child → child ≡ group_number schema n k
group_is schema n k child w =
    w.number ∙ ap (λ (gs : List Group). n + 1 + length (flat_map (nodes_of 0) (take k gs))) (sym (groups_are schema n w.this w.at))

pub group_level : (schema : WireSchema) (n k child : ℕ) → GroupsFrom schema n k child → k < length (groups_at schema n) →
    level_at schema child ≡ option_map (λ (g : Group). (out-Group g).level) (slice_get (groups_at schema n) k)
group_level schema n k child w h =
    let this = here schema n k child w h in
    ap (option_map (λ (x : Node). x.level)) this.child_is.at
    ∙ sym (ap (λ (gs : List Group). option_map (λ (g : Group). (out-Group g).level) (slice_get gs k)) (groups_are schema n w.this w.at) ∙ ap (option_map (λ (g : Group). (out-Group g).level)) this.there)

-- it is no root
pub group_some : (schema : WireSchema) (n k child : ℕ) → GroupsFrom schema n k child → k < length (groups_at schema n) → IsSome (dim_at schema child)
group_some schema n k child w h =
    let this = here schema n k child w h in
    subst (λ (o : Option Node). IsSome (option_and_then (λ (x : Node). x.dim) o)) (sym this.child_is.at) refl

pub group_dim : (schema : WireSchema) (n k child : ℕ) → GroupsFrom schema n k child → k < length (groups_at schema n) →
    dim_at schema child ≡ option_map (λ (g : Group). (out-Group g).dim) (slice_get (groups_at schema n) k)
group_dim schema n k child w h =
    let this = here schema n k child w h in
    ap (option_and_then (λ (x : Node). x.dim)) this.child_is.at
    ∙ sym (ap (λ (gs : List Group). option_map (λ (g : Group). (out-Group g).dim) (slice_get gs k)) (groups_are schema n w.this w.at) ∙ ap (option_map (λ (g : Group). (out-Group g).dim)) this.there)

-- ---- the level of a group is no root

pub dim_within : (schema : WireSchema) (n : ℕ) → IsSome (dim_at schema n) → n < length (all_nodes schema)
dim_within schema n some = within (all_nodes schema) n some
  where
    within : (ns : List Node) (n : ℕ) → IsSome (option_and_then (λ (x : Node). x.dim) (slice_get ns n)) → n < length ns
    within [] n some = cc
    within (x ∷ ns) zero some = omega arith
    within (x ∷ ns) (suc n) some = let rest = within ns n some in omega (arith, rest)

pub behind_root : (schema : WireSchema) (n first : ℕ) (row : LevelRow) (root : Level) → IsSome (dim_at schema n) → RowFor schema n row → slice_get schema.messages row.template ≡ Some root →
    first ≡ root_of schema row.template → first < n
behind_root schema n first row root some is there begins =
    let of = message_of schema n row root is there in
    let t = row.template in
    let at : slice_get (all_nodes schema) (root_of schema t) ≡ Some (node t None root) = stands_first (all_nodes schema) (root_of schema t) (node t None root) _ (opened_message schema n row root is there) in
    elim (cases_lt (root_of schema t) n) [
      | inl less ↦ omega (arith, less, begins)
      | inr most ↦
          let same : n ≡ root_of schema t = omega (arith, most, of.0.low) in
          let none : dim_at schema n ≡ None = ap (dim_at schema) same ∙ ap (option_and_then (λ (x : Node). x.dim)) at in
          absurd (empty (subst (λ (o : Option (List Member)). IsSome o) none some))
    ]
  where
    empty : IsSome {T = List Member} None → ⊥
    empty e = cc

pub dim_found : (schema : WireSchema) (n t : ℕ) (g : Group) → slice_get (all_nodes schema) n ≡ Some (group_node t g) → dim_at schema n ≡ Some (out-Group g).dim
dim_found schema n t g at = ap (option_and_then (λ (x : Node). x.dim)) at
