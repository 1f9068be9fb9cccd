-- What is said of gathered members is said of the repository's.
use Rattle.std.proofs.Common.{◌≡◌, List, flat_map, length, sym, ap, ◌∙◌, subst, Bor}
use Rattle.map_types.specs.declared.tree.RepositoryItem.{RepositoryItem}
use Rattle.map_types.specs.declared.tree.FieldEl.{FieldEl}
use Rattle.map_types.specs.declared.tree.ComponentEl.{ComponentEl}
use Rattle.map_types.specs.declared.tree.GroupEl.{GroupEl}
use Rattle.map_types.specs.declared.tree.MessageEl.{MessageEl}
use Rattle.map_types.specs.Trees.{fields_of, components_of, groups_of, messages_of}
use Rattle.map_members.specs.Lent.{lent_members}
use Rattle.map_members.proofs.Lent.{as_many}
use Rattle.map_links.specs.declared.ids.Ids.{Ids}
use Rattle.map_links.specs.Links.{Linked, linked, ids_of, nodes_of}
use Rattle.map_rules.specs.Rules.{items_linked}
use Rattle.orchestra_map.specs.Headers.{graph_of}

module _ (fs : List (Bor FieldEl)) (cs : List (Bor ComponentEl)) (gs : List (Bor GroupEl)) (ms : List (Bor MessageEl)) where
  pub graph_is : (ids : Ids) → ids ≡ ids_of (lent_members fs) (linked cs gs ms) → nodes_of (length cs) ids (linked cs gs ms) ≡ graph_of (lent_members fs) (linked cs gs ms)
  graph_is ids is =
      ap (λ (i : Ids). nodes_of (length cs) i (linked cs gs ms)) is
      ∙ ap (λ n. nodes_of n (ids_of (lent_members fs) (linked cs gs ms)) (linked cs gs ms)) (sym (as_many cs))

  module _ (children items : List RepositoryItem) (same : items ≡ children) (f : lent_members fs ≡ flat_map fields_of items) (c : lent_members cs ≡ flat_map components_of items)
      (g : lent_members gs ≡ flat_map groups_of items) (m : lent_members ms ≡ flat_map messages_of items) (P : List FieldEl → Linked → Type 0) where
    all : linked cs gs ms ≡ items_linked items
    all = λ j. record { components = c j; groups = g j; messages = m j }

    pub of_slices : P (lent_members fs) (linked cs gs ms) → P (flat_map fields_of children) (items_linked children)
    of_slices h =
        subst (λ (is : List RepositoryItem). P (flat_map fields_of is) (items_linked is)) same
        (subst (λ (l : Linked). P (flat_map fields_of items) l) all (subst (λ (x : List FieldEl). P x (linked cs gs ms)) f h))

    pub to_slices : P (flat_map fields_of children) (items_linked children) → P (lent_members fs) (linked cs gs ms)
    to_slices h =
        subst (λ (x : List FieldEl). P x (linked cs gs ms)) (sym f)
        (subst (λ (l : Linked). P (flat_map fields_of items) l) (sym all) (subst (λ (is : List RepositoryItem). P (flat_map fields_of is) (items_linked is)) (sym same) h))
