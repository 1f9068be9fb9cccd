-- Members that are lent, and their nodes.
use Rattle.std.proofs.Common.{◌≡◌, ℕ, ◌+◌, ◌-◌, ◌≤◌, false, List, Some, map, length, sym, ap, ◌∙◌, subst, arith, codes, Bor}
use Rattle.std.specs.Prelude.{slice_get, Ok}
use Rattle.reference_graph.specs.declared.graph.Node.{Node}
use Rattle.reference_graph.specs.Graphs.{is_endless}
use Rattle.map_types.specs.declared.tree.ComponentEl.{ComponentEl}
use Rattle.map_types.specs.declared.tree.GroupEl.{GroupEl}
use Rattle.map_types.specs.declared.tree.MessageEl.{MessageEl}
use Rattle.map_members.specs.Lent.{lent_members}
use Rattle.map_members.proofs.Lent.{as_many, map_seen, seen_at}
use Rattle.map_links.specs.declared.ids.Ids.{Ids}
use Rattle.map_links.specs.Links.{linked, component_node, group_node, message_node, nodes_of}
use Rattle.map_links.proofs.Nodes.{component_at, group_at, message_at, messages_fit}
use Rattle.map_rules.specs.Verdicts.{list_verdict}
use Rattle.map_rules.specs.Rules.{component_rules, group_rules}
use Rattle.map_rules.proofs.Ends.{message_ends}

module _ (ids : Ids) (cs : List (Bor ComponentEl)) (gs : List (Bor GroupEl)) (ms : List (Bor MessageEl)) (graph : List Node) (is : graph ≡ nodes_of (length cs) ids (linked cs gs ms)) where
  many : length cs ≡ length (lent_members cs)
  many = sym (as_many cs)

  pub components_lie : (i : ℕ) (c : Bor ComponentEl) → slice_get cs i ≡ Some c → slice_get graph i ≡ Some (component_node (length cs) ids c.now)
  components_lie i c at = ap (λ g. slice_get g i) is ∙ component_at (length cs) ids (linked cs gs ms) many i c.now (seen_at cs i c at)

  pub groups_lie : (i : ℕ) (g : Bor GroupEl) → slice_get gs i ≡ Some g → slice_get graph (length cs + i) ≡ Some (group_node (length cs) ids g.now)
  groups_lie i g at = ap (λ n. slice_get n (length cs + i)) is ∙ group_at (length cs) ids (linked cs gs ms) many i g.now (seen_at gs i g at)

  pub messages_lie : (i : ℕ) (m : Bor MessageEl) → slice_get ms i ≡ Some m → slice_get graph (length graph - length ms + i) ≡ Some (message_node (length cs) ids m.now)
  messages_lie i m at =
      ap (λ g. slice_get g (length g - length ms + i)) is
      ∙ ap (λ n. slice_get (nodes_of (length cs) ids (linked cs gs ms)) (length (nodes_of (length cs) ids (linked cs gs ms)) - n + i)) (sym (as_many ms))
      ∙ message_at (length cs) ids (linked cs gs ms) many i m.now (seen_at ms i m at)

  pub messages_are_there : length ms ≤ length graph
  messages_are_there =
      let fit : length (lent_members ms) ≤ length (nodes_of (length cs) ids (linked cs gs ms)) = messages_fit (length cs) ids (linked cs gs ms) many in
      let same : length (lent_members ms) ≡ length ms = as_many ms in
      let long : length graph ≡ length (nodes_of (length cs) ids (linked cs gs ms)) = ap length is in
      omega arith

  pub messages_end : ids.components ≡ map (λ (c : Bor ComponentEl). c.now.id) cs → ids.groups ≡ map (λ (g : Bor GroupEl). g.now.id) gs →
      list_verdict (codes "components") (component_rules (length cs) ids graph) 0 (lent_members cs) ≡ Ok tt → list_verdict (codes "groups") (group_rules (length cs) ids graph) 0 (lent_members gs) ≡ Ok tt →
      (m : MessageEl) → is_endless graph (message_node (length cs) ids m).links ≡ false
  messages_end of_components of_groups one two m =
      ap (λ g. is_endless g (message_node (length cs) ids m).links) is
      ∙ message_ends (length cs) ids (linked cs gs ms) many
      (of_components ∙ map_seen (λ (c : ComponentEl). c.id) cs) (of_groups ∙ map_seen (λ (g : GroupEl). g.id) gs)
      (subst (λ g. list_verdict (codes "components") (component_rules (length cs) ids g) 0 (lent_members cs) ≡ Ok tt) is one)
      (subst (λ g. list_verdict (codes "groups") (group_rules (length cs) ids g) 0 (lent_members gs) ≡ Ok tt) is two)
      m
