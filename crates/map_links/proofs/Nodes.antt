-- Where components, groups and messages stand among the nodes.
use Rattle.std.proofs.Common.{◌≡◌, ℕ, zero, suc, ◌+◌, ◌-◌, ◌≤◌, List, [], ◌∷◌, ◌++◌, Some, map, length, refl, sym, ap, ◌∙◌, arith, length-append}
use Rattle.std.specs.Prelude.{slice_get, option_map}
use Rattle.std.proofs.lemmas.Option.{slice_get-map}
use Rattle.reference_graph.specs.declared.graph.Node.{Node}
use Rattle.map_links.specs.declared.ids.Ids.{Ids}
use Rattle.map_types.specs.declared.tree.ComponentEl.{ComponentEl}
use Rattle.map_types.specs.declared.tree.GroupEl.{GroupEl}
use Rattle.map_types.specs.declared.tree.MessageEl.{MessageEl}
use Rattle.map_links.specs.Links.{Linked, component_node, group_node, message_node, nodes_of}

in_front : {X : Type 0} (xs ys : List X) (i : ℕ) (x : X) → slice_get xs i ≡ Some x → slice_get (xs ++ ys) i ≡ Some x
in_front [] ys i x h = cc
in_front (z ∷ xs) ys zero x h = h
in_front (z ∷ xs) ys (suc i) x h = in_front xs ys i x h

after : {X : Type 0} (xs ys : List X) (i : ℕ) → slice_get (xs ++ ys) (length xs + i) ≡ slice_get ys i
after [] ys i = let e : 0 + i ≡ i = omega arith in ap (slice_get ys) e
after (x ∷ xs) ys i = let e : length (x ∷ xs) + i ≡ suc (length xs + i) = omega arith in ap (slice_get (x ∷ xs ++ ys)) e ∙ after xs ys i

pub long_map : {X Y : Type 0} (f : X → Y) (xs : List X) → length (map f xs) ≡ length xs
long_map f [] = refl
long_map f (x ∷ xs) = ap suc (long_map f xs)

mapped : {X : Type 0} (f : X → Node) (xs : List X) (i : ℕ) (x : X) → slice_get xs i ≡ Some x → slice_get (map f xs) i ≡ Some (f x)
mapped f xs i x h = slice_get-map f xs i ∙ ap (option_map f) h

module _ (count : ℕ) (ids : Ids) (m : Linked) (many : count ≡ length m.components) where
  abbrev front : List Node
  front = map (component_node count ids) m.components ++ map (group_node count ids) m.groups

  pub component_at : (i : ℕ) (c : ComponentEl) → slice_get m.components i ≡ Some c → slice_get (nodes_of count ids m) i ≡ Some (component_node count ids c)
  component_at i c h =
      in_front front (map (message_node count ids) m.messages) i (component_node count ids c)
      (in_front (map (component_node count ids) m.components) (map (group_node count ids) m.groups) i (component_node count ids c) (mapped (component_node count ids) m.components i c h))

  pub group_at : (i : ℕ) (g : GroupEl) → slice_get m.groups i ≡ Some g → slice_get (nodes_of count ids m) (count + i) ≡ Some (group_node count ids g)
  group_at i g h =
      in_front front (map (message_node count ids) m.messages) (count + i) (group_node count ids g)
      (ap (λ n. slice_get front (n + i)) (many ∙ sym (long_map (component_node count ids) m.components))
      ∙ after (map (component_node count ids) m.components) (map (group_node count ids) m.groups) i ∙ mapped (group_node count ids) m.groups i g h)

  long : length (nodes_of count ids m) ≡ length front + length m.messages
  long = length-append front (map (message_node count ids) m.messages) ∙ ap (λ n. length front + n) (long_map (message_node count ids) m.messages)

  pub messages_fit : length m.messages ≤ length (nodes_of count ids m)
  messages_fit = let e : length (nodes_of count ids m) ≡ length front + length m.messages = long in omega arith

  pub message_at : (i : ℕ) (x : MessageEl) → slice_get m.messages i ≡ Some x → slice_get (nodes_of count ids m) (length (nodes_of count ids m) - length m.messages + i) ≡ Some (message_node count ids x)
  message_at i x h =
      let all : length (nodes_of count ids m) ≡ length front + length m.messages = long in
      let e : length (nodes_of count ids m) - length m.messages ≡ length front = omega arith in
      ap (λ n. slice_get (nodes_of count ids m) (n + i)) e ∙ after front (map (message_node count ids) m.messages) i ∙ mapped (message_node count ids) m.messages i x h
