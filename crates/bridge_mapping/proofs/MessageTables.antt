-- What a table of messages holds, and what is found in it.
use Rattle.std.proofs.Common.{◌≡◌, ℕ, suc, ◌+◌, ◌-◌, ◌≤◌, Bool, true, false, List, [], ◌∷◌, Option, Some, None, map, length, refl, sym, ap, ◌∙◌, subst, arith}
use Rattle.std.specs.Prelude.{if◌then◌else◌, bytes_eq}
use Rattle.std.proofs.lemmas.Option.{same_Some}
use Rattle.id_tables.specs.Places.{place_by, name_place}
use Rattle.reference_graph.specs.declared.graph.Node.{Node}
use Rattle.reference_graph.specs.Graphs.{links_at}
use Rattle.reference_graph.specs.Expansion.{Structure, structure_of}
use Rattle.map_types.specs.declared.tree.FieldEl.{FieldEl}
use Rattle.map_types.specs.declared.tree.MessageEl.{MessageEl}
use Rattle.map_links.specs.Links.{Linked, ids_of, message_node}
use Rattle.map_links.proofs.Nodes.{message_at, messages_fit, long_map}
use Rattle.orchestra_map.specs.Headers.{graph_of}
use Rattle.bridge_rules.specs.Datatypes.{Datatype}
use Rattle.bridge_terms.specs.Parts.{TagLists}
use Rattle.bridge_plan.specs.Mappings.{Mapping, structure_for}
use Rattle.bridge_mapping.specs.Mapped.{structures_of}
use Rattle.bridge_mapping.specs.Tables.{structures_from, structures_in, AreWhole, HasWhole}
use Rattle.bridge_mapping.proofs.Typing.{turned, from_there}
use Rattle.bridge_mapping.proofs.Whole.{by_nodes}

abbrev kind_of : MessageEl → List ℕ
kind_of x = x.msg_type

-- ---- what the table holds

of_graph : (fields : List FieldEl) (m : Linked) →
    structures_from (graph_of fields m) (length (graph_of fields m) - length m.messages) (map kind_of m.messages) ≡ structures_of fields m
of_graph fields m =
    by_nodes (graph_of fields m) (message_node (length m.components) (ids_of fields m)) (length (graph_of fields m) - length m.messages) m.messages
    (λ j x at. message_at (length m.components) (ids_of fields m) m refl j x at)

module _ (fields : List FieldEl) (m : Linked) (graph : List Node) (count : ℕ) (kinds : List (List ℕ)) (g : graph ≡ graph_of fields m)
    (n : count ≡ length m.messages)
    (k : kinds ≡ map kind_of m.messages) where
  pub table_is : structures_in (graph, kinds) ≡ structures_of fields m
  table_is =
      (λ j. structures_from (g j) (length (g j) - length (k j)) (k j))
      ∙ ap (λ c. structures_from (graph_of fields m) (length (graph_of fields m) - c) (map kind_of m.messages)) (long_map kind_of m.messages)
      ∙ of_graph fields m

  pub as_many_kinds : length kinds ≡ count
  as_many_kinds = ap length k ∙ long_map kind_of m.messages ∙ sym n

  pub nodes_are_there : count ≤ length graph
  nodes_are_there =
      let fit : length m.messages ≤ length (graph_of fields m) = messages_fit (length m.components) (ids_of fields m) m refl in
      let long : length graph ≡ length (graph_of fields m) = ap length g in
      omega arith

  pub nodes_are_whole : HasWhole fields m → AreWhole graph (length graph - count)
  nodes_are_whole h = subst (λ c. AreWhole graph (length graph - c)) (sym n) (subst (λ (ns : List Node). AreWhole ns (length ns - length m.messages)) (sym g) h)

-- ---- what is found

none_step : (p q : Bool) → q ≡ p → (k : ℕ) (more : Option ℕ) (own : Structure) (rest : Option Structure) → (if p then Some k else more) ≡ None →
    (more ≡ None → rest ≡ None) →
    (if q then Some own else rest) ≡ None
none_step true true e k more own rest h f = cc
none_step true false e k more own rest h f = cc
none_step false true e k more own rest h f = cc
none_step false false e k more own rest h f = f h

module _ (lists : TagLists) (datatypes : List (ℕ × Datatype)) (graph : List Node) (kind : List ℕ) where
  abbrev own : ℕ → Structure
  own i = structure_of graph (links_at graph i)

  abbrev found : ℕ → List (List ℕ) → Option Structure
  found first kinds = structure_for (record { lists = lists; datatypes = datatypes; messages = structures_from graph first kinds }) kind

  none_from : (k first : ℕ) (kinds : List (List ℕ)) → place_by (bytes_eq kind) k kinds ≡ None → found first kinds ≡ None
  none_from k first [] h = refl
  none_from k first (x ∷ xs) h =
      none_step (bytes_eq kind x) (bytes_eq x kind) (turned x kind) k (place_by (bytes_eq kind) (k + 1) xs) (own first) (found (suc first) xs) h (none_from (k + 1) (suc first) xs)

  found_step : (p q : Bool) → q ≡ p → (k i first : ℕ) (more : Option ℕ) (rest : Option Structure) → (if p then Some k else more) ≡ Some i →
      (more ≡ Some i → k + 1 ≤ i) →
      (more ≡ Some i → rest ≡ Some (own (suc first + (i - (k + 1))))) → (if q then Some (own first) else rest) ≡ Some (own (first + (i - k)))
  found_step true false e k i first more rest h le f = cc
  found_step false true e k i first more rest h le f = cc
  found_step true true e k i first more rest h le f =
      let same : k ≡ i = same_Some k i h in
      let here : first ≡ first + (i - k) = omega arith in
      ap (λ n. Some (own n)) here
  found_step false false e k i first more rest h le f =
      let above : k + 1 ≤ i = le h in
      let next : suc first + (i - (k + 1)) ≡ first + (i - k) = omega arith in
      f h ∙ ap (λ n. Some (own n)) next

  found_from : (k i first : ℕ) (kinds : List (List ℕ)) → place_by (bytes_eq kind) k kinds ≡ Some i → found first kinds ≡ Some (own (first + (i - k)))
  found_from k i first [] h = cc
  found_from k i first (x ∷ xs) h =
      found_step (bytes_eq kind x) (bytes_eq x kind) (turned x kind) k i first (place_by (bytes_eq kind) (k + 1) xs) (found (suc first) xs) h
      (from_there (bytes_eq kind) (k + 1) i xs) (found_from (k + 1) i (suc first) xs)

module _ (m : Mapping) (graph : List Node) (kind : List ℕ) (first : ℕ) (kinds : List (List ℕ)) (is : m.messages ≡ structures_from graph first kinds) where
  by_table : structure_for m kind ≡ structure_for (record { lists = m.lists; datatypes = m.datatypes; messages = structures_from graph first kinds }) kind
  by_table = λ j. structure_for (record { lists = m.lists; datatypes = m.datatypes; messages = is j }) kind

  pub structure_none : name_place kind kinds ≡ None → structure_for m kind ≡ None
  structure_none h = by_table ∙ none_from m.lists m.datatypes graph kind 0 first kinds h

  pub structure_found : (i : ℕ) → name_place kind kinds ≡ Some i → structure_for m kind ≡ Some (structure_of graph (links_at graph (first + i)))
  structure_found i h =
      let e : first + (i - 0) ≡ first + i = omega arith in
      by_table ∙ found_from m.lists m.datatypes graph kind 0 i first kinds h ∙ ap (λ n. Some (structure_of graph (links_at graph n))) e
