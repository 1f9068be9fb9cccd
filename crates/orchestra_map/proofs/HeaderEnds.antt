-- Where the members of a mapping keep their rules, the structure of its header ends.
use Rattle.std.proofs.Common.{◌≡◌, ℕ, zero, suc, ◌+◌, ◌<◌, ◌≤◌, Bool, true, false, List, [], ◌∷◌, ◌++◌, length, refl, ap, ◌∙◌, arith, codes}
use Rattle.std.specs.Prelude.{if◌then◌else◌, Ok, Err, ◌||◌}
use Rattle.std.specs.List.{list_any}
use Rattle.reference_graph.specs.declared.graph.Link.{Link}
use Rattle.reference_graph.specs.declared.graph.Link.TheVariants.{To}
use Rattle.reference_graph.specs.declared.graph.Node.{Node}
use Rattle.reference_graph.specs.Graphs.{goes_on, Ends, LinkEnds}
use Rattle.map_types.specs.declared.tree.ComponentEl.{ComponentEl}
use Rattle.map_types.specs.Trees.{Members}
use Rattle.map_links.specs.declared.ids.Ids.{Ids}
use Rattle.map_links.specs.Links.{linked_of, ids_of}
use Rattle.map_rules.specs.declared.tables.Tables.{Tables}
use Rattle.map_rules.specs.Verdicts.{Verdict, ◌then◌, list_verdict}
use Rattle.map_rules.specs.Rules.{tables_of, code_set_rules, field_rules, component_rules, group_rules, message_rules, linked_verdict, verdict_by, verdict}
use Rattle.map_rules.proofs.Ends.{to_component}
use Rattle.orchestra_map.specs.Headers.{is_header, header_places, framing_links, header_links, graph_of}

both : (v w : Verdict) → (v then w) ≡ Ok tt → (v ≡ Ok tt) × (w ≡ Ok tt)
both (Ok x) w h = (refl, h)
both (Err e) w h = cc

module _ (p : Link → Bool) where
  chosen : (b : Bool) (l : Link) (rest : List Link) → p l ≡ false → list_any p rest ≡ false → list_any p (if b then l ∷ rest else rest) ≡ false
  chosen true l rest h g = ap (λ b. b || list_any p rest) h ∙ g
  chosen false l rest h g = g

  placed : (many : ℕ) → ((i : ℕ) → i < many → p (To i) ≡ false) → (i : ℕ) (cs : List ComponentEl) → i + length cs ≤ many → list_any p (header_places i cs) ≡ false
  placed many each i [] h = refl
  placed many each i (c ∷ cs) h = chosen (is_header c) (To i) (header_places (i + 1) cs) (each i (omega arith)) (placed many each (i + 1) cs (omega arith))

  neither : (b : Bool) (rest rest_then : Bool) → (b || rest) ≡ false → (rest ≡ false → rest_then ≡ false) → (b || rest_then) ≡ false
  neither true rest rest_then h f = cc
  neither false rest rest_then h f = f h

  none_of : (xs ys : List Link) → list_any p xs ≡ false → list_any p ys ≡ false → list_any p (xs ++ ys) ≡ false
  none_of [] ys h g = g
  none_of (x ∷ xs) ys h g = neither (p x) (list_any p xs) (list_any p (xs ++ ys)) h (λ rest. none_of xs ys rest g)

no_field : (n : ℕ) (graph : List Node) → list_any (goes_on n graph) framing_links ≡ false
no_field zero graph = refl
no_field (suc n) graph = refl

module _ (m : Members) (kept : verdict m ≡ Ok tt) where
  abbrev tables : Tables
  tables = tables_of m.datatypes m.code_sets m.fields

  abbrev ids : Ids
  ids = ids_of m.fields (linked_of m)

  abbrev graph : List Node
  graph = graph_of m.fields (linked_of m)

  fields_kept : verdict_by ids tables m.fields (linked_of m) ≡ Ok tt
  fields_kept = (both (list_verdict (codes "codeSets") (code_set_rules tables) 0 m.code_sets) (verdict_by ids tables m.fields (linked_of m)) kept).1

  linked_kept : linked_verdict ids (linked_of m) ≡ Ok tt
  linked_kept = (both (list_verdict (codes "fields") (field_rules ids tables m.fields) 0 m.fields) (linked_verdict ids (linked_of m)) fields_kept).1

  abbrev of_components : Verdict
  of_components = list_verdict (codes "components") (component_rules (length m.components) ids graph) 0 m.components

  abbrev of_groups : Verdict
  of_groups = list_verdict (codes "groups") (group_rules (length m.components) ids graph) 0 m.groups

  abbrev of_messages : Verdict
  of_messages = list_verdict (codes "messages") (message_rules (length m.components) ids graph) 0 m.messages

  components_kept : (of_components ≡ Ok tt) × ((of_groups then of_messages) ≡ Ok tt)
  components_kept = both of_components (of_groups then of_messages) linked_kept

  groups_kept : (of_groups ≡ Ok tt) × (of_messages ≡ Ok tt)
  groups_kept = both of_groups of_messages components_kept.1

  component_ends : (i : ℕ) → i < length m.components → LinkEnds graph (To i)
  component_ends i lt = to_component (length m.components) ids (linked_of m) refl refl refl components_kept.0 groups_kept.0 i lt

  pub header_ends : Ends graph (header_links m.components)
  header_ends =
      none_of (goes_on (length graph) graph) framing_links (header_places 0 m.components) (no_field (length graph) graph)
      (placed (goes_on (length graph) graph) (length m.components) component_ends 0 m.components (omega arith))
