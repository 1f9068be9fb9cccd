-- The structures of messages are distinct.
use Rattle.std.proofs.Common.{◌≡◌, ℕ, suc, Bool, true, false, List, [], ◌∷◌, Option, Some, map, length, refl, ap, ◌∙◌, subst}
use Rattle.std.specs.Prelude.{slice_get, if◌then◌else◌, Ok, bytes_eq}
use Rattle.std.proofs.lemmas.Option.{same_Some}
use Rattle.reference_graph.specs.declared.graph.Node.{Node}
use Rattle.reference_graph.specs.Structures.{has_twice, is_ambiguous}
use Rattle.reference_graph.specs.Expansion.{Structure, structure_of}
use Rattle.reference_graph.proofs.Carrying.{tags_carried}
use Rattle.map_types.specs.declared.tree.MessageEl.{MessageEl}
use Rattle.map_types.specs.Trees.{Members}
use Rattle.map_links.specs.Links.{linked_of, ids_of, message_node}
use Rattle.map_rules.specs.Rules.{verdict}
use Rattle.orchestra_map.specs.Headers.{graph_of}
use Rattle.bridge_rules.specs.Datatypes.{Datatype}
use Rattle.bridge_terms.specs.Parts.{TagLists}
use Rattle.bridge_plan.specs.Mappings.{structure_for}
use Rattle.bridge_plan.specs.StructureFacts.{IsDistinct}
use Rattle.bridge_plan.proofs.Distinct.{distinct_of}
use Rattle.bridge_mapping.specs.Mapped.{mapping_of, tag_lists_of}
use Rattle.bridge_mapping.proofs.Whole.{message_clear}

chosen : (b : Bool) (s t : Structure) (more : Option Structure) → IsDistinct t → (more ≡ Some s → IsDistinct s) →
    (if b then Some t else more) ≡ Some s → IsDistinct s
chosen true s t more d f h = subst IsDistinct (same_Some t s h) d
chosen false s t more d f h = f h

module _ (lists : TagLists) (datatypes : List (ℕ × Datatype)) (graph : List Node) (node : MessageEl → Node) (kind : List ℕ) (s : Structure) where
  abbrev structures : List MessageEl → List (List ℕ × Structure)
  structures ms = map (λ (x : MessageEl). (x.msg_type, structure_of graph (node x).links)) ms

  abbrev found : List MessageEl → Option Structure
  found ms = structure_for (record { lists = lists; datatypes = datatypes; messages = structures ms }) kind

  distinct_among : (ms : List MessageEl) → ((j : ℕ) (x : MessageEl) → slice_get ms j ≡ Some x → is_ambiguous graph (node x).links ≡ false) →
      found ms ≡ Some s → IsDistinct s
  distinct_among [] each h = cc
  distinct_among (x ∷ xs) each h =
      chosen (bytes_eq x.msg_type kind) s (structure_of graph (node x).links) (found xs)
      (distinct_of (structure_of graph (node x).links) (ap has_twice (tags_carried graph (node x).links) ∙ each 0 x refl))
      (distinct_among xs (λ j y at. each (suc j) y at)) h

pub kept_distinct : (m : Members) (kind : List ℕ) (s : Structure) → verdict m ≡ Ok tt → structure_for (mapping_of m) kind ≡ Some s → IsDistinct s
kept_distinct m kind s kept h =
    distinct_among (tag_lists_of m) (mapping_of m).datatypes (graph_of m.fields (linked_of m)) (message_node (length m.components) (ids_of m.fields (linked_of m))) kind s m.messages
    (message_clear m kept) h
