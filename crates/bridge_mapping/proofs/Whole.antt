-- The messages of a mapping that keeps its rules: where their nodes are, that their references end, and that they are within
-- the limits.
use Rattle.std.proofs.Common.{◌≡◌, ℕ, zero, suc, ◌+◌, ◌-◌, ◌<◌, ◌≤◌, Bool, true, false, List, [], ◌∷◌, Option, Some, None, map, take, length, refl, sym, ap, ◌∙◌, arith, codes}
use Rattle.std.specs.Prelude.{slice_get, if◌then◌else◌, Ok, Err, bytes_eq}
use Rattle.std.specs.List.{list_any}
use Rattle.std.proofs.lemmas.Option.{same_Some}
use Rattle.reference_graph.specs.declared.graph.Node.{Node}
use Rattle.reference_graph.specs.Graphs.{Ends, is_endless, links_at, links_in}
use Rattle.reference_graph.specs.Structures.{is_ambiguous, is_over_limit}
use Rattle.reference_graph.specs.Expansion.{structure_of}
use Rattle.map_types.specs.declared.codes.MCode.{MCode}
use Rattle.map_types.specs.declared.codes.MCode.TheVariants as code
use Rattle.map_types.specs.declared.tree.MessageEl.{MessageEl}
use Rattle.map_types.specs.Trees.{Members}
use Rattle.map_links.specs.declared.ids.Ids.{Ids}
use Rattle.map_links.specs.Links.{linked_of, ids_of, is_unknown, message_node, structure_of as references_of}
use Rattle.map_links.proofs.Nodes.{message_at, messages_fit}
use Rattle.map_rules.specs.declared.rule.Rule.{Rule}
use Rattle.map_rules.specs.declared.tables.Tables.{Tables}
use Rattle.map_rules.specs.Verdicts.{Verdict, ◌then◌, first_broken, member_verdict, list_verdict}
use Rattle.map_rules.specs.Rules.{tables_of, code_set_rules, field_rules, component_rules, group_rules, message_rules, linked_verdict, verdict_by, verdict}
use Rattle.map_rules.proofs.Ends.{message_ends}
use Rattle.orchestra_map.specs.Headers.{graph_of}
use Rattle.bridge_mapping.specs.Tables.{structures_from, IsWhole, HasWhole}

both : (v w : Verdict) → (v then w) ≡ Ok tt → (v ≡ Ok tt) × (w ≡ Ok tt)
both (Ok x) w h = (refl, h)
both (Err e) w h = cc

passed_first : (list : List ℕ) (i : ℕ) (o : Option MCode) (rest : Verdict) → (member_verdict list i o then rest) ≡ Ok tt → (o ≡ None) × (rest ≡ Ok tt)
passed_first list i None rest h = (refl, h)
passed_first list i (Some code) rest h = cc

passed_each : {A : Type 0} (list : List ℕ) (rules : ℕ → A → List Rule) (i j : ℕ) (xs : List A) (x : A) → list_verdict list rules i xs ≡ Ok tt →
    slice_get xs j ≡ Some x → first_broken (rules (i + j) x) ≡ None
passed_each list rules i j [] x h at = cc
passed_each list rules i zero (y ∷ xs) x h at =
    let e : i + 0 ≡ i = omega arith in
    ap (λ n. first_broken (rules n x)) e ∙ ap (λ z. first_broken (rules i z)) (sym (same_Some y x at))
    ∙ (passed_first list i (first_broken (rules i y)) (list_verdict list rules (i + 1) xs) h).0
passed_each list rules i (suc j) (y ∷ xs) x h at =
    let e : i + suc j ≡ i + 1 + j = omega arith in
    ap (λ n. first_broken (rules n x)) e
    ∙ passed_each list rules (i + 1) j xs x (passed_first list i (first_broken (rules i y)) (list_verdict list rules (i + 1) xs) h).1 at

-- of four rules none is broken: the third and the last
unbroken : (x y z w : MCode) (a b d e : Bool) →
    (if a then Some x else (if b then Some y else (if d then Some z else (if e then Some w else None)))) ≡ None → (d ≡ false) × (e ≡ false)
unbroken x y z w true b d e h = cc
unbroken x y z w false true d e h = cc
unbroken x y z w false false true e h = cc
unbroken x y z w false false false true h = cc
unbroken x y z w false false false false h = (refl, refl)

standing : {X : Type 0} (xs : List X) (i : ℕ) → i < length xs → (x : X) × (slice_get xs i ≡ Some x)
standing [] i h = absurd (omega arith)
standing (x ∷ xs) zero h = (x, refl)
standing (x ∷ xs) (suc i) h = standing xs i (omega arith)

module _ (m : Members) (kept : verdict m ≡ Ok tt) where
  abbrev tables : Tables
  tables = tables_of m.datatypes m.code_sets m.fields

  abbrev ids : Ids
  ids = ids_of m.fields (linked_of m)

  abbrev graph : List Node
  graph = graph_of m.fields (linked_of m)

  abbrev node_of : MessageEl → Node
  node_of x = message_node (length m.components) ids x

  abbrev of_components : Verdict
  of_components = list_verdict (codes "components") (component_rules (length m.components) ids graph) 0 m.components

  abbrev of_groups : Verdict
  of_groups = list_verdict (codes "groups") (group_rules (length m.components) ids graph) 0 m.groups

  abbrev of_messages : Verdict
  of_messages = list_verdict (codes "messages") (message_rules (length m.components) ids graph) 0 m.messages

  fields_kept : verdict_by ids tables m.fields (linked_of m) ≡ Ok tt
  fields_kept = (both (list_verdict (codes "codeSets") (code_set_rules tables) 0 m.code_sets) (verdict_by ids tables m.fields (linked_of m)) kept).1

  linked_kept : linked_verdict ids (linked_of m) ≡ Ok tt
  linked_kept = (both (list_verdict (codes "fields") (field_rules ids tables m.fields) 0 m.fields) (linked_verdict ids (linked_of m)) fields_kept).1

  components_kept : (of_components ≡ Ok tt) × ((of_groups then of_messages) ≡ Ok tt)
  components_kept = both of_components (of_groups then of_messages) linked_kept

  groups_kept : (of_groups ≡ Ok tt) × (of_messages ≡ Ok tt)
  groups_kept = both of_groups of_messages components_kept.1

  node_ends : (x : MessageEl) → Ends graph (node_of x).links
  node_ends x = message_ends (length m.components) ids (linked_of m) refl refl refl components_kept.0 groups_kept.0 x

  rules_kept : (j : ℕ) (x : MessageEl) → slice_get m.messages j ≡ Some x →
      (is_ambiguous graph (node_of x).links ≡ false) × (is_over_limit graph (node_of x) ≡ false)
  rules_kept j x at =
      unbroken code.Duplicate code.UnknownReference code.AmbiguousTag code.Limit (list_any (bytes_eq x.msg_type) (take (0 + j) ids.msg_types)) (list_any (is_unknown ids) (references_of x))
      (is_ambiguous graph (node_of x).links) (is_over_limit graph (node_of x))
      (passed_each (codes "messages") (message_rules (length m.components) ids graph) 0 j m.messages x groups_kept.1 at)

  -- no message has a tag twice
  pub message_clear : (j : ℕ) (x : MessageEl) → slice_get m.messages j ≡ Some x → is_ambiguous graph (node_of x).links ≡ false
  message_clear j x at = (rules_kept j x at).0

  whole_node : (i : ℕ) (x : MessageEl) → i < length graph → slice_get graph i ≡ Some (node_of x) → is_over_limit graph (node_of x) ≡ false → IsWhole graph i
  whole_node i x lt at short =
      record {
        within = lt;
        ends = ap (λ o. is_endless graph (links_in o)) at ∙ node_ends x;
        short = λ node there. ap (is_over_limit graph) (same_Some node (node_of x) (sym there ∙ at)) ∙ short;
      }

  pub kept_whole : HasWhole m.fields (linked_of m)
  kept_whole i from lt =
      let fit : length m.messages ≤ length graph = messages_fit (length m.components) ids (linked_of m) refl in
      let j : ℕ = i - (length graph - length m.messages) in
      let near : i - (length graph - length m.messages) < length m.messages = omega arith in
      let there : (x : MessageEl) × (slice_get m.messages (i - (length graph - length m.messages)) ≡ Some x) = standing m.messages (i - (length graph - length m.messages)) near in
      let e : i ≡ length graph - length m.messages + (i - (length graph - length m.messages)) = omega arith in
      whole_node i there.0 lt (ap (slice_get graph) e
      ∙ message_at (length m.components) ids (linked_of m) refl (i - (length graph - length m.messages)) there.0 there.1)
      (rules_kept (i - (length graph - length m.messages)) there.0 there.1).1

-- ---- the structures of messages, by their nodes

pub by_nodes : (graph : List Node) (node : MessageEl → Node) (k : ℕ) (ms : List MessageEl) → ((j : ℕ) (x : MessageEl) → slice_get ms j ≡ Some x →
    slice_get graph (k + j) ≡ Some (node x)) →
    structures_from graph k (map (λ (x : MessageEl). x.msg_type) ms) ≡ map (λ (x : MessageEl). (x.msg_type, structure_of graph (node x).links)) ms
by_nodes graph node k [] each = refl
by_nodes graph node k (x ∷ xs) each =
    let e : k ≡ k + 0 = omega arith in
    let here : structure_of graph (links_at graph k) ≡ structure_of graph (node x).links = ap (λ o. structure_of graph (links_in o)) (ap (slice_get graph) e ∙ each 0 x refl) in
    let after : structures_from graph (suc k) (map (λ (y : MessageEl). y.msg_type) xs) ≡ map (λ (y : MessageEl). (y.msg_type, structure_of graph (node y).links)) xs =
    by_nodes graph node (suc k) xs (λ j y at. let next : suc k + j ≡ k + suc j = omega arith in ap (slice_get graph) next ∙ each (suc j) y at) in
    λ j. (x.msg_type, here j) ∷ after j
