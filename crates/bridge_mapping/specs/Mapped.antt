-- What the bridge takes of the members of a mapping file.
use Rattle.std.specs.Prelude.{ℕ, List, map, length}
use Rattle.tagvalue_codec.specs.declared.data_tags.Pair.{Pair}
use Rattle.reference_graph.specs.Structures.{tags_of}
use Rattle.reference_graph.specs.Expansion.{Structure, structure_of}
use Rattle.map_types.specs.Trees.{Members}
use Rattle.map_types.specs.declared.tree.FieldEl.{FieldEl}
use Rattle.map_types.specs.declared.tree.MessageEl.{MessageEl}
use Rattle.map_links.specs.Links.{Linked, linked_of, ids_of, message_node}
use Rattle.orchestra_map.specs.DataFields.{pairs_of}
use Rattle.orchestra_map.specs.Headers.{graph_of, header_links}
use Rattle.orchestra_map.specs.Structures.{message_structures}
use Rattle.field_types.specs.FieldTypes.{datatypes_of}
use Rattle.bridge_terms.specs.Parts.{TagLists}
use Rattle.bridge_plan.specs.Mappings.{Mapping}

-- the tags of a length field and of its data field
abbrev pub tags_in : Pair → ℕ × ℕ
tags_in pair = (pair.length_tag, pair.tag)

-- the tags of the header, and of length fields with their data fields
abbrev pub tag_lists_of : Members → TagLists
tag_lists_of m = record { header = tags_of (graph_of m.fields (linked_of m)) (header_links m.components); lengths = map tags_in (pairs_of m) }

-- the mapping of these members
abbrev pub mapping_of : Members → Mapping
mapping_of m = record { lists = tag_lists_of m; datatypes = datatypes_of m.code_sets m.fields; messages = message_structures m }

-- the structure of each message among these members, by its MsgType
abbrev pub structures_of : List FieldEl → Linked → List (List ℕ × Structure)
structures_of fields m =
    map (λ (message : MessageEl). (message.msg_type, structure_of (graph_of fields m) (message_node (length m.components) (ids_of fields m) message).links)) m.messages
