-- The structure of each message of a mapping, by the components and groups that it refers to. From FIX Orchestra,
-- message structures.
use Rattle.std.specs.Prelude.{ℕ, List, length, map}
use Rattle.reference_graph.specs.Expansion.{Structure, structure_of}
use Rattle.map_types.specs.Trees.{Members}
use Rattle.map_types.specs.declared.tree.MessageEl.{MessageEl}
use Rattle.map_links.specs.Links.{linked_of, ids_of, message_node}
use Rattle.orchestra_map.specs.Headers.{graph_of}

-- the places of a message in order: fields by their tags, and groups by the tags of their counts with the places of
-- their entries
abbrev pub message_structure : Members → MessageEl → Structure
message_structure m message = structure_of (graph_of m.fields (linked_of m)) (message_node (length m.components) (ids_of m.fields (linked_of m)) message).links

-- the structure of each message by its MsgType, in the order of the messages
abbrev pub message_structures : Members → List (List ℕ × Structure)
message_structures m = map (λ (message : MessageEl). (message.msg_type, message_structure m message)) m.messages
