-- The lists of a picture: channel adapters of one port that are attached to one switch and are in the same partitions stand in one node
-- of it, a line for each.
use Rattle.std.specs.Prelude.{ℕ, ◌==◌, ◌&&◌, ◌||◌, Bool, false, not, nat_le, count_by, filter, find}
use Rattle.std.specs.Prelude.{if◌then◌else◌, length, map, slice_get}
use Rattle.std.specs.Prelude.{List, [], ◌∷◌, ◌++◌, codes, decimal, flat_map, Option, Some, None, is_some, option_map}
use Rattle.std.specs.Int.{w16, to_be_bytes}
use Rattle.std.specs.List.{list_any, range_with_len}
use Rattle.std.specs.Str.{bytes_eq}
use Rattle.std.specs.Option.{option_and_then, option_map_or}
use Rattle.fabric_graph.specs.Nodes.{is_manager, node_line}
use Rattle.fabric_graph.specs.Partitions.{fill, is_of, partitions_of}
use Rattle.fabric_parts.specs.Cable.{far_end, port}
use Rattle.fabric_parts.specs.declared.cable.Cable.{Cable}
use Rattle.fabric_parts.specs.declared.cable.PortRef.{PortRef}
use Rattle.text_words.specs.Parts.{hex_text, quoted}
use Rattle.subnet_model.specs.Configuration.{ConfigurationState}
use Rattle.subnet_model.specs.declared.subnet_port.SubnetPort.{SubnetPort}
use Rattle.topo_file.specs.Node.{is_switch, name_at}
use Rattle.topo_file.specs.Topology.{TopologyState}
use Rattle.topo_file.specs.declared.node.Node.{Node}

-- ---- where the adapters of lists are attached
-- the switch, by its place among the nodes, and the port there; and the partitions of the adapter
pub record AttachmentState : Type 0 where
  pub switch : ℕ
  pub port : ℕ
  pub partitions : List ℕ

-- an adapter of one port, on which the subnet manager does not run
abbrev pub may_be_listed : TopologyState → Node → Bool
may_be_listed plan node = not (is_switch node) && ((node.ports == 1) && not (is_manager plan node))

abbrev pub attachment_behind : ConfigurationState → Node → PortRef → AttachmentState
attachment_behind subnet node far = record { switch = far.node; port = far.port; partitions = partitions_of subnet node }

abbrev pub attachment_of : TopologyState → ConfigurationState → ℕ → Node → Option AttachmentState
attachment_of plan subnet place node =
    if may_be_listed plan node then option_map (attachment_behind subnet node) (far_end plan.cables (port place 1)) else None

-- of the node there, if it may stand in a list
abbrev pub attachment_at : TopologyState → ConfigurationState → ℕ → Option AttachmentState
attachment_at plan subnet place = option_and_then (attachment_of plan subnet place) (slice_get plan.nodes place)

-- by the places of nodes
abbrev pub attachments_of : TopologyState → ConfigurationState → List (Option AttachmentState)
attachments_of plan subnet = map (attachment_at plan subnet) (range_with_len 0 (length plan.nodes))

-- ---- which adapters stand in one list
abbrev pub attachment_in : List (Option AttachmentState) → ℕ → Option AttachmentState
attachment_in attachments place = option_and_then (λ attachment. attachment) (slice_get attachments place)

-- the attachment is at this switch, and of these partitions
abbrev pub is_alike : ℕ → List ℕ → AttachmentState → Bool
is_alike switch partitions attachment = (attachment.switch == switch) && bytes_eq attachment.partitions partitions

abbrev pub is_beside : List (Option AttachmentState) → (switch : ℕ) → (partitions : List ℕ) → ℕ → Bool
is_beside attachments switch partitions place = option_map_or (is_alike switch partitions) (attachment_in attachments place) false

abbrev pub places : List (Option AttachmentState) → List ℕ
places attachments = range_with_len 0 (length attachments)

-- the places of all that are attached there and are in these partitions
unfoldable pub members : List (Option AttachmentState) → AttachmentState → List ℕ
members attachments attachment = filter (is_beside attachments attachment.switch attachment.partitions) (places attachments)

-- four of them or more make a list; fewer are drawn one by one
unfoldable pub make_list : List (Option AttachmentState) → AttachmentState → Bool
make_list attachments attachment = nat_le 4 (count_by (is_beside attachments attachment.switch attachment.partitions) (places attachments))

abbrev pub if_listed : List (Option AttachmentState) → AttachmentState → Option AttachmentState
if_listed attachments attachment = if make_list attachments attachment then Some attachment else None

-- the attachment of the node there, if it stands in a list
abbrev pub listed_attachment : List (Option AttachmentState) → ℕ → Option AttachmentState
listed_attachment attachments place = option_and_then (if_listed attachments) (attachment_in attachments place)

abbrev pub is_listed : List (Option AttachmentState) → ℕ → Bool
is_listed attachments place = is_some (listed_attachment attachments place)

-- the list is drawn where its first adapter stands
unfoldable pub is_first : List (Option AttachmentState) → AttachmentState → ℕ → Bool
is_first attachments attachment place =
    option_map_or (λ first. first == place) (find (is_beside attachments attachment.switch attachment.partitions) (places attachments)) false

abbrev pub drawn_by : List (Option AttachmentState) → ℕ → Option AttachmentState → List ℕ
drawn_by attachments place None = place ∷ []
drawn_by attachments place (Some attachment) = if is_first attachments attachment place then members attachments attachment else []

-- the nodes that are drawn where this one stands: itself, or all of the list of which it is the first
abbrev pub drawn_at : List (Option AttachmentState) → ℕ → List ℕ
drawn_at attachments place = drawn_by attachments place (listed_attachment attachments place)

-- ---- the text of a list
abbrev pub lid_word_of : Node → SubnetPort → List ℕ
lid_word_of node port = if is_of node port then codes " " ++ hex_text (to_be_bytes w16 port.lid) else []

-- the port of the switch, the adapter and its LID, as `3 h12 0x0010`; `\l` ends a line that stands at the left
unfoldable pub row : ConfigurationState → AttachmentState → Node → List ℕ
row subnet attachment node = decimal attachment.port ++ codes " " ++ node.name ++ flat_map (lid_word_of node) subnet.ports ++ codes "\\l"

abbrev pub attached_row : TopologyState → ConfigurationState → ℕ → AttachmentState → List ℕ
attached_row plan subnet place attachment = option_map_or (row subnet attachment) (slice_get plan.nodes place) []

abbrev pub row_at : TopologyState → ConfigurationState → List (Option AttachmentState) → ℕ → List ℕ
row_at plan subnet attachments place = option_map_or (attached_row plan subnet place) (attachment_in attachments place) []

-- a list of one colour is filled with it, and one of several has stripes
abbrev pub list_style : List ℕ → List ℕ
list_style (first ∷ second ∷ more) = codes "striped"
list_style _ = codes "filled"

-- how a list looks, and what stands over its lines
unfoldable pub list_head : List ℕ
list_head = codes " [shape=box, fontsize=9, margin=0.05, label=\"port adapter LID\\l"

abbrev pub list_label : TopologyState → ConfigurationState → List (Option AttachmentState) → List ℕ → List ℕ
list_label plan subnet attachments shown = list_head ++ flat_map (row_at plan subnet attachments) shown ++ 34 ∷ []

abbrev pub list_fill : List ℕ → List ℕ
list_fill numbers = fill (list_style numbers) numbers

unfoldable pub list_node : TopologyState → ConfigurationState → List (Option AttachmentState) → AttachmentState → List ℕ → List ℕ
list_node plan subnet attachments attachment shown =
    list_label plan subnet attachments shown ++ list_fill attachment.partitions ++ codes "];\n"

-- the node and its edge to the switch, which stands for the cables of all its lines; the node has the name of its first adapter
unfoldable pub list_text : TopologyState → ConfigurationState → List (Option AttachmentState) → ℕ → List ℕ → AttachmentState → List ℕ
list_text plan subnet attachments place shown attachment =
    codes "  " ++ quoted (name_at plan.nodes place) ++ list_node plan subnet attachments attachment shown
    ++ codes "  " ++ quoted (name_at plan.nodes attachment.switch) ++ codes " -- " ++ quoted (name_at plan.nodes place) ++ codes ";\n"

abbrev pub list_at : TopologyState → ConfigurationState → List (Option AttachmentState) → ℕ → List ℕ → List ℕ
list_at plan subnet attachments place shown = option_map_or (list_text plan subnet attachments place shown) (attachment_in attachments place) []

abbrev pub node_at : TopologyState → ConfigurationState → ℕ → List ℕ
node_at plan subnet place = option_map_or (node_line plan subnet) (slice_get plan.nodes place) []

-- one node is drawn by itself, and several as a list
abbrev pub drawn_text : TopologyState → ConfigurationState → List (Option AttachmentState) → List ℕ → List ℕ
drawn_text plan subnet attachments [] = []
drawn_text plan subnet attachments (place ∷ []) = node_at plan subnet place
drawn_text plan subnet attachments (place ∷ second ∷ more) = list_at plan subnet attachments place (place ∷ second ∷ more)

abbrev pub place_text : TopologyState → ConfigurationState → List (Option AttachmentState) → ℕ → List ℕ
place_text plan subnet attachments place = drawn_text plan subnet attachments (drawn_at attachments place)

-- ---- the cables that lists show, and how far apart nodes stand then
abbrev pub is_in_list : List (Option AttachmentState) → Cable → Bool
is_in_list attachments cable = is_listed attachments cable.first.node || is_listed attachments cable.second.node

abbrev pub has_lists : List (Option AttachmentState) → Bool
has_lists attachments = list_any (is_listed attachments) (places attachments)

-- many switches stand in a row then: closer to one another, and further from the next row, so that cables can be distinguished
abbrev pub spacing : List (Option AttachmentState) → List ℕ
spacing attachments = if has_lists attachments then codes "  nodesep=0.1;\n  ranksep=2;\n" else []
