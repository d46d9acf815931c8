-- The nodes of a topology in DOT: switches as boxes, channel adapters as ellipses.
use Rattle.std.specs.Prelude.{ℕ, ◌==◌, Bool, false, if◌then◌else◌, List, [], ◌∷◌, ◌++◌, codes, decimal, flat_map}
use Rattle.std.specs.Prelude.{slice_get}
use Rattle.std.specs.Int.{w16, to_be_bytes}
use Rattle.std.specs.Option.{option_map_or}
use Rattle.fabric_graph.specs.Partitions.{fill_of, is_of}
use Rattle.text_words.specs.Parts.{guid_text, hex_text, quoted}
use Rattle.subnet_model.specs.Configuration.{ConfigurationState}
use Rattle.subnet_model.specs.declared.subnet_port.SubnetPort.{SubnetPort}
use Rattle.topo_file.specs.Node.{is_switch}
use Rattle.topo_file.specs.Topology.{TopologyState}
use Rattle.topo_file.specs.declared.node.Node.{Node}

-- the subnet manager runs on a port of the node
abbrev pub is_manager : TopologyState → Node → Bool
is_manager plan node = option_map_or (λ manager. manager.guid == node.guid) (slice_get plan.nodes plan.sm.node) false

-- ---- its label, in which `\n` breaks the line
-- the number of a port; that of a switch is the switch itself
abbrev pub port_words : ℕ → List ℕ
port_words number = if number == 0 then [] else codes "port " ++ decimal number ++ codes " "

abbrev pub lid_line : SubnetPort → List ℕ
lid_line port = codes "\\n" ++ port_words port.number ++ codes "LID " ++ hex_text (to_be_bytes w16 port.lid)

-- of an end port, if it is one of the node
abbrev pub lid_line_of : Node → SubnetPort → List ℕ
lid_line_of node port = if is_of node port then lid_line port else []

abbrev pub manager_line : TopologyState → Node → List ℕ
manager_line plan node = if is_manager plan node then codes "\\nsubnet manager" else []

-- the name, the LIDs of its ports, and whether the subnet manager runs there
unfoldable pub label : TopologyState → ConfigurationState → Node → List ℕ
label plan subnet node =
    codes ", label=\"" ++ node.name ++ flat_map (lid_line_of node) subnet.ports ++ manager_line plan node ++ codes "\""

-- what is shown of a switch if one points at it: its GUID, which would make each box twice as wide
unfoldable pub guid_words : ℕ → List ℕ
guid_words guid = codes ", tooltip=\"" ++ guid_text guid ++ 34 ∷ []

abbrev pub tooltip : Node → List ℕ
tooltip node = if is_switch node then guid_words node.guid else []

-- ---- its line
abbrev pub shape : Node → List ℕ
shape node = if is_switch node then codes "box" else codes "ellipse"

-- a second line around the subnet manager's node
abbrev pub mark : TopologyState → Node → List ℕ
mark plan node = if is_manager plan node then codes ", peripheries=2" else []

unfoldable pub attributes : TopologyState → ConfigurationState → Node → List ℕ
attributes plan subnet node =
    codes "shape=" ++ shape node ++ label plan subnet node ++ tooltip node ++ mark plan node ++ fill_of subnet node

-- as `"h1" [shape=ellipse, label="h1\nport 1 LID 0x0004", style=filled, fillcolor="/set312/1"];`
-- the ID of a node is its name: 1 to 32 letters, digits, `_`, `-` and `.`, so that nothing in it ends the quotes or needs to be
-- escaped
abbrev pub node_line : TopologyState → ConfigurationState → Node → List ℕ
node_line plan subnet node = codes "  " ++ quoted node.name ++ codes " [" ++ attributes plan subnet node ++ codes "];\n"
