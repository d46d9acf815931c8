-- The P_Key tables that the ports of a fabric hold (IBA volume 1, 14.2.5.7), as lines.
use Rattle.std.specs.Prelude.{ℕ, ◌==◌, Bool, false, not, if◌then◌else◌, List, [], ◌∷◌, ◌++◌, codes, flat_map, slice_get}
use Rattle.std.specs.List.{range_with_len}
use Rattle.std.specs.Option.{option_map_or}
use Rattle.std.specs.Int.{w16, to_be_bytes}
use Rattle.fabric_parts.specs.Cable.{far_end}
use Rattle.fabric_parts.specs.declared.cable.PortRef.{PortRef}
use Rattle.fabric_tables.specs.Nodes.{node_of}
use Rattle.text_words.specs.Parts.{hex_text, port_name}
use Rattle.pkey_rules.specs.PKey.{base_of}
use Rattle.smp_wire.specs.FabricState.{FabricState, adapter_port, is_switch_at}
use Rattle.smp_wire.specs.declared.node.Node.{Node}
use Rattle.smp_wire.specs.declared.node.Node.TheVariants.{Switch, Adapter}
use Rattle.subnet_model.specs.declared.subnet_port.SubnetPort.{SubnetPort}
use Rattle.switch_model.specs.SwitchState.{SwitchState, num_ports}
use Rattle.topo_file.specs.declared.node.Node.{Node as PlannedNode}

-- ---- what a port holds
-- the words of the P_Key table of a port of a node; none if it has no such port
abbrev pub words_in : Node → ℕ → List ℕ
words_in (Switch held) number = option_map_or (λ port. port.keys) (slice_get held.ports number) []
words_in (Adapter ports) number = option_map_or (λ port. port.keys) (adapter_port ports number) []

-- ---- its line
-- a key; an empty place of the table says nothing
abbrev pub key_text : ℕ → List ℕ
key_text word = if base_of word == 0 then [] else codes " " ++ hex_text (to_be_bytes w16 word)

-- `keys PORT KEY ..`, with the keys in the order of the table
abbrev pub keys_line : List ℕ → ℕ → List ℕ → List ℕ
keys_line name number words =
    codes "keys " ++ port_name name number ++ flat_map key_text words ++ 10 ∷ []

-- ---- all lines
-- the cable of the port leads to a channel adapter
abbrev pub faces_adapter : FabricState → PortRef → Bool
faces_adapter fabric at = option_map_or (λ there. not (is_switch_at fabric.nodes there.node)) (far_end fabric.cables at) false

-- of a port of a switch, if it does
abbrev pub facing_line : FabricState → SwitchState → List ℕ → ℕ → ℕ → List ℕ
facing_line fabric held name place number =
    if faces_adapter fabric (record { node = place; port = number }) then keys_line name number (words_in (Switch held) number) else []

-- of the ports of a switch that face channel adapters, by number; a channel adapter's ports face switches alone
abbrev pub facing_lines : FabricState → List ℕ → ℕ → Node → List ℕ
facing_lines fabric name place (Switch held) = flat_map (facing_line fabric held name place) (range_with_len 1 (num_ports held))
facing_lines fabric name place (Adapter ports) = []

-- an end port's own line, and behind that of a switch those of its ports that face channel adapters
abbrev pub lines_of : FabricState → SubnetPort → ℕ → Node → List ℕ
lines_of fabric port place node =
    keys_line port.node_name port.number (words_in node port.number) ++ facing_lines fabric port.node_name place node

abbrev pub port_lines : List PlannedNode → FabricState → SubnetPort → List ℕ
port_lines nodes fabric port = option_map_or (λ found. lines_of fabric port found.0 found.1) (node_of nodes fabric port) []

abbrev pub keys_text : List PlannedNode → List SubnetPort → FabricState → List ℕ
keys_text nodes ports fabric = flat_map (port_lines nodes fabric) ports
