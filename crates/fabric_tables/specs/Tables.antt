-- The linear forwarding tables that the switches of a fabric hold (IBA volume 1, chapter 14), as lines.
use Rattle.std.specs.Prelude.{ℕ, ◌==◌, nat_le, Bool, if◌then◌else◌, is_some, List, [], ◌∷◌, ◌++◌, codes, decimal, filter, find, flat_map, length, Option, Some, None}
use Rattle.std.specs.Int.{w16, to_be_bytes}
use Rattle.std.specs.Option.{option_and_then, option_map_or}
use Rattle.fabric_parts.specs.NodeType.{is_switch_type}
use Rattle.fabric_parts.specs.declared.node_type.NodeType.{NodeType}
use Rattle.text_words.specs.Parts.{guid_text, hex_text}
use Rattle.fabric_tables.specs.Nodes.{node_of}
use Rattle.fabric_tables.specs.Digits.{short_hex_text, three_digits}
use Rattle.smp_wire.specs.FabricState.{FabricState}
use Rattle.smp_wire.specs.declared.node.Node.{Node}
use Rattle.smp_wire.specs.declared.node.Node.TheVariants.{Switch, Adapter}
use Rattle.subnet_model.specs.declared.subnet_port.SubnetPort.{SubnetPort}
use Rattle.sweep.specs.declared.graph.GraphSwitch.{GraphSwitch}
use Rattle.switch_model.specs.Forwarding.{linear_entry_of}
use Rattle.switch_model.specs.SwitchState.{SwitchState, num_ports}
use Rattle.topo_file.specs.declared.node.Node.{Node as PlannedNode}

-- ---- entries
-- the entry for a LID that counts, if it is a port of the switch; port 0 is the switch itself
abbrev pub port_towards : SwitchState → ℕ → Option ℕ
port_towards held lid =
    option_and_then (λ entry. if nat_le entry (num_ports held) then Some entry else None) (linear_entry_of held lid)

abbrev pub type_text : NodeType → List ℕ
type_text node_type = if is_switch_type node_type then codes "Switch" else codes "Channel Adapter"

-- `(TYPE portguid GUID: 'NAME')`
unfoldable pub port_text : SubnetPort → List ℕ
port_text port =
    codes "(" ++ type_text port.node_type ++ codes " portguid " ++ guid_text port.guid
    ++ codes ": '" ++ port.node_name ++ codes "')"

-- `LID PORT : ` and that
abbrev pub entry_line : SubnetPort → ℕ → List ℕ
entry_line port entry =
    hex_text (to_be_bytes w16 port.lid) ++ codes " " ++ three_digits entry ++ codes " : " ++ port_text port ++ 10 ∷ []

-- that of an end port which the table leads to
abbrev pub line_towards : SwitchState → SubnetPort → List ℕ
line_towards held port = option_map_or (entry_line port) (port_towards held port.lid) []

abbrev pub is_led_to : SwitchState → SubnetPort → Bool
is_led_to held port = is_some (port_towards held port.lid)

-- ---- tables
-- the path by which a sweep found the switch of that GUID, behind the 0 of the subnet manager's own port
abbrev pub path_to : List GraphSwitch → ℕ → List ℕ
path_to switches guid = option_map_or (λ switch. switch.path) (find (λ switch. switch.guid == guid) switches) []

abbrev pub hop_text : ℕ → List ℕ
hop_text number = codes "," ++ decimal number

-- the LIDs that count, which end at LinearFDBTop
abbrev pub range_text : SwitchState → List ℕ
range_text held = codes "[0x0-" ++ short_hex_text held.info.linear_fdb_top ++ codes "]"

abbrev pub route_text : List ℕ → List ℕ
route_text path = codes " of switch DR path slid 0; dlid 0; 0" ++ flat_map hop_text path

abbrev pub switch_text : SubnetPort → List ℕ
switch_text switch = codes " guid " ++ guid_text switch.guid ++ codes " (" ++ switch.node_name ++ codes "):"

unfoldable pub head_line : List ℕ → SubnetPort → SwitchState → List ℕ
head_line path switch held = codes "Unicast lids " ++ range_text held ++ route_text path ++ switch_text switch ++ 10 ∷ []

-- some lines of the form end in blanks
unfoldable pub titles : List ℕ
titles = codes "  Lid  Out   Destination" ++ 10 ∷ codes "       Port     Info " ++ 10 ∷ []

unfoldable pub count_line : ℕ → List ℕ
count_line count = decimal count ++ codes " valid lids dumped " ++ 10 ∷ []

abbrev pub table_text : List GraphSwitch → List SubnetPort → SubnetPort → SwitchState → List ℕ
table_text switches ports switch held =
    head_line (path_to switches switch.guid) switch held ++ titles
    ++ flat_map (line_towards held) ports ++ count_line (length (filter (is_led_to held) ports))

-- ---- of all switches
abbrev pub table_of : List GraphSwitch → List SubnetPort → SubnetPort → Node → List ℕ
table_of switches ports port (Switch held) = table_text switches ports port held
table_of switches ports port (Adapter held) = []

abbrev pub port_table : List PlannedNode → FabricState → List GraphSwitch → List SubnetPort → SubnetPort → List ℕ
port_table nodes fabric switches ports port =
    option_map_or (λ found. table_of switches ports port found.1) (node_of nodes fabric port) []

-- end ports stand in the order of their LIDs
abbrev pub linear_tables : List PlannedNode → List SubnetPort → List GraphSwitch → FabricState → List ℕ
linear_tables nodes ports switches fabric = flat_map (port_table nodes fabric switches ports) ports
