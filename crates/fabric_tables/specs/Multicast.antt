-- The multicast forwarding tables that the switches of a fabric hold (IBA volume 1, chapter 14), as lines, and all tables.
use Rattle.std.specs.Prelude.{ℕ, ◌+◌, ◌-◌, ◌/◌, ◌%◌, ◌==◌, nat_lt, Bool, if◌then◌else◌, List, [], ◌∷◌, ◌++◌, codes, decimal, filter, flat_map, length}
use Rattle.std.specs.Int.{w16, to_be_bytes}
use Rattle.std.specs.List.{list_any, range_with_len}
use Rattle.std.specs.Option.{option_map_or}
use Rattle.agent_rules.specs.declared.power_up.TheConstants.{MULTICAST_TABLE}
use Rattle.fabric_parts.specs.declared.lid.TheConstants.{FIRST_MULTICAST_LID}
use Rattle.text_words.specs.Parts.{hex_text}
use Rattle.fabric_tables.specs.Nodes.{node_of}
use Rattle.fabric_tables.specs.Tables.{linear_tables, path_to, route_text, switch_text}
use Rattle.smp_wire.specs.FabricState.{FabricState}
use Rattle.smp_wire.specs.declared.node.Node.{Node}
use Rattle.smp_wire.specs.declared.node.Node.TheVariants.{Switch, Adapter}
use Rattle.subnet_model.specs.declared.subnet_port.SubnetPort.{SubnetPort}
use Rattle.sweep.specs.declared.graph.GraphSwitch.{GraphSwitch}
use Rattle.switch_model.specs.Multicast.{is_in_masks}
use Rattle.switch_model.specs.SwitchState.{SwitchState, num_ports}
use Rattle.topo_file.specs.declared.node.Node.{Node as PlannedNode}

-- ---- titles, with a column for each port
-- the numbers of the ports of a switch, from port 0 on
unfoldable pub columns : SwitchState → List ℕ
columns held = range_with_len 0 (num_ports held + 1)

-- the digit of the tens, if that of the ones is 0
abbrev pub tens_mark : ℕ → List ℕ
tens_mark number = (if number % 10 == 0 then 48 + number / 10 else 32) ∷ 32 ∷ []

abbrev pub ones_mark : ℕ → List ℕ
ones_mark number = (48 + number % 10) ∷ 32 ∷ []

-- if port numbers have two digits
unfoldable pub tens_line : SwitchState → List ℕ
tens_line held =
    if nat_lt 9 (num_ports held) then codes "            " ++ flat_map tens_mark (columns held) ++ 10 ∷ [] else []

unfoldable pub ones_line : SwitchState → List ℕ
ones_line held = codes "     Ports: " ++ flat_map ones_mark (columns held) ++ 10 ∷ []

unfoldable pub titles : SwitchState → List ℕ
titles held = tens_line held ++ ones_line held ++ codes " MLid" ++ 10 ∷ []

-- ---- lines
-- a cross for a port whose bit is set
abbrev pub mark : SwitchState → ℕ → ℕ → List ℕ
mark held mlid number = if is_in_masks held.masks mlid number then codes "x " else codes "  "

abbrev pub mlid_line : SwitchState → ℕ → List ℕ
mlid_line held mlid =
    hex_text (to_be_bytes w16 mlid) ++ codes "      " ++ flat_map (mark held mlid) (columns held) ++ 10 ∷ []

-- ---- tables
-- the bit of a port of the switch is set
abbrev pub is_used : SwitchState → ℕ → Bool
is_used held mlid = list_any (is_in_masks held.masks mlid) (columns held)

-- the multicast LIDs of a table that have a line
unfoldable pub used : SwitchState → List ℕ
used held = filter (is_used held) (range_with_len FIRST_MULTICAST_LID MULTICAST_TABLE)

-- the first and the last multicast LID of a table, whether they have lines or not
unfoldable pub range_text : List ℕ
range_text =
    codes "Multicast mlids [" ++ hex_text (to_be_bytes w16 FIRST_MULTICAST_LID)
    ++ codes "-" ++ hex_text (to_be_bytes w16 (FIRST_MULTICAST_LID + MULTICAST_TABLE - 1)) ++ codes "]"

unfoldable pub head_line : List ℕ → SubnetPort → List ℕ
head_line path switch = range_text ++ route_text path ++ switch_text switch ++ 10 ∷ []

unfoldable pub count_line : ℕ → List ℕ
count_line count = decimal count ++ codes " valid mlids dumped " ++ 10 ∷ []

-- nothing if no bit of a port is set
abbrev pub table_text : List ℕ → SubnetPort → SwitchState → List ℕ
table_text path switch held =
    if length (used held) == 0 then []
    else head_line path switch ++ titles held ++ flat_map (mlid_line held) (used held) ++ count_line (length (used held))

-- ---- of all switches
abbrev pub table_of : List GraphSwitch → SubnetPort → Node → List ℕ
table_of switches port (Switch held) = table_text (path_to switches port.guid) port held
table_of switches port (Adapter ports) = []

abbrev pub port_table : List PlannedNode → FabricState → List GraphSwitch → SubnetPort → List ℕ
port_table nodes fabric switches port = option_map_or (λ found. table_of switches port found.1) (node_of nodes fabric port) []

-- end ports stand in the order of their LIDs
abbrev pub multicast_tables : List PlannedNode → List SubnetPort → List GraphSwitch → FabricState → List ℕ
multicast_tables nodes ports switches fabric = flat_map (port_table nodes fabric switches) ports

-- ---- the linear and the multicast forwarding tables
abbrev pub tables_text : List PlannedNode → List SubnetPort → List GraphSwitch → FabricState → List ℕ
tables_text nodes ports switches fabric = linear_tables nodes ports switches fabric ++ multicast_tables nodes ports switches fabric
