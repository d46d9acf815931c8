-- The text of the topology.
use Rattle.std.specs.Prelude.{ℕ, ◌+◌, ◌-◌, ◌^◌, ◌==◌, nat_lt, List, [], ◌∷◌, ◌++◌, codes, decimal, flat_map, length, position, slice_get, Option, if◌then◌else◌}
use Rattle.std.specs.List.{range_with_len}
use Rattle.std.specs.Option.{option_and_then, option_map_or}
use Rattle.text_words.specs.Parts.{guid_text, port_name, quoted}
use Rattle.fabric_parts.specs.NodeType.{is_switch_type}
use Rattle.netdiscover_file.specs.declared.node.Node.{Node}
use Rattle.netdiscover_file.specs.declared.port.PortLine.{PortLine}
use Rattle.netdiscover_file.specs.Discovery.{DiscoveryState}
use Rattle.topology_import.specs.declared.cables.End.{End}
use Rattle.topology_import.specs.declared.cables.CableMeant.{CableMeant}
use Rattle.topology_import.specs.declared.planned.Planned.{Planned}
use Rattle.topology_import.specs.Cables.{adapter_end, cables_meant}
use Rattle.topology_import.specs.Ends.{end_with, ends, is_router}
use Rattle.topology_import.specs.Names.{name_at, named}
use Rattle.topology_import.specs.Nodes.{nodes_meant}
use Rattle.topology_import.specs.Sizes.{size_lines}

-- ---- a LID, if there is one
abbrev pub lid_text : Option ℕ → List ℕ
lid_text lid = option_map_or (λ number. codes " lid " ++ decimal number) lid []

-- ---- the first line: by what it was made, and where the discovery was
abbrev pub from_text : Option ℕ → List ℕ
from_text initiator = option_map_or (λ guid. codes " at port " ++ guid_text guid) initiator []

abbrev pub title : List ℕ
title = codes "# fabric import, from ibnetdiscover"

abbrev pub heading : Option ℕ → List ℕ
heading initiator = title ++ from_text initiator ++ 10 ∷ []

-- ---- `switch NAME GUID PORTS # "NAME" lid N`
abbrev pub node_note : Node → List ℕ
node_note node = quoted node.name ++ lid_text node.lid

abbrev pub switch_note : List Node → ℕ → List ℕ
switch_note nodes place = option_map_or node_note (slice_get nodes place) []

-- ---- `adapter NAME GUID PORTS # "NAME" port N lid L; ..`, for each of its ports
abbrev pub line_note : List Node → PortLine → List ℕ
line_note nodes line = quoted (name_at nodes line.port.node) ++ codes " port " ++ decimal line.port.port ++ lid_text line.lid

abbrev pub port_note : List Node → List PortLine → ℕ → List ℕ
port_note nodes ends guid = option_map_or (line_note nodes) (end_with guid ends) []

-- of the port of this number, if that GUID has 64 bits
abbrev pub note_of : List Node → List PortLine → ℕ → ℕ → List ℕ
note_of nodes ends guid number = if nat_lt (guid + number) (2 ^ 64) then port_note nodes ends (guid + number) else []

-- ports count from 1
abbrev pub separator : ℕ → List ℕ
separator before = if before == 0 then [] else codes "; "

abbrev pub next_note : List Node → List PortLine → ℕ → ℕ → List ℕ
next_note nodes ends guid before = separator before ++ note_of nodes ends guid (before + 1)

abbrev pub adapter_note : List Node → List PortLine → ℕ → ℕ → List ℕ
adapter_note nodes ends guid ports = flat_map (next_note nodes ends guid) (range_with_len 0 ports)

abbrev pub type_text : Planned → List ℕ
type_text node = if is_switch_type node.node_type then codes "switch " else codes "adapter "

abbrev pub note : List Node → List PortLine → Planned → List ℕ
note nodes ends node = if is_switch_type node.node_type then switch_note nodes node.node else adapter_note nodes ends node.guid node.ports

abbrev pub node_line : List Node → List PortLine → Planned → List ℕ
node_line nodes ends node =
    type_text node ++ node.name ++ codes " " ++ guid_text node.guid ++ codes " " ++ decimal node.ports
    ++ codes " # " ++ note nodes ends node ++ 10 ∷ []

-- ---- `cable NAME/N NAME/N` and `sm NAME/N`
-- where the node of this GUID stands
abbrev pub place_with : ℕ → List Planned → Option ℕ
place_with guid nodes = position (λ node. guid == node.guid) nodes

abbrev pub name_with : ℕ → List Planned → List ℕ
name_with guid nodes = option_map_or (λ node. node.name) (option_and_then (λ place. slice_get nodes place) (place_with guid nodes)) []

abbrev pub end_text : List Planned → End → List ℕ
end_text nodes port = port_name (name_with port.guid nodes) port.port

abbrev pub cable_line : List Planned → CableMeant → List ℕ
cable_line nodes cable = codes "cable " ++ end_text nodes cable.first ++ codes " " ++ end_text nodes cable.second ++ 10 ∷ []

abbrev pub manager_line : List Planned → End → List ℕ
manager_line nodes port = codes "sm " ++ end_text nodes port ++ 10 ∷ []

-- ---- `# router "NAME" GUID is left out`
abbrev pub router_line : Node → List ℕ
router_line node =
    if is_router node.id.kind then codes "# router " ++ quoted node.name ++ codes " " ++ guid_text node.id.guid ++ codes " is left out" ++ 10 ∷ []
    else []

-- ---- all of it
abbrev pub planned_nodes : DiscoveryState → List Planned
planned_nodes discovery = named discovery.nodes [] (nodes_meant discovery)

unfoldable pub text_with : DiscoveryState → List PortLine → List Planned → List CableMeant → ℕ → List ℕ
text_with discovery ends nodes cables manager =
    heading discovery.initiator
    ++ flat_map (node_line discovery.nodes ends) nodes
    ++ flat_map (cable_line nodes) cables
    ++ manager_line nodes (adapter_end ends manager)
    ++ flat_map router_line discovery.nodes
    ++ size_lines nodes (length ends)

abbrev pub text_of : DiscoveryState → ℕ → List ℕ
text_of discovery manager = text_with discovery (ends discovery) (planned_nodes discovery) (cables_meant discovery) manager

-- ---- the line of the discovery from which a line of the text was made, both counted from 1; 0 if there is none
abbrev pub cable_source : List CableMeant → ℕ → ℕ
cable_source cables place = option_map_or (λ cable. cable.line) (slice_get cables place) 0

abbrev pub line_source : List Planned → List CableMeant → ℕ → ℕ
line_source nodes cables place = option_map_or (λ node. node.line) (slice_get nodes place) (cable_source cables (place - length nodes))

-- the nodes begin on the second line
abbrev pub source_of : List Planned → List CableMeant → ℕ → ℕ
source_of nodes cables line = if nat_lt line 2 then 0 else line_source nodes cables (line - 2)
