-- What is known of each end port: its table, the keys that the file gives it, and the switch port that faces it.
use Rattle.std.specs.Prelude.{ℕ, Bool, false, ◌==◌, ◌||◌, List, [], ◌∷◌, filter, flat_map, slice_get, if◌then◌else◌, Option, Some, None, option_map}
use Rattle.std.specs.List.{list_any}
use Rattle.std.specs.Option.{option_and_then, option_map_or}
use Rattle.fabric_parts.specs.Cable.{is_same_port}
use Rattle.fabric_parts.specs.declared.cable.PortRef.{PortRef}
use Rattle.netdiscover_file.specs.declared.ends.FarEnd.{FarEnd}
use Rattle.netdiscover_file.specs.declared.node.Node.{Node as FoundNode}
use Rattle.netdiscover_file.specs.declared.port.PortLine.{PortLine}
use Rattle.netdiscover_file.specs.Discovery.{DiscoveryState}
use Rattle.netdiscover_file.specs.Kind.{is_switch}
use Rattle.netdiscover_file.specs.Node.{place_of as place_of_node}
use Rattle.partition_file.specs.declared.partition.Partition.{Partition}
use Rattle.partition_file.specs.Members.{is_member, keys_in}
use Rattle.pkey_rules.specs.declared.end_port.EndPort.{EndPort}
use Rattle.pkey_rules.specs.KeyTable.{has_base}
use Rattle.pkeys_file.specs.declared.answer.Answer.{Answer}
use Rattle.pkeys_file.specs.declared.answer.NodeReply.{NodeReply}
use Rattle.pkeys_file.specs.declared.answer.Reply.{Reply}
use Rattle.pkeys_file.specs.declared.answer.Reply.TheVariants as replies
use Rattle.pkeys_file.specs.declared.query.QueryKind.{QueryKind}
use Rattle.pkeys_file.specs.declared.query.QueryKind.TheVariants.{Keys, NodeInfo, PortInfo}
use Rattle.pkeys_file.specs.Answers.{answer_to}
use Rattle.topo_file.specs.Topology.{TopologyState}
use Rattle.audit_ports.specs.declared.ends.End.{End}
use Rattle.audit_plan.specs.declared.ends.EndGuid.{EndGuid}
use Rattle.audit_ports.specs.declared.port.AuditedPort.{AuditedPort}
use Rattle.audit_ports.specs.declared.port.Enforcement.{Enforcement}
use Rattle.audit_ports.specs.declared.port.FacingPort.{FacingPort}
use Rattle.audit_ports.specs.declared.port.HeldKeys.{HeldKeys}
use Rattle.audit_ports.specs.declared.port.TrunkLack.{TrunkLack}
use Rattle.audit_ports.specs.Ends.{ends_of, index_of, named, switch_guid}
use Rattle.audit_ports.specs.Held.{held}
use Rattle.audit_ports.specs.OpenSm.{keys_by_opensm}

-- the files: ports of the topology by GUID, the SM port among them, the discovery, and the answers; and what ports between switches lack
pub record FilesState : Type 0 where
  pub index : List EndGuid
  pub manager : PortRef
  pub discovery : DiscoveryState
  pub answers : List Answer
  pub partitions : List Partition
  pub lacks : List TrunkLack

-- ---- answers, by LID and port
abbrev pub reply_to : List Answer → QueryKind → ℕ → ℕ → Option Reply
reply_to answers kind lid port = option_map (λ answer. answer.reply) (answer_to (record { kind = kind; lid = lid; port = port }) answers)

abbrev pub node_in : Option Reply → Option NodeReply
node_in (Some (replies.Node reply)) = Some reply
node_in _ = None

abbrev pub table_in : Option Reply → Option HeldKeys
table_in (Some (replies.Keys words)) = Some (held words)
table_in _ = None

abbrev pub enforcement_in : Option Reply → Option Enforcement
enforcement_in (Some (replies.Port inbound outbound)) = Some (record { inbound = inbound; outbound = outbound })
enforcement_in _ = None

-- ---- LIDs may move between the discovery and the queries: then another GUID answers
-- the GUID that a switch answers with is its node's, that of another port its own
abbrev pub moved_switch : ℕ → NodeReply → Option ℕ
moved_switch guid reply = if reply.guid == guid then None else Some reply.guid

abbrev pub moved_port : ℕ → NodeReply → Option ℕ
moved_port guid reply = if reply.port_guid == guid then None else Some reply.port_guid

abbrev pub moved_by : End → Option NodeReply → Option ℕ
moved_by end (Some reply) = if end.is_switch then moved_switch end.node_guid reply else moved_port end.guid reply
moved_by end None = None

abbrev pub node_at : List Answer → (lid : ℕ) → Option NodeReply
node_at answers lid = node_in (reply_to answers NodeInfo lid 0)

abbrev pub moved_to : List Answer → End → Option ℕ
moved_to answers end = moved_by end (node_at answers end.lid)

-- ---- the end itself answers at its LID. If nothing answers, nobody knows whose table was read there
abbrev pub is_own : End → NodeReply → Bool
is_own end reply = if end.is_switch then reply.guid == end.node_guid else reply.port_guid == end.guid

abbrev pub is_there : List Answer → End → Bool
is_there answers end = option_map_or (is_own end) (node_at answers end.lid) false

-- ---- the table of an end port, if it is there. Of an adapter the query may name no port
abbrev pub or_table : Option HeldKeys → Option HeldKeys → Option HeldKeys
or_table (Some table) other = Some table
or_table None other = other

abbrev pub table_at : List Answer → ℕ → ℕ → Option HeldKeys
table_at answers lid port = table_in (reply_to answers Keys lid port)

abbrev pub end_table : List Answer → End → Option HeldKeys
end_table answers end = or_table (table_at answers end.lid end.number) (table_at answers end.lid 0)

abbrev pub own_table : List Answer → End → Option HeldKeys
own_table answers end = if is_there answers end then end_table answers end else None

-- ---- the switch port that faces an adapter port, by the LID of its switch
abbrev pub facing_at : List Answer → PortRef → ℕ → FacingPort
facing_at answers port lid = record {
  port = port;
  enforcement = enforcement_in (reply_to answers PortInfo lid port.port);
  table = table_at answers lid port.port;
}

abbrev pub unread_port : PortRef → FacingPort
unread_port port = record { port = port; enforcement = None; table = None }

-- the LID of a switch, if the switch itself answers at it
abbrev pub lid_if_same : List Answer → FoundNode → ℕ → Option ℕ
lid_if_same answers node lid =
    option_map_or (λ reply. if reply.guid == node.id.guid then Some lid else None) (node_at answers lid) None

abbrev pub switch_lid : List Answer → FoundNode → Option ℕ
switch_lid answers node = option_and_then (lid_if_same answers node) node.lid

abbrev pub facing_by_lid : List Answer → PortRef → Option ℕ → FacingPort
facing_by_lid answers port (Some lid) = facing_at answers port lid
facing_by_lid answers port None = unread_port port

abbrev pub facing_on : List Answer → FoundNode → ℕ → PortRef → FacingPort
facing_on answers node number switch =
    facing_by_lid answers (record { node = switch.node; port = number }) (switch_lid answers node)

-- a node of the discovery, if it is a switch of the topology
abbrev pub facing_of_node : FilesState → ℕ → FoundNode → Option FacingPort
facing_of_node files number node =
    if is_switch node.id.kind then option_map (facing_on files.answers node number) (named (switch_guid node) files.index) else None

abbrev pub far_node : FilesState → FarEnd → Option FoundNode
far_node files far = option_and_then (λ place. slice_get files.discovery.nodes place) (place_of_node far.node.guid files.discovery.nodes)

abbrev pub facing_far : FilesState → FarEnd → Option FacingPort
facing_far files far = option_and_then (facing_of_node files far.port) (far_node files far)

abbrev pub facing_of : FilesState → End → Option FacingPort
facing_of files end = option_and_then (facing_far files) end.far

-- ---- the keys that the file gives it
abbrev pub end_port : FilesState → PortRef → End → EndPort
end_port files port end = record { guid = end.guid; is_switch = end.is_switch; is_sm = is_same_port port files.manager }

-- ---- a port between two switches that drops packets: any path may cross it, so it has to have each base that the file gives an end port.
-- One whose table was not read, or what it enforces, is not judged
abbrev pub is_member_at : FilesState → Partition → End → Bool
is_member_at files partition end = option_map_or (λ port. is_member (end_port files port end) partition) (named end.guid files.index) false

unfoldable pub used_base : FilesState → List End → Partition → List ℕ
used_base files ends partition = if list_any (is_member_at files partition) ends then partition.base ∷ [] else []

abbrev pub used_bases : FilesState → List End → List ℕ
used_bases files ends = flat_map (used_base files ends) files.partitions

abbrev pub trunk_of : FilesState → PortLine → Option FacingPort
trunk_of files line =
    if is_switch line.far.node.kind then option_and_then (facing_of_node files line.port.port) (slice_get files.discovery.nodes line.port.node) else None

abbrev pub drops : Enforcement → Bool
drops enforcement = enforcement.inbound || enforcement.outbound

unfoldable pub lack_of : PortRef → (keys : List ℕ) → (base : ℕ) → List TrunkLack
lack_of port keys base = if has_base base keys then [] else record { port = port; base = base } ∷ []

abbrev pub lacks_if : PortRef → Option Enforcement → Option HeldKeys → (bases : List ℕ) → List TrunkLack
lacks_if port (Some enforcement) (Some table) bases = if drops enforcement then flat_map (lack_of port table.keys) bases else []
lacks_if port _ _ bases = []

abbrev pub lacks_by : (bases : List ℕ) → Option FacingPort → List TrunkLack
lacks_by bases (Some trunk) = lacks_if trunk.port trunk.enforcement trunk.table bases
lacks_by bases None = []

unfoldable pub line_lacks : FilesState → (bases : List ℕ) → PortLine → List TrunkLack
line_lacks files bases line = lacks_by bases (trunk_of files line)

abbrev pub trunk_lacks : FilesState → List TrunkLack
trunk_lacks files = flat_map (line_lacks files (used_bases files (ends_of files.discovery))) files.discovery.ports

-- those of a switch are its port 0's
abbrev pub own_lacks : End → PortRef → List TrunkLack → List TrunkLack
own_lacks end port lacks = if end.is_switch then filter (λ lack. lack.port.node == port.node) lacks else []

-- ---- all of it
unfoldable pub gathered : FilesState → End → PortRef → AuditedPort
gathered files end port = record {
  port = port;
  guid = end.guid;
  node_guid = end.node_guid;
  lid = end.lid;
  is_manager = is_same_port port files.manager;
  moved = moved_to files.answers end;
  table = own_table files.answers end;
  file = keys_in files.partitions (end_port files port end);
  opensms = keys_by_opensm files.partitions (end_port files port end);
  facing = facing_of files end;
  lacks = own_lacks end port files.lacks;
}

abbrev pub gathered_if_named : FilesState → End → Option PortRef → List AuditedPort
gathered_if_named files end (Some port) = gathered files end port ∷ []
gathered_if_named files end None = []

-- an end that the topology leaves out, as a router's, is none
unfoldable pub gathered_end : FilesState → End → List AuditedPort
gathered_end files end = gathered_if_named files end (named end.guid files.index)

abbrev pub ports_with : FilesState → List AuditedPort
ports_with files = flat_map (gathered_end files) (ends_of files.discovery)

abbrev pub files_with : TopologyState → DiscoveryState → List Answer → List Partition → List TrunkLack → FilesState
files_with plan discovery answers partitions lacks = record {
  index = index_of plan.nodes;
  manager = plan.sm;
  discovery = discovery;
  answers = answers;
  partitions = partitions;
  lacks = lacks;
}

abbrev pub files_of : TopologyState → DiscoveryState → List Answer → List Partition → FilesState
files_of plan discovery answers partitions =
    files_with plan discovery answers partitions (trunk_lacks (files_with plan discovery answers partitions []))

-- the end ports, in the order of the discovery: those of switches first
abbrev pub ports_of_files : TopologyState → DiscoveryState → List Answer → List Partition → List AuditedPort
ports_of_files plan discovery answers partitions = ports_with (files_of plan discovery answers partitions)
