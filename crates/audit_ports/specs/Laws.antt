-- Which ports are audited, and which are read: the statements of the laws of `src/laws.rt`.
use Rattle.std.specs.Prelude.{ℕ, ◌+◌, ◌≡◌, ◌==◌, ◌&&◌, ◌||◌, Bool, false, List, count_by, Option, Some, None, is_some}
use Rattle.std.specs.Option.{option_map_or}
use Rattle.audit_plan.specs.Plan.{ends_of as port_ends, port_of}
use Rattle.audit_ports.specs.declared.port.AuditedPort.{AuditedPort}
use Rattle.audit_ports.specs.Ends.{switch_guid}
use Rattle.audit_ports.specs.Gathered.{node_at, ports_of_files, table_at}
use Rattle.fabric_parts.specs.declared.cable.PortRef.{PortRef}
use Rattle.netdiscover_file.specs.declared.node.Node.{Node as FoundNode}
use Rattle.netdiscover_file.specs.declared.port.PortLine.{PortLine}
use Rattle.netdiscover_file.specs.Discovery.{DiscoveryState}
use Rattle.netdiscover_file.specs.Kind.{is_switch}
use Rattle.partition_file.specs.declared.partition.Partition.{Partition}
use Rattle.pkeys_file.specs.declared.answer.Answer.{Answer}
use Rattle.topo_file.specs.Topology.{TopologyState}

-- a test of a port: by its GUID, its LID, and its place in the topology
abbrev pub PortTest : Type 0
PortTest = (guid lid : ℕ) → PortRef → Bool

abbrev pub passes : PortTest → AuditedPort → Bool
passes test port = test port.guid port.lid port.port

-- ---- an end port of the discovery, if it has a LID, and the topology has a port with its GUID
abbrev pub passes_in : TopologyState → PortTest → (guid lid : Option ℕ) → Bool
passes_in plan test (Some guid) (Some lid) = option_map_or (test guid lid) (port_of (port_ends plan.nodes) guid) false
passes_in plan test _ _ = false

-- port 0 of a switch
abbrev pub switch_passes : TopologyState → PortTest → FoundNode → Bool
switch_passes plan test node = is_switch node.id.kind && passes_in plan test (Some (switch_guid node)) node.lid

-- a port of another node
abbrev pub line_passes : TopologyState → PortTest → PortLine → Bool
line_passes plan test line = passes_in plan test line.guid line.lid

-- ---- each of these is audited, once, and no other is: as many audited ports pass any test as end ports of the discovery do
abbrev pub AuditsEachPort : (TopologyState → DiscoveryState → List Answer → List Partition → List AuditedPort) → Type 0
AuditsEachPort ports =
    (plan : TopologyState) (discovery : DiscoveryState) (answers : List Answer) (partitions : List Partition) (test : PortTest)
    → count_by (passes test) (ports plan discovery answers partitions)
    ≡ count_by (switch_passes plan test) discovery.nodes + count_by (line_passes plan test) discovery.ports

abbrev pub EachPortIsAudited : Type 0
EachPortIsAudited = AuditsEachPort ports_of_files

-- ---- the node that answers at a LID is the one with this GUID, or its port is
abbrev pub answers_as_node : List Answer → (guid : ℕ) → (lid : Option ℕ) → Bool
answers_as_node answers guid (Some lid) = option_map_or (λ reply. reply.guid == guid) (node_at answers lid) false
answers_as_node answers guid None = false

abbrev pub answers_as_port : List Answer → (guid lid : Option ℕ) → Bool
answers_as_port answers (Some guid) (Some lid) = option_map_or (λ reply. reply.port_guid == guid) (node_at answers lid) false
answers_as_port answers _ _ = false

-- a table was read at this LID, under this number of a port or under none
abbrev pub has_table : List Answer → (lid : Option ℕ) → (number : ℕ) → Bool
has_table answers (Some lid) number = is_some (table_at answers lid number) || is_some (table_at answers lid 0)
has_table answers None number = false

abbrev pub switch_reads : TopologyState → List Answer → PortTest → FoundNode → Bool
switch_reads plan answers test node =
    switch_passes plan test node && (answers_as_node answers node.id.guid node.lid && has_table answers node.lid 0)

abbrev pub line_reads : TopologyState → List Answer → PortTest → PortLine → Bool
line_reads plan answers test line =
    line_passes plan test line && (answers_as_port answers line.guid line.lid && has_table answers line.lid line.port.port)

abbrev pub is_read_and_passes : PortTest → AuditedPort → Bool
is_read_and_passes test port = passes test port && is_some port.table

-- ---- a port is read if and only if its node answered at its LID, with the GUID of the switch or of the port, and a table was read there: as
-- many ports that were read pass any test as such end ports of the discovery do
abbrev pub ReadsThoseThatAnswer : (TopologyState → DiscoveryState → List Answer → List Partition → List AuditedPort) → Type 0
ReadsThoseThatAnswer ports =
    (plan : TopologyState) (discovery : DiscoveryState) (answers : List Answer) (partitions : List Partition) (test : PortTest)
    → count_by (is_read_and_passes test) (ports plan discovery answers partitions)
    ≡ count_by (switch_reads plan answers test) discovery.nodes + count_by (line_reads plan answers test) discovery.ports

abbrev pub PortsThatAnswerAreRead : Type 0
PortsThatAnswerAreRead = ReadsThoseThatAnswer ports_of_files
