-- Wrong rules for which ports are audited, and which are read.
use Rattle.std.specs.Prelude.{◌==◌, List, ◌++◌, filter, if◌then◌else◌, length, map, not, take, None, is_some}
use Rattle.audit_ports.specs.declared.port.AuditedPort.{AuditedPort}
use Rattle.audit_ports.specs.Gathered.{or_table, ports_of_files, table_at}
use Rattle.audit_ports.specs.Laws.{AuditsEachPort, ReadsThoseThatAnswer}
use Rattle.netdiscover_file.specs.Discovery.{DiscoveryState}
use Rattle.partition_file.specs.declared.partition.Partition.{Partition}
use Rattle.pkeys_file.specs.declared.answer.Answer.{Answer}
use Rattle.topo_file.specs.Topology.{TopologyState}

-- ---- the first port alone
abbrev pub first_alone : TopologyState → DiscoveryState → List Answer → List Partition → List AuditedPort
first_alone plan discovery answers partitions = take 1 (ports_of_files plan discovery answers partitions)

abbrev pub LaterPortsAreAudited : Type 0
LaterPortsAreAudited = AuditsEachPort first_alone → ⊥

-- ---- those alone whose tables were read
abbrev pub read_alone : TopologyState → DiscoveryState → List Answer → List Partition → List AuditedPort
read_alone plan discovery answers partitions = filter (λ port. is_some port.table) (ports_of_files plan discovery answers partitions)

abbrev pub UnreadPortsAreAudited : Type 0
UnreadPortsAreAudited = AuditsEachPort read_alone → ⊥

-- ---- those alone to which the file gives a key
abbrev pub members_alone : TopologyState → DiscoveryState → List Answer → List Partition → List AuditedPort
members_alone plan discovery answers partitions = filter (λ port. not (length port.file == 0)) (ports_of_files plan discovery answers partitions)

abbrev pub OtherPortsAreAudited : Type 0
OtherPortsAreAudited = AuditsEachPort members_alone → ⊥

-- ---- each port twice
abbrev pub twice : TopologyState → DiscoveryState → List Answer → List Partition → List AuditedPort
twice plan discovery answers partitions =
    ports_of_files plan discovery answers partitions ++ ports_of_files plan discovery answers partitions

abbrev pub PortsAreAuditedOnce : Type 0
PortsAreAuditedOnce = AuditsEachPort twice → ⊥

-- ---- a port is read if a table was read at its LID, unless another node answers there: also if none does
abbrev pub or_silent : List Answer → AuditedPort → AuditedPort
or_silent answers port = record port { table = if is_some port.moved then None else or_table port.table (table_at answers port.lid 0) }

abbrev pub silent_too : TopologyState → DiscoveryState → List Answer → List Partition → List AuditedPort
silent_too plan discovery answers partitions = map (or_silent answers) (ports_of_files plan discovery answers partitions)

abbrev pub SilentPortsAreUnread : Type 0
SilentPortsAreUnread = ReadsThoseThatAnswer silent_too → ⊥

-- ---- a port is read if its node answers, or another does
abbrev pub or_moved : List Answer → AuditedPort → AuditedPort
or_moved answers port = record port { table = if is_some port.moved then table_at answers port.lid 0 else port.table }

abbrev pub moved_too : TopologyState → DiscoveryState → List Answer → List Partition → List AuditedPort
moved_too plan discovery answers partitions = map (or_moved answers) (ports_of_files plan discovery answers partitions)

abbrev pub MovedPortsAreUnread : Type 0
MovedPortsAreUnread = ReadsThoseThatAnswer moved_too → ⊥

-- ---- no port is read
abbrev pub unread : AuditedPort → AuditedPort
unread port = record port { table = None }

abbrev pub none_read : TopologyState → DiscoveryState → List Answer → List Partition → List AuditedPort
none_read plan discovery answers partitions = map unread (ports_of_files plan discovery answers partitions)

abbrev pub PortsAreRead : Type 0
PortsAreRead = ReadsThoseThatAnswer none_read → ⊥
