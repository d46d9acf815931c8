-- The end ports of a small fabric, as the files say of them: a switch of which port 0 has a GUID of its own, an adapter with the SM port
-- on it, and a router.
use Rattle.std.specs.Prelude.{ℕ, ◌≡◌, true, false, List, [], ◌∷◌, ◌++◌, codes, flat_map, Some, None}
use Rattle.fabric_parts.specs.Cable.{port}
use Rattle.fabric_parts.specs.declared.node_type.NodeType.TheVariants as node_type
use Rattle.netdiscover_file.specs.declared.ends.FarEnd.{FarEnd}
use Rattle.netdiscover_file.specs.declared.kind.NodeKind.{NodeKind}
use Rattle.netdiscover_file.specs.declared.kind.NodeKind.TheVariants.{ChannelAdapter, Router, Switch}
use Rattle.netdiscover_file.specs.declared.node.Node.{Node as FoundNode}
use Rattle.netdiscover_file.specs.declared.port.PortLine.{PortLine}
use Rattle.netdiscover_file.specs.Discovery.{DiscoveryState}
use Rattle.partition_file.specs.declared.item.Item.{Item}
use Rattle.partition_file.specs.declared.item.Ports.TheVariants as ports
use Rattle.partition_file.specs.declared.partition.Partition.{Partition}
use Rattle.partition_file.specs.Partitions.{all_limited, manager_full}
use Rattle.pkeys_file.specs.declared.answer.Answer.{Answer}
use Rattle.pkeys_file.specs.declared.answer.Reply.{Reply}
use Rattle.pkeys_file.specs.declared.answer.Reply.TheVariants as replies
use Rattle.pkeys_file.specs.declared.query.QueryKind.{QueryKind}
use Rattle.pkeys_file.specs.declared.query.QueryKind.TheVariants.{Keys, NodeInfo, PortInfo}
use Rattle.text_words.specs.Parts.{guid_text}
use Rattle.topo_file.specs.declared.node.Node.{Node}
use Rattle.topo_file.specs.Topology.{TopologyState}
use Rattle.audit_ports.specs.declared.port.AuditedPort.{AuditedPort}
use Rattle.audit_ports.specs.declared.port.FacingPort.{FacingPort}
use Rattle.audit_ports.specs.declared.port.TrunkLack.{TrunkLack}
use Rattle.audit_ports.specs.Gathered.{FilesState, files_with, own_lacks, ports_of_files, trunk_lacks}
use Rattle.audit_ports.specs.Held.{held}
use Rattle.audit_ports.specs.OpenSm.{items_in_turn}
use Rattle.audit_ports.specs.Strangers.{listed_guids, lone_lines, stranger_lines}

-- ---- the topology, and the discovery that it was imported from
abbrev pub nodes : List Node
nodes = (record { name = codes "leaf"; node_type = node_type.Switch; guid = 17; ports = 4 })
    ∷ (record { name = codes "host"; node_type = node_type.ChannelAdapter; guid = 32; ports = 1 }) ∷ []

abbrev pub plan : TopologyState
plan = record { nodes = nodes; cables = (record { first = port 0 2; second = port 1 1 }) ∷ []; roots = []; sm = port 1 1 }

abbrev pub found : NodeKind → ℕ → FoundNode
found kind guid = record { id = record { kind = kind; guid = guid }; ports = 4; name = codes "n"; lid = None; port_guid = None; line = 2 }

abbrev pub far_end : NodeKind → ℕ → ℕ → FarEnd
far_end kind guid number = record { node = record { kind = kind; guid = guid }; port = number; guid = None }

-- the line of a port 1 that leads to a port of the switch
abbrev pub line_up : ℕ → ℕ → ℕ → ℕ → PortLine
line_up place guid lid number = record { port = port place 1; guid = Some guid; lid = Some lid; far = far_end Switch 16 number; line = 9 }

abbrev pub discovery : DiscoveryState
discovery = record {
  nodes = record (found Switch 16) { lid = Some 3; port_guid = Some 17 } ∷ found ChannelAdapter 32 ∷ found Router 512 ∷ [];
  ports = line_up 1 33 1 2 ∷ line_up 2 513 9 3 ∷ [];
  initiator = Some 33;
}

-- ---- what the queries brought: the adapter's table without the number of its port
abbrev pub answered : QueryKind → ℕ → ℕ → Reply → Answer
answered kind lid number reply = record { line = 1; query = record { kind = kind; lid = lid; port = number }; reply = reply }

abbrev pub node_answered : ℕ → ℕ → ℕ → Answer
node_answered lid guid port_guid = answered NodeInfo lid 0 (replies.Node (record { guid = guid; port_guid = port_guid; capacity = 4 }))

abbrev pub tables : List Answer
tables = answered Keys 3 0 (replies.Keys (0x7fff ∷ []))
    ∷ answered Keys 1 0 (replies.Keys (0xffff ∷ 0 ∷ 0x8001 ∷ 0x8000 ∷ []))
    ∷ answered Keys 3 2 (replies.Keys (0x7fff ∷ 1 ∷ 0 ∷ []))
    ∷ answered PortInfo 3 2 (replies.Port true false) ∷ []

abbrev pub item : ℕ → Item
item guid = record { ports = ports.Guid guid; full = true }

abbrev pub partition : ℕ → List Item → Partition
partition base items = record { base = base; name = codes "P"; group = None; items = items }

-- the adapter port is listed twice, the second time as limited; the other GUIDs are the adapter's and nobody's
abbrev pub partitions : List Partition
partitions = partition 0x7fff (manager_full ∷ all_limited ∷ [])
    ∷ partition 1 (item 33 ∷ item 32 ∷ record (item 33) { full = false } ∷ item 0x98 ∷ item 32 ∷ []) ∷ []

-- ---- the ports
abbrev pub leaf_port : AuditedPort
leaf_port = record {
  port = port 0 0;
  guid = 17;
  node_guid = 16;
  lid = 3;
  is_manager = false;
  moved = None;
  table = Some (record { keys = 0x7fff ∷ []; is_full = true });
  file = 0x7fff ∷ [];
  opensms = 0x7fff ∷ [];
  facing = None;
  lacks = [];
}

abbrev pub facing : FacingPort
facing = record {
  port = port 0 2;
  enforcement = Some (record { inbound = true; outbound = false });
  table = Some (record { keys = 0x7fff ∷ 1 ∷ []; is_full = false });
}

abbrev pub host_port : AuditedPort
host_port = record {
  port = port 1 1;
  guid = 33;
  node_guid = 32;
  lid = 1;
  is_manager = true;
  moved = None;
  table = Some (record { keys = 0xffff ∷ 0x8001 ∷ []; is_full = false });
  file = 0xffff ∷ 0x8001 ∷ [];
  opensms = 0xffff ∷ 1 ∷ [];
  facing = Some facing;
  lacks = [];
}

abbrev pub unread_facing : FacingPort
unread_facing = record { port = port 0 2; enforcement = None; table = None }

-- the nodes answer with the GUIDs of the discovery: a switch with its node's, an adapter port with its own
abbrev pub at_home : List Answer
at_home = node_answered 3 16 17 ∷ node_answered 1 99 33 ∷ []

abbrev pub unread_host : AuditedPort
unread_host = record host_port { table = None }

pub record PortsAreGathered : Type 0 where
  pub in_place : ports_of_files plan discovery (at_home ++ tables) partitions ≡ leaf_port ∷ host_port ∷ []
  -- nodes that were not asked, or did not answer: nobody knows whose tables these are. The switch's ports are unread with it
  pub unasked : ports_of_files plan discovery tables partitions
      ≡ record leaf_port { table = None } ∷ record unread_host { facing = Some unread_facing } ∷ []
  pub switch_unasked : ports_of_files plan discovery (node_answered 1 99 33 ∷ tables) partitions
      ≡ record leaf_port { table = None } ∷ record host_port { facing = Some unread_facing } ∷ []
  pub adapter_unread : ports_of_files plan discovery (node_answered 3 16 17 ∷ answered NodeInfo 1 0 replies.Unread ∷ tables) partitions
      ≡ leaf_port ∷ unread_host ∷ []
  -- another switch answers at the LID of the switch
  pub switch_moved : ports_of_files plan discovery (node_answered 3 17 17 ∷ node_answered 1 99 33 ∷ tables) partitions
      ≡ record leaf_port { moved = Some 17; table = None } ∷ record host_port { facing = Some unread_facing } ∷ []
  -- another port answers at the LID of the adapter port
  pub adapter_moved : ports_of_files plan discovery (node_answered 3 16 17 ∷ node_answered 1 32 34 ∷ tables) partitions
      ≡ leaf_port ∷ record unread_host { moved = Some 34 } ∷ []
  -- a table that was read under the number of the port counts first
  pub by_number : ports_of_files plan discovery (answered Keys 1 1 (replies.Keys (0x8002 ∷ [])) ∷ at_home ++ tables) partitions
      ≡ leaf_port ∷ record host_port { table = Some (record { keys = 0x8002 ∷ []; is_full = true }) } ∷ []

-- ---- two switches, each with a port to the other that drops packets. The file gives 0x7fff and 1 to the adapter port, and 2 to nobody
abbrev pub plan_of_two : TopologyState
plan_of_two = record plan { nodes = nodes ++ (record { name = codes "spine"; node_type = node_type.Switch; guid = 48; ports = 4 }) ∷ [] }

abbrev pub trunk : ℕ → ℕ → ℕ → ℕ → PortLine
trunk place number guid far = record { port = port place number; guid = None; lid = None; far = far_end Switch guid far; line = 9 }

abbrev pub discovery_of_two : DiscoveryState
discovery_of_two = record discovery {
  nodes = record (found Switch 16) { lid = Some 3; port_guid = Some 17 } ∷ found ChannelAdapter 32 ∷ record (found Switch 48) { lid = Some 5 } ∷ [];
  ports = trunk 0 3 48 1 ∷ line_up 1 33 1 2 ∷ trunk 2 1 16 3 ∷ [];
}

abbrev pub files_of_two : List Answer → FilesState
files_of_two answers =
    files_with plan_of_two discovery_of_two (at_home ++ node_answered 5 48 48 ∷ answers)
    (partition 0x7fff (manager_full ∷ all_limited ∷ []) ∷ partition 1 (item 33 ∷ []) ∷ partition 2 (item 0x98 ∷ []) ∷ []) []

abbrev pub trunk_table : ℕ → ℕ → List ℕ → Answer
trunk_table lid number keys = answered Keys lid number (replies.Keys keys)

abbrev pub lack : ℕ → ℕ → ℕ → TrunkLack
lack node number base = record { port = port node number; base = base }

pub record TrunksAreGathered : Type 0 where
  -- one drops what comes in, and lacks 1; the other what goes out, and has both bases
  pub dropped : trunk_lacks (files_of_two (trunk_table 3 3 (0xffff ∷ 2 ∷ []) ∷ answered PortInfo 3 3 (replies.Port true false)
      ∷ trunk_table 5 1 (0xffff ∷ 1 ∷ []) ∷ answered PortInfo 5 1 (replies.Port false true) ∷ [])) ≡ lack 0 3 1 ∷ []
  pub of_the_other : trunk_lacks (files_of_two (trunk_table 5 1 (1 ∷ []) ∷ answered PortInfo 5 1 (replies.Port false true) ∷ [])) ≡ lack 2 1 0x7fff ∷ []
  -- it drops nothing, or its table was not read, or what it enforces, or its switch did not answer
  pub off : trunk_lacks (files_of_two (trunk_table 3 3 (0xffff ∷ []) ∷ answered PortInfo 3 3 (replies.Port false false) ∷ [])) ≡ []
  pub without_a_table : trunk_lacks (files_of_two (answered PortInfo 3 3 (replies.Port true true) ∷ [])) ≡ []
  pub without_enforcement : trunk_lacks (files_of_two (trunk_table 3 3 (0xffff ∷ []) ∷ [])) ≡ []
  pub silent : trunk_lacks (record (files_of_two []) { answers = trunk_table 3 3 [] ∷ answered PortInfo 3 3 (replies.Port true true) ∷ [] }) ≡ []
  -- those of a switch are its port 0's
  pub own : own_lacks (record { guid = 48; node_guid = 48; lid = 5; is_switch = true; number = 0; far = None }) (port 2 0) (lack 0 3 1 ∷ lack 2 1 1 ∷ [])
      ≡ lack 2 1 1 ∷ []

-- ---- a key that stands twice counts once, and is no other than the same with the other membership
pub record KeysAreHeldOnce : Type 0 where
  pub once : held (0xffff ∷ 0 ∷ 1 ∷ 0xffff ∷ 0x8000 ∷ 0x8001 ∷ 1 ∷ []) ≡ record { keys = 0xffff ∷ 1 ∷ 0x8001 ∷ []; is_full = false }
  pub full : held (1 ∷ 1 ∷ []) ≡ record { keys = 1 ∷ []; is_full = true }

-- ---- GUIDs that no port has, each once, and ports in no partition
abbrev pub audited : List AuditedPort
audited = record leaf_port { file = [] } ∷ host_port ∷ []

pub record StrangersAreReported : Type 0 where
  pub listed : listed_guids partitions ≡ 33 ∷ 32 ∷ 0x98 ∷ []
  pub of_port : stranger_lines nodes audited 33 ≡ []
  pub of_node : stranger_lines nodes audited 32 ≡ codes "node-guid " ++ guid_text 32 ++ codes " host/1" ++ 10 ∷ []
  pub of_nobody : stranger_lines nodes audited 0x98 ≡ codes "no-port " ++ guid_text 0x98 ++ [] ++ 10 ∷ []
  pub alone : flat_map (lone_lines nodes) audited ≡ codes "no-partition leaf/0\n"

-- ---- how OpenSM takes the default partition: with all ports limited and the SM port full in front
abbrev pub all_full : Item
all_full = record all_limited { full = true }

pub record DefaultsAreTakenInTurn : Type 0 where
  pub none : items_in_turn (partition 0x7fff (manager_full ∷ all_limited ∷ [])) ≡ all_limited ∷ manager_full ∷ []
  -- `ALL=limited` behind them takes the SM port with it
  pub limited : items_in_turn (partition 0x7fff (all_limited ∷ manager_full ∷ [])) ≡ all_limited ∷ manager_full ∷ all_limited ∷ []
  pub listed : items_in_turn (partition 0x7fff (all_full ∷ manager_full ∷ [])) ≡ all_limited ∷ manager_full ∷ all_full ∷ []
  pub two : items_in_turn (partition 0x7fff (all_limited ∷ item 33 ∷ manager_full ∷ []))
      ≡ all_limited ∷ manager_full ∷ all_limited ∷ item 33 ∷ []
  pub another : items_in_turn (partition 1 (all_limited ∷ manager_full ∷ [])) ≡ all_limited ∷ manager_full ∷ []
