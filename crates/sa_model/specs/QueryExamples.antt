-- Requests over the four adapters of the examples of groups and services, and over two more that share two partitions.
use Rattle.std.specs.Prelude.{ℕ, ◌+◌, false, List, [], ◌∷◌, replicate}
use Rattle.sa_records.specs.declared.path_record.PathRecord.{PathRecord}
use Rattle.sa_records.specs.PathMask as path_mask
use Rattle.subnet_model.specs.declared.subnet_port.SubnetPort.{SubnetPort}
use Rattle.sa_model.specs.Groups.{Creator, start_of}
use Rattle.sa_model.specs.GroupExamples.{ports, nobody, with_broadcast_group, parameters}
use Rattle.subnet_model.specs.Examples.{adapter}
use Rattle.sa_model.specs.Services.{Service, no_services}
use Rattle.sa_model.specs.ServiceChange.{Deed, services_changed}
use Rattle.sa_model.specs.Gid.{gid_of}
use Rattle.sa_model.specs.Visible.{SaState, Path, GroupOfBase, ServiceOfPort}
use Rattle.sa_model.specs.Shown.{node_record_of, group_record_of, service_record_of}
use Rattle.sa_model.specs.Selected.{Query}

-- ---- the ports
abbrev pub manager : SubnetPort
manager = adapter 1 0x101 (0xffff ∷ [])

abbrev pub full : SubnetPort
full = adapter 4 0x111 (0x7fff ∷ 0x8001 ∷ [])

abbrev pub limited : SubnetPort
limited = adapter 5 0x121 (0x7fff ∷ 0x0001 ∷ [])

abbrev pub other_limited : SubnetPort
other_limited = adapter 6 0x131 (0x7fff ∷ 0x0001 ∷ [])

-- their keys do not stand by base
abbrev pub twice_full : ℕ → ℕ → SubnetPort
twice_full lid guid = adapter lid guid (0x8002 ∷ 0x8001 ∷ [])

abbrev pub two_ports : List SubnetPort
two_ports = twice_full 1 0x101 ∷ twice_full 2 0x102 ∷ []

-- the first port of a node of two ports
abbrev pub named : SubnetPort
named = record (adapter 1 0x101 (0xffff ∷ [])) { node_name = 0x68 ∷ 0x30 ∷ []; node_guid = 0x100; num_ports = 2 }

-- ---- the states: nothing, the partition file's group, a limited member's service
abbrev pub nothing : SaState
nothing = record { partitions = nobody; services = no_services ports }

abbrev pub with_group_of_file : SaState
with_group_of_file = record { partitions = start_of with_broadcast_group; services = no_services ports }

abbrev pub service : Service
service = record { service_id = 1; lease = 0; name = 0x64 ∷ 0x62 ∷ 0x73 ∷ replicate 61 0; numbers = replicate 64 0 }

abbrev pub with_service : SaState
with_service = record {
  partitions = nobody;
  services = services_changed (no_services ports) (record { port = 0x121; base = 1; deed = Deed.sets service });
}

-- ---- the requests. What the mask does not name may be anything
abbrev pub all_nodes : Query
all_nodes = Query.for_nodes 0 (node_record_of manager)

abbrev pub node_of_lid : ℕ → Query
node_of_lid lid = Query.for_nodes 1 (record (node_record_of manager) { lid = lid })

-- from the port of one GUID to that of another, by its rate, and at most so many
abbrev pub path_asked : ℕ → ℕ → ℕ → ℕ → ℕ → PathRecord
path_asked from to rate_selector rate most = record {
  service_id = 0;
  dgid = gid_of to;
  sgid = gid_of from;
  dlid = 0;
  slid = 0;
  raw_traffic = false;
  flow_label = 0;
  hop_limit = 0;
  t_class = 0;
  reversible = false;
  numb_path = most;
  p_key = 0;
  qos_class = 0;
  sl = 0;
  mtu_selector = 0;
  mtu = 0;
  rate_selector = rate_selector;
  rate = rate;
  packet_life_time_selector = 0;
  packet_life_time = 0;
  preference = 0;
}

-- by DGID and SGID
abbrev pub path_between : ℕ → ℕ → Query
path_between from to = Query.for_paths (path_mask.dgid + path_mask.sgid) (path_asked from to 0 0 0)

-- by DGID alone, and by SGID alone
abbrev pub path_to : ℕ → Query
path_to to = Query.for_paths path_mask.dgid (path_asked 0 to 0 0 0)

abbrev pub paths_from : ℕ → Query
paths_from from = Query.for_paths path_mask.sgid (path_asked from 0 0 0 0)

-- by DGID and SGID, and by RateSelector with Rate
abbrev pub path_of_rate : ℕ → ℕ → Query
path_of_rate selector rate = Query.for_paths (path_mask.dgid + path_mask.sgid + path_mask.rate) (path_asked 0x121 0x111 selector rate 0)

-- by SGID and NumbPath
abbrev pub few_paths_from : ℕ → ℕ → Query
few_paths_from from most = Query.for_paths (path_mask.sgid + path_mask.numb_path) (path_asked from 0 0 0 most)

-- ---- what may come of them
abbrev pub under : SubnetPort → SubnetPort → ℕ → Path
under origin destination key = record { origin = origin; destination = destination; key = key }

-- the group that the partition file asks for
abbrev pub group_of_file : GroupOfBase
group_of_file = record {
  base = 1;
  group = record {
    mgid = 0xff12401b8001000000000000ffffffff;
    mlid = 0xc020;
    parameters = record parameters { q_key = 0x0b1b };
    creator = Creator.PartitionFile;
    memberships = [];
  };
}

abbrev pub all_groups : Query
all_groups = Query.for_groups 0 (group_record_of group_of_file)

-- the service, of the limited member that offers it
abbrev pub offered : ServiceOfPort
offered = record { port = 0x121; base = 1; service = service }

abbrev pub all_services : Query
all_services = Query.for_services 0 (service_record_of offered)
