-- How the records look that a port is shown (IBA volume 1, 15.2.5).
use Rattle.std.specs.Prelude.{ℕ, ◌-◌, true, false, ◌++◌, length, replicate}
use Rattle.fabric_parts.specs.NodeType.{node_type_code}
use Rattle.pkey_rules.specs.PKey.{key_of}
use Rattle.pkey_rules.specs.declared.key_table.TheConstants.{PARTITIONS}
use Rattle.attr_tables.specs.declared.mtu.Mtu.TheVariants.{Bytes2048}
use Rattle.attr_tables.specs.declared.rate.Rate.TheVariants.{Gbps10}
use Rattle.attr_tables.specs.Mtu.{mtu_code}
use Rattle.attr_tables.specs.Rate.{rate_code}
use Rattle.sa_records.specs.declared.node_record.NodeRecord.{NodeRecord}
use Rattle.sa_records.specs.declared.path_record.PathRecord.{PathRecord}
use Rattle.sa_records.specs.declared.mc_member_record.McMemberRecord.{McMemberRecord}
use Rattle.sa_records.specs.declared.service_record.ServiceRecord.{ServiceRecord}
use Rattle.sa_records.specs.declared.sa_record.SaRecord.{SaRecord}
use Rattle.sa_records.specs.declared.sa_record.SaRecord.TheVariants as sa_record
use Rattle.subnet_model.specs.declared.subnet_port.SubnetPort.{SubnetPort}
use Rattle.sa_model.specs.Groups.{Creator}
use Rattle.sa_model.specs.Gid.{gid_of}
use Rattle.sa_model.specs.Visible.{Path, GroupOfBase, ServiceOfPort}

-- what the node of a port says of itself, with the port's own number and 0 for what no node of ours has
abbrev pub node_record_of : SubnetPort → NodeRecord
node_record_of port = record {
  lid = port.lid;
  base_version = 1;
  class_version = 1;
  node_type = node_type_code port.node_type;
  num_ports = port.num_ports;
  system_image_guid = port.node_guid;
  node_guid = port.node_guid;
  port_guid = port.guid;
  partition_cap = PARTITIONS;
  device_id = 0;
  revision = 0;
  local_port_num = port.number;
  vendor_id = 0;
  node_string = port.node_name ++ replicate (64 - length port.node_name) 0;
}

-- the selector that says that a value is this very one
abbrev pub exactly : ℕ
exactly = 2

-- a path has the key that its requester holds, and packets can go back by it; all paths are alike else
abbrev pub path_record_of : Path → PathRecord
path_record_of path = record {
  service_id = 0;
  dgid = gid_of path.destination.guid;
  sgid = gid_of path.origin.guid;
  dlid = path.destination.lid;
  slid = path.origin.lid;
  raw_traffic = false;
  flow_label = 0;
  hop_limit = 0;
  t_class = 0;
  reversible = true;
  numb_path = 0;
  p_key = path.key;
  qos_class = 0;
  sl = 0;
  mtu_selector = exactly;
  mtu = mtu_code Bytes2048;
  rate_selector = exactly;
  rate = rate_code Gbps10;
  packet_life_time_selector = exactly;
  packet_life_time = 18;
  preference = 0;
}

-- a group is shown without its members and without who made it; its key has the full form, whoever asks
abbrev pub group_record_of : GroupOfBase → McMemberRecord
group_record_of one = record {
  mgid = one.group.mgid;
  port_gid = 0;
  q_key = one.group.parameters.q_key;
  mlid = one.group.mlid;
  mtu_selector = exactly;
  mtu = one.group.parameters.mtu;
  t_class = one.group.parameters.traffic_class;
  p_key = key_of one.base true;
  rate_selector = exactly;
  rate = one.group.parameters.rate;
  packet_life_time_selector = exactly;
  packet_life_time = one.group.parameters.packet_life_time;
  sl = one.group.parameters.service_level;
  flow_label = one.group.parameters.flow_label;
  hop_limit = one.group.parameters.hop_limit;
  scope = one.group.parameters.scope;
  join_state = 0;
  proxy_join = false;
}

-- a service's key has the full form, and the key by which its owner changes it is not shown
abbrev pub service_record_of : ServiceOfPort → ServiceRecord
service_record_of one = record {
  service_id = one.service.service_id;
  service_gid = gid_of one.port;
  service_p_key = key_of one.base true;
  service_lease = one.service.lease;
  service_key = 0;
  service_name = one.service.name;
  service_data = one.service.numbers;
}

-- ---- a record as it is shown, and what it comes from: a port, or the partition file
pub record Entry : Type 0 where
  pub shown : SaRecord
  pub source : Creator

-- of a node and a service their port, of a path the port that it leads to, of a group who made it
abbrev pub node_entry : SubnetPort → Entry
node_entry port = record { shown = sa_record.Node (node_record_of port); source = Creator.Port port.guid }

abbrev pub path_entry : Path → Entry
path_entry path = record { shown = sa_record.Path (path_record_of path); source = Creator.Port path.destination.guid }

abbrev pub group_entry : GroupOfBase → Entry
group_entry one = record { shown = sa_record.Group (group_record_of one); source = one.group.creator }

abbrev pub service_entry : ServiceOfPort → Entry
service_entry one = record { shown = sa_record.Service (service_record_of one); source = Creator.Port one.port }
