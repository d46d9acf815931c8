-- What a simulated node has at power-up: the capabilities that our nodes have, and 0 for all else.
use Rattle.std.specs.Prelude.{ℕ, ◌-◌, Bool, true, false, List, ◌∷◌, replicate}
use Rattle.agent_rules.specs.declared.link.PortLink.{PortLink}
use Rattle.agent_rules.specs.declared.link.PortLink.TheVariants.{Cabled, Uncabled, Internal}
use Rattle.fabric_parts.specs.declared.node_type.NodeType.{NodeType}
use Rattle.fabric_parts.specs.declared.node_type.NodeType.TheVariants.{ChannelAdapter, Switch}
use Rattle.attr_tables.specs.declared.node_info.NodeInfo.{NodeInfo}
use Rattle.attr_tables.specs.declared.port_info.PortInfo.{PortInfo}
use Rattle.attr_tables.specs.declared.switch_info.SwitchInfo.{SwitchInfo}
use Rattle.agent_rules.specs.declared.power_up.TheConstants.{LINEAR_TABLE, MULTICAST_TABLE}
use Rattle.fabric_parts.specs.NodeType.{node_type_code}
use Rattle.pkey_rules.specs.declared.key_table.TheConstants.{PARTITIONS}

-- a cabled port is Initialize (2), one without a cable Down (1), port 0 of a switch Active (4)
abbrev pub state_at_power_up : PortLink → ℕ
state_at_power_up Cabled = 2
state_at_power_up Uncabled = 1
state_at_power_up Internal = 4

-- and the physical link is LinkUp (5), without a cable Polling (2)
abbrev pub physical_state_at_power_up : PortLink → ℕ
physical_state_at_power_up Cabled = 5
physical_state_at_power_up Uncabled = 2
physical_state_at_power_up Internal = 5

abbrev pub is_uncabled : PortLink → Bool
is_uncabled Cabled = false
is_uncabled Uncabled = true
is_uncabled Internal = false

-- a port of a channel adapter has room for one GUID
abbrev pub guid_cap_of : NodeType → ℕ
guid_cap_of ChannelAdapter = 1
guid_cap_of Switch = 0

abbrev pub port_info_at_power_up : NodeType → ℕ → PortLink → PortInfo
port_info_at_power_up node_type local_port_num link =
    record {
      m_key = 0;
      gid_prefix = 0;
      lid = 0;
      master_sm_lid = 0;
      capability_mask = 0;
      diag_code = 0;
      m_key_lease_period = 0;
      local_port_num = local_port_num;
      link_width_enabled = 3;
      link_width_supported = 3;
      link_width_active = 2;
      link_speed_supported = 1;
      port_state = state_at_power_up link;
      port_physical_state = physical_state_at_power_up link;
      link_down_default_state = 0;
      m_key_protect_bits = 0;
      lmc = 0;
      link_speed_active = 1;
      link_speed_enabled = 1;
      neighbor_mtu = 4;
      master_sm_sl = 0;
      vl_cap = 1;
      init_type = 0;
      vl_high_limit = 0;
      vl_arbitration_high_cap = 0;
      vl_arbitration_low_cap = 0;
      init_type_reply = 0;
      mtu_cap = 4;
      vl_stall_count = 0;
      hoq_life = 0;
      operational_vls = 1;
      partition_enforcement_inbound = false;
      partition_enforcement_outbound = false;
      filter_raw_inbound = false;
      filter_raw_outbound = false;
      m_key_violations = 0;
      p_key_violations = 0;
      q_key_violations = 0;
      guid_cap = guid_cap_of node_type;
      subnet_time_out = 0;
      resp_time_value = 0;
      local_phy_errors = 0;
      overrun_errors = 0;
      max_credit_hint = 0;
      link_round_trip_latency = 0;
    }

abbrev pub switch_info_at_power_up : SwitchInfo
switch_info_at_power_up =
    record {
      linear_fdb_cap = LINEAR_TABLE;
      random_fdb_cap = 0;
      multicast_fdb_cap = MULTICAST_TABLE;
      linear_fdb_top = 0;
      default_port = 0;
      default_multicast_primary_port = 0;
      default_multicast_not_primary_port = 0;
      life_time_value = 18;
      port_state_change = false;
      lids_per_port = 0;
      partition_enforcement_cap = PARTITIONS;
      inbound_enforcement_cap = true;
      outbound_enforcement_cap = true;
      filter_raw_inbound_cap = false;
      filter_raw_outbound_cap = false;
      enhanced_port0 = false;
    }

-- NodeInfo of a node, asked at this port
abbrev pub node_info_of : NodeType → ℕ → ℕ → ℕ → ℕ → NodeInfo
node_info_of node_type num_ports node_guid port_guid local_port_num =
    record {
      base_version = 1;
      class_version = 1;
      node_type = node_type_code node_type;
      num_ports = num_ports;
      system_image_guid = node_guid;
      node_guid = node_guid;
      port_guid = port_guid;
      partition_cap = PARTITIONS;
      device_id = 0;
      revision = 0;
      local_port_num = local_port_num;
      vendor_id = 0;
    }

-- a P_Key table: the full key of the default partition, and empty places for as many keys as a port holds
abbrev pub keys_at_power_up : List ℕ
keys_at_power_up = 65535 ∷ replicate (PARTITIONS - 1) 0
