-- What a Set of PortInfo (IBA volume 1, 14.2.5.6) asks for, when a port of a simulated node takes
-- it, and what the port has then. All other fields of the attribute are not looked at.
use Rattle.std.specs.Prelude.{ℕ, ◌^◌, ◌<◌, ◌==◌, Bool, ◌&&◌, ◌||◌, nat_le, if◌then◌else◌, List, Result, Ok, Err}
use Rattle.fabric_parts.specs.declared.lid.TheConstants.{LAST_UNICAST_LID}
use Rattle.mad_layout.specs.declared.status.MadStatus.{MadStatus}
use Rattle.mad_layout.specs.declared.status.MadStatus.TheVariants.{InvalidField}
use Rattle.attr_tables.specs.declared.port_info.PortInfo.{PortInfo}
use Rattle.agent_rules.specs.declared.port_setting.PortSetting.{PortSetting}
use Rattle.attr_tables.specs.declared.port_state.PortState.TheVariants.{NoChange, Down, Initialize, Armed, Active}
use Rattle.attr_tables.specs.PortState.{port_state_code}
use Rattle.mad_layout.specs.Bits.{field}

-- what PortInfo asks for
abbrev pub setting_asked : PortInfo → PortSetting
setting_asked info =
    record {
      gid_prefix = info.gid_prefix;
      lid = info.lid;
      master_sm_lid = info.master_sm_lid;
      port_state = info.port_state;
      lmc = info.lmc;
      neighbor_mtu = info.neighbor_mtu;
      master_sm_sl = info.master_sm_sl;
      partition_enforcement_inbound = info.partition_enforcement_inbound;
      partition_enforcement_outbound = info.partition_enforcement_outbound;
    }

-- what an attribute asks for, read at the places of PortInfo
unfoldable pub port_setting : List ℕ → PortSetting
port_setting attribute =
    record {
      gid_prefix = field attribute 64 64;
      lid = field attribute 128 16;
      master_sm_lid = field attribute 144 16;
      port_state = field attribute 260 4;
      lmc = field attribute 277 3;
      neighbor_mtu = field attribute 288 4;
      master_sm_sl = field attribute 292 4;
      partition_enforcement_inbound = field attribute 348 1 == 1;
      partition_enforcement_outbound = field attribute 349 1 == 1;
    }

-- the setting is as narrow as the fields of PortInfo
pub record IsNarrow (wanted : PortSetting) : Type 0 where
  pub gid_prefix : wanted.gid_prefix < 2 ^ 64
  pub lid : wanted.lid < 2 ^ 16
  pub master_sm_lid : wanted.master_sm_lid < 2 ^ 16
  pub port_state : wanted.port_state < 2 ^ 4
  pub lmc : wanted.lmc < 2 ^ 3
  pub neighbor_mtu : wanted.neighbor_mtu < 2 ^ 4
  pub master_sm_sl : wanted.master_sm_sl < 2 ^ 4

-- a port is Down
abbrev pub is_down : PortInfo → Bool
is_down info = info.port_state == port_state_code Down

-- the port becomes Armed from Initialize and Active from Armed; either may be asked for again
abbrev pub may_follow : ℕ → ℕ → Bool
may_follow now next =
    ((next == port_state_code Armed) && ((now == port_state_code Initialize) || (now == port_state_code Armed)))
    || ((next == port_state_code Active) && ((now == port_state_code Armed) || (now == port_state_code Active)))

abbrev pub is_no_change : PortSetting → Bool
is_no_change wanted = wanted.port_state == port_state_code NoChange

-- one LID a port (LMC 0), packets of 256 to 2048 bytes, a unicast LID or none, a state that the port
-- may have next
unfoldable pub is_valid : PortInfo → PortSetting → Bool
is_valid info wanted =
    (wanted.lmc == 0)
    && ((nat_le 1 wanted.neighbor_mtu && nat_le wanted.neighbor_mtu 4)
    && (nat_le wanted.lid LAST_UNICAST_LID && (is_no_change wanted || may_follow info.port_state wanted.port_state)))

-- what the port then has; only a port that can enforce partitions takes the two enforcement bits
unfoldable pub taken_over : Bool → PortInfo → PortSetting → PortInfo
taken_over enforces info wanted =
    record info {
      gid_prefix = wanted.gid_prefix;
      lid = wanted.lid;
      master_sm_lid = wanted.master_sm_lid;
      port_state = if is_no_change wanted then info.port_state else wanted.port_state;
      neighbor_mtu = wanted.neighbor_mtu;
      master_sm_sl = wanted.master_sm_sl;
      partition_enforcement_inbound = if enforces then wanted.partition_enforcement_inbound else info.partition_enforcement_inbound;
      partition_enforcement_outbound = if enforces then wanted.partition_enforcement_outbound else info.partition_enforcement_outbound;
    }

-- the port's information after a Set
abbrev pub port_info_after : Bool → PortInfo → PortSetting → Result PortInfo MadStatus
port_info_after enforces info wanted =
    if is_valid info wanted then Ok (taken_over enforces info wanted) else Err InvalidField
