-- What simulated ports and tables hold at all times, whatever SMPs came: what attributes can say, and what lets
-- a port take back what it has.
use Rattle.std.specs.Prelude.{ℕ, ◌≡◌, ◌==◌, Bool, true, ◌&&◌, nat_le, nat_lt, List, length}
use Rattle.std.specs.List.{list_all}
use Rattle.fabric_parts.specs.declared.lid.TheConstants.{LAST_UNICAST_LID}
use Rattle.mad_layout.specs.Layout.{Fits}
use Rattle.attr_tables.specs.declared.port_info.PortInfo.{PortInfo}
use Rattle.attr_tables.specs.declared.port_state.PortState.TheVariants.{Down, Active}
use Rattle.attr_tables.specs.PortInfo.{port_info}
use Rattle.attr_tables.specs.PortState.{port_state_code}
use Rattle.pkey_rules.specs.declared.key_table.TheConstants.{PARTITIONS}

-- one LID a port (LMC 0), packets of 256 to 2048 bytes, a unicast LID or none, and a state from Down to Active
abbrev pub is_regular : PortInfo → Bool
is_regular info =
    (info.lmc == 0)
    && ((nat_le 1 info.neighbor_mtu && nat_le info.neighbor_mtu 4)
    && (nat_le info.lid LAST_UNICAST_LID
    && (nat_le (port_state_code Down) info.port_state && nat_le info.port_state (port_state_code Active))))

-- PortInfo as ports hold it: each field is as narrow as its place
pub record IsGoodInfo (info : PortInfo) : Type 0 where
  pub fits : Fits (port_info info)
  pub regular : is_regular info ≡ true

-- a table of so many entries, each below the limit
pub record IsTable (entries limit : ℕ) (table : List ℕ) : Type 0 where
  pub count : length table ≡ entries
  pub below : list_all (λ entry. nat_lt entry limit) table ≡ true

-- a port's P_Key table: room for a key of each partition, in words of 16 bits
abbrev pub IsKeyTable : List ℕ → Type 0
IsKeyTable keys = IsTable PARTITIONS 65536 keys
