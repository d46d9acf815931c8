-- What a switch holds at all times, whatever SMPs came to it.
use Rattle.std.specs.Prelude.{ℕ, ◌≡◌, length}
use Rattle.std.specs.List.{All}
use Rattle.mad_layout.specs.Layout.{Fits}
use Rattle.attr_tables.specs.Attribute.{IsAttribute}
use Rattle.attr_tables.specs.SwitchInfo.{switch_info}
use Rattle.agent_rules.specs.Good.{IsGoodInfo, IsKeyTable, IsTable}
use Rattle.switch_model.specs.declared.switch_port.SwitchPort.{SwitchPort}
use Rattle.switch_model.specs.SwitchState.{SwitchState}

pub record IsGoodPort (port : SwitchPort) : Type 0 where
  pub info : IsGoodInfo port.info
  pub keys : IsKeyTable port.keys

-- a switch with tables for so many LIDs and multicast LIDs
pub record IsGoodSwitch (lids multicast_lids : ℕ) (switch : SwitchState) : Type 0 where
  pub description : IsAttribute switch.description
  -- SwitchInfo as switches hold it: each field is as narrow as its place
  pub info : Fits (switch_info switch.info)
  pub ports : All IsGoodPort switch.ports
  pub linear : IsTable lids 256 switch.linear
  -- three positions, for ports 0 to 47
  pub positions : length switch.masks ≡ 3
  pub masks : All (IsTable multicast_lids 65536) switch.masks
