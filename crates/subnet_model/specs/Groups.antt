-- Whom a packet reaches by the multicast groups of its LID: each port that has joined one and may receive the packet,
-- but not the port that sends it.
use Rattle.std.specs.Prelude.{ℕ, ◌≡◌, Bool, true, false, not, ◌==◌, ◌&&◌}
use Rattle.fabric_parts.specs.NodeType.{is_switch_type}
use Rattle.pkey_rules.specs.KeyTable.{accepts}
use Rattle.subnet_model.specs.declared.subnet_port.SubnetPort.{SubnetPort}
use Rattle.subnet_model.specs.declared.command.SendCommand.{SendCommand}
use Rattle.subnet_model.specs.Delivery.{reaches, reaches_joined}

pub record GroupsReachOthers : Type 0 where
  pub member : (has_joined : ℕ → Bool) (command : SendCommand) (port : SubnetPort)
      → has_joined port.guid ≡ true → (port.guid == command.port_guid) ≡ false
      → reaches_joined has_joined command port ≡ (not (is_switch_type port.node_type) && accepts command.p_key port.keys)
  -- these it reaches as if nobody had joined
  pub sender : (has_joined : ℕ → Bool) (command : SendCommand) (port : SubnetPort)
      → (port.guid == command.port_guid) ≡ true → reaches_joined has_joined command port ≡ reaches command port
  pub stranger : (has_joined : ℕ → Bool) (command : SendCommand) (port : SubnetPort)
      → has_joined port.guid ≡ false → reaches_joined has_joined command port ≡ reaches command port
