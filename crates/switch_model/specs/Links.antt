-- A cable that is taken away from a port of a switch, or put back there: PortState and PortPhysicalState are those of a port
-- without a cable or with one at power-up (IBA volume 1, 14.2.5.6), and all else stays.
use Rattle.std.specs.Prelude.{ℕ, Bool, if◌then◌else◌, List, slice_get, slice_set}
use Rattle.std.specs.Option.{option_map_or}
use Rattle.agent_rules.specs.PowerUp.{physical_state_at_power_up, state_at_power_up}
use Rattle.agent_rules.specs.declared.link.PortLink.{PortLink}
use Rattle.agent_rules.specs.declared.link.PortLink.TheVariants.{Cabled, Uncabled}
use Rattle.attr_tables.specs.declared.port_info.PortInfo.{PortInfo}
use Rattle.switch_model.specs.SwitchState.{SwitchState}
use Rattle.switch_model.specs.declared.switch_port.SwitchPort.{SwitchPort}

-- the link of a port to which a cable leads, or none
abbrev pub link_of : Bool → PortLink
link_of up = if up then Cabled else Uncabled

abbrev pub linked : Bool → PortInfo → PortInfo
linked up info =
    record info { port_state = state_at_power_up (link_of up); port_physical_state = physical_state_at_power_up (link_of up) }

abbrev pub port_linked : Bool → SwitchPort → SwitchPort
port_linked up port = record port { info = linked up port.info }

-- the port of that number alone
abbrev pub ports_linked : ℕ → Bool → List SwitchPort → List SwitchPort
ports_linked number up ports = option_map_or (λ port. slice_set ports number (port_linked up port)) (slice_get ports number) ports

abbrev pub with_link : ℕ → Bool → SwitchState → SwitchState
with_link number up held = record held { ports = ports_linked number up held.ports }
