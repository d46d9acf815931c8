-- The states of the physical link (IBA volume 1, 14.2.5.6) that a simulated port has, by their codes.
use Rattle.std.specs.Prelude.{ℕ}
use Rattle.attr_tables.specs.declared.port_physical_state.PortPhysicalState.{PortPhysicalState}
use Rattle.attr_tables.specs.declared.port_physical_state.PortPhysicalState.TheVariants.{Polling, LinkUp}

abbrev pub port_physical_state_code : PortPhysicalState → ℕ
port_physical_state_code Polling = 2
port_physical_state_code LinkUp = 5
