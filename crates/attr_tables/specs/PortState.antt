-- The states of a link (IBA volume 1, 14.2.5.6), by their codes.
use Rattle.std.specs.Prelude.{ℕ}
use Rattle.attr_tables.specs.declared.port_state.PortState.{PortState}
use Rattle.attr_tables.specs.declared.port_state.PortState.TheVariants.{NoChange, Down, Initialize, Armed, Active}

abbrev pub port_state_code : PortState → ℕ
port_state_code NoChange = 0
port_state_code Down = 1
port_state_code Initialize = 2
port_state_code Armed = 3
port_state_code Active = 4
