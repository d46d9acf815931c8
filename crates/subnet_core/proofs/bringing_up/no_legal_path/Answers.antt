use Rattle.subnet_core.proofs.BringUpLemmas.{lids_in_order, port_is_listed, switch_is_listed}
use Rattle.subnet_core.proofs.bringing_up.no_legal_path.Goals as goal

pub port_with_lid-from-requires-clause-order : goal.port_with_lid-from-requires-clause-order
port_with_lid-from-requires-clause-order c = rw (c.ports-ports.ensures, c.configuration.ensures) (lids_in_order _ c.known_listed.ensures)

pub port_with_lid-from-requires-clause-last : goal.port_with_lid-from-requires-clause-last
port_with_lid-from-requires-clause-last c = rw (c.ports-ports.ensures, c.configuration.ensures) (switch_is_listed _ c.known_listed.ensures _ _ c.requires).last

pub port_with_lid-to-requires-clause-order : goal.port_with_lid-to-requires-clause-order
port_with_lid-to-requires-clause-order c = rw (c.ports-ports.ensures, c.configuration.ensures) (lids_in_order _ c.known_listed.ensures)

pub port_with_lid-to-requires-clause-last : goal.port_with_lid-to-requires-clause-last
port_with_lid-to-requires-clause-last c = rw (c.ports-ports.ensures, c.configuration.ensures) (port_is_listed _ c.known_listed.ensures _ _ c.requires).last
