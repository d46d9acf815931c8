-- The roots of small fabrics, computed.
use Rattle.std.proofs.Common.{refl}
use Rattle.step_results.specs.AtLine.{after_lines}
use Rattle.topo_file.specs.Topology.{after_line, after_words, cable_of, cable_encoded, manager_of, manager_encoded, node_of, node_encoded, root_of, root_encoded, topology_within, whole}
use Rattle.audit_plan.specs.Plan.{cable_at, cables_apart, joining_cables, plan_found}
use Rattle.rooted_import.specs.Examples.{RootsAreAdded, SpinesAreTops}

pub spines_are_tops : SpinesAreTops
unfolding cable_at cables_apart joining_cables plan_found
spines_are_tops = refl

pub roots_are_added : RootsAreAdded
unfolding after_line after_lines after_words cable_of cable_encoded manager_of manager_encoded node_of node_encoded root_of root_encoded topology_within whole
roots_are_added = record { two = refl; one = refl; none = refl; of_a_host = refl; of_nobody = refl }
