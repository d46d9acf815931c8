-- The cables that a fabric can't do without.
use Rattle.std.specs.Prelude.{◌≡◌, Bool, true, List}
use Rattle.std.specs.Bool.{Decides}
use Rattle.std.specs.List.{AllZip}
use Rattle.fabric_parts.specs.declared.cable.Cable.{Cable}
use Rattle.subnet_fabric.specs.Standing.{CanComeUp}
use Rattle.topo_file.specs.Topology.{TopologyState}
use Rattle.cable_cuts.specs.Cables.{joins_switches, without_cable}

-- it is between switches, and the fabric of the topology without it does not come up
abbrev pub IsNeeded : TopologyState → Cable → Type 0
IsNeeded plan cable = (joins_switches plan.nodes cable ≡ true) × (CanComeUp (without_cable cable plan) → ⊥)

-- which of these cables are
abbrev pub AreNeeded : TopologyState → List Cable → List Bool → Type 0
AreNeeded plan cables all = AllZip (λ cable needed. Decides needed (IsNeeded plan cable)) cables all
