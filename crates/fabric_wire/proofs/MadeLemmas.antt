-- A fabric whose parts are those of a topology's fabric is that fabric.
use Rattle.std.proofs.Common.{◌≡◌, List}
use Rattle.fabric_parts.specs.declared.cable.PortRef.{PortRef}
use Rattle.topo_file.specs.Topology.{TopologyState}
use Rattle.smp_wire.specs.declared.node.Node.{Node}
use Rattle.smp_wire.specs.FabricState.{FabricState}
use Rattle.fabric_wire.specs.Cabling.{CablingState, fabric_over, uncut}
use Rattle.fabric_wire.specs.OfTopology.{fabric_of}

pub made : (P : FabricState → Type 0) (plan : TopologyState) (nodes : List Node) (cabling : CablingState) (manager : PortRef)
    → nodes ≡ (fabric_of plan).nodes → cabling ≡ uncut plan.cables → manager ≡ plan.sm
    → P (fabric_of plan) → P (fabric_over nodes cabling manager)
made P plan nodes cabling manager same_nodes same_cables same_port is =
    rw (same_nodes, same_cables, same_port) is
