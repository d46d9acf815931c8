-- The node of an end port, found by its name: the nodes of a fabric stand as its topology lists them.
use Rattle.std.specs.Prelude.{ℕ, List, slice_get, Option, option_map}
use Rattle.std.specs.Option.{option_and_then}
use Rattle.smp_wire.specs.FabricState.{FabricState}
use Rattle.smp_wire.specs.declared.node.Node.{Node}
use Rattle.subnet_model.specs.declared.subnet_port.SubnetPort.{SubnetPort}
use Rattle.topo_file.specs.Node.{place_of}
use Rattle.topo_file.specs.declared.node.Node.{Node as PlannedNode}

-- its place, and what it holds
abbrev pub node_of : List PlannedNode → FabricState → SubnetPort → Option (ℕ × Node)
node_of nodes fabric port =
    option_and_then (λ place. option_map (λ node. (place, node)) (slice_get fabric.nodes place)) (place_of port.node_name nodes)
