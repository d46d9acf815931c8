-- A cable between two switches that is cut, or mended: the ports at both its ends show it, and nothing else of the fabric changes.
use Rattle.std.specs.Prelude.{ℕ, ◌&&◌, Bool, if◌then◌else◌, List, slice_get, slice_set}
use Rattle.std.specs.List.{list_any}
use Rattle.std.specs.Option.{option_map_or}
use Rattle.fabric_parts.specs.declared.cable.Cable.{Cable}
use Rattle.fabric_parts.specs.declared.cable.PortRef.{PortRef}
use Rattle.smp_wire.specs.FabricState.{FabricState, is_switch_at}
use Rattle.smp_wire.specs.declared.node.Node.{Node}
use Rattle.smp_wire.specs.declared.node.Node.TheVariants.{Switch, Adapter}
use Rattle.switch_model.specs.Links.{with_link}
use Rattle.fabric_wire.specs.Cabling.{CablingState, cable_cut, cable_mended, fabric_over, is_between}

-- ---- nodes
-- a port of a switch is up or down then; one of an adapter stays
abbrev pub node_linked : ℕ → Bool → Node → Node
node_linked number up (Switch held) = Switch (with_link number up held)
node_linked number up (Adapter ports) = Adapter ports

-- of these nodes that of the port alone
abbrev pub nodes_linked : Bool → PortRef → List Node → List Node
nodes_linked up at nodes =
    option_map_or (λ node. slice_set nodes at.node (node_linked at.port up node)) (slice_get nodes at.node) nodes

-- ---- cables
abbrev pub cabling_of : FabricState → CablingState
cabling_of fabric = record { cables = fabric.cables; cut = fabric.cut }

abbrev pub cabling_with : Bool → PortRef → PortRef → CablingState → CablingState
cabling_with up a b cabling = if up then cable_mended a b cabling else cable_cut a b cabling

-- those of which one can be mended, or cut
abbrev pub candidates : Bool → FabricState → List Cable
candidates up fabric = if up then fabric.cut else fabric.cables

-- the ports are of switches, and the cable between them is there and not yet so
abbrev pub can_change : PortRef → PortRef → Bool → FabricState → Bool
can_change a b up fabric =
    is_switch_at fabric.nodes a.node && (is_switch_at fabric.nodes b.node && list_any (is_between a b) (candidates up fabric))

-- ---- the fabric
abbrev pub changed : PortRef → PortRef → Bool → FabricState → FabricState
changed a b up fabric =
    fabric_over (nodes_linked up a (nodes_linked up b fabric.nodes)) (cabling_with up a b (cabling_of fabric)) fabric.manager

-- if it can't change, all stays
abbrev pub recabled : PortRef → PortRef → Bool → FabricState → FabricState
recabled a b up fabric = if can_change a b up fabric then changed a b up fabric else fabric
