-- What nodes know of a fabric when they hand SMPs on, and the way home of an answer: it leaves each node by
-- the port by which the request came in (IBA volume 1, chapter 14).
use Rattle.std.specs.Prelude.{ℕ, zero, suc, ◌==◌, ◌&&◌, ◌||◌, Bool, false, if◌then◌else◌, List}
use Rattle.std.specs.Option.{option_map_or}
use Rattle.fabric_parts.specs.declared.node_type.NodeType.{NodeType}
use Rattle.fabric_parts.specs.declared.node_type.NodeType.TheVariants.{ChannelAdapter, Switch}
use Rattle.smp_route.specs.HopFields.{return_port}
use Rattle.fabric_parts.specs.declared.cable.Cable.{Cable}
use Rattle.smp_wire.specs.declared.node.Node.{Node}
use Rattle.fabric_parts.specs.Cable.{far_end}
use Rattle.smp_wire.specs.FabricState.{is_switch_at}

-- the kind of the node there; a place without a node counts as a channel adapter
abbrev pub node_type_at : List Node → ℕ → NodeType
node_type_at nodes place = if is_switch_at nodes place then Switch else ChannelAdapter

-- so many hops are left: they end at the subnet manager's node, and before it only switches hand on
abbrev pub leads_home : List Node → List Cable → ℕ → List ℕ → ℕ → ℕ → Bool
leads_home nodes cables manager smp zero node = node == manager
leads_home nodes cables manager smp (suc left) node =
    option_map_or
    (λ there. ((left == 0) || is_switch_at nodes there.node) && leads_home nodes cables manager smp left there.node)
    (far_end cables (record { node = node; port = return_port smp (suc left) })) false
