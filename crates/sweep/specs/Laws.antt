-- What is so of every graph of a fabric: the statements of the laws of `src/laws.rt`.
use Rattle.std.specs.Prelude.{ℕ, ◌≡◌, ◌↔◌, true, false, Some, None}
use Rattle.std.specs.List.{Contains}
use Rattle.fabric_parts.specs.Cable.{far_end, is_same_port}
use Rattle.fabric_parts.specs.declared.cable.PortRef.{PortRef}
use Rattle.smp_wire.specs.FabricState.{FabricState, is_switch_at}
use Rattle.smp_wire.specs.Good.{IsGood, SwitchesJoined}
use Rattle.sweep.specs.EndPorts.{FabricPort, end_port_in, end_ports_in}
use Rattle.sweep.specs.Graph.{GraphState, IsGraph, is_linked}
use Rattle.sweep.specs.Hops.{IsTooFar}
use Rattle.sweep.specs.OfFabric.{IsLayoutOf, guid_at, nodes_of, placed, ports_at}
use Rattle.sweep.specs.Recabled.{IsWhole, MayBeCabled, with_cable, without}
use Rattle.sweep.specs.Seen.{name_at, seen_at}

-- an end port is the graph's if and only if it is the fabric's, whatever its node holds
abbrev pub GraphsHaveTheEndPorts : Type 0
GraphsHaveTheEndPorts =
    (fabric : FabricState) (graph : GraphState) (end : FabricPort) → IsGood fabric → IsLayoutOf graph fabric
    → Contains (end_ports_in graph) end ↔ ((at : PortRef) × (end_port_in fabric at ≡ Some end))

-- a graph is whole if and only if a sweep of its fabric finds all of it: if cables join the switches, and none is too far
abbrev pub WholeGraphsAreSwept : Type 0
WholeGraphsAreSwept =
    (fabric : FabricState) (graph : GraphState) → IsGood fabric → IsLayoutOf graph fabric
    → IsWhole graph ↔ (SwitchesJoined fabric × (IsTooFar fabric → ⊥))

-- ---- a cable cut and mended
-- a mended cable that is cut again leaves the graph as it was, and a cut one that is mended too
abbrev pub CablesComeBack : Type 0
CablesComeBack =
    (graph : GraphState) (a b : PortRef) → IsGraph graph
    → (MayBeCabled graph a b → without a b (with_cable a b graph) ≡ graph)
    × (is_linked graph.rows a b ≡ true → with_cable a b (without a b graph) ≡ graph)

-- two fabrics have the same nodes, as far as a graph shows them, and the same subnet manager's port
pub record AreAlike (one other : FabricState) : Type 0 where
  pub switches : (node : ℕ) → is_switch_at one.nodes node ≡ is_switch_at other.nodes node
  pub counts : (node : ℕ) → ports_at one node ≡ ports_at other node
  pub guids : (node : ℕ) → guid_at one node ≡ guid_at other node
  pub names : (at : PortRef) → name_at one at ≡ name_at other at
  pub shown : (at : PortRef) → seen_at one at ≡ seen_at other at
  pub manager : one.manager ≡ other.manager

-- the second fabric is the first without the cable between these ports of two switches
pub record IsCut (whole cut : FabricState) (a b : PortRef) : Type 0 where
  pub alike : AreAlike whole cut
  pub first : is_switch_at whole.nodes a.node ≡ true
  pub second : is_switch_at whole.nodes b.node ≡ true
  pub joined : far_end whole.cables a ≡ Some b
  pub first_free : far_end cut.cables a ≡ None
  pub second_free : far_end cut.cables b ≡ None
  pub others : (at : PortRef) → is_same_port at a ≡ false → is_same_port at b ≡ false → far_end cut.cables at ≡ far_end whole.cables at

-- a port of a node, as that of a switch by its place in the graph
abbrev pub in_graph : {graph : GraphState} {fabric : FabricState} → IsLayoutOf graph fabric → PortRef → PortRef
in_graph layout at = placed (nodes_of layout.found) at

-- if a cable between switches of a good fabric is cut, it can be taken from the graph, and the graph without it is that of
-- what is left; and if it is mended, it can be put into the graph, and the graph with it is that of the fabric then
abbrev pub GraphsAreRecabled : Type 0
GraphsAreRecabled =
    (whole cut : FabricState) (a b : PortRef) (graph : GraphState) → IsGood whole → IsCut whole cut a b
    → ((layout : IsLayoutOf graph whole) → (is_linked graph.rows (in_graph layout a) (in_graph layout b) ≡ true)
    × IsLayoutOf (without (in_graph layout a) (in_graph layout b) graph) cut)
    × ((layout : IsLayoutOf graph cut) → MayBeCabled graph (in_graph layout a) (in_graph layout b)
    × IsLayoutOf (with_cable (in_graph layout a) (in_graph layout b) graph) whole)
