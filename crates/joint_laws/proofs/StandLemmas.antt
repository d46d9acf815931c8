-- Where the switches of a topology stand in the graph of its fabric, and where links lead.
use Rattle.std.proofs.Common.{ℕ, ◌≡◌, ◌≤◌, ◌<◌, ◌∙◌, ap, sym, true, false, List, length, slice_get, Some}
use Rattle.std.proofs.lemmas.Bool.{false≢true}
use Rattle.std.proofs.lemmas.Option.{same_Some}
use Rattle.fabric_parts.specs.Cable.{far_end, port}
use Rattle.fabric_parts.specs.declared.cable.Cable.{Cable}
use Rattle.fabric_parts.specs.declared.cable.PortRef.{PortRef}
use Rattle.fabric_wire.proofs.OfTopologyGoodLemmas.{good}
use Rattle.fabric_wire.proofs.OfTopologyLemmas.{switch_there}
use Rattle.fabric_wire.specs.OfTopology.{fabric_of}
use Rattle.smp_wire.proofs.CableLemmas.{cabled_is_port}
use Rattle.smp_wire.proofs.PresentLemmas.{present_right}
use Rattle.smp_wire.specs.FabricState.{is_switch_at as is_switch_in}
use Rattle.sweep.proofs.FoundLemmas.{among_at, among_place, node_there, one_place as one_at, place_is}
use Rattle.sweep.proofs.LeastLemmas.{in_range}
use Rattle.sweep.proofs.WholeLemmas.{found_there}
use Rattle.sweep.specs.Graph.{GraphState}
use Rattle.sweep.specs.OfFabric.{Found, IsGraphOf, nodes_of, place_of}
use Rattle.table_push.proofs.OwnLemmas.{few_ports}
use Rattle.table_push.proofs.RowLemmas.{linked, row_within}
use Rattle.topo_file.specs.Node.{is_switch_at}
use Rattle.topo_file.specs.Sound.{IsSound}
use Rattle.topo_file.specs.Topology.{TopologyState}
use Rattle.updn_routes.specs.Cabling.{leads}
use Rattle.updn_routes.specs.Subnet.{rows_of}

-- a port has one far end
pub one_end : (cables : List Cable) (a b one other : PortRef) → far_end cables a ≡ Some one → a ≡ b → far_end cables b ≡ Some other → one ≡ other
one_end cables a b one other first same second = same_Some one other (sym first ∙ ap (far_end cables) same ∙ second)

-- what is an adapter in the fabric is none of the topology's switches
pub no_switch : (plan : TopologyState) (a b : PortRef) → is_switch_in (fabric_of plan).nodes a.node ≡ false → a ≡ b → is_switch_at plan.nodes b.node ≡ true → ⊥
no_switch plan a b adapter same switch =
    false≢true (sym adapter ∙ switch_there plan.cables plan.nodes a.node ∙ ap (λ (p : PortRef). is_switch_at plan.nodes p.node) same ∙ switch)

-- the node is the switch at that place of the graph
pub record Stands (all : List Found) (node place : ℕ) : Type 0 where
  pub one : Found
  pub there : slice_get all place ≡ Some one
  pub node_is : one.node ≡ node

pub named_node : (all : List Found) (node place : ℕ) → Stands all node place → slice_get (nodes_of all) place ≡ Some node
named_node all node place stands = node_there all place stands.one stands.there ∙ ap (λ (n : ℕ). Some n) stands.node_is

module _ (plan : TopologyState) (sound : IsSound plan) (graph : GraphState) (of : IsGraphOf graph (fabric_of plan)) where
  abbrev all : List Found
  all = of.layout.found

  pub place_for : (node : ℕ) → is_switch_at plan.nodes node ≡ true → (place : ℕ) × Stands all node place
  place_for node is =
      let among = of.layout.all node ∙ switch_there plan.cables plan.nodes node ∙ is in
      let place = among_place (nodes_of all) node among in
      let one = found_there all place.0 node place.1 in
      (place.0, record { one = one.0; there = one.1; node_is = one.2 })

  pub is_switch_there : (node place : ℕ) → Stands all node place → is_switch_at plan.nodes node ≡ true
  is_switch_there node place stands =
      sym (switch_there plan.cables plan.nodes node) ∙ sym (of.layout.all node) ∙ among_at (nodes_of all) place node (named_node all node place stands)

  pub one_place : (node p q : ℕ) → Stands all node p → Stands all node q → p ≡ q
  one_place node p q here there = one_at (nodes_of all) p q node of.layout.once (named_node all node p here) (named_node all node q there)

  pub place_in : (node place : ℕ) → Stands all node place → place_of (nodes_of all) node ≡ place
  place_in node place stands = place_is (nodes_of all) place node of.layout.once (named_node all node place stands)

  pub attachment : (node : ℕ) → is_switch_at plan.nodes node ≡ true → Stands all node (place_of (nodes_of all) node)
  attachment node is =
      let at = place_for node is in
      record { one = at.1.one; there = ap (slice_get all) (place_in node at.0 at.1) ∙ at.1.there; node_is = at.1.node_is }

  pub within : (node place : ℕ) → Stands all node place → place < length (rows_of graph)
  within node place stands = row_within (fabric_of plan) graph place stands.one of stands.there

  -- ---- where a link leads
  pub record Goes (node out t : ℕ) : Type 0 where
    pub there : PortRef
    pub cable : far_end plan.cables (port node out) ≡ Some there
    pub switch : is_switch_at plan.nodes there.node ≡ true
    pub stands : Stands all there.node t

  pub goes : (node place out t : ℕ) → Stands all node place → leads (rows_of graph) place out t ≡ true → Goes node out t
  goes node place out t stands leading =
      let link = linked (fabric_of plan) graph place out t stands.one of stands.there leading in
      let switch : is_switch_at plan.nodes link.there.node ≡ true = sym (switch_there plan.cables plan.nodes link.there.node) ∙ link.switch in
      let at = place_for link.there.node switch in
      let same : at.0 ≡ t = sym (place_in link.there.node at.0 at.1) ∙ link.place in
      record {
        there = link.there;
        cable = ap (λ (n : ℕ). far_end plan.cables (port n out)) (sym stands.node_is) ∙ link.cable;
        switch = switch;
        stands = record { one = at.1.one; there = ap (slice_get all) (sym same) ∙ at.1.there; node_is = at.1.node_is };
      }

  -- a port with a cable is one of the first 36
  pub few : (node out : ℕ) (there : PortRef) → far_end plan.cables (port node out) ≡ Some there → (1 ≤ out) × (out ≤ 36)
  few node out there cable =
      let range = in_range (fabric_of plan) node out
      (cabled_is_port (fabric_of plan).nodes plan.cables (port node out) there (present_right (good plan sound)) cable) in
      (range.0, few_ports (fabric_of plan).nodes node out (good plan sound).counts range.1)
