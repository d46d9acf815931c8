-- One more node keeps the limits on switches and adapter ports.
use Rattle.std.proofs.Common.{◌≡◌, ℕ, ◌+◌, nat_le, nat_lt, Bool, true, false, List, [], ◌∷◌, ◌++◌, ◌∙◌, ap, refl, arith}
use Rattle.std.proofs.lemmas.Bool.{leb-false, leb-true, ltb-false, ltb-true}
use Rattle.std.proofs.lemmas.Grind.{common_steps}
use Rattle.std.proofs.lemmas.List.Sums.{sum_by-append}
use Rattle.topo_file.specs.declared.node.Node.{Node}
use Rattle.fabric_parts.specs.declared.node_type.NodeType.{NodeType}
use Rattle.fabric_parts.specs.declared.node_type.NodeType.TheVariants.{Switch, ChannelAdapter}
use Rattle.fabric_parts.specs.Limits.{most_adapter_ports, most_switches}
use Rattle.fabric_parts.specs.declared.limits.Limits.{Limits}
use Rattle.topo_file.specs.Laws.{LimitsAreMet}
use Rattle.topo_file.specs.Node.{IsWithin, adapter_ports, is_one_too_many, port_guids, switch_count}

abbrev switch_count_of : NodeType → ℕ
switch_count_of Switch = 1
switch_count_of ChannelAdapter = 0

switches_of : (node : Node) (node_type : NodeType) → node.node_type ≡ node_type → switch_count (node ∷ []) ≡ switch_count_of node_type
switches_of node Switch e = rw e refl
switches_of node ChannelAdapter e = rw e refl

switches_more : (nodes : List Node) (node : Node) → switch_count (nodes ++ node ∷ []) ≡ switch_count nodes + switch_count (node ∷ [])
switches_more nodes node = grind (arith, common_steps)

ports_more : (nodes : List Node) (node : Node) → adapter_ports (nodes ++ node ∷ []) ≡ adapter_ports nodes + port_guids node.node_type node.ports
ports_more nodes node = sum_by-append (λ n. port_guids n.node_type n.ports) nodes (node ∷ []) ∙ ap (λ k. adapter_ports nodes + k) (omega arith)

more_of_type : (limits : Limits) (nodes : List Node) (node : Node) (node_type : NodeType) → node.node_type ≡ node_type
    → IsWithin limits nodes → is_one_too_many limits nodes node_type node.ports ≡ false → IsWithin limits (nodes ++ node ∷ [])
more_of_type limits nodes node Switch e within room = (
  omega (arith, switches_more nodes node, switches_of node Switch e, leb-false (most_switches limits) (switch_count nodes) room),
  omega (arith, ports_more nodes node, ap (λ k. port_guids k node.ports) e),
)
more_of_type limits nodes node ChannelAdapter e within room = (
  omega (arith, switches_more nodes node, switches_of node ChannelAdapter e),
  omega (arith, ports_more nodes node, ap (λ k. port_guids k node.ports) e, ltb-false (most_adapter_ports limits) (adapter_ports nodes + node.ports) room),
)

-- a node that is not one too many keeps the limits
pub within_limits_more : (limits : Limits) (nodes : List Node) (node : Node) → IsWithin limits nodes
    → is_one_too_many limits nodes node.node_type node.ports ≡ false → IsWithin limits (nodes ++ node ∷ [])
within_limits_more limits nodes node within room = more_of_type limits nodes node node.node_type refl within room

-- a switch is one more, an adapter so many more ports
pub one_switch_more : (nodes : List Node) (node : Node) → node.node_type ≡ Switch
    → (switch_count nodes + 1 ≡ switch_count (nodes ++ node ∷ [])) × (adapter_ports nodes ≡ adapter_ports (nodes ++ node ∷ []))
one_switch_more nodes node e = (
  omega (arith, switches_more nodes node, switches_of node Switch e),
  omega (arith, ports_more nodes node, ap (λ k. port_guids k node.ports) e),
)

pub one_adapter_more : (nodes : List Node) (node : Node) → node.node_type ≡ ChannelAdapter
    → (switch_count nodes ≡ switch_count (nodes ++ node ∷ [])) × (adapter_ports nodes + node.ports ≡ adapter_ports (nodes ++ node ∷ []))
one_adapter_more nodes node e = (
  omega (arith, switches_more nodes node, switches_of node ChannelAdapter e),
  omega (arith, ports_more nodes node, ap (λ k. port_guids k node.ports) e),
)

-- and one that keeps them is not one too many
untrue : (test : Bool) → (test ≡ true → ⊥) → test ≡ false
untrue true not = absurd (not refl)
untrue false not = refl

kept_by_type : (limits : Limits) (nodes : List Node) (node : Node) (node_type : NodeType) → node.node_type ≡ node_type
    → IsWithin limits (nodes ++ node ∷ []) → is_one_too_many limits nodes node_type node.ports ≡ false
kept_by_type limits nodes node Switch e within =
    untrue (nat_le (most_switches limits) (switch_count nodes)) (λ past.
    let low = leb-true (most_switches limits) (switch_count nodes) past in
    let more = switches_more nodes node in
    let one = switches_of node Switch e in
    let most = within.0 in
    omega (arith, low, more, one, most))
kept_by_type limits nodes node ChannelAdapter e within =
    untrue (nat_lt (most_adapter_ports limits) (adapter_ports nodes + node.ports)) (λ past.
    let low = ltb-true (most_adapter_ports limits) (adapter_ports nodes + node.ports) past in
    let more = ports_more nodes node in
    let own = ap (λ k. port_guids k node.ports) e in
    let most = within.1 in
    omega (arith, low, more, own, most))

pub limits_are_met : LimitsAreMet
limits_are_met limits nodes node within =
    (within_limits_more limits nodes node within, kept_by_type limits nodes node node.node_type refl)
