-- One port more of an adapter, and one node more of a fabric.
use Rattle.std.proofs.Common.{ℕ, ◌≡◌, ◌+◌, ◌-◌, ◌<◌, ◌≤◌, ◌∙◌, ap, ap₂, sym, List, [], ◌∷◌, ◌++◌, map, length, take, get_or, arith, length-take-le}
use Rattle.std.specs.List.{range_with_len}
use Rattle.std.proofs.lemmas.List.{take_more}
use Rattle.std.proofs.lemmas.List.FromFn.{map-range_with_len_more}
use Rattle.fabric_parts.specs.declared.cable.Cable.{Cable}
use Rattle.topo_file.specs.declared.node.Node.{Node as PlannedNode}
use Rattle.smp_wire.specs.declared.node.Node.{Node}
use Rattle.fabric_wire.specs.OfTopology.{node_of}
use Rattle.fabric_wire.proofs.OfTopologyLemmas.{nodes_from}

pub one_port_more : {X : Type 0} (of : ℕ → X) (number : ℕ) (ports next : List X) (port : X) → 1 ≤ number
    → ports ≡ map of (range_with_len 1 (number - 1))
    → port ≡ of number → next ≡ ports ++ port ∷ [] → next ≡ map of (range_with_len 1 (number + 1 - 1))
one_port_more of number ports next port first so_far made pushed =
    let place : 1 + (number - 1) ≡ number = omega (arith, first) in
    let count : (number - 1) + 1 ≡ number + 1 - 1 = omega (arith, first) in
    pushed
    ∙ ap₂ (λ (all : List _) (one : _). all ++ one ∷ []) so_far made
    ∙ sym (map-range_with_len_more of 1 (number - 1) number place)
    ∙ ap (λ (k : ℕ). map of (range_with_len 1 k)) count

nodes_more : (cables : List Cable) (first : ℕ) (nodes : List PlannedNode) (node : PlannedNode)
    → nodes_from cables first (nodes ++ node ∷ []) ≡ nodes_from cables first nodes ++ node_of cables (first + length nodes) node ∷ []
nodes_more cables first [] node =
    let place : first ≡ first + 0 = omega arith in
    ap (λ (k : ℕ). node_of cables k node ∷ []) place
nodes_more cables first (one ∷ nodes) node =
    let place : (first + 1) + length nodes ≡ first + length (one ∷ nodes) = omega arith in
    ap (λ (later : List Node). node_of cables first one ∷ later)
    (nodes_more cables (first + 1) nodes node ∙ ap (λ (k : ℕ). nodes_from cables (first + 1) nodes ++ node_of cables k node ∷ []) place)

pub one_node_more : (cables : List Cable) (planned : List PlannedNode) (place : ℕ) (none : PlannedNode) (nodes next : List Node) (node : Node)
    → place < length planned
    → nodes ≡ nodes_from cables 0 (take place planned) → node ≡ node_of cables place (get_or planned place none) → next ≡ nodes ++ node ∷ []
    → next ≡ nodes_from cables 0 (take (place + 1) planned)
one_node_more cables planned place none nodes next node within so_far made pushed =
    let long = length-take-le place planned (omega (arith, within)) in
    let here : 0 + length (take place planned) ≡ place = omega (arith, long) in
    pushed
    ∙ ap₂ (λ (all : List Node) (one : Node). all ++ one ∷ []) so_far (made ∙ ap (λ (k : ℕ). node_of cables k (get_or planned place none)) (sym here))
    ∙ sym (nodes_more cables 0 (take place planned) (get_or planned place none))
    ∙ ap (nodes_from cables 0) (sym (take_more planned place none within))
