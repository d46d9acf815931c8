-- The end ports of a topology: how many there are, their order, and the keys beside them.
use Rattle.std.proofs.Common.{◌≡◌, ℕ, ◌+◌, ◌<◌, ◌≤◌, List, [], ◌∷◌, ◌++◌, length, take, get_or, map, fold, Option, Some, None, refl}
use Rattle.std.proofs.Common.{inl, inr, ◌∙◌, ap, append-nil, length-append, lit≤, arith, Iter, Global, Bor}
use Rattle.std.specs.Iterator.{AlwaysYields}
use Rattle.std.specs.List.{flat_map, enumerate_from, range_with_len, zip}
use Rattle.std.specs.Vec.Iter.{into_iter_steps}
use Rattle.std.specs.declared.iter.Zip.{Zip}
use Rattle.std.specs.declared.vec.IntoIter.{IntoIter}
use Rattle.std.proofs.iter.Yields.{fronts}
use Rattle.std.proofs.lemmas.Iterator.{zips}
use Rattle.std.proofs.lemmas.Bool.{cases_Bool}
use Rattle.std.proofs.lemmas.Grind.{common_steps}
use Rattle.std.proofs.lemmas.List.{take_more}
use Rattle.std.proofs.lemmas.List.Concat.{flat_map-append}
use Rattle.std.proofs.lemmas.List.FromFn.{get_or-enumerate_from, length-enumerate_from, length-map-range_with_len, map-range_with_len_more}
use Rattle.subnet_model.specs.declared.subnet_port.SubnetPort.{SubnetPort}
use Rattle.fabric_parts.specs.declared.cable.PortRef.{PortRef}
use Rattle.fabric_parts.specs.declared.node_type.NodeType.{NodeType}
use Rattle.fabric_parts.specs.declared.node_type.NodeType.TheVariants.{ChannelAdapter, Switch}
use Rattle.fabric_parts.specs.Cable.{is_cabled}
use Rattle.fabric_parts.specs.declared.limits.TheConstants.{LARGE_ADAPTER_PORTS, LARGE_SWITCHES}
use Rattle.topo_file.specs.declared.node.Node.{Node}
use Rattle.topo_file.specs.Node.{adapter_ports, port_guids, switch_count}
use Rattle.topo_file.specs.Topology.{TopologyState}
use Rattle.subnet_fabric.specs.declared.end_ports.EndPlace.{EndPlace}
use Rattle.partition_file.specs.declared.partition.Partition.{Partition}
use Rattle.partition_file.specs.Members.{keys_in}
use Rattle.pkey_rules.specs.declared.end_port.EndPort.{EndPort}
use Rattle.subnet_fabric.specs.Ports.{adapter_end_places, end_ports, keyed, end_place_if_cabled, end_places, end_places_at, end_places_of_type, with_end_place}

-- one more port of an adapter
pub adapter_end_places_more : (plan : TopologyState) (place : ℕ) (node : Node) (n : ℕ)
    → adapter_end_places plan place node (n + 1) ≡ adapter_end_places plan place node n ++ end_place_if_cabled plan node (record { node = place; port = n + 1 })
adapter_end_places_more plan place node n =
    let f : ℕ → PortRef = λ number. record { node = place; port = number } in
    ap (flat_map (end_place_if_cabled plan node)) (map-range_with_len_more f 1 n (n + 1) (omega arith))
    ∙ (flat_map-append (end_place_if_cabled plan node) (map f (range_with_len 1 n)) (f (n + 1) ∷ [])
    ∙ ap (λ end_places. adapter_end_places plan place node n ++ end_places) (append-nil (end_place_if_cabled plan node (f (n + 1)))))

pair_same : (i j : ℕ) (a b : Node) → i ≡ j → a ≡ b → let p : ℕ × Node = (i, a) in let q : ℕ × Node = (j, b) in p ≡ q
pair_same i j a b e f = rw (e, f) refl

-- one more node
pub end_places_more : (plan : TopologyState) (i : ℕ) (node : Node) → i < length plan.nodes → get_or plan.nodes i node ≡ node
    → flat_map (end_places_at plan) (take (i + 1) (enumerate_from 0 plan.nodes)) ≡ flat_map (end_places_at plan) (take i (enumerate_from 0 plan.nodes)) ++ end_places_of_type node.node_type plan i node
end_places_more plan i node inside here =
    let all : List (ℕ × Node) = enumerate_from 0 plan.nodes in
    let within : i < length all = omega (arith, length-enumerate_from 0 plan.nodes) in
    let at : get_or all i (0, node) ≡ (i, node) = get_or-enumerate_from 0 plan.nodes i (0, node) inside ∙ pair_same (0 + i) i (get_or plan.nodes i node) node (omega arith) here in
    ap (flat_map (end_places_at plan)) (take_more all i (0, node) within)
    ∙ (flat_map-append (end_places_at plan) (take i all) (get_or all i (0, node) ∷ [])
    ∙ ap (λ end_places. flat_map (end_places_at plan) (take i all) ++ end_places) (append-nil (end_places_at plan (get_or all i (0, node))) ∙ ap (end_places_at plan) at))

one_at_most : (plan : TopologyState) (node : Node) (at : PortRef) → length (end_place_if_cabled plan node at) ≤ 1
one_at_most plan node at = elim (cases_Bool (is_cabled plan.cables at)) [
  | inl cabled ↦ rw cabled (lit≤ tt)
  | inr free ↦ rw free (lit≤ tt)
]

few_of_adapter : (plan : TopologyState) (node : Node) (ats : List PortRef) → length (flat_map (end_place_if_cabled plan node) ats) ≤ length ats
few_of_adapter plan node [] = lit≤ tt
few_of_adapter plan node (at ∷ ats) =
    omega (arith, length-append (end_place_if_cabled plan node at) (flat_map (end_place_if_cabled plan node) ats), one_at_most plan node at, few_of_adapter plan node ats)

abbrev end_place_bound : NodeType → ℕ → ℕ
end_place_bound Switch ports = 1
end_place_bound ChannelAdapter ports = ports

few_of_type : (node_type : NodeType) (plan : TopologyState) (place : ℕ) (node : Node)
    → length (end_places_of_type node_type plan place node) ≤ end_place_bound node_type node.ports
few_of_type Switch plan place node = lit≤ tt
few_of_type ChannelAdapter plan place node =
    let f : ℕ → PortRef = λ number. record { node = place; port = number } in
    omega (arith, few_of_adapter plan node (map f (range_with_len 1 node.ports)), length-map-range_with_len f 1 node.ports)

counted_of_type : (node_type : NodeType) (node : Node) → node.node_type ≡ node_type
    → switch_count (node ∷ []) + port_guids node_type node.ports ≡ end_place_bound node_type node.ports
counted_of_type Switch node e = rw e refl
counted_of_type ChannelAdapter node e = rw e (omega arith)

few_from : (plan : TopologyState) (m : ℕ) (nodes : List Node)
    → length (flat_map (end_places_at plan) (enumerate_from m nodes)) ≤ switch_count nodes + adapter_ports nodes
few_from plan m [] = lit≤ tt
few_from plan m (node ∷ nodes) =
    let rest = flat_map (end_places_at plan) (enumerate_from (m + 1) nodes) in
    let split : length (flat_map (end_places_at plan) (enumerate_from m (node ∷ nodes))) ≡ length (end_places_at plan (m, node)) + length rest = length-append (end_places_at plan (m, node)) rest in
    let here : length (end_places_at plan (m, node)) ≤ end_place_bound node.node_type node.ports = few_of_type node.node_type plan m node in
    let counted : switch_count (node ∷ []) + port_guids node.node_type node.ports ≡ end_place_bound node.node_type node.ports = counted_of_type node.node_type node refl in
    let switches : switch_count (node ∷ nodes) ≡ switch_count (node ∷ []) + switch_count nodes = grind (arith, common_steps) in
    let ports : adapter_ports (node ∷ nodes) ≡ port_guids node.node_type node.ports + adapter_ports nodes = grind (arith, common_steps) in
    omega (arith, few_from plan (m + 1) nodes)

-- a subnet within the limits has few end ports
pub few_end_places : (plan : TopologyState) → switch_count plan.nodes ≤ 64 → adapter_ports plan.nodes ≤ 256 → length (end_places plan) ≤ 320
few_end_places plan switches ports = omega (arith, few_from plan 0 plan.nodes)

-- and one of any size
pub large_end_places : (plan : TopologyState) → switch_count plan.nodes ≤ LARGE_SWITCHES → adapter_ports plan.nodes ≤ LARGE_ADAPTER_PORTS
    → length (end_places plan) ≤ LARGE_SWITCHES + LARGE_ADAPTER_PORTS
large_end_places plan switches ports = omega (arith, few_from plan 0 plan.nodes, switches, ports)

-- ---- end_places beside their keys
-- the keys that were made for a list of end ports are those of the end_places
pub zip_is_keyed : (partitions : List Partition) (some : List EndPlace) → zip some (map (keys_in partitions) (end_ports some)) ≡ keyed partitions some
zip_is_keyed partitions [] = refl
zip_is_keyed partitions (end_place ∷ some) = ap (λ (rest : List (EndPlace × List ℕ)). (end_place, keys_in partitions end_place.port) ∷ rest) (zip_is_keyed partitions some)

abbrev pub end_places_and_keys : Zip (Iter EndPlace) (IntoIter (List ℕ) Global) → Option (Bor EndPlace × List ℕ) → Zip (Iter EndPlace) (IntoIter (List ℕ) Global)
    → Type 0
end_places_and_keys = zips fronts into_iter_steps

-- what the loop over them keeps: with what is left to come, the ports are all of them
pub record IsLeft {S A : Type 0} (steps : S → Option A → S → Type 0) (view : A → EndPlace × List ℕ) (nodes : List Node) (all : List EndPort) (ports : List SubnetPort) (source : S) (whole : List SubnetPort) : Type 0 where
  pub left : List (EndPlace × List ℕ)
  pub yields : AlwaysYields steps view source left
  pub same : fold (with_end_place nodes all) ports left ≡ whole

goes_on : {S A : Type 0} (steps : S → Option A → S → Type 0) (view : A → EndPlace × List ℕ) (nodes : List Node) (all : List EndPort) (ports : List SubnetPort) (s t : S) (whole : List SubnetPort) (x : A) (left : List (EndPlace × List ℕ))
    → AlwaysYields steps view s left → fold (with_end_place nodes all) ports left ≡ whole → steps s (Some x) t → IsLeft steps view nodes all (with_end_place nodes all ports (view x)) t whole
goes_on steps view nodes all ports s t whole x [] yields same step = absurd (yields x t step)
goes_on steps view nodes all ports s t whole x (one ∷ left) yields same step =
    let next = yields.1 x t step in
    record { left = left; yields = next.1; same = ap (λ (o : EndPlace × List ℕ). fold (with_end_place nodes all) (with_end_place nodes all ports o) left) next.0 ∙ same }

pub one_taken : {S A : Type 0} (steps : S → Option A → S → Type 0) (view : A → EndPlace × List ℕ) (nodes : List Node) (all : List EndPort) (ports : List SubnetPort) (s t : S) (whole : List SubnetPort) (x : A)
    → IsLeft steps view nodes all ports s whole → steps s (Some x) t → IsLeft steps view nodes all (with_end_place nodes all ports (view x)) t whole
one_taken steps view nodes all ports s t whole x before step = goes_on steps view nodes all ports s t whole x before.left before.yields before.same step

stops : {S A : Type 0} (steps : S → Option A → S → Type 0) (view : A → EndPlace × List ℕ) (nodes : List Node) (all : List EndPort) (ports : List SubnetPort) (s t : S) (whole : List SubnetPort) (left : List (EndPlace × List ℕ))
    → AlwaysYields steps view s left → fold (with_end_place nodes all) ports left ≡ whole → steps s None t → ports ≡ whole
stops steps view nodes all ports s t whole [] yields same step = same
stops steps view nodes all ports s t whole (one ∷ left) yields same step = absurd (yields.0 t step)

pub all_taken : {S A : Type 0} (steps : S → Option A → S → Type 0) (view : A → EndPlace × List ℕ) (nodes : List Node) (all : List EndPort) (ports : List SubnetPort) (s t : S) (whole : List SubnetPort)
    → IsLeft steps view nodes all ports s whole → steps s None t → ports ≡ whole
all_taken steps view nodes all ports s t whole before step = stops steps view nodes all ports s t whole before.left before.yields before.same step
