-- The port of a GUID is the one of a topology's end ports that has it.
use Rattle.std.proofs.Common.{ℕ, zero, suc, ◌≡◌, ◌+◌, ◌-◌, ◌≤◌, ◌==◌, ◌&&◌, nat_le, nat_lt, ◌∙◌, ap, refl, sym, cond, Bool, true, false, if◌then◌else◌, List, [], ◌∷◌, slice_get, Option, Some, None, option_map, arith}
use Rattle.std.specs.List.{IsDistinct}
use Rattle.std.specs.Option.{option_map_or, option_or}
use Rattle.std.proofs.lemmas.Bool.{and_from, and_parts, eq-eqb, eqb-true, false≢true, le-leb, leb-true, lt-ltb, ltb-true}
use Rattle.std.proofs.lemmas.Map.Keys.{IsDistinct-tail}
use Rattle.std.proofs.lemmas.Option.{none-some, same_Some}
use Rattle.fabric_parts.specs.Cable.{is_cabled, port}
use Rattle.fabric_parts.specs.NodeType.{is_switch_type}
use Rattle.fabric_parts.specs.declared.cable.PortRef.{PortRef}
use Rattle.fabric_parts.specs.declared.node_type.NodeType.{NodeType}
use Rattle.fabric_parts.specs.declared.node_type.NodeType.TheVariants as node_type
use Rattle.step_results.proofs.DistinctLemmas.{none_shares}
use Rattle.subnet_fabric.specs.EndPorts.{is_end_port}
use Rattle.sweep.proofs.FoundLemmas.{any_by}
use Rattle.topo_file.specs.Node.{last_guid, port_guid_at, port_guids, shares_guid}
use Rattle.topo_file.specs.Sound.{IsSound}
use Rattle.topo_file.specs.Topology.{TopologyState}
use Rattle.topo_file.specs.declared.node.Node.{Node}
use Rattle.audit_plan.specs.Plan.{ends_of, port_of}
use Rattle.audit_plan.proofs.TopologyEndLemmas.{found_by_node, number_in, port_from}

-- ---- a GUID of a node is one of those from its first to its last
abbrev number_of : NodeType → ℕ → ℕ → ℕ → Option ℕ
number_of of guid first ports =
    if is_switch_type of then (if guid == first then Some 0 else None)
    else (if nat_lt first guid && nat_le guid (first + ports) then Some (guid - first) else None)

range_of : (of : NodeType) (guid first ports n : ℕ) → number_of of guid first ports ≡ Some n → (first ≤ guid) × (guid ≤ first + port_guids of ports)
range_of node_type.Switch guid first ports n is = by (guid == first) refl is
  where
    by : (b : Bool) → (guid == first) ≡ b → (if b then Some 0 else None) ≡ Some n → (first ≤ guid) × (guid ≤ first + 0)
    by true same is = let e = eqb-true guid first same in (omega (arith, e), omega (arith, e))
    by false same is = absurd (none-some n is)
range_of node_type.ChannelAdapter guid first ports n is = by (nat_lt first guid && nat_le guid (first + ports)) refl is
  where
    by : (b : Bool) → (nat_lt first guid && nat_le guid (first + ports)) ≡ b → (if b then Some (guid - first) else None) ≡ Some n
        → (first ≤ guid) × (guid ≤ first + ports)
    by true test is =
        let parts = and_parts (nat_lt first guid) _ test in
        let low = ltb-true first guid parts.0 in
        let high = leb-true guid (first + ports) parts.1 in
        (omega (arith, low), high)
    by false test is = absurd (none-some n is)

range : (guid n : ℕ) (node : Node) → number_in guid node ≡ Some n → (node.guid ≤ guid) × (guid ≤ last_guid node)
range guid n node is = range_of node.node_type guid node.guid node.ports n is

-- ---- no two nodes have one
clash : (guid n m k : ℕ) (x node : Node) (nodes : List Node) → IsDistinct shares_guid (x ∷ nodes) → slice_get nodes k ≡ Some node
    → number_in guid node ≡ Some n → number_in guid x ≡ Some m → ⊥
clash guid n m k x node nodes own there is also =
    let one = range guid n node is in
    let other = range guid m x also in
    let shares : shares_guid x node ≡ true =
    and_from (nat_le x.guid (last_guid node)) _ (le-leb x.guid (last_guid node) (omega (arith, other.0, one.1)))
    (le-leb node.guid (last_guid x) (omega (arith, one.0, other.1))) in
    false≢true (sym (none_shares shares_guid x nodes own) ∙ any_by (shares_guid x) nodes k node there shares)

pub port_is : (nodes : List Node) (first k guid n : ℕ) (node : Node) → IsDistinct shares_guid nodes → slice_get nodes k ≡ Some node
    → number_in guid node ≡ Some n → port_from guid first nodes ≡ Some (port (first + k) n)
port_is [] first k guid n node own there is = absurd (none-some node there)
port_is (x ∷ nodes) first zero guid n node own there is =
    let same : x ≡ node = same_Some x node there in
    let here : number_in guid x ≡ Some n = ap (number_in guid) same ∙ is in
    let none_more : first ≡ first + 0 = omega arith in
    ap (λ (o : Option ℕ). option_or (option_map (port first) o) (port_from guid (first + 1) nodes)) here ∙ ap (λ (m : ℕ). Some (port m n)) none_more
port_is (x ∷ nodes) first (suc k) guid n node own there is =
    by (number_in guid x) refl (port_is nodes (first + 1) k guid n node (IsDistinct-tail shares_guid x nodes own) there is)
  where
    moved : first + 1 + k ≡ first + suc k
    moved = omega arith

    by : (o : Option ℕ) → number_in guid x ≡ o → port_from guid (first + 1) nodes ≡ Some (port (first + 1 + k) n)
        → port_from guid first (x ∷ nodes) ≡ Some (port (first + suc k) n)
    by None at rest =
        ap (λ (o : Option ℕ). option_or (option_map (port first) o) (port_from guid (first + 1) nodes)) at ∙ rest ∙ ap (λ (m : ℕ). Some (port m n)) moved
    by (Some m) at rest = absurd (clash guid n m k x node nodes own there is at)

-- ---- of an end port
numbered : (of : NodeType) (first ports number : ℕ) (cabled : Bool)
    → cond (is_switch_type of) (number == 0) ((nat_le 1 number && nat_le number ports) && cabled) ≡ true → number_of of (first + number) first ports ≡ Some number
numbered node_type.Switch first ports number cabled ends =
    let none : number ≡ 0 = eqb-true number 0 ends in
    rw (eq-eqb (first + number) first (omega (arith, none))) (ap (λ (n : ℕ). Some n) (sym none))
numbered node_type.ChannelAdapter first ports number cabled ends =
    let numbers = and_parts (nat_le 1 number) (nat_le number ports) (and_parts _ cabled ends).0 in
    let low = leb-true 1 number numbers.0 in
    let high = leb-true number ports numbers.1 in
    let within : (nat_lt first (first + number) && nat_le (first + number) (first + ports)) ≡ true =
    and_from (nat_lt first (first + number)) _ (lt-ltb first (first + number) (omega (arith, low))) (le-leb (first + number) (first + ports) (omega (arith, high))) in
    let back : first + number - first ≡ number = omega arith in
    rw within (ap (λ (n : ℕ). Some n) back)

pub port_of_end : (plan : TopologyState) → IsSound plan → (at : PortRef) → is_end_port plan at ≡ true
    → port_of (ends_of plan.nodes) (port_guid_at plan.nodes at) ≡ Some at
port_of_end plan sound at ends = found_by_node plan.nodes (port_guid_at plan.nodes at) ∙ by (slice_get plan.nodes at.node) refl
  where
    by : (o : Option Node) → slice_get plan.nodes at.node ≡ o → port_from (port_guid_at plan.nodes at) 0 plan.nodes ≡ Some at
    by None there =
        let none : (nat_le 1 at.port && nat_le at.port 0) && is_cabled plan.cables at ≡ true = rw there at ends in
        let numbers = and_parts (nat_le 1 at.port) (nat_le at.port 0) (and_parts _ (is_cabled plan.cables at) none).0 in
        absurd (omega (arith, leb-true 1 at.port numbers.0, leb-true at.port 0 numbers.1))
    by (Some node) there =
        let is_end : cond (is_switch_type node.node_type) (at.port == 0) ((nat_le 1 at.port && nat_le at.port node.ports) && is_cabled plan.cables at) ≡ true =
        rw there at ends in
        let guid : port_guid_at plan.nodes at ≡ node.guid + at.port = ap (λ (o : Option Node). option_map_or (λ one. one.guid + at.port) o 0) there in
        let none_more : 0 + at.node ≡ at.node = omega arith in
        ap (λ (g : ℕ). port_from g 0 plan.nodes) guid
        ∙ port_is plan.nodes 0 at.node (node.guid + at.port) at.port node sound.lines.own_guids there
        (numbered node.node_type node.guid node.ports at.port (is_cabled plan.cables at) is_end)
        ∙ ap (λ (m : ℕ). Some (port m at.port)) none_more
