-- The fabric of a topology is not too big for a graph: a topology has no more switches and ports of adapters than that.
use Rattle.std.proofs.Common.{ℕ, zero, suc, ◌+◌, ◌≡◌, ◌≤◌, ◌<◌, ◌==◌, ◌∙◌, inl, inr, ap, refl, sym, subst, cond, not, nat_le, Bool, true, false, nat_eq}
use Rattle.std.proofs.Common.{List, [], ◌∷◌, ◌++◌, length, map, if◌then◌else◌, arith}
use Rattle.std.specs.Cmp.{IsEquivalence}
use Rattle.std.specs.List.{IsDistinct, count_by, list_all, list_any, range_with_len}
use Rattle.std.proofs.lemmas.Bool.{and_parts, eq-eqb, eqb-true, false≢true, leb-true, not-true, or_right}
use Rattle.std.proofs.lemmas.Bool.Decides.{nat_tests}
use Rattle.std.proofs.lemmas.Cmp.{nat_eq_equiv}
use Rattle.std.proofs.lemmas.List.{length-append}
use Rattle.std.proofs.lemmas.List.Folds.{list_any-append}
use Rattle.std.proofs.lemmas.List.FromFn.{length-map-range_with_len}
use Rattle.std.proofs.lemmas.List.Sums.{sum_by-cons}
use Rattle.std.proofs.lemmas.Map.Made.{length-le_from_is_member}
use Rattle.fabric_parts.specs.Cable.{is_same_port, port}
use Rattle.fabric_parts.specs.NodeType.{is_switch_type}
use Rattle.fabric_parts.specs.declared.cable.PortRef.{PortRef}
use Rattle.fabric_parts.specs.declared.node_type.NodeType.{NodeType}
use Rattle.fabric_parts.specs.declared.node_type.NodeType.TheVariants.{ChannelAdapter, Switch}
use Rattle.fabric_wire.proofs.OfTopologyGoodLemmas.{good}
use Rattle.fabric_wire.proofs.OfTopologyLemmas.{port_there, switch_there}
use Rattle.fabric_wire.specs.OfTopology.{fabric_of}
use Rattle.step_results.proofs.RisingLemmas.{counted}
use Rattle.step_results.proofs.ListLemmas.{all_there}
use Rattle.smp_wire.proofs.CableLemmas.{cabled_is_port, itself, same_port}
use Rattle.smp_wire.specs.FabricState.{is_switch_at as is_switch_in}
use Rattle.sweep.proofs.CabledLemmas.{far_of}
use Rattle.sweep.proofs.FoundLemmas.{any_at}
use Rattle.sweep.specs.Limits.{IsTooBig, is_adapter_port}
use Rattle.topo_file.specs.Node.{adapter_ports, is_switch, is_switch_at, port_guids, ports_at, switch_count}
use Rattle.topo_file.specs.Sound.{IsSound}
use Rattle.topo_file.specs.Topology.{TopologyState}
use Rattle.topo_file.specs.declared.node.Node.{Node}
use Rattle.smp_wire.proofs.PresentLemmas.{present_right}

-- ---- the places of switches
switch_places : ℕ → List Node → List ℕ
switch_places first [] = []
switch_places first (node ∷ nodes) = if is_switch node then first ∷ switch_places (first + 1) nodes else switch_places (first + 1) nodes

as_many_switches : (first : ℕ) (nodes : List Node) → length (switch_places first nodes) ≡ switch_count nodes
unfolding switch_places
as_many_switches first [] = refl
as_many_switches first (node ∷ nodes) = by (is_switch node) refl (as_many_switches (first + 1) nodes)
  where
    more : (b : Bool) → is_switch node ≡ b → count_by is_switch (node ∷ nodes) ≡ cond b 1 0 + count_by is_switch nodes
    more b is = counted is_switch node nodes ∙ ap (λ (b : Bool). cond b 1 0 + count_by is_switch nodes) is

    long : (b : Bool) → is_switch node ≡ b → length (switch_places first (node ∷ nodes)) ≡ cond b 1 0 + length (switch_places (first + 1) nodes)
    long true is = rw is (omega arith)
    long false is = rw is (omega arith)

    by : (b : Bool) → is_switch node ≡ b → length (switch_places (first + 1) nodes) ≡ switch_count nodes
        → length (switch_places first (node ∷ nodes)) ≡ switch_count (node ∷ nodes)
    by true is rest = long true is ∙ ap (λ (n : ℕ). cond true 1 0 + n) rest ∙ sym (more true is)
    by false is rest = long false is ∙ ap (λ (n : ℕ). cond false 1 0 + n) rest ∙ sym (more false is)

switch_place : (first : ℕ) (nodes : List Node) (k place : ℕ) → first + k ≡ place → is_switch_at nodes k ≡ true
    → list_any (nat_eq place) (switch_places first nodes) ≡ true
unfolding switch_places
switch_place first [] k place is switch = absurd (false≢true switch)
switch_place first (node ∷ nodes) zero place is switch =
    let same : nat_eq place first ≡ true = eq-eqb place first (omega (arith, is)) in
    rw (switch, same) refl
switch_place first (node ∷ nodes) (suc k) place is switch =
    by (is_switch node) refl (switch_place (first + 1) nodes k place (omega (arith, is)) switch)
  where
    by : (b : Bool) → is_switch node ≡ b → list_any (nat_eq place) (switch_places (first + 1) nodes) ≡ true
        → list_any (nat_eq place) (switch_places first (node ∷ nodes)) ≡ true
    by true is rest = rw is (or_right (nat_eq place first) _ rest)
    by false is rest = rw is rest

few_switches : (plan : TopologyState) (some : List ℕ) → IsDistinct nat_eq some → list_all (is_switch_in (fabric_of plan).nodes) some ≡ true
    → length some ≤ switch_count plan.nodes
few_switches plan some once are =
    subst (λ (n : ℕ). length some ≤ n) (as_many_switches 0 plan.nodes)
    (length-le_from_is_member nat_eq_equiv some (switch_places 0 plan.nodes) once (λ place among. there place among))
  where
    there : (place : ℕ) → list_any (nat_eq place) some ≡ true → list_any (nat_eq place) (switch_places 0 plan.nodes) ≡ true
    there place among =
        let one = any_at (nat_eq place) some among in
        let same : place ≡ one.one = eqb-true place one.one one.passes in
        let switch = all_there (is_switch_in (fabric_of plan).nodes) some one.place one.one are one.there in
        switch_place 0 plan.nodes place place (omega arith)
        (sym (switch_there plan.cables plan.nodes place) ∙ ap (is_switch_in (fabric_of plan).nodes) same ∙ switch)

-- ---- the places of adapters' ports
abbrev ports_there : ℕ → Node → List PortRef
ports_there place node = map (port place) (range_with_len 1 (port_guids node.node_type node.ports))

port_places : ℕ → List Node → List PortRef
port_places first [] = []
port_places first (node ∷ nodes) = ports_there first node ++ port_places (first + 1) nodes

as_many_ports : (first : ℕ) (nodes : List Node) → length (port_places first nodes) ≡ adapter_ports nodes
unfolding port_places
as_many_ports first [] = refl
as_many_ports first (node ∷ nodes) =
    let count = λ (node : Node). port_guids node.node_type node.ports in
    let both = length-append (ports_there first node) (port_places (first + 1) nodes) in
    let here = length-map-range_with_len (port first) 1 (count node) in
    let rest = as_many_ports (first + 1) nodes in
    let all = sum_by-cons count node nodes in
    omega (arith, both, here, rest, all)

in_range : (at : PortRef) (place a n : ℕ) → at.node ≡ place → a ≤ at.port → at.port < a + n
    → list_any (is_same_port at) (map (port place) (range_with_len a n)) ≡ true
in_range at place a zero is low high = absurd (omega (arith, low, high))
in_range at place a (suc n) is low high = by (at.port == a) refl (λ more. in_range at place (a + 1) n is more (omega (arith, high)))
  where
    node : (at.node == place) ≡ true
    node = eq-eqb at.node place is

    by : (b : Bool) → (at.port == a) ≡ b → (a + 1 ≤ at.port → list_any (is_same_port at) (map (port place) (range_with_len (a + 1) n)) ≡ true)
        → list_any (is_same_port at) (map (port place) (range_with_len a (suc n))) ≡ true
    by true here later = rw (node, here) refl
    by false apart later =
        let more : a + 1 ≤ at.port = grind (arith, nat_tests, low, apart) in
        or_right (is_same_port at (port place a)) _ (later more)

port_place : (first : ℕ) (nodes : List Node) (k : ℕ) (at : PortRef) → first + k ≡ at.node → is_switch_at nodes k ≡ false → 1 ≤ at.port
    → at.port ≤ ports_at nodes k → list_any (is_same_port at) (port_places first nodes) ≡ true
unfolding port_places
port_place first [] k at is adapter low high = absurd (omega (arith, low, high))
port_place first (node ∷ nodes) zero at is adapter low high =
    list_any-append (is_same_port at) (ports_there first node) (port_places (first + 1) nodes)
    ∙ rw (in_range at first 1 (port_guids node.node_type node.ports) (omega (arith, is)) low (of node.node_type refl adapter)) refl
  where
    of : (type : NodeType) → node.node_type ≡ type → is_switch_type type ≡ false → at.port < 1 + port_guids type node.ports
    of Switch is adapter = absurd (false≢true (sym adapter))
    of ChannelAdapter is adapter = omega (arith, high)
port_place first (node ∷ nodes) (suc k) at is adapter low high =
    list_any-append (is_same_port at) (ports_there first node) (port_places (first + 1) nodes)
    ∙ or_right (list_any (is_same_port at) (ports_there first node)) _ (port_place (first + 1) nodes k at (omega (arith, is)) adapter low high)

same_ports : IsEquivalence is_same_port
same_ports = record {
  refl = itself;
  symm = λ a b. rw (nat_eq_equiv.symm a.node b.node, nat_eq_equiv.symm a.port b.port) refl;
  congr = λ a b c same. ap (λ (p : PortRef). is_same_port p c) (same_port a b same);
}

few_ports : (plan : TopologyState) (some : List PortRef) → IsSound plan → IsDistinct is_same_port some → list_all (is_adapter_port (fabric_of plan)) some ≡ true
    → length some ≤ adapter_ports plan.nodes
few_ports plan some sound once are =
    subst (λ (n : ℕ). length some ≤ n) (as_many_ports 0 plan.nodes)
    (length-le_from_is_member same_ports some (port_places 0 plan.nodes) once (λ at among. there at among))
  where
    there : (at : PortRef) → list_any (is_same_port at) some ≡ true → list_any (is_same_port at) (port_places 0 plan.nodes) ≡ true
    there at among =
        let one = any_at (is_same_port at) some among in
        let same : at ≡ one.one = same_port at one.one one.passes in
        let kind = ap (is_adapter_port (fabric_of plan)) same ∙ all_there (is_adapter_port (fabric_of plan)) some one.place one.one are one.there in
        let parts = and_parts (not (is_switch_in (fabric_of plan).nodes at.node)) _ kind in
        let far = far_of plan.cables at parts.1 in
        let is = cabled_is_port (fabric_of plan).nodes plan.cables at far.0 (present_right (good plan sound)) far.1 in
        let bounds = and_parts (nat_le 1 at.port) _ (sym (port_there plan.cables plan.nodes at) ∙ is) in
        port_place 0 plan.nodes at.node at (omega arith) (sym (switch_there plan.cables plan.nodes at.node) ∙ not-true _ parts.0)
        (leb-true 1 at.port bounds.0) (leb-true at.port (ports_at plan.nodes at.node) bounds.1)

pub not_too_big : (plan : TopologyState) → IsSound plan → IsTooBig (fabric_of plan) → ⊥
not_too_big plan sound (inl over) = omega (arith, over.many, few_switches plan over.some over.once over.are, sound.lines.limits.0)
not_too_big plan sound (inr over) = omega (arith, over.many, few_ports plan over.some sound over.once over.are, sound.lines.limits.1)
