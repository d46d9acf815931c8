-- A port of a topology's fabric is Down if and only if it has no cable.
use Rattle.std.proofs.Common.{ℕ, zero, suc, ◌≡◌, ◌+◌, ◌-◌, ◌≤◌, ◌==◌, ◌∙◌, ap, refl, sym, if◌then◌else◌, Bool, true, false, not, List, ◌∷◌, map}
use Rattle.std.proofs.Common.{nat_le, slice_get, Option, Some, None, option_map, arith}
use Rattle.std.specs.List.{range_with_len}
use Rattle.std.specs.Option.{option_and_then}
use Rattle.std.proofs.lemmas.Bool.{and_parts, leb-true, ne_eqb}
use Rattle.std.proofs.lemmas.Option.{slice_get-map, same_Some}
use Rattle.agent_rules.specs.declared.link.PortLink.TheVariants.{Cabled, Uncabled, Internal}
use Rattle.fabric_parts.specs.declared.node_type.NodeType.{NodeType}
use Rattle.attr_tables.specs.declared.port_info.PortInfo.{PortInfo}
use Rattle.agent_rules.specs.PortSetting.{is_down}
use Rattle.agent_rules.specs.PowerUp.{port_info_at_power_up}
use Rattle.port_model.specs.AdapterState.{AdapterState}
use Rattle.switch_model.specs.SwitchState.{port_at_power_up, ports_from}
use Rattle.switch_model.proofs.PortLemmas.{ports_have_links}
use Rattle.fabric_parts.specs.declared.cable.Cable.{Cable}
use Rattle.topo_file.specs.declared.node.Node.{Node as PlannedNode}
use Rattle.fabric_parts.specs.declared.node_type.NodeType.TheVariants as node_type
use Rattle.fabric_parts.specs.Cable.{is_cabled, port}
use Rattle.smp_wire.specs.Good.{port_info_at}
use Rattle.fabric_wire.specs.Laws.{TopologiesShowLinks}
use Rattle.fabric_wire.specs.OfTopology.{adapter_port_of, link_of, links_of, node_of, node_of_type}
use Rattle.fabric_wire.proofs.OfTopologyLemmas.{node_at}

-- the port is Down where it has no cable
abbrev Shows : List Cable → ℕ → ℕ → PortInfo → Type 0
Shows cables place number info = is_down info ≡ not (is_cabled cables (port place number))

-- ---- a port at power-up
down_by : (of : NodeType) (number : ℕ) (cabled : Bool) → is_down (port_info_at_power_up of number (if cabled then Cabled else Uncabled)) ≡ not cabled
down_by of number true = refl
down_by of number false = refl

shows_link : (of : NodeType) (cables : List Cable) (place number there : ℕ) (info : PortInfo) → there ≡ number
    → Some (port_info_at_power_up of number (link_of cables place there)) ≡ Some info → Shows cables place number info
shows_link of cables place number there info is found =
    ap is_down (sym (same_Some _ info found)) ∙ down_by of number (is_cabled cables (port place there)) ∙ ap (λ (n : ℕ). not (is_cabled cables (port place n))) is

-- ---- the port that has a number
ranged : (first count k there : ℕ) → slice_get (range_with_len first count) k ≡ Some there → there ≡ first + k
ranged first zero k there found = cc
ranged first (suc count) zero there found = let same = same_Some first there found in omega (arith, same)
ranged first (suc count) (suc k) there found = let later = ranged (first + 1) count k there found in omega (arith, later)

switch_shows : (cables : List Cable) (place number : ℕ) (info : PortInfo) (found : Option ℕ) → ((there : ℕ) → found ≡ Some there → there ≡ number)
    → option_map (λ port. port.info) (option_map (port_at_power_up number) (option_map (link_of cables place) found)) ≡ Some info → Shows cables place number info
switch_shows cables place number info None is there = cc
switch_shows cables place number info (Some n) is there = shows_link node_type.Switch cables place number n info (is n refl) there

switch_at : (cables : List Cable) (place number count : ℕ) (info : PortInfo) → 1 ≤ number
    → option_map (λ port. port.info) (slice_get (ports_from 0 (Internal ∷ links_of cables place count)) number) ≡ Some info → Shows cables place number info
switch_at cables place zero count info some there = absurd (omega (arith, some))
switch_at cables place (suc k) count info some there =
    let links = links_of cables place count in
    let range = range_with_len 1 count in
    let found = ports_have_links links (suc k) ∙ ap (option_map (port_at_power_up (suc k))) (slice_get-map (link_of cables place) range k) in
    switch_shows cables place (suc k) info (slice_get range k) (λ n h. let e = ranged 1 count k n h in omega (arith, e))
    (ap (option_map (λ port. port.info)) (sym found) ∙ there)

adapter_shows : (cables : List Cable) (place : ℕ) (node : PlannedNode) (number : ℕ) (info : PortInfo) (found : Option ℕ)
    → ((there : ℕ) → found ≡ Some there → there ≡ number)
    → option_map (λ (one : AdapterState). one.info) (option_map (adapter_port_of cables place node) found) ≡ Some info → Shows cables place number info
adapter_shows cables place node number info None is there = cc
adapter_shows cables place node number info (Some n) is there =
    let e = is n refl in
    shows_link node_type.ChannelAdapter cables place number n info e (ap (λ (m : ℕ). Some (port_info_at_power_up node_type.ChannelAdapter m (link_of cables place n))) (sym e) ∙ there)

adapter_at : (cables : List Cable) (place : ℕ) (node : PlannedNode) (number count : ℕ) (info : PortInfo) → 1 ≤ number
    → option_map (λ (one : AdapterState). one.info) (if number == 0 then None else slice_get (map (adapter_port_of cables place node) (range_with_len 1 count)) (number - 1)) ≡ Some info
    → Shows cables place number info
adapter_at cables place node number count info some there =
    let positive : (number == 0) ≡ false = ne_eqb number 0 (λ e. absurd (omega (arith, e, some))) in
    let range = range_with_len 1 count in
    adapter_shows cables place node number info (slice_get range (number - 1)) (λ n h. let e = ranged 1 count (number - 1) n h in omega (arith, e, some))
    (ap (option_map (λ (one : AdapterState). one.info)) (sym (slice_get-map (adapter_port_of cables place node) range (number - 1))) ∙ (rw positive at there))

-- ---- a node, and the fabric
shows_type : (of : NodeType) (cables : List Cable) (place : ℕ) (node : PlannedNode) (number : ℕ) (info : PortInfo) → 1 ≤ number
    → port_info_at (node_of_type of cables place node) number ≡ Some info → Shows cables place number info
shows_type node_type.Switch cables place node number info some there = switch_at cables place number node.ports info some there
shows_type node_type.ChannelAdapter cables place node number info some there = adapter_at cables place node number node.ports info some there

shows : (cables : List Cable) (place number : ℕ) (info : PortInfo) (found : Option PlannedNode) → 1 ≤ number
    → option_and_then (λ node. port_info_at node number) (option_map (node_of cables place) found) ≡ Some info → Shows cables place number info
shows cables place number info None some there = cc
shows cables place number info (Some node) some there = shows_type node.node_type cables place node number info some there

pub links : TopologiesShowLinks
links plan at info is there =
    let some = leb-true 1 at.port (and_parts (nat_le 1 at.port) _ is).0 in
    shows plan.cables at.node at.port info (slice_get plan.nodes at.node) some
    (ap (option_and_then (λ node. port_info_at node at.port)) (sym (node_at plan.cables plan.nodes at.node)) ∙ there)
