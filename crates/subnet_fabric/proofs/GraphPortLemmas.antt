-- What a sweep of a topology's fabric finds is what the topology lists, with the same LIDs.
use Rattle.std.proofs.Common.{ℕ, ◌≡◌, ◌+◌, ◌<◌, ◌↔◌, ◌∙◌, ◌==◌, ◌||◌, ap, refl, sym, subst, Bool, true, false, if◌then◌else◌}
use Rattle.std.proofs.Common.{List, [], ◌∷◌, map, get_or, drop, length, All, Some, None, option_map, arith}
use Rattle.std.specs.List.{AllByRecursion, Contains, enumerate_from, list_any, position_or_len, range_with_len}
use Rattle.std.proofs.lemmas.Bool.{eqb-true, false≢true}
use Rattle.std.proofs.lemmas.List.Elements.{All-contains, All-from_recursion, recursion_from_All}
use Rattle.std.proofs.lemmas.Bool.Decides.{nat_tests, same_from_decides}
use Rattle.std.proofs.lemmas.List.Folds.{list_any-append}
use Rattle.std.proofs.lemmas.Map.Keys.{IsDistinct-head}
use Rattle.std.proofs.lemmas.Option.{same_Some}
use Rattle.fabric_parts.specs.declared.cable.PortRef.{PortRef}
use Rattle.fabric_parts.specs.NodeType.{is_switch_type}
use Rattle.fabric_wire.proofs.OfTopologyGoodLemmas.{good}
use Rattle.fabric_wire.specs.OfTopology.{fabric_of}
use Rattle.step_results.proofs.RisingLemmas.{Rises, rises, same_rising}
use Rattle.lid_assign.specs.Lids.{AreLids, adapter_end, end_ports, lid_in, switch_end}
use Rattle.partition_file.specs.declared.partition.Partition.{Partition}
use Rattle.pkey_rules.specs.declared.end_port.EndPort.{EndPort}
use Rattle.step_results.proofs.PlaceLemmas.{list_any_place}
use Rattle.subnet_model.specs.declared.subnet_port.SubnetPort.{SubnetPort}
use Rattle.subnet_model.specs.EndPorts.{lid_of}
use Rattle.sweep.proofs.EndPortLemmas.{graphs_have_the_end_ports, manager_end, stands, there_is}
use Rattle.sweep.proofs.FoundLemmas.{PassesAt, any_at, any_by}
use Rattle.sweep.specs.EndPorts.{FabricPort, end_of_adapter, end_of_switch, end_port_in, end_ports_in}
use Rattle.sweep.specs.Graph.{GraphState}
use Rattle.sweep.specs.OfFabric.{IsLayoutOf}
use Rattle.topo_file.specs.Node.{is_switch_at, port_guid_at}
use Rattle.topo_file.specs.Sound.{IsSound}
use Rattle.topo_file.specs.Topology.{TopologyState}
use Rattle.subnet_fabric.proofs.EndPortLemmas.{any_map, end_ports_stand_in_order, sm_is_end_port}
use Rattle.subnet_fabric.proofs.FabricPortLemmas.{end_ports_are_the_fabrics}
use Rattle.subnet_fabric.specs.EndPorts.{AreEndPorts, IsEndPort, is_end_port}
use Rattle.subnet_model.specs.Configured.{same_guid}
use Rattle.subnet_fabric.specs.FabricPorts.{listed_port, planned_port}
use Rattle.subnet_fabric.specs.PortLaws.{SweepsFindWhatIsListed}
use Rattle.subnet_fabric.specs.Ports.{ports_of, type_of}

-- ---- the listed ports, in order: the subnet manager's, and then others whose GUIDs rise
abbrev guids_of : List SubnetPort → List ℕ
guids_of ports = map (λ port. port.guid) ports

abbrev Counts : ℕ → List SubnetPort → Type 0
Counts first ports = map (λ port. port.lid) ports ≡ range_with_len first (length ports)

first_lid : (n : ℕ) (port : SubnetPort) (ports : List SubnetPort) → Counts n (port ∷ ports) → port.lid ≡ n
first_lid n port ports counts = ap (λ (lids : List ℕ). get_or lids 0 0) counts

other_lids : (n : ℕ) (port : SubnetPort) (ports : List SubnetPort) → Counts n (port ∷ ports) → Counts (n + 1) ports
other_lids n port ports counts = ap (drop 1) counts

all_after : (n m : ℕ) (ports : List SubnetPort) → n < m → Counts m ports → AllByRecursion (λ port. n < port.lid) ports
all_after n m [] before counts = tt
all_after n m (port ∷ ports) before counts =
    let lid = first_lid m port ports counts in
    (omega (arith, before, lid), all_after n (m + 1) ports (omega (arith, before)) (other_lids m port ports counts))

abbrev ByGuid : SubnetPort → SubnetPort → Type 0
ByGuid a b = 1 < a.lid → a.lid < b.lid → a.guid < b.guid

above : (a : SubnetPort) (ports : List SubnetPort) → 1 < a.lid → AllByRecursion (λ b. a.lid < b.lid) ports → AllByRecursion (ByGuid a) ports
    → AllByRecursion (λ guid. a.guid < guid) (guids_of ports)
above a [] high after by_guid = tt
above a (b ∷ ports) high after by_guid = (by_guid.0 high after.0, above a ports high after.1 by_guid.1)

tails : (b : SubnetPort) (ports some : List SubnetPort) → AllByRecursion (λ a. AllByRecursion (ByGuid a) (b ∷ ports)) some
    → AllByRecursion (λ a. AllByRecursion (ByGuid a) ports) some
tails b ports [] all = tt
tails b ports (a ∷ some) all = (all.0.1, tails b ports some all.1)

guids_rise : (n : ℕ) (ports : List SubnetPort) → 1 < n → Counts n ports → AllByRecursion (λ a. AllByRecursion (ByGuid a) ports) ports → Rises (guids_of ports)
guids_rise n [] high counts by_guid = tt
guids_rise n (a ∷ ports) high counts by_guid =
    let lid = first_lid n a ports counts in
    let others = other_lids n a ports counts in (
      above a ports (omega (arith, high, lid)) (subst (λ (m : ℕ). AllByRecursion (λ b. m < b.lid) ports) (sym lid) (all_after n (n + 1) ports (omega arith) others)) by_guid.0.1,
      guids_rise (n + 1) ports (omega (arith, high)) others (tails a ports ports by_guid.1),
    )

abbrev has_guid : ℕ → List ℕ → Bool
has_guid guid guids = list_any (λ other. other == guid) guids

record StandsAsLids (manager : ℕ) (guids : List ℕ) : Type 0 where
  others : List ℕ
  is : guids ≡ manager ∷ others
  rise : Rises others
  apart : has_guid manager others ≡ false

none_has : (guid : ℕ) (ports : List SubnetPort) → AllByRecursion (λ port. (guid == port.guid) ≡ false) ports → has_guid guid (guids_of ports) ≡ false
none_has guid [] all = refl
none_has guid (port ∷ ports) all =
    let apart : (port.guid == guid) ≡ false = grind (arith, nat_tests, all.0) in
    rw (apart, none_has guid ports all.1) refl

each_by_recursion : (ports some : List SubnetPort) → All (λ a. All (ByGuid a) ports) some → AllByRecursion (λ a. AllByRecursion (ByGuid a) ports) some
each_by_recursion ports some all = each some (recursion_from_All (λ a. All (ByGuid a) ports) some all)
  where
    each : (some : List SubnetPort) → AllByRecursion (λ a. All (ByGuid a) ports) some → AllByRecursion (λ a. AllByRecursion (ByGuid a) ports) some
    each [] all = tt
    each (a ∷ some) all = (recursion_from_All (ByGuid a) ports all.0, each some all.1)

listed : (partitions : List Partition) (plan : TopologyState) (ports : List SubnetPort) → AreEndPorts partitions plan ports → is_end_port plan plan.sm ≡ true
    → StandsAsLids (port_guid_at plan.nodes plan.sm) (guids_of ports)
listed partitions plan [] are there = absurd (false≢true (are.all plan.sm there))
listed partitions plan (port ∷ ports) are there =
    let manager = (recursion_from_All (λ p. p.lid ≡ 1 → p.guid ≡ port_guid_at plan.nodes plan.sm) (port ∷ ports) are.manager).0 (first_lid 1 port ports are.lids) in
    let by_guid = each_by_recursion (port ∷ ports) (port ∷ ports) are.by_guid in
    record {
      others = guids_of ports;
      is = ap (λ (guid : ℕ). guid ∷ guids_of ports) manager;
      rise = guids_rise 2 ports (omega arith) (other_lids 1 port ports are.lids) (tails port ports ports by_guid.1);
      apart = subst (λ (guid : ℕ). has_guid guid (guids_of ports) ≡ false) manager (none_has port.guid ports (IsDistinct-head same_guid port ports are.own_guids));
    }

-- ---- both lists have the same GUIDs
any_end : (graph : GraphState) (guid : ℕ) → list_any (λ (port : EndPort). port.guid == guid) (end_ports graph) ≡ list_any (λ (end : FabricPort). end.guid == guid) (end_ports_in graph)
any_end graph guid =
    list_any-append (λ (port : EndPort). port.guid == guid) (map switch_end graph.switches) (map (adapter_end graph.manager) graph.ports)
    ∙ ap (λ (b : Bool). b || list_any (λ (port : EndPort). port.guid == guid) (map (adapter_end graph.manager) graph.ports))
    (any_map switch_end (λ (port : EndPort). port.guid == guid) graph.switches ∙ sym (any_map end_of_switch (λ (end : FabricPort). end.guid == guid) graph.switches))
    ∙ ap (λ (b : Bool). list_any (λ (end : FabricPort). end.guid == guid) (map end_of_switch graph.switches) || b)
    (any_map (adapter_end graph.manager) (λ (port : EndPort). port.guid == guid) graph.ports ∙ sym (any_map end_of_adapter (λ (end : FabricPort). end.guid == guid) graph.ports))
    ∙ sym (list_any-append (λ (end : FabricPort). end.guid == guid) (map end_of_switch graph.switches) (map end_of_adapter graph.ports))

-- a GUID has a LID if and only if an end port of the graph has it
with_lid : (graph : GraphState) (guids : List ℕ) (guid : ℕ) → AreLids (end_ports graph) guids
    → has_guid guid guids ≡ list_any (λ (end : FabricPort). end.guid == guid) (end_ports_in graph)
with_lid graph guids guid are =
    same_from_decides (has_guid guid guids) (list_any (λ (port : EndPort). port.guid == guid) (end_ports graph)) (
      λ has. only (list_any (λ (port : EndPort). port.guid == guid) (end_ports graph)) refl has,
      λ any. each (any_at (λ (port : EndPort). port.guid == guid) (end_ports graph) any),
    ) (λ any. any, λ any. any)
    ∙ any_end graph guid
  where
    is_it : ℕ → Bool
    is_it other = other == guid

    placed : lid_in guids guid ≡ option_map (λ place. place + 1) (if has_guid guid guids then Some (position_or_len is_it guids) else None)
    placed = ap (λ (b : Bool). option_map (λ place. place + 1) (if b then Some (position_or_len is_it guids) else None)) (sym (list_any_place is_it guids))

    some_has : (b : Bool) (lid : ℕ) → option_map (λ place. place + 1) (if b then Some (position_or_len is_it guids) else None) ≡ Some lid → b ≡ true
    some_has true lid is = refl
    some_has false lid is = absurd cc

    none_has : (b : Bool) → option_map (λ place. place + 1) (if b then Some (position_or_len is_it guids) else None) ≡ None → b ≡ false
    none_has true is = absurd cc
    none_has false is = refl

    only : (b : Bool) → list_any (λ (port : EndPort). port.guid == guid) (end_ports graph) ≡ b → has_guid guid guids ≡ true → b ≡ true
    only true is has = refl
    only false is has = absurd (false≢true (sym (none_has (has_guid guid guids) (sym placed ∙ are.only guid is)) ∙ has))

    each : PassesAt (λ (port : EndPort). port.guid == guid) (end_ports graph) → has_guid guid guids ≡ true
    each at =
        let lid = All-contains (λ port. lid_in guids port.guid ≡ Some (lid_of (end_ports graph) port)) (end_ports graph) at.one are.each (there_is (end_ports graph) at.place at.one at.there) in
        let same : at.one.guid ≡ guid = eqb-true at.one.guid guid at.passes in
        some_has (has_guid guid guids) (lid_of (end_ports graph) at.one) (sym placed ∙ ap (λ (g : ℕ). lid_in guids g) (sym same) ∙ lid)

-- an end port of the topology is one of its fabric, and so of the graph
planned_at : (plan : TopologyState) (at : PortRef) → is_end_port plan at ≡ true → end_port_in (fabric_of plan) at ≡ Some (planned_port plan at)
planned_at plan at there = end_ports_are_the_fabrics plan at ∙ ap (λ (b : Bool). if b then Some (planned_port plan at) else None) there

record IsPlannedAt (plan : TopologyState) (end : FabricPort) : Type 0 where
  at : PortRef
  there : is_end_port plan at ≡ true
  is : planned_port plan at ≡ end

planned_by : (plan : TopologyState) (at : PortRef) (end : FabricPort) → end_port_in (fabric_of plan) at ≡ Some end → IsPlannedAt plan end
planned_by plan at end is = by (is_end_port plan at) refl (sym (end_ports_are_the_fabrics plan at) ∙ is)
  where
    by : (b : Bool) → is_end_port plan at ≡ b → (if b then Some (planned_port plan at) else None) ≡ Some end → IsPlannedAt plan end
    by true there is = record { at = at; there = there; is = same_Some (planned_port plan at) end is }
    by false there is = absurd cc

same_guids : (partitions : List Partition) (plan : TopologyState) (graph : GraphState) (ports : List SubnetPort) (guid : ℕ) → IsSound plan
    → IsLayoutOf graph (fabric_of plan) → AreEndPorts partitions plan ports
    → has_guid guid (guids_of ports) ≡ list_any (λ (end : FabricPort). end.guid == guid) (end_ports_in graph)
same_guids partitions plan graph ports guid sound is are =
    any_map (λ (port : SubnetPort). port.guid) (λ other. other == guid) ports
    ∙ same_from_decides (list_any (λ (port : SubnetPort). port.guid == guid) ports) (list_any (λ (end : FabricPort). end.guid == guid) (end_ports_in graph)) (to, from)
    (λ any. any, λ any. any)
  where
    law : (end : FabricPort) → Contains (end_ports_in graph) end ↔ ((at : PortRef) × (end_port_in (fabric_of plan) at ≡ Some end))
    law end = graphs_have_the_end_ports (fabric_of plan) graph end (good plan sound) is

    to : list_any (λ (port : SubnetPort). port.guid == guid) ports ≡ true → list_any (λ (end : FabricPort). end.guid == guid) (end_ports_in graph) ≡ true
    to any =
        let one = any_at (λ (port : SubnetPort). port.guid == guid) ports any in
        let end = All-contains (IsEndPort partitions plan) ports one.one are.only (there_is ports one.place one.one one.there) in
        let found = stands (end_ports_in graph) (planned_port plan end.at) ((law (planned_port plan end.at)).1 (end.at, planned_at plan end.at end.there)) in
        any_by (λ (end : FabricPort). end.guid == guid) (end_ports_in graph) found.0 (planned_port plan end.at) found.1
        (ap (λ (n : ℕ). n == guid) (sym end.guid) ∙ one.passes)

    from : list_any (λ (end : FabricPort). end.guid == guid) (end_ports_in graph) ≡ true → list_any (λ (port : SubnetPort). port.guid == guid) ports ≡ true
    from any =
        let one = any_at (λ (end : FabricPort). end.guid == guid) (end_ports_in graph) any in
        let held = (law one.one).0 (there_is (end_ports_in graph) one.place one.one one.there) in
        let planned = planned_by plan held.0 one.one held.1 in
        let same : port_guid_at plan.nodes planned.at ≡ guid = ap (λ (e : FabricPort). e.guid) planned.is ∙ eqb-true one.one.guid guid one.passes in
        subst (λ (n : ℕ). list_any (λ (port : SubnetPort). port.guid == n) ports ≡ true) same (are.all planned.at planned.there)

-- ---- LIDs beside GUIDs
counted_from : (n : ℕ) (ports : List SubnetPort) → Counts n ports → map (λ port. (port.lid, port.guid)) ports ≡ enumerate_from n (guids_of ports)
counted_from n [] counts = refl
counted_from n (port ∷ ports) counts = rw (first_lid n port ports counts, counted_from (n + 1) ports (other_lids n port ports counts)) refl

-- ---- what is listed of a port is what the topology says of it
pub type_kept : (b : Bool) → is_switch_type (type_of b) ≡ b
type_kept true = refl
type_kept false = refl

as_planned : (partitions : List Partition) (plan : TopologyState) (port : SubnetPort) (is : IsEndPort partitions plan port) → listed_port port ≡ planned_port plan is.at
as_planned partitions plan port is =
    rw (is.guid, is.number, is.node_guid, is.node_name, is.num_ports, is.node_type, type_kept (is_switch_at plan.nodes is.at.node)) refl

-- ---- the whole
-- of two lists that begin with one GUID, which is not there again, the rests have the same GUIDs if the lists have
same_rests : (manager guid : ℕ) (xs ys : List ℕ) → has_guid manager xs ≡ false → has_guid manager ys ≡ false
    → has_guid guid (manager ∷ xs) ≡ has_guid guid (manager ∷ ys) → has_guid guid xs ≡ has_guid guid ys
same_rests manager guid xs ys one other same = by (manager == guid) refl
  where
    by : (b : Bool) → (manager == guid) ≡ b → has_guid guid xs ≡ has_guid guid ys
    by true e =
        let at : manager ≡ guid = eqb-true manager guid e in
        subst (λ (g : ℕ). has_guid g xs ≡ has_guid g ys) at (one ∙ sym other)
    by false e =
        ap (λ (b : Bool). b || has_guid guid xs) (sym e) ∙ same ∙ ap (λ (b : Bool). b || has_guid guid ys) e

pub sweeps_find_what_is_listed : SweepsFindWhatIsListed
sweeps_find_what_is_listed partitions plan graph guids sound is lids order = record {
  lids = counted_from 1 ports are.lids ∙ ap (enumerate_from 1) same;
  ends = All-from_recursion (λ port. Contains (end_ports_in graph) (listed_port port)) ports (each ports (recursion_from_All (IsEndPort partitions plan) ports are.only));
}
  where
    ports : List SubnetPort
    ports = ports_of partitions plan

    are : AreEndPorts partitions plan ports
    are = end_ports_stand_in_order partitions plan sound

    plans : StandsAsLids (port_guid_at plan.nodes plan.sm) (guids_of ports)
    plans = listed partitions plan ports are (sm_is_end_port plan sound)

    manager : port_guid_at plan.nodes plan.sm ≡ graph.manager
    manager = manager_end (fabric_of plan) graph (planned_port plan plan.sm) (good plan sound) is (planned_at plan plan.sm (sm_is_end_port plan sound))

    has_same : (guid : ℕ) → has_guid guid (graph.manager ∷ plans.others) ≡ has_guid guid (graph.manager ∷ order.others)
    has_same guid =
        ap (λ (n : ℕ). has_guid guid (n ∷ plans.others)) (sym manager) ∙ ap (has_guid guid) (sym plans.is)
        ∙ same_guids partitions plan graph ports guid sound is are ∙ sym (with_lid graph guids guid lids) ∙ ap (has_guid guid) order.guids_are

    others : plans.others ≡ order.others
    others =
        same_rising plans.others order.others plans.rise (rises order.others order.stand.rising)
        (λ guid. same_rests graph.manager guid plans.others order.others
        (subst (λ (n : ℕ). has_guid n plans.others ≡ false) manager plans.apart) order.stand.apart (has_same guid))

    same : guids_of ports ≡ guids
    same =
        plans.is ∙ ap (λ (n : ℕ). n ∷ plans.others) manager ∙ ap (λ (rest : List ℕ). graph.manager ∷ rest) others ∙ sym order.guids_are

    each : (some : List SubnetPort) → AllByRecursion (IsEndPort partitions plan) some → AllByRecursion (λ port. Contains (end_ports_in graph) (listed_port port)) some
    each [] all = tt
    each (port ∷ some) all = (
      subst (Contains (end_ports_in graph)) (sym (as_planned partitions plan port all.0))
          ((graphs_have_the_end_ports (fabric_of plan) graph (planned_port plan all.0.at) (good plan sound) is).1 (all.0.at, planned_at plan all.0.at all.0.there)),
      each some all.1,
    )
