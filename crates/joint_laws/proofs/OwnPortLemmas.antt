-- The end ports of a topology, and the switches of its fabric, as far as their tables are printed.
use Rattle.std.proofs.Common.{ℕ, zero, suc, ◌≡◌, ◌+◌, ◌-◌, ◌^◌, ◌<◌, ◌≤◌, ◌==◌, ◌&&◌, ◌∙◌, nat_le, ap, refl, sym, subst, Bool, true, false, not, if◌then◌else◌, List, [], ◌∷◌, drop, length, map, slice_get, Option, Some, None, option_map, arith}
use Rattle.std.specs.List.{AllByRecursion, IsDistinct, enumerate_from, list_all}
use Rattle.std.specs.Option.{option_and_then, option_map_or}
use Rattle.std.specs.Str.{bytes_eq}
use Rattle.std.proofs.lemmas.Bool.{and_parts, eqb-false, eqb-true, false≢true, leb-true, ne_eqb}
use Rattle.std.specs.Cmp.Lexicographic.{same_text}
use Rattle.std.proofs.lemmas.List.{length-map}
use Rattle.std.proofs.lemmas.List.FromFn.{length-enumerate_from}
use Rattle.std.proofs.lemmas.List.Elements.{recursion_from_All}
use Rattle.std.proofs.lemmas.Map.Keys.{IsDistinct-tail}
use Rattle.std.proofs.lemmas.Option.{none-some, same_Some, slice_get_within}
use Rattle.agent_rules.specs.declared.power_up.TheConstants.{LINEAR_TABLE}
use Rattle.fabric_parts.specs.Cable.{is_cabled}
use Rattle.fabric_parts.specs.NodeType.{is_switch_type}
use Rattle.fabric_parts.specs.declared.cable.PortRef.{PortRef}
use Rattle.fabric_parts.specs.declared.node_type.NodeType.{NodeType}
use Rattle.fabric_parts.specs.declared.node_type.NodeType.TheVariants as node_type
use Rattle.fabric_wire.proofs.OfTopologyGoodLemmas.{good}
use Rattle.fabric_wire.specs.OfTopology.{fabric_of}
use Rattle.lid_assign.specs.Lids.{guid_in}
use Rattle.partition_file.specs.declared.partition.Partition.{Partition}
use Rattle.smp_wire.specs.FabricState.{FabricState}
use Rattle.smp_wire.specs.Good.{has_a_right_count}
use Rattle.smp_wire.specs.declared.node.Node.{Node}
use Rattle.smp_wire.specs.declared.node.Node.TheVariants.{Switch, Adapter}
use Rattle.step_results.proofs.DistinctLemmas.{none_shares}
use Rattle.step_results.proofs.ListLemmas.{all_have, all_there, list_all_weaker}
use Rattle.step_results.proofs.RisingLemmas.{place_here, place_later}
use Rattle.subnet_fabric.specs.BringUp.{IsBroughtUpBy}
use Rattle.subnet_model.specs.declared.subnet_port.SubnetPort.{SubnetPort}
use Rattle.subnet_fabric.proofs.EndPortLemmas.{end_ports_stand_in_order}
use Rattle.subnet_fabric.proofs.GraphPortLemmas.{sweeps_find_what_is_listed}
use Rattle.subnet_fabric.specs.EndPorts.{AreEndPorts, IsEndPort, is_end_port}
use Rattle.subnet_fabric.specs.FabricPorts.{AreOfGraph}
use Rattle.subnet_fabric.specs.Ports.{ports_of}
use Rattle.sweep.proofs.FoundLemmas.{any_by}
use Rattle.switch_model.specs.SwitchState.{SwitchState, num_ports}
use Rattle.table_push.proofs.BroughtUpLemmas.{brings_up}
use Rattle.table_push.proofs.EntryLemmas.{few_homes}
use Rattle.table_push.specs.BroughtUp.{IsBroughtUp}
use Rattle.text_words.specs.Words.{is_name_byte}
use Rattle.topo_file.specs.Node.{HasGuids, is_switch, last_guid, name_at, place_of, port_guid_at, port_guids}
use Rattle.topo_file.specs.Sound.{IsSound, is_named, shares_name}
use Rattle.topo_file.specs.Topology.{TopologyState}
use Rattle.topo_file.specs.declared.node.Node.{Node as PlannedNode}
use Rattle.updn_routes.specs.Subnet.{RoutesState, home_in}
use Rattle.joint_laws.proofs.ReadLemmas.{Fits, RiseFrom}
use Rattle.joint_laws.proofs.LoadTableLemmas.{FitsSwitch, switch_in, switch_of}
use Rattle.joint_laws.proofs.TextLemmas.{is_one_line, same_bytes}

-- ---- a list that counts LIDs
abbrev numbers_of : SubnetPort → ℕ × ℕ
numbers_of one = (one.lid, one.guid)

first_is : (one : SubnetPort) (some : List SubnetPort) (first guid : ℕ) (guids : List ℕ) → map numbers_of (one ∷ some) ≡ enumerate_from first (guid ∷ guids)
    → (one.lid ≡ first) × (one.guid ≡ guid) × (map numbers_of some ≡ enumerate_from (first + 1) guids)
first_is one some first guid guids is =
    let head : numbers_of one ≡ (first, guid) = same_Some (numbers_of one) (first, guid) (ap (λ (pairs : List (ℕ × ℕ)). slice_get pairs 0) is) in
    (ap (λ (pair : ℕ × ℕ). pair.0) head, ap (λ (pair : ℕ × ℕ). pair.1) head, ap (λ (pairs : List (ℕ × ℕ)). drop 1 pairs) is)

no_pair : (pair : ℕ × ℕ) (pairs : List (ℕ × ℕ)) → pair ∷ pairs ≡ [] → ⊥
no_pair pair pairs is = none-some pair (sym (ap (λ (some : List (ℕ × ℕ)). slice_get some 0) is))

rises : (some : List SubnetPort) (first low : ℕ) (guids : List ℕ) → low ≤ first → map numbers_of some ≡ enumerate_from first guids → RiseFrom low some
rises [] first low guids from is = tt
rises (one ∷ some) first low [] from is = absurd (no_pair (numbers_of one) (map numbers_of some) is)
rises (one ∷ some) first low (guid ∷ guids) from is =
    let parts = first_is one some first guid guids is in
    let lid = parts.0 in
    (omega (arith, from, lid), rises some (first + 1) (one.lid + 1) guids (omega (arith, lid)) parts.2)

all_named : (lids : List ℕ) (some : List SubnetPort) (first : ℕ) (guids : List ℕ)
    → ((j guid : ℕ) → slice_get guids j ≡ Some guid → guid_in lids (first + j) ≡ Some guid)
    → map numbers_of some ≡ enumerate_from first guids → AllByRecursion (λ one. guid_in lids one.lid ≡ Some one.guid) some
all_named lids [] first guids each is = tt
all_named lids (one ∷ some) first [] each is = absurd (no_pair (numbers_of one) (map numbers_of some) is)
all_named lids (one ∷ some) first (guid ∷ guids) each is =
    let parts = first_is one some first guid guids is in
    let here : first + 0 ≡ one.lid = omega (arith, parts.0) in (
      ap (guid_in lids) (sym here) ∙ each 0 guid refl ∙ ap (λ (n : ℕ). Some n) (sym parts.1),
      all_named lids some (first + 1) guids (λ j other there. let moved : first + 1 + j ≡ first + suc j = omega arith in ap (guid_in lids) moved ∙ each
          (suc j) other there) parts.2,
    )

both_of : {X : Type 0} (P Q R : X → Type 0) → ((x : X) → P x → Q x → R x) → (xs : List X) → AllByRecursion P xs → AllByRecursion Q xs → AllByRecursion R xs
both_of P Q R join [] one other = tt
both_of P Q R join (x ∷ xs) one other = (join x one.0 other.0, both_of P Q R join xs one.1 other.1)

-- ---- names, and their places
name_one_line : (nodes : List PlannedNode) (place : ℕ) → list_all is_named nodes ≡ true → is_one_line (name_at nodes place) ≡ true
name_one_line nodes place named = by (slice_get nodes place) refl
  where
    each : (byte : ℕ) → is_name_byte byte ≡ true → not (byte == 10) ≡ true
    each byte is = by (byte == 10) refl
      where
        by : (b : Bool) → (byte == 10) ≡ b → not b ≡ true
        by false other = refl
        by true same = absurd (false≢true (ap is_name_byte (sym (eqb-true byte 10 same)) ∙ is))

    by : (o : Option PlannedNode) → slice_get nodes place ≡ o → is_one_line (option_map_or (λ node. node.name) o []) ≡ true
    by None there = refl
    by (Some node) there =
        let name = all_there is_named nodes place node named there in
        let long = and_parts (nat_le 1 (length node.name)) _ name in
        let bytes = and_parts (nat_le (length node.name) 32) _ long.1 in
        list_all_weaker is_name_byte (λ byte. not (byte == 10)) each node.name bytes.1

pub place_named : (nodes : List PlannedNode) (k : ℕ) (node : PlannedNode) → IsDistinct shares_name nodes → slice_get nodes k ≡ Some node
    → place_of node.name nodes ≡ Some k
place_named [] k node own there = absurd (none-some node there)
place_named (one ∷ nodes) zero node own there =
    let same : one ≡ node = same_Some one node there in
    place_here (λ other. bytes_eq node.name other.name) one nodes (ap (λ (other : PlannedNode). bytes_eq node.name other.name) same ∙ same_bytes node.name)
place_named (one ∷ nodes) (suc k) node own there =
    place_later (λ other. bytes_eq node.name other.name) one nodes (by (bytes_eq node.name one.name) refl)
    ∙ ap (option_map (λ n. n + 1)) (place_named nodes k node (IsDistinct-tail shares_name one nodes own) there) ∙ ap (λ (n : ℕ). Some n) next
  where
    next : k + 1 ≡ suc k
    next = omega arith

    by : (b : Bool) → bytes_eq node.name one.name ≡ b → bytes_eq node.name one.name ≡ false
    by false other = other
    by true same =
        let name : node.name ≡ one.name = same_text node.name one.name (sym same) in
        absurd (false≢true (sym (none_shares shares_name one nodes own)
        ∙ any_by (shares_name one) nodes k node there (ap (λ (text : List ℕ). bytes_eq one.name text) name ∙ same_bytes one.name)))

-- ---- GUIDs of end ports have 64 bits
guid_small : (plan : TopologyState) → IsSound plan → (at : PortRef) → is_end_port plan at ≡ true → port_guid_at plan.nodes at < 2 ^ 64
guid_small plan sound at ends = by (slice_get plan.nodes at.node) refl
  where
    within : (of : NodeType) (ports : ℕ) (cabled : Bool)
        → (if is_switch_type of then at.port == 0 else (nat_le 1 at.port && nat_le at.port ports) && cabled) ≡ true → at.port ≤ port_guids of ports
    within node_type.Switch ports cabled is = let none = eqb-true at.port 0 is in omega (arith, none)
    within node_type.ChannelAdapter ports cabled is =
        leb-true at.port ports (and_parts (nat_le 1 at.port) _ (and_parts (nat_le 1 at.port && nat_le at.port ports) cabled is).0).1

    by : (o : Option PlannedNode) → slice_get plan.nodes at.node ≡ o → option_map_or (λ node. node.guid + at.port) o 0 < 2 ^ 64
    by None there = omega arith
    by (Some node) there =
        let is : (if is_switch node then at.port == 0 else (nat_le 1 at.port && nat_le at.port node.ports) && is_cabled plan.cables at) ≡ true =
        rw there at ends in
        let low = within node.node_type node.ports (is_cabled plan.cables at) is in
        let last : last_guid node < 2 ^ 64 = all_have HasGuids plan.nodes at.node node sound.lines.guids there in
        omega (arith, low, last)

module _ (partitions : List Partition) (plan : TopologyState) (sound : IsSound plan) (keys : List (List ℕ)) (routes : RoutesState) (fabric : FabricState)
    (up : IsBroughtUpBy plan keys routes fabric) where
  abbrev pub ports : List SubnetPort
  ports = ports_of partitions plan

  pub ends : AreEndPorts partitions plan ports
  ends = end_ports_stand_in_order partitions plan sound

  of_graph : AreOfGraph routes.graph routes.lids ports
  of_graph = sweeps_find_what_is_listed partitions plan routes.graph routes.lids sound up.are.found.of.layout up.are.assigned.lids up.are.assigned.order

  pub numbered : map (λ (one : SubnetPort). (one.lid, one.guid)) ports ≡ enumerate_from 1 routes.lids
  numbered = of_graph.lids

  pub rise : RiseFrom 0 ports
  rise = rises ports 1 0 routes.lids (omega arith) numbered

  pub few_lids : length routes.lids < 512
  few_lids =
      let count : LINEAR_TABLE ≡ 512 = refl in
      let homes = ap (λ (some : List PortRef). length some) up.home.of.homes_are ∙ length-map routes.lids (home_in routes.graph) in
      omega (arith, few_homes routes up.home, homes, count)

  pub few_ports : length ports < 2 ^ 64
  few_ports =
      let pairs = length-map ports numbers_of in
      let counted = length-enumerate_from 1 routes.lids in
      let same = ap (λ (some : List (ℕ × ℕ)). length some) numbered in
      omega (arith, pairs, counted, same, few_lids)

  named : AllByRecursion (λ one. guid_in routes.lids one.lid ≡ Some one.guid) ports
  named = all_named routes.lids ports 1 routes.lids from_first numbered
    where
      from_first : (j guid : ℕ) → slice_get routes.lids j ≡ Some guid → guid_in routes.lids (1 + j) ≡ Some guid
      from_first j guid there =
          let back : 1 + j - 1 ≡ j = omega arith in rw (ne_eqb (1 + j) 0 (λ none. omega (arith, none))) (ap (slice_get routes.lids) back ∙ there)

  pub lid_low : (lid guid : ℕ) → guid_in routes.lids lid ≡ Some guid → (1 ≤ lid) × (lid ≤ length routes.lids)
  lid_low lid guid is = by (lid == 0) refl is
    where
      by : (b : Bool) → (lid == 0) ≡ b → (if b then None else slice_get routes.lids (lid - 1)) ≡ Some guid → (1 ≤ lid) × (lid ≤ length routes.lids)
      by true zero_lid is = absurd (none-some guid is)
      by false other is =
          let some = eqb-false lid 0 other in
          let within = slice_get_within routes.lids (lid - 1) guid is in
          (omega (arith, some), omega (arith, some, within))

  fits : (one : SubnetPort) → IsEndPort partitions plan one → guid_in routes.lids one.lid ≡ Some one.guid → Fits routes.lids one
  fits one is names = record {
    lid = let low = lid_low one.lid one.guid names in omega (arith, low.1, few_lids);
    guid = let small = guid_small plan sound is.at is.there in omega (arith, is.guid, small);
    name = ap is_one_line is.node_name ∙ name_one_line plan.nodes is.at.node sound.lines.names;
    named = names;
  }

  pub all_ends : AllByRecursion (IsEndPort partitions plan) ports
  all_ends = recursion_from_All (IsEndPort partitions plan) ports ends.only

  pub all_fit : AllByRecursion (Fits routes.lids) ports
  all_fit = both_of (IsEndPort partitions plan) (λ one. guid_in routes.lids one.lid ≡ Some one.guid) (Fits routes.lids) fits ports all_ends named

  -- ---- switches
  pub brought : IsBroughtUp routes keys fabric
  brought = subst (IsBroughtUp routes keys) (sym up.is) (brings_up routes keys (fabric_of plan) up.home up.are.found.of (good plan sound) up.pushed)

  pub switch_few : (place : ℕ) (held : SwitchState) → slice_get fabric.nodes place ≡ Some (Switch held) → num_ports held ≤ 36
  switch_few place held there =
      let count = all_there has_a_right_count fabric.nodes place (Switch held) brought.good.counts there in
      leb-true (num_ports held) 36 (and_parts (nat_le 1 (num_ports held)) _ count).1

  pub switch_fits : (place : ℕ) (held : SwitchState) → slice_get fabric.nodes place ≡ Some (Switch held) → FitsSwitch held
  switch_fits place held there =
      let top = (brought.tables place held there).1 in
      let few = switch_few place held there in
      record { top = omega (arith, top, few_lids); few = omega (arith, few) }

  pub held_fits : (one : SubnetPort) (held : SwitchState) → switch_of plan.nodes fabric one ≡ Some held → FitsSwitch held
  held_fits one held is = by_place (place_of one.node_name plan.nodes) is
    where
      by_node : (place : ℕ) (o : Option Node) → slice_get fabric.nodes place ≡ o → switch_in (option_map (λ node. (place, node)) o) ≡ Some held
          → FitsSwitch held
      by_node place None there found = absurd (none-some held found)
      by_node place (Some (Adapter ones)) there found = absurd (none-some held found)
      by_node place (Some (Switch other)) there found = subst FitsSwitch (same_Some other held found) (switch_fits place other there)

      by_place : (o : Option ℕ) → switch_in (option_and_then (λ place. option_map (λ node. (place, node)) (slice_get fabric.nodes place)) o) ≡ Some held
          → FitsSwitch held
      by_place None found = absurd (none-some held found)
      by_place (Some place) found = by_node place (slice_get fabric.nodes place) refl found
