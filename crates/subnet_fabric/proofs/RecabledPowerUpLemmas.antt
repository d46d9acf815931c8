-- A topology's fabric that is good once all is pushed was good at power-up, and after each push.
use Rattle.std.proofs.Common.{ℕ, suc, ◌≡◌, ◌+◌, nat_le, ◌∙◌, ap, refl, sym, subst, true, List, [], ◌∷◌, flat_map, map, length, slice_get, Option, Some, None, option_map, arith}
use Rattle.std.specs.List.{All, AllByRecursion, IsDistinct, list_all, range_with_len}
use Rattle.std.proofs.lemmas.Bool.{and_parts, leb-true}
use Rattle.std.proofs.lemmas.Grind.{flat_map-append}
use Rattle.std.proofs.lemmas.List.{append-nil}
use Rattle.std.proofs.lemmas.List.Elements.{All-from_recursion, recursion_from_All}
use Rattle.std.proofs.lemmas.List.Folds.{list_all-append}
use Rattle.std.proofs.lemmas.Option.{none-some, same_Some, slice_get-map, slice_get_within}
use Rattle.std.proofs.lemmas.Simd.{map-map}
use Rattle.agent_rules.specs.declared.power_up.TheConstants.{LINEAR_TABLE, MULTICAST_TABLE}
use Rattle.attr_tables.specs.Attribute.{IsAttribute}
use Rattle.fabric_parts.specs.Cable.{is_same_port}
use Rattle.fabric_parts.specs.declared.cable.Cable.{Cable}
use Rattle.fabric_parts.specs.declared.node_type.NodeType.{NodeType}
use Rattle.fabric_parts.specs.declared.node_type.NodeType.TheVariants as node_type
use Rattle.fabric_wire.proofs.OfTopologyLemmas.{count_of, links_long, node_at}
use Rattle.fabric_wire.specs.OfTopology.{adapter_port_of, fabric_of, link_of, links_of, named, node_of, node_of_type}
use Rattle.port_model.proofs.AgentLemmas.{new_ports_good}
use Rattle.port_model.specs.AdapterState.{AdapterState}
use Rattle.port_model.specs.Good.{IsGoodPort as IsGoodEnd}
use Rattle.step_results.proofs.DistinctLemmas.{left_part}
use Rattle.step_results.proofs.ListLemmas.{all_have, all_there}
use Rattle.smp_wire.specs.FabricState.{FabricState, port_count}
use Rattle.smp_wire.specs.Good.{IsGood, IsGoodNode, ends_of, has_a_right_count, is_right, node_guid}
use Rattle.smp_wire.specs.declared.node.Node.{Node}
use Rattle.smp_wire.specs.declared.node.Node.TheVariants.{Switch, Adapter}
use Rattle.subnet_fabric.proofs.RecabledLookLemmas.{LooksSame, Look, all_look, good_too, graph_too, keys_look, look, ports_look, same_shape}
use Rattle.subnet_fabric.proofs.RecabledPortLemmas.{ranged}
use Rattle.sweep.specs.Graph.{GraphState}
use Rattle.sweep.specs.OfFabric.{IsGraphOf}
use Rattle.switch_model.proofs.GoodLemmas.{new_switches_good}
use Rattle.switch_model.specs.Good.{IsGoodPort}
use Rattle.table_push.proofs.BroughtUpNodeLemmas.{twice_at}
use Rattle.table_push.proofs.SetUpLemmas.{node_after, with_all, with_info, with_ports, with_table}
use Rattle.table_push.specs.Linear.{with_linear}
use Rattle.table_push.specs.Nodes.{infos_by, keys_by, numbered, switch_by}
use Rattle.table_push.specs.Ports.{ports_pushed, set_top}
use Rattle.table_push.specs.Pushed.{ArePushed, all_pushed, ports_and_keys}
use Rattle.topo_file.specs.Node.{port_guid}
use Rattle.topo_file.specs.Topology.{TopologyState}
use Rattle.topo_file.specs.declared.node.Node.{Node as PlannedNode}
use Rattle.updn_routes.specs.Subnet.{RoutesState}

-- ---- lists
each_of : {X : Type 0} (P : X → Type 0) (xs : List X) → ((k : ℕ) (x : X) → slice_get xs k ≡ Some x → P x) → AllByRecursion P xs
each_of P [] each = tt
each_of P (x ∷ xs) each = (each 0 x refl, each_of P xs (λ k y there. each (suc k) y there))

all_of : {X : Type 0} (P : X → Type 0) (xs : List X) → ((k : ℕ) (x : X) → slice_get xs k ≡ Some x → P x) → All P xs
all_of P xs each = All-from_recursion P xs (each_of P xs each)

all_mapped : {X Y : Type 0} (P : Y → Type 0) (f : X → Y) (xs : List X) → ((k : ℕ) (x : X) → slice_get xs k ≡ Some x → P (f x)) → All P (map f xs)
all_mapped {X = X} P f xs each = all_of P (map f xs) (λ k y there. by k y (slice_get xs k) refl (sym (slice_get-map f xs k) ∙ there))
  where
    by : (k : ℕ) (y : _) (o : Option X) → slice_get xs k ≡ o → option_map f o ≡ Some y → P y
    by k y None at is = absurd (none-some y is)
    by k y (Some x) at is = subst P (same_Some (f x) y is) (each k x at)

-- what is so before the one change and after the other is so between them
between : {X : Type 0} (f g : ℕ → X → X) (P A B : X → Type 0) (first : ℕ) (xs : List X) → ((n : ℕ) (x : X) → P x → A (f n (g n x)) → B (g n x))
    → AllByRecursion P xs → AllByRecursion A (numbered f first (numbered g first xs)) → AllByRecursion B (numbered g first xs)
between f g P A B first [] goes before after = tt
between f g P A B first (x ∷ xs) goes before after =
    (goes first x before.0 after.0, between f g P A B (first + 1) xs goes before.1 after.1)

all_between : {X : Type 0} (f g : ℕ → X → X) (P : X → Type 0) (first : ℕ) (xs : List X) → ((n : ℕ) (x : X) → P x → P (f n (g n x)) → P (g n x))
    → All P xs → All P (numbered f first (numbered g first xs)) → All P (numbered g first xs)
all_between f g P first xs goes before after =
    All-from_recursion P (numbered g first xs)
    (between f g P P P first xs goes (recursion_from_All P xs before) (recursion_from_All P (numbered f first (numbered g first xs)) after))

module _ (routes : RoutesState) (keys : List (List ℕ)) where
  abbrev with_keys : Node → Node
  with_keys node = keys_by (with_table routes keys) (with_ports routes keys node)

  -- ---- a node after each push
  ports_good : (node : Node) → IsGoodNode node → IsGoodNode (with_all routes keys node) → IsGoodNode (with_ports routes keys node)
  ports_good (Switch held) good all = record {
    description = good.description;
    info = all.info;
    ports = all_between (λ number port. record port { keys = with_table routes keys held.node_guid number port.keys })
        (λ number port. record port { info = with_info routes keys held.node_guid number port.info }) IsGoodPort 0 held.ports
        (λ n port before after. record { info = after.info; keys = before.keys }) good.ports all.ports;
    linear = good.linear;
    positions = good.positions;
    masks = good.masks;
  }
  ports_good (Adapter []) good all = good
  ports_good (Adapter (one ∷ rest)) good all =
      all_between (λ number port. record port { keys = with_table routes keys one.node_guid number port.keys })
      (λ number port. record port { info = with_info routes keys one.node_guid number port.info }) IsGoodEnd 1 (one ∷ rest)
      (λ n port before after. record { description = before.description; info = after.info; keys = before.keys }) good all

  keys_good : (node : Node) → IsGoodNode node → IsGoodNode (with_all routes keys node) → IsGoodNode (with_keys node)
  keys_good (Switch held) good all = record {
    description = good.description;
    info = all.info;
    ports = all.ports;
    linear = good.linear;
    positions = good.positions;
    masks = good.masks;
  }
  keys_good (Adapter ports) good all = all

  -- ---- a node at power-up
  described : (ports : List AdapterState) (k : ℕ) (one : AdapterState) → IsGoodNode (with_all routes keys (Adapter ports)) → slice_get ports k ≡ Some one
      → IsAttribute one.description
  described ports k one all there =
      (all_have IsGoodEnd (numbered reported_keys 1 (numbered reported_info 1 ports)) k (reported_keys (1 + k) (reported_info (1 + k) one)) all
      (twice_at reported_keys reported_info 1 ports k ∙ ap (option_map (λ port. reported_keys (1 + k) (reported_info (1 + k) port))) there)).description
    where
      reported_info : ℕ → AdapterState → AdapterState
      reported_info number port = record port { info = with_info routes keys (node_guid (Adapter ports)) number port.info }

      reported_keys : ℕ → AdapterState → AdapterState
      reported_keys number port = record port { keys = with_table routes keys (node_guid (Adapter (numbered reported_info 1 ports))) number port.keys }

  power_up_good : (of : NodeType) (cables : List Cable) (place : ℕ) (node : PlannedNode) → IsGoodNode (with_all routes keys (node_of_type of cables place node))
      → has_a_right_count (node_of_type of cables place node) ≡ true → IsGoodNode (node_of_type of cables place node)
  power_up_good node_type.Switch cables place node all right =
      let long = links_long cables place node.ports in
      let count = count_of node_type.Switch cables place node in
      let ports = port_count (node_of_type node_type.Switch cables place node) in
      let few = leb-true ports 36 (and_parts (nat_le 1 ports) _ right).1 in
      new_switches_good node.guid (named node.name) (links_of cables place node.ports) LINEAR_TABLE MULTICAST_TABLE
      all.description (omega (arith, few, long, count)) (omega arith) (omega arith)
  power_up_good node_type.ChannelAdapter cables place node all right =
      let ports = port_count (node_of_type node_type.ChannelAdapter cables place node) in
      let few = leb-true ports 8 (and_parts (nat_le 1 ports) _ right).1 in
      all_mapped IsGoodEnd (adapter_port_of cables place node) (range_with_len 1 node.ports) (λ k number at.
      let there = slice_get-map (adapter_port_of cables place node) (range_with_len 1 node.ports) k ∙ ap (option_map (adapter_port_of cables place node)) at in
      let within = slice_get_within (map (adapter_port_of cables place node) (range_with_len 1 node.ports)) k (adapter_port_of cables place node number) there in
      let is = ranged 1 node.ports k number at in
      new_ports_good node.guid node.ports number (port_guid node number) (named node.name) (link_of cables place number) (omega (arith, is, within, few))
      (described (map (adapter_port_of cables place node) (range_with_len 1 node.ports)) k (adapter_port_of cables place node number) all there))

  -- ---- a fabric: the same shows of it all the while
  module _ (fabric : FabricState) where
    abbrev pushed : FabricState
    pushed = all_pushed routes keys fabric

    with_ports_are : (ports_pushed routes fabric).nodes ≡ map (with_ports routes keys) fabric.nodes
    with_ports_are = map-map (switch_by (λ guid. set_top (length routes.lids))) (infos_by (with_info routes keys)) fabric.nodes

    with_keys_are : (ports_and_keys routes keys fabric).nodes ≡ map with_keys fabric.nodes
    with_keys_are =
        ap (map (keys_by (with_table routes keys))) with_ports_are ∙ map-map (keys_by (with_table routes keys)) (with_ports routes keys) fabric.nodes

    pub with_all_are : pushed.nodes ≡ map (with_all routes keys) fabric.nodes
    with_all_are = ap (map (switch_by (with_linear routes))) with_keys_are ∙ map-map (switch_by (with_linear routes)) with_keys fabric.nodes

    shows : (change : Node → Node) (nodes : List Node) → nodes ≡ map change fabric.nodes → ((node : Node) → look (change node) ≡ look node)
        → LooksSame fabric.nodes nodes
    shows change nodes are same =
        ap (map look) are ∙ map-map look change fabric.nodes ∙ (λ i. map (λ node. same node i) fabric.nodes)

    ports_show : LooksSame fabric.nodes (ports_pushed routes fabric).nodes
    ports_show = shows (with_ports routes keys) (ports_pushed routes fabric).nodes with_ports_are (ports_look routes keys)

    keys_show : LooksSame fabric.nodes (ports_and_keys routes keys fabric).nodes
    keys_show =
        shows with_keys (ports_and_keys routes keys fabric).nodes with_keys_are
        (λ node. keys_look (with_table routes keys) (with_ports routes keys node) ∙ ports_look routes keys node)

    pub all_show : LooksSame fabric.nodes pushed.nodes
    all_show = shows (with_all routes keys) pushed.nodes with_all_are (all_look routes keys)

    -- so its graph is the same
    pub graph_then : (graph : GraphState) → IsGraphOf graph fabric → IsGraphOf graph pushed
    graph_then graph of = graph_too fabric pushed.nodes all_show graph of

    pub graph_was : (graph : GraphState) → IsGraphOf graph pushed → IsGraphOf graph fabric
    graph_was graph of = graph_too pushed fabric.nodes (sym all_show) graph of

  -- ---- that of a topology
  module _ (plan : TopologyState) (good : IsGood (all_pushed routes keys (fabric_of plan))) where
    abbrev new : FabricState
    new = fabric_of plan

    abbrev all : FabricState
    all = all_pushed routes keys new

    good_then : (k : ℕ) (node : Node) → slice_get new.nodes k ≡ Some node → IsGoodNode (with_all routes keys node)
    good_then k node there =
        all_have IsGoodNode all.nodes k (with_all routes keys node) good.holdings
        (node_after routes keys new k ∙ ap (option_map (with_all routes keys)) there)

    right_then : (k : ℕ) (node : Node) → slice_get new.nodes k ≡ Some node → has_a_right_count node ≡ true
    right_then k node there =
        ap (λ (one : Look). one.right) (sym (all_look routes keys node))
        ∙ all_there has_a_right_count all.nodes k (with_all routes keys node) good.counts
        (node_after routes keys new k ∙ ap (option_map (with_all routes keys)) there)

    good_before : (k : ℕ) (node : Node) → slice_get new.nodes k ≡ Some node → IsGoodNode node
    good_before k node there = by (slice_get plan.nodes k) (sym (node_at plan.cables plan.nodes k) ∙ there)
      where
        by : (o : Option PlannedNode) → option_map (node_of plan.cables k) o ≡ Some node → IsGoodNode node
        by None is = absurd (none-some node is)
        by (Some planned) is =
            let same = same_Some (node_of plan.cables k planned) node is in
            let at : slice_get new.nodes k ≡ Some (node_of plan.cables k planned) = there ∙ sym is in
            subst IsGoodNode same
            (power_up_good planned.node_type plan.cables k planned (good_then k (node_of plan.cables k planned) at)
            (right_then k (node_of plan.cables k planned) at))

    pub was_good : IsGood new
    was_good = good_too all new.nodes (sym (all_show new)) (all_of IsGoodNode new.nodes good_before) good

    pub are_pushed : ArePushed routes keys new
    are_pushed = record {
      ports = record {
        good = good_too new (ports_pushed routes new).nodes (ports_show new)
            (subst (All IsGoodNode) (sym (with_ports_are new)) (all_mapped IsGoodNode (with_ports routes keys) new.nodes
            (λ k node there. ports_good node (good_before k node there) (good_then k node there)))) was_good;
        shape = same_shape new (ports_pushed routes new).nodes (ports_show new);
      };
      key_tables = record {
        good = good_too new (ports_and_keys routes keys new).nodes (keys_show new)
            (subst (All IsGoodNode) (sym (with_keys_are new)) (all_mapped IsGoodNode with_keys new.nodes
            (λ k node there. keys_good node (good_before k node there) (good_then k node there)))) was_good;
        shape = same_shape (ports_pushed routes new) (ports_and_keys routes keys new).nodes (keys_show new ∙ sym (ports_show new));
      };
      linear = record { good = good; shape = same_shape (ports_and_keys routes keys new) all.nodes (all_show new ∙ sym (keys_show new)) };
    }

-- ---- cables that are cut
pub graph_with_cut : (fabric : FabricState) (cut : List Cable) (graph : GraphState) → IsGraphOf graph fabric → IsGraphOf graph (record fabric { cut = cut })
graph_with_cut fabric cut graph of = record {
  layout = record {
    found = of.layout.found;
    once = of.layout.once;
    all = of.layout.all;
    manager = of.layout.manager;
    switches = of.layout.switches;
    rows = of.layout.rows;
    ports = of.layout.ports;
  };
  lead = λ i d within. let leads = of.lead i d within in record {
    rest = leads.rest;
    leaves = leads.leaves;
    at = leads.at;
    ends = leads.ends;
    node = leads.node;
    short = leads.short;
  };
}

pub good_uncut : (fabric : FabricState) → IsGood fabric → IsGood (record fabric { cut = [] })
good_uncut fabric good = record {
  node_guids = good.node_guids;
  end_guids = good.end_guids;
  counts = good.counts;
  order = good.order;
  holdings = good.holdings;
  cables = ap (list_all (is_right fabric.nodes)) (append-nil fabric.cables)
      ∙ (and_parts (list_all (is_right fabric.nodes) fabric.cables) _ (sym (list_all-append (is_right fabric.nodes) fabric.cables fabric.cut) ∙ good.cables)).0;
  once = subst (λ (cables : List Cable). IsDistinct is_same_port (flat_map ends_of cables)) (sym (append-nil fabric.cables))
      (left_part is_same_port (flat_map ends_of fabric.cables) (flat_map ends_of fabric.cut)
      (subst (IsDistinct is_same_port) (flat_map-append ends_of fabric.cables fabric.cut) good.once));
  manager_port = good.manager_port;
  manager_adapter = good.manager_adapter;
  manager_cabled = good.manager_cabled;
}
