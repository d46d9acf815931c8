-- What shows of the nodes of a fabric, whatever stands in their tables: two fabrics of which the same shows are swept alike.
use Rattle.std.proofs.Common.{ℕ, ◌≡◌, ◌+◌, ◌&&◌, ◌∙◌, nat_le, ap, ap₂, refl, sym, Bool, true, false, List, [], ◌∷◌, map, flat_map, length, slice_get, Option, Some, None, option_map, unwrap_or}
use Rattle.std.specs.List.{All, list_all, range_with_len}
use Rattle.std.specs.Option.{option_and_then, option_map_or}
use Rattle.std.specs.Str.{bytes_eq}
use Rattle.std.proofs.lemmas.List.Folds.{flat_map-map}
use Rattle.std.proofs.lemmas.Simd.{map-map}
use Rattle.attr_tables.specs.declared.port_info.PortInfo.{PortInfo}
use Rattle.fabric_parts.specs.Cable.{far_end, last_of, port}
use Rattle.fabric_parts.specs.declared.cable.Cable.{Cable}
use Rattle.fabric_parts.specs.declared.cable.PortRef.{PortRef}
use Rattle.port_model.specs.AdapterState.{AdapterState}
use Rattle.step_results.proofs.ElementLemmas.{all_same, get_same, or_same}
use Rattle.smp_wire.specs.FabricState.{FabricState, all_cables, is_port, is_switch, is_switch_at, port_count}
use Rattle.smp_wire.specs.Good.{IsGood, IsGoodNode, end_port_guids, has_a_right_count, is_in_order, is_of, is_right, most_ports_of, node_guid}
use Rattle.smp_wire.specs.Shape.{IsSameShape}
use Rattle.smp_wire.specs.Walk.{end_of, hop, walk}
use Rattle.smp_wire.specs.declared.node.Node.{Node}
use Rattle.smp_wire.specs.declared.node.Node.TheVariants.{Switch, Adapter}
use Rattle.sweep.specs.Graph.{GraphState}
use Rattle.sweep.specs.Hops.{IsTooFar, IsWithin}
use Rattle.sweep.specs.OfFabric.{Found, IsGraphOf, IsLayoutOf, Leads, all_ports, guid_at, link_to, node_at, nodes_of, port_to, ports_at, row_of, switch_of}
use Rattle.sweep.specs.Seen.{name_at, name_in, seen_at, seen_in}
use Rattle.sweep.specs.declared.seen.Seen.{Seen}
use Rattle.table_push.proofs.NumberedLemmas.{long_numbered}
use Rattle.table_push.proofs.SetUpLemmas.{with_all, with_ports}
use Rattle.table_push.proofs.SightLemmas.{IsUnseen, infos_unseen, keys_unseen}
use Rattle.table_push.specs.Linear.{with_linear}
use Rattle.table_push.specs.Nodes.{infos_by, keys_by, numbered, switch_by}
use Rattle.table_push.specs.Ports.{set_top}
use Rattle.updn_routes.specs.Subnet.{RoutesState}

-- ---- one node
pub record Look : Type 0 where
  pub guid : ℕ
  pub ends : List ℕ
  pub count : ℕ
  pub right : Bool
  pub order : Bool
  pub switch : Bool
  pub name : ℕ → Option (List ℕ)
  pub seen : ℕ → Option Seen

abbrev pub look : Node → Look
look node = record {
  guid = node_guid node;
  ends = end_port_guids node;
  count = port_count node;
  right = has_a_right_count node;
  order = is_in_order node;
  switch = is_switch node;
  name = λ number. name_in node number;
  seen = λ number. seen_in node number;
}

-- ---- a push does not show
map_kept : {X Y : Type 0} (f : ℕ → X → X) (g : X → Y) (first : ℕ) (xs : List X) → ((n : ℕ) (x : X) → g (f n x) ≡ g x) → map g (numbered f first xs) ≡ map g xs
map_kept f g first [] same = refl
map_kept f g first (x ∷ xs) same =
    let head = same first x in
    let tail = map_kept f g (first + 1) xs same in
    λ i. head i ∷ tail i

all_kept : {X : Type 0} (f : ℕ → X → X) (p : X → Bool) (first : ℕ) (xs : List X) → ((n : ℕ) (x : X) → p (f n x) ≡ p x)
    → list_all p (numbered f first xs) ≡ list_all p xs
all_kept f p first [] same = refl
all_kept f p first (x ∷ xs) same = ap₂ (λ (one rest : Bool). one && rest) (same first x) (all_kept f p (first + 1) xs same)

-- of a node, by what of it a sweep does not see
record IsHidden (change : Node → Node) : Type 0 where
  ends : (node : Node) → end_port_guids (change node) ≡ end_port_guids node
  right : (node : Node) → has_a_right_count (change node) ≡ has_a_right_count node
  order : (node : Node) → is_in_order (change node) ≡ is_in_order node

looks : (change : Node → Node) → IsUnseen change → IsHidden change → (node : Node) → look (change node) ≡ look node
looks change unseen hidden node =
    let guid = unseen.guid node in
    let ends = hidden.ends node in
    let count = unseen.count node in
    let right = hidden.right node in
    let order = hidden.order node in
    let switch = unseen.kind node in
    λ i. record {
      guid = guid i;
      ends = ends i;
      count = count i;
      right = right i;
      order = order i;
      switch = switch i;
      name = λ number. unseen.name number node i;
      seen = λ number. unseen.seen number node i;
    }

-- the ports of an adapter, of which each stays what it is
record Spares (f : ℕ → AdapterState → AdapterState) : Type 0 where
  guid : (n : ℕ) (one : AdapterState) → (f n one).port_guid ≡ one.port_guid
  number : (n : ℕ) (one : AdapterState) → (f n one).number ≡ one.number
  of : (guid count n : ℕ) (one : AdapterState) → is_of guid count (f n one) ≡ is_of guid count one

adapter_order : (f : ℕ → AdapterState → AdapterState) (ports : List AdapterState) → Spares f → node_guid (Adapter (numbered f 1 ports)) ≡ node_guid (Adapter ports)
    → is_in_order (Adapter (numbered f 1 ports)) ≡ is_in_order (Adapter ports)
adapter_order f ports spares guid =
    let long = long_numbered f 1 ports in
    let numbers = map_kept f (λ (one : AdapterState). one.number) 1 ports spares.number in
    (λ i. list_all (is_of (guid i) (long i)) (numbered f 1 ports) && bytes_eq (numbers i) (range_with_len 1 (long i)))
    ∙ ap (λ (b : Bool). b && bytes_eq (map (λ (one : AdapterState). one.number) ports) (range_with_len 1 (length ports)))
    (all_kept f (is_of (node_guid (Adapter ports)) (length ports)) 1 ports (spares.of (node_guid (Adapter ports)) (length ports)))

infos_hidden : (change : ℕ → ℕ → PortInfo → PortInfo) → IsHidden (infos_by change)
infos_hidden change = record { ends = ends; right = right; order = order }
  where
    ends : (node : Node) → end_port_guids (infos_by change node) ≡ end_port_guids node
    ends (Switch held) = refl
    ends (Adapter ports) = map_kept _ (λ (one : AdapterState). one.port_guid) 1 ports (λ n one. refl)

    right : (node : Node) → has_a_right_count (infos_by change node) ≡ has_a_right_count node
    right (Switch held) =
        ap (λ (n : ℕ). nat_le 1 n && nat_le n (most_ports_of (Switch held))) ((infos_unseen change).count (Switch held))
    right (Adapter ports) =
        ap (λ (n : ℕ). nat_le 1 n && nat_le n (most_ports_of (Adapter ports))) ((infos_unseen change).count (Adapter ports))

    order : (node : Node) → is_in_order (infos_by change node) ≡ is_in_order node
    order (Switch held) = refl
    order (Adapter ports) =
        adapter_order (λ number port. record port { info = change (node_guid (Adapter ports)) number port.info }) ports
        (record { guid = λ n one. refl; number = λ n one. refl; of = λ guid count n one. refl }) ((infos_unseen change).guid (Adapter ports))

keys_hidden : (change : ℕ → ℕ → List ℕ → List ℕ) → IsHidden (keys_by change)
keys_hidden change = record { ends = ends; right = right; order = order }
  where
    ends : (node : Node) → end_port_guids (keys_by change node) ≡ end_port_guids node
    ends (Switch held) = refl
    ends (Adapter ports) = map_kept _ (λ (one : AdapterState). one.port_guid) 1 ports (λ n one. refl)

    right : (node : Node) → has_a_right_count (keys_by change node) ≡ has_a_right_count node
    right (Switch held) =
        ap (λ (n : ℕ). nat_le 1 n && nat_le n (most_ports_of (Switch held))) ((keys_unseen change).count (Switch held))
    right (Adapter ports) =
        ap (λ (n : ℕ). nat_le 1 n && nat_le n (most_ports_of (Adapter ports))) ((keys_unseen change).count (Adapter ports))

    order : (node : Node) → is_in_order (keys_by change node) ≡ is_in_order node
    order (Switch held) = refl
    order (Adapter ports) =
        adapter_order (λ number port. record port { keys = change (node_guid (Adapter ports)) number port.keys }) ports
        (record { guid = λ n one. refl; number = λ n one. refl; of = λ guid count n one. refl }) ((keys_unseen change).guid (Adapter ports))

tops_look : (lid : ℕ) (node : Node) → look (switch_by (λ guid. set_top lid) node) ≡ look node
tops_look lid (Switch held) = refl
tops_look lid (Adapter ports) = refl

linears_look : (routes : RoutesState) (node : Node) → look (switch_by (with_linear routes) node) ≡ look node
linears_look routes (Switch held) = refl
linears_look routes (Adapter ports) = refl

pub infos_look : (change : ℕ → ℕ → PortInfo → PortInfo) (node : Node) → look (infos_by change node) ≡ look node
infos_look change node = looks (infos_by change) (infos_unseen change) (infos_hidden change) node

pub keys_look : (change : ℕ → ℕ → List ℕ → List ℕ) (node : Node) → look (keys_by change node) ≡ look node
keys_look change node = looks (keys_by change) (keys_unseen change) (keys_hidden change) node

pub ports_look : (routes : RoutesState) (keys : List (List ℕ)) (node : Node) → look (with_ports routes keys node) ≡ look node
ports_look routes keys node = tops_look (length routes.lids) _ ∙ infos_look _ node

pub all_look : (routes : RoutesState) (keys : List (List ℕ)) (node : Node) → look (with_all routes keys node) ≡ look node
all_look routes keys node = linears_look routes _ ∙ keys_look _ (with_ports routes keys node) ∙ ports_look routes keys node

-- ---- two fabrics of which the same shows
abbrev pub LooksSame : List Node → List Node → Type 0
LooksSame old new = map look new ≡ map look old

module _ (fabric : FabricState) (new : List Node) (same : LooksSame fabric.nodes new) where
  abbrev next : FabricState
  next = record fabric { nodes = new }

  read : {Y : Type 0} (f : Look → Y) → map (λ node. f (look node)) new ≡ map (λ node. f (look node)) fabric.nodes
  read f = sym (map-map f look new) ∙ ap (map f) same ∙ map-map f look fabric.nodes

  pub kind_same : (place : ℕ) → is_switch_at new place ≡ is_switch_at fabric.nodes place
  kind_same place = or_same is_switch false fabric.nodes new place (read (λ one. one.switch))

  is_there : (at : PortRef) → is_port new at ≡ is_port fabric.nodes at
  is_there at = ap (λ (n : ℕ). nat_le 1 at.port && nat_le at.port n) (or_same port_count 0 fabric.nodes new at.node (read (λ one. one.count)))

  -- ---- it is good
  right_same : (cable : Cable) → is_right new cable ≡ is_right fabric.nodes cable
  right_same cable = rw (is_there cable.first, is_there cable.second, kind_same cable.first.node, kind_same cable.second.node) refl

  ends_same : flat_map end_port_guids new ≡ flat_map end_port_guids fabric.nodes
  ends_same =
      sym (flat_map-map (λ guids. guids) end_port_guids new) ∙ ap (flat_map (λ guids. guids)) (read (λ one. one.ends))
      ∙ flat_map-map (λ guids. guids) end_port_guids fabric.nodes

  pub good_too : All IsGoodNode new → IsGood fabric → IsGood next
  good_too holdings good = record {
    node_guids = rw (read (λ one. one.guid)) good.node_guids;
    end_guids = rw ends_same good.end_guids;
    counts = all_same has_a_right_count fabric.nodes new (read (λ one. one.right)) ∙ good.counts;
    order = all_same is_in_order fabric.nodes new (read (λ one. one.order)) ∙ good.order;
    holdings = holdings;
    cables = (λ i. list_all (λ cable. right_same cable i) (all_cables fabric)) ∙ good.cables;
    once = good.once;
    manager_port = is_there fabric.manager ∙ good.manager_port;
    manager_adapter = kind_same fabric.manager.node ∙ good.manager_adapter;
    manager_cabled = good.manager_cabled;
  }

  -- ---- it is of the same shape
  hop_same : (starts : Bool) (here : PortRef) (number : ℕ) → hop new fabric.cables starts here number ≡ hop fabric.nodes fabric.cables starts here number
  unfolding hop
  hop_same starts here number = rw (kind_same here.node, is_there (port here.node number)) refl

  pub walk_same : (starts : Bool) (here : PortRef) (numbers : List ℕ)
      → walk new fabric.cables starts here numbers ≡ walk fabric.nodes fabric.cables starts here numbers
  walk_same starts here [] = refl
  walk_same starts here (number ∷ numbers) =
      ap₂ option_and_then (λ i there. option_map (λ ends. there ∷ ends) (walk_same false there numbers i)) (hop_same starts here number)

  pub same_shape : IsSameShape fabric next
  same_shape = record {
    cables = refl;
    cut = refl;
    manager = refl;
    switches = read (λ one. one.switch);
    node_guids = read (λ one. one.guid);
    end_port_guids = read (λ one. one.ends);
    port_counts = read (λ one. one.count);
    walks = λ starts here numbers. walk_same starts here numbers;
  }

  -- ---- it has the same graph
  pub guid_same : (place : ℕ) → guid_at next place ≡ guid_at fabric place
  guid_same place = or_same node_guid 0 fabric.nodes new place (read (λ one. one.guid))

  pub count_same : (place : ℕ) → ports_at next place ≡ ports_at fabric place
  count_same place = or_same port_count 0 fabric.nodes new place (read (λ one. one.count))

  then_same : {Y : Type 0} (f : Look → Option Y) (place : ℕ)
      → option_and_then (λ node. f (look node)) (slice_get new place) ≡ option_and_then (λ node. f (look node)) (slice_get fabric.nodes place)
  then_same f place =
      by (slice_get new place) ∙ ap (option_and_then f) (get_same look fabric.nodes new place same) ∙ sym (by (slice_get fabric.nodes place))
    where
      by : (o : Option Node) → option_and_then (λ node. f (look node)) o ≡ option_and_then f (option_map look o)
      by None = refl
      by (Some node) = refl

  pub name_same : (at : PortRef) → name_at next at ≡ name_at fabric at
  name_same at = then_same (λ one. one.name at.port) at.node

  pub seen_same : (at : PortRef) → seen_at next at ≡ seen_at fabric at
  seen_same at = then_same (λ one. one.seen at.port) at.node

  switch_same : (one : Found) → switch_of next one ≡ switch_of fabric one
  switch_same one =
      let guid = guid_same one.node in
      let count = count_same one.node in
      let name = name_same (port one.node 0) in
      λ i. record { guid = guid i; num_ports = count i; name = unwrap_or (name i) []; path = one.path }

  row_same : (nodes : List ℕ) (node : ℕ) → row_of next nodes node ≡ row_of fabric nodes node
  row_same nodes node =
      let links : (number : ℕ) (there : PortRef) → link_to next nodes number there ≡ link_to fabric nodes number there =
      λ number there. rw (kind_same there.node) refl in
      λ i. flat_map (λ number. option_map_or (λ there. links number there i) (far_end fabric.cables (port node number)) [])
      (range_with_len 1 (count_same node i))

  ports_same : (found : List Found) → all_ports next found ≡ all_ports fabric found
  ports_same found =
      let one : (at there : PortRef) → port_to next at there ≡ port_to fabric at there =
      λ at there. rw (kind_same there.node, name_same there, seen_same there) refl in
      λ i. flat_map (λ place. flat_map (λ number. option_map_or (λ there. one (port place number) there i) (far_end fabric.cables (port (node_at found place) number)) [])
      (range_with_len 1 (count_same (node_at found place) i))) (range_with_len 0 (length found))

  end_same : (path : List ℕ) → end_of next path ≡ end_of fabric path
  end_same path = ap (option_map (last_of fabric.manager)) (walk_same true fabric.manager path)

  leads_same : (one : Found) → Leads fabric one → Leads next one
  leads_same one leads = record {
    rest = leads.rest;
    leaves = leads.leaves;
    at = leads.at;
    ends = end_same one.path ∙ leads.ends;
    node = leads.node;
    short = leads.short;
  }

  pub layout_too : (graph : GraphState) → IsLayoutOf graph fabric → IsLayoutOf graph next
  layout_too graph layout = record {
    found = layout.found;
    once = layout.once;
    all = λ node. layout.all node ∙ sym (kind_same node);
    manager = ap (option_map (λ (seen : Seen). seen.port_guid)) (seen_same fabric.manager) ∙ layout.manager;
    switches = layout.switches ∙ sym (λ i. map (λ one. switch_same one i) layout.found);
    rows = layout.rows ∙ sym (λ i. map (λ one. row_same (nodes_of layout.found) one.node i) layout.found);
    ports = layout.ports ∙ sym (ports_same layout.found);
  }

  pub graph_too : (graph : GraphState) → IsGraphOf graph fabric → IsGraphOf graph next
  unfolding layout_too
  graph_too graph of = record { layout = layout_too graph of.layout; lead = λ i d within. leads_same _ (of.lead i d within) }

-- ---- cables are as far
-- and they are that whatever is cut
pub far_was : (fabric : FabricState) (new : List Node) (cut : List Cable) → LooksSame fabric.nodes new
    → IsTooFar (record fabric { nodes = new; cut = cut }) → IsTooFar fabric
far_was fabric new cut same far = record {
  cable = far.cable;
  there = far.there;
  first = λ is. far.first (within 62 far.cable.first.node is);
  second = λ is. far.second (within 62 far.cable.second.node is);
}
  where
    within : (hops node : ℕ) → IsWithin fabric hops node → IsWithin (record fabric { nodes = new; cut = cut }) hops node
    within hops node is = record {
      switch = kind_same fabric new same node ∙ is.switch;
      rest = is.rest;
      short = is.short;
      at = is.at;
      ends = end_same fabric new same (fabric.manager.port ∷ is.rest) ∙ is.ends;
      node_is = is.node_is;
    }
