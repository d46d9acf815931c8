-- What an exchange leaves of a fabric.
use Rattle.std.proofs.Common.{ℕ, ◌≡◌, ◌∙◌, not, ap, ap₂, refl, sym, Bool, false, List, [], ◌∷◌, map, flat_map, slice_get, slice_set, Option, Some, None, option_map}
use Rattle.std.specs.List.{All, list_all}
use Rattle.std.specs.Option.{option_and_then}
use Rattle.std.proofs.lemmas.List.Folds.{flat_map-map}
use Rattle.std.proofs.lemmas.Option.{same_Some}
use Rattle.agent_rules.specs.PortSetting.{is_down}
use Rattle.attr_tables.specs.declared.port_info.PortInfo.{PortInfo}
use Rattle.fabric_parts.specs.declared.cable.Cable.{Cable}
use Rattle.fabric_parts.specs.declared.cable.PortRef.{PortRef}
use Rattle.fabric_parts.specs.Cable.{is_cabled}
use Rattle.smp_wire.specs.Laws.{ExchangesKeepGood, ExchangesKeepLinks, ExchangesKeepJoined, ExchangesKeepShape}
use Rattle.smp_wire.specs.Shape.{IsSameShape}
use Rattle.smp_wire.specs.declared.node.Node.{Node}
use Rattle.smp_wire.specs.FabricState.{FabricState, all_cables, is_port, is_switch, is_switch_at, nodes_after, port_count}
use Rattle.smp_wire.specs.Walk.{after_walk, exchange_after, hop, walk, walk_of}
use Rattle.smp_wire.specs.Good.{IsGood, ShowsLinks, SwitchesJoined, end_port_guids, IsGoodNode, has_a_right_count, info_at, is_in_order, is_right, node_guid, port_info_at}
use Rattle.smp_wire.proofs.GoodLemmas.{IsSameNode, down_at, same_node}
use Rattle.step_results.proofs.ElementLemmas.{all_same, get_same, or_same, read_same}
use Rattle.step_results.proofs.ListLemmas.{all_have}
use Rattle.std.proofs.lemmas.List.Elements.{All-set}

pub record IsSame (old new : FabricState) : Type 0 where
  pub cables : new.cables ≡ old.cables
  pub cut : new.cut ≡ old.cut
  pub manager : new.manager ≡ old.manager
  pub guids : map node_guid new.nodes ≡ map node_guid old.nodes
  pub ends : map end_port_guids new.nodes ≡ map end_port_guids old.nodes
  pub counts : map port_count new.nodes ≡ map port_count old.nodes
  pub right : map has_a_right_count new.nodes ≡ map has_a_right_count old.nodes
  pub order : map is_in_order new.nodes ≡ map is_in_order old.nodes
  pub switches : map is_switch new.nodes ≡ map is_switch old.nodes
  pub holdings : All IsGoodNode old.nodes → All IsGoodNode new.nodes
  pub downs : (number : ℕ) → map (λ node. down_at node number) new.nodes ≡ map (λ node. down_at node number) old.nodes

itself : (fabric : FabricState) → IsSame fabric fabric
itself fabric =
    record { cables = refl; cut = refl; manager = refl; guids = refl; ends = refl; counts = refl; right = refl; order = refl; switches = refl; holdings = λ all. all; downs = λ number. refl }

with_node : (fabric : FabricState) (place : ℕ) (node next : Node) → slice_get fabric.nodes place ≡ Some node → IsSameNode node next
    → IsSame fabric (record fabric { nodes = slice_set fabric.nodes place next })
with_node fabric place node next there same = record {
  cables = refl;
  cut = refl;
  manager = refl;
  guids = read_same node_guid fabric.nodes place node next there same.guid;
  ends = read_same end_port_guids fabric.nodes place node next there same.guids;
  counts = read_same port_count fabric.nodes place node next there same.count;
  right = read_same has_a_right_count fabric.nodes place node next there same.right;
  order = read_same is_in_order fabric.nodes place node next there same.order;
  switches = read_same is_switch fabric.nodes place node next there same.switch;
  holdings = λ all. All-set IsGoodNode fabric.nodes place next (same.good (all_have IsGoodNode fabric.nodes place node all there)) all;
  downs = λ number. read_same (λ one. down_at one number) fabric.nodes place node next there (same.down number);
}

pub after_found : (fabric : FabricState) (at : PortRef) (smp : List ℕ) (found : Option Node) → slice_get fabric.nodes at.node ≡ found
    → IsSame fabric (record fabric { nodes = nodes_after fabric.nodes at smp found })
after_found fabric at smp None there = itself fabric
after_found fabric at smp (Some node) there = with_node fabric at.node node _ there (same_node node at.port smp)

after_walked : (fabric : FabricState) (smp : List ℕ) (walked : Option (List PortRef)) → IsSame fabric (after_walk fabric smp walked)
after_walked fabric smp None = itself fabric
after_walked fabric smp (Some ends) = after_found fabric _ _ _ refl

pub after_exchange : (fabric : FabricState) (smp : List ℕ) → IsSame fabric (exchange_after fabric smp)
unfolding exchange_after
after_exchange fabric smp = after_walked fabric smp (walk_of fabric smp)

-- ---- a good fabric
pub switch_same : (old new : FabricState) → IsSame old new → (place : ℕ) → is_switch_at new.nodes place ≡ is_switch_at old.nodes place
switch_same old new same place = or_same is_switch false old.nodes new.nodes place same.switches

port_same : (old new : FabricState) → IsSame old new → (at : PortRef) → is_port new.nodes at ≡ is_port old.nodes at
port_same old new same at = rw (or_same port_count 0 old.nodes new.nodes at.node same.counts) refl

right_same : (old new : FabricState) → IsSame old new → (cable : Cable) → is_right new.nodes cable ≡ is_right old.nodes cable
right_same old new same cable =
    rw (port_same old new same cable.first, port_same old new same cable.second, switch_same old new same cable.first.node, switch_same old new same cable.second.node) refl

ends_same : (old new : FabricState) → IsSame old new → flat_map end_port_guids new.nodes ≡ flat_map end_port_guids old.nodes
ends_same old new same =
    sym (flat_map-map (λ guids. guids) end_port_guids new.nodes) ∙ ap (flat_map (λ guids. guids)) same.ends ∙ flat_map-map (λ guids. guids) end_port_guids old.nodes

pub stays_good : (old new : FabricState) → IsSame old new → IsGood old → IsGood new
stays_good old new same good = record {
  node_guids = rw same.guids good.node_guids;
  end_guids = rw (ends_same old new same) good.end_guids;
  counts = all_same has_a_right_count old.nodes new.nodes same.right ∙ good.counts;
  order = all_same is_in_order old.nodes new.nodes same.order ∙ good.order;
  holdings = same.holdings good.holdings;
  cables = rw (same.cables, same.cut) ((λ place. list_all (λ cable. right_same old new same cable place) (all_cables old)) ∙ good.cables);
  once = rw (same.cables, same.cut) good.once;
  manager_port = rw same.manager (port_same old new same old.manager ∙ good.manager_port);
  manager_adapter = rw same.manager (switch_same old new same old.manager.node ∙ good.manager_adapter);
  manager_cabled = rw (same.manager, same.cables) good.manager_cabled;
}

pub good : ExchangesKeepGood
good fabric smp was = stays_good fabric (exchange_after fabric smp) (after_exchange fabric smp) was

-- ---- links
down_by : (found : Option Node) (number : ℕ)
    → option_map (λ info. is_down info) (option_and_then (λ node. port_info_at node number) found) ≡ option_and_then (λ x. x) (option_map (λ node. down_at node number) found)
down_by None number = refl
down_by (Some node) number = refl

down_same : (old new : FabricState) → IsSame old new → (at : PortRef)
    → option_map (λ info. is_down info) (info_at new at) ≡ option_map (λ info. is_down info) (info_at old at)
down_same old new same at =
    down_by (slice_get new.nodes at.node) at.port ∙ ap (option_and_then (λ x. x))
    (get_same (λ node. down_at node at.port) old.nodes new.nodes at.node (same.downs at.port)) ∙ sym
    (down_by (slice_get old.nodes at.node) at.port)

was_down : (b : Bool) (info : PortInfo) (old : Option PortInfo) → Some (is_down info) ≡ option_map (λ one. is_down one) old
    → ((one : PortInfo) → old ≡ Some one → is_down one ≡ b) → is_down info ≡ b
was_down b info None e each = cc
was_down b info (Some one) e each = same_Some _ _ e ∙ each one refl

stays_linked : (old new : FabricState) → IsSame old new → ShowsLinks old → ShowsLinks new
stays_linked old new same links at info port is =
    let one = port_same old new same at in
    let down = down_same old new same at in
    rw same.cables (was_down (not (is_cabled old.cables at)) info (info_at old at) (rw is at down) (λ before there. links at before (sym one ∙ port) there))

pub links : ExchangesKeepLinks
links fabric smp was = stays_linked fabric (exchange_after fabric smp) (after_exchange fabric smp) was

-- ---- walks
hop_same : (old new : FabricState) → IsSame old new → (starts : Bool) (here : PortRef) (number : ℕ)
    → hop new.nodes new.cables starts here number ≡ hop old.nodes old.cables starts here number
unfolding hop
hop_same old new same starts here number = rw (same.cables, switch_same old new same here.node, port_same old new same (record { node = here.node; port = number })) refl

pub walk_same : (old new : FabricState) → IsSame old new → (starts : Bool) (here : PortRef) (numbers : List ℕ)
    → walk new.nodes new.cables starts here numbers ≡ walk old.nodes old.cables starts here numbers
walk_same old new same starts here [] = refl
walk_same old new same starts here (number ∷ numbers) =
    ap₂ option_and_then (λ place there. option_map (λ ends. there ∷ ends) (walk_same old new same false there numbers place)) (hop_same old new same starts here number)

stays_joined : (old new : FabricState) → IsSame old new → SwitchesJoined old → SwitchesJoined new
stays_joined old new same joins a b is_a is_b =
    let way = joins a b (sym (switch_same old new same a) ∙ is_a) (sym (switch_same old new same b) ∙ is_b) in
    (way.0, rw (walk_same old new same false (record { node = a; port = 0 }) way.0) way.1)

pub joins : ExchangesKeepJoined
joins fabric smp was = stays_joined fabric (exchange_after fabric smp) (after_exchange fabric smp) was

-- ---- and so its shape
shape_of : (old new : FabricState) → IsSame old new → IsSameShape old new
shape_of old new same = record {
  cables = same.cables;
  cut = same.cut;
  manager = same.manager;
  switches = same.switches;
  node_guids = same.guids;
  end_port_guids = same.ends;
  port_counts = same.counts;
  walks = λ starts here numbers. walk_same old new same starts here numbers;
}

pub shape : ExchangesKeepShape
shape fabric smp = shape_of fabric (exchange_after fabric smp) (after_exchange fabric smp)
