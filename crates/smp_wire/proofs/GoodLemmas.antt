-- What an SMP leaves of a node, and so of a fabric.
use Rattle.std.proofs.Common.{ℕ, if◌then◌else◌, ◌≡◌, ◌-◌, ◌==◌, ◌∙◌, ap, refl, sym, Bool, true, false, List, [], ◌∷◌, length, map, slice_get}
use Rattle.std.proofs.Common.{slice_set, Option, Some, None, option_map}
use Rattle.std.specs.List.{list_all}
use Rattle.std.proofs.lemmas.List.{length-set}
use Rattle.agent_rules.specs.PortSetting.{is_down}
use Rattle.port_model.specs.AdapterState.{AdapterState}
use Rattle.port_model.specs.Agent.{agent_after as adapter_after}
use Rattle.port_model.proofs.AgentLemmas.{changes_at_most as adapter_changes, smps_keep_good as port_stays}
use Rattle.switch_model.specs.SwitchState.{SwitchState, num_ports}
use Rattle.switch_model.specs.Agent.{agent_after as switch_after}
use Rattle.switch_model.proofs.ChangeLemmas.{changes_at_most as switch_changes}
use Rattle.switch_model.proofs.GoodLemmas.{smps_keep_good as switch_stays}
use Rattle.smp_wire.specs.declared.node.Node.{Node}
use Rattle.smp_wire.specs.declared.node.Node.TheVariants.{Switch, Adapter}
use Rattle.smp_wire.specs.FabricState.{adapter_ports_after, is_switch, node_after, port_count}
use Rattle.smp_wire.specs.Good.{node_guid, end_port_guids, has_a_right_count, IsGoodNode, is_in_order, is_of, port_info_at}
use Rattle.step_results.proofs.ElementLemmas.{all_same, alike_at, flat, get_same, or_same, read_same}
use Rattle.step_results.proofs.ListLemmas.{all_have}
use Rattle.std.proofs.lemmas.List.Elements.{All-set}
use Rattle.agent_rules.specs.declared.power_up.TheConstants.{LINEAR_TABLE, MULTICAST_TABLE}
use Rattle.port_model.specs.Good.{IsGoodPort}

-- whether the port of that number is Down
abbrev pub down_at : Node → ℕ → Option Bool
down_at node number = option_map (λ info. is_down info) (port_info_at node number)

pub record IsSameNode (old new : Node) : Type 0 where
  pub guid : node_guid new ≡ node_guid old
  pub guids : end_port_guids new ≡ end_port_guids old
  pub count : port_count new ≡ port_count old
  pub right : has_a_right_count new ≡ has_a_right_count old
  pub order : is_in_order new ≡ is_in_order old
  pub switch : is_switch new ≡ is_switch old
  pub good : IsGoodNode old → IsGoodNode new
  pub down : (number : ℕ) → down_at new number ≡ down_at old number

-- ---- a switch
pub same_switch : (held : SwitchState) (smp : List ℕ) → IsSameNode (Switch held) (Switch (switch_after held smp))
same_switch held smp =
    let next = switch_after held smp in
    let change = switch_changes held smp in
    let count : num_ports next ≡ num_ports held = ap (λ (n : ℕ). n - 1) change.num_ports in
    record {
      guid = change.node_guid;
      guids = ap (λ (guid : ℕ). guid ∷ []) change.node_guid;
      count = count;
      right = rw count refl;
      order = refl;
      switch = refl;
      good = λ is. switch_stays LINEAR_TABLE MULTICAST_TABLE held smp is;
      down = λ number. flat (λ port. port.info) (λ info. is_down info) (slice_get next.ports number) ∙ alike_at _
          (λ port. is_down port.info) held.ports next.ports number change.num_ports
          (λ none. (change.ports number none).down) ∙ sym
          (flat (λ port. port.info) (λ info. is_down info) (slice_get held.ports number));
    }

-- ---- a channel adapter: one of its ports is as the SMP leaves it
pub record IsSamePort (old new : AdapterState) : Type 0 where
  pub guid : new.node_guid ≡ old.node_guid
  pub count : new.num_ports ≡ old.num_ports
  pub number : new.number ≡ old.number
  pub own : new.port_guid ≡ old.port_guid
  pub good : IsGoodPort old → IsGoodPort new
  pub down : is_down new.info ≡ is_down old.info

pub same_port : (held : AdapterState) (smp : List ℕ) → IsSamePort held (adapter_after held smp)
same_port held smp =
    let change = adapter_changes held smp in
    record { guid = change.node_guid; count = change.num_ports; number = change.number; own = change.port_guid; good = λ is. port_stays held smp is; down = change.down }

-- the port of that number has the same answer
down_unless : (none : Bool) (xs ys : List AdapterState) (k : ℕ)
    → map (λ (port : AdapterState). is_down port.info) ys ≡ map (λ (port : AdapterState). is_down port.info) xs
    → option_map (λ info. is_down info) (option_map (λ (port : AdapterState). port.info)
    (if none then None else slice_get ys k)) ≡ option_map (λ info. is_down info)
    (option_map (λ (port : AdapterState). port.info) (if none then None else slice_get xs k))
down_unless true xs ys k same = refl
down_unless false xs ys k same =
    flat (λ port. port.info) (λ info. is_down info) (slice_get ys k) ∙ get_same
    (λ (port : AdapterState). is_down port.info) xs ys k same ∙ sym
    (flat (λ port. port.info) (λ info. is_down info) (slice_get xs k))

down_of : (xs ys : List AdapterState) (number : ℕ)
    → map (λ (port : AdapterState). is_down port.info) ys ≡ map (λ (port : AdapterState). is_down port.info) xs
    → down_at (Adapter ys) number ≡ down_at (Adapter xs) number
down_of xs ys number same = down_unless (number == 0) xs ys (number - 1) same

same_set : (ports : List AdapterState) (i : ℕ) (x y : AdapterState) → slice_get ports i ≡ Some x → IsSamePort x y
    → IsSameNode (Adapter ports) (Adapter (slice_set ports i y))
same_set ports i x y there same =
    let next = slice_set ports i y in
    let long : length next ≡ length ports = length-set ports i y in
    let guids = read_same (λ (port : AdapterState). port.node_guid) ports i x y there same.guid in
    let guid : node_guid (Adapter next) ≡ node_guid (Adapter ports) = or_same (λ (port : AdapterState). port.node_guid) 0 ports next 0 guids in
    let numbers = read_same (λ (port : AdapterState). port.number) ports i x y there same.number in
    let own : (g n : ℕ) → is_of g n y ≡ is_of g n x = λ g n. rw (same.guid, same.count) refl in
    let all : (g n : ℕ)
    → list_all (is_of g n) next ≡ list_all (is_of g n) ports = λ g n. all_same (is_of g n) ports next (read_same (is_of g n) ports i x y there (own g n)) in
    record {
      guid = guid;
      guids = read_same (λ (port : AdapterState). port.port_guid) ports i x y there same.own;
      count = long;
      right = rw long refl;
      order = rw (guid, long, numbers, all (node_guid (Adapter ports)) (length ports)) refl;
      switch = refl;
      good = λ all. All-set IsGoodPort ports i y (same.good (all_have IsGoodPort ports i x all there)) all;
      down = λ number. down_of ports next number (read_same (λ (port : AdapterState). is_down port.info) ports i x y there same.down);
    }

itself : (node : Node) → IsSameNode node node
itself node = record { guid = refl; guids = refl; count = refl; right = refl; order = refl; switch = refl; good = λ is. is; down = λ number. refl }

same_ports : (ports : List AdapterState) (number : ℕ) (smp : List ℕ) (found : Option AdapterState) → slice_get ports (number - 1) ≡ found
    → IsSameNode (Adapter ports) (Adapter (adapter_ports_after ports number smp found))
same_ports ports number smp None there = itself (Adapter ports)
same_ports ports number smp (Some port) there = same_set ports (number - 1) port (adapter_after port smp) there (same_port port smp)

same_unless : (none : Bool) (ports : List AdapterState) (number : ℕ) (smp : List ℕ)
    → IsSameNode (Adapter ports) (Adapter (adapter_ports_after ports number smp (if none then None else slice_get ports (number - 1))))
same_unless true ports number smp = itself (Adapter ports)
same_unless false ports number smp = same_ports ports number smp (slice_get ports (number - 1)) refl

-- ---- a node
pub same_node : (node : Node) (number : ℕ) (smp : List ℕ) → IsSameNode node (node_after node number smp)
unfolding node_after
same_node (Switch held) number smp = same_switch held smp
same_node (Adapter ports) number smp = same_unless (number == 0) ports number smp
