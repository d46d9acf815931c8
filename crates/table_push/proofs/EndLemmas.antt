-- The pushes keep the end ports of a fabric.
use Rattle.std.proofs.Common.{ℕ, ◌≡◌, ◌+◌, ◌-◌, ◌==◌, ◌&&◌, ◌∙◌, ap, refl, nat_le, Bool, true, false, if◌then◌else◌, List, slice_get, Option, Some, None, option_map}
use Rattle.std.specs.Option.{option_and_then, option_map_or}
use Rattle.fabric_parts.specs.Cable.{is_cabled}
use Rattle.fabric_parts.specs.declared.cable.PortRef.{PortRef}
use Rattle.port_model.specs.AdapterState.{AdapterState}
use Rattle.smp_wire.specs.FabricState.{FabricState, is_switch, port_count}
use Rattle.smp_wire.specs.Good.{node_guid}
use Rattle.smp_wire.specs.declared.node.Node.{Node}
use Rattle.smp_wire.specs.declared.node.Node.TheVariants.{Switch, Adapter}
use Rattle.sweep.specs.EndPorts.{FabricPort, end_port_in, held_in, port_held}
use Rattle.table_push.specs.Nodes.{numbered}
use Rattle.table_push.proofs.NumberedLemmas.{long_numbered}
use Rattle.updn_routes.specs.Subnet.{RoutesState}
use Rattle.table_push.specs.Pushed.{all_pushed}
use Rattle.table_push.proofs.BroughtUpLemmas.{kind_of}
use Rattle.table_push.proofs.SetUpLemmas.{node_after, with_all, with_info, with_table}
use Rattle.table_push.proofs.BroughtUpNodeLemmas.{twice_at}

module _ (routes : RoutesState) (keys : List (List ℕ)) where
  count_of : (was : Option Node) → option_map_or port_count (option_map (with_all routes keys) was) 0 ≡ option_map_or port_count was 0
  count_of None = refl
  count_of (Some (Switch held)) = ap (λ (n : ℕ). n - 1) (long_numbered _ 0 (numbered _ 0 held.ports) ∙ long_numbered _ 0 held.ports)
  count_of (Some (Adapter ports)) = long_numbered _ 1 (numbered _ 1 ports) ∙ long_numbered _ 1 ports

  shown_still : (number : ℕ) (info keys : ℕ → AdapterState → AdapterState) (o : Option AdapterState)
      → ((n : ℕ) (port : AdapterState) → port_held number (keys n (info n port)) ≡ port_held number port)
      → option_map (port_held number) (option_map (λ port. keys (1 + (number - 1)) (info (1 + (number - 1)) port)) o) ≡ option_map (port_held number) o
  shown_still number info keys None same = refl
  shown_still number info keys (Some port) same = ap (λ (one : FabricPort). Some one) (same (1 + (number - 1)) port)

  held_still : (number : ℕ) (was : Option Node)
      → option_and_then (λ node. held_in node number) (option_map (with_all routes keys) was) ≡ option_and_then (λ node. held_in node number) was
  held_still number None = refl
  held_still number (Some (Switch held)) =
      ap (λ (n : ℕ). Some (record {
        guid = held.node_guid;
        number = number;
        node_guid = held.node_guid;
        description = held.description;
        num_ports = n;
        is_switch = true;
      })) (count_of (Some (Switch held)))
  held_still number (Some (Adapter ports)) = by (number == 0)
    where
      guid : ℕ
      guid = node_guid (Adapter ports)

      info : ℕ → AdapterState → AdapterState
      info n port = record port { info = with_info routes keys guid n port.info }

      table : ℕ → ℕ → AdapterState → AdapterState
      table of n port = record port { keys = with_table routes keys of n port.keys }

      by : (b : Bool) → option_map (port_held number) (if b then None else slice_get (numbered (table (node_guid (Adapter (numbered info 1 ports)))) 1 (numbered info 1 ports)) (number - 1))
          ≡ option_map (port_held number) (if b then None else slice_get ports (number - 1))
      by true = refl
      by false =
          ap (option_map (port_held number)) (twice_at (table (node_guid (Adapter (numbered info 1 ports)))) info 1 ports (number - 1))
          ∙ shown_still number info (table (node_guid (Adapter (numbered info 1 ports)))) (slice_get ports (number - 1)) (λ n port. refl)

  pub end_ports_stay : (fabric : FabricState) (at : PortRef) → end_port_in (all_pushed routes keys fabric) at ≡ end_port_in fabric at
  end_ports_stay fabric at =
      let node = node_after routes keys fabric at.node in
      let kind = ap (λ (o : Option Node). option_map_or is_switch o false) node ∙ kind_of routes keys (slice_get fabric.nodes at.node) in
      let count = ap (λ (o : Option Node). option_map_or port_count o 0) node ∙ count_of (slice_get fabric.nodes at.node) in
      let held = ap (λ (o : Option Node). option_and_then (λ node. held_in node at.port) o) node ∙ held_still at.port (slice_get fabric.nodes at.node) in
      λ i. if (if kind i then at.port == 0 else ((nat_le 1 at.port && nat_le at.port (count i)) && is_cabled fabric.cables at)) then held i else None
