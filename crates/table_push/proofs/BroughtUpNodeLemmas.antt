-- What each port holds after the pushes, by what it held before.
use Rattle.std.proofs.Common.{ℕ, ◌≡◌, ◌+◌, ◌-◌, ◌==◌, ◌∙◌, ap, refl, sym, Bool, true, false, if◌then◌else◌, List, slice_get, Option, Some, None, option_map, unwrap_or, arith}
use Rattle.std.specs.Option.{option_and_then, option_map_or}
use Rattle.std.proofs.lemmas.Bool.Decides.{nat_tests}
use Rattle.std.proofs.lemmas.Option.{none-some, same_Some}
use Rattle.fabric_parts.specs.declared.cable.PortRef.{PortRef}
use Rattle.smp_wire.specs.Deliveries.{adapter_at, adapter_ports}
use Rattle.smp_wire.specs.Forwards.{node_switch_port, switch_port_at}
use Rattle.port_model.specs.AdapterState.{AdapterState}
use Rattle.smp_wire.specs.FabricState.{FabricState, adapter_port}
use Rattle.smp_wire.specs.Good.{node_guid}
use Rattle.smp_wire.specs.declared.node.Node.{Node}
use Rattle.smp_wire.specs.declared.node.Node.TheVariants.{Switch, Adapter}
use Rattle.switch_model.specs.SwitchState.{SwitchState}
use Rattle.switch_model.specs.declared.switch_port.SwitchPort.{SwitchPort}
use Rattle.sweep.specs.OfFabric.{guid_at}
use Rattle.table_push.specs.Keys.{keys_wanted}
use Rattle.table_push.specs.Nodes.{numbered}
use Rattle.table_push.specs.Ports.{change_wanted, changed}
use Rattle.table_push.proofs.NumberedLemmas.{got_numbered}
use Rattle.table_push.proofs.PartLemmas.{info_part, same_guid}
use Rattle.table_push.proofs.SetUpLemmas.{node_after, with_all, with_info, with_table}
use Rattle.updn_routes.specs.Subnet.{RoutesState}
use Rattle.table_push.specs.Pushed.{all_pushed}

pub twice_at : {X : Type 0} (f g : ℕ → X → X) (first : ℕ) (xs : List X) (k : ℕ)
    → slice_get (numbered f first (numbered g first xs)) k ≡ option_map (λ x. f (first + k) (g (first + k) x)) (slice_get xs k)
twice_at {X = X} f g first xs k =
    got_numbered f first (numbered g first xs) k ∙ ap (option_map (f (first + k))) (got_numbered g first xs k) ∙ by (slice_get xs k)
  where
    by : (o : Option X) → option_map (f (first + k)) (option_map (g (first + k)) o) ≡ option_map (λ x. f (first + k) (g (first + k) x)) o
    by None = refl
    by (Some x) = refl

module _ (routes : RoutesState) (keys : List (List ℕ)) where
  -- ---- ports of switches
  pub record SwitchPortAfter (fabric : FabricState) (here : PortRef) (mine : SwitchPort) : Type 0 where
    pub held : SwitchState
    pub node : slice_get fabric.nodes here.node ≡ Some (Switch held)
    pub was : SwitchPort
    pub info_is : mine.info ≡ changed (change_wanted routes held.node_guid here.port) was.info
    pub keys_are : mine.keys ≡ unwrap_or (keys_wanted routes keys held.node_guid here.port) was.keys

  pub switch_port_after : (fabric : FabricState) (here : PortRef) (mine : SwitchPort) → switch_port_at (all_pushed routes keys fabric).nodes here ≡ Some mine
      → SwitchPortAfter fabric here mine
  switch_port_after fabric here mine there =
      by (slice_get fabric.nodes here.node) refl
      (sym (ap (λ (o : Option Node). option_and_then (λ node. node_switch_port node here.port) o) (node_after routes keys fabric here.node)) ∙ there)
    where
      by_port : (held : SwitchState) → slice_get fabric.nodes here.node ≡ Some (Switch held) → (o : Option SwitchPort)
          → option_map (λ (port : SwitchPort). record port {
            info = with_info routes keys held.node_guid (0 + here.port) port.info;
            keys = with_table routes keys held.node_guid (0 + here.port) port.keys;
          }) o ≡ Some mine → SwitchPortAfter fabric here mine
      by_port held node None is = absurd (none-some mine is)
      by_port held node (Some was) is =
          let same = same_Some _ mine is in
          let number : 0 + here.port ≡ here.port = omega arith in
          record {
            held = held;
            node = node;
            was = was;
            info_is = ap (λ (port : SwitchPort). port.info) (sym same) ∙ ap (λ (n : ℕ). with_info routes keys held.node_guid n was.info) number;
            keys_are = ap (λ (port : SwitchPort). port.keys) (sym same) ∙ ap (λ (n : ℕ). with_table routes keys held.node_guid n was.keys) number;
          }

      by : (found : Option Node) → slice_get fabric.nodes here.node ≡ found
          → option_and_then (λ node. node_switch_port node here.port) (option_map (with_all routes keys) found) ≡ Some mine → SwitchPortAfter fabric here mine
      by None node is = absurd (none-some mine is)
      by (Some (Adapter ports)) node is = absurd (none-some mine is)
      by (Some (Switch held)) node is =
          by_port held node (slice_get held.ports here.port)
          (sym (twice_at (λ number port. record port { keys = with_table routes keys held.node_guid number port.keys })
          (λ number port. record port { info = with_info routes keys held.node_guid number port.info }) 0 held.ports here.port) ∙ is)

  -- ---- ports of channel adapters
  pub record AdapterPortAfter (fabric : FabricState) (at : PortRef) (one : AdapterState) : Type 0 where
    pub was : AdapterState
    pub there : adapter_at fabric.nodes at ≡ Some was
    pub guid_is : one.port_guid ≡ was.port_guid
    pub info_is : one.info ≡ changed (change_wanted routes (guid_at fabric at.node) at.port) was.info
    pub keys_are : one.keys ≡ unwrap_or (keys_wanted routes keys (guid_at fabric at.node) at.port) was.keys

  pub adapter_port_after : (fabric : FabricState) (at : PortRef) (one : AdapterState) → adapter_at (all_pushed routes keys fabric).nodes at ≡ Some one
      → AdapterPortAfter fabric at one
  adapter_port_after fabric at one there =
      by (slice_get fabric.nodes at.node) refl
      (sym (ap (λ (o : Option Node). option_and_then (λ node. adapter_port (adapter_ports node) at.port) o) (node_after routes keys fabric at.node)) ∙ there)
    where
      by_port : (ports : List AdapterState) → slice_get fabric.nodes at.node ≡ Some (Adapter ports) → (at.port == 0) ≡ false → (o : Option AdapterState)
          → slice_get ports (at.port - 1) ≡ o
          → option_map (λ (port : AdapterState). record port {
            info = with_info routes keys (node_guid (Adapter ports)) (1 + (at.port - 1)) port.info;
            keys = with_table routes keys (node_guid (Adapter ports)) (1 + (at.port - 1)) port.keys;
          }) o ≡ Some one → AdapterPortAfter fabric at one
      by_port ports node some None held is = absurd (none-some one is)
      by_port ports node some (Some was) held is =
          let same = same_Some _ one is in
          let number : 1 + (at.port - 1) ≡ at.port = grind (arith, nat_tests, some) in
          let guid : node_guid (Adapter ports) ≡ guid_at fabric at.node = sym (ap (λ (o : Option Node). option_map_or node_guid o 0) node) in
          record {
            was = was;
            there = ap (λ (o : Option Node). option_and_then (λ other. adapter_port (adapter_ports other) at.port) o) node
                ∙ ap (λ (b : Bool). if b then None else slice_get ports (at.port - 1)) some ∙ held;
            guid_is = ap (λ (port : AdapterState). port.port_guid) (sym same);
            info_is = ap (λ (port : AdapterState). port.info) (sym same) ∙ (λ i. with_info routes keys (guid i) (number i) was.info);
            keys_are = ap (λ (port : AdapterState). port.keys) (sym same) ∙ (λ i. with_table routes keys (guid i) (number i) was.keys);
          }

      by_number : (ports : List AdapterState) → slice_get fabric.nodes at.node ≡ Some (Adapter ports) → (b : Bool) → (at.port == 0) ≡ b
          → (if b then None else slice_get (adapter_ports (with_all routes keys (Adapter ports))) (at.port - 1)) ≡ Some one → AdapterPortAfter fabric at one
      by_number ports node true none is = absurd (none-some one is)
      by_number ports node false some is =
          by_port ports node some (slice_get ports (at.port - 1)) refl
          (sym (ap (λ (guid : ℕ). slice_get (numbered (λ number port. record port { keys = with_table routes keys guid number port.keys }) 1
          (numbered (λ number port. record port { info = with_info routes keys (node_guid (Adapter ports)) number port.info }) 1 ports)) (at.port - 1))
          (same_guid info_part (with_info routes keys (node_guid (Adapter ports))) ports)
          ∙ twice_at (λ number port. record port { keys = with_table routes keys (node_guid (Adapter ports)) number port.keys })
          (λ number port. record port { info = with_info routes keys (node_guid (Adapter ports)) number port.info }) 1 ports (at.port - 1)) ∙ is)

      by : (found : Option Node) → slice_get fabric.nodes at.node ≡ found
          → option_and_then (λ node. adapter_port (adapter_ports node) at.port) (option_map (with_all routes keys) found) ≡ Some one → AdapterPortAfter fabric at one
      by None node is = absurd (none-some one is)
      by (Some (Switch held)) node is = by_none (at.port == 0) is
        where
          by_none : (b : Bool) → (if b then None else None) ≡ Some one → AdapterPortAfter fabric at one
          by_none true is = absurd (none-some one is)
          by_none false is = absurd (none-some one is)
      by (Some (Adapter ports)) node is = by_number ports node (at.port == 0) refl is
