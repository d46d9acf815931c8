-- What is seen of a node that has other tables.
use Rattle.std.proofs.Common.{ℕ, ◌≡◌, ◌-◌, ◌==◌, ◌∙◌, ap, refl, List, length, Some, option_map}
use Rattle.port_model.specs.AdapterState.{AdapterState}
use Rattle.smp_wire.specs.FabricState.{adapter_port, is_switch, port_count}
use Rattle.smp_wire.specs.Good.{node_guid}
use Rattle.smp_wire.specs.declared.node.Node.{Node}
use Rattle.smp_wire.specs.declared.node.Node.TheVariants.{Switch, Adapter}
use Rattle.switch_model.specs.SwitchState.{SwitchState}
use Rattle.sweep.specs.Seen.{name_in, seen_in}
use Rattle.sweep.specs.declared.seen.Seen.{Seen}
use Rattle.fabric_parts.specs.declared.node_type.NodeType.TheVariants as node_type
use Rattle.attr_tables.specs.declared.port_info.PortInfo.{PortInfo}
use Rattle.attr_tables.specs.declared.switch_info.SwitchInfo.{SwitchInfo}
use Rattle.table_push.specs.Nodes.{infos_by, keys_by, numbered, switch_by}
use Rattle.table_push.proofs.NumberedLemmas.{kept_from_1, long_numbered}
use Rattle.table_push.proofs.PartLemmas.{PortPart, changes, info_part, keys_part, parts_by, same_guid}

-- a change of a node that a sweep doesn't see
pub record IsUnseen (change : Node → Node) : Type 0 where
  pub kind : (node : Node) → is_switch (change node) ≡ is_switch node
  pub guid : (node : Node) → node_guid (change node) ≡ node_guid node
  pub count : (node : Node) → port_count (change node) ≡ port_count node
  pub name : (number : ℕ) (node : Node) → name_in (change node) number ≡ name_in node number
  pub seen : (number : ℕ) (node : Node) → seen_in (change node) number ≡ seen_in node number

-- one after another
pub both_unseen : (f g : Node → Node) → IsUnseen f → IsUnseen g → IsUnseen (λ node. f (g node))
both_unseen f g outer inner = record {
  kind = λ node. outer.kind (g node) ∙ inner.kind node;
  guid = λ node. outer.guid (g node) ∙ inner.guid node;
  count = λ node. outer.count (g node) ∙ inner.count node;
  name = λ number node. outer.name number (g node) ∙ inner.name number node;
  seen = λ number node. outer.seen number (g node) ∙ inner.seen number node;
}

-- ---- LFTs, MFTs and SwitchInfo
pub switches_unseen : (change : ℕ → SwitchState → SwitchState)
    → ((guid : ℕ) (held : SwitchState) → (info : SwitchInfo) × (linear : List ℕ) × (masks : List (List ℕ))
    × (change guid held ≡ record held { info = info; linear = linear; masks = masks }))
    → IsUnseen (switch_by change)
switches_unseen change only = record { kind = kind; guid = guid; count = count; name = name; seen = seen }
  where
    kind : (node : Node) → is_switch (switch_by change node) ≡ is_switch node
    kind (Switch held) = refl
    kind (Adapter ports) = refl

    guid : (node : Node) → node_guid (switch_by change node) ≡ node_guid node
    guid (Switch held) = ap (λ (s : SwitchState). node_guid (Switch s)) (only held.node_guid held).3
    guid (Adapter ports) = refl

    count : (node : Node) → port_count (switch_by change node) ≡ port_count node
    count (Switch held) = ap (λ (s : SwitchState). port_count (Switch s)) (only held.node_guid held).3
    count (Adapter ports) = refl

    name : (number : ℕ) (node : Node) → name_in (switch_by change node) number ≡ name_in node number
    name number (Switch held) = ap (λ (s : SwitchState). name_in (Switch s) number) (only held.node_guid held).3
    name number (Adapter ports) = refl

    seen : (number : ℕ) (node : Node) → seen_in (switch_by change node) number ≡ seen_in node number
    seen number (Switch held) = ap (λ (s : SwitchState). seen_in (Switch s) number) (only held.node_guid held).3
    seen number (Adapter ports) = refl

-- ---- P_Key tables, and PortInfo
-- a part of a channel adapter's port that a sweep doesn't see
record IsUnseenPart {X : Type 0} (part : PortPart X) : Type 0 where
  port_guid : (x : X) (port : AdapterState) → (part.adapter.put x port).port_guid ≡ port.port_guid
  description : (x : X) (port : AdapterState) → (part.adapter.put x port).description ≡ port.description

parts_unseen : {X : Type 0} (part : PortPart X) → IsUnseenPart part → (change : ℕ → ℕ → X → X) → IsUnseen (parts_by part change)
parts_unseen part unseen change = record { kind = kind; guid = guid; count = count; name = name; seen = seen }
  where
    kind : (node : Node) → is_switch (parts_by part change node) ≡ is_switch node
    kind (Switch held) = refl
    kind (Adapter ports) = refl

    guid : (node : Node) → node_guid (parts_by part change node) ≡ node_guid node
    guid (Switch held) = refl
    guid (Adapter ports) = same_guid part (change (node_guid (Adapter ports))) ports

    count : (node : Node) → port_count (parts_by part change node) ≡ port_count node
    count (Switch held) = ap (λ (n : ℕ). n - 1) (long_numbered _ 0 held.ports)
    count (Adapter ports) = long_numbered _ 1 ports

    name : (number : ℕ) (node : Node) → name_in (parts_by part change node) number ≡ name_in node number
    name number (Switch held) = refl
    name number (Adapter ports) =
        kept_from_1 (changes part.adapter (change (node_guid (Adapter ports)))) (λ (port : AdapterState). port.description) number ports (number == 0)
        (λ n port. unseen.description _ port)

    seen : (number : ℕ) (node : Node) → seen_in (parts_by part change node) number ≡ seen_in node number
    seen number (Switch held) = ap (λ (n : ℕ). Some (record {
      node_type = node_type.Switch;
      num_ports = n;
      node_guid = held.node_guid;
      port_guid = held.node_guid;
      local_port_num = number;
    })) (ap (λ (n : ℕ). n - 1) (long_numbered _ 0 held.ports))
    seen number (Adapter ports) =
        let own = changes part.adapter (change (node_guid (Adapter ports))) in
        let count = long_numbered own 1 ports in
        let guid = same_guid part (change (node_guid (Adapter ports))) ports in
        (λ i. option_map (shown (count i) (guid i)) (adapter_port (numbered own 1 ports) number))
        ∙ kept_from_1 own (shown (length ports) (node_guid (Adapter ports))) number ports (number == 0)
        (λ n port. ap (λ (g : ℕ). record {
          node_type = node_type.ChannelAdapter;
          num_ports = length ports;
          node_guid = node_guid (Adapter ports);
          port_guid = g;
          local_port_num = number;
        }) (unseen.port_guid _ port))
      where
        shown : ℕ → ℕ → AdapterState → Seen
        shown count guid port =
            record {
              node_type = node_type.ChannelAdapter;
              num_ports = count;
              node_guid = guid;
              port_guid = port.port_guid;
              local_port_num = number;
            }

pub keys_unseen : (change : ℕ → ℕ → List ℕ → List ℕ) → IsUnseen (keys_by change)
keys_unseen change = parts_unseen keys_part (record { port_guid = λ keys port. refl; description = λ keys port. refl }) change

pub infos_unseen : (change : ℕ → ℕ → PortInfo → PortInfo) → IsUnseen (infos_by change)
infos_unseen change = parts_unseen info_part (record { port_guid = λ info port. refl; description = λ info port. refl }) change
