-- What tables have to hold, so that packets go by their LIDs (IBA volume 1, chapter 14): the entries of each LID lead to its
-- port and to no other port of a channel adapter, and no switch holds back what the port would accept.
use Rattle.std.specs.Prelude.{ℕ, ◌≡◌, true, false, List, [], ◌∷◌, flat_map, slice_get, Option, Some, None}
use Rattle.std.specs.List.{IsDistinct, list_all}
use Rattle.std.specs.Option.{option_and_then}
use Rattle.fabric_parts.specs.declared.cable.Cable.{Cable}
use Rattle.fabric_parts.specs.declared.cable.PortRef.{PortRef}
use Rattle.fabric_parts.specs.Cable.{far_end, is_same_port}
use Rattle.pkey_rules.specs.KeyTable.{holds}
use Rattle.pkey_rules.specs.PKey.{full_form}
use Rattle.pkey_rules.specs.StoredKeys.{stored_keys}
use Rattle.port_model.specs.AdapterState.{AdapterState}
use Rattle.switch_model.specs.Forwarding.{linear_entry_of}
use Rattle.switch_model.specs.declared.switch_port.SwitchPort.{SwitchPort}
use Rattle.smp_wire.specs.declared.node.Node.{Node}
use Rattle.smp_wire.specs.declared.node.Node.TheVariants.{Switch, Adapter}
use Rattle.smp_wire.specs.FabricState.{FabricState, is_switch_at}
use Rattle.smp_wire.specs.Good.{ends_of, is_right}
use Rattle.smp_wire.specs.Deliveries.{adapter_at}

-- ---- entries
abbrev pub node_entry : Node → ℕ → Option ℕ
node_entry (Switch held) lid = linear_entry_of held lid
node_entry (Adapter ports) lid = None

-- the entry for a LID in the linear forwarding table of the switch there
abbrev pub entry_at : List Node → ℕ → ℕ → Option ℕ
entry_at nodes place lid = option_and_then (λ node. node_entry node lid) (slice_get nodes place)

-- the entry here leads over a cable to there
pub record Leads (nodes : List Node) (cables : List Cable) (lid : ℕ) (here next : PortRef) : Type 0 where
  pub out : ℕ
  pub entry : entry_at nodes here.node lid ≡ Some out
  pub cable : far_end cables (record { node = here.node; port = out }) ≡ Some next

-- from switch to switch the entries for a LID lead by these ports, of which the last is the one named last
abbrev pub Follows : List Node → List Cable → ℕ → PortRef → List PortRef → PortRef → Type 0
Follows nodes cables lid here [] last = here ≡ last
Follows nodes cables lid here (next ∷ later) last = Leads nodes cables lid here next × Follows nodes cables lid next later last

-- ---- ports
-- the port of a channel adapter is there, and its cable leads to a port
pub record IsCabledPort (fabric : FabricState) (at : PortRef) (port : AdapterState) : Type 0 where
  pub there : adapter_at fabric.nodes at ≡ Some port
  pub far : PortRef
  pub cable : far_end fabric.cables at ≡ Some far

abbrev pub node_switch_port : Node → ℕ → Option SwitchPort
node_switch_port (Switch held) number = slice_get held.ports number
node_switch_port (Adapter ports) number = None

-- the port of a switch there, if there is one
abbrev pub switch_port_at : List Node → PortRef → Option SwitchPort
switch_port_at nodes at = option_and_then (λ node. node_switch_port node at.port) (slice_get nodes at.node)

-- ---- no switch holds back what a port of a channel adapter sends, if the port at the end of its way accepts it
pub record HoldsBackNothing (fabric : FabricState) : Type 0 where
  -- cables join what they may join, and no port has two
  pub cables : list_all (is_right fabric.nodes) fabric.cables ≡ true
  pub once : IsDistinct is_same_port (flat_map ends_of fabric.cables)
  -- the port of a switch that faces the port of a channel adapter holds the full form of each of its keys
  pub facing : (here at : PortRef) (mine : SwitchPort) (port : AdapterState) (key : ℕ) → switch_port_at fabric.nodes here ≡ Some mine
      → far_end fabric.cables here ≡ Some at → adapter_at fabric.nodes at ≡ Some port
      → holds key (stored_keys port.keys) ≡ true → holds (full_form key) (stored_keys mine.keys) ≡ true
  -- and one that faces a switch enforces nothing
  pub between : (here at : PortRef) (mine : SwitchPort) → switch_port_at fabric.nodes here ≡ Some mine
      → far_end fabric.cables here ≡ Some at → is_switch_at fabric.nodes at.node ≡ true
      → (mine.info.partition_enforcement_inbound ≡ false) × (mine.info.partition_enforcement_outbound ≡ false)

-- ---- all of it
pub record ForwardsByLid (fabric : FabricState) : Type 0 where
  pub free : HoldsBackNothing fabric
  -- an entry for a LID that leads to the port of a channel adapter leads to one of this LID
  pub own : (lid : ℕ) (here at : PortRef) (port : AdapterState) → Leads fabric.nodes fabric.cables lid here at
      → adapter_at fabric.nodes at ≡ Some port → port.info.lid ≡ lid
  -- from where the cable of each such port leads the entries for the LID of each lead to it
  pub lead : (from at : PortRef) (sender port : AdapterState) (begin : IsCabledPort fabric from sender) → IsCabledPort fabric at port
      → (way : List PortRef) × Follows fabric.nodes fabric.cables port.info.lid begin.far way at
