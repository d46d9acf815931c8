-- What masks have to hold, so that packets go by multicast LIDs (IBA volume 1, chapter 14): from wherever a port of a
-- channel adapter sends, the bits of an MLID lead to each port that receives what is sent there, to no other port of a
-- channel adapter, and never back to the sender.
use Rattle.std.specs.Prelude.{ℕ, ◌≡◌, ◌≢◌, Bool, true, false, List, [], ◌∷◌, slice_get, Some}
use Rattle.std.specs.Option.{option_map_or}
use Rattle.fabric_parts.specs.declared.cable.Cable.{Cable}
use Rattle.fabric_parts.specs.declared.cable.PortRef.{PortRef}
use Rattle.fabric_parts.specs.Cable.{far_end}
use Rattle.fabric_parts.specs.Lid.{is_multicast}
use Rattle.port_model.specs.AdapterState.{AdapterState}
use Rattle.switch_model.specs.Multicast.{is_in_masks}
use Rattle.smp_wire.specs.declared.node.Node.{Node}
use Rattle.smp_wire.specs.declared.node.Node.TheVariants.{Switch, Adapter}
use Rattle.smp_wire.specs.FabricState.{FabricState}
use Rattle.smp_wire.specs.Deliveries.{adapter_at}
use Rattle.smp_wire.specs.Forwards.{HoldsBackNothing, IsCabledPort}

-- ---- masks
abbrev pub is_in_node_masks : Node → ℕ → ℕ → Bool
is_in_node_masks (Switch held) mlid number = is_in_masks held.masks mlid number
is_in_node_masks (Adapter ports) mlid number = false

-- the bit of the port there is set in the masks of its switch for this MLID
abbrev pub is_in_masks_at : List Node → ℕ → PortRef → Bool
is_in_masks_at nodes mlid at = option_map_or (λ node. is_in_node_masks node mlid at.port) (slice_get nodes at.node) false

-- a bit of the switch here leads over a cable to there, and not back by the port where the packet came in
pub record Copies (nodes : List Node) (cables : List Cable) (mlid : ℕ) (here next : PortRef) : Type 0 where
  pub out : ℕ
  pub onward : out ≢ here.port
  pub group : is_in_masks_at nodes mlid (record { node = here.node; port = out }) ≡ true
  pub cable : far_end cables (record { node = here.node; port = out }) ≡ Some next

-- from switch to switch the bits of an MLID lead by these ports, of which the last is the one named last
abbrev pub GoesByMasks : List Node → List Cable → ℕ → PortRef → List PortRef → PortRef → Type 0
GoesByMasks nodes cables mlid here [] last = here ≡ last
GoesByMasks nodes cables mlid here (next ∷ later) last =
    Copies nodes cables mlid here next × GoesByMasks nodes cables mlid next later last

-- ---- all of it: `receives mlid guid` says that the port of that GUID receives what is sent to that MLID
pub record ForwardsByMlid (fabric : FabricState) (receives : ℕ → ℕ → Bool) : Type 0 where
  pub free : HoldsBackNothing fabric
  -- the bit of a port that faces the port of a channel adapter is set for the MLIDs that this one receives
  pub own : (mlid : ℕ) (here at : PortRef) (port : AdapterState) → is_multicast mlid ≡ true → far_end fabric.cables here ≡ Some at
      → adapter_at fabric.nodes at ≡ Some port → is_in_masks_at fabric.nodes mlid here ≡ receives mlid port.port_guid
  -- from where the cable of each such port leads the bits of an MLID lead to each other one that receives it
  pub lead : (mlid : ℕ) (from at : PortRef) (sender port : AdapterState) (begin : IsCabledPort fabric from sender)
      → IsCabledPort fabric at port → from ≢ at → receives mlid port.port_guid ≡ true → is_multicast mlid ≡ true
      → (way : List PortRef) × GoesByMasks fabric.nodes fabric.cables mlid begin.far way at
  -- and never back to the port that sends
  pub away : (mlid : ℕ) (from : PortRef) (sender : AdapterState) (begin : IsCabledPort fabric from sender) (way : List PortRef)
      → GoesByMasks fabric.nodes fabric.cables mlid begin.far way from → ⊥

-- ---- and no bit in vain: over the cable of its port, and from there by the bits of that MLID, a port is reached that receives
-- what is sent there
pub record LeadsToReceiver (fabric : FabricState) (receives : ℕ → ℕ → Bool) (mlid : ℕ) (here : PortRef) : Type 0 where
  pub next : PortRef
  pub cable : far_end fabric.cables here ≡ Some next
  pub at : PortRef
  pub way : List PortRef
  pub goes : GoesByMasks fabric.nodes fabric.cables mlid next way at
  pub port : AdapterState
  pub cabled : IsCabledPort fabric at port
  pub member : receives mlid port.port_guid ≡ true

abbrev pub HasNoIdleBits : FabricState → (receives : ℕ → ℕ → Bool) → Type 0
HasNoIdleBits fabric receives =
    (mlid : ℕ) (here : PortRef) → is_in_masks_at fabric.nodes mlid here ≡ true → LeadsToReceiver fabric receives mlid here
