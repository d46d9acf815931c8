-- What holds of all ways and deliveries: the statements of the laws of `src/delivery_laws.rt`.
use Rattle.std.specs.Prelude.{ℕ, ◌≡◌, ◌≢◌, ◌↔◌, Bool, true, false, List, Some, Ok}
use Rattle.data_packet.specs.declared.packet.Packet.{Packet}
use Rattle.fabric_parts.specs.declared.cable.Cable.{Cable}
use Rattle.fabric_parts.specs.declared.cable.PortRef.{PortRef}
use Rattle.fabric_parts.specs.Lid.{is_multicast}
use Rattle.pkey_rules.specs.KeyTable.{accepts}
use Rattle.pkey_rules.specs.StoredKeys.{stored_keys}
use Rattle.port_model.specs.AdapterState.{AdapterState}
use Rattle.port_model.specs.Packets.{stamped}
use Rattle.smp_wire.specs.declared.node.Node.{Node}
use Rattle.smp_wire.specs.FabricState.{FabricState}
use Rattle.smp_wire.specs.Deliveries.{AreDeliveries, DeliveryState, IsDelivered, Passes}
use Rattle.smp_wire.specs.Forwards.{ForwardsByLid, IsCabledPort}
use Rattle.smp_wire.specs.Groups.{ForwardsByMlid}
use Rattle.smp_wire.specs.Unicast.{next_port}

-- a unicast packet goes on from a port to one port at most
abbrev pub UnicastGoesOneWay : Type 0
UnicastGoesOneWay =
    (nodes : List Node) (cables : List Cable) (packet : Packet) (here next : PortRef) → is_multicast packet.dlid ≡ false
    → Passes nodes cables packet here next ↔ (next_port nodes cables packet here ≡ Some next)

-- and so reaches one at most
abbrev pub UnicastReachesOnePort : Type 0
UnicastReachesOnePort =
    (nodes : List Node) (cables : List Cable) (from : PortRef) (packet : Packet) (a b : PortRef) (p q : AdapterState)
    → is_multicast packet.dlid ≡ false → IsDelivered nodes cables from packet a p → IsDelivered nodes cables from packet b q → a ≡ b

-- the port at `at` has this LID, and accepts this key
pub record IsMeant (fabric : FabricState) (dlid p_key : ℕ) (at : PortRef) (port : AdapterState) : Type 0 where
  pub cabled : IsCabledPort fabric at port
  pub lid : port.info.lid ≡ dlid
  pub accepts : accepts p_key (stored_keys port.keys) ≡ true

-- if tables forward by LID, what a port sends to a unicast LID is delivered at the port of that LID which accepts it, and
-- nowhere else
abbrev pub PacketsGoByLid : Type 0
PacketsGoByLid =
    (fabric : FabricState) (from at : PortRef) (sender port : AdapterState) (dlid p_key destination_qp : ℕ) (payload : List ℕ)
    (packet : Packet)
    → ForwardsByLid fabric → IsCabledPort fabric from sender → stamped sender dlid p_key destination_qp payload ≡ Ok packet
    → is_multicast dlid ≡ false → IsDelivered fabric.nodes fabric.cables from packet at port ↔ IsMeant fabric dlid p_key at port

-- so to nobody, if that LID is a switch's or nobody's
abbrev pub OtherLidsReachNobody : Type 0
OtherLidsReachNobody =
    (fabric : FabricState) (from at : PortRef) (sender port : AdapterState) (dlid p_key destination_qp : ℕ) (payload : List ℕ)
    (packet : Packet)
    → ForwardsByLid fabric → IsCabledPort fabric from sender → stamped sender dlid p_key destination_qp payload ≡ Ok packet
    → is_multicast dlid ≡ false → ((other : PortRef) (held : AdapterState) → IsCabledPort fabric other held → held.info.lid ≡ dlid → ⊥)
    → IsDelivered fabric.nodes fabric.cables from packet at port → ⊥

-- the port at `at` is not the one that sends, receives what is sent to this MLID, and accepts this key
pub record IsReceiver (fabric : FabricState) (receives : ℕ → ℕ → Bool) (from : PortRef) (mlid p_key : ℕ) (at : PortRef)
    (receiver : AdapterState) : Type 0 where
  pub cabled : IsCabledPort fabric at receiver
  pub other : from ≢ at
  pub member : receives mlid receiver.port_guid ≡ true
  pub accepts : accepts p_key (stored_keys receiver.keys) ≡ true

-- if masks forward by MLID, what a port sends to an MLID is delivered at each other port that receives it and accepts it,
-- and nowhere else
abbrev pub PacketsGoByMlid : Type 0
PacketsGoByMlid =
    (fabric : FabricState) (receives : ℕ → ℕ → Bool) (from at : PortRef) (sender port : AdapterState)
    (mlid p_key destination_qp : ℕ) (payload : List ℕ) (packet : Packet)
    → ForwardsByMlid fabric receives → IsCabledPort fabric from sender → stamped sender mlid p_key destination_qp payload ≡ Ok packet
    → is_multicast mlid ≡ true
    → IsDelivered fabric.nodes fabric.cables from packet at port ↔ IsReceiver fabric receives from mlid p_key at port

-- a packet's deliveries are one list
abbrev pub DeliveriesAreOneList : Type 0
DeliveriesAreOneList =
    (fabric : FabricState) (sender : ℕ) (packet : Packet) (one other : List DeliveryState)
    → AreDeliveries fabric sender packet one → AreDeliveries fabric sender packet other → one ≡ other
