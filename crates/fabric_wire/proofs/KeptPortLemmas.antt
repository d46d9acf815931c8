-- Neither an exchange nor a link changes the GUIDs of ports, so what finds a port by its GUID finds it afterwards.
use Rattle.std.proofs.Common.{ℕ, ◌-◌, ◌≡◌, ◌==◌, ◌∙◌, refl, subst, sym, Bool, true, false, List, [], ◌∷◌, map, slice_get, Option, Some, None, option_map, if◌then◌else◌}
use Rattle.std.specs.Option.{option_and_then}
use Rattle.std.proofs.lemmas.Option.{same_Some}
use Rattle.fabric_parts.specs.Lid.{is_multicast}
use Rattle.fabric_parts.specs.declared.cable.PortRef.{PortRef}
use Rattle.data_packet.specs.declared.packet.Packet.{Packet}
use Rattle.port_model.specs.AdapterState.{AdapterState}
use Rattle.smp_wire.proofs.KeptLemmas.{shape}
use Rattle.step_results.proofs.ElementLemmas.{get_same}
use Rattle.smp_wire.specs.FabricState.{FabricState, adapter_port, is_switch}
use Rattle.smp_wire.specs.Good.{end_port_guids}
use Rattle.smp_wire.specs.Walk.{exchange_after}
use Rattle.smp_wire.specs.declared.node.Node.{Node}
use Rattle.smp_wire.specs.declared.node.Node.TheVariants.{Switch, Adapter}
use Rattle.smp_wire.specs.Deliveries.{AreDeliveries, IsDelivered, IsOwn, adapter_ports, guid_at, numbers_of}
use Rattle.smp_wire.proofs.DeliveryLemmas.{no_delivery, one_delivery}
use Rattle.fabric_wire.specs.AdapterPorts.{Finds}

abbrev Guid : Option Node → ℕ → Option ℕ
Guid found number = option_map (λ port. port.port_guid) (option_and_then (λ node. adapter_port (adapter_ports node) number) found)

by_number : (none : Bool) (old new : List AdapterState) (place : ℕ)
    → map (λ (port : AdapterState). port.port_guid) new ≡ map (λ (port : AdapterState). port.port_guid) old
    → option_map (λ (port : AdapterState). port.port_guid) (if none then None else slice_get new place)
    ≡ option_map (λ (port : AdapterState). port.port_guid) (if none then None else slice_get old place)
by_number true old new place same = refl
by_number false old new place same = get_same (λ (port : AdapterState). port.port_guid) old new place same

by_nodes : (old new : Option Node) (number : ℕ) → option_map is_switch new ≡ option_map is_switch old
    → option_map end_port_guids new ≡ option_map end_port_guids old → Guid new number ≡ Guid old number
by_nodes None None number kinds guids = refl
by_nodes None (Some node) number kinds guids = absurd (cc)
by_nodes (Some node) None number kinds guids = absurd (cc)
by_nodes (Some (Switch old)) (Some (Switch new)) number kinds guids = refl
by_nodes (Some (Switch old)) (Some (Adapter new)) number kinds guids = absurd (cc)
by_nodes (Some (Adapter old)) (Some (Switch new)) number kinds guids = absurd (cc)
by_nodes (Some (Adapter old)) (Some (Adapter new)) number kinds guids =
    by_number (number == 0) old new (number - 1) (same_Some _ _ guids)

same_guids : (old new : List Node) (at : PortRef) → map is_switch new ≡ map is_switch old → map end_port_guids new ≡ map end_port_guids old
    → guid_at new at ≡ guid_at old at
same_guids old new at kinds guids =
    by_nodes (slice_get old at.node) (slice_get new at.node) at.port
    (get_same is_switch old new at.node kinds) (get_same end_port_guids old new at.node guids)

pub alike_finds : (old new : List Node) (place_of : ℕ → Option PortRef) → map is_switch new ≡ map is_switch old
    → map end_port_guids new ≡ map end_port_guids old → Finds old place_of → Finds new place_of
alike_finds old new place_of kinds guids finds guid at =
    let same = same_guids old new at kinds guids in
    (λ found. same ∙ (finds guid at).0 found, λ is. (finds guid at).1 (sym same ∙ is))

pub still_finds : (fabric : FabricState) (smp : List ℕ) (place_of : ℕ → Option PortRef) → Finds fabric.nodes place_of
    → Finds (exchange_after fabric smp).nodes place_of
still_finds fabric smp place_of finds =
    let same = shape fabric smp in
    alike_finds fabric.nodes (exchange_after fabric smp).nodes place_of same.switches same.end_port_guids finds

-- no two ports have one GUID
pub own : (nodes : List Node) (place_of : ℕ → Option PortRef) (guid : ℕ) → Finds nodes place_of → IsOwn nodes guid
own nodes place_of guid finds a b first second =
    same_Some a b (sym ((finds guid a).1 first) ∙ (finds guid b).1 second)

-- so what leaves by the port of a GUID is what that port sends
pub is_delivered : (fabric : FabricState) (place_of : ℕ → Option PortRef) (sender : ℕ) (packet : Packet) (from : PortRef) (port : AdapterState)
    → is_multicast packet.dlid ≡ false → Finds fabric.nodes place_of → guid_at fabric.nodes from ≡ Some sender
    → (at : PortRef) × IsDelivered fabric.nodes fabric.cables from packet at port
    → AreDeliveries fabric sender packet (record { port = port.port_guid; packet = packet } ∷ [])
is_delivered fabric place_of sender packet from port unicast finds sends delivered =
    one_delivery fabric sender packet (numbers_of port) unicast (own fabric.nodes place_of sender finds)
    (record { from = from; sends = sends; at = delivered.0; port = port; delivered = delivered.1; receives = refl })

pub reaches_nobody : (fabric : FabricState) (place_of : ℕ → Option PortRef) (sender : ℕ) (packet : Packet) (from : PortRef)
    → Finds fabric.nodes place_of → guid_at fabric.nodes from ≡ Some sender
    → ((at : PortRef) (port : AdapterState) → IsDelivered fabric.nodes fabric.cables from packet at port → ⊥)
    → AreDeliveries fabric sender packet []
reaches_nobody fabric place_of sender packet from finds sends none =
    no_delivery fabric sender packet (λ receiver reaches.
    none reaches.at reaches.port
    (subst (λ (p : PortRef). IsDelivered fabric.nodes fabric.cables p packet reaches.at reaches.port)
    (own fabric.nodes place_of sender finds reaches.from from reaches.sends sends) reaches.delivered))

pub nobody_sends : (fabric : FabricState) (sender : ℕ) (packet : Packet) → ((at : PortRef) → guid_at fabric.nodes at ≡ Some sender → ⊥)
    → AreDeliveries fabric sender packet []
nobody_sends fabric sender packet none = no_delivery fabric sender packet (λ receiver reaches. none reaches.from reaches.sends)
