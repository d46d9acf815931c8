-- Where masks forward by MLID, packets go by their MLIDs.
use Rattle.std.proofs.Common.{ℕ, ◌≡◌, ◌≢◌, ◌↔◌, ◌∙◌, ap, refl, sym, subst, Bool, true, false, List, [], ◌∷◌, slice_get, Option, Some, None}
use Rattle.std.specs.Option.{option_map_or}
use Rattle.data_packet.specs.declared.packet.Packet.{Packet}
use Rattle.fabric_parts.specs.declared.cable.PortRef.{PortRef}
use Rattle.fabric_parts.specs.Lid.{is_multicast}
use Rattle.port_model.specs.AdapterState.{AdapterState}
use Rattle.switch_model.proofs.MulticastLemmas.{goes_by_masks}
use Rattle.switch_model.specs.Multicast.{is_in_masks}
use Rattle.smp_wire.specs.FabricState.{FabricState, is_switch}
use Rattle.smp_wire.specs.declared.node.Node.{Node}
use Rattle.smp_wire.specs.declared.node.Node.TheVariants.{Switch, Adapter}
use Rattle.smp_wire.specs.Deliveries.{Goes, IsDelivered, Passes, sends_on}
use Rattle.smp_wire.specs.Forwards.{IsCabledPort}
use Rattle.smp_wire.specs.Groups.{Copies, ForwardsByMlid, GoesByMasks, is_in_node_masks}
use Rattle.smp_wire.specs.DeliveryLaws.{IsReceiver, PacketsGoByMlid}
use Rattle.smp_wire.proofs.FreeLemmas.{IsSent, IsSentBy, arrives, delivered_by, first_is}
use Rattle.smp_wire.proofs.KeyLemmas.{IsStamped, is_stamped}

-- ---- bits
of_switch : (found : Option Node) (mlid number : ℕ) → option_map_or (λ node. is_in_node_masks node mlid number) found false ≡ true
    → option_map_or is_switch found false ≡ true
of_switch None mlid number is = absurd (cc)
of_switch (Some (Switch held)) mlid number is = refl
of_switch (Some (Adapter ports)) mlid number is = absurd (cc)

by_bit : (found : Option Node) (number out : ℕ) (packet : Packet) → is_multicast packet.dlid ≡ true
    → option_map_or (λ node. sends_on node number packet out) found false ≡ true
    → (out ≢ number) × (option_map_or (λ node. is_in_node_masks node packet.dlid out) found false ≡ true)
by_bit None number out packet multicast is = absurd (cc)
by_bit (Some (Adapter ports)) number out packet multicast is = absurd (cc)
by_bit (Some (Switch held)) number out packet multicast is =
    let sent = (goes_by_masks held number packet out multicast).0 is in (sent.onward, sent.group)

-- ---- a packet goes by the bits, and no other way
module _ (fabric : FabricState) (packet : Packet) (multicast : is_multicast packet.dlid ≡ true) where
  is_sent : (here next : PortRef) → Copies fabric.nodes fabric.cables packet.dlid here next → IsSent fabric packet here next
  is_sent here next copies = record {
    out = copies.out;
    cable = copies.cable;
    switch = of_switch (slice_get fabric.nodes here.node) packet.dlid copies.out copies.group;
    sends = λ at some inbound outbound.
        let group : is_in_masks at.held.masks packet.dlid copies.out ≡ true = rw at.there at copies.group in
        rw at.there
        ((goes_by_masks at.held here.port packet copies.out multicast).1 (record {
          inbound = inbound;
          onward = copies.onward;
          group = group;
          outbound = outbound;
        }));
  }

  sent_by : (way : List PortRef) (here last : PortRef) → GoesByMasks fabric.nodes fabric.cables packet.dlid here way last
      → IsSentBy fabric packet here way last
  sent_by [] here last goes = goes
  sent_by (next ∷ later) here last goes = (is_sent here next goes.0, sent_by later next last goes.1)

  copies_by : (here next : PortRef) → Passes fabric.nodes fabric.cables packet here next → Copies fabric.nodes fabric.cables packet.dlid here next
  copies_by here next passes =
      let bit = by_bit (slice_get fabric.nodes here.node) here.port passes.out packet multicast passes.sends in
      record { out = passes.out; onward = bit.0; group = bit.1; cable = passes.cable }

  went_by : (way : List PortRef) (here last : PortRef) → Goes fabric.nodes fabric.cables packet here way last
      → GoesByMasks fabric.nodes fabric.cables packet.dlid here way last
  went_by [] here last goes = goes
  went_by (next ∷ later) here last goes = (copies_by here next goes.0, went_by later next last goes.1)

-- ---- what a port sends
module _ (fabric : FabricState) (receives : ℕ → ℕ → Bool) (forwards : ForwardsByMlid fabric receives) (from at : PortRef) (sender port : AdapterState)
    (p_key : ℕ) (packet : Packet) (begin : IsCabledPort fabric from sender) (is : IsStamped sender packet.dlid p_key packet)
    (multicast : is_multicast packet.dlid ≡ true) where
  is_delivered : IsReceiver fabric receives from packet.dlid p_key at port → IsDelivered fabric.nodes fabric.cables from packet at port
  is_delivered receiver =
      let led = forwards.lead packet.dlid from at sender port begin receiver.cabled receiver.other receiver.member multicast in
      delivered_by fabric forwards.free from sender packet begin at port packet.dlid p_key is receiver.cabled.there receiver.accepts led.0
      (sent_by fabric packet multicast led.0 begin.far at led.1)

  not_back : IsDelivered fabric.nodes fabric.cables from packet at port → from ≢ at
  not_back delivered same =
      forwards.away packet.dlid from sender begin delivered.way
      (went_by fabric packet multicast delivered.way begin.far from
      (subst (λ (last : PortRef). Goes fabric.nodes fabric.cables packet begin.far delivered.way last) (sym same)
      (subst (λ (first : PortRef). Goes fabric.nodes fabric.cables packet first delivered.way at)
      (first_is fabric forwards.free from sender packet begin at port delivered) delivered.goes)))

  is_receiver : IsDelivered fabric.nodes fabric.cables from packet at port → IsReceiver fabric receives from packet.dlid p_key at port
  is_receiver delivered =
      let last = arrives fabric forwards.free from sender packet begin at port delivered in
      let copies = copies_by fabric packet multicast last.before at last.passes in
      record {
        cabled = last.cabled;
        other = not_back delivered;
        member =
            sym (forwards.own packet.dlid (record { node = last.before.node; port = copies.out }) at port multicast copies.cable delivered.there)
            ∙ copies.group;
        accepts = rw is.key_is at delivered.accepts;
      }

pub packets_go_by_mlid : PacketsGoByMlid
packets_go_by_mlid fabric receives from at sender port mlid p_key destination_qp payload packet forwards begin stamps multicast =
    let is = is_stamped sender mlid p_key destination_qp payload packet stamps in
    let own : is_multicast packet.dlid ≡ true = ap is_multicast is.dlid_is ∙ multicast in
    let here = subst (λ (lid : ℕ). IsStamped sender lid p_key packet) (sym is.dlid_is) is in
    subst (λ (lid : ℕ). IsDelivered fabric.nodes fabric.cables from packet at port ↔ IsReceiver fabric receives from lid p_key at port) is.dlid_is (
      is_receiver fabric receives forwards from at sender port p_key packet begin here own,
      is_delivered fabric receives forwards from at sender port p_key packet begin here own,
    )
