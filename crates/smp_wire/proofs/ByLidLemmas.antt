-- Where tables forward by LID, packets go by their LIDs.
use Rattle.std.proofs.Common.{ℕ, ◌≡◌, ◌≤◌, ◌∙◌, ap, refl, sym, subst, Bool, true, false, nat_le, List, [], ◌∷◌, slice_get, Option, Some, None, if◌then◌else◌, arith}
use Rattle.std.specs.Option.{option_and_then, option_map_or}
use Rattle.std.proofs.lemmas.Bool.{le-leb, leb-true}
use Rattle.data_packet.specs.declared.packet.Packet.{Packet}
use Rattle.fabric_parts.specs.declared.cable.PortRef.{PortRef}
use Rattle.fabric_parts.specs.Lid.{is_multicast}
use Rattle.port_model.specs.AdapterState.{AdapterState}
use Rattle.switch_model.proofs.ForwardingLemmas.{goes_by_entries}
use Rattle.switch_model.specs.Forwarding.{linear_entry_of, passes_inbound, passes_outbound}
use Rattle.smp_wire.specs.FabricState.{FabricState, is_switch}
use Rattle.smp_wire.specs.declared.node.Node.{Node}
use Rattle.smp_wire.specs.declared.node.Node.TheVariants.{Switch, Adapter}
use Rattle.smp_wire.specs.Deliveries.{IsDelivered, sends_at, sends_on}
use Rattle.smp_wire.specs.Forwards.{Follows, ForwardsByLid, IsCabledPort, Leads, entry_at, node_entry}
use Rattle.smp_wire.specs.DeliveryLaws.{IsMeant, OtherLidsReachNobody, PacketsGoByLid}
use Rattle.smp_wire.proofs.FreeLemmas.{AtSwitch, IsSent, IsSentBy, arrives, delivered_by}
use Rattle.smp_wire.proofs.KeyLemmas.{IsStamped, is_stamped}

-- ---- entries
entry_by : (within : Bool) (entry : Option ℕ) (out : ℕ) → (if within then entry else None) ≡ Some out → (within ≡ true) × (entry ≡ Some out)
entry_by true entry out is = (refl, is)
entry_by false entry out is = absurd (cc)

of_switch : (found : Option Node) (lid out : ℕ) → option_and_then (λ node. node_entry node lid) found ≡ Some out → option_map_or is_switch found false ≡ true
of_switch None lid out is = absurd (cc)
of_switch (Some (Switch held)) lid out is = refl
of_switch (Some (Adapter ports)) lid out is = absurd (cc)

by_entry : (found : Option Node) (number out : ℕ) (packet : Packet) → is_multicast packet.dlid ≡ false → option_map_or (λ node. sends_on node number packet out) found false ≡ true
    → option_and_then (λ node. node_entry node packet.dlid) found ≡ Some out
by_entry None number out packet unicast is = absurd (cc)
by_entry (Some (Adapter ports)) number out packet unicast is = absurd (cc)
by_entry (Some (Switch held)) number out packet unicast is =
    let sent = (goes_by_entries held number packet out unicast).0 is in
    rw (le-leb packet.dlid held.info.linear_fdb_top sent.within) sent.entry

module _ (fabric : FabricState) (packet : Packet) (unicast : is_multicast packet.dlid ≡ false) where
  -- the switch sends the packet out by the entry, where both ports let it pass
  sends : (here : PortRef) (at : AtSwitch fabric.nodes here) (out : ℕ) → entry_at fabric.nodes here.node packet.dlid ≡ Some out → 1 ≤ out
      → passes_inbound at.held.ports here.port packet.p_key ≡ true → passes_outbound at.held.ports out packet.p_key ≡ true
      → sends_at fabric.nodes here packet out ≡ true
  sends here at out entry some inbound outbound =
      let mine : linear_entry_of at.held packet.dlid ≡ Some out = rw at.there at entry in
      let parts = entry_by (nat_le packet.dlid at.held.info.linear_fdb_top) (slice_get at.held.linear packet.dlid) out mine in
      rw at.there
      ((goes_by_entries at.held here.port packet out unicast).1 (record {
        inbound = inbound;
        within = leb-true packet.dlid at.held.info.linear_fdb_top parts.0;
        entry = parts.1;
        outside = λ zero. omega (arith, some, zero);
        outbound = outbound;
      }))

  is_sent : (here next : PortRef) → Leads fabric.nodes fabric.cables packet.dlid here next → IsSent fabric packet here next
  is_sent here next leads = record {
    out = leads.out;
    cable = leads.cable;
    switch = of_switch (slice_get fabric.nodes here.node) packet.dlid leads.out leads.entry;
    sends = λ at some inbound outbound. sends here at leads.out leads.entry some inbound outbound;
  }

  sent_by : (way : List PortRef) (here last : PortRef) → Follows fabric.nodes fabric.cables packet.dlid here way last → IsSentBy fabric packet here way last
  sent_by [] here last follows = follows
  sent_by (next ∷ later) here last follows = (is_sent here next follows.0, sent_by later next last follows.1)

-- ---- what a port sends
module _ (fabric : FabricState) (forwards : ForwardsByLid fabric) (from at : PortRef) (sender port : AdapterState) (dlid p_key : ℕ) (packet : Packet)
    (begin : IsCabledPort fabric from sender) (is : IsStamped sender dlid p_key packet) (unicast : is_multicast packet.dlid ≡ false) where
  is_delivered : IsMeant fabric dlid p_key at port → IsDelivered fabric.nodes fabric.cables from packet at port
  is_delivered meant =
      let led = forwards.lead from at sender port begin meant.cabled in
      let lid = meant.lid ∙ sym is.dlid_is in
      delivered_by fabric forwards.free from sender packet begin at port dlid p_key is meant.cabled.there meant.accepts led.0
      (sent_by fabric packet unicast led.0 begin.far at (subst (λ (n : ℕ). Follows fabric.nodes fabric.cables n begin.far led.0 at) lid led.1))

  is_meant : IsDelivered fabric.nodes fabric.cables from packet at port → IsMeant fabric dlid p_key at port
  is_meant delivered =
      let last = arrives fabric forwards.free from sender packet begin at port delivered in
      record {
        cabled = last.cabled;
        lid =
            forwards.own packet.dlid last.before at port
            (record {
              out = last.passes.out;
              entry = by_entry (slice_get fabric.nodes last.before.node) last.before.port last.passes.out packet unicast last.passes.sends;
              cable = last.passes.cable;
            })
            delivered.there ∙ is.dlid_is;
        accepts = rw is.key_is at delivered.accepts;
      }

pub packets_go_by_lid : PacketsGoByLid
packets_go_by_lid fabric from at sender port dlid p_key destination_qp payload packet forwards begin stamps unicast =
    let is = is_stamped sender dlid p_key destination_qp payload packet stamps in
    let own : is_multicast packet.dlid ≡ false = ap is_multicast is.dlid_is ∙ unicast in (
      is_meant fabric forwards from at sender port dlid p_key packet begin is own,
      is_delivered fabric forwards from at sender port dlid p_key packet begin is own,
    )

pub others_reach_nobody : OtherLidsReachNobody
others_reach_nobody fabric from at sender port dlid p_key destination_qp payload packet forwards begin stamps unicast nobody delivered =
    let meant = (packets_go_by_lid fabric from at sender port dlid p_key destination_qp payload packet forwards begin stamps unicast).0 delivered in
    nobody at port meant.cabled meant.lid
