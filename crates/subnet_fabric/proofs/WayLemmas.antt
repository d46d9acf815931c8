-- Who gets a packet is who is listed.
use Rattle.std.proofs.Common.{ℕ, ◌≡◌, ◌≢◌, ◌==◌, ◌&&◌, ◌||◌, ◌⊎◌, ◌∙◌, ap, refl, sym, subst, inl, inr, not, Bool, true, false, List, filter, map, slice_get, Option, Some, None, Ok, Err}
use Rattle.std.specs.List.{Contains}
use Rattle.std.specs.Option.{option_map_or}
use Rattle.std.specs.Ordering.{nat_cmp, on}
use Rattle.std.proofs.lemmas.Bool.{and_from, and_parts, eq-eqb, eqb-true, false_from_ne_true, false≢true, not-true}
use Rattle.std.proofs.lemmas.List.Kept.{IsStrictlySortedBy-filter}
use Rattle.std.proofs.lemmas.Option.{same_Some, slice_get-get_or}
use Rattle.std.proofs.lemmas.Simd.{map-map}
use Rattle.data_packet.specs.declared.packet.Packet.{Packet}
use Rattle.data_packet.specs.declared.refusal.Refusal.{Refusal}
use Rattle.fabric_parts.specs.Lid.{is_multicast}
use Rattle.fabric_parts.specs.NodeType.{is_switch_type}
use Rattle.fabric_parts.specs.declared.cable.PortRef.{PortRef}
use Rattle.smp_wire.specs.declared.numbers.Numbers.{Numbers}
use Rattle.smp_wire.specs.Deliveries.{AreDeliveries, DeliveryState, IsDelivered, Reaches, adapter_at, guid_at, numbers_of}
use Rattle.smp_wire.specs.Forwards.{IsCabledPort}
use Rattle.smp_wire.proofs.ByLidLemmas.{packets_go_by_lid}
use Rattle.smp_wire.proofs.ByMlidLemmas.{packets_go_by_mlid}
use Rattle.smp_wire.proofs.DeliveryLemmas.{deliveries_are_one_list}
use Rattle.pkey_rules.specs.KeyTable.{accepts}
use Rattle.pkey_rules.specs.StoredKeys.{stored_keys}
use Rattle.port_model.specs.AdapterState.{AdapterState}
use Rattle.port_model.specs.Packets.{packet_from, refusal_of as port_refusal, stamped}
use Rattle.step_results.proofs.ListLemmas.{all_have}
use Rattle.smp_wire.specs.FabricState.{FabricState}
use Rattle.subnet_model.specs.Delivery.{reaches_joined, refusal_of}
use Rattle.subnet_model.specs.Report.{packet_of, received_by}
use Rattle.subnet_model.specs.declared.command.SendCommand.{SendCommand}
use Rattle.subnet_model.specs.declared.subnet_port.SubnetPort.{SubnetPort}
use Rattle.subnet_fabric.specs.SendLaws.{DeliveriesAreWhatIsReported, IsSender, PortsStampAsReported, reported}
use Rattle.subnet_fabric.specs.OfFabric.{IsFabricOf, IsSetUpAsListed, IsThere}
use Rattle.subnet_fabric.proofs.ListLemmas.{among_kept, by_lid, found_among, kept_among, mapped_from, mapped_to, numbers_as_listed}

-- ---- the port that sends
at_guid : (fabric : FabricState) (at : PortRef) (one : AdapterState) → adapter_at fabric.nodes at ≡ Some one → guid_at fabric.nodes at ≡ Some one.port_guid
at_guid fabric at one there = rw there refl

record Sends (fabric : FabricState) (command : SendCommand) (sender : SubnetPort) : Type 0 where
  at : PortRef
  one : AdapterState
  is : IsSetUpAsListed fabric sender at one
  guid : one.port_guid ≡ command.port_guid

module _ (ports : List SubnetPort) (receives : ℕ → ℕ → Bool) (fabric : FabricState) (command : SendCommand) (sender : SubnetPort) (of : IsFabricOf ports receives fabric)
    (sends : IsSender ports command sender) where
  sending : Sends fabric command sender
  sending =
      let among = found_among (λ port. port.guid == command.port_guid) ports sender sends.named in
      let there = all_have (λ port. is_switch_type port.node_type ≡ false → IsThere fabric port) ports among.place sender of.there among.there sends.adapter in
      record { at = there.at; one = there.one; is = there.is; guid = there.is.guid ∙ eqb-true sender.guid command.port_guid among.passes }

  -- no other port has this GUID
  its_place : (at : PortRef) → guid_at fabric.nodes at ≡ Some command.port_guid → at ≡ sending.at
  unfolding sending
  its_place at is =
      of.own_guids command.port_guid at sending.at is
      (at_guid fabric sending.at sending.one sending.is.cabled.there ∙ ap (λ (g : ℕ). Some g) sending.guid)

  same_refusal : (one : AdapterState) → IsSetUpAsListed fabric sender sending.at one
      → port_refusal one command.dlid command.p_key command.destination_qp ≡ refusal_of sender command
  same_refusal one is = rw (is.active, is.keys) refl

  same_packet : (one : AdapterState) → IsSetUpAsListed fabric sender sending.at one
      → packet_from one command.dlid command.p_key command.destination_qp command.payload ≡ packet_of sender command
  same_packet one is = rw is.lid refl

  pub stamps_as_reported : (at : PortRef) (one : AdapterState) → adapter_at fabric.nodes at ≡ Some one → one.port_guid ≡ command.port_guid
      → (port_refusal one command.dlid command.p_key command.destination_qp ≡ refusal_of sender command)
      × (packet_from one command.dlid command.p_key command.destination_qp command.payload ≡ packet_of sender command)
  stamps_as_reported at one there guid =
      let place = its_place at (at_guid fabric at one there ∙ ap (λ (g : ℕ). Some g) guid) in
      let same : sending.one ≡ one =
      same_Some sending.one one (sym sending.is.cabled.there ∙ ap (adapter_at fabric.nodes) (sym place) ∙ there) in
      let is = subst (IsSetUpAsListed fabric sender sending.at) same sending.is in
      (same_refusal one is, same_packet one is)

  -- ---- the ports that receive
  as_listed : (port : SubnetPort) (at : PortRef) (one : AdapterState) → IsSetUpAsListed fabric port at one → numbers_as_listed port ≡ numbers_of one
  as_listed port at one is = λ i. record { lid = sym is.lid i; guid = sym is.guid i }

  module _ (allowed : refusal_of sender command ≡ None) where
    is_stamped : stamped sending.one command.dlid command.p_key command.destination_qp command.payload ≡ Ok (packet_of sender command)
    is_stamped =
        ap (λ (o : Option Refusal). option_map_or Err o (Ok (packet_from sending.one command.dlid command.p_key command.destination_qp command.payload)))
        (same_refusal sending.one sending.is ∙ allowed)
        ∙ ap (λ (packet : Packet). Ok packet) (same_packet sending.one sending.is)

    -- whom the list says that it reaches
    abbrev test : SubnetPort → Bool
    test = reaches_joined (receives command.dlid) command

    -- by a group, and not as the port that sends
    abbrev member : SubnetPort → Bool
    member port = receives command.dlid port.guid && not (port.guid == command.port_guid)

    abbrev Delivered : PortRef → AdapterState → Type 0
    Delivered at one = IsDelivered fabric.nodes fabric.cables sending.at (packet_of sender command) at one

    -- ---- a port that is reached is listed as reached
    record IsReached (receiver : Numbers) : Type 0 where
      place : ℕ
      port : SubnetPort
      there : slice_get ports place ≡ Some port
      is : test port ≡ true
      numbers : numbers_as_listed port ≡ receiver

    by_parts : (member lid adapter accepted : Bool) → (member ≡ true) ⊎ (lid ≡ true) → adapter ≡ true → accepted ≡ true
        → ((member || lid) && (adapter && accepted)) ≡ true
    by_parts true lid adapter accepted (inl m) a k = rw (a, k) refl
    by_parts true lid adapter accepted (inr l) a k = rw (a, k) refl
    by_parts false lid adapter accepted (inl m) a k = absurd (false≢true m)
    by_parts false lid adapter accepted (inr l) a k = rw (l, a, k) refl

    is_listed : (at : PortRef) (one : AdapterState) (receiver : Numbers) → IsCabledPort fabric at one → receiver ≡ numbers_of one
        → accepts command.p_key (stored_keys one.keys) ≡ true
        → ((port : SubnetPort) → IsSetUpAsListed fabric port at one
        → ((receives command.dlid port.guid && not (port.guid == command.port_guid)) ≡ true) ⊎ ((port.lid == command.dlid) ≡ true))
        → IsReached receiver
    is_listed at one receiver cabled numbers accepted meant =
        let listed = of.listed at one cabled in
        record {
          place = listed.among.0;
          port = listed.port;
          there = slice_get-get_or ports listed.among.0 listed.port listed.among.1 ∙ ap (λ (port : SubnetPort). Some port) listed.among.2;
          is = by_parts (receives command.dlid listed.port.guid && not (listed.port.guid == command.port_guid)) (listed.port.lid == command.dlid)
              (not (is_switch_type listed.port.node_type)) (accepts command.p_key listed.port.keys) (meant listed.port listed.is)
              (ap not listed.is.adapter) (ap (accepts command.p_key) (sym listed.is.keys) ∙ accepted);
          numbers = as_listed listed.port at one listed.is ∙ sym numbers;
        }

    -- of another port than the sender's
    other_guid : (at : PortRef) (one : AdapterState) (port : SubnetPort) → IsSetUpAsListed fabric port at one → sending.at ≢ at
        → not (port.guid == command.port_guid) ≡ true
    other_guid at one port is other =
        ap not (false_from_ne_true (port.guid == command.port_guid) (λ same.
        other (sym (its_place at (at_guid fabric at one is.cabled.there
        ∙ ap (λ (g : ℕ). Some g) (is.guid ∙ eqb-true port.guid command.port_guid same))))))

    reached : (receiver : Numbers) → Reaches fabric command.port_guid (packet_of sender command) receiver → IsReached receiver
    reached receiver comes = by (is_multicast command.dlid) refl
      where
        delivered : Delivered comes.at comes.port
        delivered =
            subst (λ (at : PortRef). IsDelivered fabric.nodes fabric.cables at (packet_of sender command) comes.at comes.port)
            (its_place comes.from comes.sends) comes.delivered

        by : (b : Bool) → is_multicast command.dlid ≡ b → IsReached receiver
        by false unicast =
            let meant = (packets_go_by_lid fabric sending.at comes.at sending.one comes.port command.dlid command.p_key command.destination_qp
            command.payload (packet_of sender command) of.forwards sending.is.cabled is_stamped unicast).0 delivered in
            is_listed comes.at comes.port receiver meant.cabled comes.receives meant.accepts
            (λ port is. inr (eq-eqb port.lid command.dlid (sym is.lid ∙ meant.lid)))
        by true multicast =
            let meant = (packets_go_by_mlid fabric receives sending.at comes.at sending.one comes.port command.dlid command.p_key
            command.destination_qp command.payload (packet_of sender command) of.spreads sending.is.cabled is_stamped multicast).0 delivered in
            is_listed comes.at comes.port receiver meant.cabled comes.receives meant.accepts
            (λ port is. inl (and_from (receives command.dlid port.guid) (not (port.guid == command.port_guid))
            (ap (receives command.dlid) (sym is.guid) ∙ meant.member) (other_guid comes.at comes.port port is meant.other)))

    -- ---- and a port that is listed as reached is reached
    by_lid_or_group : (member lid rest : Bool) → ((member || lid) && rest) ≡ true → (member ≡ true) ⊎ (lid ≡ true)
    by_lid_or_group true lid rest is = inl refl
    by_lid_or_group false true rest is = inr refl
    by_lid_or_group false false rest is = absurd (cc)

    receives_it : (k : ℕ) (port : SubnetPort) → slice_get ports k ≡ Some port → test port ≡ true
        → Reaches fabric command.port_guid (packet_of sender command) (numbers_as_listed port)
    receives_it k port there is = by (by_lid_or_group (member port) (port.lid == command.dlid) _ is) (is_multicast command.dlid) refl
      where
        parts : (not (is_switch_type port.node_type) ≡ true) × (accepts command.p_key port.keys ≡ true)
        parts =
            and_parts (not (is_switch_type port.node_type)) (accepts command.p_key port.keys)
            (and_parts (member port || (port.lid == command.dlid)) (not (is_switch_type port.node_type) && accepts command.p_key port.keys) is).1

        at : IsThere fabric port
        at =
            all_have (λ port. is_switch_type port.node_type ≡ false → IsThere fabric port) ports k port of.there there
            (not-true (is_switch_type port.node_type) parts.0)

        accepted : accepts command.p_key (stored_keys at.one.keys) ≡ true
        accepted = ap (accepts command.p_key) at.is.keys ∙ parts.1

        own_lid : is_multicast port.lid ≡ false
        own_lid = all_have (λ port. is_multicast port.lid ≡ false) ports k port of.unicast there

        comes : Delivered at.at at.one → Reaches fabric command.port_guid (packet_of sender command) (numbers_as_listed port)
        comes delivered = record {
          from = sending.at;
          sends = at_guid fabric sending.at sending.one sending.is.cabled.there ∙ ap (λ (g : ℕ). Some g) sending.guid;
          at = at.at;
          port = at.one;
          delivered = delivered;
          receives = as_listed port at.at at.one at.is;
        }

        not_sender : not (port.guid == command.port_guid) ≡ true → sending.at ≢ at.at
        not_sender differs same =
            let one = at_guid fabric sending.at sending.one sending.is.cabled.there in
            let two = at_guid fabric at.at at.one at.is.cabled.there in
            let guids = same_Some sending.one.port_guid at.one.port_guid (sym one ∙ ap (guid_at fabric.nodes) same ∙ two) in
            let equal : (port.guid == command.port_guid) ≡ true =
            eq-eqb port.guid command.port_guid (sym at.is.guid ∙ sym guids ∙ sending.guid) in
            false≢true (sym (ap not equal) ∙ differs)

        by : (member port ≡ true) ⊎ ((port.lid == command.dlid) ≡ true) → (b : Bool) → is_multicast command.dlid ≡ b
            → Reaches fabric command.port_guid (packet_of sender command) (numbers_as_listed port)
        by (inl joined) false unicast =
            let group = of.groups command.dlid port.guid (and_parts (receives command.dlid port.guid) _ joined).0 in
            absurd (false≢true (sym unicast ∙ group))
        by (inr lid) true multicast =
            absurd (false≢true (sym own_lid ∙ ap is_multicast (eqb-true port.lid command.dlid lid) ∙ multicast))
        by (inr lid) false unicast =
            comes ((packets_go_by_lid fabric sending.at at.at sending.one at.one command.dlid command.p_key command.destination_qp
            command.payload (packet_of sender command) of.forwards sending.is.cabled is_stamped unicast).1
            (record { cabled = at.is.cabled; lid = at.is.lid ∙ eqb-true port.lid command.dlid lid; accepts = accepted }))
        by (inl joined) true multicast =
            let both = and_parts (receives command.dlid port.guid) (not (port.guid == command.port_guid)) joined in
            comes ((packets_go_by_mlid fabric receives sending.at at.at sending.one at.one command.dlid command.p_key
            command.destination_qp command.payload (packet_of sender command) of.spreads sending.is.cabled is_stamped multicast).1
            (record {
              cabled = at.is.cabled;
              other = not_sender both.1;
              member = ap (receives command.dlid) at.is.guid ∙ both.0;
              accepts = accepted;
            }))

    -- ---- the list of deliveries
    abbrev kept : List SubnetPort
    kept = filter test ports

    are : AreDeliveries fabric command.port_guid (packet_of sender command)
        (map (λ port. record { port = port.guid; packet = packet_of sender command }) kept)
    are = record {
      receivers = map numbers_as_listed kept;
      each = λ receiver. (
        λ has.
            let one = mapped_from numbers_as_listed kept receiver has in
            let among = kept_among test ports one.0 one.1 one.2 in
            subst (Reaches fabric command.port_guid (packet_of sender command)) one.3 (receives_it among.place one.1 among.there among.passes),
        λ comes.
            let is = reached receiver comes in
            let at = among_kept test ports is.place is.port is.there is.is in
            subst (Contains (map numbers_as_listed kept)) is.numbers (mapped_to numbers_as_listed kept at.0 is.port at.1),
      );
      order = by_lid kept (IsStrictlySortedBy-filter (on (λ port. port.lid) nat_cmp) test ports of.order);
      reported = sym (map-map (λ receiver. record { port = receiver.guid; packet = packet_of sender command }) numbers_as_listed kept);
    }

    pub are_reported : (deliveries : List DeliveryState) → AreDeliveries fabric command.port_guid (packet_of sender command) deliveries
        → map reported deliveries ≡ received_by (reaches_joined (receives command.dlid) command) ports sender command
    are_reported deliveries given =
        ap (map reported) (deliveries_are_one_list fabric command.port_guid (packet_of sender command) deliveries _ given are)
        ∙ map-map reported (λ port. record { port = port.guid; packet = packet_of sender command }) kept

pub ports_stamp_as_reported : PortsStampAsReported
ports_stamp_as_reported ports receives fabric command sender at one of sends there guid =
    stamps_as_reported ports receives fabric command sender of sends at one there guid

pub deliveries_are_what_is_reported : DeliveriesAreWhatIsReported
deliveries_are_what_is_reported ports receives fabric command sender deliveries of sends allowed are =
    are_reported ports receives fabric command sender of sends allowed deliveries are
