-- What comes of a command in a subnet's fabric is what the subnet reports.
use Rattle.std.proofs.Common.{ℕ, ◌≡◌, ◌==◌, ◌∙◌, ap, refl, inl, inr, subst, sym, Bool, true, false, List, [], ◌∷◌, map, Option, Some, None, Result, Ok, Err}
use Rattle.std.specs.Option.{option_map_or}
use Rattle.std.proofs.lemmas.Bool.{cases_Bool, eqb-true}
use Rattle.data_packet.specs.declared.packet.Packet.{Packet}
use Rattle.data_packet.specs.declared.refusal.Refusal.{Refusal}
use Rattle.data_packet.specs.declared.refusal.Refusal.TheVariants.{KeyNotHeld}
use Rattle.fabric_parts.specs.NodeType.{is_switch_type}
use Rattle.smp_wire.specs.Deliveries.{DeliveryState}
use Rattle.pkey_rules.specs.KeyTable.{holds}
use Rattle.pkey_rules.specs.PKey.{default_base, key_of}
use Rattle.port_model.specs.AdapterState.{AdapterState}
use Rattle.port_model.specs.Packets.{packet_from}
use Rattle.step_results.proofs.ListLemmas.{all_have}
use Rattle.smp_wire.specs.FabricState.{FabricState}
use Rattle.subnet_model.specs.Delivery.{asking_key, reaches_joined, refusal_of, sent_to_ask}
use Rattle.subnet_model.specs.Report.{packet_of, received_by}
use Rattle.subnet_model.proofs.IsolationLemmas.{found_guid}
use Rattle.subnet_model.specs.declared.command.AskCommand.{AskCommand}
use Rattle.subnet_model.specs.declared.command.SendCommand.{SendCommand}
use Rattle.subnet_model.specs.declared.event.PortEvent.{PortEvent}
use Rattle.subnet_model.specs.declared.subnet_port.SubnetPort.{SubnetPort}
use Rattle.subnet_fabric.specs.SendLaws.{IsSender, reported}
use Rattle.subnet_fabric.specs.OfFabric.{IsFabricOf, IsThere}
use Rattle.subnet_fabric.proofs.ListLemmas.{found_among}
use Rattle.subnet_fabric.proofs.WayLemmas.{are_reported, ports_stamp_as_reported}
use Rattle.subnet_fabric.specs.Sends.{AreReceived, AskIsAsListed, AsksAsListed, AsksBy, ComesOf, ComesOfAsk, IsAsListed, SendIsAsListed, Stamps, asked_as, event_of, events_in, first_held, is_request, stamped_as}
use Rattle.subnet_fabric.specs.declared.event.Event.{Event}
use Rattle.subnet_fabric.specs.declared.event.Event.TheVariants.{Received}
use Rattle.subnet_fabric.specs.declared.sent.Sent.{Sent}

pub reported_events : (deliveries : List DeliveryState) → map event_of (map Received deliveries) ≡ map reported deliveries
reported_events [] = refl
reported_events (delivered ∷ deliveries) = ap (λ (rest : List PortEvent). reported delivered ∷ rest) (reported_events deliveries)

module _ (ports : List SubnetPort) (receives : ℕ → ℕ → Bool) (fabric : FabricState) (command : SendCommand) (sender : SubnetPort)
    (of : IsFabricOf ports receives fabric) (sends : IsSender ports command sender) where
  -- what the sender gives, by what the list says of it
  abbrev pub given : Option Refusal → Result Packet Refusal
  given refusal = option_map_or Err refusal (Ok (packet_of sender command))

  pub stamps_as_reported : Stamps fabric command (given (refusal_of sender command))
  stamps_as_reported =
      let among = found_among (λ port. port.guid == command.port_guid) ports sender sends.named in
      let there = all_have (λ port. is_switch_type port.node_type ≡ false → IsThere fabric port) ports among.place sender of.there among.there sends.adapter in
      let guid = there.is.guid ∙ eqb-true sender.guid command.port_guid among.passes in
      let same = ports_stamp_as_reported ports receives fabric command sender there.at there.one of sends there.is.cabled.there guid in
      record {
        at = there.at;
        sender = there.one;
        there = there.is.cabled.there;
        guid = guid;
        gives = ap (λ (o : Option Refusal). option_map_or Err o (Ok (packet_from there.one command.dlid command.p_key command.destination_qp command.payload))) same.0
            ∙ ap (λ (packet : Packet). option_map_or Err (refusal_of sender command) (Ok packet)) same.1;
      }

  pub gives : (refusal : Option Refusal) → refusal_of sender command ≡ refusal → Stamps fabric command (given refusal)
  gives refusal is = subst (λ (o : Option Refusal). Stamps fabric command (given o)) is stamps_as_reported

  -- what it delivers of a packet that the sender may send
  pub received_is_reported : refusal_of sender command ≡ None → (events : List Event) → AreReceived fabric command.port_guid (packet_of sender command) events
      → map event_of events ≡ received_by (reaches_joined (receives command.dlid) command) ports sender command
  received_is_reported allowed events got =
      ap (map event_of) got.reported ∙ reported_events got.deliveries
      ∙ are_reported ports receives fabric command sender of sends allowed got.deliveries got.are

  module _ (sent : Sent) (comes : ComesOf fabric command sent) where
    by_case : (refusal : Option Refusal) → refusal_of sender command ≡ refusal → IsAsListed ports receives sender command refusal sent
    by_case (Some refusal) is =
        let got = comes.refused refusal (gives (Some refusal) is) in
        record { events = ap (map event_of) got.0; request = got.1 }
    by_case None is = record {
      events = received_is_reported is (events_in sent) (comes.carried (packet_of sender command) (gives None is));
      request = comes.request (packet_of sender command) (gives None is);
    }

pub what_comes_is_reported : (fabric : FabricState) (command : SendCommand) (sent : Sent) → ComesOf fabric command sent
    → SendIsAsListed fabric command sent
what_comes_is_reported fabric command sent comes ports receives sender of sends =
    by_case ports receives fabric command sender of sends sent comes (refusal_of sender command) refl

-- ---- a command to ask
module _ (ports : List SubnetPort) (receives : ℕ → ℕ → Bool) (fabric : FabricState) (command : AskCommand) (own : SubnetPort)
    (of : IsFabricOf ports receives fabric) (sends : IsSender ports (asked_as command true) own) (sent : Sent) (comes : ComesOfAsk fabric command sent) where
  sends_as : (full : Bool) → IsSender ports (asked_as command full) own
  sends_as full = record { named = sends.named; adapter = sends.adapter }

  abbrev gives_by : Bool → Option Refusal → Result Packet Refusal
  gives_by full refusal = given ports receives fabric (asked_as command full) own of (sends_as full) refusal

  stamps_as : (full : Bool) → Stamps fabric (asked_as command full) (gives_by full (refusal_of own (asked_as command full)))
  stamps_as full = stamps_as_reported ports receives fabric (asked_as command full) own of (sends_as full)

  one : AdapterState
  one = (stamps_as true).sender

  reported_for : (full : Bool) → stamped_as one command full ≡ gives_by full (refusal_of own (asked_as command full))
  unfolding sends_as stamps_as stamps_as_reported one
  reported_for full = (stamps_as full).gives

  asks_by : (first second : Option Refusal) → refusal_of own (asked_as command true) ≡ first → refusal_of own (asked_as command false) ≡ second
      → AsksBy fabric command.port_guid (first_held (gives_by true first) (gives_by false second)) sent
  unfolding one
  asks_by first second is_first is_second =
      subst (λ (gives : Result Packet Refusal). AsksBy fabric command.port_guid gives sent)
      (ap (λ (gives : Result Packet Refusal). first_held gives (stamped_as one command false)) (reported_for true ∙ ap (gives_by true) is_first)
      ∙ ap (λ (gives : Result Packet Refusal). first_held (gives_by true first) gives) (reported_for false ∙ ap (gives_by false) is_second))
      (comes.asked (stamps_as true).at one (stamps_as true).there (stamps_as true).guid)

  request_is : (full : Bool) → refusal_of own (asked_as command full) ≡ None
      → AreReceived fabric command.port_guid (packet_of own (asked_as command full)) (events_in sent) → is_request sent ≡ true
      → IsAsListed ports receives own (sent_to_ask command (key_of default_base full)) None sent
  request_is full allowed got is = record {
    events = received_is_reported ports receives fabric (asked_as command full) own of (sends_as full) allowed (events_in sent) got;
    request = is;
  }

  may_ask : (full : Bool) → holds (key_of default_base full) own.keys ≡ true → refusal_of own (asked_as command full) ≡ None
  may_ask full held = rw held refl

  may_not : (full : Bool) → holds (key_of default_base full) own.keys ≡ false → refusal_of own (asked_as command full) ≡ Some KeyNotHeld
  may_not full held = rw held refl

  is_asked : (key : Option ℕ) → asking_key own.keys ≡ key → AsksAsListed ports receives own command key sent
      → AsksAsListed ports receives own command (asking_key own.keys) sent
  is_asked key is as_listed = subst (λ (o : Option ℕ). AsksAsListed ports receives own command o sent) (sym is) as_listed

  asking_is_reported : AsksAsListed ports receives own command (asking_key own.keys) sent
  asking_is_reported = elim (cases_Bool (holds (key_of default_base true) own.keys)) [
    | inl full ↦
        let asks = asks_by None (refusal_of own (asked_as command false)) (may_ask true full) refl in
        is_asked (Some (key_of default_base true)) (rw full refl) (request_is true (may_ask true full) asks.0 asks.1)
    | inr not_full ↦ elim (cases_Bool (holds (key_of default_base false) own.keys)) [
      | inl limited ↦
          let asks = asks_by (Some KeyNotHeld) None (may_not true not_full) (may_ask false limited) in
          is_asked (Some (key_of default_base false)) (rw (not_full, limited) refl) (request_is false (may_ask false limited) asks.0 asks.1)
      | inr not_limited ↦
          let asks = asks_by (Some KeyNotHeld) (Some KeyNotHeld) (may_not true not_full) (may_not false not_limited) in
          is_asked None (rw (not_full, not_limited) refl)
          (ap (map event_of) asks.0 ∙ rw (found_guid ports command.port_guid own sends.named) refl, asks.1)
    ]
  ]

pub what_comes_of_asking_is_reported : (fabric : FabricState) (command : AskCommand) (sent : Sent) → ComesOfAsk fabric command sent
    → AskIsAsListed fabric command sent
what_comes_of_asking_is_reported fabric command sent comes ports receives own of sends =
    asking_is_reported ports receives fabric command own of sends sent comes
