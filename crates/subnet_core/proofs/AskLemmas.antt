-- A port that asks, and acknowledges what answers it, one segment after another.
use Rattle.std.proofs.Common.{ℕ, ◌≡◌, ◌∙◌, ap, refl, sym, subst, true, List, [], ◌∷◌, ◌++◌, map, Option, Some, None, Err}
use Rattle.std.specs.Option.{option_and_then}
use Rattle.std.proofs.lemmas.List.{append-nil, append_assoc, map-append}
use Rattle.data_packet.specs.declared.refusal.Refusal.{Refusal}
use Rattle.fabric_parts.specs.declared.cable.PortRef.{PortRef}
use Rattle.fabric_wire.specs.Recabling.{cabling_of}
use Rattle.smp_wire.specs.Deliveries.{HasPort, adapter_at}
use Rattle.port_model.specs.AdapterState.{AdapterState}
use Rattle.sa_store.specs.Registry.{RegistryState}
use Rattle.sa_replies.specs.Answer.{Administration, Answered, answer}
use Rattle.sa_replies.specs.Administration.{subnet_administration}
use Rattle.sa_replies.specs.Asking.{acknowledgements}
use Rattle.smp_wire.specs.FabricState.{FabricState}
use Rattle.subnet_core.specs.Answering.{AnswersUnder, AsksOnce, AsksUnder, IsStep, StepsTo}
use Rattle.subnet_core.specs.BringUp.{Stands}
use Rattle.subnet_core.specs.Inventory.{InventoryState}
use Rattle.subnet_core.specs.Senders.{MadComes, MadsCome}
use Rattle.subnet_core.specs.declared.answering.Answer.{Answer}
use Rattle.subnet_model.specs.Delivery.{asking_key, manager_key}
use Rattle.subnet_model.specs.Report.{answered_in_turn, answered_whole, asked, reply_to}
use Rattle.subnet_model.specs.declared.command.AskCommand.{AskCommand}
use Rattle.subnet_model.specs.declared.command.Command.TheVariants.{Ask}
use Rattle.subnet_model.specs.declared.event.PortEvent.{PortEvent}
use Rattle.subnet_model.specs.declared.subnet_port.SubnetPort.{SubnetPort}
use Rattle.subnet_fabric.specs.SendLaws.{IsSender}
use Rattle.subnet_fabric.specs.Sends.{asked_as, event_of, given_to_ask}
use Rattle.subnet_fabric.specs.declared.event.Event.{Event}
use Rattle.subnet_fabric.specs.declared.event.Event.TheVariants.{Refused}
use Rattle.updn_routes.specs.Subnet.{RoutesState}

-- the key under which what a port asks is answered, if it is
abbrev pub answering_key : List SubnetPort → SubnetPort → Option ℕ
answering_key ports own = option_and_then (manager_key ports) (asking_key own.keys)

-- what the port is answered, and what is remembered then, once it has acknowledged all
abbrev pub all_answered : List SubnetPort → SubnetPort → List ℕ → Administration → Answered
all_answered ports own mad old = answered_whole (answer ports own) acknowledgements mad old

abbrev pub left_answered : List SubnetPort → SubnetPort → List (List ℕ) → Administration → Answered
left_answered ports own left state = answered_in_turn (answer ports own) left state

-- these events so far, with what these ACKs still bring, are all; without a key no ACK is left
abbrev pub Finishes : InventoryState → Administration → AskCommand → SubnetPort → Option ℕ → List (List ℕ) → List Event → Administration → Type 0
Finishes inventory old command own (Some key) left events state =
    (map event_of events ++ map (reply_to own key) (left_answered inventory.configuration.ports own left state).0
    ≡ map (reply_to own key) (all_answered inventory.configuration.ports own command.mad old).0)
    × ((left_answered inventory.configuration.ports own left state).1 ≡ (all_answered inventory.configuration.ports own command.mad old).1)
Finishes inventory old command own None left events state =
    (left ≡ []) × IsStep (asked subnet_administration inventory.configuration (Some own) command.mad old) events state

-- while ACKs are left
pub record OnTheWay (inventory : InventoryState) (routes : RoutesState) (old : RegistryState) (was : FabricState) (command : AskCommand)
    (left : List (List ℕ)) (events : List Event) (registry : RegistryState) (fabric : FabricState) : Type 0 where
  pub reported : (own : SubnetPort) → IsSender inventory.configuration.ports (asked_as command true) own
      → Finishes inventory old.administration command own (answering_key inventory.configuration.ports own) left events registry.administration
  pub nobody : (HasPort was.nodes command.port_guid → ⊥) → (left ≡ []) × (events ≡ []) × (registry ≡ old) × (fabric ≡ was)
  pub refused : (at : PortRef) (own : AdapterState) (refusal : Refusal) → adapter_at was.nodes at ≡ Some own → own.port_guid ≡ command.port_guid
      → given_to_ask own command ≡ Err refusal
      → (left ≡ []) × (events ≡ Refused command.port_guid refusal ∷ []) × (registry ≡ old) × (fabric ≡ was)
  pub acked : List (List ℕ)
  pub answered : MadsCome was fabric command.port_guid (command.mad ∷ acked) events
  pub cabling : cabling_of fabric ≡ cabling_of was
  pub stands : Stands inventory routes registry fabric

-- one MAD more comes
mads_come_more : (was mid left : FabricState) (port_guid : ℕ) (mads : List (List ℕ)) (ack : List ℕ) (events more : List Event)
    → MadsCome was mid port_guid mads events → MadComes mid left (record { port_guid = port_guid; mad = ack }) more
    → MadsCome was left port_guid (mads ++ ack ∷ []) (events ++ more)
mads_come_more was mid left port_guid [] ack events more before one = (
  left,
  more,
  [],
  subst (λ (from : FabricState). MadComes from left (record { port_guid = port_guid; mad = ack }) more) (sym before.0) one,
  (refl, refl),
  ap (λ (some : List Event). some ++ more) before.1 ∙ sym (append-nil more),
)
mads_come_more was mid left port_guid (mad ∷ mads) ack events more before one = (
  before.0,
  before.1,
  before.2 ++ more,
  before.3,
  mads_come_more before.0 mid left port_guid mads ack before.2 more before.4 one,
  ap (λ (some : List Event). some ++ more) before.5 ∙ append_assoc before.1 before.2 more,
)

no_acks : (mads : List (List ℕ)) → mads ≡ [] → acknowledgements mads ≡ []
no_acks mads none = rw none refl

module _ (inventory : InventoryState) (routes : RoutesState) (old : RegistryState) (was : FabricState) (command : AskCommand) where
  abbrev ports : List SubnetPort
  ports = inventory.configuration.ports

  -- ---- after the first MAD
  first_finishes : (own : SubnetPort) (key : Option ℕ) → asking_key own.keys ≡ key → (given : Answer) (state : Administration)
      → AsksUnder ports own key command.mad old.administration given state
      → Finishes inventory old.administration command own (option_and_then (manager_key ports) key) (acknowledgements given.mads.items) given.events.items state
  first_finishes own None is given state asks =
      (no_acks given.mads.items asks.0, rw is (asks.1, asks.2))
  first_finishes own (Some key) is given state asks = by (manager_key ports key) refl asks
    where
      by : (under : Option ℕ) → manager_key ports key ≡ under
          → AnswersUnder under own (answer ports own command.mad old.administration) old.administration given state
          → Finishes inventory old.administration command own under (acknowledgements given.mads.items) given.events.items state
      by None none asks = (no_acks given.mads.items asks.0, rw (is, none) (asks.1, asks.2))
      by (Some under) is_under asks =
          let first = answer ports own command.mad old.administration in
          let same : left_answered ports own (acknowledgements given.mads.items) state ≡ left_answered ports own (acknowledgements first.0) first.1 =
          ap (λ (mads : List (List ℕ)). left_answered ports own (acknowledgements mads) state) asks.0
          ∙ ap (left_answered ports own (acknowledgements first.0)) asks.2 in (
            ap (λ (some : List PortEvent). some ++ map (reply_to own under) (left_answered ports own (acknowledgements given.mads.items) state).0) asks.1
                ∙ ap (λ (rest : Answered). map (reply_to own under) first.0 ++ map (reply_to own under) rest.0) same
                ∙ sym (map-append (reply_to own under) first.0 (left_answered ports own (acknowledgements first.0) first.1).0),
            ap (λ (rest : Answered). rest.1) same,
          )

  pub begins : (given : Answer) (next : RegistryState) (left : FabricState) → AsksOnce inventory routes old was command given next left
      → OnTheWay inventory routes old was command (acknowledgements given.mads.items) given.events.items next left
  begins given next left once = record {
    reported = λ own sends. first_finishes own (asking_key own.keys) refl given next.administration (once.reported own sends);
    nobody = λ none.
        let nothing = once.nobody none in
        (no_acks given.mads.items nothing.0, once.comes.nobody none, nothing.1, nothing.2);
    refused = λ at own refusal there guid gives.
        let nothing = once.unanswered at own refusal there guid gives in
        (no_acks given.mads.items nothing.0, once.comes.refused at own refusal there guid gives, nothing.1, nothing.2);
    acked = [];
    answered = (left, given.events.items, [], once.comes, (refl, refl), sym (append-nil given.events.items));
    cabling = once.cabling;
    stands = once.stands;
  }

  -- ---- after one ACK more
  module _ (ack : List ℕ) (rest : List (List ℕ)) where
    none_left : {X : Type 0} → ack ∷ rest ≡ [] → X
    none_left none = absurd (cc)

    one_more : (own : SubnetPort) (under : Option ℕ) (events : List Event) (state next : Administration) (given : Answer)
        → AnswersUnder under own (answer ports own ack state) state given next
        → Finishes inventory old.administration command own under (ack ∷ rest) events state
        → Finishes inventory old.administration command own under rest (events ++ given.events.items) next
    one_more own None events state next given asks before = none_left before.0
    one_more own (Some key) events state next given asks before =
        let first = answer ports own ack state in
        let same : left_answered ports own rest next ≡ left_answered ports own rest first.1 = ap (left_answered ports own rest) asks.2 in (
          ap (λ (some : List PortEvent). some ++ map (reply_to own key) (left_answered ports own rest next).0)
              (map-append event_of events given.events.items ∙ ap (λ (more : List PortEvent). map event_of events ++ more) asks.1)
              ∙ append_assoc (map event_of events) (map (reply_to own key) first.0) (map (reply_to own key) (left_answered ports own rest next).0)
              ∙ ap (λ (later : Answered). map event_of events ++ (map (reply_to own key) first.0 ++ map (reply_to own key) later.0)) same
              ∙ ap (λ (more : List PortEvent). map event_of events ++ more)
              (sym (map-append (reply_to own key) first.0 (left_answered ports own rest first.1).0))
              ∙ before.0,
          ap (λ (later : Answered). later.1) same ∙ before.1,
        )

    one_more_asked : (own : SubnetPort) (key : Option ℕ) (events : List Event) (state next : Administration) (given : Answer)
        → AsksUnder ports own key ack state given next
        → Finishes inventory old.administration command own (option_and_then (manager_key ports) key) (ack ∷ rest) events state
        → Finishes inventory old.administration command own (option_and_then (manager_key ports) key) rest (events ++ given.events.items) next
    one_more_asked own None events state next given asks before = none_left before.0
    one_more_asked own (Some key) events state next given asks before = one_more own (manager_key ports key) events state next given asks before

    pub goes_on : (events : List Event) (registry next : RegistryState) (fabric left : FabricState) (given : Answer)
        → OnTheWay inventory routes old was command (ack ∷ rest) events registry fabric
        → AsksOnce inventory routes registry fabric (record { port_guid = command.port_guid; mad = ack }) given next left
        → OnTheWay inventory routes old was command rest (events ++ given.events.items) next left
    goes_on events registry next fabric left given before once = record {
      reported = λ own sends.
          let asks = once.reported own (record { named = sends.named; adapter = sends.adapter }) in
          one_more_asked own (asking_key own.keys) events registry.administration next.administration given asks (before.reported own sends);
      nobody = λ none. none_left (before.nobody none).0;
      refused = λ at own refusal there guid gives. none_left (before.refused at own refusal there guid gives).0;
      acked = before.acked ++ ack ∷ [];
      answered =
          mads_come_more was fabric left command.port_guid (command.mad ∷ before.acked) ack events given.events.items before.answered once.comes;
      cabling = once.cabling ∙ before.cabling;
      stands = once.stands;
    }

  -- ---- and after the last
  finished : (own : SubnetPort) (key : Option ℕ) → asking_key own.keys ≡ key → (events : List Event) (state : Administration)
      → Finishes inventory old.administration command own (option_and_then (manager_key ports) key) [] events state
      → IsStep (asked subnet_administration inventory.configuration (Some own) command.mad old.administration) events state
  finished own None is events state before = before.1
  finished own (Some key) is events state before = by (manager_key ports key) refl before
    where
      by : (under : Option ℕ) → manager_key ports key ≡ under → Finishes inventory old.administration command own under [] events state
          → IsStep (asked subnet_administration inventory.configuration (Some own) command.mad old.administration) events state
      by None none before = before.1
      by (Some under) is_under before = rw (is, is_under) (sym (append-nil (map event_of events)) ∙ before.0, before.1)

  pub ends : (events : List Event) (registry : RegistryState) (fabric : FabricState) → OnTheWay inventory routes old was command [] events registry fabric
      → StepsTo inventory routes routes old was (Ask command) events registry fabric
  ends events registry fabric before = record {
    comes = record {
      nobody = λ none. (before.nobody none).1;
      refused = λ at own refusal there guid gives. (before.refused at own refusal there guid gives).1;
      acks = before.acked;
      answered = before.answered;
    };
    reported = λ names.
        let own = names.0 in
        subst (λ (from : Option SubnetPort). IsStep (asked subnet_administration inventory.configuration from command.mad old.administration) events registry.administration)
        (sym names.1.named)
        (finished own (asking_key own.keys) refl events registry.administration (before.reported own names.1));
    nobody = λ none. let nothing = before.nobody none in (nothing.2, nothing.3);
    refused = λ refuses.
        let nothing = before.refused refuses.0 refuses.1 refuses.2 refuses.3 refuses.4 refuses.5 in
        (nothing.2, nothing.3);
    routes_stay = refl;
    cabling = before.cabling;
    kept = tt;
    stands = before.stands;
  }

-- while ACKs are left, whatever the subnet was before the first MAD
pub record Acknowledges (inventory : InventoryState) (routes : RoutesState) (command : AskCommand) (acks : List (List ℕ)) (first : List Event)
    (begun : RegistryState) (from : FabricState) (left : List (List ℕ)) (events : List Event) (registry : RegistryState) (fabric : FabricState) : Type 0 where
  pub way : (old : RegistryState) (was : FabricState) (given : Answer) → acknowledgements given.mads.items ≡ acks → given.events.items ≡ first
      → AsksOnce inventory routes old was command given begun from → OnTheWay inventory routes old was command left events registry fabric
  pub stands : Stands inventory routes registry fabric

module _ (inventory : InventoryState) (routes : RoutesState) (command : AskCommand) (acks : List (List ℕ)) (first : List Event)
    (begun : RegistryState) (from : FabricState) where
  pub starts_acknowledging : Stands inventory routes begun from → Acknowledges inventory routes command acks first begun from acks first begun from
  starts_acknowledging stands = record {
    way = λ old was given same events once.
        subst (λ (left : List (List ℕ)). OnTheWay inventory routes old was command left first begun from) same
        (subst (λ (some : List Event). OnTheWay inventory routes old was command (acknowledgements given.mads.items) some begun from) events
        (begins inventory routes old was command given begun from once));
    stands = stands;
  }

  pub acknowledges_more : (left : List (List ℕ)) (ack : List ℕ) (rest : List (List ℕ)) → left ≡ ack ∷ rest → (events : List Event) (registry next : RegistryState) (fabric after : FabricState)
      → (given : Answer) → Acknowledges inventory routes command acks first begun from left events registry fabric
      → AsksOnce inventory routes registry fabric (record { port_guid = command.port_guid; mad = ack }) given next after
      → Acknowledges inventory routes command acks first begun from rest (events ++ given.events.items) next after
  acknowledges_more left ack rest are events registry next fabric after given before once = record {
    way = λ old was begin same begin_events asked_first.
        goes_on inventory routes old was command ack rest events registry next fabric after given
        (subst (λ (some : List (List ℕ)). OnTheWay inventory routes old was command some events registry fabric) are (before.way old was begin same begin_events asked_first))
        once;
    stands = once.stands;
  }
