-- What comes of one MAD that a port asks, and of one packet that it sends.
use Rattle.std.proofs.Common.{ℕ, ◌≡◌, ◌∙◌, ap, refl, sym, subst, inl, inr, Bool, true, false, List, [], ◌∷◌, map, Option, Some, None, Result, Ok, Err, IfOk, OnOk, Vec, Global}
use Rattle.std.proofs.lemmas.Bool.{cases_Bool, false≢true}
use Rattle.std.proofs.lemmas.Option.{none-some, same_Some}
use Rattle.data_packet.specs.declared.packet.Packet.{Packet}
use Rattle.data_packet.specs.declared.refusal.Refusal.{Refusal}
use Rattle.data_packet.specs.declared.refusal.Refusal.TheVariants.{KeyNotHeld}
use Rattle.fabric_parts.specs.declared.cable.PortRef.{PortRef}
use Rattle.fabric_wire.specs.Recabling.{cabling_of}
use Rattle.smp_wire.specs.Deliveries.{DeliveryState, adapter_at}
use Rattle.pkey_rules.specs.KeyTable.{holds}
use Rattle.pkey_rules.specs.PKey.{default_base, key_of}
use Rattle.port_model.specs.AdapterState.{AdapterState}
use Rattle.sa_store.specs.Registry.{RegistryState}
use Rattle.subnet_core.specs.declared.administering.AnswerFault.{AnswerFault}
use Rattle.sa_model.specs.Delivery.{is_receiver_of}
use Rattle.sa_replies.specs.Answer.{Administration, Answered, answer}
use Rattle.sa_replies.specs.Administration.{subnet_administration}
use Rattle.smp_wire.specs.FabricState.{FabricState}
use Rattle.subnet_core.proofs.AnswerLemmas.{stands_as_listed}
use Rattle.subnet_core.specs.Answering.{AnswersRequests, AnswersUnder, AsksOnce, AsksUnder, IsStep, StepsTo}
use Rattle.subnet_core.specs.BringUp.{Stands}
use Rattle.subnet_core.specs.Inventory.{InventoryState}
use Rattle.subnet_core.specs.Senders.{AreSentBack, IsAnswered}
use Rattle.subnet_core.specs.declared.answering.Answer.{Answer}
use Rattle.subnet_model.specs.Delivery.{asking_key, is_for_sa, manager_key, refusal_of, sent_to_ask}
use Rattle.subnet_model.specs.Report.{delivered, replied, sent, step_by, unless_refused}
use Rattle.subnet_model.specs.declared.command.AskCommand.{AskCommand}
use Rattle.subnet_model.specs.declared.command.Command.TheVariants.{Send}
use Rattle.subnet_model.specs.declared.command.SendCommand.{SendCommand}
use Rattle.subnet_model.specs.declared.subnet_port.SubnetPort.{SubnetPort}
use Rattle.subnet_fabric.proofs.SendLemmas.{reported_events}
use Rattle.subnet_fabric.specs.SendLaws.{IsSender}
use Rattle.subnet_fabric.specs.Sends.{AreEvents, AreReceived, AskIsAsListed, AsksAsListed, AsksBy, ComesOf, ComesOfAsk, IsAsListed, SendIsAsListed, asked_as, event_of, given_to_ask}
use Rattle.subnet_fabric.specs.declared.event.Event.{Event}
use Rattle.subnet_fabric.specs.declared.event.Event.TheVariants.{Received}
use Rattle.subnet_fabric.specs.declared.sent.Sent.TheVariants.{Events, Request}
use Rattle.fabric_wire.specs.declared.delivery.Delivery.{Delivery}
use Rattle.updn_routes.specs.Subnet.{RoutesState}

-- the key by which a port asks is one of its own
asking_holds : (keys : List ℕ) (key : ℕ) → asking_key keys ≡ Some key → holds key keys ≡ true
asking_holds keys key is = elim (cases_Bool (holds (key_of default_base true) keys)) [
  | inl full ↦
      let same : key_of default_base true ≡ key = same_Some (key_of default_base true) key (sym (rw full refl) ∙ is) in
      ap (λ (k : ℕ). holds k keys) (sym same) ∙ full
  | inr not_full ↦ elim (cases_Bool (holds (key_of default_base false) keys)) [
    | inl limited ↦
        let same : key_of default_base false ≡ key = same_Some (key_of default_base false) key (sym (rw (not_full, limited) refl) ∙ is) in
        ap (λ (k : ℕ). holds k keys) (sym same) ∙ limited
    | inr none ↦ absurd (none-some key (sym (rw (not_full, none) refl) ∙ is))
  ]
]

-- what is delivered of a request is what was received, so that its answers are sent back
same_deliveries : (some others : List DeliveryState) → map Received some ≡ map Received others → some ≡ others
same_deliveries [] [] same = refl
same_deliveries [] (other ∷ others) same = absurd (cc)
same_deliveries (one ∷ some) [] same = absurd (cc)
same_deliveries (one ∷ some) (other ∷ others) same =
    let head : one ≡ other = cc in
    let tail : map Received some ≡ map Received others = cc in
    ap (λ (x : DeliveryState). x ∷ some) head ∙ ap (λ (xs : List DeliveryState). other ∷ xs) (same_deliveries some others tail)

answered_back : (was left : FabricState) (sender : ℕ) (packet : Packet) (deliveries : Vec Delivery Global) (events : List Event)
    → AreReceived was sender packet (map Received deliveries.items) → AreSentBack left deliveries.items events → IsAnswered was left sender packet events
answered_back was left sender packet deliveries events received back = record {
  deliveries = received.deliveries;
  are = received.are;
  back = subst (λ (some : List DeliveryState). AreSentBack left some events) (same_deliveries deliveries.items received.deliveries received.reported) back;
}

module _ (inventory : InventoryState) (routes : RoutesState) (old : RegistryState) (was : FabricState) (stands : Stands inventory routes old was) where
  abbrev ports : List SubnetPort
  ports = inventory.configuration.ports

  abbrev receives : ℕ → ℕ → Bool
  receives = is_receiver_of old.administration.remembered.partitions

  -- ---- one MAD: a port refuses to send it, or is none
  module _ (command : AskCommand) (events : Vec Event Global) (comes : ComesOfAsk was command (Events events)) (reported : AskIsAsListed was command (Events events))
      (given : Answer) (mads : given.mads.items ≡ []) (same : given.events ≡ events) where
    under : (own : SubnetPort) (key : Option ℕ) → AsksAsListed ports receives own command key (Events events)
        → AsksUnder ports own key command.mad old.administration given old.administration
    under own (Some key) listed = absurd (false≢true listed.request)
    under own None listed = (mads, ap (λ (v : Vec Event Global). map event_of v.items) same ∙ listed.0, refl)

    items : given.events.items ≡ events.items
    items = ap (λ (v : Vec Event Global). v.items) same

    no_request : {X : Type 0} (packet : Packet) → AsksBy was command.port_guid (Ok packet) (Events events) → X
    no_request packet by = absurd (false≢true by.1)

    refused_so : (at : PortRef) (own : AdapterState) (refusal : Refusal) → adapter_at was.nodes at ≡ Some own → own.port_guid ≡ command.port_guid
        → given_to_ask own command ≡ Err refusal → AsksBy was command.port_guid (Err refusal) (Events events)
    refused_so at own refusal there guid gives =
        subst (λ g. AsksBy was command.port_guid g (Events events)) gives (comes.asked at own there guid)

    pub once_by_events : AsksOnce inventory routes old was command given old was
    once_by_events = record {
      comes = record {
        nobody = λ none. items ∙ (comes.nobody none).0;
        refused = λ at own refusal there guid gives. items ∙ (refused_so at own refusal there guid gives).0;
        answered = λ at own packet there guid gives.
            no_request packet (subst (λ g. AsksBy was command.port_guid g (Events events)) gives (comes.asked at own there guid));
      };
      unanswered = λ at own refusal there guid gives. (mads, refl, refl);
      reported = λ own sends. under own (asking_key own.keys) (reported ports receives own (stands_as_listed inventory routes old was stands) sends);
      nobody = λ none. (mads, refl, refl);
      cabling = refl;
      stands = stands;
    }

  -- ---- or it is a request
  module _ (command : AskCommand) (deliveries : Vec Delivery Global) (comes : ComesOfAsk was command (Request deliveries)) (reported : AskIsAsListed was command (Request deliveries))
      (given : Answer) (new : RegistryState) (left : FabricState) (after : Stands inventory routes new left)
      (answers : AnswersRequests inventory old command.port_guid deliveries.items given new) (back : AreSentBack left deliveries.items given.events.items)
      (cables : cabling_of left ≡ cabling_of was) where
    asked_under : (own : SubnetPort) → IsSender ports (asked_as command true) own → (key : Option ℕ) → asking_key own.keys ≡ key
        → AsksAsListed ports receives own command key (Request deliveries) → AsksUnder ports own key command.mad old.administration given new.administration
    asked_under own sends None is listed = absurd (false≢true (sym listed.1))
    asked_under own sends (Some key) is listed =
        answers (sent_to_ask command key) own (record { named = sends.named; adapter = sends.adapter }) refl refl (asking_holds own.keys key is)
        (sym (reported_events deliveries.items) ∙ listed.events)

    no_events : {X : Type 0} (events : List Event) → AreEvents (Request deliveries) events → X
    no_events events are = absurd (false≢true (sym are.1))

    refused_not : {X : Type 0} (at : PortRef) (own : AdapterState) (refusal : Refusal) → adapter_at was.nodes at ≡ Some own → own.port_guid ≡ command.port_guid
        → given_to_ask own command ≡ Err refusal → X
    refused_not at own refusal there guid gives =
        no_events _ (subst (λ g. AsksBy was command.port_guid g (Request deliveries)) gives (comes.asked at own there guid))

    pub once_by_request : AsksOnce inventory routes old was command given new left
    once_by_request = record {
      comes = record {
        nobody = λ none. no_events [] (comes.nobody none);
        refused = λ at own refusal there guid gives. refused_not at own refusal there guid gives;
        answered = λ at own packet there guid gives.
            answered_back was left command.port_guid packet deliveries given.events.items
            (subst (λ g. AsksBy was command.port_guid g (Request deliveries)) gives (comes.asked at own there guid)).0 back;
      };
      unanswered = λ at own refusal there guid gives. refused_not at own refusal there guid gives;
      reported = λ own sends.
          asked_under own sends (asking_key own.keys) refl (reported ports receives own (stands_as_listed inventory routes old was stands) sends);
      nobody = λ none. no_events [] (comes.nobody none);
      cabling = cables;
      stands = after;
    }

  -- unless an allocation fails
  pub once_if_ok : (command : AskCommand) (deliveries : Vec Delivery Global) → ComesOfAsk was command (Request deliveries) → AskIsAsListed was command (Request deliveries)
      → (new : RegistryState) (left : FabricState) (result : Result Answer AnswerFault)
      → IfOk result (λ given. AnswersRequests inventory old command.port_guid deliveries.items given new)
      → IfOk result (λ given. AreSentBack left deliveries.items given.events.items) → OnOk result (Stands inventory routes new left)
      → OnOk result (cabling_of left ≡ cabling_of was)
      → IfOk result (λ given. AsksOnce inventory routes old was command given new left)
  once_if_ok command deliveries comes reported new left (Ok given) answers back after cables =
      once_by_request command deliveries comes reported given new left after answers back cables
  once_if_ok command deliveries comes reported new left (Err fault) answers back after cables = tt

  -- ---- a packet that a port sends
  abbrev Step : SendCommand → List Event → Administration → Type 0
  Step command events new = IsStep (step_by subnet_administration inventory.configuration old.administration (Send command)) events new

  by_sender : (command : SendCommand) (sender : SubnetPort) (events : List Event) (new : Administration) → IsSender ports command sender
      → IsStep (sent subnet_administration inventory.configuration (Some sender) command old.administration) events new → Step command events new
  by_sender command sender events new sends is =
      subst (λ (from : Option SubnetPort). IsStep (sent subnet_administration inventory.configuration from command old.administration) events new)
      (sym sends.named) is

  module _ (command : SendCommand) (events : Vec Event Global) (comes : ComesOf was command (Events events)) (reported : SendIsAsListed was command (Events events)) where
    sent_so : (sender : SubnetPort) (refusal : Option Refusal) → refusal_of sender command ≡ refusal → IsAsListed ports receives sender command refusal (Events events)
        → IsStep (unless_refused refusal command.port_guid old.administration (delivered subnet_administration inventory.configuration sender command old.administration))
        events.items old.administration
    sent_so sender (Some refusal) is listed = (listed.events, refl)
    sent_so sender None is listed = rw (sym listed.request) (listed.events, refl)

    pub steps_by_events : StepsTo inventory routes routes old was (Send command) events.items old was
    steps_by_events = record {
      comes = record {
        nobody = λ none. (comes.nobody none).0;
        refused = λ refusal stamps. (comes.refused refusal stamps).0;
        answered = λ packet stamps for_sa. absurd (false≢true (comes.request packet stamps ∙ for_sa));
        carried = λ packet stamps other. comes.carried packet stamps;
      };
      reported = λ names.
          let sender = names.0 in
          by_sender command sender events.items old.administration names.1
          (sent_so sender (refusal_of sender command) refl (reported ports receives sender (stands_as_listed inventory routes old was stands) names.1));
      nobody = λ none. (refl, refl);
      refused = λ refuses. (refl, refl);
      routes_stay = refl;
      cabling = refl;
      kept = tt;
      stands = stands;
    }

  module _ (command : SendCommand) (deliveries : Vec Delivery Global) (comes : ComesOf was command (Request deliveries))
      (reported : SendIsAsListed was command (Request deliveries)) (given : Answer) (new : RegistryState) (left : FabricState) (after : Stands inventory routes new left)
      (answers : AnswersRequests inventory old command.port_guid deliveries.items given new) (back : AreSentBack left deliveries.items given.events.items)
      (cables : cabling_of left ≡ cabling_of was) where
    -- a port that does not refuse holds the key
    held : (sender : SubnetPort) → refusal_of sender command ≡ None → holds command.p_key sender.keys ≡ true
    held sender allowed = by (holds command.p_key sender.keys) refl
      where
        by : (b : Bool) → holds command.p_key sender.keys ≡ b → b ≡ true
        by true is = refl
        by false is = absurd (none-some KeyNotHeld (sym allowed ∙ rw is refl))

    replied_so : (sender : SubnetPort) (key : Option ℕ) (answered : Answered) → AnswersUnder key sender answered old.administration given new.administration
        → IsStep (replied sender key old.administration answered) given.events.items new.administration
    replied_so sender (Some key) answered is = (is.1, is.2)
    replied_so sender None answered is = (is.1, is.2)

    answered_so : (sender : SubnetPort) → IsSender ports command sender → (refusal : Option Refusal) → refusal_of sender command ≡ refusal
        → IsAsListed ports receives sender command refusal (Request deliveries)
        → IsStep (unless_refused refusal command.port_guid old.administration (delivered subnet_administration inventory.configuration sender command old.administration))
        given.events.items new.administration
    answered_so sender sends (Some refusal) is listed = absurd (false≢true (sym listed.request))
    answered_so sender sends None is listed =
        let for_sa : is_for_sa command ≡ true = sym listed.request in
        rw for_sa
        (replied_so sender (manager_key ports command.p_key) (answer ports sender command.payload old.administration)
        (answers command sender sends refl for_sa (held sender is) (sym (reported_events deliveries.items) ∙ listed.events)))

    no_answer : {X : Type 0} (events : List Event) → AreEvents (Request deliveries) events → X
    no_answer events are = absurd (false≢true (sym are.1))

    pub steps_by_request : StepsTo inventory routes routes old was (Send command) given.events.items new left
    steps_by_request = record {
      comes = record {
        nobody = λ none. no_answer [] (comes.nobody none);
        refused = λ refusal stamps. no_answer _ (comes.refused refusal stamps);
        answered = λ packet stamps for_sa.
            answered_back was left command.port_guid packet deliveries given.events.items (comes.carried packet stamps) back;
        carried = λ packet stamps other. absurd (false≢true (sym other ∙ sym (comes.request packet stamps)));
      };
      reported = λ names.
          let sender = names.0 in
          by_sender command sender given.events.items new.administration names.1
          (answered_so sender names.1 (refusal_of sender command) refl (reported ports receives sender (stands_as_listed inventory routes old was stands) names.1));
      nobody = λ none. no_answer [] (comes.nobody none);
      refused = λ refuses. no_answer _ (comes.refused refuses.0 refuses.1);
      routes_stay = refl;
      cabling = cables;
      kept = tt;
      stands = after;
    }
