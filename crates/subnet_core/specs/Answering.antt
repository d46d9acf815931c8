-- What a command leaves of a subnet, and how subnet administration answers one request of it.
use Rattle.std.specs.Prelude.{ℕ, ◌≡◌, true, List, [], ◌∷◌, map, Option, Some, None, Err}
use Rattle.data_packet.specs.declared.refusal.Refusal.{Refusal}
use Rattle.data_packet.specs.declared.refusal.Refusal.TheVariants.{KeyNotHeld}
use Rattle.fabric_parts.specs.declared.cable.PortRef.{PortRef}
use Rattle.fabric_wire.specs.Recabling.{cabling_of}
use Rattle.smp_wire.specs.Deliveries.{DeliveryState, HasPort, adapter_at}
use Rattle.pkey_rules.specs.KeyTable.{holds}
use Rattle.port_model.specs.AdapterState.{AdapterState}
use Rattle.sa_store.specs.Registry.{RegistryState}
use Rattle.sa_model.specs.Delivery.{is_receiver_of}
use Rattle.sa_replies.specs.Answer.{Administration, Answered, answer}
use Rattle.sa_replies.specs.Administration.{subnet_administration}
use Rattle.smp_wire.specs.FabricState.{FabricState}
use Rattle.subnet_core.specs.BringUp.{Stands, SubnetState}
use Rattle.subnet_core.specs.Inventory.{InventoryState}
use Rattle.subnet_core.specs.Cabling.{IsCabledAfter, IsKept, RoutesStay}
use Rattle.subnet_core.specs.Senders.{Comes, HasSender, MadComes, NamesSender, Refuses}
use Rattle.subnet_core.specs.declared.answering.Answer.{Answer}
use Rattle.subnet_model.specs.Delivery.{asking_key, is_for_sa, manager_key, reaches_joined}
use Rattle.subnet_model.specs.Report.{received_by, reply_to, step_by}
use Rattle.subnet_model.specs.declared.command.AskCommand.{AskCommand}
use Rattle.subnet_model.specs.declared.command.Command.{Command}
use Rattle.subnet_model.specs.declared.command.SendCommand.{SendCommand}
use Rattle.subnet_model.specs.declared.event.Outcome.TheVariants.{Refused as RefusedToSend}
use Rattle.subnet_model.specs.declared.event.PortEvent.{PortEvent}
use Rattle.subnet_model.specs.declared.subnet_port.SubnetPort.{SubnetPort}
use Rattle.subnet_fabric.specs.SendLaws.{IsSender, reported}
use Rattle.subnet_fabric.specs.Sends.{asked_as, event_of, given_to_ask}
use Rattle.subnet_fabric.specs.declared.event.Event.{Event}
use Rattle.updn_routes.specs.Subnet.{RoutesState}

-- ---- one request: the MADs that answer it, and what the port that asked receives
-- under the key by which the SM port answers; without one nothing comes of it
abbrev pub AnswersUnder : Option ℕ → SubnetPort → Answered → Administration → Answer → Administration → Type 0
AnswersUnder (Some key) own answered old given new =
    (given.mads.items ≡ answered.0) × (map event_of given.events.items ≡ map (reply_to own key) answered.0) × (new ≡ answered.1)
AnswersUnder None own answered old given new = (given.mads.items ≡ []) × (map event_of given.events.items ≡ []) × (new ≡ old)

-- a port asks under a key of its own, or refuses to
abbrev pub AsksUnder : List SubnetPort → SubnetPort → Option ℕ → List ℕ → Administration → Answer → Administration → Type 0
AsksUnder ports own (Some key) mad old given new = AnswersUnder (manager_key ports key) own (answer ports own mad old) old given new
AsksUnder ports own None mad old given new =
    (given.mads.items ≡ [])
    × (map event_of given.events.items ≡ record { port_guid = own.guid; what = RefusedToSend KeyNotHeld } ∷ [])
    × (new ≡ old)

-- ---- what is delivered of a packet for subnet administration is answered, whichever listed port sent it
abbrev pub AnswersRequests : InventoryState → RegistryState → ℕ → List DeliveryState → Answer → RegistryState → Type 0
AnswersRequests inventory old port deliveries given new =
    (command : SendCommand) (sender : SubnetPort) → IsSender inventory.configuration.ports command sender → command.port_guid ≡ port
    → is_for_sa command ≡ true → holds command.p_key sender.keys ≡ true
    → map reported deliveries
    ≡ received_by (reaches_joined (is_receiver_of old.administration.remembered.partitions command.dlid) command)
    inventory.configuration.ports sender command
    → AnswersUnder (manager_key inventory.configuration.ports command.p_key) sender
    (answer inventory.configuration.ports sender command.payload old.administration) old.administration given new.administration

-- one MAD that a port asks, and what comes of it
pub record AsksOnce (inventory : InventoryState) (routes : RoutesState) (old : RegistryState) (was : FabricState) (command : AskCommand)
    (given : Answer) (new : RegistryState) (left : FabricState) : Type 0 where
  pub comes : MadComes was left command given.events.items
  -- a port that refuses to send it is not answered
  pub unanswered : (at : PortRef) (own : AdapterState) (refusal : Refusal) → adapter_at was.nodes at ≡ Some own
      → own.port_guid ≡ command.port_guid → given_to_ask own command ≡ Err refusal
      → (given.mads.items ≡ []) × (new ≡ old) × (left ≡ was)
  pub reported : (own : SubnetPort) → IsSender inventory.configuration.ports (asked_as command true) own
      → AsksUnder inventory.configuration.ports own (asking_key own.keys) command.mad old.administration given new.administration
  pub nobody : (HasPort was.nodes command.port_guid → ⊥) → (given.mads.items ≡ []) × (new ≡ old) × (left ≡ was)
  pub cabling : cabling_of left ≡ cabling_of was
  pub stands : Stands inventory routes new left

-- ---- one command
-- its events and what is remembered then are the definition's
abbrev pub IsStep : List PortEvent × Administration → List Event → Administration → Type 0
IsStep after events new = (map event_of events ≡ after.0) × (new ≡ after.1)

pub record StepsTo (inventory : InventoryState) (routes next : RoutesState) (old : RegistryState) (was : FabricState) (command : Command)
    (events : List Event) (new : RegistryState) (left : FabricState) : Type 0 where
  pub comes : Comes was left command events
  pub reported : NamesSender inventory.configuration.ports command
      → IsStep (step_by subnet_administration inventory.configuration old.administration command) events new.administration
  pub nobody : (HasSender was.nodes command → ⊥) → (new ≡ old) × (left ≡ was)
  pub refused : Refuses was command → (new ≡ old) × (left ≡ was)
  pub routes_stay : RoutesStay command routes next
  pub cabling : IsCabledAfter inventory.plan command (cabling_of was) (cabling_of left)
  pub kept : IsKept command (cabling_of left ≡ cabling_of was) ((new ≡ old) × (left ≡ was) × (next ≡ routes))
  pub stands : Stands inventory next new left

-- the subnet after it: who is in it stays; the routes stay unless a cable is to be cut or mended, and cables are in place as the
-- definition says; what is remembered is the definition's; if no port has the command's GUID, or that port refuses to send, or
-- the command is to a cable and changes none, all stays
pub record IsNext (old : SubnetState) (command : Command) (new : SubnetState) : Type 0 where
  pub inventory : new.inventory ≡ old.inventory
  pub routes : RoutesStay command old.routes new.routes
  pub cabling : IsCabledAfter old.inventory.plan command (cabling_of old.fabric) (cabling_of new.fabric)
  pub whole : new.is_broken ≡ old.is_broken
  pub administration : NamesSender old.inventory.configuration.ports command
      → new.administration ≡ (step_by subnet_administration old.inventory.configuration old.administration command).1
  pub nobody : (HasSender old.fabric.nodes command → ⊥) → new ≡ old
  pub refused : Refuses old.fabric command → new ≡ old
  pub kept : IsKept command (cabling_of new.fabric ≡ cabling_of old.fabric) (new ≡ old)
