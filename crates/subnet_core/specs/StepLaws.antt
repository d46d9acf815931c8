-- What a command that changes no cable leaves as it was, and what comes of a packet between two ports, hop by hop.
use Rattle.std.specs.Prelude.{◌≡◌, false, List, [], ◌∷◌, ◌++◌, map, Ok}
use Rattle.data_packet.specs.declared.packet.Packet.{Packet}
use Rattle.fabric_wire.specs.Recabling.{cabling_of}
use Rattle.smp_wire.specs.Deliveries.{AreDeliveries, DeliveryState}
use Rattle.smp_wire.specs.FabricState.{FabricState}
use Rattle.subnet_core.specs.Answering.{IsNext}
use Rattle.subnet_core.specs.BringUp.{SubnetState}
use Rattle.subnet_core.specs.Senders.{Comes}
use Rattle.subnet_fabric.specs.Sends.{Stamps}
use Rattle.subnet_fabric.specs.declared.event.Event.{Event}
use Rattle.subnet_fabric.specs.declared.event.Event.TheVariants.{Received}
use Rattle.subnet_model.specs.Delivery.{is_for_sa}
use Rattle.subnet_model.specs.declared.command.CableCommand.{CableCommand}
use Rattle.subnet_model.specs.declared.command.Command.{Command}
use Rattle.subnet_model.specs.declared.command.Command.TheVariants.{Cable, Send}
use Rattle.subnet_model.specs.declared.command.SendCommand.{SendCommand}

-- ---- how one state of a subnet follows another
abbrev pub NextRule : Type 1
NextRule = SubnetState → Command → SubnetState → Type 0

-- a `cut` or a `mend` that changes no cable, as one that is refused, changes nothing else
abbrev pub ChangesNothingElse : NextRule → Type 0
ChangesNothingElse rule =
    (old new : SubnetState) (command : CableCommand) → rule old (Cable command) new → cabling_of new.fabric ≡ cabling_of old.fabric
    → new ≡ old

-- so it is with ours
abbrev pub RefusedCutsChangeNothing : Type 0
RefusedCutsChangeNothing = ChangesNothingElse IsNext

-- it may leave other routes, or drop what subnet administration remembers
abbrev pub may_reroute : NextRule
may_reroute old command new = new ≡ record old { routes = new.routes }

abbrev pub may_forget : NextRule
may_forget old command new = new ≡ record old { administration = new.administration }

-- ---- which events come of a command, over the fabric before it and the one after it
abbrev pub EventRule : Type 1
EventRule = FabricState → FabricState → Command → List Event → Type 0

-- a packet that is sent from one port to others is reported at each port where the fabric delivers it, and nothing else happens
abbrev pub ReportsDeliveries : EventRule → Type 0
ReportsDeliveries rule =
    (was left : FabricState) (command : SendCommand) (packet : Packet) (deliveries : List DeliveryState) (events : List Event)
    → rule was left (Send command) events → Stamps was command (Ok packet) → is_for_sa command ≡ false
    → AreDeliveries was command.port_guid packet deliveries → events ≡ map Received deliveries

-- so it is with ours
abbrev pub DeliveriesAreReported : Type 0
DeliveriesAreReported = ReportsDeliveries Comes

-- the first event may be dropped, or one may be added
abbrev pub one_less : EventRule
one_less was left command events = (first : Event) × Comes was left command (first ∷ events)

abbrev pub one_more : EventRule
one_more was left command events = (before : List Event) × (last : Event) × Comes was left command before × (events ≡ before ++ last ∷ [])

-- ---- each is refused, if there is a subnet, and a packet that comes to a port in it
pub record IsDelivered (was left : FabricState) (command : SendCommand) (packet : Packet) (first : DeliveryState) (rest : List DeliveryState)
    : Type 0 where
  pub comes : Comes was left (Send command) (map Received (first ∷ rest))
  pub stamped : Stamps was command (Ok packet)
  pub to_ports : is_for_sa command ≡ false
  pub are : AreDeliveries was command.port_guid packet (first ∷ rest)

pub record WrongStepsAreRefused : Type 0 where
  pub routes : SubnetState → ChangesNothingElse may_reroute → ⊥
  pub administration : SubnetState → ChangesNothingElse may_forget → ⊥
  pub less : (was left : FabricState) (command : SendCommand) (packet : Packet) (first : DeliveryState) (rest : List DeliveryState)
      → IsDelivered was left command packet first rest → ReportsDeliveries one_less → ⊥
  pub more : (was left : FabricState) (command : SendCommand) (packet : Packet) (first : DeliveryState) (rest : List DeliveryState)
      → IsDelivered was left command packet first rest → ReportsDeliveries one_more → ⊥
