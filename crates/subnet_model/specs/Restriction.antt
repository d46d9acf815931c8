-- What of a run concerns a port: its events, and the commands of a set of ports.
use Rattle.std.specs.Prelude.{ℕ, Bool, false, ◌==◌, List, Option, Some, None, filter}
use Rattle.std.specs.Option.{option_map_or}
use Rattle.subnet_model.specs.declared.command.Command.{Command}
use Rattle.subnet_model.specs.declared.command.Command.TheVariants.{Ask, Cable, Send}
use Rattle.subnet_model.specs.declared.event.PortEvent.{PortEvent}

-- the GUID of the port that acts; none if a cable is cut or mended
abbrev pub actor : Command → Option ℕ
actor (Send command) = Some command.port_guid
actor (Ask command) = Some command.port_guid
actor (Cable command) = None

-- a port of this set of GUIDs acts
abbrev pub acts_in : (ℕ → Bool) → Command → Bool
acts_in in_set command = option_map_or in_set (actor command) false

-- the commands of the ports of a set of GUIDs, in order; one to a cable is no port's, and is left out
abbrev pub commands_of : (ℕ → Bool) → List Command → List Command
commands_of in_set commands = filter (λ command. acts_in in_set command) commands

-- the events at the port of this GUID, in order
abbrev pub events_at : ℕ → List PortEvent → List PortEvent
events_at guid events = filter (λ event. event.port_guid == guid) events
