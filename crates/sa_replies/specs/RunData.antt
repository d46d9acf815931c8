-- The bytes that are noted of a run are those that ports receive.
use Rattle.std.specs.Prelude.{◌≡◌, false, List, map, Option, Some, None}
use Rattle.std.specs.Int.Digits.{AllBelowBase}
use Rattle.std.specs.List.{AllByRecursion}
use Rattle.mad_layout.specs.SaMad.{data_in}
use Rattle.subnet_model.specs.Configuration.{ConfigurationState}
use Rattle.subnet_model.specs.Configured.{IsConfigured}
use Rattle.subnet_model.specs.Delivery.{is_for_sa}
use Rattle.subnet_model.specs.declared.command.Command.{Command}
use Rattle.subnet_model.specs.declared.command.Command.TheVariants.{Ask, Cable, Send}
use Rattle.subnet_model.specs.declared.event.Outcome.{Outcome}
use Rattle.subnet_model.specs.declared.event.Outcome.TheVariants.{Received, Refused}
use Rattle.sa_replies.specs.Notes.{NotedByte}
use Rattle.sa_replies.specs.Sources.{filled}
use Rattle.sa_replies.specs.RunSources.{NotedEvent, NotedEvents, NotedState, noted_after, noted_step}

-- what a port sends are bytes; of a cable nothing is sent
abbrev pub CarriesBytes : Command → Type 0
CarriesBytes (Send command) = AllBelowBase 256 command.payload
CarriesBytes (Ask command) = AllBelowBase 256 command.mad
CarriesBytes (Cable command) = Unit {0}

-- it sends them to another port, and not to subnet administration
abbrev pub IsBetweenPorts : Command → Type 0
IsBetweenPorts (Send command) = is_for_sa command ≡ false
IsBetweenPorts (Ask command) = ⊥
IsBetweenPorts (Cable command) = ⊥

-- the data of a packet are the bytes that are noted of it, and then 0; only a packet between two ports, and a refusal, have
-- nothing noted
abbrev pub AreNoted : Command → Outcome → Option (List NotedByte) → Type 0
AreNoted command (Received packet) (Some bytes) = data_in packet.payload ≡ filled (map (λ one. one.byte) bytes)
AreNoted command (Received packet) None = IsBetweenPorts command
AreNoted command (Refused refusal) (Some bytes) = ⊥
AreNoted command (Refused refusal) None = Unit {0}

abbrev pub HasItsData : Command → NotedEvent → Type 0
HasItsData command one = AreNoted command one.event.what one.noted

-- what is proved of a rule for what is noted of a command: so it is with each event that the command brings, whatever ports of a
-- configured subnet sent and asked before
abbrev pub NotedStepRule : Type 0
NotedStepRule = ConfigurationState → NotedState → Command → NotedEvents

abbrev pub NotesData : NotedStepRule → Type 0
NotesData rule =
    (configuration : ConfigurationState) (before : List Command) (command : Command) → IsConfigured configuration
    → CarriesBytes command
    → AllByRecursion (HasItsData command) (rule configuration (noted_after configuration before) command).0

-- it holds of ours
abbrev pub DataOfRunsIsNoted : Type 0
DataOfRunsIsNoted = NotesData noted_step
