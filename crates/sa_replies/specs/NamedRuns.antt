-- What is noted of a run names its sources: each MAD is answered with notes of the state in which it arrives, and the records
-- that are noted for a port were named in a state of the run, when its table was opened.
use Rattle.std.specs.Prelude.{ℕ, ◌≡◌, ◌⊎◌, List, [], ◌∷◌, ◌++◌, Some}
use Rattle.subnet_model.specs.Configuration.{ConfigurationState}
use Rattle.subnet_model.specs.Delivery.{port_with_guid}
use Rattle.subnet_model.specs.declared.command.Command.{Command}
use Rattle.subnet_model.specs.declared.command.Command.TheVariants.{Ask, Cable, Send}
use Rattle.subnet_model.specs.declared.subnet_port.SubnetPort.{SubnetPort}
use Rattle.sa_model.specs.Shown.{Entry}
use Rattle.sa_replies.specs.NamedNotes.{AreNamed, IsNamed}
use Rattle.sa_replies.specs.Notes.{answer_noted}
use Rattle.sa_replies.specs.RunLaws.{remembered_after}
use Rattle.sa_replies.specs.RunData.{NotedStepRule}
use Rattle.sa_replies.specs.RunSources.{NotedState, acknowledging, noted_after, noted_mad, noted_step}

-- ---- the MADs of a port, one after another: what is noted of each answer names its source, by what is remembered then
abbrev pub AreNamedInTurn : List SubnetPort → SubnetPort → List (List ℕ) → NotedState → Type 0
AreNamedInTurn ports own [] noted = Unit {0}
AreNamedInTurn ports own (mad ∷ mads) noted =
    IsNamed ports own mad noted.state noted.notes (answer_noted ports own mad noted.state noted.notes)
    × AreNamedInTurn ports own mads (noted_mad ports own mad noted).1

-- a `send` to subnet administration is one MAD; after that of an `ask` come those that acknowledge its answer
abbrev pub are_named_of : ConfigurationState → NotedState → Command → SubnetPort → Type 0
are_named_of configuration noted (Send command) own = AreNamedInTurn configuration.ports own (command.payload ∷ []) noted
are_named_of configuration noted (Ask command) own =
    AreNamedInTurn configuration.ports own
    (command.mad ∷ acknowledging (noted_mad configuration.ports own command.mad noted).0) noted
are_named_of configuration noted (Cable command) own = Unit {0}

abbrev pub sender_of : Command → ℕ
sender_of (Send command) = command.port_guid
sender_of (Ask command) = command.port_guid
sender_of (Cable command) = 0

-- the answers to a command are named so, whichever port of the subnet it names
abbrev pub IsNamedStep : ConfigurationState → NotedState → Command → Type 0
IsNamedStep configuration noted command =
    (own : SubnetPort) → port_with_guid configuration.ports (sender_of command) ≡ Some own → are_named_of configuration noted command own

-- ---- these records were named for the port of that GUID by what was remembered after some of the commands: a node and a path
-- name their port, a service its own, and a group who made it
pub record WereNamed (configuration : ConfigurationState) (commands : List Command) (p : ℕ) (entries : List Entry) : Type 0 where
  pub before : List Command
  pub after : List Command
  pub parts : before ++ after ≡ commands
  pub own : SubnetPort
  pub own_is : p ≡ own.guid
  pub named : AreNamed configuration.ports own (remembered_after configuration before).remembered entries

-- what is noted for a port after the commands is nothing, or was named so
abbrev pub NotesAreOfAState : ConfigurationState → List Command → Type 0
NotesAreOfAState configuration commands =
    (p : ℕ) → ((noted_after configuration commands).notes p ≡ []) ⊎ WereNamed configuration commands p ((noted_after configuration commands).notes p)

-- ---- so it is before and after each command of a run
pub record IsRunNamed (configuration : ConfigurationState) (commands : List Command) : Type 0 where
  pub answers : (before after : List Command) (command : Command) → before ++ (command ∷ after) ≡ commands
      → IsNamedStep configuration (noted_after configuration before) command
  pub notes : (before after : List Command) → before ++ after ≡ commands → NotesAreOfAState configuration before

abbrev pub RunsNameSources : Type 0
RunsNameSources = (configuration : ConfigurationState) (commands : List Command) → IsRunNamed configuration commands

-- ---- what is proved of a rule for the notes of a command: those of each port stay, or are named for it by what was remembered before
abbrev pub NamesNotes : NotedStepRule → Type 0
NamesNotes rule =
    (configuration : ConfigurationState) (noted : NotedState) (command : Command) (p : ℕ)
    → ((rule configuration noted command).1.notes p ≡ noted.notes p)
    ⊎ ((own : SubnetPort) × (p ≡ own.guid)
    × AreNamed configuration.ports own noted.state.remembered ((rule configuration noted command).1.notes p))

-- it holds of ours
abbrev pub StepsNameNotes : Type 0
StepsNameNotes = NamesNotes noted_step
