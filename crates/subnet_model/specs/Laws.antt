-- What holds of every subnet and every list of commands.
use Rattle.std.specs.Prelude.{ℕ, ◌≡◌, Bool, true, List, ◌∷◌, All}
use Rattle.std.specs.List.{IsDistinct}
use Rattle.data_packet.specs.declared.packet.Packet.{Packet}
use Rattle.subnet_model.specs.declared.subnet_port.SubnetPort.{SubnetPort}
use Rattle.subnet_model.specs.declared.command.CableCommand.{CableCommand}
use Rattle.subnet_model.specs.declared.command.Command.{Command}
use Rattle.subnet_model.specs.declared.command.Command.TheVariants.{Cable}
use Rattle.subnet_model.specs.declared.event.PortEvent.{PortEvent}
use Rattle.subnet_model.specs.Administrator.{Administrator}
use Rattle.subnet_model.specs.Configuration.{ConfigurationState}
use Rattle.subnet_model.specs.Near.{is_near}
use Rattle.subnet_model.specs.Report.{step_by, report_by, state_from}
use Rattle.subnet_model.specs.Restriction.{acts_in, commands_of, events_at}
use Rattle.subnet_model.specs.Source.{ComesFromNear, HaveSlidsNear, is_from_near, is_lid_near, same_lid}
use Rattle.subnet_model.specs.Isolation.{Alike, Isolates, IsIsolated, KeepsApart}

-- Whoever answers what is asked of subnet administration, and keeps ports apart: the step of a subnet keeps each port to
-- itself and to those near it, so does every run, and what is remembered after it is to each port as if the ports near
-- it alone had done anything
pub record Isolated {S V : Type 0} (configuration : ConfigurationState) (administrator : Administrator S) (is_sound : S → Bool)
    (sees : ℕ → S → V) : Type 0 where
  pub steps : (p : ℕ)
      → Isolates (administrator.begins configuration) (step_by administrator configuration) (Alike is_sound sees p)
      (λ command. acts_in (is_near configuration.ports p) command) (events_at p)
  pub runs : (commands : List Command)
      → IsIsolated administrator configuration commands (report_by administrator configuration commands)
  pub states : (p : ℕ) (commands : List Command)
      → Alike is_sound sees p
      (state_from (step_by administrator configuration) (administrator.begins configuration) commands)
      (state_from (step_by administrator configuration) (administrator.begins configuration)
      (commands_of (is_near configuration.ports p) commands))

abbrev pub EveryKeeperIsolates : Type 0 → Type 0 → Type 0
EveryKeeperIsolates S V =
    (configuration : ConfigurationState) (administrator : Administrator S) (is_sound : S → Bool) (sees : ℕ → S → V)
    → KeepsApart configuration administrator is_sound sees → Isolated configuration administrator is_sound sees

-- whichever ports a list of commands is restricted to, what happens to a cable is left out of it
abbrev pub RestrictionsDropCables : Type 0
RestrictionsDropCables =
    (in_set : ℕ → Bool) (command : CableCommand) (commands : List Command)
    → commands_of in_set (Cable command ∷ commands) ≡ commands_of in_set commands

-- if no two ports have one LID, the port of a LID near p is near p
abbrev pub ThePortOfALidIsNear : Type 0
ThePortOfALidIsNear =
    (ports : List SubnetPort) (p lid : ℕ) → IsDistinct same_lid ports → is_lid_near ports p lid ≡ true
    → All (λ port. port.lid ≡ lid → is_near ports p port.guid ≡ true) ports

-- what is proved of a rule for which packets come from near a port: it passes those whose SLID is the LID of a port near it, and no others
abbrev pub ReadsSources : (List SubnetPort → ℕ → Packet → Bool) → Type 0
ReadsSources comes_from_near =
    (ports : List SubnetPort) (p : ℕ) (packet : Packet) → IsDistinct same_lid ports
    → comes_from_near ports p packet ≡ is_lid_near ports p packet.slid

-- it holds of ours
abbrev pub SourcesAreRead : Type 0
SourcesAreRead = ReadsSources is_from_near

-- so that each packet that p receives comes from a port near p
abbrev pub SlidsNameTheirPorts : Type 0
SlidsNameTheirPorts =
    (ports : List SubnetPort) (p : ℕ) (events : List PortEvent) → IsDistinct same_lid ports → HaveSlidsNear ports p events
    → ComesFromNear ports p events
