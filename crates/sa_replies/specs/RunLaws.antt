-- Whole runs in which subnet administration answers.
use Rattle.std.specs.Prelude.{◌≡◌, true, List}
use Rattle.subnet_model.specs.Configuration.{ConfigurationState}
use Rattle.subnet_model.specs.Configured.{IsConfigured}
use Rattle.subnet_model.specs.Isolation.{IsIsolated, KeepsApart}
use Rattle.subnet_model.specs.Report.{report_by, state_from, step_by}
use Rattle.subnet_model.specs.declared.command.Command.{Command}
use Rattle.subnet_model.specs.declared.subnet_port.SubnetPort.{SubnetPort}
use Rattle.sa_model.specs.Order.{InOrder}
use Rattle.sa_replies.specs.Answer.{Administration}
use Rattle.sa_replies.specs.State.{IsStateOf, at_start}
use Rattle.sa_replies.specs.Administration.{subnet_administration}
use Rattle.sa_replies.specs.RunSight.{is_sound_state, sees}

-- subnet administration keeps ports apart
abbrev pub AdministrationKeepsApart : Type 0
AdministrationKeepsApart =
    (configuration : ConfigurationState) → KeepsApart configuration subnet_administration (is_sound_state configuration)
    (sees configuration)

-- so that whatever ports send and ask, what a port receives depends only on the ports near it
abbrev pub RunsAreIsolated : Type 0
RunsAreIsolated =
    (configuration : ConfigurationState) (commands : List Command)
    → IsIsolated subnet_administration configuration commands (report_by subnet_administration configuration commands)

-- ---- what is remembered after a run
abbrev pub remembered_after : ConfigurationState → List Command → Administration
remembered_after configuration commands = state_from (step_by subnet_administration configuration) (at_start configuration) commands

abbrev pub RunsStaySound : Type 0
RunsStaySound =
    (configuration : ConfigurationState) (commands : List Command)
    → is_sound_state configuration (remembered_after configuration commands) ≡ true

-- which is always a state of the configuration
abbrev pub RunsAreStates : Type 0
RunsAreStates =
    (configuration : ConfigurationState) (commands : List Command) → IsConfigured configuration
    → IsStateOf configuration (remembered_after configuration commands)

-- in which all that is visible to a port stands in its order
abbrev pub RunsShowInOrder : Type 0
RunsShowInOrder =
    (configuration : ConfigurationState) (commands : List Command) (own : SubnetPort) → IsConfigured configuration
    → InOrder configuration.ports own (remembered_after configuration commands).remembered
