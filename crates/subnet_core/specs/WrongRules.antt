-- Ways to report what happens at a port, and to list the ports near it, that would show far ports, too.
use Rattle.std.specs.Prelude.{ℕ, ◌≡◌, ◌==◌, suc, List, [], ◌∷◌, filter, map}
use Rattle.sa_replies.specs.Administration.{subnet_administration}
use Rattle.subnet_core.specs.Laws.{ListsNear}
use Rattle.subnet_model.specs.Configuration.{ConfigurationState}
use Rattle.subnet_model.specs.Near.{is_near}
use Rattle.subnet_model.specs.Report.{report_by}
use Rattle.subnet_model.specs.Restriction.{commands_of}
use Rattle.subnet_model.specs.declared.command.Command.{Command}
use Rattle.subnet_model.specs.declared.event.PortEvent.{PortEvent}

-- an event with its place in the whole report, as by a line number or by a counter over all ports
pub record CountedEvent : Type 0 where
  pub number : ℕ
  pub event : PortEvent

abbrev pub counted_from : ℕ → List PortEvent → List CountedEvent
counted_from number [] = []
counted_from number (event ∷ events) = record { number = number; event = event } ∷ counted_from (suc number) events

abbrev pub counted_at : ConfigurationState → ℕ → List Command → List CountedEvent
counted_at configuration p commands =
    filter (λ one. one.event.port_guid == p) (counted_from 1 (report_by subnet_administration configuration commands))

-- what is so of events, of these it is not: that they depend on the commands of the ports near the port alone
abbrev pub CountedEventsDependOnNear : Type 0
CountedEventsDependOnNear =
    (configuration : ConfigurationState) (p : ℕ) (commands : List Command)
    → counted_at configuration p commands ≡ counted_at configuration p (commands_of (is_near configuration.ports p) commands)

abbrev pub CountedEventsReportOfFarPorts : Type 0
CountedEventsReportOfFarPorts = CountedEventsDependOnNear → ⊥

-- a list of all ports has far ones, too
abbrev pub AllPortsAreNotNear : Type 0
AllPortsAreNotNear = ListsNear (λ ports p. map (λ port. port.guid) ports) → ⊥
