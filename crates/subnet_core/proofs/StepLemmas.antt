-- Commands one after another, from the start.
use Rattle.std.proofs.Common.{◌≡◌, ◌∙◌, refl, List, [], ◌++◌, map}
use Rattle.sa_replies.specs.Answer.{Administration}
use Rattle.sa_replies.specs.State.{at_start}
use Rattle.sa_replies.specs.Administration.{subnet_administration}
use Rattle.subnet_model.specs.Configuration.{ConfigurationState}
use Rattle.subnet_model.specs.Report.{events_from, report_by, step_by}
use Rattle.subnet_model.specs.declared.command.Command.{Command}
use Rattle.subnet_fabric.specs.Sends.{event_of}
use Rattle.subnet_fabric.specs.declared.event.Event.{Event}

-- what is reported from the start is the report
pub reported_from_start : (configuration : ConfigurationState) (commands : List Command) (first events : List Event) (state : Administration) → first ≡ [] → state ≡ at_start configuration
    → map event_of events ≡ map event_of first ++ events_from (step_by subnet_administration configuration) state commands
    → map event_of events ≡ report_by subnet_administration configuration commands
reported_from_start configuration commands first events state none fresh carried = carried ∙ rw (none, fresh) refl
