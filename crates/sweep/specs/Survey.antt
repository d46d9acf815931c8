-- How far a sweep has come: the switches that were found, the links of those that were asked, and the ports of channel
-- adapters that were met.
use Rattle.std.specs.Prelude.{List}
use Rattle.sweep.specs.declared.graph.GraphPort.{GraphPort}
use Rattle.sweep.specs.declared.graph.GraphSwitch.{GraphSwitch}
use Rattle.sweep.specs.declared.graph.GraphLink.{GraphLink}

pub record SurveyState : Type 0 where
  pub switches : List GraphSwitch
  pub rows : List (List GraphLink)
  pub ports : List GraphPort
