use Rattle.std.proofs.Common.{◌≡◌, ◌++◌, drop, map}
use Rattle.subnet_core.proofs.subnet.Subnet.carry_out.Given as goal
use Rattle.sa_replies.specs.Administration.{subnet_administration}
use Rattle.subnet_model.specs.Report.{events_from, step_by}
use Rattle.subnet_fabric.specs.Sends.{event_of}

abbrev pub invariant-loop-command : goal.invariant-loop-command
invariant-loop-command l =
    (map event_of l.events.items ++ events_from (step_by subnet_administration l.initial.self.inventory.configuration) l.self.administration (drop l.command-index l.commands)
    ≡ map event_of l.initial.events.items ++ events_from (step_by subnet_administration l.initial.self.inventory.configuration) l.initial.self.administration l.commands)
    × (l.self.inventory ≡ l.initial.self.inventory)
