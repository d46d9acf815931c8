use Rattle.std.proofs.Common.{rules}
use Rattle.subnet_core.proofs.StepLemmas.{reported_from_start}
use Rattle.subnet_core.proofs.subnet.Subnet.report.Goals as goal

pub returns : goal.returns
returns c =
    let reported = reported_from_start c.args.self.inventory.configuration c.args.commands.now c.new-events.result.items c.carry_out.new.events.items c.args.self.administration
    c.new-events.ensures.items c.requires.fresh c.in_ok-carry_out.ensures.events in
    search (rules, reported)
