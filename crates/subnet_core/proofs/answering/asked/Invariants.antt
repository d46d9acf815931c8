use Rattle.std.proofs.Common.{drop}
use Rattle.subnet_core.proofs.AskLemmas.{Acknowledges}
use Rattle.subnet_core.proofs.answering.asked.Given as goal

abbrev pub invariant-loop-ack : goal.invariant-loop-ack
invariant-loop-ack l =
    Acknowledges l.inventory l.routes l.command l.ack-items l.initial.events.items l.initial.administrator l.initial.fabric (drop l.ack-index l.ack-items) l.events.items l.administrator
    l.fabric
