use Rattle.std.proofs.Common.{sym}
use Rattle.subnet_core.proofs.SenderLemmas.{line_names_sender}
use Rattle.subnet_core.proofs.subnet.Subnet.parse.Goals as goal

pub returns-in-Ok-clause-sender : goal.returns-in-Ok-clause-sender
returns-in-Ok-clause-sender c =
    rw (sym c.self.view_is)
    (line_names_sender c.self.inside.inventory c.known_listed.ensures c.args.line.now c.in-Ok.command (sym (rw c.topology.ensures at c.in-Ok.ensures)))
