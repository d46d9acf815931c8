use Rattle.std.proofs.Common.{sym, ◌∙◌}
use Rattle.std.proofs.lemmas.Option.{none-some}
use Rattle.fabric_wire.proofs.KeptPortLemmas.{nobody_sends}
use Rattle.fabric_wire.proofs.fabric.Fabric.carry.Goals as goal

pub returns-in-None : goal.returns-in-None
returns-in-None c =
    rw c.new.ensures.items
    (nobody_sends c.args.self.now c.args.port c.args.packet.now
    (λ at sends. none-some at (sym c.in-None.is ∙ (c.place_of.ensures at).1 sends)))
