use Rattle.std.proofs.Common.{subst}
use Rattle.subnet_core.proofs.CableLemmas.{after, next_of}
use Rattle.subnet_core.specs.Answering.{IsNext}
use Rattle.subnet_core.specs.BringUp.{SubnetState}
use Rattle.subnet_core.proofs.subnet.Subnet.step.Goals as goal

pub returns-clause-next : goal.returns-clause-next
returns-clause-next c =
    subst (λ (was : SubnetState). IsNext was c.args.command.now
    (after c.self.inside.inventory c.self.inside.routes c.carried_out.new.routes c.self.inside.administrator c.carried_out.new.administrator c.self.inside.fabric
    c.carried_out.new.fabric c.self.inside.is_broken c.if-self.false)) c.self.view_is
    (next_of c.self.inside.inventory c.self.inside.routes c.carried_out.new.routes c.self.inside.administrator c.carried_out.new.administrator c.self.inside.fabric
    c.carried_out.new.fabric c.self.inside.is_broken c.if-self.false c.args.command.now c.in_ok-events.events.items c.in_ok-events.ensures.steps)
