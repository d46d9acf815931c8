use Rattle.std.proofs.Common.{◌∙◌, ap}
use Rattle.subnet_core.specs.BringUp.{SubnetState}
use Rattle.subnet_core.proofs.subnet.Subnet.into_parts.Goals as goal

pub returns-clause-up : goal.returns-clause-up
returns-clause-up c = λ whole.
    let stands = c.self.invariant (ap (λ (subnet : SubnetState). subnet.is_broken) c.self.view_is ∙ whole) in
    rw (← c.self.view_is) (stands.served, stands.ruled)
