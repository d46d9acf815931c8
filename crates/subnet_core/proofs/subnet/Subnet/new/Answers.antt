use Rattle.std.proofs.Common.{ap, refl}
use Rattle.sa_store.specs.Registry.{RegistryState}
use Rattle.subnet_core.proofs.AnswerLemmas.{inventory_is_configured, stands_at_start}
use Rattle.subnet_core.proofs.subnet.Subnet.new.Goals as goal

pub of-requires : goal.of-requires
of-requires c = rw c.configuration.ensures (inventory_is_configured c.args.inventory c.known_listed.ensures)

pub invariant_of-result : goal.invariant_of-result
invariant_of-result c = λ whole.
    stands_at_start c.args.inventory (record { routes = c.up.inside.routes; fabric = c.up.inside.fabric }) c.in_ok-administrator.administrator
    c.known_listed.ensures (rw (← c.up.view_is) at c.requires) (rw c.configuration.ensures at c.in_ok-administrator.ensures)

pub returns-clause-started : goal.returns-clause-started
returns-clause-started c = record {
  up = rw (← c.up.view_is) at c.requires;
  administration = ap (λ (registry : RegistryState). registry.administration) (rw c.configuration.ensures at c.in_ok-administrator.ensures);
  whole = refl;
}
