use Rattle.subnet_core.specs.BringUp.{up_in}
use Rattle.fabric_cli.proofs.SmpsLemmas.{smps_done, smps_fail_over}
use Rattle.fabric_cli.proofs.answering.smps_answered.Goals as goal

pub returns-in-Ok-clause-exact : goal.returns-in-Ok-clause-exact
returns-in-Ok-clause-exact g c =
    smps_done (up_in c.args.subnet) _ _ _ (g.O.Output.is_sure c.args.out.now) _ c.in-Ok.field-0 (rw c.into_parts-fabric.ensures.parts.1 at c.in-Ok.ensures.exact)

pub returns-clause-exact : goal.returns-clause-exact
returns-clause-exact g c =
    rw c.of_smps.ensures
    (smps_fail_over (up_in c.args.subnet) _ _ _ (g.O.Output.is_sure c.args.out.now) (Unit {0}) c.args.smps.name c.in-Err.stop _ c.into_parts-fabric.ensures.parts.1 c.in-Err.ensures.exact
    c.in-Err.ensures.sure)
