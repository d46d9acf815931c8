use Rattle.std.proofs.Common.{◌∙◌}
use Rattle.subnet_core.proofs.MlidRangeLemmas.{is_pushed}
use Rattle.subnet_core.proofs.mlid_ranges.push_range.Goals as goal

pub returns-in-Ok-clause-pushed : goal.returns-in-Ok-clause-pushed
returns-in-Ok-clause-pushed c =
    is_pushed c.args.routes.now c.args.registry.now c.args.fabric.now c.push_receivers.new.fabric c.args.number c.deref-2.result.now _
    (c.deref-2.ensures.value ∙ c.in_ok-receivers.ensures.value) c.requires.stands c.push_receivers.ensures
