use Rattle.std.proofs.Common.{◌∙◌, ap, sym}
use Rattle.subnet_core.proofs.AnswerLemmas.{serves}
use Rattle.subnet_core.proofs.CableLemmas.{steps_by_cable}
use Rattle.subnet_fabric.specs.Laws.{all_keys}
use Rattle.subnet_model.specs.Configuration.{ConfigurationState}
use Rattle.subnet_core.proofs.answering.recabled.Goals as goal

pub recable-requires-clause-served : goal.recable-requires-clause-served
recable-requires-clause-served c =
    rw c.topology.ensures (serves c.args.inventory.now c.args.routes.now c.args.administrator.now c.args.fabric.now c.requires)

pub recable-requires-clause-keys : goal.recable-requires-clause-keys
recable-requires-clause-keys c =
    c.deref.ensures.value ∙ c.in_ok-keys.ensures ∙ rw (c.ports.ensures, c.configuration.ensures)
    (ap (λ (configuration : ConfigurationState). all_keys configuration.ports) (sym c.requires.configured))

pub returns-clause-steps : goal.returns-clause-steps
returns-clause-steps c =
    steps_by_cable c.args.inventory.now c.args.routes.now c.args.administrator.now c.args.fabric.now c.requires c.recable.new.routes c.recable.new.fabric
    (rw c.topology.ensures at c.in_ok-recable.ensures.serves) c.in_ok-recable.ensures.ruled c.args.command.now c.new.result.items c.new.ensures.items
    (rw c.topology.ensures at c.in_ok-recable.ensures.cabling) c.in_ok-recable.ensures.kept
