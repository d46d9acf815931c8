use Rattle.std.proofs.Common.{◌∙◌, ap, sym, subst}
use Rattle.partition_file.specs.Members.{AreSoundHeadings}
use Rattle.subnet_model.specs.Configuration.{ConfigurationState}
use Rattle.subnet_model.specs.Configured.{IsConfigured}
use Rattle.subnet_fabric.specs.EndPorts.{AreEndPorts}
use Rattle.subnet_fabric.specs.Ports.{configuration_of}
use Rattle.subnet_fabric.proofs.ConfiguredLemmas.{is_configured}
use Rattle.subnet_fabric.proofs.EndPortLemmas.{end_ports_stand_in_order}
use Rattle.subnet_fabric.proofs.end_ports.configuration_of.Goals as goal

pub returns-clause-end_ports : goal.returns-clause-end_ports
returns-clause-end_ports c =
    let value = c.in_ok-configuration.ensures.value ∙ ap (configuration_of c.args.partitions.now) c.as_large.ensures in
    subst (λ (k : ConfigurationState). AreEndPorts c.args.partitions.now c.args.topology.now k.ports) (sym value)
    (end_ports_stand_in_order c.args.partitions.now c.args.topology.now c.known_sound.ensures)

pub returns-clause-configured : goal.returns-clause-configured
returns-clause-configured c =
    let value = c.in_ok-configuration.ensures.value ∙ ap (configuration_of c.args.partitions.now) c.as_large.ensures in
    subst IsConfigured (sym value)
    (is_configured c.args.partitions.now c.args.topology.now c.known_sound.ensures
    (subst (λ (k : ConfigurationState). AreSoundHeadings k.partitions) value c.in_ok-configuration.ensures.headings))
