use Rattle.std.proofs.Common.{◌≡◌, ◌≤◌, ◌+◌, List, length, map, refl, sym, subst, ap, ◌∙◌}
use Rattle.fabric_parts.specs.declared.limits.TheConstants.{LARGE_ADAPTER_PORTS, LARGE_SWITCHES}
use Rattle.partition_file.specs.declared.heading.Heading.{Heading}
use Rattle.partition_file.specs.Members.{AreSoundHeadings, heading_of}
use Rattle.subnet_fabric.specs.Ports.{end_ports, in_order, ports_of, end_places}
use Rattle.subnet_model.specs.Configuration.{ConfigurationState}
use Rattle.subnet_fabric.proofs.ConfiguredLemmas.{as_many_ports}
use Rattle.subnet_fabric.proofs.PortLemmas.{zip_is_keyed}
use Rattle.subnet_fabric.proofs.end_ports.large_configuration_of.Goals as goal

pub returns-clause-value : goal.returns-clause-value
returns-clause-value c =
    let plan = c.args.topology.now in
    let ports : c.in_ok-ports.ports.items ≡ ports_of c.args.partitions.now plan =
    rw (c.in_ok-ports.ensures, c.nodes.ensures.value, c.deref-3.ensures.value, c.deref-4.ensures.value, c.into_parts-headings.ensures.keys, c.in_ok-members.ensures, c.deref-2.ensures.value, c.in_ok-all.ensures, c.deref.ensures.value, c.in_ok-end_places.ensures.value)
    (ap (in_order plan.nodes (end_ports (end_places plan))) (zip_is_keyed c.args.partitions.now (end_places plan))) in
    let headings : c.into_parts-headings.result.0.items ≡ map heading_of c.args.partitions.now =
    c.into_parts-headings.ensures.headings ∙ rw c.in_ok-members.ensures refl in
    rw (c.new.ensures, ports, headings) refl

pub returns-clause-few : goal.returns-clause-few
returns-clause-few c =
    let plan = c.args.topology.now in
    let few : length (end_places plan) ≤ LARGE_SWITCHES + LARGE_ADAPTER_PORTS = rw c.in_ok-end_places.ensures.value at c.in_ok-end_places.ensures.few in
    subst (λ (k : ConfigurationState). length k.ports ≤ LARGE_SWITCHES + LARGE_ADAPTER_PORTS) (sym (returns-clause-value c))
    (rw (as_many_ports c.args.partitions.now plan) few)

pub returns-clause-headings : goal.returns-clause-headings
returns-clause-headings c =
    let headings : c.into_parts-headings.result.0.items ≡ map heading_of c.args.partitions.now =
    c.into_parts-headings.ensures.headings ∙ rw c.in_ok-members.ensures refl in
    let P : List Heading → Type 0 = AreSoundHeadings in
    subst (λ (k : ConfigurationState). AreSoundHeadings k.partitions) (sym (returns-clause-value c)) (subst P headings c.into_parts-headings.ensures.sound)
