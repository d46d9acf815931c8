use Rattle.std.proofs.Common.{◌∙◌, ap, subst, List}
use Rattle.std.proofs.lemmas.List.{take_all}
use Rattle.partition_file.specs.declared.heading.Heading.{Heading}
use Rattle.subnet_model.specs.declared.subnet_port.SubnetPort.{SubnetPort}
use Rattle.table_push.specs.MaskSteps.{ArePortMasks}
use Rattle.cable_cuts.proofs.MaskHeldLemmas.{one_more}
use Rattle.cable_cuts.specs.Masks.{AreMasksOfAll, member_lids}
use Rattle.cable_cuts.proofs.masks.masks_of_all.Goals as goal

pub loop-heading-preserved : goal.loop-heading-preserved
loop-heading-preserved c =
    let ports = c.args.configuration.now.ports in
    let heading = c.heading-item.result in
    let masks = subst (λ (lids : List _). ArePortMasks c.args.routes.now lids c.port_masks.result)
    (c.deref.ensures.value ∙ c.in_ok-lids.ensures ∙ ap (λ (ports : List SubnetPort). member_lids heading.base ports) c.ports.ensures) c.port_masks.ensures in
    one_more ports c.args.routes.now c.partitions-heading-items.result.now c.loop-heading.heading-index heading c.loop-heading.all.items _
    c.port_masks.result c.loop-heading-test.true c.loop-heading.invariant
    (subst (λ (one : Heading). ArePortMasks c.args.routes.now (member_lids one.base ports) c.port_masks.result) c.heading-item.is masks)
    c.in_ok-push.ensures.items

pub returns : goal.returns
returns c =
    subst (λ (partitions : List Heading). AreMasksOfAll c.args.configuration.now.ports c.args.routes.now partitions c.loop-heading.all.items)
    (take_all c.loop-heading.heading-index c.partitions-heading-items.result.now c.loop-heading-test.false ∙ c.partitions-heading-items.ensures) c.loop-heading.invariant
