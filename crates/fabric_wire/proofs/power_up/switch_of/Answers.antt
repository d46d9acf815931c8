use Rattle.std.proofs.Common.{ap, ◌∙◌}
use Rattle.smp_wire.specs.declared.node.Node.TheVariants.{Switch}
use Rattle.switch_model.specs.SwitchState.{SwitchState}
use Rattle.fabric_wire.proofs.power_up.switch_of.Goals as goal

pub returns : goal.returns
returns c =
    let made = c.new-switch.ensures in
    let links = c.deref.ensures.value ∙ c.in_ok-links.ensures in
    ap (λ (held : SwitchState). Switch held) (c.in_ok-new.ensures ∙ rw (c.as_bytes.ensures.value, links) at made)
