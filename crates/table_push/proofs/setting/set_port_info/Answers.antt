use Rattle.std.proofs.Common.{◌∙◌, ap, Ok}
use Rattle.attr_tables.specs.declared.smp_attribute.SmpAttribute.TheVariants.{PortInfo as PortInfoAsked}
use Rattle.table_push.specs.Fault.{all_taken}
use Rattle.table_push.proofs.SettingLemmas.{is_set, no_fault_heard, taken_means}
use Rattle.table_push.proofs.setting.set_port_info.Goals as goal

pub returns-in-Ok-clause-left : goal.returns-in-Ok-clause-left
returns-in-Ok-clause-left g c x stands next good takes gives =
    is_set x next PortInfoAsked c.args.modifier c.args.path.now c.args.wanted.now (Ok c.in-Ok.reported) _ _
    (ap all_taken c.taken_of.ensures ∙ taken_means c.args.wanted.now c.in-Ok.reported) (c.in-Ok.ensures.reported x stands good)
    (c.in-Ok.ensures.left x stands good) (c.in-Ok.ensures.good x good) (c.in-Ok.ensures.shape x good) takes gives

pub returns-in-Err-Refused-clause-left : goal.returns-in-Err-Refused-clause-left
returns-in-Err-Refused-clause-left g c x stands next good takes gives =
    absurd (no_fault_heard x next PortInfoAsked c.args.modifier c.args.path.now c.args.wanted.now _
    (c.in-Err-Refused.ensures.reported x stands good) (c.in-Err-Refused.ensures.shape x good) takes gives)

pub returns-in-Err-clause-left : goal.returns-in-Err-clause-left
returns-in-Err-clause-left g c x stands next good takes gives =
    absurd (no_fault_heard x next PortInfoAsked c.args.modifier c.args.path.now c.args.wanted.now c.in-Err.fault
    (c.in-Err.ensures.reported x stands good) (c.in-Err.ensures.shape x good) takes gives)
