use Rattle.std.proofs.Common.{sym, subst}
use Rattle.mad_layout.specs.Layout.{Fits}
use Rattle.attr_tables.specs.declared.port_info.PortInfo.{PortInfo}
use Rattle.attr_tables.specs.PortInfo.{port_info}
use Rattle.agent_rules.proofs.PortSettingLemmas.{taken_fits}
use Rattle.agent_rules.proofs.port_setting.port_info_after.Goals as goal

pub returns-then-is_valid-clause-fits : goal.returns-then-is_valid-clause-fits
returns-then-is_valid-clause-fits c =
    let P : PortInfo → Type 0 = λ next. Fits (port_info next) in
    subst P (sym c.taken_over.ensures) (taken_fits c.args.enforces c.args.info.now c.args.setting.now c.requires.info c.requires.setting)
