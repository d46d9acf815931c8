use Rattle.std.proofs.Common.{arith}
use Rattle.agent_rules.proofs.PortSettingLemmas.{shown_fits}
use Rattle.agent_rules.proofs.local_port.with_local_port.Goals as goal

pub returns-clause-fits : goal.returns-clause-fits
returns-clause-fits c = shown_fits c.args.port c.args.info.now c.requires (omega arith)
