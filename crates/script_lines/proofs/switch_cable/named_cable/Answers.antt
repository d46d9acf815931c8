use Rattle.script_lines.proofs.CommandLemmas.{named_is_there}
use Rattle.script_lines.proofs.switch_cable.named_cable.Goals as goal

pub returns-clause-there : goal.returns-clause-there
returns-clause-there c = named_is_there c.args.topology.now c.args.one.now c.args.other.now c.cable_named.result c.cable_named.ensures
