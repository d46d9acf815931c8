use Rattle.audit_loads.proofs.LineLemmas.{each_channel_has_one_line}
use Rattle.audit_loads.proofs.laws.each_channel_has_one_line.Goals as goal

pub returns : goal.returns
returns c = each_channel_has_one_line
