use Rattle.audit_loads.proofs.WrongTextLemmas.{all_channels_are_printed}
use Rattle.audit_loads.proofs.wrong_rules.all_channels_are_printed.Goals as goal

pub returns : goal.returns
returns c = all_channels_are_printed
