use Rattle.table_push.proofs.LawLemmas.{every_switch_has_its_table}
use Rattle.table_push.proofs.laws.every_switch_has_its_table.Goals as goal

pub returns : goal.returns
returns c = every_switch_has_its_table
