use Rattle.table_push.proofs.SetUpLemmas.{ports_are_served, switches_are_set_up}
use Rattle.table_push.proofs.laws.brought_up_is_as_routed.Goals as goal

pub returns-clause-ports : goal.returns-clause-ports
returns-clause-ports c = ports_are_served

pub returns-clause-switches : goal.returns-clause-switches
returns-clause-switches c = switches_are_set_up
