use Rattle.pkey_rules.proofs.key_table.KeyTable.find.Goals as goal
use Rattle.pkey_rules.proofs.KeyTableLemmas.{find_is_some, find_is_same}

pub returns-clause-found : goal.returns-clause-found
returns-clause-found g c = rw c.find_bits.ensures (find_is_some c.args.bits c.args.self.now)

pub returns-clause-key : goal.returns-clause-key
returns-clause-key g c = rw c.find_bits.ensures (find_is_same c.args.bits c.args.self.now)
