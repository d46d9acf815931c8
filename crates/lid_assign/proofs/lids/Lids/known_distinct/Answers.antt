use Rattle.lid_assign.proofs.LidLemmas.{own_all}
use Rattle.lid_assign.proofs.lids.Lids.known_distinct.Goals as goal

pub returns-clause-own : goal.returns-clause-own
returns-clause-own c = rw (← c.self.view_is) (own_all c.self.inside.manager c.self.inside.others.items c.self.invariant)
