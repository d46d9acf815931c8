use Rattle.audit_net.proofs.MarkLemmas.{marked_more}
use Rattle.audit_multicast.proofs.copies.meet.Goals as goal

pub returns-clause-marked : goal.returns-clause-marked
returns-clause-marked c other = marked_more c.args.met.now c.args.place other c.requires
