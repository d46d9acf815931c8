use Rattle.std.proofs.Common.{rules}
use Rattle.sa_store.specs.Kept.{ports_of}
use Rattle.sa_store.proofs.LeaveLemmas.{can_be_left}
use Rattle.sa_store.proofs.leaving.leave_partition.Goals as goal

pub leave-requires-clause-settled : goal.leave-requires-clause-settled
leave-requires-clause-settled c = (can_be_left (ports_of c.args.kept.now) c.args.partition.now c.requires.sound).settled

pub returns-clause-next : goal.returns-clause-next
returns-clause-next c =
    c.leave.ensures.next (ports_of c.args.kept.now) (λ guid reported fits post. search rules)
    (can_be_left (ports_of c.args.kept.now) c.args.partition.now c.requires.sound).kept

pub returns-clause-changed : goal.returns-clause-changed
returns-clause-changed c =
    c.leave.ensures.changed (ports_of c.args.kept.now) (λ guid reported fits post. search rules) (λ guid reported fits post. search rules)
    c.requires.lids c.requires.own
