use Rattle.std.proofs.Common.{drop}
use Rattle.std.specs.List.{flat_map}
use Rattle.sa_answer.specs.Groups.{groups_reported}
use Rattle.sa_answer.proofs.TakenLemmas.{LeadsTo}
use Rattle.sa_answer.proofs.mc_member.walk.Given as goal

abbrev pub invariant-loop-partition : goal.invariant-loop-partition
invariant-loop-partition l =
    LeadsTo (flat_map (groups_reported l.own l.mask l.asked) l.partitions) l.initial.taken
    (flat_map (groups_reported l.own l.mask l.asked) (drop l.partition-index l.partitions)) l.taken
