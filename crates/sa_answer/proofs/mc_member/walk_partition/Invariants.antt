use Rattle.std.proofs.Common.{◌+◌, drop, map}
use Rattle.sa_model.specs.Groups.{first_mlid}
use Rattle.sa_answer.specs.Groups.{group_bytes, groups_agreeing, groups_reported}
use Rattle.sa_answer.proofs.TakenLemmas.{LeadsTo}
use Rattle.sa_answer.proofs.mc_member.walk_partition.Given as goal

abbrev pub invariant-loop-place : goal.invariant-loop-place
invariant-loop-place l =
    LeadsTo (groups_reported l.own l.mask l.asked l.partition) l.initial.taken
    (map group_bytes (groups_agreeing l.mask l.asked l.partition.base (first_mlid l.partition.number + l.place) (drop l.place l.slots))) l.taken
