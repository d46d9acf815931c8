use Rattle.std.proofs.Common.{refl, arith}
use Rattle.std.proofs.lemmas.Result.{err_from_is_err_and}
use Rattle.std.specs.List.{flat_map}
use Rattle.sa_answer.specs.Groups.{groups_reported}
use Rattle.sa_answer.proofs.TakenLemmas.{at_first, done_all, stops_at, taken_one}
use Rattle.sa_answer.proofs.mc_member.walk.Goals as goal

pub loop-partition-init : goal.loop-partition-init
loop-partition-init c = at_first (flat_map (groups_reported c.args.own.now c.args.mask c.args.asked.now) c.args.partitions.now) c.args.taken.now

pub returns-in_err-walk_partition : goal.returns-in_err-walk_partition
returns-in_err-walk_partition c =
    let reported = groups_reported c.args.own.now c.args.mask c.args.asked.now in
    let out = err_from_is_err_and c.from_residual.result c.from_residual.ensures.1 in
    rw out.1
    (stops_at reported c.args.partitions.now c.loop-partition.partition-index c.partition-item.result (flat_map reported c.args.partitions.now) c.args.taken.now c.loop-partition.taken c.loop-partition-test.true c.partition-item.is c.loop-partition.invariant
    (reported c.partition-item.result) refl c.in_err-walk_partition.ensures)

pub loop-partition-preserved : goal.loop-partition-preserved
loop-partition-preserved c =
    let reported = groups_reported c.args.own.now c.args.mask c.args.asked.now in
    taken_one reported c.args.partitions.now c.loop-partition.partition-index c.partition-item.result (flat_map reported c.args.partitions.now) c.args.taken.now c.loop-partition.taken c.loop-partition-test.true c.partition-item.is c.loop-partition.invariant
    (reported c.partition-item.result) c.walk_partition.new.taken refl c.in_ok-walk_partition.ensures

pub returns : goal.returns
returns c =
    let reported = groups_reported c.args.own.now c.args.mask c.args.asked.now in
    done_all reported c.args.partitions.now c.loop-partition.partition-index (flat_map reported c.args.partitions.now) c.args.taken.now c.loop-partition.taken (omega (arith, c.loop-partition-test.false)) c.loop-partition.invariant
