use Rattle.std.proofs.Common.{refl, arith}
use Rattle.std.proofs.lemmas.Result.{err_from_is_err_and}
use Rattle.std.specs.List.{flat_map}
use Rattle.sa_answer.specs.Asked.{paths_reported}
use Rattle.sa_answer.proofs.TakenLemmas.{at_first, done_all, stops_at, taken_one}
use Rattle.sa_answer.proofs.path.walk.Goals as goal

pub loop-other-init : goal.loop-other-init
loop-other-init c = at_first (flat_map (paths_reported c.args.most c.args.mask c.args.asked.now c.args.own.now.port) c.args.others.now) c.args.taken.now

pub returns-in_err-walk_to : goal.returns-in_err-walk_to
returns-in_err-walk_to c =
    let reported = paths_reported c.args.most c.args.mask c.args.asked.now c.args.own.now.port in
    let out = err_from_is_err_and c.from_residual.result c.from_residual.ensures.1 in
    rw out.1
    (stops_at reported c.args.others.now c.loop-other.other-index c.other-item.result (flat_map reported c.args.others.now) c.args.taken.now c.loop-other.taken c.loop-other-test.true c.other-item.is c.loop-other.invariant
    (reported c.other-item.result) refl (rw c.port.ensures at c.in_err-walk_to.ensures))

pub loop-other-preserved : goal.loop-other-preserved
loop-other-preserved c =
    let reported = paths_reported c.args.most c.args.mask c.args.asked.now c.args.own.now.port in
    taken_one reported c.args.others.now c.loop-other.other-index c.other-item.result (flat_map reported c.args.others.now) c.args.taken.now c.loop-other.taken c.loop-other-test.true c.other-item.is c.loop-other.invariant
    (reported c.other-item.result) c.walk_to.new.taken refl (rw c.port.ensures at c.in_ok-walk_to.ensures)

pub returns : goal.returns
returns c =
    let reported = paths_reported c.args.most c.args.mask c.args.asked.now c.args.own.now.port in
    done_all reported c.args.others.now c.loop-other.other-index (flat_map reported c.args.others.now) c.args.taken.now c.loop-other.taken (omega (arith, c.loop-other-test.false)) c.loop-other.invariant
