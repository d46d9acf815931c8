use Rattle.std.proofs.Common.{◌+◌, ◌≡◌, ◌∙◌, sym, arith}
use Rattle.std.proofs.lemmas.List.FromFn.{map-range_with_len_more}
use Rattle.sa_replies.specs.Asking.{ack_mad}
use Rattle.subnet_core.proofs.acknowledging.acks_of.Goals as goal

pub loop-done-preserved : goal.loop-done-preserved
loop-done-preserved c =
    let next : 1 + c.loop-done.done ≡ c.loop-done.done + 1 = omega arith in
    let more = map-range_with_len_more (ack_mad c.args.segment.now c.args.count) 1 c.loop-done.done (c.loop-done.done + 1) next in
    rw (c.loop-done.invariant, c.ack_mad.ensures) at c.in_ok-push.ensures.items ∙ sym more
