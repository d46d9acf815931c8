use Rattle.std.proofs.Common.{◌≡◌, ℕ, ◌+◌, ◌-◌, ◌≤◌, map, ap, sym, ◌∙◌, arith}
use Rattle.std.specs.List.{range_with_len}
use Rattle.std.proofs.lemmas.List.FromFn.{map-range_with_len_more}
use Rattle.rmpp_core.specs.Segments.{segment_mad}
use Rattle.sa_answer.proofs.transfers.segments_between.Goals as goal

pub loop-number-preserved : goal.loop-number-preserved
loop-number-preserved c =
    let f = segment_mad c.args.sender.now in
    let first = c.args.acked.now.first in
    let n = c.loop-number.number in
    let low : first ≤ n = omega (arith, c.from-number.ensures, c.loop-number.auto.number) in
    let more : n + 1 - first ≡ n - first + 1 = omega arith in
    let at : first + (n - first) ≡ n = omega arith in
    rw (c.in_ok-push.ensures.items, c.loop-number.invariant, c.segment.ensures.bytes, more) (sym (map-range_with_len_more f first (n - first) n at))

pub returns : goal.returns
returns c =
    let f = segment_mad c.args.sender.now in
    let first = c.args.acked.now.first in
    let count : c.loop-number.number - first ≡ c.args.acked.now.last + 1 - first = omega (arith, c.from-number.ensures, c.from-number-end.ensures, c.loop-number.auto.number, c.loop-number.auto.number-end, c.loop-number-test.false, c.requires.span) in
    c.loop-number.invariant ∙ ap (λ (k : ℕ). map f (range_with_len first k)) count
