use Rattle.std.proofs.Common.{◌∙◌}
use Rattle.std.proofs.lemmas.List.{take_all}
use Rattle.topo_file.proofs.RoundLemmas.{kept_long, kept_marks, round_more, round_over}
use Rattle.topo_file.proofs.connectivity.spread.Goals as goal

pub loop-cable-init : goal.loop-cable-init
loop-cable-init c = record {
  long = rw c.in_ok-next.ensures (kept_long c.args.nodes.now c.args.marks.now);
  marks = λ place. rw c.in_ok-next.ensures (kept_marks c.args.nodes.now c.args.marks.now place);
}

pub loop-cable-preserved : goal.loop-cable-preserved
loop-cable-preserved c =
    let middle = c.mark_along.ensures.length ∙ c.loop-cable.invariant.long in
    record {
      long = c.mark_along-in-loop-cable.ensures.length ∙ middle;
      marks = round_more c.args.nodes.now c.args.cables.now c.loop-cable.cable-index _ c.args.marks.now c.loop-cable.next.items c.mark_along.new.next.items
          c.mark_along-in-loop-cable.new.next.items c.loop-cable-test.true c.loop-cable.invariant.long middle c.loop-cable.invariant.marks
          c.mark_along.ensures.marks c.mark_along-in-loop-cable.ensures.marks;
    }

pub returns : goal.returns
returns c =
    let cables = c.args.cables.now in
    let over = rw (take_all c.loop-cable.cable-index cables c.loop-cable-test.false) at c.loop-cable.invariant.marks in
    round_over c.args.nodes.now cables c.args.marks.now c.loop-cable.next.items c.loop-cable.invariant.long over
