use Rattle.std.proofs.Common.{List, [], ◌∷◌, ◌++◌, ap, append_assoc, map, sym, ◌∙◌}
use Rattle.std.specs.List.{range_with_len}
use Rattle.audit_plan.proofs.RangeLemmas.{map_range_more}
use Rattle.audit_lanes.specs.declared.lane.Lane.{Lane}
use Rattle.audit_lanes.specs.Lanes.{lane}
use Rattle.audit_lanes.proofs.lane.push_lanes.Goals as goal

pub loop-vl-preserved : goal.loop-vl-preserved
loop-vl-preserved c =
    let at = c.args.at in
    let before = c.args.lanes.now.items in
    rw (c.in_ok-push.ensures.items, c.loop-vl.invariant)
    (append_assoc before (map (lane at) (range_with_len 0 c.loop-vl.vl)) (lane at c.loop-vl.vl ∷ [])
    ∙ ap (λ (more : List Lane). before ++ more) (sym (map_range_more (lane at) c.loop-vl.vl)))
