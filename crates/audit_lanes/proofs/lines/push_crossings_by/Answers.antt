use Rattle.std.proofs.Common.{List, [], ◌∷◌, ◌++◌, ap, append_assoc, map, sym, ◌∙◌}
use Rattle.std.specs.List.{range_with_len}
use Rattle.audit_plan.proofs.RangeLemmas.{map_range_more}
use Rattle.audit_lanes.specs.declared.hop.Crossing.{Crossing}
use Rattle.audit_lanes.specs.Lines.{crossing_before}
use Rattle.audit_lanes.proofs.lines.push_crossings_by.Goals as goal

pub loop-before-preserved : goal.loop-before-preserved
loop-before-preserved c =
    let of = crossing_before c.args.place c.args.input in
    let before = c.args.crossings.now.items in
    let n = c.loop-before.before in
    rw (c.in_ok-push.ensures.items, c.loop-before.invariant)
    (append_assoc before (map of (range_with_len 0 n)) (of n ∷ []) ∙ ap (λ (more : List Crossing). before ++ more) (sym (map_range_more of n)))
