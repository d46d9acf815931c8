use Rattle.std.proofs.Common.{◌≡◌, flat_map, length, take}
use Rattle.audit_loads.specs.Counts.{counts_of}
use Rattle.audit_loads.specs.Sources.{pairs_in}
use Rattle.audit_loads.specs.Talk.{may_talk}
use Rattle.audit_loads.specs.Walk.{of_pairs, AreBelow, GrowBy}
use Rattle.audit_loads.proofs.loads.add_from_all.Given as goal

abbrev pub invariant-loop-index : goal.invariant-loop-index
invariant-loop-index l = record {
  grown : GrowBy (of_pairs l.net (flat_map (pairs_in (may_talk l.talk) l.to.target.lid l.to.target.end) (take l.index l.all))) l.fn.sums l.sums;
  counted : l.counts ≡ counts_of l.net (flat_map (pairs_in (may_talk l.talk) l.to.target.lid l.to.target.end) (take l.index l.all));
  long : length l.marks.items ≡ length l.net.plan.nodes;
  below : AreBelow l.index l.marks.items;
}
