use Rattle.std.proofs.Common.{◌≡◌, flat_map, take}
use Rattle.audit_loads.specs.Counts.{counts_of}
use Rattle.audit_loads.specs.Sources.{pairs_to}
use Rattle.audit_loads.specs.Talk.{may_talk}
use Rattle.audit_loads.specs.Walk.{HasSums}
use Rattle.audit_loads.proofs.loads.add_all.Given as goal

abbrev pub invariant-loop-aim : goal.invariant-loop-aim
invariant-loop-aim l = record {
  sums : HasSums l.net (flat_map (pairs_to l.net (may_talk l.talk)) (take l.aim-index l.aims)) l.sums;
  counted : l.counts ≡ counts_of l.net (flat_map (pairs_to l.net (may_talk l.talk)) (take l.aim-index l.aims));
}
