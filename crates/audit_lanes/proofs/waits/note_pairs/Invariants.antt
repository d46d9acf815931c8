use Rattle.std.proofs.Common.{◌≡◌, ◌||◌, take}
use Rattle.std.specs.List.{list_any}
use Rattle.indexmap.specs.IndexSet.{contains}
use Rattle.audit_lanes.specs.declared.lane.LanePair.{LanePair}
use Rattle.audit_lanes.specs.Lanes.{is_same_pair}
use Rattle.audit_lanes.proofs.waits.note_pairs.Given as goal

abbrev pub invariant-loop-pair : goal.invariant-loop-pair
invariant-loop-pair l = (pair : LanePair) → contains is_same_pair l.known pair ≡ (contains is_same_pair l.fn.known pair || list_any (is_same_pair pair) (take l.pair-index l.pairs))
