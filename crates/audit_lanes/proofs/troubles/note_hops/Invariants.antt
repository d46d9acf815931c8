use Rattle.std.proofs.Common.{◌≡◌, ◌||◌, take}
use Rattle.std.specs.List.{list_any}
use Rattle.indexmap.specs.IndexSet.{contains}
use Rattle.audit_lanes.specs.declared.hop.Crossing.{Crossing}
use Rattle.audit_lanes.specs.declared.hop.DroppedAt.{DroppedAt}
use Rattle.audit_lanes.specs.Hops.{is_dropped_at, lacks_row_at}
use Rattle.audit_lanes.specs.Keys.{drops_at, is_same_dropped}
use Rattle.audit_lanes.specs.Tables.{is_same_crossing}
use Rattle.audit_lanes.proofs.troubles.note_hops.Given as goal

abbrev pub invariant-loop-hop : goal.invariant-loop-hop
invariant-loop-hop l =
    ((here : Crossing) → contains is_same_crossing l.noted.lacking here ≡ (contains is_same_crossing l.fn.noted.lacking here || list_any (lacks_row_at here) (take l.hop-index l.hops)))
    × (((here : Crossing) → contains is_same_crossing l.noted.dropped here ≡ (contains is_same_crossing l.fn.noted.dropped here || list_any (is_dropped_at here) (take l.hop-index l.hops)))
    × ((one : DroppedAt) → contains is_same_dropped l.noted.dropped_sls one ≡ (contains is_same_dropped l.fn.noted.dropped_sls one || list_any (drops_at one) (take l.hop-index l.hops))))
