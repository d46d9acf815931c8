-- Cycles of lanes that wait for one another.
use Rattle.std.specs.Prelude.{ℕ, Bool, List, map, filter, get_or, Option, option_map}
use Rattle.std.specs.List.{enumerate_from}
use Rattle.fabric_parts.specs.Cable.{port}
use Rattle.audit_loops.specs.Cycle.{cycle}
use Rattle.audit_net.specs.Net.{NetState}
use Rattle.audit_net.specs.declared.lids.Aim.{Aim}
use Rattle.audit_lanes.specs.declared.hop.Hop.{Hop}
use Rattle.audit_lanes.specs.declared.lane.Lane.{Lane}
use Rattle.audit_lanes.specs.Lanes.{lane, lanes, waits}

-- by their places in a list: of each lane the places of those that it waits for
abbrev pub nexts : (Lane → Lane → Bool) → List Lane → Lane → List ℕ
nexts waits all a = map (λ p. p.0) (filter (λ p. waits a p.1) (enumerate_from 0 all))

abbrev pub graph_of : (Lane → Lane → Bool) → List Lane → List (List ℕ)
graph_of waits all = map (nexts waits all) all

abbrev pub lane_at : List Lane → ℕ → Lane
lane_at all place = get_or all place (lane (port 0 0) 0)

-- the cycle through the least lane that is on one
abbrev pub deadlock_among : (Lane → Lane → Bool) → List Lane → Option (List Lane)
deadlock_among waits all = option_map (map (lane_at all)) (cycle (graph_of waits all))

abbrev pub lane_deadlock : NetState → List Aim → List (List Hop) → Option (List Lane)
lane_deadlock net aims traces = deadlock_among (waits net aims traces) (lanes net)
