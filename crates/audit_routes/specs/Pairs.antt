-- What packets come to from each switch to each LID that is an end port's.
use Rattle.std.specs.Prelude.{ℕ, ◌&&◌, Bool, true, false, not, List, [], ◌∷◌, filter, flat_map, count_by, Option, Some, None}
use Rattle.std.specs.List.{list_all}
use Rattle.topo_file.specs.Connectivity.{switches}
use Rattle.topo_file.specs.Node.{is_switch_at}
use Rattle.fabric_parts.specs.declared.cable.PortRef.{PortRef}
use Rattle.audit_net.specs.declared.following.Fate.{Fate}
use Rattle.audit_net.specs.declared.following.Fate.TheVariants as fates
use Rattle.audit_net.specs.declared.lids.Aim.{Aim}
use Rattle.audit_routes.specs.declared.pairs.Pair.{Pair}
use Rattle.audit_plan.specs.Attached.{carries_host}
use Rattle.audit_net.specs.Following.{fate}
use Rattle.audit_net.specs.Lids.{aims}
use Rattle.audit_net.specs.Net.{NetState}
use Rattle.audit_plan.specs.Plan.{is_host}

-- ---- whether both are the same
abbrev pub is_fate : Fate → Fate → Bool
is_fate fates.Reached fates.Reached = true
is_fate fates.Hole fates.Hole = true
is_fate fates.Nowhere fates.Nowhere = true
is_fate fates.Wrong fates.Wrong = true
is_fate fates.Loop fates.Loop = true
is_fate fates.Unknown fates.Unknown = true
is_fate _ _ = false

-- ---- a switch and a LID; of LIDs whose end port the fabric lacks there is none
abbrev pub pair_to : NetState → ℕ → ℕ → Option PortRef → List Pair
pair_to net place lid (Some end) = record {
  from_hosts = carries_host net.plan place;
  to_host = is_host net.plan end.node;
  to_switch = is_switch_at net.plan.nodes end.node;
  fate = fate net lid end place;
} ∷ []
pair_to net place lid None = []

abbrev pub pair_at : NetState → ℕ → Aim → List Pair
pair_at net place aim = pair_to net place aim.lid aim.end

abbrev pub pairs_at : NetState → List Aim → ℕ → List Pair
pairs_at net all place = flat_map (pair_at net place) all

abbrev pub pairs_by : NetState → List Aim → List Pair
pairs_by net all = flat_map (pairs_at net all) (switches net.plan.nodes)

abbrev pub pairs : NetState → List Pair
pairs net = pairs_by net (aims net)

-- those from switches to which a host is attached to LIDs of hosts' ports: packets between hosts go so
abbrev pub is_between_hosts : Pair → Bool
is_between_hosts pair = pair.to_host && pair.from_hosts

abbrev pub between_hosts : List Pair → List Pair
between_hosts all = filter is_between_hosts all

-- those from the other switches to LIDs of hosts' ports
abbrev pub in_transit : List Pair → List Pair
in_transit all = filter (λ pair. pair.to_host && not pair.from_hosts) all

-- those to LIDs of aggregation nodes
abbrev pub to_aggregation : List Pair → List Pair
to_aggregation all = filter (λ pair. not pair.to_host && not pair.to_switch) all

-- and those to LIDs of switches
abbrev pub to_switches : List Pair → List Pair
to_switches all = filter (λ pair. pair.to_switch) all

abbrev pub count_of : Fate → List Pair → ℕ
count_of fate all = count_by (λ pair. is_fate fate pair.fate) all

abbrev pub all_reached : List Pair → Bool
all_reached all = list_all (λ pair. is_fate fates.Reached pair.fate) all
