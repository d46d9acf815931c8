-- The pairs that load cables: a host's port that is attached to a switch, which sends, and a LID of another host's port.
use Rattle.std.specs.Prelude.{ℕ, ◌+◌, ◌&&◌, Bool, not, List, [], ◌∷◌, flat_map, map, if◌then◌else◌, Option, Some, None}
use Rattle.std.specs.List.{range_with_len}
use Rattle.std.specs.Option.{option_map_or}
use Rattle.fabric_parts.specs.Cable.{far_end, is_same_port, port}
use Rattle.fabric_parts.specs.declared.cable.PortRef.{PortRef}
use Rattle.topo_file.specs.Connectivity.{switches}
use Rattle.topo_file.specs.Node.{ports_at}
use Rattle.audit_net.specs.declared.lids.Aim.{Aim}
use Rattle.audit_net.specs.Net.{NetState}
use Rattle.audit_plan.specs.Plan.{is_host}

-- ---- the hosts' ports that are attached to the switch there, in the order of its ports
abbrev pub if_host : NetState → PortRef → List PortRef
if_host net there = if is_host net.plan there.node then there ∷ [] else []

abbrev pub host_at : NetState → PortRef → List PortRef
host_at net at = option_map_or (if_host net) (far_end net.plan.cables at) []

-- at the port behind this number
abbrev pub host_behind : NetState → (place before : ℕ) → List PortRef
host_behind net place before = host_at net (port place (before + 1))

-- where packets enter the fabric: a switch, and the ports that are attached to it
pub record Entrance : Type 0 where
  pub place : ℕ
  pub ports : List PortRef

abbrev pub attached : NetState → ℕ → List PortRef
attached net place = flat_map (host_behind net place) (range_with_len 0 (ports_at net.plan.nodes place))

abbrev pub entrance : NetState → ℕ → Entrance
entrance net place = record { place = place; ports = attached net place }

abbrev pub entrances : NetState → List Entrance
entrances net = map (entrance net) (switches net.plan.nodes)

-- ---- a pair: the port that sends, the switch to which it is attached, and the LID, which this end port has
pub record Pair : Type 0 where
  pub source : PortRef
  pub place : ℕ
  pub lid : ℕ
  pub end : PortRef

-- one port sends to another, and not to itself, if `talk` has it of the two
abbrev pub sends : (talk : PortRef → PortRef → Bool) → (source end : PortRef) → Bool
sends talk source end = not (is_same_port source end) && talk source end

abbrev pub pair_from : (talk : PortRef → PortRef → Bool) → (lid : ℕ) → (end : PortRef) → (place : ℕ) → (source : PortRef) → List Pair
pair_from talk lid end place source = if sends talk source end then record { source = source; place = place; lid = lid; end = end } ∷ [] else []

abbrev pub pairs_in : (talk : PortRef → PortRef → Bool) → (lid : ℕ) → (end : PortRef) → Entrance → List Pair
pairs_in talk lid end one = flat_map (pair_from talk lid end one.place) one.ports

-- to the LID of a host's port, from all switches
abbrev pub pairs_to_end : NetState → (talk : PortRef → PortRef → Bool) → (lid : ℕ) → Option PortRef → List Pair
pairs_to_end net talk lid (Some end) = if is_host net.plan end.node then flat_map (pairs_in talk lid end) (entrances net) else []
pairs_to_end net talk lid None = []

abbrev pub pairs_to : NetState → (talk : PortRef → PortRef → Bool) → Aim → List Pair
pairs_to net talk aim = pairs_to_end net talk aim.lid aim.end

-- to all these LIDs
abbrev pub pairs_by : NetState → (talk : PortRef → PortRef → Bool) → List Aim → List Pair
pairs_by net talk all = flat_map (pairs_to net talk) all
