-- The channels of a fabric, and which depend on which. A channel is a port of a switch that is cabled to a switch; it has to
-- wait for another if some LID is forwarded out of it and, by the switch behind it, out of the other.
use Rattle.std.specs.Prelude.{ℕ, ◌==◌, ◌&&◌, Bool, false, List, map, filter, flat_map, get_or, Option, option_map}
use Rattle.std.specs.List.{enumerate_from, list_any}
use Rattle.std.specs.Option.{option_map_or}
use Rattle.fabric_parts.specs.Cable.{far_end, port}
use Rattle.fabric_parts.specs.declared.cable.PortRef.{PortRef}
use Rattle.topo_file.specs.Connectivity.{switches}
use Rattle.topo_file.specs.Node.{is_switch_at}
use Rattle.audit_net.specs.declared.entry.Entry.{Entry}
use Rattle.audit_net.specs.declared.entry.Entry.TheVariants.{Out, Missing, Unreported}
use Rattle.audit_plan.specs.Attached.{ports_of}
use Rattle.audit_loops.specs.Courses.{CourseState, counts, everywhere}
use Rattle.audit_loops.specs.Cycle.{cycle}
use Rattle.audit_net.specs.Net.{NetState, entry}

abbrev pub is_channel : NetState → PortRef → Bool
is_channel net at = option_map_or (λ there. is_switch_at net.plan.nodes there.node) (far_end net.plan.cables at) false

-- in the order of switches, and then of ports
abbrev pub channels_of : NetState → ℕ → List PortRef
channels_of net place = filter (is_channel net) (ports_of net.plan place)

abbrev pub channels : NetState → List PortRef
channels net = flat_map (channels_of net) (switches net.plan.nodes)

-- ---- the switch forwards the LID out of this port
abbrev pub is_out : ℕ → Entry → Bool
is_out number (Out other) = other == number
is_out number Missing = false
is_out number Unreported = false

abbrev pub leaves_by : NetState → PortRef → ℕ → Bool
leaves_by net at lid = is_out at.port (entry net lid at.node)

-- the cable of the port leads to this node
abbrev pub leads_to : NetState → PortRef → ℕ → Bool
leads_to net at place = option_map_or (λ there. there.node == place) (far_end net.plan.cables at) false

-- along these LIDs, each of which counts at all switches
abbrev pub depends : NetState → List ℕ → PortRef → PortRef → Bool
depends net lids a b = leads_to net a b.node && list_any (λ lid. leaves_by net a lid && leaves_by net b lid) lids

-- along these, each of which counts at some switches
abbrev pub takes_both : NetState → PortRef → PortRef → CourseState → Bool
takes_both net a b course = counts course a.node && (leaves_by net a course.lid && leaves_by net b course.lid)

abbrev pub depends_on : NetState → List CourseState → PortRef → PortRef → Bool
depends_on net courses a b = leads_to net a b.node && list_any (takes_both net a b) courses

-- ---- the same by numbers: of each channel the places of those that it depends on
abbrev pub nexts : NetState → List CourseState → PortRef → List ℕ
nexts net courses a = map (λ p. p.0) (filter (λ p. depends_on net courses a p.1) (enumerate_from 0 (channels net)))

abbrev pub dependencies : NetState → List CourseState → List (List ℕ)
dependencies net courses = map (nexts net courses) (channels net)

abbrev pub channel_at : NetState → ℕ → PortRef
channel_at net place = get_or (channels net) place (port 0 0)

-- the cycle through the least channel that is on one
abbrev pub deadlock_on : NetState → List CourseState → Option (List PortRef)
deadlock_on net courses = option_map (map (channel_at net)) (cycle (dependencies net courses))

-- that along LIDs which count at all switches
abbrev pub deadlock : NetState → List ℕ → Option (List PortRef)
deadlock net lids = deadlock_on net (map everywhere lids)
