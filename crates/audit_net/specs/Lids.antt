-- The LIDs that a dump names or a discovery reports, and the end ports of the fabric that have them.
use Rattle.std.specs.Prelude.{ℕ, ◌==◌, ◌&&◌, ◌||◌, Bool, true, false, not, List, [], ◌∷◌, map, flat_map, filter, find, if◌then◌else◌, Option, Some, None, is_none, is_some, option_map}
use Rattle.std.specs.List.{list_all, list_any, range_with_len}
use Rattle.std.specs.Option.{option_and_then, option_map_or, option_or}
use Rattle.dump_file.specs.declared.destination.Destination.{Destination}
use Rattle.dump_file.specs.declared.destination.Destination.TheVariants.{ChannelAdapter, Switch, Router, FurtherLid, Nobody, NotReported}
use Rattle.dump_file.specs.declared.row.Row.{Row}
use Rattle.dump_file.specs.Row.{end_of}
use Rattle.dump_file.specs.Sound.{is_end}
use Rattle.dump_file.specs.Table.{rows_of}
use Rattle.fabric_parts.specs.Cable.{is_same_port}
use Rattle.fabric_parts.specs.declared.cable.Cable.{Cable}
use Rattle.fabric_parts.specs.declared.cable.PortRef.{PortRef}
use Rattle.topo_file.specs.Connectivity.{switches}
use Rattle.topo_file.specs.Node.{is_switch_at}
use Rattle.audit_plan.specs.declared.ends.LidGuid.{LidGuid}
use Rattle.audit_net.specs.declared.lids.Aim.{Aim}
use Rattle.audit_net.specs.Net.{NetState, row_at}
use Rattle.audit_plan.specs.Plan.{port_of}

-- ---- a row of some table is of this LID
abbrev pub is_named : List Row → ℕ → Bool
is_named rows lid = list_any (λ row. row.lid == lid) rows

unfoldable pub all_lids : List ℕ
all_lids = range_with_len 0 65536

-- ---- a LID that the discovery reports
-- a row gives some LID to the end port of this GUID
abbrev pub gives_lid : List Row → ℕ → ℕ → Bool
gives_lid rows guid lid = is_end guid (end_of lid rows)

abbrev pub has_row : List Row → ℕ → Bool
has_row rows guid = list_any (gives_lid rows guid) all_lids

-- of an end port to which no row gives one it counts; the first that reports the LID has it
abbrev pub counts_for : List Row → ℕ → LidGuid → Bool
counts_for rows lid reported = (reported.lid == lid) && not (has_row rows reported.guid)

abbrev pub reported_by : List Row → List LidGuid → ℕ → Option ℕ
reported_by rows lids lid = option_map (λ reported. reported.guid) (find (counts_for rows lid) lids)

abbrev pub reported_end : NetState → ℕ → Option ℕ
reported_end net lid = reported_by (rows_of net.dump.tables) net.plan.lids lid

-- ---- all that are named or reported, and the GUID of the end port of each: the rows' word comes first
abbrev pub is_known_lid : NetState → ℕ → Bool
is_known_lid net lid = is_named (rows_of net.dump.tables) lid || is_some (reported_end net lid)

abbrev pub known_lids : NetState → List ℕ
known_lids net = filter (is_known_lid net) all_lids

abbrev pub owner_of : NetState → ℕ → Option ℕ
owner_of net lid = option_or (end_of lid (rows_of net.dump.tables)) (reported_end net lid)

-- ---- whose a row says that its LID is
-- an end port, a switch's or not, is of the kind that is said, if one is
abbrev pub is_of_kind : Bool → Destination → Bool
is_of_kind of_switch (ChannelAdapter guid) = not of_switch
is_of_kind of_switch (Switch guid) = of_switch
is_of_kind of_switch (Router guid) = not of_switch
is_of_kind of_switch (FurtherLid guid) = true
is_of_kind of_switch Nobody = true
is_of_kind of_switch NotReported = true

-- a channel adapter's, or a switch's
abbrev pub is_of_fabric : Destination → Bool
is_of_fabric (ChannelAdapter guid) = true
is_of_fabric (Switch guid) = true
is_of_fabric (Router guid) = false
is_of_fabric (FurtherLid guid) = false
is_of_fabric Nobody = false
is_of_fabric NotReported = false

-- the row of the switch there, if it has one, says nothing else of the LID
abbrev pub says_kind : NetState → ℕ → Bool → ℕ → Bool
says_kind net lid of_switch place = option_map_or (λ row. is_of_kind of_switch row.destination) (row_at net lid place) true

abbrev pub says_of_fabric : NetState → ℕ → ℕ → Bool
says_of_fabric net lid place = option_map_or (λ row. is_of_fabric row.destination) (row_at net lid place) false

-- ---- what is known of each LID, as LIDs rise
-- this port, if it is of the kind that each switch's row says
abbrev pub if_of_kind : NetState → ℕ → PortRef → Option PortRef
if_of_kind net lid end =
    if list_all (says_kind net lid (is_switch_at net.plan.nodes end.node)) (switches net.plan.nodes) then Some end else None

abbrev pub end_by : NetState → ℕ → Option ℕ → Option PortRef
end_by net lid guid = option_and_then (if_of_kind net lid) (option_and_then (port_of net.plan.ends) guid)

abbrev pub aim_of : NetState → ℕ → Aim
aim_of net lid = record {
  lid = lid;
  guid = owner_of net lid;
  end = end_by net lid (owner_of net lid);
}

abbrev pub aims : NetState → List Aim
aims net = map (aim_of net) (known_lids net)

-- ---- a step of the code, on which no definition stands: of the LIDs below this number that pass the test
abbrev pub aim_if : NetState → (ℕ → Bool) → ℕ → List Aim
aim_if net test lid = if test lid then aim_of net lid ∷ [] else []

abbrev pub aims_below : NetState → (ℕ → Bool) → ℕ → List Aim
aims_below net test count = flat_map (aim_if net test) (range_with_len 0 count)

-- a row says that it is a channel adapter's or a switch's, and the fabric has no such port
abbrev pub is_lacking : NetState → Aim → Bool
is_lacking net aim = is_none aim.end && list_any (says_of_fabric net aim.lid) (switches net.plan.nodes)

-- ---- an adapter's port that has a cable is to have a LID
abbrev pub is_of : PortRef → Aim → Bool
is_of port aim = option_map_or (λ end. is_same_port end port) aim.end false

-- the port is a switch's, or one of these LIDs is its
abbrev pub has_lid : NetState → List Aim → PortRef → Bool
has_lid net all port = is_switch_at net.plan.nodes port.node || list_any (is_of port) all

abbrev pub have_lids : NetState → List Aim → Cable → Bool
have_lids net all cable = has_lid net all cable.first && has_lid net all cable.second
