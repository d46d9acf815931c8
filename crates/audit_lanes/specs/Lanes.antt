-- Lanes: the VLs of channels, and which wait for which.
use Rattle.std.specs.Prelude.{ℕ, ◌==◌, ◌&&◌, ◌||◌, Bool, List, [], ◌∷◌, ◌++◌, flat_map, map, Option, Some, None, option_map}
use Rattle.std.specs.List.{list_any, range_with_len}
use Rattle.fabric_parts.specs.Cable.{is_same_port}
use Rattle.fabric_parts.specs.declared.cable.PortRef.{PortRef}
use Rattle.audit_loops.specs.Channels.{channels, leads_to, leaves_by}
use Rattle.audit_net.specs.Net.{NetState}
use Rattle.audit_lanes.specs.declared.hop.Hop.{Hop}
use Rattle.audit_lanes.specs.declared.lane.Lane.{Lane}
use Rattle.audit_lanes.specs.declared.lane.LanePair.{LanePair}
use Rattle.audit_lanes.specs.Hops.{out_of}
use Rattle.audit_lanes.specs.Tables.{unplaced_lids}
use Rattle.audit_net.specs.declared.lids.Aim.{Aim}

abbrev pub lane : PortRef → ℕ → Lane
lane at vl = record { at = at; vl = vl }

-- all lanes, in the order of channels, and then of VLs from 0 to 14
abbrev pub lanes_of : PortRef → List Lane
lanes_of at = map (lane at) (range_with_len 0 15)

abbrev pub lanes : NetState → List Lane
lanes net = flat_map lanes_of (channels net)

-- ---- two lanes one behind the other
abbrev pub is_same_lane : Lane → Lane → Bool
is_same_lane a b = is_same_port a.at b.at && (a.vl == b.vl)

abbrev pub two : Lane → Lane → LanePair
two first second = record { first = first; second = second }

abbrev pub is_same_pair : LanePair → LanePair → Bool
is_same_pair a b = is_same_lane a.first b.first && is_same_lane a.second b.second

-- ---- the lane of a hop, if its VL is known
abbrev pub lane_of : Hop → Option Lane
lane_of hop = option_map (lane (out_of hop)) hop.vl

-- those of hops one behind the other, from the lane before them on
abbrev pub pair_by : Option Lane → Option Lane → List LanePair
pair_by (Some first) (Some second) = two first second ∷ []
pair_by _ _ = []

abbrev pub pairs_after : Option Lane → List Hop → List LanePair
pairs_after before [] = []
pairs_after before (hop ∷ rest) = pair_by before (lane_of hop) ++ pairs_after (lane_of hop) rest

-- packets of some record take the one, and the other behind it
abbrev pub takes_both : Lane → Lane → List Hop → Bool
takes_both a b hops = list_any (is_same_pair (two a b)) (pairs_after None hops)

abbrev pub some_take : List (List Hop) → Lane → Lane → Bool
some_take traces a b = list_any (takes_both a b) traces

-- ---- LIDs of which no record can be, since the fabric lacks their end ports, may have each SL: they count on all lanes
abbrev pub leaves_by_both : NetState → PortRef → PortRef → ℕ → Bool
leaves_by_both net a b lid = leaves_by net a lid && leaves_by net b lid

abbrev pub unplaced_take : NetState → List Aim → PortRef → PortRef → Bool
unplaced_take net aims a b = list_any (leaves_by_both net a b) (unplaced_lids aims)

-- ---- a lane waits for another of the switch at the other end of its cable, if packets take the one and then the other
abbrev pub waits : NetState → List Aim → List (List Hop) → Lane → Lane → Bool
waits net aims traces a b = leads_to net a.at b.at.node && (some_take traces a b || unplaced_take net aims a.at b.at)
