-- What the code looks up, and in what. No definition of the subject stands on these.
use Rattle.std.specs.Prelude.{ℕ, ◌≡◌, ◌==◌, ◌&&◌, nat_eq, Bool, false, List, [], ◌∷◌, filter, find, map, get_or, slice_get, length, if◌then◌else◌, Option, Some, None}
use Rattle.std.specs.List.{enumerate_from, list_any, range_with_len}
use Rattle.std.specs.Option.{option_and_then, option_map_or}
use Rattle.indexmap.specs.IndexMap.{IndexMap, get}
use Rattle.indexmap.specs.IndexSet.{IndexSet, contains}
use Rattle.fabric_parts.specs.Cable.{far_end, is_same_port, port}
use Rattle.fabric_parts.specs.declared.cable.PortRef.{PortRef}
use Rattle.sl2vl_file.specs.declared.path.PathSl.{PathSl}
use Rattle.sl2vl_file.specs.declared.row.LaneRow.{LaneRow}
use Rattle.audit_net.specs.declared.entry.Entry.{Entry}
use Rattle.audit_net.specs.declared.entry.Entry.TheVariants.{Out, Missing, Unreported}
use Rattle.audit_net.specs.Net.{NetState, entry}
use Rattle.audit_net.specs.declared.lids.Aim.{Aim}
use Rattle.audit_lanes.specs.declared.hop.Crossing.{Crossing}
use Rattle.audit_lanes.specs.declared.hop.DroppedAt.{DroppedAt}
use Rattle.audit_lanes.specs.declared.hop.Hop.{Hop}
use Rattle.audit_lanes.specs.declared.lane.ChannelPair.{ChannelPair}
use Rattle.audit_lanes.specs.declared.lane.Lane.{Lane}
use Rattle.audit_lanes.specs.declared.lane.LanePair.{LanePair}
use Rattle.audit_lanes.specs.declared.owned.LidPair.{LidPair}
use Rattle.audit_lanes.specs.Hops.{is_dropped_at, is_dropped_by, lacks_row_at, some_hop}
use Rattle.audit_lanes.specs.Lanes.{is_same_pair, pairs_after, waits}
use Rattle.audit_lanes.specs.Records.{is_record_of, is_same_lids}
use Rattle.audit_lanes.specs.Tables.{is_row_of, is_same_crossing}

-- ---- the aim of each LID; the place of the first row of each two ports of a switch
abbrev pub aim_of : List Aim → ℕ → Option Aim
aim_of aims lid = find (λ aim. aim.lid == lid) aims

abbrev pub KnowsAims : {S : Type 0} → IndexMap ℕ Aim S → List Aim → Type 0
KnowsAims known aims = (lid : ℕ) → get nat_eq known lid ≡ aim_of aims lid

abbrev pub row_at : List LaneRow → Option ℕ → Option LaneRow
row_at rows place = option_and_then (λ one. slice_get rows one) place

abbrev pub KnowsRows : {S : Type 0} → IndexMap Crossing ℕ S → List Aim → (all rows : List LaneRow) → Type 0
KnowsRows known aims all rows = (here : Crossing) → row_at all (get is_same_crossing known here) ≡ find (is_row_of aims here) rows

-- what the map has of two ports once a row of them, if it has some, is noted at a place
abbrev pub noted : Option Crossing → (place : ℕ) → Crossing → Option ℕ → Option ℕ
noted (Some one) place here before = if is_same_crossing one here then Some place else before
noted None place here before = before

-- ---- sets
abbrev pub KnowsRecords : {S : Type 0} → IndexSet LidPair S → List PathSl → Type 0
KnowsRecords known paths = (pair : LidPair) → contains is_same_lids known pair ≡ list_any (is_record_of pair) paths

abbrev pub KnowsLacking : {S : Type 0} → IndexSet Crossing S → List (List Hop) → Type 0
KnowsLacking known traces = (here : Crossing) → contains is_same_crossing known here ≡ some_hop (lacks_row_at here) traces

abbrev pub KnowsDropped : {S : Type 0} → IndexSet Crossing S → List (List Hop) → Type 0
KnowsDropped known traces = (here : Crossing) → contains is_same_crossing known here ≡ some_hop (is_dropped_at here) traces

abbrev pub is_same_dropped : DroppedAt → DroppedAt → Bool
is_same_dropped a b = is_same_crossing a.crossing b.crossing && (a.sl == b.sl)

abbrev pub drops_at : DroppedAt → Hop → Bool
drops_at one hop = is_dropped_by one.crossing one.sl hop

abbrev pub KnowsDroppedSls : {S : Type 0} → IndexSet DroppedAt S → List (List Hop) → Type 0
KnowsDroppedSls known traces = (one : DroppedAt) → contains is_same_dropped known one ≡ some_hop (drops_at one) traces

-- ---- two lanes that packets of a record take one behind the other
abbrev pub has_pair : LanePair → List Hop → Bool
has_pair pair hops = list_any (is_same_pair pair) (pairs_after None hops)

abbrev pub KnowsPairs : {S : Type 0} → IndexSet LanePair S → List (List Hop) → Type 0
KnowsPairs known traces = (pair : LanePair) → contains is_same_pair known pair ≡ list_any (has_pair pair) traces

-- ---- two channels that a LID takes one behind the other: that by which a switch forwards it, and that by which the switch at the
-- other end does
abbrev pub is_same_channels : ChannelPair → ChannelPair → Bool
is_same_channels a b = is_same_port a.first b.first && is_same_port a.second b.second

abbrev pub then_by : PortRef → ℕ → Entry → Option ChannelPair
then_by first place (Out number) = Some (record { first = first; second = port place number })
then_by first place Missing = None
then_by first place Unreported = None

abbrev pub then_at : NetState → ℕ → PortRef → Option PortRef → Option ChannelPair
then_at net lid first (Some there) = then_by first there.node (entry net lid there.node)
then_at net lid first None = None

abbrev pub channels_by : NetState → ℕ → ℕ → Entry → Option ChannelPair
channels_by net lid place (Out number) = then_at net lid (port place number) (far_end net.plan.cables (port place number))
channels_by net lid place Missing = None
channels_by net lid place Unreported = None

abbrev pub two_channels : NetState → ℕ → ℕ → Option ChannelPair
two_channels net lid place = channels_by net lid place (entry net lid place)

abbrev pub takes_channels : NetState → ChannelPair → (lid place : ℕ) → Bool
takes_channels net pair lid place = option_map_or (is_same_channels pair) (two_channels net lid place) false

abbrev pub lid_takes : NetState → ChannelPair → (lid : ℕ) → Bool
lid_takes net pair lid = list_any (takes_channels net pair lid) (range_with_len 0 (length net.plan.nodes))

abbrev pub KnowsChannels : {S : Type 0} → IndexSet ChannelPair S → NetState → List ℕ → Type 0
KnowsChannels known net lids = (pair : ChannelPair) → contains is_same_channels known pair ≡ list_any (lid_takes net pair) lids

-- ---- what lanes wait by
pub record WaitsState : Type 0 where
  pub net : NetState
  pub aims : List Aim
  pub traces : List (List Hop)

abbrev pub waits_by : WaitsState → Lane → Lane → Bool
waits_by known a b = waits known.net known.aims known.traces a b

-- ---- the lanes of a node, each with its place among all
abbrev pub numbered_at : List Lane → ℕ → List (ℕ × Lane)
numbered_at all place = filter (λ p. p.1.at.node == place) (enumerate_from 0 all)

abbrev pub all_groups : NetState → List Lane → List (List (ℕ × Lane))
all_groups net all = map (numbered_at all) (range_with_len 0 (length net.plan.nodes))

abbrev pub group_of : List (List (ℕ × Lane)) → (all : List (ℕ × Lane)) → ℕ → List (ℕ × Lane)
group_of groups all place = get_or groups place all

-- those that a lane waits for are at the other end of its cable
abbrev pub group_behind : List (List (ℕ × Lane)) → (all : List (ℕ × Lane)) → Option PortRef → List (ℕ × Lane)
group_behind groups all (Some there) = group_of groups all there.node
group_behind groups all None = []

-- the place of the second, if the first waits for it
abbrev pub next_if : WaitsState → Lane → ℕ × Lane → List ℕ
next_if known a p = if waits_by known a p.1 then p.0 ∷ [] else []
