-- What is reported of lanes, and what that means of channels.
use Rattle.std.proofs.Common.{◌≡◌, ◌∙◌, inl, inr, refl, sym, ℕ, zero, suc, ◌+◌, true, List, [], ◌∷◌, map, flat_map, Option, Some, None}
use Rattle.std.specs.List.{list_any, range_with_len}
use Rattle.std.proofs.lemmas.Bool.{and_from, and_parts, false≢true, or_cases, or_left, or_right}
use Rattle.std.proofs.lemmas.List.Folds.{list_any-append}
use Rattle.fabric_parts.specs.Cable.{is_same_port}
use Rattle.fabric_parts.specs.declared.cable.PortRef.{PortRef}
use Rattle.sl2vl_file.specs.declared.path.PathSl.{PathSl}
use Rattle.audit_loops.specs.Channels.{channels, deadlock, depends}
use Rattle.audit_loops.specs.Laws.{are_channels, is_cycle as is_channel_cycle, wait_round as wait_channel_round}
use Rattle.audit_loops.proofs.CycleLawLemmas.{no_cycle_is_missed}
use Rattle.audit_net.specs.Net.{NetState}
use Rattle.audit_lanes.specs.declared.lane.Lane.{Lane}
use Rattle.audit_lanes.specs.Deadlock.{lane_deadlock}
use Rattle.audit_lanes.specs.Hops.{traces}
use Rattle.audit_lanes.specs.Lanes.{is_same_lane, lane, lanes, lanes_of, waits}
use Rattle.audit_lanes.specs.Laws.{LaneCyclesWait, LanesMakeNoLoop, NoLaneCycleIsMissed, are_lanes, is_cycle, other_lids, wait_round, waits_by_records}
use Rattle.audit_lanes.specs.Tables.{TablesState}
use Rattle.audit_lanes.proofs.FollowLemmas.{waits_depend}
use Rattle.audit_lanes.proofs.RingLemmas.{lane_rings_wait, no_lane_ring_missed}

pub lane_cycles_wait : LaneCyclesWait
lane_cycles_wait net aims all ring reported = lane_rings_wait (waits net aims all) (lanes net) ring reported

pub no_lane_cycle_is_missed : NoLaneCycleIsMissed
no_lane_cycle_is_missed net aims all none ring are = no_lane_ring_missed (waits net aims all) (lanes net) none ring are

-- ---- lanes are those of channels
of_channel : (one : Lane) (at : PortRef) (low many : ℕ) → list_any (is_same_lane one) (map (lane at) (range_with_len low many)) ≡ true → is_same_port one.at at ≡ true
of_channel one at low zero there = absurd (false≢true there)
of_channel one at low (suc many) there = elim (or_cases (is_same_lane one (lane at low)) _ there) [
  | inl here ↦ (and_parts (is_same_port one.at at) _ here).0
  | inr later ↦ of_channel one at (low + 1) many later
]

of_channels : (one : Lane) (all : List PortRef) → list_any (is_same_lane one) (flat_map lanes_of all) ≡ true → list_any (is_same_port one.at) all ≡ true
of_channels one [] there = absurd (false≢true there)
of_channels one (at ∷ all) there =
    elim (or_cases (list_any (is_same_lane one) (lanes_of at)) _ (sym (list_any-append (is_same_lane one) (lanes_of at) (flat_map lanes_of all)) ∙ there)) [
      | inl here ↦ or_left (is_same_port one.at at) _ (of_channel one at 0 15 here)
      | inr later ↦ or_right (is_same_port one.at at) _ (of_channels one all later)
    ]

abbrev at_of : Lane → PortRef
at_of one = one.at

ring_of_channels : (net : NetState) (ring : List Lane) → are_lanes net ring ≡ true → are_channels net (map at_of ring) ≡ true
ring_of_channels net [] are = refl
ring_of_channels net (one ∷ ring) are =
    let parts = and_parts (list_any (is_same_lane one) (lanes net)) _ are in
    and_from (list_any (is_same_port one.at) (channels net)) _ (of_channels one (channels net) parts.0) (ring_of_channels net ring parts.1)

-- ---- a cycle of lanes is one of their channels
round_depends : (net : NetState) (tables : TablesState) (paths : List PathSl) (first a : Lane) (rest : List Lane)
    → wait_round (waits_by_records net tables paths) first (a ∷ rest) ≡ true → wait_channel_round (depends net (other_lids net tables.aims)) first.at (map at_of (a ∷ rest)) ≡ true
round_depends net tables paths first a [] round = waits_depend net tables paths a first round
round_depends net tables paths first a (b ∷ rest) round =
    let parts = and_parts (waits_by_records net tables paths a b) _ round in
    and_from (depends net (other_lids net tables.aims) a.at b.at) _ (waits_depend net tables paths a b parts.0) (round_depends net tables paths first b rest parts.1)

cycle_depends : (net : NetState) (tables : TablesState) (paths : List PathSl) (ring : List Lane) → is_cycle (waits_by_records net tables paths) ring ≡ true
    → is_channel_cycle (depends net (other_lids net tables.aims)) (map at_of ring) ≡ true
cycle_depends net tables paths [] round = absurd (false≢true round)
cycle_depends net tables paths (a ∷ rest) round = round_depends net tables paths a a rest round

none_by_lanes : (net : NetState) (tables : TablesState) (paths : List PathSl) → deadlock net (other_lids net tables.aims) ≡ None → lane_deadlock net tables.aims (traces net tables paths) ≡ None
none_by_lanes net tables paths none = by (lane_deadlock net tables.aims (traces net tables paths)) refl
  where
    by : (found : Option (List Lane)) → lane_deadlock net tables.aims (traces net tables paths) ≡ found → found ≡ None
    by None is = refl
    by (Some ring) is =
        let wait = lane_cycles_wait net tables.aims (traces net tables paths) ring is in
        let no_cycle = no_cycle_is_missed net (other_lids net tables.aims) none (map at_of ring) (ring_of_channels net ring wait.0) in
        absurd (false≢true (sym no_cycle ∙ cycle_depends net tables paths ring wait.1))

pub lanes_make_no_loop : LanesMakeNoLoop
lanes_make_no_loop = record { waits = waits_depend; free = none_by_lanes }
