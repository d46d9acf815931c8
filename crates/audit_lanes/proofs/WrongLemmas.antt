-- What wrong rules report of one switch, of two, and of verdicts.
use Rattle.std.proofs.Common.{ℕ, ◌≡◌, refl, sym, zero, suc, true, false, [], ◌∷◌, slice_get, Some, None}
use Rattle.std.proofs.lemmas.Bool.{false≢true}
use Rattle.fabric_parts.specs.Cable.{port}
use Rattle.sl2vl_file.specs.declared.path.PathSl.{PathSl}
use Rattle.audit_net.specs.SmallNets.{two_switches}
use Rattle.audit_routes.specs.Verdict.{reasons}
use Rattle.audit_lanes.specs.Lanes.{lane}
use Rattle.audit_lanes.specs.Laws.{IsOwned}
use Rattle.audit_lanes.specs.WrongRules.{DroppedPacketsAreLost, EachWayHasItsRecord, MissingRowsAreUnknown, apart_net, apart_tables, dropping_tables, own_tables, there_alone}
use Rattle.audit_lanes.specs.WrongRules.{DropsAreAReason, EachVlCounts, LanesAreApart, LanesDecideOnDeadlocks, OneMoreIsNotEnough, OneRoundIsNotEnough, PacketsFollowEntries, SwitchLidsDoNotCount, UnplacedLidsCount, adapters, both_on, is_on_vl_1, lanes_that, nobodys, round_net, round_on, round_path, round_tables, routes_that, switches_own}

pub one_round_is_not_enough : OneRoundIsNotEnough
one_round_is_not_enough law = false≢true (law.hops round_net round_tables round_path (port 0 3) is_on_vl_1 2 refl refl)

pub one_more_is_not_enough : OneMoreIsNotEnough
one_more_is_not_enough law = false≢true (law.lanes round_net round_tables round_path (port 0 3) (lane (port 0 1) 1) (lane (port 0 1) 1) 3 refl refl)

pub lanes_are_apart : LanesAreApart
lanes_are_apart law = false≢true (law (two_switches 1 1) adapters [] (both_on 0) refl).1

pub each_vl_counts : EachVlCounts
each_vl_counts law = false≢true (sym (law (two_switches 1 1) adapters (round_on 1) refl (both_on 1) refl))

pub unplaced_lids_count : UnplacedLidsCount
unplaced_lids_count law = false≢true (sym (law (two_switches 1 1) nobodys [] refl (both_on 0) refl))

pub packets_follow_entries : PacketsFollowEntries
packets_follow_entries law =
    false≢true (law.waits (two_switches 1 1) (record { aims = []; rows = [] }) [] (lane (port 0 1) 0) (lane (port 1 1) 0) refl)

pub switch_lids_do_not_count : SwitchLidsDoNotCount
switch_lids_do_not_count law = let none : Some (both_on 0) ≡ None = law.free (two_switches 1 1) (record { aims = switches_own; rows = [] }) [] refl in cc

pub drops_are_a_reason : DropsAreAReason
unfolding reasons
drops_are_a_reason law = false≢true (law.drops (routes_that true) (lanes_that true))

pub lanes_decide_on_deadlocks : LanesDecideOnDeadlocks
unfolding reasons
lanes_decide_on_deadlocks law = false≢true (sym (law.waits (routes_that false) (lanes_that false)))

-- ---- safe lanes
no_way_back : (k : ℕ) (path : PathSl) → slice_get there_alone k ≡ Some path → path.source ≡ 2 → ⊥
no_way_back zero path there from = absurd (cc)
no_way_back (suc k) path there from = absurd (cc)

pub each_way_has_its_record : EachWayHasItsRecord
each_way_has_its_record law =
    let safe = (law.safe apart_net apart_tables there_alone (routes_that true) refl).1 in
    let second : IsOwned apart_net apart_tables.aims (record { lid = 2; end = port 1 1 }) =
    record { place = 1; aim = record { lid = 2; guid = None; end = Some (port 1 1) }; there = refl; lid = refl; end = refl; others = refl } in
    let first : IsOwned apart_net apart_tables.aims (record { lid = 1; end = port 0 1 }) =
    record { place = 0; aim = record { lid = 1; guid = None; end = Some (port 0 1) }; there = refl; lid = refl; end = refl; others = refl } in
    let back = safe.named (record { lid = 2; end = port 1 1 }) (record { lid = 1; end = port 0 1 }) second first refl in
    no_way_back back.place back.path back.there back.from

pub missing_rows_are_unknown : MissingRowsAreUnknown
missing_rows_are_unknown law =
    let safe = (law.safe round_net (own_tables []) (round_path ∷ []) (routes_that true) refl).1 in
    false≢true (sym (safe.known 0 1 round_path (port 1 1) (port 1 1) (port 0 3) refl refl refl refl refl))

pub dropped_packets_are_lost : DroppedPacketsAreLost
dropped_packets_are_lost law =
    let safe = (law.safe round_net dropping_tables (round_path ∷ []) (routes_that true) refl).1 in
    false≢true (sym (safe.kept 0 1 round_path (port 1 1) (port 1 1) (port 0 3) refl refl refl refl refl))
