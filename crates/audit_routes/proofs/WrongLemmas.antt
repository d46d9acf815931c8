-- What wrong rules report of two switches.
use Rattle.std.proofs.Common.{◌≡◌, ◌∙◌, ◌==◌, ◌≤◌, ◌+◌, ◌||◌, inl, inr, ℕ, zero, suc, nat_le, nat_lt, true, false, List, Option, Some, None, is_some, ap, filter, lit<, map, refl, subst, sym, [], ◌∷◌, arith}
use Rattle.std.specs.List.{list_all, list_any, range_with_len}
use Rattle.std.proofs.lemmas.Bool.{cases_Bool, false≢true}
use Rattle.std.proofs.lemmas.Bool.Decides.{nat_tests}
use Rattle.std.proofs.lemmas.Option.{same_Some}
use Rattle.dump_file.specs.Table.{rows_of}
use Rattle.dump_file.specs.declared.row.Row.{Row}
use Rattle.fabric_parts.specs.Cable.{port}
use Rattle.step_results.proofs.ListLemmas.{none_passes}
use Rattle.step_results.proofs.BoolLemmas.{or_false}
use Rattle.audit_net.specs.declared.following.Fate.TheVariants as fates
use Rattle.audit_net.specs.declared.following.Turn.TheVariants as turns
use Rattle.audit_net.specs.declared.lids.Aim.{Aim}
use Rattle.topo_file.specs.Node.{is_switch_at}
use Rattle.audit_routes.specs.Audit.{audit_of}
use Rattle.audit_loops.specs.Channels.{deadlock, depends}
use Rattle.audit_routes.specs.Loops.{credit_loop, lids_of}
use Rattle.audit_net.specs.Following.{end_within}
use Rattle.audit_routes.specs.Laws.{CarriesAHost, ComesFromAHost, IsAggregations, IsCreditLoop, other_lids, says_lead, says_safe}
use Rattle.audit_net.specs.Laws.{ComesBy, HostsCome, IsWay}
use Rattle.audit_net.proofs.HostLemmas.{hosts_are_followed}
use Rattle.audit_net.specs.Lids.{aim_of, aims, all_lids, is_known_lid, is_named, reported_by}
use Rattle.audit_net.specs.Net.{NetState, table_at}
use Rattle.audit_routes.specs.Verdict.{is_aggregations, is_others, is_unknown, verdict_by, verdict_is_safe}
use Rattle.audit_plan.specs.declared.ends.LidGuid.{LidGuid}
use Rattle.audit_routes.specs.WrongRules.{ClosingLidsCountThere, LoopsOfAggregationDecideNothing, LoopsOfHostsDecide, aggregations_aim, an_aggregations_loop, by_all_entries, is_no_aggregations, two_aims, two_loops, without_aggregation}
use Rattle.audit_routes.specs.WrongRules.{AggregationDecidesNothing, CreditLoopsAreApart, UnknownEntriesDecide, an_aggregations_hole, an_unknown_entry, to_each_adapter, with_unknown, EachStepHasItsLid, LidsGoOnRound, LostPairsAreAReason, ReasonsHold, all_three, both_ways, one_way, three_ways, HolesAreCounted, HolesHaveALine, LidsAreAsked, LoopsHaveALine, NobodysLoopsHaveALine, NobodysRowsHaveALine, OtherLidsDecide, OtherPortsDecide, OtherTablesDecide, OthersHolesHaveALine, RowsLeftOutHaveALine, TransitDecidesNothing, WaysAreAsked, a_row_left_out, nobodys_row_left_out, a_hole_at_home, a_loop, a_nobodys_loop, a_routers_hole, a_routers_loop, a_third_table, another_adapter, another_row, by_adapters_lids, from_each_switch, is_going, is_hole, no_lids, silent_of_nobody, silent_where, with_other_ports, with_other_tables, without_lids, without_ways}
use Rattle.audit_net.specs.SmallNets.{a_hole, adapters_row, two_with, with_rows}
use Rattle.audit_plan.proofs.PlaceLemmas.{filter_alike}
use Rattle.audit_routes.proofs.SafeLemmas.{reported_is_safe, reported_leads}

pub holes_are_counted : HolesAreCounted
holes_are_counted law = let none : ◌≡◌ {A = ℕ} 0 1 = law (record { from_hosts = true; to_host = true; to_switch = false; fate = fates.Hole } ∷ []) in cc

abbrev lid_of : Option Aim → ℕ
lid_of (Some aim) = aim.lid
lid_of None = 0

pub lids_go_on_round : LidsGoOnRound
lids_go_on_round law =
    let closed = law one_way false both_ways (port 0 2 ∷ port 1 1 ∷ []) 0 refl (omega arith) in
    let named : ◌≡◌ {A = ℕ} 1 closed.aim.lid = ap lid_of closed.is in
    false≢true (ap (λ (lid : ℕ). depends one_way (lid ∷ []) (port 0 2) (port 1 1)) named ∙ closed.waits)

pub each_step_has_its_lid : EachStepHasItsLid
each_step_has_its_lid law =
    let closed = law three_ways false all_three (port 0 1 ∷ port 1 1 ∷ port 2 1 ∷ []) 1 refl (omega arith) in
    let named : ◌≡◌ {A = ℕ} 1 closed.aim.lid = ap lid_of closed.is in
    false≢true (ap (λ (lid : ℕ). depends three_ways (lid ∷ []) (port 1 1) (port 2 1)) named ∙ closed.waits)

-- ---- LIDs that few rows name
none_named : (rows : List Row) (bound first many : ℕ) → bound ≤ first → list_all (λ (row : Row). nat_lt row.lid bound) rows ≡ true
    → filter (is_named rows) (range_with_len first many) ≡ []
none_named rows bound first zero past below = refl
none_named rows bound first (suc many) past below =
    let none : is_named rows first ≡ false =
    none_passes (λ (row : Row). nat_lt row.lid bound) (λ (row : Row). row.lid == first) (λ row less. grind (arith, nat_tests, less, past)) rows below in
    rw none (none_named rows bound (first + 1) many (omega (arith, past)) below)

few_named : (rows : List Row) (bound first few many : ℕ) → few ≤ many → bound ≤ first + few → list_all (λ (row : Row). nat_lt row.lid bound) rows ≡ true
    → filter (is_named rows) (range_with_len first many) ≡ filter (is_named rows) (range_with_len first few)
few_named rows bound first zero many less past below = none_named rows bound first many (omega (arith, past)) below
few_named rows bound first (suc few) zero less past below = absurd (omega (arith, less))
few_named rows bound first (suc few) (suc many) less past below =
    let rest = few_named rows bound (first + 1) few many (omega (arith, less)) (omega (arith, past)) below in
    elim (cases_Bool (is_named rows first)) [
      | inl named ↦ rw named (ap (λ (lids : List ℕ). first ∷ lids) rest)
      | inr other ↦ rw other rest
    ]

-- where nobody reports a LID the known ones are those that rows name
named_alone : (net : NetState) (lid : ℕ) → net.plan.lids ≡ [] → is_known_lid net lid ≡ is_named (rows_of net.dump.tables) lid
named_alone net lid none =
    ap (λ (lids : List LidGuid). is_named (rows_of net.dump.tables) lid || is_some (reported_by (rows_of net.dump.tables) lids lid)) none
    ∙ or_false (is_named (rows_of net.dump.tables) lid)

aims_by : (net : NetState) (bound : ℕ) → nat_le bound 65536 ≡ true → net.plan.lids ≡ [] → list_all (λ (row : Row). nat_lt row.lid bound) (rows_of net.dump.tables) ≡ true
    → aims net ≡ map (aim_of net) (filter (is_named (rows_of net.dump.tables)) (range_with_len 0 bound))
unfolding all_lids
aims_by net bound few none below =
    let most : bound ≤ 65536 = grind (arith, nat_tests, few) in
    ap (map (aim_of net)) (filter_alike (is_known_lid net) (is_named (rows_of net.dump.tables)) (λ lid. named_alone net lid none) (range_with_len 0 65536)
    ∙ few_named (rows_of net.dump.tables) bound 0 bound 65536 most (omega arith) below)

aims_to_64 : (net : NetState) → net.plan.lids ≡ [] → list_all (λ (row : Row). nat_lt row.lid 65) (rows_of net.dump.tables) ≡ true
    → aims net ≡ map (aim_of net) (filter (is_named (rows_of net.dump.tables)) (range_with_len 0 65))
aims_to_64 net none below = aims_by net 65 refl none below

pub few_aims : (net : NetState) → net.plan.lids ≡ [] → list_all (λ (row : Row). nat_lt row.lid 3) (rows_of net.dump.tables) ≡ true
    → aims net ≡ map (aim_of net) (filter (is_named (rows_of net.dump.tables)) (range_with_len 0 3))
few_aims net none below = aims_by net 3 refl none below

-- ---- what the verdict asks
pub lids_are_asked : LidsAreAsked
lids_are_asked law =
    let reported : without_lids no_lids ≡ true = rw (few_aims no_lids refl refl) refl in
    let named = (law.safe no_lids reported).lead.named (port 2 1) (refl, refl) in
    let is : (aim_of no_lids named.0).end ≡ Some (port 2 1) = named.2 in
    cc

first_carries : (first second : List Row) → CarriesAHost (two_with first second) 0
first_carries first second = record { switch = refl; number = 1; low = omega arith; high = omega arith; at = port 2 1; cable = refl; host = refl }

hole_ends : (way : List ℕ) → IsWay a_hole_at_home 1 0 way (turns.Arrives (port 2 1)) → ⊥
hole_ends [] is = let e : turns.Hole ≡ turns.Arrives (port 2 1) = is.0 in cc
hole_ends (next ∷ way) is = let e : turns.Hole ≡ turns.Goes next = is.0 in cc

pub ways_are_asked : WaysAreAsked
ways_are_asked law =
    let reported : without_ways a_hole_at_home ≡ true = rw (few_aims a_hole_at_home refl refl) refl in
    let way = (law.safe a_hole_at_home reported).lead.reached 0 1 (port 2 1) (first_carries _ _) (lit< tt) refl refl in
    hole_ends way.0 way.1

pub lost_pairs_are_a_reason : LostPairsAreAReason
lost_pairs_are_a_reason law = law.some a_hole_at_home (aim_of a_hole_at_home 1 ∷ []) None refl refl

-- nothing is wrong
pub reasons_hold : ReasonsHold
reasons_hold law =
    false≢true (sym (law.loops (record { has_lids = true; is_reached = true; is_free = true; is_same = true; is_known = true; loses = false; lacks_entries = false })))

hole_is_safe : says_safe a_hole ≡ true
unfolding audit_of
hole_is_safe = rw (few_aims a_hole refl refl) refl

hole_is_asked : from_each_switch a_hole ≡ false
hole_is_asked = rw (few_aims a_hole refl refl) refl

pub transit_decides_nothing : TransitDecidesNothing
transit_decides_nothing law = false≢true (sym hole_is_asked ∙ law.reported a_hole (reported_is_safe a_hole hole_is_safe))

aggregation_is_safe : says_safe an_aggregations_hole ≡ true
unfolding audit_of
aggregation_is_safe = rw (few_aims an_aggregations_hole refl refl) refl

aggregation_is_asked : to_each_adapter an_aggregations_hole ≡ false
aggregation_is_asked = rw (few_aims an_aggregations_hole refl refl) refl

pub aggregation_decides_nothing : AggregationDecidesNothing
aggregation_decides_nothing law =
    false≢true (sym aggregation_is_asked ∙ law.reported an_aggregations_hole (reported_is_safe an_aggregations_hole aggregation_is_safe))

-- LID 2 is a router's
by_the_router : list_any (λ n. n == 2) (other_lids a_routers_loop) ≡ true
by_the_router = rw (few_aims a_routers_loop refl refl) refl

routers_are_apart : (place : ℕ) → IsAggregations a_routers_loop 2 → ComesFromAHost a_routers_loop 2 place
routers_are_apart place is = let none : (aim_of a_routers_loop 2).end ≡ Some is.end = is.is in absurd (cc)

loop_waits : IsCreditLoop a_routers_loop (port 0 2 ∷ port 1 1 ∷ [])
loop_waits = (
  record { lid = 2; among = by_the_router; leads = refl; first = refl; second = refl; comes = routers_are_apart 0 },
  record { lid = 2; among = by_the_router; leads = refl; first = refl; second = refl; comes = routers_are_apart 1 },
)

pub other_lids_decide : OtherLidsDecide
other_lids_decide law =
    let reported : by_adapters_lids a_routers_loop ≡ true = rw (few_aims a_routers_loop refl refl) refl in
    (law.safe a_routers_loop reported).free (port 0 2 ∷ port 1 1 ∷ []) refl loop_waits

-- ---- loops of aggregation nodes
abbrev hosts_aim : Aim
hosts_aim = record { lid = 1; guid = Some 257; end = Some (port 2 1) }

loop_aims : (first : ℕ) → aims (an_aggregations_loop first) ≡ hosts_aim ∷ aggregations_aim ∷ []
loop_aims first = few_aims (an_aggregations_loop first) refl refl

-- by this entry of A packets of hosts come to neither switch
closed_is_safe : says_safe (an_aggregations_loop 255) ≡ true
unfolding audit_of
closed_is_safe =
    ap (λ (all : List Aim). verdict_is_safe (verdict_by (an_aggregations_loop 255) all (credit_loop (an_aggregations_loop 255) all))) (loop_aims 255)

closed_is_asked : by_all_entries (an_aggregations_loop 255) ≡ false
closed_is_asked =
    ap (λ (all : List Aim). verdict_is_safe (verdict_by (an_aggregations_loop 255) all
    (deadlock (an_aggregations_loop 255) (lids_of (filter (is_others (an_aggregations_loop 255)) all))))) (loop_aims 255)

pub loops_of_aggregation_decide_nothing : LoopsOfAggregationDecideNothing
loops_of_aggregation_decide_nothing law =
    false≢true (sym closed_is_asked ∙ law.reported (an_aggregations_loop 255) (reported_is_safe (an_aggregations_loop 255) closed_is_safe))

-- and by this one to both
by_aggregation : list_any (λ n. n == 2) (other_lids (an_aggregations_loop 2)) ≡ true
by_aggregation = rw (loop_aims 2) refl

a_carries : CarriesAHost (an_aggregations_loop 2) 0
a_carries = record { switch = refl; number = 1; low = omega arith; high = omega arith; at = port 2 1; cable = refl; host = refl }

open_waits : IsCreditLoop (an_aggregations_loop 2) (port 1 2 ∷ port 4 1 ∷ [])
open_waits = (
  record {
    lid = 2;
    among = by_aggregation;
    leads = refl;
    first = refl;
    second = refl;
    comes = λ is. record { from = 0; carries = a_carries; over = 1 ∷ []; comes = (refl, refl) };
  },
  record {
    lid = 2;
    among = by_aggregation;
    leads = refl;
    first = refl;
    second = refl;
    comes = λ is. record { from = 0; carries = a_carries; over = 1 ∷ 4 ∷ []; comes = (refl, (refl, refl)) };
  },
)

pub loops_of_hosts_decide : LoopsOfHostsDecide
loops_of_hosts_decide law =
    let reported : without_aggregation (an_aggregations_loop 2) ≡ true =
    ap (λ (all : List Aim). verdict_is_safe (verdict_by (an_aggregations_loop 2) all
    (deadlock (an_aggregations_loop 2) (lids_of (filter (is_no_aggregations (an_aggregations_loop 2)) all))))) (loop_aims 2) in
    (law.safe (an_aggregations_loop 2) reported).free (port 1 2 ∷ port 4 1 ∷ []) refl open_waits

pub closing_lids_count_there : ClosingLidsCountThere
closing_lids_count_there law =
    let closed = law two_loops true two_aims (port 1 2 ∷ port 4 1 ∷ []) 0 refl (omega arith) in
    let same : aggregations_aim ≡ closed.aim = same_Some aggregations_aim closed.aim closed.is in
    let of_one : is_aggregations two_loops closed.aim ≡ true = ap (is_aggregations two_loops) (sym same) in
    let come : HostsCome two_loops 2 1 = subst (λ (aim : Aim). HostsCome two_loops aim.lid 1) (sym same) (closed.comes refl of_one) in
    false≢true (hosts_are_followed.comes two_loops 2 1 come)

pub other_tables_decide : OtherTablesDecide
other_tables_decide law =
    let reported : with_other_tables a_third_table ≡ true = rw (few_aims a_third_table refl refl) refl in
    let known = (law.safe a_third_table reported).lead.same.switches 2 (with_rows 48 (adapters_row 1 ∷ [])) refl in
    false≢true known

pub other_ports_decide : OtherPortsDecide
other_ports_decide law =
    let reported : with_other_ports another_adapter ≡ true = rw (few_aims another_adapter refl refl) refl in
    let end = (law.safe another_adapter reported).lead.same.ends 0 2 another_row refl (lit< tt) refl in
    let is : (aim_of another_adapter 2).end ≡ Some end.0 = end.1 in
    cc

pub unknown_entries_decide : UnknownEntriesDecide
unknown_entries_decide law =
    let reported : with_unknown an_unknown_entry ≡ true = rw (aims_to_64 an_unknown_entry refl refl) refl in
    let among : list_any (λ n. n == 64) (other_lids an_unknown_entry) ≡ true = rw (aims_to_64 an_unknown_entry refl refl) refl in
    (law.safe an_unknown_entry reported).lead.known 0 64 1 refl among refl refl

-- the routes of the loop lead there
loop_leads : says_lead a_routers_loop ≡ true
loop_leads = rw (few_aims a_routers_loop refl refl) refl

pub credit_loops_are_apart : CreditLoopsAreApart
credit_loops_are_apart law =
    let safe = reported_is_safe a_routers_loop (law.reported a_routers_loop (reported_leads a_routers_loop loop_leads)) in
    safe.free (port 0 2 ∷ port 1 1 ∷ []) refl loop_waits

-- ---- lines that are lacking
loop_is_silent : (there : ℕ) → is_switch_at a_loop.plan.nodes there ≡ true → silent_where is_going a_loop there (aim_of a_loop 1) ≡ []
loop_is_silent zero switch = refl
loop_is_silent (suc zero) switch = refl
loop_is_silent (suc (suc zero)) switch = absurd (false≢true switch)
loop_is_silent (suc (suc (suc n))) switch = absurd (false≢true switch)

pub loops_have_a_line : LoopsHaveALine
loops_have_a_line law =
    let line = law.lost a_loop 1 0 (port 2 1) refl refl (λ r. let e : fates.Loop ≡ fates.Reached = r in cc) (λ u. let e : fates.Loop ≡ fates.Unknown = u in cc) in
    line.reported (loop_is_silent line.there line.of_switch)

hole_is_silent : (there : ℕ) (way : List ℕ) → ComesBy a_hole 1 1 way there → silent_where is_hole a_hole there (aim_of a_hole 1) ≡ []
hole_is_silent there [] comes = rw (sym comes) refl
hole_is_silent there (next ∷ way) comes = absurd (let e : turns.Hole ≡ turns.Goes next = comes.0 in cc)

pub holes_have_a_line : HolesHaveALine
holes_have_a_line law =
    let line = law.lost a_hole 1 1 (port 2 1) refl refl (λ r. let e : fates.Hole ≡ fates.Reached = r in cc) (λ u. let e : fates.Hole ≡ fates.Unknown = u in cc) in
    line.reported (hole_is_silent line.there line.way line.comes)

pub others_holes_have_a_line : OthersHolesHaveALine
others_holes_have_a_line law =
    let line = law.ended a_routers_hole 2 0 999 refl refl ([], (refl, λ next same. let e : turns.Hole ≡ turns.Goes next = same in cc)) in
    line.reported refl

nobodys_never_end : (count : ℕ) → (end_within a_nobodys_loop 2 count 0 ≡ None) × (end_within a_nobodys_loop 2 count 1 ≡ None)
nobodys_never_end zero = (refl, refl)
nobodys_never_end (suc count) = let later = nobodys_never_end count in (later.1, later.0)

nobodys_is_silent : (there : ℕ) → is_switch_at a_nobodys_loop.plan.nodes there ≡ true → silent_of_nobody a_nobodys_loop there (aim_of a_nobodys_loop 2) ≡ []
nobodys_is_silent zero switch = refl
nobodys_is_silent (suc zero) switch = refl
nobodys_is_silent (suc (suc zero)) switch = absurd (false≢true switch)
nobodys_is_silent (suc (suc (suc n))) switch = absurd (false≢true switch)

pub nobodys_loops_have_a_line : NobodysLoopsHaveALine
nobodys_loops_have_a_line law =
    let line = law.endless a_nobodys_loop 2 0 refl (λ count. (nobodys_never_end count).0) in
    line.reported (nobodys_is_silent line.there line.of_switch)

-- ---- entries that are not known
unknown_is_silent : (there : ℕ) (way : List ℕ) → ComesBy a_row_left_out 64 1 way there → silent_where is_unknown a_row_left_out there (aim_of a_row_left_out 64) ≡ []
unknown_is_silent there [] comes = rw (sym comes) refl
unknown_is_silent there (next ∷ way) comes = absurd (let e : turns.Unknown ≡ turns.Goes next = comes.0 in cc)

comes_to_tables : (there : ℕ) (way : List ℕ) → ComesBy a_row_left_out 64 1 way there → is_some (table_at a_row_left_out there) ≡ true
comes_to_tables there [] comes = rw (sym comes) refl
comes_to_tables there (next ∷ way) comes = absurd (let e : turns.Unknown ≡ turns.Goes next = comes.0 in cc)

pub rows_left_out_have_a_line : RowsLeftOutHaveALine
rows_left_out_have_a_line law =
    let line = law.unknown a_row_left_out 64 1 257 refl refl comes_to_tables ([], (refl, λ next same. let e : turns.Unknown ≡ turns.Goes next = same in cc)) in
    line.reported (unknown_is_silent line.there line.way line.comes)

pub nobodys_rows_have_a_line : NobodysRowsHaveALine
nobodys_rows_have_a_line law = law.fed nobodys_row_left_out 64 0 1 refl refl refl refl refl
