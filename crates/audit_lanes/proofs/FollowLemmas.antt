-- Lanes wait as channels do: packets of a record leave each switch by its entry.
use Rattle.std.proofs.Common.{◌≡◌, ◌∙◌, inl, inr, ap, refl, sym, ℕ, zero, suc, Bool, true, false, ◌==◌, not, List, [], ◌∷◌, Option, Some, None, is_none, is_some, option_map}
use Rattle.std.specs.List.{list_all, list_any}
use Rattle.std.specs.Option.{option_and_then, option_map_or}
use Rattle.std.proofs.lemmas.Bool.{and_from, and_parts, cases_Bool, eq-eqb, false≢true, or_cases, or_left, or_right}
use Rattle.std.proofs.lemmas.List.Folds.{list_any-append}
use Rattle.std.proofs.lemmas.Option.{same_Some}
use Rattle.fabric_parts.specs.Cable.{far_end, port}
use Rattle.fabric_parts.specs.declared.cable.PortRef.{PortRef}
use Rattle.sl2vl_file.specs.declared.path.PathSl.{PathSl}
use Rattle.topo_file.specs.Node.{is_switch_at}
use Rattle.audit_net.specs.declared.entry.Entry.{Entry}
use Rattle.audit_net.specs.declared.entry.Entry.TheVariants.{Out, Missing, Unreported}
use Rattle.audit_net.specs.Net.{NetState, entry}
use Rattle.audit_loops.specs.Channels.{depends, is_out, leads_to, leaves_by}
use Rattle.audit_net.proofs.EndlessLemmas.{any_of}
use Rattle.audit_net.specs.declared.lids.Aim.{Aim}
use Rattle.audit_routes.specs.Verdict.{is_others}
use Rattle.audit_lanes.specs.declared.hop.Hop.{Hop}
use Rattle.audit_lanes.specs.declared.hop.Step.{Step}
use Rattle.audit_lanes.specs.declared.lane.Lane.{Lane}
use Rattle.audit_lanes.specs.Hops.{counts, enough_hops, hop_by, hops_by, hops_from, hops_of, hops_on, hops_within, out_of, step_by, step_of, step_to, traces}
use Rattle.audit_lanes.specs.Lanes.{is_same_lane, is_same_pair, lane, lane_of, leaves_by_both, pair_by, pairs_after, takes_both, two}
use Rattle.audit_lanes.specs.Laws.{other_lids, waits_by_records}
use Rattle.audit_lanes.specs.Tables.{TablesState, if_others, others_end, unplaced_lids}
use Rattle.audit_lanes.proofs.RingLemmas.{same_lane}

-- ---- each hop leaves its switch by the entry of the destination
abbrev all_leave : NetState → ℕ → List Hop → Bool
all_leave net lid hops = list_all (λ hop. leaves_by net (out_of hop) lid) hops

step_leaves : (net : NetState) (tables : TablesState) (path : PathSl) (at : PortRef) (step : Step) → step_of net tables path at ≡ Some step
    → leaves_by net (out_of step.hop) path.destination ≡ true
step_leaves net tables path at step found = by (entry net path.destination at.node) refl found
  where
    out : (number : ℕ) → entry net path.destination at.node ≡ Out number → leaves_by net (port at.node number) path.destination ≡ true
    out number is = ap (is_out number) is ∙ eq-eqb number number refl

    to : (number : ℕ) (there : Option PortRef) → entry net path.destination at.node ≡ Out number → step_to net (hop_by tables path.sl at number) there ≡ Some step
        → leaves_by net (out_of step.hop) path.destination ≡ true
    to number None is some = cc
    to number (Some there) is some =
        let same : step.hop ≡ hop_by tables path.sl at number = ap (λ (one : Step). one.hop) (sym (same_Some _ step some)) in
        ap (λ (hop : Hop). leaves_by net (out_of hop) path.destination) same ∙ out number is

    by : (e : Entry) → entry net path.destination at.node ≡ e → step_by net tables path.sl at e ≡ Some step → leaves_by net (out_of step.hop) path.destination ≡ true
    by (Out number) is some = elim (cases_Bool (number == 0)) [
      | inl own ↦ let none : None ≡ Some step = rw own at some in cc
      | inr other ↦ to number (far_end net.plan.cables (port at.node number)) is (rw other at some)
    ]
    by Missing is some = cc
    by Unreported is some = cc

within_leave : (net : NetState) (tables : TablesState) (path : PathSl) (count : ℕ) (at : PortRef) → all_leave net path.destination (hops_within net tables path count at) ≡ true
within_leave net tables path zero at = refl
within_leave net tables path (suc count) at = by (step_of net tables path at) refl (λ there. within_leave net tables path count there)
  where
    on : (step : Step) (next : Option PortRef) → leaves_by net (out_of step.hop) path.destination ≡ true
        → ((there : PortRef) → all_leave net path.destination (hops_within net tables path count there) ≡ true)
        → all_leave net path.destination (hops_on (λ there. hops_within net tables path count there) step.hop next) ≡ true
    on step None leaving rest = and_from (leaves_by net (out_of step.hop) path.destination) true leaving refl
    on step (Some there) leaving rest = and_from (leaves_by net (out_of step.hop) path.destination) _ leaving (rest there)

    by : (found : Option Step) → step_of net tables path at ≡ found → ((there : PortRef) → all_leave net path.destination (hops_within net tables path count there) ≡ true)
        → all_leave net path.destination (hops_by (λ there. hops_within net tables path count there) found) ≡ true
    by None is rest = refl
    by (Some step) is rest = on step step.next (step_leaves net tables path at step is) rest

from_leave : (net : NetState) (tables : TablesState) (path : PathSl) (at : Option PortRef) → all_leave net path.destination (hops_from net tables path at) ≡ true
from_leave net tables path None = refl
from_leave net tables path (Some at) = elim (cases_Bool (is_switch_at net.plan.nodes at.node)) [
  | inl here ↦ rw here (within_leave net tables path (enough_hops net) at)
  | inr other ↦ rw other refl
]

-- ---- and two lanes of hops one behind the other leave so
abbrev before_leaves : NetState → ℕ → Option Lane → Bool
before_leaves net lid before = option_map_or (λ one. leaves_by net one.at lid) before true

lane_leaves : (net : NetState) (lid : ℕ) (hop : Hop) → leaves_by net (out_of hop) lid ≡ true → before_leaves net lid (lane_of hop) ≡ true
lane_leaves net lid hop leaving = by hop.vl
  where
    by : (vl : Option ℕ) → before_leaves net lid (option_map (lane (out_of hop)) vl) ≡ true
    by None = refl
    by (Some vl) = leaving

abbrev BothLeave : NetState → ℕ → Lane → Lane → Type 0
BothLeave net lid a b = (leaves_by net a.at lid ≡ true) × (leaves_by net b.at lid ≡ true)

pair_leaves : (net : NetState) (lid : ℕ) (a b : Lane) (before behind : Option Lane) → before_leaves net lid before ≡ true → before_leaves net lid behind ≡ true
    → list_any (is_same_pair (two a b)) (pair_by before behind) ≡ true → BothLeave net lid a b
pair_leaves net lid a b None behind one other there = absurd (false≢true there)
pair_leaves net lid a b (Some first) None one other there = absurd (false≢true there)
pair_leaves net lid a b (Some first) (Some second) one other there = elim (or_cases (is_same_pair (two a b) (two first second)) false there) [
  | inl here ↦
      let parts = and_parts (is_same_lane a first) _ here in
      let start : a ≡ first = same_lane a first parts.0 in
      let end : b ≡ second = same_lane b second parts.1 in
      (rw start one, rw end other)
  | inr none ↦ absurd (false≢true none)
]

pairs_leave : (net : NetState) (lid : ℕ) (a b : Lane) (before : Option Lane) (hops : List Hop) → before_leaves net lid before ≡ true → all_leave net lid hops ≡ true
    → list_any (is_same_pair (two a b)) (pairs_after before hops) ≡ true → BothLeave net lid a b
pairs_leave net lid a b before [] one all there = absurd (false≢true there)
pairs_leave net lid a b before (hop ∷ rest) one all there =
    let parts = and_parts (leaves_by net (out_of hop) lid) _ all in
    let here = lane_leaves net lid hop parts.0 in
    elim (or_cases (list_any (is_same_pair (two a b)) (pair_by before (lane_of hop))) _
    (sym (list_any-append (is_same_pair (two a b)) (pair_by before (lane_of hop)) (pairs_after (lane_of hop) rest)) ∙ there)) [
      | inl first ↦ pair_leaves net lid a b before (lane_of hop) one here first
      | inr later ↦ pairs_leave net lid a b (lane_of hop) rest here parts.1 later
    ]

-- ---- the destination is one of the LIDs that are not switches'
others_kept : (net : NetState) (aim : Aim) → is_some (option_and_then (if_others net) aim.end) ≡ true → is_others net aim ≡ true
others_kept net aim some = by aim.end some
  where
    by : (end : Option PortRef) → is_some (option_and_then (if_others net) end) ≡ true
        → not (option_map_or (λ one. is_switch_at net.plan.nodes one.node) end false) ≡ true
    by None some = absurd (false≢true some)
    by (Some end) some = elim (cases_Bool (is_switch_at net.plan.nodes end.node)) [
      | inl switch ↦ let none : false ≡ true = rw switch at some in absurd (false≢true none)
      | inr other ↦ rw other refl
    ]

others_are : (net : NetState) (aims : List Aim) (lid : ℕ) → is_some (others_end net aims lid) ≡ true → list_any (λ n. n == lid) (other_lids net aims) ≡ true
others_are net [] lid some = absurd (false≢true some)
others_are net (aim ∷ aims) lid some = elim (cases_Bool (aim.lid == lid)) [
  | inl here ↦
      let kept : is_others net aim ≡ true = others_kept net aim (rw here at some) in
      rw (kept, here) refl
  | inr other ↦ let later = others_are net aims lid (rw other at some) in elim (cases_Bool (is_others net aim)) [
    | inl keeps ↦ rw keeps (or_right (aim.lid == lid) _ later)
    | inr drops ↦ rw drops later
  ]
]

unplaced_kept : (net : NetState) (aim : Aim) → is_none aim.end ≡ true → is_others net aim ≡ true
unplaced_kept net aim none = by aim.end none
  where
    by : (end : Option PortRef) → is_none end ≡ true → not (option_map_or (λ one. is_switch_at net.plan.nodes one.node) end false) ≡ true
    by None none = refl
    by (Some end) none = absurd (false≢true none)

unplaced_are : (net : NetState) (test : ℕ → Bool) (aims : List Aim) → list_any test (unplaced_lids aims) ≡ true → list_any test (other_lids net aims) ≡ true
unplaced_are net test [] some = absurd (false≢true some)
unplaced_are net test (aim ∷ aims) some = elim (cases_Bool (is_none aim.end)) [
  | inl none ↦
      let kept = unplaced_kept net aim none in
      elim (or_cases (test aim.lid) (list_any test (unplaced_lids aims)) (rw none at some)) [
        | inl here ↦ rw kept (or_left (test aim.lid) _ here)
        | inr later ↦ rw kept (or_right (test aim.lid) _ (unplaced_are net test aims later))
      ]
  | inr placed ↦ let later = unplaced_are net test aims (rw placed at some) in elim (cases_Bool (is_others net aim)) [
    | inl keeps ↦ rw keeps (or_right (test aim.lid) _ later)
    | inr drops ↦ rw drops later
  ]
]

-- ---- so a wait of lanes is a dependency of their channels
path_takes : (net : NetState) (tables : TablesState) (path : PathSl) (a b : Lane) → takes_both a b (hops_of net tables path) ≡ true
    → list_any (leaves_by_both net a.at b.at) (other_lids net tables.aims) ≡ true
path_takes net tables path a b takes = elim (cases_Bool (counts net tables.aims path)) [
  | inl judged ↦
      let ends = and_parts (is_some (others_end net tables.aims path.source)) _ judged in
      let at = option_and_then (far_end net.plan.cables) (others_end net tables.aims path.source) in
      let both = pairs_leave net path.destination a b None (hops_from net tables path at) refl (from_leave net tables path at) (rw judged at takes) in
      any_of (leaves_by_both net a.at b.at) (other_lids net tables.aims) path.destination (others_are net tables.aims path.destination ends.1)
      (and_from (leaves_by net a.at path.destination) _ both.0 both.1)
  | inr not_judged ↦ let none : false ≡ true = rw not_judged at takes in absurd (false≢true none)
]

paths_take : (net : NetState) (tables : TablesState) (paths : List PathSl) (a b : Lane) → list_any (takes_both a b) (traces net tables paths) ≡ true
    → list_any (leaves_by_both net a.at b.at) (other_lids net tables.aims) ≡ true
paths_take net tables [] a b some = absurd (false≢true some)
paths_take net tables (path ∷ paths) a b some = elim (or_cases (takes_both a b (hops_of net tables path)) _ some) [
  | inl here ↦ path_takes net tables path a b here
  | inr later ↦ paths_take net tables paths a b later
]

pub waits_depend : (net : NetState) (tables : TablesState) (paths : List PathSl) (a b : Lane) → waits_by_records net tables paths a b ≡ true
    → depends net (other_lids net tables.aims) a.at b.at ≡ true
waits_depend net tables paths a b is =
    let parts = and_parts (leads_to net a.at b.at.node) _ is in
    and_from (leads_to net a.at b.at.node) _ parts.0
    (elim (or_cases (list_any (takes_both a b) (traces net tables paths)) _ parts.1) [
      | inl taken ↦ paths_take net tables paths a b taken
      | inr unplaced ↦ unplaced_are net (leaves_by_both net a.at b.at) tables.aims unplaced
    ])
