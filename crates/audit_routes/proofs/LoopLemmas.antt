-- Which channels wait for which, by the entries that count.
use Rattle.std.proofs.Common.{◌≡◌, ◌∙◌, inl, inr, ap, refl, sym, ℕ, Bool, true, false, not, ◌==◌, ◌&&◌, ◌||◌, List, [], ◌∷◌, filter, map, arith, Option, Some, None, is_some}
use Rattle.std.specs.List.{list_any}
use Rattle.std.specs.Option.{option_map_or}
use Rattle.std.proofs.lemmas.Bool.{and_from, and_parts, cases_Bool, eq-eqb, false≢true, not-true, or_right}
use Rattle.std.proofs.lemmas.Bool.Decides.{nat_tests}
use Rattle.step_results.proofs.BoolLemmas.{none_of}
use Rattle.fabric_parts.specs.declared.cable.PortRef.{PortRef}
use Rattle.topo_file.specs.Node.{is_switch_at}
use Rattle.audit_net.specs.Hosts.{hosts_come}
use Rattle.audit_net.specs.Net.{NetState}
use Rattle.audit_net.proofs.EndlessLemmas.{any_of}
use Rattle.audit_net.proofs.HostLemmas.{hosts_are_followed, marks_are}
use Rattle.audit_plan.specs.Plan.{is_host}
use Rattle.audit_loops.specs.Channels.{deadlock, deadlock_on, depends, depends_on, leads_to, leaves_by, takes_both}
use Rattle.audit_loops.specs.Courses.{everywhere}
use Rattle.audit_loops.specs.Laws.{is_cycle, wait_round}
use Rattle.audit_net.specs.OwnerLaws.{end_port_of}
use Rattle.audit_net.specs.Lids.{aim_of, aims, known_lids}
use Rattle.audit_net.specs.declared.lids.Aim.{Aim}
use Rattle.audit_routes.specs.Laws.{ComesFromAHost, IsAggregations, IsCreditLoop, WaitRound, WaitsFor, other_lids}
use Rattle.audit_routes.specs.Loops.{aggregation_credit_loop, counts_at, course_of, courses_of, credit_loop, if_none, leaves_by_both, lids_of}
use Rattle.audit_routes.specs.Verdict.{is_aggregations, is_others, is_reducing}
use Rattle.audit_routes.proofs.CarriesLemmas.{carried, carries}

-- ---- where a LID counts
pub takes_course : (net : NetState) (a b : PortRef) (aim : Aim) → takes_both net a b (course_of net aim) ≡ (counts_at net a.node aim && leaves_by_both net a b aim)
takes_course net a b aim = elim (cases_Bool (is_aggregations net aim)) [
  | inl is ↦ rw is (ap (λ (counts : Bool). counts && leaves_by_both net a b aim) (marks_are net aim.lid a.node))
  | inr other ↦ rw other refl
]

-- ---- whose LIDs they are
is_of_aggregation : (net : NetState) (lid : ℕ) → is_aggregations net (aim_of net lid) ≡ true → IsAggregations net lid
is_of_aggregation net lid is = by (end_port_of net lid) refl is
  where
    by : (o : Option PortRef) → end_port_of net lid ≡ o → option_map_or (is_reducing net) o false ≡ true → IsAggregations net lid
    by (Some end) has reduces =
        let parts = and_parts (not (is_switch_at net.plan.nodes end.node)) _ reduces in
        record { end = end; is = has; adapter = not-true (is_switch_at net.plan.nodes end.node) parts.0; reduces = not-true (is_host net.plan end.node) parts.1 }
    by None has reduces = absurd (false≢true reduces)

aggregation_is : (net : NetState) (lid : ℕ) → IsAggregations net lid → is_aggregations net (aim_of net lid) ≡ true
aggregation_is net lid is =
    ap (λ (o : Option PortRef). option_map_or (is_reducing net) o false) is.is
    ∙ and_from (not (is_switch_at net.plan.nodes is.end.node)) _ (ap not is.adapter) (ap not is.reduces)

comes_from : (net : NetState) (lid there : ℕ) → hosts_come net lid there ≡ true → ComesFromAHost net lid there
comes_from net lid there comes =
    let found = hosts_are_followed.there net lid there (marks_are net lid there ∙ comes) in
    record { from = found.from; carries = carried net found.from found.switch found.carries; over = found.over; comes = found.comes }

comes_there : (net : NetState) (lid there : ℕ) → ComesFromAHost net lid there → hosts_come net lid there ≡ true
comes_there net lid there is =
    sym (marks_are net lid there)
    ∙ hosts_are_followed.comes net lid there
    (record { from = is.from; switch = is.carries.switch; carries = carries net is.from is.carries; over = is.over; comes = is.comes })

-- ---- some LID of these
abbrev others_of : NetState → List ℕ → List Aim
others_of net lids = filter (is_others net) (map (aim_of net) lids)

are_courses : (net : NetState) (a b : PortRef) (lid : ℕ) (lids : List ℕ) → list_any (λ n. n == lid) (lids_of (others_of net lids)) ≡ true
    → takes_both net a b (course_of net (aim_of net lid)) ≡ true → list_any (takes_both net a b) (courses_of net (others_of net lids)) ≡ true
are_courses net a b lid [] among takes = absurd (false≢true among)
are_courses net a b lid (x ∷ xs) among takes = elim (cases_Bool (is_others net (aim_of net x))) [
  | inl keeps ↦ elim (cases_Bool (x == lid)) [
    | inl here ↦
        let same : lid ≡ x = grind (arith, nat_tests, here) in
        let now : takes_both net a b (course_of net (aim_of net x)) ≡ true = ap (λ (n : ℕ). takes_both net a b (course_of net (aim_of net n))) (sym same) ∙ takes in
        rw (keeps, now) refl
    | inr other ↦ rw keeps (or_right (takes_both net a b (course_of net (aim_of net x))) _ (are_courses net a b lid xs (rw other at (rw keeps at among)) takes))
  ]
  | inr drops ↦ rw drops (are_courses net a b lid xs (rw drops at among) takes)
]

in_courses : (net : NetState) (a b : PortRef) (lids : List ℕ) → list_any (takes_both net a b) (courses_of net (others_of net lids)) ≡ true
    → (lid : ℕ) × (list_any (λ n. n == lid) (lids_of (others_of net lids)) ≡ true) × (takes_both net a b (course_of net (aim_of net lid)) ≡ true)
in_courses net a b [] some = absurd (false≢true some)
in_courses net a b (x ∷ xs) some = elim (cases_Bool (is_others net (aim_of net x))) [
  | inl keeps ↦ elim (cases_Bool (takes_both net a b (course_of net (aim_of net x)))) [
    | inl here ↦ (x, (let itself : (x == x) ≡ true = eq-eqb x x refl in rw (keeps, itself) refl), here)
    | inr other ↦ let rest = in_courses net a b xs (rw other at (rw keeps at some)) in (rest.0, rw keeps (or_right (x == rest.0) _ rest.1), rest.2)
  ]
  | inr drops ↦ let rest = in_courses net a b xs (rw drops at some) in (rest.0, rw drops rest.1, rest.2)
]

-- ---- a channel waits for another
abbrev pub depends_here : NetState → PortRef → PortRef → Bool
depends_here net = depends_on net (courses_of net (filter (is_others net) (aims net)))

waits_depends : (net : NetState) (a b : PortRef) → WaitsFor net a b → depends_here net a b ≡ true
waits_depends net a b is = and_from (leads_to net a b.node) _ is.leads (are_courses net a b is.lid (known_lids net) is.among takes)
  where
    counts_here : counts_at net a.node (aim_of net is.lid) ≡ true
    counts_here = elim (cases_Bool (is_aggregations net (aim_of net is.lid))) [
      | inl of_one ↦ rw of_one (comes_there net is.lid a.node (is.comes (is_of_aggregation net is.lid of_one)))
      | inr other ↦ rw other refl
    ]

    takes : takes_both net a b (course_of net (aim_of net is.lid)) ≡ true
    takes =
        takes_course net a b (aim_of net is.lid)
        ∙ and_from (counts_at net a.node (aim_of net is.lid)) _ counts_here (and_from (leaves_by net a is.lid) _ is.first is.second)

depends_waits : (net : NetState) (a b : PortRef) → depends_here net a b ≡ true → WaitsFor net a b
depends_waits net a b is =
    let parts = and_parts (leads_to net a b.node) _ is in
    let found = in_courses net a b (known_lids net) parts.1 in
    let both = and_parts (counts_at net a.node (aim_of net found.0)) _ (sym (takes_course net a b (aim_of net found.0)) ∙ found.2) in
    let leaves = and_parts (leaves_by net a found.0) _ both.1 in
    record {
      lid = found.0;
      among = found.1;
      leads = parts.0;
      first = leaves.0;
      second = leaves.1;
      comes = λ of_one.
          let reduces = aggregation_is net found.0 of_one in
          comes_from net found.0 a.node (rw reduces at both.0);
    }

-- along all these LIDs, as if each counted everywhere
waits_anyhow : (net : NetState) (a b : PortRef) → WaitsFor net a b → depends net (other_lids net) a b ≡ true
waits_anyhow net a b is =
    and_from (leads_to net a b.node) _ is.leads
    (any_of (λ lid. leaves_by net a lid && leaves_by net b lid) (other_lids net) is.lid is.among (and_from (leaves_by net a is.lid) _ is.first is.second))

-- ---- and so round
round_by : (net : NetState) (waits : PortRef → PortRef → Bool) → ((a b : PortRef) → WaitsFor net a b → waits a b ≡ true) → (first : PortRef) (ring : List PortRef)
    → WaitRound net first ring → wait_round waits first ring ≡ true
round_by net waits each first [] round = absurd round
round_by net waits each first (a ∷ []) round = each a first round
round_by net waits each first (a ∷ b ∷ rest) round = and_from (waits a b) _ (each a b round.0) (round_by net waits each first (b ∷ rest) round.1)

cycle_by : (net : NetState) (waits : PortRef → PortRef → Bool) → ((a b : PortRef) → WaitsFor net a b → waits a b ≡ true) → (ring : List PortRef) → IsCreditLoop net ring
    → is_cycle waits ring ≡ true
cycle_by net waits each [] round = absurd round
cycle_by net waits each (a ∷ rest) round = round_by net waits each a (a ∷ rest) round

pub loop_is_cycle : (net : NetState) (ring : List PortRef) → IsCreditLoop net ring → is_cycle (depends_here net) ring ≡ true
loop_is_cycle net ring is = cycle_by net (depends_here net) (waits_depends net) ring is

pub loop_anyhow : (net : NetState) (ring : List PortRef) → IsCreditLoop net ring → is_cycle (depends net (other_lids net)) ring ≡ true
loop_anyhow net ring is = cycle_by net (depends net (other_lids net)) (waits_anyhow net) ring is

round_waits : (net : NetState) (first : PortRef) (ring : List PortRef) → wait_round (depends_here net) first ring ≡ true → WaitRound net first ring
round_waits net first [] round = absurd (false≢true round)
round_waits net first (a ∷ []) round = depends_waits net a first round
round_waits net first (a ∷ b ∷ rest) round =
    let parts = and_parts (depends_here net a b) _ round in
    (depends_waits net a b parts.0, round_waits net first (b ∷ rest) parts.1)

pub cycle_is_loop : (net : NetState) (ring : List PortRef) → is_cycle (depends_here net) ring ≡ true → IsCreditLoop net ring
cycle_is_loop net [] round = absurd (false≢true round)
cycle_is_loop net (a ∷ rest) round = round_waits net a (a ∷ rest) round

-- ---- without aggregation nodes each LID counts everywhere
all_everywhere : (net : NetState) (all : List Aim) → list_any (is_aggregations net) all ≡ false
    → courses_of net (filter (is_others net) all) ≡ map everywhere (lids_of (filter (is_others net) all))
all_everywhere net [] none = refl
all_everywhere net (aim ∷ all) none = elim (cases_Bool (is_aggregations net aim)) [
  | inl is ↦ absurd (false≢true (sym (rw is at none)))
  | inr other ↦
      let rest = all_everywhere net all (rw other at none) in
      elim (cases_Bool (is_others net aim)) [
        | inl keeps ↦ rw (keeps, other, rest) refl
        | inr drops ↦ rw drops rest
      ]
]

pub no_aggregation : (net : NetState) (all : List Aim) → is_some (credit_loop net all) ≡ false → list_any (is_aggregations net) all ≡ false
    → aggregation_credit_loop net all ≡ None
no_aggregation net all none no_one =
    let free = none_of (credit_loop net all) none in
    ap (λ (found : Option (List PortRef)). if_none found (deadlock net (lids_of (filter (is_others net) all)))) free
    ∙ sym (ap (deadlock_on net) (all_everywhere net all no_one)) ∙ free

pub no_deciding : {X : Type 0} (o other : Option X) → is_some o ≡ true → if_none o other ≡ None
no_deciding None other some = absurd (false≢true some)
no_deciding (Some x) other some = refl

pub after_none : {X : Type 0} (o other : Option X) → is_some o ≡ false → if_none o other ≡ other
after_none None other none = refl
after_none (Some x) other none = absurd (false≢true (sym none))

pub no_switches : {X : Type 0} (o other third : Option X) → (is_some o || is_some other) ≡ true → if_none o (if_none other third) ≡ None
no_switches (Some x) other third some = refl
no_switches None (Some x) third some = refl
no_switches None None third some = absurd (false≢true some)

pub after_both : {X : Type 0} (o other third : Option X) → (is_some o || is_some other) ≡ false → if_none o (if_none other third) ≡ third
after_both (Some x) other third none = absurd (false≢true (sym none))
after_both None (Some x) third none = absurd (false≢true (sym none))
after_both None None third none = refl
