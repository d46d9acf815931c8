-- Cycles that are reported are cycles, and none is missed.
use Rattle.std.proofs.Common.{◌≡◌, ◌∙◌, inl, inr, ap, ap₂, refl, subst, sym, ℕ, zero, suc, ◌+◌, ◌<◌, ◌≤◌, nat_lt, Bool, true, false, ◌==◌, ◌&&◌, ◌||◌, List, [], ◌∷◌, length, map, filter, find, get_or, arith, Option, Some, None, option_map, if◌then◌else◌}
use Rattle.std.specs.List.{enumerate_from, list_all, list_any, range_with_len}
use Rattle.std.specs.Option.{option_or}
use Rattle.std.proofs.lemmas.Bool.{and_from, and_parts, cases_Bool, cases_lt, eq-eqb, false_from_ne_true, false≢true, or_right}
use Rattle.std.proofs.lemmas.Bool.Decides.{nat_tests}
use Rattle.std.proofs.lemmas.List.{length-map}
use Rattle.std.proofs.lemmas.Option.{same_Some}
use Rattle.fabric_parts.specs.Cable.{is_same_port, port}
use Rattle.fabric_parts.specs.declared.cable.PortRef.{PortRef}
use Rattle.audit_loops.specs.Channels.{channel_at, channels, dependencies, depends, depends_on, leads_to, nexts, takes_both}
use Rattle.audit_loops.specs.Courses.{CourseState, everywhere}
use Rattle.audit_loops.specs.Cycle.{after, cycle, cycle_through, first_cycle, goes_home, leads, shortest, way}
use Rattle.audit_loops.specs.Laws.{NoCycleIsMissed, NoCycleIsMissedOnCourses, ReportedLoopsWait, ReportedLoopsWaitOnCourses, are_channels, is_cycle, wait_round}
use Rattle.audit_loops.specs.Marks.{round, rounds, some_leads}
use Rattle.audit_net.specs.Net.{NetState}
use Rattle.audit_loops.proofs.CycleLemmas.{find_in, marks_lead}
use Rattle.audit_net.proofs.EndlessLemmas.{any_of, some_of}
use Rattle.step_results.proofs.ListLemmas.{any_map}
use Rattle.step_results.proofs.BoolLemmas.{mapped_some}
use Rattle.topo_file.specs.Rounds.{is_marked}
use Rattle.audit_net.proofs.RoundLemmas.{AreGrowing, are_below, marked_below, settled}

-- ---- rounds only mark more
below_none : (graph : List (List ℕ)) (f : List ℕ → Bool) → are_below (map (λ nexts. false) graph) (map f graph) ≡ true
below_none [] f = refl
below_none (first ∷ graph) f = below_none graph f

some_more : (home : ℕ) (one more : List Bool) (nexts : List ℕ) → are_below one more ≡ true → some_leads home one nexts ≡ true → some_leads home more nexts ≡ true
some_more home one more nexts below some =
    let next = some_of (λ next. (next == home) || is_marked one next) nexts some in
    any_of (λ n. (n == home) || is_marked more n) nexts next.0 next.2 (elim (cases_Bool (next.0 == home)) [
      | inl here ↦ rw here refl
      | inr other ↦ or_right (next.0 == home) _ (marked_below one more next.0 below (rw other at next.1))
    ])

below_mapped : (f g : List ℕ → Bool) (graph : List (List ℕ)) → ((nexts : List ℕ) → f nexts ≡ true → g nexts ≡ true) → are_below (map f graph) (map g graph) ≡ true
below_mapped f g [] more = refl
below_mapped f g (nexts ∷ graph) more = elim (cases_Bool (f nexts)) [
  | inl here ↦ rw (here, more nexts here) (below_mapped f g graph more)
  | inr other ↦ rw other (below_mapped f g graph more)
]

rounds_grow : (graph : List (List ℕ)) (home n : ℕ) → are_below (rounds graph home n) (rounds graph home (suc n)) ≡ true
rounds_grow graph home zero = below_none graph (λ nexts. some_leads home (rounds graph home 0) nexts)
rounds_grow graph home (suc n) =
    below_mapped (λ nexts. some_leads home (rounds graph home n) nexts) (λ nexts. some_leads home (rounds graph home (suc n)) nexts) graph
    (λ nexts some. some_more home (rounds graph home n) (rounds graph home (suc n)) nexts (rounds_grow graph home n) some)

long_rounds : (graph : List (List ℕ)) (home n : ℕ) → length (rounds graph home n) ≡ length graph
long_rounds graph home zero = length-map graph (λ nexts. false)
long_rounds graph home (suc n) = length-map graph (λ nexts. some_leads home (rounds graph home n) nexts)

growing : (graph : List (List ℕ)) (home : ℕ) → AreGrowing (rounds graph home) (length graph)
growing graph home = record {
  grows = rounds_grow graph home;
  long = λ n. let same = long_rounds graph home n in omega (arith, same);
  follows = λ n m same. ap (round graph home) same;
}

-- what leads home at all does so within as many dependencies as there are things
leads_in_time : (graph : List (List ℕ)) (count a home : ℕ) → leads graph count a home ≡ true → leads graph (length graph) a home ≡ true
leads_in_time graph count a home comes =
    sym (marks_lead graph home (length graph) a)
    ∙ marked_below (rounds graph home count) (rounds graph home (length graph)) a (settled (rounds graph home) (length graph) (growing graph home) count) (marks_lead graph home count a ∙ comes)

-- ---- where no cycle is found there is none
none_found : (test : ℕ → Bool) (low many k : ℕ) → find test (range_with_len low many) ≡ None → low ≤ k → k < low + many → test k ≡ false
none_found test low zero k none from to = absurd (omega (arith, from, to))
none_found test low (suc many) k none from to = elim (cases_Bool (test low)) [
  | inl here ↦ let found : Some low ≡ None = rw here at none in absurd (cc)
  | inr other ↦ elim (cases_lt low k) [
    | inl later ↦ none_found test (low + 1) many k (rw other at none) (omega (arith, later)) (omega (arith, to))
    | inr here ↦ let same : k ≡ low = omega (arith, from, here) in rw same other
  ]
]

none_of_first : (graph : List (List ℕ)) (low many k : ℕ) → first_cycle graph (range_with_len low many) ≡ None → low ≤ k → k < low + many → cycle_through graph k ≡ None
none_of_first graph low zero k none from to = absurd (omega (arith, from, to))
none_of_first graph low (suc many) k none from to = elim (cases_lt low k) [
  | inl later ↦ none_of_first graph (low + 1) many k (or_second (cycle_through graph low) _ none) (omega (arith, later)) (omega (arith, to))
  | inr here ↦ let same : k ≡ low = omega (arith, from, here) in rw same (or_first (cycle_through graph low) _ none)
]
  where
    or_first : (a b : Option (List ℕ)) → option_or a b ≡ None → a ≡ None
    or_first None b none = refl
    or_first (Some x) b none = none

    or_second : (a b : Option (List ℕ)) → option_or a b ≡ None → b ≡ None
    or_second None b none = none
    or_second (Some x) b none = absurd (cc)

mapped_none : (f : ℕ → List ℕ) (o : Option ℕ) → option_map f o ≡ None → o ≡ None
mapped_none f None none = refl
mapped_none f (Some n) none = absurd (cc)

within_graph : (p : ℕ → Bool) (graph : List (List ℕ)) (a : ℕ) → list_any p (get_or graph a []) ≡ true → a < length graph
within_graph p [] a some = absurd (false≢true some)
within_graph p (first ∷ rest) zero some = omega arith
within_graph p (first ∷ rest) (suc a) some = let later = within_graph p rest a some in omega (arith, later)

leads_within : (graph : List (List ℕ)) (count a b : ℕ) → leads graph count a b ≡ true → a < length graph
leads_within graph zero a b comes = absurd (false≢true comes)
leads_within graph (suc count) a b comes = within_graph (λ next. (next == b) || leads graph count next b) graph a comes

pub none_is_none : (graph : List (List ℕ)) → cycle graph ≡ None → (count a : ℕ) → leads graph count a a ≡ true → ⊥
none_is_none graph none count a comes =
    let within = leads_within graph count a a comes in
    let through = none_of_first graph 0 (length graph) a none (omega arith) (omega (arith, within)) in
    let away = mapped_none (λ n. a ∷ way graph n a a) (shortest graph a) through in
    false≢true (sym (none_found (λ n. leads graph n a a) 0 (length graph + 1) (length graph) away (omega arith) (omega arith)) ∙ leads_in_time graph count a a comes)

-- ---- the way home is one of dependencies
abbrev pub num_round : (ℕ → ℕ → Bool) → ℕ → List ℕ → Bool
num_round waits first [] = false
num_round waits first (a ∷ []) = waits a first
num_round waits first (a ∷ b ∷ rest) = waits a b && num_round waits first (b ∷ rest)

abbrev pub waits_for : List (List ℕ) → ℕ → ℕ → Bool
waits_for graph a b = list_any (λ next. next == b) (after graph a)

found_of : (p : ℕ → Bool) (xs : List ℕ) → list_any p xs ≡ true → (x : ℕ) × (find p xs ≡ Some x) × (p x ≡ true) × (list_any (λ y. y == x) xs ≡ true)
found_of p [] some = absurd (false≢true some)
found_of p (x ∷ xs) some = elim (cases_Bool (p x)) [
  | inl here ↦ (x, (rw here refl), here, let same : (x == x) ≡ true = eq-eqb x x refl in rw same refl)
  | inr other ↦ let rest = found_of p xs (rw other at some) in (rest.0, (rw other rest.1), rest.2, or_right (x == rest.0) _ rest.3)
]

way_waits : (graph : List (List ℕ)) (count a home : ℕ) → leads graph count a home ≡ true → num_round (waits_for graph) home (a ∷ way graph count a home) ≡ true
way_waits graph zero a home comes = absurd (false≢true comes)
way_waits graph (suc count) a home comes =
    let next = found_of (λ n. (n == home) || leads graph count n home) (after graph a) comes in
    let step : way graph (suc count) a home ≡ goes_home home (λ n. way graph count n home) (Some next.0) = ap (goes_home home (λ n. way graph count n home)) next.1 in
    elim (cases_Bool (next.0 == home)) [
      | inl here ↦
          let same : next.0 ≡ home = grind (arith, nat_tests, here) in
          let none : way graph (suc count) a home ≡ [] = step ∙ (rw here refl) in
          rw none (subst (λ (n : ℕ). waits_for graph a n ≡ true) same next.3)
      | inr other ↦
          let more : way graph (suc count) a home ≡ next.0 ∷ way graph count next.0 home = step ∙ (rw other refl) in
          rw more (and_from (waits_for graph a next.0) _ next.3 (way_waits graph count next.0 home (rw other at next.2)))
    ]

-- ---- channels by their places
in_nexts : (test : PortRef → Bool) (low : ℕ) (xs : List PortRef) (y : ℕ) → list_any (λ n. n == y) (map (λ p. p.0) (filter (λ p. test p.1) (enumerate_from low xs))) ≡ true
    → (k : ℕ) × (low + k ≡ y) × (k < length xs) × (test (get_or xs k (port 0 0)) ≡ true)
in_nexts test low [] y there = absurd (false≢true there)
in_nexts test low (x ∷ xs) y there = elim (cases_Bool (test x)) [
  | inl passes ↦ elim (cases_Bool (low == y)) [
    | inl here ↦ (0, (let same : low + 0 ≡ y = grind (arith, nat_tests, here) in same), omega arith, passes)
    | inr other ↦ let rest = in_nexts test (low + 1) xs y (rw other at (rw passes at there)) in (suc rest.0, omega (arith, rest.1), omega (arith, rest.2), rest.3)
  ]
  | inr fails ↦ let rest = in_nexts test (low + 1) xs y (rw fails at there) in (suc rest.0, omega (arith, rest.1), omega (arith, rest.2), rest.3)
]

are_nexts : (test : PortRef → Bool) (low : ℕ) (xs : List PortRef) (k y : ℕ) → low + k ≡ y → k < length xs → test (get_or xs k (port 0 0)) ≡ true
    → list_any (λ n. n == y) (map (λ p. p.0) (filter (λ p. test p.1) (enumerate_from low xs))) ≡ true
are_nexts test low [] k y is within passes = absurd (omega (arith, within))
are_nexts test low (x ∷ xs) zero y is within passes = let here : (low == y) ≡ true = eq-eqb low y (omega (arith, is)) in rw (passes, here) refl
are_nexts test low (x ∷ xs) (suc k) y is within passes =
    let later = are_nexts test (low + 1) xs k y (omega (arith, is)) (omega (arith, within)) passes in
    elim (cases_Bool (test x)) [
      | inl keeps ↦ rw keeps (or_right (low == y) _ later)
      | inr drops ↦ rw drops later
    ]

mapped_at : (f : PortRef → List ℕ) (xs : List PortRef) (i : ℕ) → i < length xs → get_or (map f xs) i [] ≡ f (get_or xs i (port 0 0))
mapped_at f [] i within = absurd (omega (arith, within))
mapped_at f (x ∷ xs) zero within = refl
mapped_at f (x ∷ xs) (suc i) within = mapped_at f xs i (omega (arith, within))

-- whichever ports these are, and whatever makes one wait for another
abbrev pub at_place_of : List PortRef → ℕ → PortRef
at_place_of all i = get_or all i (port 0 0)

abbrev pub nexts_among : (PortRef → PortRef → Bool) → List PortRef → PortRef → List ℕ
nexts_among waits all a = map (λ p. p.0) (filter (λ p. waits a p.1) (enumerate_from 0 all))

abbrev pub graph_among : (PortRef → PortRef → Bool) → List PortRef → List (List ℕ)
graph_among waits all = map (nexts_among waits all) all

waiting_among : (waits : PortRef → PortRef → Bool) (all : List PortRef) (i j : ℕ) → waits_for (graph_among waits all) i j ≡ true
    → waits (at_place_of all i) (at_place_of all j) ≡ true
waiting_among waits all i j is =
    let long : i < length (graph_among waits all) = within_graph (λ next. next == j) (graph_among waits all) i is in
    let within : i < length all = let same = length-map all (nexts_among waits all) in omega (arith, long, same) in
    let found = in_nexts (waits (at_place_of all i)) 0 all j (ap (list_any (λ next. next == j)) (sym (mapped_at (nexts_among waits all) all i within)) ∙ is) in
    let same : found.0 ≡ j = omega (arith, found.1) in
    subst (λ (n : ℕ). waits (at_place_of all i) (at_place_of all n) ≡ true) same found.3

waits_among : (waits : PortRef → PortRef → Bool) (all : List PortRef) (i j : ℕ) → i < length all → j < length all
    → waits (at_place_of all i) (at_place_of all j) ≡ true → waits_for (graph_among waits all) i j ≡ true
waits_among waits all i j one other is =
    ap (list_any (λ next. next == j)) (mapped_at (nexts_among waits all) all i one)
    ∙ are_nexts (waits (at_place_of all i)) 0 all j j (omega arith) other is

round_among : (waits : PortRef → PortRef → Bool) (all : List PortRef) (first a : ℕ) (rest : List ℕ) → num_round (waits_for (graph_among waits all)) first (a ∷ rest) ≡ true
    → wait_round waits (at_place_of all first) (map (at_place_of all) (a ∷ rest)) ≡ true
round_among waits all first a [] round = waiting_among waits all a first round
round_among waits all first a (b ∷ rest) round =
    let parts = and_parts (waits_for (graph_among waits all) a b) _ round in
    and_from (waits (at_place_of all a) (at_place_of all b)) _ (waiting_among waits all a b parts.0) (round_among waits all first b rest parts.1)

first_is : (graph : List (List ℕ)) (places ring : List ℕ) → first_cycle graph places ≡ Some ring → (a : ℕ) × (count : ℕ) × (leads graph count a a ≡ true) × (ring ≡ a ∷ way graph count a a)
first_is graph [] ring found = cc
first_is graph (a ∷ places) ring found = by (shortest graph a) refl found (λ k. first_is graph places ring k)
  where
    by : (o : Option ℕ) → shortest graph a ≡ o → option_or (option_map (λ count. a ∷ way graph count a a) o) (first_cycle graph places) ≡ Some ring
        → (first_cycle graph places ≡ Some ring → (b : ℕ) × (count : ℕ) × (leads graph count b b ≡ true) × (ring ≡ b ∷ way graph count b b))
        → (b : ℕ) × (count : ℕ) × (leads graph count b b ≡ true) × (ring ≡ b ∷ way graph count b b)
    by (Some count) is here later =
        (a, count, (find_in (λ n. leads graph n a a) 0 (length graph + 1) count is).0, sym (same_Some (a ∷ way graph count a a) ring here))
    by None is here later = later here

-- what waits for something has a place in the graph
round_within : (graph : List (List ℕ)) (first a : ℕ) (rest : List ℕ) → num_round (waits_for graph) first (a ∷ rest) ≡ true
    → list_all (λ i. nat_lt i (length graph)) (a ∷ rest) ≡ true
round_within graph first a [] waits =
    let within = within_graph (λ next. next == first) graph a waits in
    let less : nat_lt a (length graph) ≡ true = grind (arith, nat_tests, within) in
    rw less refl
round_within graph first a (b ∷ rest) waits =
    let parts = and_parts (waits_for graph a b) _ waits in
    let within = within_graph (λ next. next == b) graph a parts.0 in
    let less : nat_lt a (length graph) ≡ true = grind (arith, nat_tests, within) in
    rw less (round_within graph first b rest parts.1)

at_place : (xs : List PortRef) (i : ℕ) → i < length xs → list_any (is_same_port (get_or xs i (port 0 0))) xs ≡ true
at_place [] i within = absurd (omega (arith, within))
at_place (x ∷ xs) zero within =
    let node : (x.node == x.node) ≡ true = eq-eqb x.node x.node refl in
    let number : (x.port == x.port) ≡ true = eq-eqb x.port x.port refl in
    rw (node, number) refl
at_place (x ∷ xs) (suc i) within = or_right (is_same_port (get_or xs i (port 0 0)) x) _ (at_place xs i (omega (arith, within)))

-- all of a ring are among these
abbrev pub are_among : List PortRef → List PortRef → Bool
are_among all ring = list_all (λ at. list_any (is_same_port at) all) ring

places_are_among : (all : List PortRef) (places : List ℕ) → list_all (λ i. nat_lt i (length all)) places ≡ true → are_among all (map (at_place_of all) places) ≡ true
places_are_among all [] within = refl
places_are_among all (i ∷ places) within =
    let parts = and_parts (nat_lt i (length all)) _ within in
    and_from (list_any (is_same_port (at_place_of all i)) all) _ (at_place all i (grind (arith, nat_tests, parts.0))) (places_are_among all places parts.1)

pub rings_wait : (waits : PortRef → PortRef → Bool) (all ring : List PortRef) → option_map (map (at_place_of all)) (cycle (graph_among waits all)) ≡ Some ring
    → (are_among all ring ≡ true) × (is_cycle waits ring ≡ true)
rings_wait waits all ring reported =
    let graph = graph_among waits all in
    let places = mapped_some (map (at_place_of all)) (cycle graph) ring reported in
    let found = first_is graph (range_with_len 0 (length graph)) places.0 places.1 in
    let round = way_waits graph found.1 found.0 found.0 found.2 in
    let rest = way graph found.1 found.0 found.0 in
    let within = round_within graph found.0 found.0 rest round in
    let long : length graph ≡ length all = length-map all (nexts_among waits all) in
    let same : map (at_place_of all) (found.0 ∷ rest) ≡ ring = ap (map (at_place_of all)) (sym found.3) ∙ places.2 in (
      subst (λ (r : List PortRef). are_among all r ≡ true) same
          (places_are_among all (found.0 ∷ rest) (subst (λ (n : ℕ). list_all (λ i. nat_lt i n) (found.0 ∷ rest) ≡ true) long within)),
      subst (λ (r : List PortRef). is_cycle waits r ≡ true) same (round_among waits all found.0 found.0 rest round),
    )

pub reported_loops_wait_on_courses : ReportedLoopsWaitOnCourses
reported_loops_wait_on_courses net courses ring reported = rings_wait (depends_on net courses) (channels net) ring reported

-- ---- LIDs that count at all switches
pub depends_everywhere : (net : NetState) (lids : List ℕ) (a b : PortRef) → depends_on net (map everywhere lids) a b ≡ depends net lids a b
depends_everywhere net lids a b = ap (λ (some : Bool). leads_to net a b.node && some) (any_map (takes_both net a b) everywhere lids)

round_alike : (one other : PortRef → PortRef → Bool) → ((a b : PortRef) → one a b ≡ other a b) → (first : PortRef) (ring : List PortRef)
    → wait_round one first ring ≡ wait_round other first ring
round_alike one other same first [] = refl
round_alike one other same first (a ∷ []) = same a first
round_alike one other same first (a ∷ b ∷ rest) = ap₂ (λ (x y : Bool). x && y) (same a b) (round_alike one other same first (b ∷ rest))

cycle_alike : (one other : PortRef → PortRef → Bool) → ((a b : PortRef) → one a b ≡ other a b) → (ring : List PortRef) → is_cycle one ring ≡ is_cycle other ring
cycle_alike one other same [] = refl
cycle_alike one other same (a ∷ rest) = round_alike one other same a (a ∷ rest)

cycle_everywhere : (net : NetState) (lids : List ℕ) (ring : List PortRef) → is_cycle (depends_on net (map everywhere lids)) ring ≡ is_cycle (depends net lids) ring
cycle_everywhere net lids ring = cycle_alike (depends_on net (map everywhere lids)) (depends net lids) (depends_everywhere net lids) ring

pub reported_loops_wait : ReportedLoopsWait
reported_loops_wait net lids ring reported =
    let found = reported_loops_wait_on_courses net (map everywhere lids) ring reported in
    (found.0, sym (cycle_everywhere net lids ring) ∙ found.1)

-- ---- a cycle of channels is one of their places
abbrev place_in : PortRef → List PortRef → ℕ
place_in at [] = 0
place_in at (x ∷ xs) = if is_same_port at x then 0 else suc (place_in at xs)

same_port : (a b : PortRef) → is_same_port a b ≡ true → b ≡ a
same_port a b same =
    let parts = and_parts (a.node == b.node) _ same in
    let node : b.node ≡ a.node = grind (arith, nat_tests, parts.0) in
    let number : b.port ≡ a.port = grind (arith, nat_tests, parts.1) in
    ap₂ (λ (n p : ℕ). port n p) node number

placed : (at : PortRef) (xs : List PortRef) → list_any (is_same_port at) xs ≡ true → (place_in at xs < length xs) × (get_or xs (place_in at xs) (port 0 0) ≡ at)
placed at [] there = absurd (false≢true there)
placed at (x ∷ xs) there = elim (cases_Bool (is_same_port at x)) [
  | inl here ↦ rw here (omega arith, same_port at x here)
  | inr other ↦ let rest = placed at xs (rw other at there) in rw other (omega (arith, rest.0), rest.1)
]

round_leads : (waits : PortRef → PortRef → Bool) (all : List PortRef) (first a : PortRef) (rest : List PortRef) → list_any (is_same_port first) all ≡ true
    → are_among all (a ∷ rest) ≡ true → wait_round waits first (a ∷ rest) ≡ true
    → leads (graph_among waits all) (suc (length rest)) (place_in a all) (place_in first all) ≡ true
round_leads waits all first a [] is_one are round =
    let parts = and_parts (list_any (is_same_port a) all) _ are in
    let here = placed a all parts.0 in
    let home = placed first all is_one in
    let step = waits_among waits all (place_in a all) (place_in first all) here.0 home.0 (rw (here.1, home.1) round) in
    any_of (λ next. (next == place_in first all) || false) (after (graph_among waits all) (place_in a all)) (place_in first all) step
    (let same : (place_in first all == place_in first all) ≡ true = eq-eqb _ _ refl in rw same refl)
round_leads waits all first a (b ∷ rest) is_one are round =
    let parts = and_parts (list_any (is_same_port a) all) _ are in
    let next = and_parts (list_any (is_same_port b) all) _ parts.1 in
    let both = and_parts (waits a b) _ round in
    let here = placed a all parts.0 in
    let there = placed b all next.0 in
    let step = waits_among waits all (place_in a all) (place_in b all) here.0 there.0 (rw (here.1, there.1) both.0) in
    any_of (λ n. (n == place_in first all) || leads (graph_among waits all) (suc (length rest)) n (place_in first all))
    (after (graph_among waits all) (place_in a all)) (place_in b all) step
    (or_right (place_in b all == place_in first all) _ (round_leads waits all first b rest is_one parts.1 both.1))

none_mapped : (f : List ℕ → List PortRef) (o : Option (List ℕ)) → option_map f o ≡ None → o ≡ None
none_mapped f None none = refl
none_mapped f (Some n) none = absurd (cc)

pub no_ring_missed : (waits : PortRef → PortRef → Bool) (all : List PortRef) → option_map (map (at_place_of all)) (cycle (graph_among waits all)) ≡ None
    → (ring : List PortRef) → are_among all ring ≡ true → is_cycle waits ring ≡ false
no_ring_missed waits all none [] are = refl
no_ring_missed waits all none (a ∷ rest) are =
    let parts = and_parts (list_any (is_same_port a) all) _ are in
    false_from_ne_true _ (λ round.
    none_is_none (graph_among waits all) (none_mapped (map (at_place_of all)) (cycle (graph_among waits all)) none) (suc (length rest)) (place_in a all)
    (round_leads waits all a a rest parts.0 are round))

pub no_cycle_is_missed_on_courses : NoCycleIsMissedOnCourses
no_cycle_is_missed_on_courses net courses none ring are = no_ring_missed (depends_on net courses) (channels net) none ring are

pub no_cycle_is_missed : NoCycleIsMissed
no_cycle_is_missed net lids none ring are = sym (cycle_everywhere net lids ring) ∙ no_cycle_is_missed_on_courses net (map everywhere lids) none ring are
