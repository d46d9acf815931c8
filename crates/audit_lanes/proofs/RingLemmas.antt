-- Cycles of lanes that are reported are cycles, and none is missed: by the same laws of channels, with each lane numbered as a port.
use Rattle.std.proofs.Common.{◌≡◌, ◌∙◌, inl, inr, ap, ap₂, refl, subst, sym, ℕ, zero, suc, ◌+◌, ◌<◌, ◌≤◌, Bool, true, false, ◌==◌, ◌&&◌, List, [], ◌∷◌, length, map, filter, get_or, arith, Option, Some, None, option_map, if◌then◌else◌}
use Rattle.std.specs.List.{enumerate_from, list_all, list_any, range_with_len}
use Rattle.std.proofs.lemmas.Bool.{and_from, and_parts, cases_Bool, cases_lt, eq-eqb, false≢true, or_right}
use Rattle.std.proofs.lemmas.Bool.Decides.{nat_tests}
use Rattle.step_results.proofs.BoolLemmas.{mapped_some}
use Rattle.fabric_parts.specs.Cable.{is_same_port, port}
use Rattle.fabric_parts.specs.declared.cable.PortRef.{PortRef}
use Rattle.audit_loops.specs.Cycle.{cycle}
use Rattle.audit_loops.specs.Laws.{is_cycle as is_port_cycle, wait_round as wait_port_round}
use Rattle.audit_loops.proofs.CycleLawLemmas.{are_among, at_place_of, graph_among, nexts_among, no_ring_missed, rings_wait}
use Rattle.audit_lanes.specs.declared.lane.Lane.{Lane}
use Rattle.audit_lanes.specs.Deadlock.{deadlock_among, graph_of, lane_at, nexts}
use Rattle.audit_lanes.specs.Lanes.{is_same_lane, lane}
use Rattle.audit_lanes.specs.Laws.{is_cycle, wait_round}
use Rattle.audit_routes.proofs.SafeLemmas.{same_port}

-- ---- the port of a number, from 1 on, and the lane of a port
abbrev port_of : ℕ → PortRef
port_of i = port (i + 1) 0

abbrev ports_of : (low many : ℕ) → List PortRef
ports_of low many = map port_of (range_with_len low many)

abbrev lane_by : List Lane → ℕ → Lane
lane_by all zero = lane (port 0 0) 0
lane_by all (suc i) = lane_at all i

abbrev lane_of_port : List Lane → PortRef → Lane
lane_of_port all at = lane_by all at.node

abbrev by_ports : (Lane → Lane → Bool) → List Lane → PortRef → PortRef → Bool
by_ports waits all a b = waits (lane_of_port all a) (lane_of_port all b)

one_up : (i : ℕ) → i + 1 ≡ suc i
one_up i = omega arith

of_number : (all : List Lane) (i : ℕ) → lane_of_port all (port_of i) ≡ lane_at all i
of_number all i = ap (lane_by all) (one_up i)

-- ---- the graph of ports is that of lanes
same_nexts : (test : PortRef → Bool) (pass : Lane → Bool) (low : ℕ) (xs : List Lane)
    → ((k : ℕ) → k < length xs → test (port_of (low + k)) ≡ pass (lane_at xs k))
    → map (λ p. p.0) (filter (λ p. test p.1) (enumerate_from low (ports_of low (length xs)))) ≡ map (λ p. p.0) (filter (λ p. pass p.1) (enumerate_from low xs))
same_nexts test pass low [] same = refl
same_nexts test pass low (x ∷ xs) same =
    let here : test (port_of low) ≡ pass x = ap (λ (n : ℕ). test (port_of n)) (let one : low ≡ low + 0 = omega arith in one) ∙ same 0 (omega arith) in
    let rest = same_nexts test pass (low + 1) xs
    (λ k within. ap (λ (n : ℕ). test (port_of n)) (let one : low + 1 + k ≡ low + suc k = omega arith in one) ∙ same (suc k) (omega (arith, within))) in
    elim (cases_Bool (pass x)) [
      | inl keeps ↦ let kept : test (port_of low) ≡ true = here ∙ keeps in rw (kept, keeps, rest) refl
      | inr drops ↦ let dropped : test (port_of low) ≡ false = here ∙ drops in rw (dropped, drops, rest) refl
    ]

same_mapped : (f : PortRef → List ℕ) (g : Lane → List ℕ) (low : ℕ) (xs : List Lane) → ((k : ℕ) → k < length xs → f (port_of (low + k)) ≡ g (lane_at xs k))
    → map f (ports_of low (length xs)) ≡ map g xs
same_mapped f g low [] same = refl
same_mapped f g low (x ∷ xs) same =
    let here : f (port_of low) ≡ g x = ap (λ (n : ℕ). f (port_of n)) (let one : low ≡ low + 0 = omega arith in one) ∙ same 0 (omega arith) in
    let rest = same_mapped f g (low + 1) xs
    (λ k within. ap (λ (n : ℕ). f (port_of n)) (let one : low + 1 + k ≡ low + suc k = omega arith in one) ∙ same (suc k) (omega (arith, within))) in
    ap₂ (λ (a : List ℕ) (b : List (List ℕ)). a ∷ b) here rest

abbrev all_ports : List Lane → List PortRef
all_ports all = ports_of 0 (length all)

from_0 : (k : ℕ) → 0 + k ≡ k
from_0 k = omega arith

nexts_same : (waits : Lane → Lane → Bool) (all : List Lane) (i : ℕ) → nexts_among (by_ports waits all) (all_ports all) (port_of i) ≡ nexts waits all (lane_at all i)
nexts_same waits all i =
    same_nexts (by_ports waits all (port_of i)) (waits (lane_at all i)) 0 all
    (λ k within. ap₂ waits (of_number all i) (of_number all (0 + k) ∙ ap (lane_at all) (from_0 k)))

graph_same : (waits : Lane → Lane → Bool) (all : List Lane) → graph_among (by_ports waits all) (all_ports all) ≡ graph_of waits all
graph_same waits all =
    same_mapped (nexts_among (by_ports waits all) (all_ports all)) (nexts waits all) 0 all
    (λ k within. nexts_same waits all (0 + k) ∙ ap (λ (n : ℕ). nexts waits all (lane_at all n)) (from_0 k))

-- ---- the lanes of the ports at places are the lanes there
port_there : (low many k : ℕ) → k < many → get_or (ports_of low many) k (port 0 0) ≡ port_of (low + k)
port_there low zero k within = absurd (omega (arith, within))
port_there low (suc many) zero within = ap port_of (let same : low ≡ low + 0 = omega arith in same)
port_there low (suc many) (suc k) within =
    port_there (low + 1) many k (omega (arith, within)) ∙ ap port_of (let same : low + 1 + k ≡ low + suc k = omega arith in same)

none_there : (low many k : ℕ) → many ≤ k → get_or (ports_of low many) k (port 0 0) ≡ port 0 0
none_there low zero k past = refl
none_there low (suc many) zero past = absurd (omega (arith, past))
none_there low (suc many) (suc k) past = none_there (low + 1) many k (omega (arith, past))

lane_past : (all : List Lane) (k : ℕ) → length all ≤ k → lane_at all k ≡ lane (port 0 0) 0
lane_past [] k past = refl
lane_past (x ∷ all) zero past = absurd (omega (arith, past))
lane_past (x ∷ all) (suc k) past = lane_past all k (omega (arith, past))

at_place : (all : List Lane) (k : ℕ) → lane_of_port all (at_place_of (all_ports all) k) ≡ lane_at all k
at_place all k = elim (cases_lt k (length all)) [
  | inl within ↦ ap (lane_of_port all) (port_there 0 (length all) k within) ∙ of_number all (0 + k) ∙ ap (lane_at all) (from_0 k)
  | inr past ↦ ap (lane_of_port all) (none_there 0 (length all) k past) ∙ sym (lane_past all k past)
]

at_places : (all : List Lane) (places : List ℕ) → map (lane_of_port all) (map (at_place_of (all_ports all)) places) ≡ map (lane_at all) places
at_places all [] = refl
at_places all (k ∷ places) = ap₂ (λ (a : Lane) (b : List Lane). a ∷ b) (at_place all k) (at_places all places)

-- ---- a round of ports is one of their lanes
same_round : (waits : Lane → Lane → Bool) (all : List Lane) (first a : PortRef) (rest : List PortRef)
    → wait_round waits (lane_of_port all first) (map (lane_of_port all) (a ∷ rest)) ≡ wait_port_round (by_ports waits all) first (a ∷ rest)
same_round waits all first a [] = refl
same_round waits all first a (b ∷ rest) = ap (λ (c : Bool). by_ports waits all a b && c) (same_round waits all first b rest)

same_cycle : (waits : Lane → Lane → Bool) (all : List Lane) (ring : List PortRef) → is_cycle waits (map (lane_of_port all) ring) ≡ is_port_cycle (by_ports waits all) ring
same_cycle waits all [] = refl
same_cycle waits all (a ∷ rest) = same_round waits all a a rest

-- ---- what is among the ports is among the lanes
same_lane_self : (one : Lane) → is_same_lane one one ≡ true
same_lane_self one =
    and_from (is_same_port one.at one.at) _
    (and_from (one.at.node == one.at.node) _ (eq-eqb one.at.node one.at.node refl) (eq-eqb one.at.port one.at.port refl)) (eq-eqb one.vl one.vl refl)

pub same_lane : (a b : Lane) → is_same_lane a b ≡ true → a ≡ b
same_lane a b same =
    let parts = and_parts (is_same_port a.at b.at) _ same in
    let number : a.vl ≡ b.vl = grind (arith, nat_tests, parts.1) in
    ap₂ lane (same_port a.at b.at parts.0) number

lane_there : (all : List Lane) (k : ℕ) → k < length all → list_any (is_same_lane (lane_at all k)) all ≡ true
lane_there [] k within = absurd (omega (arith, within))
lane_there (x ∷ all) zero within = let itself = same_lane_self x in rw itself refl
lane_there (x ∷ all) (suc k) within = or_right (is_same_lane (lane_at all k) x) _ (lane_there all k (omega (arith, within)))

number_of : (low many : ℕ) (at : PortRef) → list_any (is_same_port at) (ports_of low many) ≡ true → (k : ℕ) × (k < many) × (at ≡ port_of (low + k))
number_of low zero at there = absurd (false≢true there)
number_of low (suc many) at there = elim (cases_Bool (is_same_port at (port_of low))) [
  | inl here ↦ (0, omega arith, same_port at (port_of low) here ∙ ap port_of (let same : low ≡ low + 0 = omega arith in same))
  | inr other ↦
      let rest = number_of (low + 1) many at (rw other at there) in
      (suc rest.0, omega (arith, rest.1), rest.2 ∙ ap port_of (let same : low + 1 + rest.0 ≡ low + suc rest.0 = omega arith in same))
]

one_among : (all : List Lane) (at : PortRef) → list_any (is_same_port at) (all_ports all) ≡ true → list_any (is_same_lane (lane_of_port all at)) all ≡ true
one_among all at there =
    let found = number_of 0 (length all) at there in
    let is : lane_of_port all at ≡ lane_at all found.0 = ap (lane_of_port all) found.2 ∙ of_number all (0 + found.0) ∙ ap (lane_at all) (from_0 found.0) in
    rw is (lane_there all found.0 found.1)

abbrev pub are_lanes_of : List Lane → List Lane → Bool
are_lanes_of all ring = list_all (λ one. list_any (is_same_lane one) all) ring

all_among : (all : List Lane) (ring : List PortRef) → are_among (all_ports all) ring ≡ true → are_lanes_of all (map (lane_of_port all) ring) ≡ true
all_among all [] are = refl
all_among all (at ∷ ring) are =
    let parts = and_parts (list_any (is_same_port at) (all_ports all)) _ are in
    and_from (list_any (is_same_lane (lane_of_port all at)) all) _ (one_among all at parts.0) (all_among all ring parts.1)

pub lane_rings_wait : (waits : Lane → Lane → Bool) (all ring : List Lane) → deadlock_among waits all ≡ Some ring
    → (are_lanes_of all ring ≡ true) × (is_cycle waits ring ≡ true)
lane_rings_wait waits all ring reported =
    let found = mapped_some (map (lane_at all)) (cycle (graph_of waits all)) ring reported in
    let places = found.0 in
    let ports = map (at_place_of (all_ports all)) places in
    let by = by_ports waits all in
    let some : cycle (graph_among by (all_ports all)) ≡ Some places = ap cycle (graph_same waits all) ∙ found.1 in
    let wait = rings_wait by (all_ports all) ports (ap (option_map (map (at_place_of (all_ports all)))) some) in
    let same : map (lane_of_port all) ports ≡ ring = at_places all places ∙ found.2 in (
      subst (λ (r : List Lane). are_lanes_of all r ≡ true) same (all_among all ports wait.0),
      subst (λ (r : List Lane). is_cycle waits r ≡ true) same (same_cycle waits all ports ∙ wait.1),
    )

-- ---- what is not: the port of each lane of a ring
abbrev place_in : Lane → List Lane → ℕ
place_in one [] = 0
place_in one (x ∷ xs) = if is_same_lane one x then 0 else suc (place_in one xs)

placed : (one : Lane) (xs : List Lane) → list_any (is_same_lane one) xs ≡ true → (place_in one xs < length xs) × (lane_at xs (place_in one xs) ≡ one)
placed one [] there = absurd (false≢true there)
placed one (x ∷ xs) there = elim (cases_Bool (is_same_lane one x)) [
  | inl here ↦ rw here (omega arith, sym (same_lane one x here))
  | inr other ↦ let rest = placed one xs (rw other at there) in rw other (omega (arith, rest.0), rest.1)
]

abbrev port_of_lane : List Lane → Lane → PortRef
port_of_lane all one = port_of (place_in one all)

port_among : (low many k : ℕ) → k < many → list_any (is_same_port (port_of (low + k))) (ports_of low many) ≡ true
port_among low zero k within = absurd (omega (arith, within))
port_among low (suc many) zero within =
    let same : low + 0 ≡ low = omega arith in
    let number : (low + 1 == low + 1) ≡ true = eq-eqb (low + 1) (low + 1) refl in
    rw (same, number) refl
port_among low (suc many) (suc k) within =
    let same : low + 1 + k ≡ low + suc k = omega arith in
    or_right (is_same_port (port_of (low + suc k)) (port_of low)) _
    (subst (λ (n : ℕ). list_any (is_same_port (port_of n)) (ports_of (low + 1) many) ≡ true) same (port_among (low + 1) many k (omega (arith, within))))

ring_ports : (all ring : List Lane) → are_lanes_of all ring ≡ true
    → (are_among (all_ports all) (map (port_of_lane all) ring) ≡ true) × (map (lane_of_port all) (map (port_of_lane all) ring) ≡ ring)
ring_ports all [] are = (refl, refl)
ring_ports all (one ∷ ring) are =
    let parts = and_parts (list_any (is_same_lane one) all) _ are in
    let place = placed one all parts.0 in
    let rest = ring_ports all ring parts.1 in
    let among : list_any (is_same_port (port_of_lane all one)) (all_ports all) ≡ true =
    subst (λ (n : ℕ). list_any (is_same_port (port_of n)) (all_ports all) ≡ true) (from_0 (place_in one all)) (port_among 0 (length all) (place_in one all) place.0) in (
      and_from (list_any (is_same_port (port_of_lane all one)) (all_ports all)) _ among rest.0,
      ap₂ (λ (a : Lane) (b : List Lane). a ∷ b) (of_number all (place_in one all) ∙ place.1) rest.1,
    )

none_mapped : (f : List ℕ → List Lane) (o : Option (List ℕ)) → option_map f o ≡ None → o ≡ None
none_mapped f None none = refl
none_mapped f (Some n) none = absurd (cc)

pub no_lane_ring_missed : (waits : Lane → Lane → Bool) (all : List Lane) → deadlock_among waits all ≡ None
    → (ring : List Lane) → are_lanes_of all ring ≡ true → is_cycle waits ring ≡ false
no_lane_ring_missed waits all none ring are =
    let by = by_ports waits all in
    let ports = map (port_of_lane all) ring in
    let back = ring_ports all ring are in
    let no_cycle : cycle (graph_among by (all_ports all)) ≡ None = ap cycle (graph_same waits all) ∙ none_mapped (map (lane_at all)) (cycle (graph_of waits all)) none in
    let missed = no_ring_missed by (all_ports all) (ap (option_map (map (at_place_of (all_ports all)))) no_cycle) ports back.0 in
    ap (is_cycle waits) (sym back.1) ∙ same_cycle waits all ports ∙ missed
