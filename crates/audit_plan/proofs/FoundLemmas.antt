-- The cables of a plan are those that the lines of a discovery report.
use Rattle.std.proofs.Common.{◌≡◌, ◌∙◌, ap, refl, sym, inl, inr, ℕ, Bool, true, false, not, ◌&&◌, List, [], ◌∷◌, ◌++◌, filter, position, get_or, slice_get, Option, Some, None, arith}
use Rattle.std.specs.Cmp.{both_ways}
use Rattle.std.specs.List.{list_all, list_any}
use Rattle.std.specs.Option.{option_map_or}
use Rattle.std.proofs.Math.Bool.{and_comm}
use Rattle.std.proofs.lemmas.Bool.{and_from, and_parts, cases_Bool, false≢true, or_left, or_right}
use Rattle.std.proofs.lemmas.Bool.Decides.{nat_tests}
use Rattle.std.proofs.lemmas.List.Quantifiers.{position-Some}
use Rattle.std.proofs.lemmas.List.Sorted.{IsPermutation-filter_both, list_any-IsPermutation}
use Rattle.std.proofs.lemmas.Map.Keys.{any_passes_from_place}
use Rattle.std.proofs.lemmas.Option.{option_and_then_some, slice_get-get_or}
use Rattle.fabric_parts.specs.Cable.{is_same_port, port}
use Rattle.fabric_parts.specs.declared.cable.Cable.{Cable}
use Rattle.fabric_parts.specs.declared.cable.PortRef.{PortRef}
use Rattle.netdiscover_file.specs.declared.node.Node.{Node as FoundNode}
use Rattle.netdiscover_file.specs.declared.port.PortLine.{PortLine}
use Rattle.netdiscover_file.specs.Agreement.{far_line, is_one_cable, names, stands_at_both_ends}
use Rattle.netdiscover_file.specs.Discovery.{DiscoveryState}
use Rattle.netdiscover_file.specs.Node.{place_of}
use Rattle.netdiscover_file.specs.Port.{line_of, place_of_line}
use Rattle.netdiscover_file.specs.Sound.{IsSound}
use Rattle.netdiscover_file.proofs.OtherEndLemmas.{one_other_end}
use Rattle.step_results.proofs.ListLemmas.{all_there, any_flat}
use Rattle.step_results.proofs.PlaceLemmas.{not_there}
use Rattle.audit_plan.specs.Laws.{CablesAreTaken, are_joined, has_far_line, joins}
use Rattle.audit_plan.specs.Plan.{cable_at, cable_if_first, cables_apart, comes_first, found_cables, joining_cables, joins_switch, plan_found}

-- ---- one of a list that passes a test
record Passing {X : Type 0} (test : X → Bool) (xs : List X) : Type 0 where
  pub place : ℕ
  pub element : X
  pub there : slice_get xs place ≡ Some element
  pub passes : test element ≡ true

passing : {X : Type 0} (test : X → Bool) (xs : List X) (x : X) → list_any test xs ≡ true → Passing test xs
passing test xs x some = by (position test xs) refl
  where
    by : (found : Option ℕ) → position test xs ≡ found → Passing test xs
    by None e = absurd (false≢true (sym (not_there test xs e) ∙ some))
    by (Some at) e =
        let is = position-Some test xs at x e in
        record { place = at; element = get_or xs at x; there = slice_get-get_or xs at x is.0; passes = is.1 }

-- ---- the line at the other end
record FarEnds (found : DiscoveryState) (line : PortLine) : Type 0 where
  pub place : ℕ
  pub other : PortLine
  pub there : slice_get found.ports place ≡ Some other
  pub far : far_line found.nodes found.ports line.far ≡ Some other
  pub cable : is_one_cable found.nodes line other ≡ true

far_ends : (found : DiscoveryState) (line other : PortLine) → far_line found.nodes found.ports line.far ≡ Some other
    → is_one_cable found.nodes line other ≡ true → FarEnds found line
far_ends found line other far cable =
    option_and_then_some (λ place. line_of (port place line.far.port) found.ports) (place_of line.far.node.guid found.nodes) other far
    (λ node is at.
    option_and_then_some (λ place. slice_get found.ports place) (place_of_line (port node line.far.port) found.ports) other at
    (λ place is there. record { place = place; other = other; there = there; far = far; cable = cable }))

stands : (found : DiscoveryState) (line : PortLine) → stands_at_both_ends found.nodes found.ports line ≡ true → FarEnds found line
stands found line h = by (far_line found.nodes found.ports line.far) refl h
  where
    by : (o : Option PortLine) → far_line found.nodes found.ports line.far ≡ o → option_map_or (is_one_cable found.nodes line) o false ≡ true → FarEnds found line
    by None e passes = absurd (false≢true passes)
    by (Some other) e passes = far_ends found line other e passes

at_both_ends : (found : DiscoveryState) → IsSound found → (place : ℕ) (line : PortLine) → slice_get found.ports place ≡ Some line → FarEnds found line
at_both_ends found sound place line there =
    stands found line (all_there (stands_at_both_ends found.nodes found.ports) found.ports place line sound.found there)

-- the line that names this one, and is named by it, is the one at the other end
far_is : (found : DiscoveryState) → IsSound found → (i j : ℕ) (line other : PortLine) → slice_get found.ports i ≡ Some line
    → slice_get found.ports j ≡ Some other → is_one_cable found.nodes line other ≡ true → far_line found.nodes found.ports line.far ≡ Some other
far_is found sound i j line other at_i at_j cable =
    let end = at_both_ends found sound i line at_i in
    let same : end.place ≡ j = one_other_end found sound line end.other other end.place j end.there at_j end.cable cable in
    end.far ∙ (sym end.there ∙ ap (slice_get found.ports) same ∙ at_j)

turned : (nodes : List FoundNode) (line other : PortLine) → is_one_cable nodes line other ≡ is_one_cable nodes other line
turned nodes line other = and_comm (names nodes line.far other) (names nodes other.far line)

-- ---- the cable of a line
one_comes_first : (a b : PortRef) → comes_first a b ≡ false → comes_first b a ≡ true
one_comes_first a b h = grind (arith, nat_tests)

cable_there : (p : Cable → Bool) (found : DiscoveryState) (line other : PortLine) → far_line found.nodes found.ports line.far ≡ Some other
    → comes_first line.port other.port ≡ true → p (record { first = line.port; second = other.port }) ≡ true → list_any p (cable_at found line) ≡ true
unfolding cable_at
cable_there p found line other far first passes = rw (far, first, passes) refl

among_all : (p : Cable → Bool) (found : DiscoveryState) (place : ℕ) (line : PortLine) → slice_get found.ports place ≡ Some line
    → list_any p (cable_at found line) ≡ true → list_any p (found_cables found) ≡ true
among_all p found place line there passes =
    any_flat p (cable_at found) found.ports ∙ any_passes_from_place (λ (one : PortLine). list_any p (cable_at found one)) found.ports place line there passes

pair_there : (found : DiscoveryState) → IsSound found → (a b : PortRef) (i j : ℕ) (line other : PortLine) → slice_get found.ports i ≡ Some line
    → slice_get found.ports j ≡ Some other → is_same_port line.port a ≡ true → is_same_port other.port b ≡ true
    → is_one_cable found.nodes line other ≡ true → list_any (joins a b) (found_cables found) ≡ true
pair_there found sound a b i j line other at_i at_j of_a of_b cable = elim (cases_Bool (comes_first line.port other.port)) [
  | inl first ↦
      among_all (joins a b) found i line at_i
      (cable_there (joins a b) found line other (far_is found sound i j line other at_i at_j cable) first
      (or_left (is_same_port line.port a && is_same_port other.port b) _ (and_from (is_same_port line.port a) _ of_a of_b)))
  | inr second ↦
      among_all (joins a b) found j other at_j
      (cable_there (joins a b) found other line (far_is found sound j i other line at_j at_i (turned found.nodes other line ∙ cable))
      (one_comes_first line.port other.port second)
      (or_right (is_same_port other.port a && is_same_port line.port b) _ (and_from (is_same_port other.port b) _ of_b of_a)))
]

from_lines : (found : DiscoveryState) (a b : PortRef) → IsSound found → are_joined found a b ≡ true → list_any (joins a b) (found_cables found) ≡ true
from_lines found a b sound some = by found.ports refl some
  where
    by : (lines : List PortLine) → found.ports ≡ lines → are_joined found a b ≡ true → list_any (joins a b) (found_cables found) ≡ true
    by [] e joined = absurd (let none = rw e at joined in cc)
    by (x ∷ rest) e joined =
        let one = passing (λ line. is_same_port line.port a && has_far_line found line b) found.ports x joined in
        let of_a = and_parts (is_same_port one.element.port a) _ one.passes in
        let two = passing (λ other. is_same_port other.port b && is_one_cable found.nodes one.element other) found.ports x of_a.1 in
        let of_b = and_parts (is_same_port two.element.port b) _ two.passes in
        pair_there found sound a b one.place two.place one.element two.element one.there two.there of_a.0 of_b.0 of_b.1

-- ---- and the lines of a cable
joined_by : (found : DiscoveryState) (a b : PortRef) (i j : ℕ) (line other : PortLine) → slice_get found.ports i ≡ Some line
    → slice_get found.ports j ≡ Some other → is_same_port line.port a ≡ true → is_same_port other.port b ≡ true
    → is_one_cable found.nodes line other ≡ true → are_joined found a b ≡ true
joined_by found a b i j line other at_i at_j of_a of_b cable =
    any_passes_from_place (λ (one : PortLine). is_same_port one.port a && has_far_line found one b) found.ports i line at_i
    (and_from (is_same_port line.port a) _ of_a
    (any_passes_from_place (λ (one : PortLine). is_same_port one.port b && is_one_cable found.nodes line one) found.ports j other at_j
    (and_from (is_same_port other.port b) _ of_b cable)))

in_one : (found : DiscoveryState) (a b : PortRef) (line other : PortLine) → list_any (joins a b) (cable_if_first line.port other.port) ≡ true
    → joins a b (record { first = line.port; second = other.port }) ≡ true
in_one found a b line other some = elim (cases_Bool (comes_first line.port other.port)) [
  | inl first ↦ elim (cases_Bool (joins a b (record { first = line.port; second = other.port }))) [
    | inl passes ↦ passes
    | inr fails ↦ absurd (let none = rw (first, fails) at some in cc)
  ]
  | inr second ↦ absurd (let none = rw second at some in cc)
]

lines_of : (found : DiscoveryState) (a b : PortRef) (i : ℕ) (line : PortLine) → slice_get found.ports i ≡ Some line → (end : FarEnds found line)
    → joins a b (record { first = line.port; second = end.other.port }) ≡ true → are_joined found a b ≡ true
lines_of found a b i line at end passes = elim (cases_Bool (is_same_port line.port a && is_same_port end.other.port b)) [
  | inl straight ↦
      let parts = and_parts (is_same_port line.port a) _ straight in
      joined_by found a b i end.place line end.other at end.there parts.0 parts.1 end.cable
  | inr not_straight ↦
      let parts = and_parts (is_same_port line.port b) (is_same_port end.other.port a) (rw not_straight at passes) in
      joined_by found a b end.place i end.other line end.there at parts.1 parts.0 (turned found.nodes end.other line ∙ end.cable)
]

at_line : (found : DiscoveryState) (a b : PortRef) → IsSound found → (i : ℕ) (line : PortLine) → slice_get found.ports i ≡ Some line
    → list_any (joins a b) (cable_at found line) ≡ true → are_joined found a b ≡ true
unfolding cable_at
at_line found a b sound i line at some =
    let end = at_both_ends found sound i line at in
    lines_of found a b i line at end (in_one found a b line end.other (rw end.far at some))

to_lines : (found : DiscoveryState) (a b : PortRef) → IsSound found → list_any (joins a b) (found_cables found) ≡ true → are_joined found a b ≡ true
to_lines found a b sound some = by found.ports refl some
  where
    by : (lines : List PortLine) → found.ports ≡ lines → list_any (joins a b) (found_cables found) ≡ true → are_joined found a b ≡ true
    by [] e joined = absurd (let none = rw e at joined in cc)
    by (x ∷ rest) e joined =
        let one = passing (λ line. list_any (joins a b) (cable_at found line)) found.ports x (sym (any_flat (joins a b) (cable_at found) found.ports) ∙ joined) in
        at_line found a b sound one.place one.element one.there one.passes

-- ---- and of those some join no switch
all_kept : {X : Type 0} (p : X → Bool) (xs : List X) → list_all p (filter p xs) ≡ true
all_kept p [] = refl
all_kept p (x ∷ xs) = elim (cases_Bool (p x)) [
  | inl passes ↦ rw (passes, passes) (all_kept p xs)
  | inr fails ↦ rw fails (all_kept p xs)
]

none_kept : {X : Type 0} (p : X → Bool) (xs : List X) → list_any p (filter (λ x. not (p x)) xs) ≡ false
none_kept p [] = refl
none_kept p (x ∷ xs) = elim (cases_Bool (p x)) [
  | inl passes ↦ rw passes (none_kept p xs)
  | inr fails ↦ rw (fails, fails) (none_kept p xs)
]

in_two_parts : (p : Cable → Bool) (found : DiscoveryState) → list_any p (joining_cables found ++ cables_apart found) ≡ list_any p (found_cables found)
unfolding joining_cables cables_apart
in_two_parts p found =
    sym (list_any-IsPermutation p (found_cables found) _
    (IsPermutation-filter_both (λ cable. joins_switch found.nodes cable) (λ cable. not (joins_switch found.nodes cable)) (λ cable. refl) (found_cables found)))

are_at_switches : (found : DiscoveryState) → list_all (joins_switch found.nodes) (joining_cables found) ≡ true
unfolding joining_cables
are_at_switches found = all_kept (joins_switch found.nodes) (found_cables found)

are_apart : (found : DiscoveryState) → list_any (joins_switch found.nodes) (cables_apart found) ≡ false
unfolding cables_apart
are_apart found = none_kept (joins_switch found.nodes) (found_cables found)

pub cables_are_taken : CablesAreTaken
unfolding plan_found
cables_are_taken = record {
  joined = λ found a b sound.
      in_two_parts (joins a b) found
      ∙ both_ways (list_any (joins a b) (found_cables found)) (are_joined found a b) (to_lines found a b sound) (from_lines found a b sound);
  at_switches = are_at_switches;
  apart = are_apart;
}
