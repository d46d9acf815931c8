-- Where no line is wrong, each has one that leads back.
use Rattle.std.proofs.Common.{◌≡◌, refl, ℕ, Bool, true, false, not, List, [], ◌∷◌, find, slice_get, Option, Some, None, option_map, inl, inr}
use Rattle.std.specs.List.{list_all, list_any}
use Rattle.std.specs.Option.{option_and_then, option_map_or}
use Rattle.std.proofs.lemmas.Bool.{and_from, cases_Bool}
use Rattle.std.proofs.lemmas.Map.Keys.{any_passes_from_place}
use Rattle.step_results.proofs.ListLemmas.{list_all_weaker}
use Rattle.fabric_parts.specs.Cable.{port}
use Rattle.netdiscover_file.specs.declared.node.Node.{Node}
use Rattle.netdiscover_file.specs.declared.port.PortLine.{PortLine}
use Rattle.netdiscover_file.specs.Agreement.{first_wrong, is_one_cable, stands_at_both_ends}
use Rattle.netdiscover_file.specs.Node.{place_of}
use Rattle.netdiscover_file.specs.Port.{line_of, place_of_line}
use Rattle.netdiscover_file.specs.Sound.{has_other_end}

-- what is looked up is one of the list
looked_up : {X : Type 0} (test : X → Bool) (xs : List X) (place : Option ℕ)
    → option_map_or test (option_and_then (λ at. slice_get xs at) place) false ≡ true → list_any test xs ≡ true
looked_up test xs None h = absurd cc
looked_up {X = X} test xs (Some at) h = by (slice_get xs at) refl h
  where
    by : (found : Option X) → slice_get xs at ≡ found → option_map_or test found false ≡ true → list_any test xs ≡ true
    by None there passes = absurd cc
    by (Some x) there passes = any_passes_from_place test xs at x there passes

pub other_end : (nodes : List Node) (ports : List PortLine) (line : PortLine) → stands_at_both_ends nodes ports line ≡ true → has_other_end nodes ports line ≡ true
other_end nodes ports line h = by (place_of line.far.node.guid nodes) h
  where
    by : (place : Option ℕ) → option_map_or (is_one_cable nodes line) (option_and_then (λ at. line_of (port at line.far.port) ports) place) false ≡ true
        → has_other_end nodes ports line ≡ true
    by None passes = absurd cc
    by (Some at) passes = looked_up (is_one_cable nodes line) ports (place_of_line (port at line.far.port) ports) passes

-- nothing is found that does not pass
all_pass : {X Y : Type 0} (test : X → Bool) (read : X → Y) (xs : List X) → option_map read (find (λ x. not (test x)) xs) ≡ None → list_all test xs ≡ true
all_pass test read [] h = refl
all_pass test read (x ∷ xs) h = elim (cases_Bool (test x)) [
  | inl passes ↦ and_from (test x) _ passes (all_pass test read xs (rw passes at h))
  | inr fails ↦ absurd (let none = rw fails at h in cc)
]

pub all_found : (nodes : List Node) (ports : List PortLine) → first_wrong nodes ports ≡ None → list_all (stands_at_both_ends nodes ports) ports ≡ true
all_found nodes ports none = all_pass (stands_at_both_ends nodes ports) (λ line. line.line) ports none

pub all_lead_back : (nodes : List Node) (ports : List PortLine) → first_wrong nodes ports ≡ None → list_all (has_other_end nodes ports) ports ≡ true
all_lead_back nodes ports none =
    list_all_weaker (stands_at_both_ends nodes ports) (has_other_end nodes ports) (λ line stands. other_end nodes ports line stands) ports
    (all_found nodes ports none)
