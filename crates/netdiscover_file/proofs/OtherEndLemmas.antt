-- A cable has one other end.
use Rattle.std.proofs.Common.{◌≡◌, ◌∙◌, ap, refl, sym, ℕ, zero, suc, Bool, true, false, ◌==◌, List, [], ◌∷◌, slice_get, get_or, position, Option, Some, None, inl, inr, arith}
use Rattle.std.specs.List.{list_any, IsDistinct}
use Rattle.std.specs.Option.{option_map_or}
use Rattle.std.proofs.lemmas.Bool.{and_from, and_parts, cases_Bool, false_from_ne_true, false≢true}
use Rattle.std.proofs.lemmas.Bool.Decides.{nat_tests}
use Rattle.std.proofs.lemmas.List.Quantifiers.{position-Some}
use Rattle.std.proofs.lemmas.Option.{slice_get-get_or}
use Rattle.std.proofs.lemmas.Map.Keys.{any_passes_from_place, IsDistinct-tail}
use Rattle.step_results.proofs.DistinctLemmas.{none_shares}
use Rattle.step_results.proofs.PlaceLemmas.{not_there}
use Rattle.step_results.proofs.TestLemmas.{same_either_way}
use Rattle.fabric_parts.specs.declared.cable.PortRef.{PortRef}
use Rattle.fabric_parts.specs.Cable.{is_same_port, port}
use Rattle.netdiscover_file.specs.declared.node.Node.{Node}
use Rattle.netdiscover_file.specs.declared.port.PortLine.{PortLine}
use Rattle.netdiscover_file.specs.declared.ends.FarEnd.{FarEnd}
use Rattle.netdiscover_file.specs.declared.ends.NodeId.{NodeId}
use Rattle.netdiscover_file.specs.Agreement.{is_one_cable, names, stands_at_both_ends}
use Rattle.netdiscover_file.specs.Laws.{OneOtherEnd, OnlyMissingEndsAreReported}
use Rattle.netdiscover_file.specs.Node.{is_node_at, place_of}
use Rattle.netdiscover_file.specs.Port.{place_of_line}
use Rattle.netdiscover_file.specs.Sound.{has_other_end, shares_guid, shares_port, AreSound}
use Rattle.netdiscover_file.specs.Ends.{is_same_node}
use Rattle.netdiscover_file.proofs.AgreementLemmas.{other_end}
use Rattle.netdiscover_file.proofs.SoundLemmas.{lines_turned}

pub same_numbers : (a b : ℕ) → (a == b) ≡ true → a ≡ b
same_numbers a b h = grind (arith, nat_tests)

pub same_tested : (a b : ℕ) → a ≡ b → (a == b) ≡ true
same_tested a b h = grind (arith, nat_tests)

-- of different elements two that are the same stand at one place
same_place : {X : Type 0} (same : X → X → Bool) → ((a b : X) → same a b ≡ same b a) → (xs : List X) (i j : ℕ) (x y : X) → IsDistinct same xs
    → slice_get xs i ≡ Some x → slice_get xs j ≡ Some y → same x y ≡ true → i ≡ j
same_place same turned [] i j x y own at_i at_j alike = absurd cc
same_place same turned (z ∷ zs) zero zero x y own at_i at_j alike = refl
same_place same turned (z ∷ zs) zero (suc j) x y own at_i at_j alike =
    let first : z ≡ x = cc in
    absurd (false≢true (sym (none_shares same z zs own) ∙ any_passes_from_place (same z) zs j y at_j (ap (λ w. same w y) first ∙ alike)))
same_place same turned (z ∷ zs) (suc i) zero x y own at_i at_j alike =
    let first : z ≡ y = cc in
    absurd (false≢true (sym (none_shares same z zs own) ∙ any_passes_from_place (same z) zs i x at_i (ap (λ w. same w x) first ∙ turned y x ∙ alike)))
same_place same turned (z ∷ zs) (suc i) (suc j) x y own at_i at_j alike =
    ap suc (same_place same turned zs i j x y (IsDistinct-tail same z zs own) at_i at_j alike)

-- a node that stands there, if one does, has this GUID
pub record Stands (nodes : List Node) (place guid : ℕ) : Type 0 where
  pub node : Node
  pub there : slice_get nodes place ≡ Some node
  pub has : node.id.guid ≡ guid

stands : (nodes : List Node) (place : ℕ) (id : NodeId) → is_node_at nodes place id ≡ true → Stands nodes place id.guid
stands nodes place id h = by (slice_get nodes place) refl h
  where
    by : (found : Option Node) → slice_get nodes place ≡ found → option_map_or (λ node. is_same_node node.id id) found false ≡ true → Stands nodes place id.guid
    by None there passes = absurd cc
    by (Some node) there passes = record { node = node; there = there; has = same_numbers node.id.guid id.guid (and_parts _ _ passes).1 }

one_node : (nodes : List Node) (i j : ℕ) (id : NodeId) → IsDistinct shares_guid nodes → is_node_at nodes i id ≡ true → is_node_at nodes j id ≡ true → i ≡ j
one_node nodes i j id own at_i at_j =
    let first = stands nodes i id at_i in
    let second = stands nodes j id at_j in
    same_place shares_guid (λ a b. same_either_way a.id.guid b.id.guid) nodes i j first.node second.node own first.there second.there
    (same_tested first.node.id.guid second.node.id.guid (first.has ∙ sym second.has))

-- a far end names one port
one_port : (nodes : List Node) (far : FarEnd) (a b : PortLine) → IsDistinct shares_guid nodes → names nodes far a ≡ true → names nodes far b ≡ true → shares_port a b ≡ true
one_port nodes far a b own first second =
    let one = and_parts (is_node_at nodes a.port.node far.node) _ first in
    let other = and_parts (is_node_at nodes b.port.node far.node) _ second in
    let number = same_numbers a.port.port far.port (and_parts (a.port.port == far.port) _ one.1).0 in
    let other_number = same_numbers b.port.port far.port (and_parts (b.port.port == far.port) _ other.1).0 in
    and_from (a.port.node == b.port.node) (a.port.port == b.port.port)
    (same_tested a.port.node b.port.node (one_node nodes a.port.node b.port.node far.node own one.0 other.0))
    (same_tested a.port.port b.port.port (number ∙ sym other_number))

pub one_other_end : OneOtherEnd
one_other_end discovery sound line a b i j at_i at_j first second =
    same_place shares_port lines_turned discovery.ports i j a b sound.lines.own_lines at_i at_j
    (one_port discovery.nodes line.far a b sound.lines.own_nodes (and_parts (names discovery.nodes line.far a) _ first).0 (and_parts (names discovery.nodes line.far b) _ second).0)

-- ---- the lines that lead back are found
record Found {X : Type 0} (test : X → Bool) (xs : List X) : Type 0 where
  pub place : ℕ
  pub element : X
  pub there : slice_get xs place ≡ Some element
  pub passes : test element ≡ true

found_in : {X : Type 0} (test : X → Bool) (xs : List X) → list_any test xs ≡ true → Found test xs
found_in test [] h = absurd cc
found_in test (x ∷ xs) h = elim (cases_Bool (test x)) [
  | inl passes ↦ record { place = 0; element = x; there = refl; passes = passes }
  | inr fails ↦
      let later = found_in test xs (rw fails at h) in
      record { place = suc later.place; element = later.element; there = later.there; passes = later.passes }
]

-- where one place alone passes a test, a search finds it
position_of_only : {X : Type 0} (test : X → Bool) (xs : List X) (i : ℕ) (x : X) → slice_get xs i ≡ Some x → test x ≡ true
    → ((j : ℕ) (y : X) → slice_get xs j ≡ Some y → test y ≡ true → j ≡ i) → position test xs ≡ Some i
position_of_only test xs i x there passes only = by (position test xs) refl
  where
    by : (found : Option ℕ) → position test xs ≡ found → position test xs ≡ Some i
    by None e = absurd (false≢true (sym (not_there test xs e) ∙ any_passes_from_place test xs i x there passes))
    by (Some j) e =
        let at_j = position-Some test xs j x e in
        e ∙ ap (λ (n : ℕ). Some n) (only j (get_or xs j x) (slice_get-get_or xs j x at_j.0) at_j.1)

node_found : (nodes : List Node) (place guid : ℕ) → IsDistinct shares_guid nodes → Stands nodes place guid → place_of guid nodes ≡ Some place
node_found nodes place guid own stands =
    position_of_only (λ node. guid == node.id.guid) nodes place stands.node stands.there (same_tested guid stands.node.id.guid (sym stands.has))
    (λ j node there passes.
    same_place shares_guid (λ a b. same_either_way a.id.guid b.id.guid) nodes j place node stands.node own there stands.there
    (same_tested node.id.guid stands.node.id.guid (sym (same_numbers guid node.id.guid passes) ∙ sym stands.has)))

line_found : (ports : List PortLine) (end : PortRef) (i : ℕ) (line : PortLine) → IsDistinct shares_port ports → slice_get ports i ≡ Some line
    → is_same_port end line.port ≡ true → place_of_line end ports ≡ Some i
line_found ports end i line own there is =
    let node = same_numbers end.node line.port.node (and_parts (end.node == line.port.node) _ is).0 in
    let number = same_numbers end.port line.port.port (and_parts (end.node == line.port.node) _ is).1 in
    position_of_only (λ l. is_same_port end l.port) ports i line there is
    (λ j other at_j passes.
    let parts = and_parts (end.node == other.port.node) (end.port == other.port.port) passes in
    same_place shares_port lines_turned ports j i other line own at_j there
    (and_from (other.port.node == line.port.node) (other.port.port == line.port.port)
    (same_tested other.port.node line.port.node (sym (same_numbers end.node other.port.node parts.0) ∙ node))
    (same_tested other.port.port line.port.port (sym (same_numbers end.port other.port.port parts.1) ∙ number))))

leads_back : (nodes : List Node) (ports : List PortLine) → AreSound nodes ports → (line : PortLine) → Found (is_one_cable nodes line) ports
    → stands_at_both_ends nodes ports line ≡ true
leads_back nodes ports sound line back =
    let far = line.far in
    let other = back.element in
    let parts = and_parts (is_node_at nodes other.port.node far.node) _ (and_parts (names nodes far other) _ back.passes).0 in
    let number = same_numbers other.port.port far.port (and_parts (other.port.port == far.port) _ parts.1).0 in
    let node : place_of far.node.guid nodes ≡ Some other.port.node = node_found nodes other.port.node far.node.guid sound.own_nodes (stands nodes other.port.node far.node parts.0) in
    let end = port other.port.node far.port in
    let is : is_same_port end other.port ≡ true =
    and_from (other.port.node == other.port.node) (far.port == other.port.port) (same_tested other.port.node other.port.node refl) (same_tested far.port other.port.port (sym number)) in
    let at : place_of_line end ports ≡ Some back.place = line_found ports end back.place other sound.own_lines back.there is in
    rw (node, at, back.there) back.passes

pub only_missing_ends_are_reported : OnlyMissingEndsAreReported
only_missing_ends_are_reported nodes ports sound line = by (has_other_end nodes ports line) refl
  where
    by : (has : Bool) → has_other_end nodes ports line ≡ has → stands_at_both_ends nodes ports line ≡ has_other_end nodes ports line
    by true e = leads_back nodes ports sound line (found_in (is_one_cable nodes line) ports e) ∙ sym e
    by false e = false_from_ne_true (stands_at_both_ends nodes ports line) (λ stands. false≢true (sym e ∙ other_end nodes ports line stands)) ∙ sym e
