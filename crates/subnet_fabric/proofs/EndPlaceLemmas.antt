-- The end_places of a topology: each is an end port, each end port has one, and no two have one GUID.
use Rattle.std.proofs.Common.{◌≡◌, ℕ, zero, suc, ◌+◌, ◌<◌, ◌≤◌, Bool, true, false, ◌==◌, ◌&&◌, nat_le, List, [], ◌∷◌, ◌++◌, map, slice_get, Option}
use Rattle.std.proofs.Common.{Some, None, refl, inl, inr, ◌∙◌, sym, arith}
use Rattle.std.specs.List.{list_any, IsDistinct, AllByRecursion, flat_map, enumerate_from, range_with_len}
use Rattle.std.proofs.lemmas.Bool.{cases_Bool, cases_eq, and_from, and_parts, and_right, or_cases, or_left, or_right, eq-eqb, le-leb, leb-true, eqb-true}
use Rattle.std.proofs.lemmas.Bool.Decides.{nat_tests}
use Rattle.std.proofs.lemmas.List.Folds.{list_any-append}
use Rattle.fabric_parts.specs.declared.cable.PortRef.{PortRef}
use Rattle.fabric_parts.specs.declared.node_type.NodeType.{NodeType}
use Rattle.fabric_parts.specs.declared.node_type.NodeType.TheVariants.{ChannelAdapter, Switch}
use Rattle.fabric_parts.specs.Cable.{is_cabled, is_same_port, port}
use Rattle.topo_file.specs.declared.node.Node.{Node}
use Rattle.topo_file.specs.Node.{last_guid, port_guid, port_guids, shares_guid}
use Rattle.topo_file.specs.Topology.{TopologyState}
use Rattle.subnet_fabric.specs.declared.end_ports.EndPlace.{EndPlace}
use Rattle.subnet_fabric.specs.EndPorts.{end_port_at, is_end_port}
use Rattle.subnet_fabric.specs.Ports.{adapter_end_place, adapter_end_places, end_place_if_cabled, end_places, end_places_at, end_places_of_type, switch_end_place}
use Rattle.step_results.proofs.ElementLemmas.{each_weaker, each_joined}

-- ---- lists
distinct_both : {X : Type 0} (same : X → X → Bool) (xs ys : List X) → IsDistinct same xs → IsDistinct same ys
    → AllByRecursion (λ x. AllByRecursion (λ y. same x y ≡ false) ys) xs → IsDistinct same (xs ++ ys)
unfolding IsDistinct
distinct_both same [] ys d e h = e
distinct_both same (x ∷ xs) ys d e h = (each_joined (λ y. same x y ≡ false) xs ys d.0 h.0, distinct_both same xs ys d.1 e h.1)

-- where each has P, what passes one test and so another is there
pub any_so : {X : Type 0} (P : X → Type 0) (p q : X → Bool) → ((x : X) → P x → p x ≡ true → q x ≡ true) → (xs : List X) → AllByRecursion P xs
    → list_any p xs ≡ true → list_any q xs ≡ true
any_so P p q so [] each h = h
any_so P p q so (x ∷ xs) each h = elim (or_cases (p x) (list_any p xs) h) [
  | inl here ↦ or_left (q x) (list_any q xs) (so x each.0 here)
  | inr later ↦ or_right (q x) (list_any q xs) (any_so P p q so xs each.1 later)
]

-- ---- each end_place is an end port
abbrev pub place_of : EndPlace → PortRef
place_of end_place = record { node = end_place.place; port = end_place.number }

pub record IsEndPlace (plan : TopologyState) (end_place : EndPlace) : Type 0 where
  pub there : is_end_port plan (place_of end_place) ≡ true
  pub port : end_place.port ≡ end_port_at plan (place_of end_place)

-- the nodes from a place on
abbrev AreFrom : List Node → ℕ → List Node → Type 0
AreFrom nodes m some = (i : ℕ) → slice_get nodes (m + i) ≡ slice_get some i

from_next : (nodes : List Node) (m : ℕ) (node : Node) (some : List Node) → AreFrom nodes m (node ∷ some) → AreFrom nodes (m + 1) some
from_next nodes m node some h = λ i. let e : m + 1 + i ≡ m + suc i = omega arith in rw e (h (suc i))

from_here : (nodes : List Node) (m : ℕ) (node : Node) (some : List Node) → AreFrom nodes m (node ∷ some) → slice_get nodes m ≡ Some node
from_here nodes m node some h = let e : m + 0 ≡ m = omega arith in rw e at (h 0)

switch_is_end_place : (plan : TopologyState) (m : ℕ) (node : Node) → slice_get plan.nodes m ≡ Some node → node.node_type ≡ Switch → 1 ≤ plan.sm.port
    → IsEndPlace plan (switch_end_place m node)
switch_is_end_place plan m node here type sm =
    let g : node.guid + 0 ≡ node.guid = omega arith in
    let other : (0 == plan.sm.port) ≡ false = grind (arith, nat_tests) in
    let no_sm : ((m == plan.sm.node) && (0 == plan.sm.port)) ≡ false = and_right (m == plan.sm.node) (0 == plan.sm.port) other in
    record { there = rw (here, type) refl; port = rw (here, type, g, no_sm) refl }

adapter_is_end_place : (plan : TopologyState) (m a : ℕ) (node : Node) → slice_get plan.nodes m ≡ Some node → node.node_type ≡ ChannelAdapter → 1 ≤ a → a ≤ node.ports
    → is_cabled plan.cables (port m a) ≡ true → IsEndPlace plan (adapter_end_place plan.sm node (port m a))
adapter_is_end_place plan m a node here type low high cabled =
    let l : nat_le 1 a ≡ true = le-leb 1 a low in
    let h : nat_le a node.ports ≡ true = le-leb a node.ports high in
    record { there = rw (here, type, l, h, cabled) refl; port = rw (here, type) refl }

adapter_are_end_places : (plan : TopologyState) (m : ℕ) (node : Node) → slice_get plan.nodes m ≡ Some node → node.node_type ≡ ChannelAdapter → (a n : ℕ) → 1 ≤ a → a + n ≤ node.ports + 1
    → AllByRecursion (IsEndPlace plan) (flat_map (end_place_if_cabled plan node) (map (port m) (range_with_len a n)))
adapter_are_end_places plan m node here type a zero low high = tt
adapter_are_end_places plan m node here type a (suc n) low high =
    let rest = adapter_are_end_places plan m node here type (a + 1) n (omega arith) (omega arith) in
    elim (cases_Bool (is_cabled plan.cables (port m a))) [
      | inl cabled ↦ rw cabled (adapter_is_end_place plan m a node here type low (omega arith) cabled, rest)
      | inr free ↦ rw free rest
    ]

node_are_end_places : (t : NodeType) (plan : TopologyState) (m : ℕ) (node : Node) → node.node_type ≡ t → slice_get plan.nodes m ≡ Some node → 1 ≤ plan.sm.port
    → AllByRecursion (IsEndPlace plan) (end_places_of_type t plan m node)
node_are_end_places Switch plan m node type here sm = (switch_is_end_place plan m node here type sm, tt)
node_are_end_places ChannelAdapter plan m node type here sm = adapter_are_end_places plan m node here type 1 node.ports (omega arith) (omega arith)

are_end_places : (plan : TopologyState) (m : ℕ) (some : List Node) → AreFrom plan.nodes m some → 1 ≤ plan.sm.port
    → AllByRecursion (IsEndPlace plan) (flat_map (end_places_at plan) (enumerate_from m some))
are_end_places plan m [] from sm = tt
are_end_places plan m (node ∷ some) from sm =
    each_joined (IsEndPlace plan) (end_places_at plan (m, node)) (flat_map (end_places_at plan) (enumerate_from (m + 1) some))
    (node_are_end_places node.node_type plan m node refl (from_here plan.nodes m node some from) sm)
    (are_end_places plan (m + 1) some (from_next plan.nodes m node some from) sm)

from_start : (nodes : List Node) → AreFrom nodes 0 nodes
from_start nodes = λ i. let e : 0 + i ≡ i = omega arith in rw e refl

pub all_are_end_places : (plan : TopologyState) → 1 ≤ plan.sm.port → AllByRecursion (IsEndPlace plan) (end_places plan)
all_are_end_places plan sm = are_end_places plan 0 plan.nodes (from_start plan.nodes) sm

-- ---- each end port has a end_place
abbrev sits_at : ℕ → ℕ → EndPlace → Bool
sits_at place number end_place = (end_place.place == place) && (end_place.number == number)

abbrev Stands : NodeType → TopologyState → Node → ℕ → ℕ → Type 0
Stands Switch plan node place number = number ≡ 0
Stands ChannelAdapter plan node place number = (1 ≤ number) × (number ≤ node.ports) × (is_cabled plan.cables (port place number) ≡ true)

adapter_there : (plan : TopologyState) (m place number : ℕ) (node : Node) → m ≡ place → is_cabled plan.cables (port place number) ≡ true → (a n : ℕ) → a ≤ number → number < a + n
    → list_any (sits_at place number) (flat_map (end_place_if_cabled plan node) (map (port m) (range_with_len a n))) ≡ true
adapter_there plan m place number node e cabled a zero low high = absurd (omega arith)
adapter_there plan m place number node e cabled a (suc n) low high =
    let rest = flat_map (end_place_if_cabled plan node) (map (port m) (range_with_len (a + 1) n)) in
    let first = end_place_if_cabled plan node (port m a) in
    list_any-append (sits_at place number) first rest ∙ (elim (cases_eq a number) [
      | inl this ↦ or_left (list_any (sits_at place number) first) (list_any (sits_at place number) rest)
          (let here : is_cabled plan.cables (port m a) ≡ true = rw (e, this) cabled in
          rw here (or_left (sits_at place number (adapter_end_place plan.sm node (port m a))) false
          (and_from (m == place) (a == number) (eq-eqb m place e) (eq-eqb a number this))))
      | inr other ↦ or_right (list_any (sits_at place number) first) (list_any (sits_at place number) rest)
          (adapter_there plan m place number node e cabled (a + 1) n (omega (arith, other)) (omega arith))
    ])

there_of_type : (t : NodeType) (plan : TopologyState) (m place number : ℕ) (node : Node) → m ≡ place → Stands t plan node place number
    → list_any (sits_at place number) (end_places_of_type t plan m node) ≡ true
there_of_type Switch plan m place number node e k =
    or_left (sits_at place number (switch_end_place m node)) false (and_from (m == place) (0 == number) (eq-eqb m place e) (eq-eqb 0 number (sym k)))
there_of_type ChannelAdapter plan m place number node e k =
    let low = k.0 in
    let high = k.1 in
    adapter_there plan m place number node e k.2 1 node.ports low (omega arith)

there_from : (plan : TopologyState) (place number : ℕ) (node : Node) (some : List Node) (m i : ℕ) → slice_get some i ≡ Some node → m + i ≡ place
    → Stands node.node_type plan node place number
    → list_any (sits_at place number) (flat_map (end_places_at plan) (enumerate_from m some)) ≡ true
there_from plan place number node [] m i h e k = absurd (cc)
there_from plan place number node (first ∷ some) m zero h e k =
    let same : first ≡ node = cc in
    list_any-append (sits_at place number) (end_places_at plan (m, first)) (flat_map (end_places_at plan) (enumerate_from (m + 1) some))
    ∙ or_left _ (list_any (sits_at place number) (flat_map (end_places_at plan) (enumerate_from (m + 1) some)))
    (rw same (there_of_type node.node_type plan m place number node (omega arith) k))
there_from plan place number node (first ∷ some) m (suc i) h e k =
    list_any-append (sits_at place number) (end_places_at plan (m, first)) (flat_map (end_places_at plan) (enumerate_from (m + 1) some))
    ∙ or_right (list_any (sits_at place number) (end_places_at plan (m, first))) _ (there_from plan place number node some (m + 1) i h (omega arith) k)

stands : (t : NodeType) (plan : TopologyState) (node : Node) (at : PortRef) → node.node_type ≡ t → slice_get plan.nodes at.node ≡ Some node → is_end_port plan at ≡ true
    → Stands t plan node at.node at.port
stands Switch plan node at type here h = let zero_port : (at.port == 0) ≡ true = rw (here, type) at h in eqb-true at.port 0 zero_port
stands ChannelAdapter plan node at type here h =
    let parts : ((nat_le 1 at.port && nat_le at.port node.ports) && is_cabled plan.cables at) ≡ true = rw (here, type) at h in
    let two = and_parts (nat_le 1 at.port && nat_le at.port node.ports) (is_cabled plan.cables at) parts in
    let bounds = and_parts (nat_le 1 at.port) (nat_le at.port node.ports) two.0 in
    (leb-true 1 at.port bounds.0, leb-true at.port node.ports bounds.1, two.1)

nothing : (number : ℕ) (cabled : Bool) → ((nat_le 1 number && nat_le number 0) && cabled) ≡ true → ⊥
nothing number cabled h =
    let bounds = and_parts (nat_le 1 number) (nat_le number 0) (and_parts (nat_le 1 number && nat_le number 0) cabled h).0 in
    let low : 1 ≤ number = leb-true 1 number bounds.0 in
    let high : number ≤ 0 = leb-true number 0 bounds.1 in
    absurd (omega arith)

pub end_place_there : (plan : TopologyState) (at : PortRef) → is_end_port plan at ≡ true → list_any (λ end_place. is_same_port (place_of end_place) at) (end_places plan) ≡ true
end_place_there plan at h = by (slice_get plan.nodes at.node) refl
  where
    by : (found : Option Node) → slice_get plan.nodes at.node ≡ found → list_any (λ end_place. is_same_port (place_of end_place) at) (end_places plan) ≡ true
    by (Some node) here = there_from plan at.node at.port node plan.nodes 0 at.node here (omega arith) (stands node.node_type plan node at refl here h)
    by None none = let past : ((nat_le 1 at.port && nat_le at.port 0) && is_cabled plan.cables at) ≡ true = rw none at h in absurd (nothing at.port (is_cabled plan.cables at) past)

-- ---- no two end_places have one GUID
abbrev pub one_guid : EndPlace → EndPlace → Bool
one_guid a b = a.port.guid == b.port.guid

abbrev Within : ℕ → ℕ → EndPlace → Type 0
Within low high end_place = (low ≤ end_place.port.guid) × (end_place.port.guid ≤ high)

adapter_within : (plan : TopologyState) (m : ℕ) (node : Node) (a n : ℕ)
    → AllByRecursion (λ (end_place : EndPlace). (node.guid + a ≤ end_place.port.guid) × (end_place.port.guid < node.guid + a + n)) (flat_map (end_place_if_cabled plan node) (map (port m) (range_with_len a n)))
adapter_within plan m node a zero = tt
adapter_within plan m node a (suc n) =
    let rest = each_weaker (λ (end_place : EndPlace). (node.guid + (a + 1) ≤ end_place.port.guid) × (end_place.port.guid < node.guid + (a + 1) + n)) (λ (end_place : EndPlace). (node.guid + a ≤ end_place.port.guid) × (end_place.port.guid < node.guid + a + suc n))
    (λ end_place h. let l = h.0 in let u = h.1 in (omega arith, omega arith)) (flat_map (end_place_if_cabled plan node) (map (port m) (range_with_len (a + 1) n))) (adapter_within plan m node (a + 1) n) in
    elim (cases_Bool (is_cabled plan.cables (port m a))) [
      | inl cabled ↦ rw cabled ((omega arith, omega arith), rest)
      | inr free ↦ rw free rest
    ]

apart_by : (g k : ℕ) → g < k → (g == k) ≡ false
apart_by g k h = grind (arith, nat_tests)

adapter_distinct : (plan : TopologyState) (m : ℕ) (node : Node) (a n : ℕ) → IsDistinct one_guid (flat_map (end_place_if_cabled plan node) (map (port m) (range_with_len a n)))
unfolding IsDistinct
adapter_distinct plan m node a zero = tt
adapter_distinct plan m node a (suc n) =
    let first = adapter_end_place plan.sm node (port m a) in
    let apart = each_weaker (λ (end_place : EndPlace). (node.guid + (a + 1) ≤ end_place.port.guid) × (end_place.port.guid < node.guid + (a + 1) + n)) (λ (end_place : EndPlace). one_guid first end_place ≡ false)
    (λ end_place h. apart_by (node.guid + a) end_place.port.guid (let l = h.0 in omega arith)) (flat_map (end_place_if_cabled plan node) (map (port m) (range_with_len (a + 1) n))) (adapter_within plan m node (a + 1) n) in
    elim (cases_Bool (is_cabled plan.cables (port m a))) [
      | inl cabled ↦ rw cabled (apart, adapter_distinct plan m node (a + 1) n)
      | inr free ↦ rw free (adapter_distinct plan m node (a + 1) n)
    ]

node_within : (t : NodeType) (plan : TopologyState) (m : ℕ) (node : Node) → AllByRecursion (Within node.guid (port_guid node (port_guids t node.ports))) (end_places_of_type t plan m node)
node_within Switch plan m node = ((omega arith, omega arith), tt)
node_within ChannelAdapter plan m node =
    each_weaker (λ (end_place : EndPlace). (node.guid + 1 ≤ end_place.port.guid) × (end_place.port.guid < node.guid + 1 + node.ports)) (Within node.guid (port_guid node node.ports))
    (λ end_place h. let l = h.0 in let u = h.1 in (omega arith, omega arith)) (adapter_end_places plan m node node.ports) (adapter_within plan m node 1 node.ports)

node_distinct : (t : NodeType) (plan : TopologyState) (m : ℕ) (node : Node) → IsDistinct one_guid (end_places_of_type t plan m node)
unfolding IsDistinct
node_distinct Switch plan m node = (tt, tt)
node_distinct ChannelAdapter plan m node = adapter_distinct plan m node 1 node.ports

abbrev Outside : ℕ → ℕ → EndPlace → Type 0
Outside low high end_place = (nat_le low end_place.port.guid && nat_le end_place.port.guid high) ≡ false

outside_by : (low high a b g : ℕ) → (nat_le low b && nat_le a high) ≡ false → a ≤ g → g ≤ b → (nat_le low g && nat_le g high) ≡ false
outside_by low high a b g h k l = grind (arith, nat_tests)

differ_by : (low high g k : ℕ) → low ≤ g → g ≤ high → (nat_le low k && nat_le k high) ≡ false → (g == k) ≡ false
differ_by low high g k h l o = grind (arith, nat_tests)

end_places_outside : (plan : TopologyState) (one : Node) (m : ℕ) (some : List Node) → AllByRecursion (λ other. shares_guid one other ≡ false) some
    → AllByRecursion (Outside one.guid (last_guid one)) (flat_map (end_places_at plan) (enumerate_from m some))
end_places_outside plan one m [] h = tt
end_places_outside plan one m (node ∷ some) h =
    each_joined (Outside one.guid (last_guid one)) (end_places_at plan (m, node)) (flat_map (end_places_at plan) (enumerate_from (m + 1) some))
    (each_weaker (Within node.guid (last_guid node)) (Outside one.guid (last_guid one)) (λ end_place k. outside_by one.guid (last_guid one) node.guid (last_guid node) end_place.port.guid h.0 k.0 k.1)
    (end_places_at plan (m, node)) (node_within node.node_type plan m node))
    (end_places_outside plan one (m + 1) some h.1)

distinct_from : (plan : TopologyState) (m : ℕ) (some : List Node) → IsDistinct shares_guid some → IsDistinct one_guid (flat_map (end_places_at plan) (enumerate_from m some))
unfolding IsDistinct
distinct_from plan m [] d = tt
distinct_from plan m (node ∷ some) d =
    let rest = flat_map (end_places_at plan) (enumerate_from (m + 1) some) in
    distinct_both one_guid (end_places_at plan (m, node)) rest (node_distinct node.node_type plan m node) (distinct_from plan (m + 1) some d.1)
    (each_weaker (Within node.guid (last_guid node)) (λ (a : EndPlace). AllByRecursion (λ b. one_guid a b ≡ false) rest)
    (λ a k. each_weaker (Outside node.guid (last_guid node)) (λ b. one_guid a b ≡ false) (λ b o. differ_by node.guid (last_guid node) a.port.guid b.port.guid k.0 k.1 o) rest (end_places_outside plan node (m + 1) some d.0))
    (end_places_at plan (m, node)) (node_within node.node_type plan m node))

pub end_places_are_distinct : (plan : TopologyState) → IsDistinct shares_guid plan.nodes → IsDistinct one_guid (end_places plan)
end_places_are_distinct plan d = distinct_from plan 0 plan.nodes d
