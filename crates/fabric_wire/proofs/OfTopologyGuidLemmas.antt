-- The GUIDs of a topology's fabric are different, since its nodes have no GUID in common.
use Rattle.std.proofs.Common.{ℕ, zero, suc, ◌≡◌, ◌⊎◌, ◌+◌, ◌<◌, ◌≤◌, ◌^◌, ◌==◌, ◌∙◌, refl, sym, inl, inr, Bool, true, false, not, List, [], ◌∷◌, ◌++◌}
use Rattle.std.proofs.Common.{map, flat_map, nat_le, nat_lt, ◌&&◌, arith}
use Rattle.std.specs.List.{All, AllByRecursion, enumerate_from, list_all, list_any, range_with_len, IsDistinct}
use Rattle.std.proofs.lemmas.Bool.{and_cases, and_from, and_parts, le-leb, leb-false, leb-true, lt-ltb, ne_eqb, not_from_false, not-true, or_from, or_parts}
use Rattle.std.proofs.lemmas.List.Concat.{flat_map_single}
use Rattle.std.proofs.lemmas.List.Elements.{recursion_from_All}
use Rattle.std.proofs.lemmas.List.Folds.{flat_map-map, list_all-append, list_any-append}
use Rattle.std.proofs.lemmas.Map.Keys.{IsDistinct-tail}
use Rattle.step_results.proofs.ListLemmas.{list_all_weaker}
use Rattle.fabric_parts.specs.declared.cable.Cable.{Cable}
use Rattle.topo_file.specs.declared.node.Node.{Node as PlannedNode}
use Rattle.fabric_parts.specs.declared.node_type.NodeType.{NodeType}
use Rattle.fabric_parts.specs.declared.node_type.NodeType.TheVariants as node_type
use Rattle.topo_file.specs.Node.{HasGuids, last_guid, port_guids, shares_guid}
use Rattle.topo_file.specs.Sound.{is_sized}
use Rattle.smp_wire.specs.declared.node.Node.TheVariants.{Adapter}
use Rattle.smp_wire.specs.Good.{AreGuids, end_port_guids, is_guid, node_guid}
use Rattle.fabric_wire.specs.OfTopology.{adapter_port_of, node_of, node_of_type}
use Rattle.fabric_wire.proofs.OfTopologyLemmas.{nodes_from, some_port}
use Rattle.step_results.proofs.DistinctLemmas.{all_differ, distinct, none_shares}

-- ---- lists of GUIDs from one to another
abbrev pub is_in : ℕ → ℕ → ℕ → Bool
is_in first last guid = nat_le first guid && nat_le guid last

abbrev pub differ : List ℕ → Bool
differ guids = all_differ (λ a b. a == b) guids

pub record AreOwn (first last : ℕ) (guids : List ℕ) : Type 0 where
  pub within : list_all (is_in first last) guids ≡ true
  pub different : differ guids ≡ true

inside : (first last guid : ℕ) → first ≤ guid → guid ≤ last → is_in first last guid ≡ true
inside first last guid low high = and_from (nat_le first guid) _ (le-leb first guid low) (le-leb guid last high)

other_guid : (guid first last other : ℕ) → (guid < first) ⊎ (last < guid) → is_in first last other ≡ true → (guid == other) ≡ false
other_guid guid first last other (inl under) is =
    let low = leb-true first other (and_parts (nat_le first other) _ is).0 in
    ne_eqb guid other (λ same. absurd (omega (arith, same, under, low)))
other_guid guid first last other (inr over) is =
    let high = leb-true other last (and_parts (nat_le first other) _ is).1 in
    ne_eqb guid other (λ same. absurd (omega (arith, same, over, high)))

none_is : (guid first last : ℕ) (guids : List ℕ) → (guid < first) ⊎ (last < guid)
    → list_all (is_in first last) guids ≡ true → list_any (λ other. guid == other) guids ≡ false
none_is guid first last [] out all = refl
none_is guid first last (other ∷ guids) out all =
    let parts = and_parts (is_in first last other) _ all in
    or_from (guid == other) _ (other_guid guid first last other out parts.0) (none_is guid first last guids out parts.1)

differ_both : (xs ys : List ℕ) → differ xs ≡ true → differ ys ≡ true
    → list_all (λ x. not (list_any (λ y. x == y) ys)) xs ≡ true → differ (xs ++ ys) ≡ true
differ_both [] ys one two apart = two
differ_both (x ∷ xs) ys one two apart =
    let ones = and_parts (not (list_any (λ y. x == y) xs)) _ one in
    let parts = and_parts (not (list_any (λ y. x == y) ys)) _ apart in
    let none : list_any (λ y. x == y) (xs ++ ys) ≡ false = list_any-append (λ y. x == y) xs ys ∙ or_from (list_any (λ y. x == y) xs) _ (not-true _ ones.0) (not-true _ parts.0) in
    and_from (not (list_any (λ y. x == y) (xs ++ ys))) _ (not_from_false _ none) (differ_both xs ys ones.1 two parts.1)

-- ---- the GUIDs of all nodes, those of each being its own
abbrev all_guids : (ℕ → PlannedNode → List ℕ) → ℕ → List PlannedNode → List ℕ
all_guids of first nodes = flat_map (λ p. of p.0 p.1) (enumerate_from first nodes)

abbrev HaveOwn : (ℕ → PlannedNode → List ℕ) → Type 0
HaveOwn of = (place : ℕ) (node : PlannedNode) → is_sized node ≡ true → AreOwn node.guid (last_guid node) (of place node)

out_of : (node other : PlannedNode) (guid : ℕ) → shares_guid node other ≡ false
    → is_in node.guid (last_guid node) guid ≡ true → (guid < other.guid) ⊎ (last_guid other < guid)
out_of node other guid apart is =
    let parts = and_parts (nat_le node.guid guid) _ is in
    let low = leb-true node.guid guid parts.0 in
    let high = leb-true guid (last_guid node) parts.1 in
    elim (and_cases (nat_le node.guid (last_guid other)) _ apart) [
      | inl over ↦ let past = leb-false node.guid (last_guid other) over in inr (omega (arith, past, low))
      | inr under ↦ let past = leb-false other.guid (last_guid node) under in inl (omega (arith, past, high))
    ]

none_later : (of : ℕ → PlannedNode → List ℕ) (first : ℕ) (nodes : List PlannedNode) (node : PlannedNode) (guid : ℕ)
    → HaveOwn of → list_all is_sized nodes ≡ true
    → list_any (λ other. shares_guid node other) nodes ≡ false → is_in node.guid (last_guid node) guid ≡ true → list_any (λ other. guid == other) (all_guids of first nodes) ≡ false
none_later of first [] node guid own sized apart is = refl
none_later of first (other ∷ nodes) node guid own sized apart is =
    let sizes = and_parts (is_sized other) _ sized in
    let parts = or_parts (shares_guid node other) _ apart in
    list_any-append (λ one. guid == one) (of first other) (all_guids of (first + 1) nodes)
    ∙ or_from (list_any (λ one. guid == one) (of first other)) _
    (none_is guid other.guid (last_guid other) (of first other) (out_of node other guid parts.0 is) (own first other sizes.0).within)
    (none_later of (first + 1) nodes node guid own sizes.1 parts.1 is)

all_different : (of : ℕ → PlannedNode → List ℕ) (first : ℕ) (nodes : List PlannedNode) → HaveOwn of
    → list_all is_sized nodes ≡ true → IsDistinct shares_guid nodes
    → differ (all_guids of first nodes) ≡ true
all_different of first [] own sized apart = refl
all_different of first (node ∷ nodes) own sized apart =
    let sizes = and_parts (is_sized node) _ sized in
    let later = all_guids of (first + 1) nodes in
    let here = own first node sizes.0 in
    differ_both (of first node) later here.different (all_different of (first + 1) nodes own sizes.1 (IsDistinct-tail shares_guid node nodes apart))
    (list_all_weaker (is_in node.guid (last_guid node)) (λ guid. not (list_any (λ other. guid == other) later))
    (λ guid is. not_from_false _ (none_later of (first + 1) nodes node guid own sizes.1 (none_shares shares_guid node nodes apart) is)) (of first node) here.within)

right : (node : PlannedNode) (guid : ℕ) → is_sized node ≡ true → HasGuids node → is_in node.guid (last_guid node) guid ≡ true
    → is_guid guid ≡ true
right node guid sized has is =
    let some = leb-true 1 node.guid (and_parts (nat_le 1 node.guid) _ sized).0 in
    let parts = and_parts (nat_le node.guid guid) _ is in
    let low = leb-true node.guid guid parts.0 in
    let high = leb-true guid (last_guid node) parts.1 in
    and_from (nat_lt 0 guid) _ (lt-ltb 0 guid (omega (arith, some, low))) (lt-ltb guid (2 ^ 64) (omega (arith, has, high)))

all_right : (of : ℕ → PlannedNode → List ℕ) (first : ℕ) (nodes : List PlannedNode) → HaveOwn of → list_all is_sized nodes ≡ true
    → AllByRecursion HasGuids nodes → list_all is_guid (all_guids of first nodes) ≡ true
all_right of first [] own sized has = refl
all_right of first (node ∷ nodes) own sized has =
    let sizes = and_parts (is_sized node) _ sized in
    list_all-append is_guid (of first node) (all_guids of (first + 1) nodes)
    ∙ and_from (list_all is_guid (of first node)) _
    (list_all_weaker (is_in node.guid (last_guid node)) is_guid (λ guid is. right node guid sizes.0 has.0 is) (of first node) (own first node sizes.0).within)
    (all_right of (first + 1) nodes own sizes.1 has.1)

guids_of : (of : ℕ → PlannedNode → List ℕ) (nodes : List PlannedNode) → HaveOwn of → list_all is_sized nodes ≡ true → All HasGuids nodes
    → IsDistinct shares_guid nodes → AreGuids (all_guids of 0 nodes)
guids_of of nodes own sized has apart =
    record { each = all_right of 0 nodes own sized (recursion_from_All HasGuids nodes has); own = distinct (λ a b. a == b) (all_guids of 0 nodes) (all_different of 0 nodes own sized apart) }

-- ---- a node's own GUID
one_own : (guid last : ℕ) → guid ≤ last → AreOwn guid last (guid ∷ [])
one_own guid last high =
    record { within = and_from (is_in guid last guid) true (inside guid last guid (omega arith) high) refl; different = refl }

first_guid : (cables : List Cable) (place : ℕ) (node : PlannedNode) (count : ℕ) → 1 ≤ count
    → node_guid (Adapter (map (adapter_port_of cables place node) (range_with_len 1 count))) ≡ node.guid
first_guid cables place node zero some = absurd (omega (arith, some))
first_guid cables place node (suc k) some = refl

guid_of_type : (of : NodeType) (cables : List Cable) (place : ℕ) (node : PlannedNode) → 1 ≤ node.ports
    → node_guid (node_of_type of cables place node) ≡ node.guid
guid_of_type node_type.Switch cables place node some = refl
guid_of_type node_type.ChannelAdapter cables place node some = first_guid cables place node node.ports some

pub guid_of : (cables : List Cable) (place : ℕ) (node : PlannedNode) → is_sized node ≡ true → node_guid (node_of cables place node) ≡ node.guid
guid_of cables place node sized = guid_of_type node.node_type cables place node (some_port node sized)

guid_own : (cables : List Cable) → HaveOwn (λ place node. node_guid (node_of cables place node) ∷ [])
guid_own cables place node sized = rw (guid_of cables place node sized) (one_own node.guid (last_guid node) (omega arith))

pub node_guids_differ : (cables : List Cable) (nodes : List PlannedNode) → list_all is_sized nodes ≡ true → All HasGuids nodes
    → IsDistinct shares_guid nodes
    → AreGuids (map node_guid (nodes_from cables 0 nodes))
node_guids_differ cables nodes sized has apart =
    let of : ℕ → PlannedNode → List ℕ = λ place node. node_guid (node_of cables place node) ∷ [] in
    let same : map node_guid (nodes_from cables 0 nodes) ≡ all_guids of 0 nodes =
    sym (flat_map_single node_guid (nodes_from cables 0 nodes)) ∙ flat_map-map (λ node. node_guid node ∷ []) (λ p. node_of cables p.0 p.1) (enumerate_from 0 nodes) in
    rw same (guids_of of nodes (guid_own cables) sized has apart)

-- ---- the GUIDs of its end ports
abbrev port_guids_from : List Cable → ℕ → PlannedNode → ℕ → ℕ → List ℕ
port_guids_from cables place node number count =
    end_port_guids (Adapter (map (adapter_port_of cables place node) (range_with_len number count)))

ports_within : (cables : List Cable) (place : ℕ) (node : PlannedNode) (first last number count : ℕ)
    → first ≤ node.guid + number → node.guid + number + count ≤ last + 1
    → list_all (is_in first last) (port_guids_from cables place node number count) ≡ true
ports_within cables place node first last number zero low high = refl
ports_within cables place node first last number (suc count) low high =
    and_from (is_in first last (node.guid + number)) _ (inside first last (node.guid + number) low (omega (arith, high)))
    (ports_within cables place node first last (number + 1) count (omega (arith, low)) (omega (arith, high)))

ports_differ : (cables : List Cable) (place : ℕ) (node : PlannedNode) (number count : ℕ)
    → differ (port_guids_from cables place node number count) ≡ true
ports_differ cables place node number zero = refl
ports_differ cables place node number (suc count) =
    let guid = node.guid + number in
    let last = node.guid + number + count in
    let later : list_all (is_in (guid + 1) last) (port_guids_from cables place node (number + 1)
    count) ≡ true = ports_within cables place node (guid + 1) last (number + 1) count (omega arith)
    (omega arith) in
    and_from (not (list_any (λ other. guid == other) (port_guids_from cables place node (number + 1) count))) _
    (not_from_false _ (none_is guid (guid + 1) last (port_guids_from cables place node (number + 1) count) (inl (omega arith)) later))
    (ports_differ cables place node (number + 1) count)

ends_of_type : (of : NodeType) (cables : List Cable) (place : ℕ) (node : PlannedNode)
    → AreOwn node.guid (node.guid + port_guids of node.ports) (end_port_guids (node_of_type of cables place node))
ends_of_type node_type.Switch cables place node = one_own node.guid (node.guid + 0) (omega arith)
ends_of_type node_type.ChannelAdapter cables place node = record {
  within = ports_within cables place node node.guid (node.guid + node.ports) 1 node.ports (omega arith) (omega arith);
  different = ports_differ cables place node 1 node.ports;
}

pub end_guids_differ : (cables : List Cable) (nodes : List PlannedNode) → list_all is_sized nodes ≡ true → All HasGuids nodes
    → IsDistinct shares_guid nodes
    → AreGuids (flat_map end_port_guids (nodes_from cables 0 nodes))
end_guids_differ cables nodes sized has apart =
    let of : ℕ → PlannedNode → List ℕ = λ place node. end_port_guids (node_of cables place node) in
    rw (flat_map-map end_port_guids (λ p. node_of cables p.0 p.1) (enumerate_from 0 nodes))
    (guids_of of nodes (λ place node size. ends_of_type node.node_type cables place node) sized has apart)
