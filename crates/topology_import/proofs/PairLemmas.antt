-- What is found among pairs of ports is what is found among cables, and among lines.
use Rattle.std.proofs.Common.{◌≡◌, ◌∙◌, ℕ, Bool, true, false, not, ◌==◌, ◌&&◌, ◌||◌, ◌+◌, ◌<◌, List, [], ◌∷◌, ◌++◌, append-nil, cond, filter, get_or, length, take, Option, Some, None, ap, ap₂, refl, sym, if◌then◌else◌, arith}
use Rattle.std.specs.List.{list_all, list_any}
use Rattle.std.specs.Option.{option_map_or}
use Rattle.std.proofs.Math.Bool.{and_comm}
use Rattle.std.proofs.lemmas.Bool.Decides.{nat_tests}
use Rattle.std.proofs.lemmas.List.{take_more}
use Rattle.std.proofs.lemmas.List.Elements.{filter-append}
use Rattle.step_results.proofs.ListLemmas.{any_none, any_or}
use Rattle.step_results.proofs.TestLemmas.{same_either_way}
use Rattle.step_results.proofs.BoolLemmas.{and_false, and_true}
use Rattle.fabric_parts.specs.declared.cable.Cable.{Cable}
use Rattle.fabric_parts.specs.declared.cable.PortRef.{PortRef}
use Rattle.netdiscover_file.specs.declared.port.PortLine.{PortLine}
use Rattle.netdiscover_file.specs.Agreement.{far_line}
use Rattle.netdiscover_file.specs.Discovery.{DiscoveryState}
use Rattle.topo_file.specs.declared.node.Node.{Node}
use Rattle.topo_file.specs.Node.{guid_at, is_switch_at, port_guid_at}
use Rattle.topo_file.specs.Topology.{TopologyState}
use Rattle.topology_import.specs.Agreement.{has_cable, is_between, is_cable_of, is_port_by, is_port_of, is_reported}
use Rattle.topology_import.specs.Ends.{counted}
use Rattle.topology_import.specs.Nodes.{switch_guid_at}
use Rattle.topology_import.specs.PortPairs.{cable_pair, end_key, is_pair_of, is_same_key, is_same_pair, joins, joins_cable, joins_line, key_by, line_key, pair_of, port_key, switch_key}
use Rattle.topology_import.specs.declared.port_pairs.PortKey.{PortKey}
use Rattle.topology_import.specs.declared.port_pairs.PortPair.{PortPair}

not_none : (n : ℕ) → (0 == n + 1) ≡ false
not_none n = grind (arith, nat_tests)

none_not : (n : ℕ) → (n + 1 == 0) ≡ false
none_not n = grind (arith, nat_tests)

one_more : (m n : ℕ) → (m + 1 == n + 1) ≡ (m == n)
one_more m n = grind (arith, nat_tests)

end_by_key : (is_switch : Bool) (guid own switch number : ℕ)
    → (not is_switch && (own == guid)) ≡ is_same_key (end_key guid) (if is_switch then switch_key switch number else end_key own)
end_by_key true guid own switch number = sym (ap (λ (b : Bool). (guid == switch) && b) (not_none number) ∙ and_false (guid == switch))
end_by_key false guid own switch number = same_either_way own guid ∙ sym (and_true (guid == own))

switch_by_key : (is_switch : Bool) (guid wanted own switch number : ℕ)
    → (is_switch && ((switch == guid) && (number == wanted))) ≡ is_same_key (switch_key guid wanted) (if is_switch then switch_key switch number else end_key own)
switch_by_key true guid wanted own switch number =
    ap₂ (λ (x y : Bool). x && y) (same_either_way switch guid) (same_either_way number wanted ∙ sym (one_more wanted number))
switch_by_key false guid wanted own switch number = sym (ap (λ (b : Bool). (guid == own) && b) (none_not wanted) ∙ and_false (guid == own))

by_key : (discovery : DiscoveryState) (nodes : List Node) (own : PortRef) (guid : Option ℕ) (port : PortRef)
    → is_port_by discovery nodes own guid port ≡ is_same_key (key_by discovery own guid) (port_key nodes port)
by_key discovery nodes own (Some guid) port = end_by_key (is_switch_at nodes port.node) guid (port_guid_at nodes port) (guid_at nodes port.node) port.port
by_key discovery nodes own None port =
    switch_by_key (is_switch_at nodes port.node) (switch_guid_at discovery.nodes own.node) own.port (port_guid_at nodes port) (guid_at nodes port.node) port.port

of_line : (discovery : DiscoveryState) (nodes : List Node) (line : PortLine) (port : PortRef)
    → is_port_of discovery nodes line port ≡ is_same_key (line_key discovery line) (port_key nodes port)
of_line discovery nodes line port = by_key discovery nodes line.port line.guid port

key_turned : (a b : PortKey) → is_same_key a b ≡ is_same_key b a
key_turned a b = ap₂ (λ (x y : Bool). x && y) (same_either_way a.guid b.guid) (same_either_way a.number b.number)

pub pair_turned : (a b : PortPair) → is_same_pair a b ≡ is_same_pair b a
pair_turned a b = ap₂ (λ (x y : Bool). x && y) (key_turned a.first b.first) (key_turned a.second b.second)

turned : (discovery : DiscoveryState) (nodes : List Node) (one : PortLine) (port : PortRef)
    → is_port_of discovery nodes one port ≡ is_same_key (port_key nodes port) (line_key discovery one)
turned discovery nodes one port = of_line discovery nodes one port ∙ key_turned (line_key discovery one) (port_key nodes port)

-- ---- a cable is between two lines if and only if its pair is theirs, either way round
between : (discovery : DiscoveryState) (nodes : List Node) (cable : Cable) (line other : PortLine)
    → is_between discovery nodes cable line other
    ≡ (is_same_pair (pair_of (line_key discovery line) (line_key discovery other)) (cable_pair nodes cable)
    || is_same_pair (pair_of (line_key discovery other) (line_key discovery line)) (cable_pair nodes cable))
between discovery nodes cable line other =
    ap₂ (λ (x y : Bool). x || y)
    (ap₂ (λ (x y : Bool). x && y) (of_line discovery nodes line cable.first) (of_line discovery nodes other cable.second))
    (ap₂ (λ (x y : Bool). x && y) (of_line discovery nodes line cable.second) (of_line discovery nodes other cable.first)
    ∙ and_comm (is_same_key (line_key discovery line) (port_key nodes cable.second)) (is_same_key (line_key discovery other) (port_key nodes cable.first)))

between_turned : (discovery : DiscoveryState) (nodes : List Node) (cable : Cable) (line other : PortLine)
    → is_between discovery nodes cable line other
    ≡ (is_same_pair (cable_pair nodes cable) (pair_of (line_key discovery line) (line_key discovery other))
    || is_same_pair (pair_of (port_key nodes cable.second) (port_key nodes cable.first)) (pair_of (line_key discovery line) (line_key discovery other)))
between_turned discovery nodes cable line other =
    ap₂ (λ (x y : Bool). x || y)
    (ap₂ (λ (x y : Bool). x && y) (turned discovery nodes line cable.first) (turned discovery nodes other cable.second))
    (ap₂ (λ (x y : Bool). x && y) (turned discovery nodes line cable.second) (turned discovery nodes other cable.first))

-- ---- tests that say the same of each
any_same : {X : Type 0} (f g : X → Bool) → ((x : X) → f x ≡ g x) → (xs : List X) → list_any f xs ≡ list_any g xs
any_same f g same [] = refl
any_same f g same (x ∷ xs) = ap₂ (λ (a b : Bool). a || b) (same x) (any_same f g same xs)

all_same : {X : Type 0} (f g : X → Bool) → ((x : X) → f x ≡ g x) → (xs : List X) → list_all f xs ≡ list_all g xs
all_same f g same [] = refl
all_same f g same (x ∷ xs) = ap₂ (λ (a b : Bool). a && b) (same x) (all_same f g same xs)

-- ---- a line's cable is found among the pairs of cables
abbrev AreOfCables : TopologyState → List PortPair → Type 0
AreOfCables plan pairs =
    (pair : PortPair) → list_any (is_same_pair pair) pairs ≡ list_any (λ cable. is_same_pair pair (cable_pair plan.nodes cable)) plan.cables

line_found : (discovery : DiscoveryState) (plan : TopologyState) (pairs : List PortPair) (line : PortLine) → AreOfCables plan pairs
    → joins_line discovery pairs line ≡ has_cable discovery plan line
line_found discovery plan pairs line are = by (far_line discovery.nodes discovery.ports line.far)
  where
    by : (far : Option PortLine)
        → option_map_or (λ other. joins pairs (line_key discovery line) (line_key discovery other)) far false
        ≡ list_any (λ cable. option_map_or (is_between discovery plan.nodes cable line) far false) plan.cables
    by None = sym (any_none plan.cables)
    by (Some other) =
        let a = line_key discovery line in
        let b = line_key discovery other in
        ap₂ (λ (x y : Bool). x || y) (are (pair_of a b)) (are (pair_of b a))
        ∙ sym (any_or (λ cable. is_same_pair (pair_of a b) (cable_pair plan.nodes cable)) (λ cable. is_same_pair (pair_of b a) (cable_pair plan.nodes cable)) plan.cables)
        ∙ sym (any_same (λ cable. is_between discovery plan.nodes cable line other) _ (λ cable. between discovery plan.nodes cable line other) plan.cables)

pub lines_have : (discovery : DiscoveryState) (plan : TopologyState) (pairs : List PortPair) → AreOfCables plan pairs
    → list_all (joins_line discovery pairs) (counted discovery) ≡ list_all (has_cable discovery plan) (counted discovery)
lines_have discovery plan pairs are =
    all_same (joins_line discovery pairs) (has_cable discovery plan) (λ line. line_found discovery plan pairs line are) (counted discovery)

-- ---- and a cable's line among those of lines
abbrev AreOfLines : DiscoveryState → List PortPair → Type 0
AreOfLines discovery pairs = (pair : PortPair) → list_any (is_same_pair pair) pairs ≡ list_any (is_pair_of discovery pair) (counted discovery)

of_cable : (discovery : DiscoveryState) (nodes : List Node) (cable : Cable) (line : PortLine) (far : Option PortLine)
    → (option_map_or (λ other. is_same_pair (cable_pair nodes cable) (pair_of (line_key discovery line) (line_key discovery other))) far false
    || option_map_or (λ other. is_same_pair (pair_of (port_key nodes cable.second) (port_key nodes cable.first)) (pair_of (line_key discovery line) (line_key discovery other))) far false)
    ≡ option_map_or (is_between discovery nodes cable line) far false
of_cable discovery nodes cable line None = refl
of_cable discovery nodes cable line (Some other) = sym (between_turned discovery nodes cable line other)

cable_found : (discovery : DiscoveryState) (plan : TopologyState) (pairs : List PortPair) (cable : Cable) → AreOfLines discovery pairs
    → joins_cable plan.nodes pairs cable ≡ is_reported discovery plan cable
cable_found discovery plan pairs cable are =
    let a = port_key plan.nodes cable.first in
    let b = port_key plan.nodes cable.second in
    ap₂ (λ (x y : Bool). x || y) (are (pair_of a b)) (are (pair_of b a))
    ∙ sym (any_or (is_pair_of discovery (pair_of a b)) (is_pair_of discovery (pair_of b a)) (counted discovery))
    ∙ any_same _ (λ line. is_cable_of discovery plan.nodes line cable)
    (λ line. of_cable discovery plan.nodes cable line (far_line discovery.nodes discovery.ports line.far)) (counted discovery)

pub cables_are : (discovery : DiscoveryState) (plan : TopologyState) (pairs : List PortPair) → AreOfLines discovery pairs
    → list_all (joins_cable plan.nodes pairs) plan.cables ≡ list_all (is_reported discovery plan) plan.cables
cables_are discovery plan pairs are =
    all_same (joins_cable plan.nodes pairs) (is_reported discovery plan) (λ cable. cable_found discovery plan pairs cable are) plan.cables

-- ---- pairs that are added one after the other
pub added : (a before : Bool) → cond a true before ≡ (before || a)
added true true = refl
added true false = refl
added false true = refl
added false false = refl
