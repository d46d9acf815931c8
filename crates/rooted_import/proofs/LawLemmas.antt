-- A text that is returned is read as the topology with its roots.
use Rattle.std.proofs.Common.{◌≡◌, ◌∙◌, refl, sym, ap, ℕ, Bool, true, ◌==◌, ◌&&◌, inl, inr, List, [], ◌∷◌, length, Option, Result, Ok, Err, arith}
use Rattle.std.specs.List.{list_all, list_any, range_with_len, zip}
use Rattle.std.specs.Str.{bytes_eq}
use Rattle.std.proofs.lemmas.Bool.{and_parts, cases_Bool, eqb-true, false≢true}
use Rattle.std.proofs.lemmas.Map.Views.{any-filter_same}
use Rattle.std.proofs.lemmas.Slice.Eq.{bytes_eq-Decides}
use Rattle.step_results.specs.AtLine.{AtLine}
use Rattle.step_results.proofs.StepLemmas.{bind_ok, let_through, same_ok}
use Rattle.fabric_parts.specs.declared.cable.Cable.{Cable}
use Rattle.fabric_parts.specs.declared.cable.PortRef.{PortRef}
use Rattle.fabric_parts.specs.declared.limits.Limits.TheVariants.{Large}
use Rattle.fabric_parts.specs.declared.node_type.NodeType.{NodeType}
use Rattle.fabric_parts.specs.declared.node_type.NodeType.TheVariants.{ChannelAdapter, Switch}
use Rattle.fabric_parts.specs.Cable.{is_same_port}
use Rattle.fabric_parts.specs.NodeType.{node_type_code}
use Rattle.netdiscover_file.specs.Discovery.{DiscoveryState}
use Rattle.netdiscover_file.specs.Sound.{IsSound}
use Rattle.topo_file.specs.declared.fault.TopologyCause.{TopologyCause}
use Rattle.topo_file.specs.declared.node.Node.{Node}
use Rattle.topo_file.specs.Node.{guid_at, is_switch_at}
use Rattle.topo_file.specs.Topology.{TopologyState, is_root, topology_within}
use Rattle.topology_import.specs.Import.{import_of}
use Rattle.topology_import.specs.Laws.{IsGiven}
use Rattle.topology_import.proofs.LawLemmas.{given as given_topology}
use Rattle.rooted_import.specs.Agreement.{are_same, has_root, is_rooted, is_same_cable, is_same_node, is_same_place}
use Rattle.rooted_import.specs.Laws.{HasRoots, IsGivenRoots, RootsAreTopSwitches}
use Rattle.rooted_import.specs.Roots.{is_among, is_wanted, rooted_text, roots_of, top_guids}
use Rattle.rooted_import.specs.Rooted.{judged, rooted_by, rooted_import_of, with_roots}

-- ---- lists of the same elements
all_same : {X : Type 0} (same : X × X → Bool) → ((x y : X) → same (x, y) ≡ true → x ≡ y) → (xs ys : List X) → length xs ≡ length ys
    → list_all same (zip xs ys) ≡ true → xs ≡ ys
all_same same is [] [] long alike = refl
all_same same is [] (y ∷ ys) long alike = absurd (omega (arith, long))
all_same same is (x ∷ xs) [] long alike = absurd (omega (arith, long))
all_same same is (x ∷ xs) (y ∷ ys) long alike =
    let parts = and_parts (same (x, y)) (list_all same (zip xs ys)) alike in
    let rest = all_same same is xs ys (omega (arith, long)) parts.1 in
    let first = is x y parts.0 in
    rw (first, rest) refl

same_lists : {X : Type 0} (same : X × X → Bool) → ((x y : X) → same (x, y) ≡ true → x ≡ y) → (xs ys : List X) → are_same same xs ys ≡ true → xs ≡ ys
same_lists same is xs ys alike =
    let parts = and_parts (length xs == length ys) (list_all same (zip xs ys)) alike in
    all_same same is xs ys (eqb-true (length xs) (length ys) parts.0) parts.1

-- ---- the same nodes, cables and ports
same_type : (t u : NodeType) → (node_type_code t == node_type_code u) ≡ true → t ≡ u
same_type ChannelAdapter ChannelAdapter is = refl
same_type ChannelAdapter Switch is = absurd (false≢true is)
same_type Switch ChannelAdapter is = absurd (false≢true is)
same_type Switch Switch is = refl

node_of : (name other : List ℕ) (t u : NodeType) (g h p q : ℕ) → name ≡ other → t ≡ u → g ≡ h → p ≡ q
    → ◌≡◌ {A = Node} (record { name = name; node_type = t; guid = g; ports = p }) (record { name = other; node_type = u; guid = h; ports = q })
node_of name other t u g h p q names types guids ports = rw (names, types, guids, ports) refl

same_node : (a b : Node) → is_same_node (a, b) ≡ true → a ≡ b
same_node a b alike =
    let one = and_parts (bytes_eq a.name b.name)
    ((node_type_code a.node_type == node_type_code b.node_type) && ((a.guid == b.guid) && (a.ports == b.ports))) alike in
    let two = and_parts (node_type_code a.node_type == node_type_code b.node_type) ((a.guid == b.guid) && (a.ports == b.ports)) one.1 in
    let three = and_parts (a.guid == b.guid) (a.ports == b.ports) two.1 in
    node_of a.name b.name a.node_type b.node_type a.guid b.guid a.ports b.ports ((bytes_eq-Decides a.name b.name).0 one.0)
    (same_type a.node_type b.node_type two.0) (eqb-true a.guid b.guid three.0) (eqb-true a.ports b.ports three.1)

port_of : (n m p q : ℕ) → n ≡ m → p ≡ q → ◌≡◌ {A = PortRef} (record { node = n; port = p }) (record { node = m; port = q })
port_of n m p q nodes ports = rw (nodes, ports) refl

same_port : (a b : PortRef) → is_same_port a b ≡ true → a ≡ b
same_port a b alike =
    let parts = and_parts (a.node == b.node) (a.port == b.port) alike in
    port_of a.node b.node a.port b.port (eqb-true a.node b.node parts.0) (eqb-true a.port b.port parts.1)

cable_of : (a b c d : PortRef) → a ≡ b → c ≡ d → ◌≡◌ {A = Cable} (record { first = a; second = c }) (record { first = b; second = d })
cable_of a b c d firsts seconds = rw (firsts, seconds) refl

same_cable : (a b : Cable) → is_same_cable (a, b) ≡ true → a ≡ b
same_cable a b alike =
    let parts = and_parts (is_same_port a.first b.first) (is_same_port a.second b.second) alike in
    cable_of a.first b.first a.second b.second (same_port a.first b.first parts.0) (same_port a.second b.second parts.1)

-- ---- which roots there are
wanted_root : (guids : List ℕ) (nodes : List Node) (root : ℕ) → is_root (roots_of guids nodes) root ≡ true → is_wanted guids nodes root ≡ true
wanted_root guids nodes root there =
    let test = is_wanted guids nodes in
    let places = range_with_len 0 (length nodes) in
    let alike = any-filter_same (λ one. root == one) test (test root) (λ one same. ap test (sym (eqb-true root one same))) places in
    (and_parts (test root) (list_any (λ one. root == one) places) (sym alike ∙ there)).0

all_have : (p : ℕ → Bool) (guids : List ℕ) (guid : ℕ) → list_all p guids ≡ true → is_among guids guid ≡ true → p guid ≡ true
all_have p [] guid all there = absurd (false≢true there)
all_have p (first ∷ guids) guid all there =
    let parts = and_parts (p first) (list_all p guids) all in
    elim (cases_Bool (first == guid)) [
      | inl here ↦ ap p (sym (eqb-true first guid here)) ∙ parts.0
      | inr other ↦ all_have p guids guid parts.1 (rw other at there)
    ]

-- ---- the law
roots_there : (guids : List ℕ) (plan again : TopologyState) → plan.nodes ≡ again.nodes → plan.cables ≡ again.cables → plan.sm ≡ again.sm
    → roots_of guids plan.nodes ≡ again.roots → list_all (has_root again.nodes again.roots) guids ≡ true → HasRoots guids plan again
roots_there guids plan again nodes cables manager roots all = record {
  nodes = nodes;
  cables = cables;
  manager = manager;
  switches = λ root there. (wanted root there).0;
  only = λ root there. (wanted root there).1;
  all = λ guid there. ap (λ (ns : List Node). has_root ns again.roots guid) nodes ∙ all_have (has_root again.nodes again.roots) guids guid all there;
}
  where
    wanted : (root : ℕ) → is_root again.roots root ≡ true → (is_switch_at plan.nodes root ≡ true) × (is_among guids (guid_at plan.nodes root) ≡ true)
    wanted root there =
        and_parts (is_switch_at plan.nodes root) (is_among guids (guid_at plan.nodes root))
        (wanted_root guids plan.nodes root (ap (λ (places : List ℕ). is_root places root) roots ∙ there))

pub roots_are_top_switches : RootsAreTopSwitches
roots_are_top_switches guids plan again passes =
    let one = and_parts (are_same is_same_node plan.nodes again.nodes) _ passes in
    let two = and_parts (are_same is_same_cable plan.cables again.cables) _ one.1 in
    let three = and_parts (is_same_port plan.sm again.sm) _ two.1 in
    let four = and_parts (are_same is_same_place (roots_of guids plan.nodes) again.roots) (list_all (has_root again.nodes again.roots) guids) three.1 in
    roots_there guids plan again (same_lists is_same_node same_node plan.nodes again.nodes one.0)
    (same_lists is_same_cable same_cable plan.cables again.cables two.0) (same_port plan.sm again.sm three.0)
    (same_lists is_same_place (λ n m same. eqb-true n m same) (roots_of guids plan.nodes) again.roots four.0) four.1

-- ---- of a text that is returned
pub record IsRead (guids : List ℕ) (plan : TopologyState) (rooted : List ℕ) : Type 0 where
  pub again : TopologyState
  pub read : topology_within Large rooted ≡ Ok again
  pub roots : HasRoots guids plan again

judged_ok : (guids : List ℕ) (plan : TopologyState) (text : List ℕ) (r : Result TopologyState (AtLine TopologyCause)) (rooted : List ℕ)
    → topology_within Large text ≡ r → judged guids plan text r ≡ Ok rooted → IsRead guids plan rooted
judged_ok guids plan text (Ok again) rooted is h =
    let passed = let_through (is_rooted guids plan again) (Ok text) _ rooted h in
    let same = same_ok text rooted passed.1 in
    record {
      again = again;
      read = ap (λ (t : List ℕ). topology_within Large t) (sym same) ∙ is;
      roots = roots_are_top_switches guids plan again passed.0;
    }
judged_ok guids plan text (Err fault) rooted is h = absurd cc

rooted_ok : (guids text : List ℕ) (plan : TopologyState) (rooted : List ℕ) → topology_within Large text ≡ Ok plan → with_roots guids text ≡ Ok rooted
    → IsRead guids plan rooted
rooted_ok guids text plan rooted is h =
    let whole = rooted_text plan.nodes (roots_of guids plan.nodes) text in
    judged_ok guids plan whole (topology_within Large whole) rooted refl
    (ap (λ (r : Result TopologyState (AtLine TopologyCause)). rooted_by guids text r) (sym is) ∙ h)

pub given : (discovery : DiscoveryState) (manager : Option ℕ) (rooted : List ℕ) → IsSound discovery → rooted_import_of discovery manager ≡ Ok rooted
    → IsGivenRoots discovery manager rooted
unfolding rooted_import_of
given discovery manager rooted sound h =
    let first = bind_ok (import_of discovery manager) (with_roots (top_guids discovery)) rooted h in
    let it : IsGiven discovery manager first.0 = given_topology discovery manager first.0 sound first.1 in
    let back = rooted_ok (top_guids discovery) first.0 it.plan rooted it.read first.2 in
    record { text = first.0; given = it; plan = back.again; read = back.read; roots = back.roots }
