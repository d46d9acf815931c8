-- The ports in the graph of a good fabric: they agree with one another, and no two ends of packets have one GUID.
use Rattle.std.proofs.Common.{ℕ, zero, suc, ◌-◌, ◌<◌, ◌≤◌, ◌≡◌, ◌∙◌, ◌==◌, ◌&&◌, ◌||◌, not, nat_le, nat_lt, ap, refl, sym, subst, Bool, true, false, List, []}
use Rattle.std.proofs.Common.{◌∷◌, map, get_or, length, slice_get, Option, Some, None, option_map, ◌⊎◌, inl, inr, arith}
use Rattle.std.specs.List.{AllByRecursion, IsDistinct, list_all, list_any}
use Rattle.std.specs.Option.{option_map_or}
use Rattle.std.proofs.lemmas.Bool.{and_from, and_parts, false≢true, le-leb}
use Rattle.std.proofs.lemmas.Bool.Decides.{Decides-eqb, nat_tests}
use Rattle.std.proofs.lemmas.List.Folds.{list_all-map}
use Rattle.std.proofs.lemmas.Map.Keys.{IsDistinct-cons, IsDistinct-head, IsDistinct-tail}
use Rattle.std.proofs.lemmas.Option.{same_Some, slice_get_cases, slice_get-map}
use Rattle.step_results.proofs.ListLemmas.{IsDistinct-nil, all_have, all_there}
use Rattle.fabric_parts.specs.Cable.{far_end, is_same_port, port}
use Rattle.fabric_parts.specs.NodeType.{most_ports}
use Rattle.fabric_parts.specs.declared.node_type.NodeType.TheVariants as node_type
use Rattle.smp_wire.specs.FabricState.{FabricState, is_switch, is_switch_at, port_count}
use Rattle.smp_wire.specs.Good.{IsGood, has_a_right_count, node_guid}
use Rattle.smp_wire.specs.declared.node.Node.{Node}
use Rattle.smp_wire.specs.declared.node.Node.TheVariants.{Switch, Adapter}
use Rattle.sweep.specs.Graph.{agree, all_agree, end_guids, hops_to, is_no_switch, is_right_port}
use Rattle.sweep.specs.OfFabric.{Found, guid_at, is_among, node_at, nodes_of, ports_at, switch_of}
use Rattle.sweep.specs.Progress.{AreMet, IsDiscovery, IsKnownBehind, IsShownAt, Met, WasMet, ends_met}
use Rattle.sweep.specs.declared.graph.GraphPort.{GraphPort}
use Rattle.sweep.specs.declared.graph.GraphSwitch.{GraphSwitch}
use Rattle.sweep.specs.declared.path.TheConstants.{PATH_HOPS}
use Rattle.sweep.proofs.FoundLemmas.{all_by, among_place, any_at}
use Rattle.sweep.proofs.LeastLemmas.{in_range}
use Rattle.sweep.proofs.OwnLemmas.{EndAt, adapter_seen, joined_parts, own_end, own_node, switch_end}
use Rattle.sweep.proofs.PlaceLemmas.{count_found, own_guid}
use Rattle.sweep.proofs.ProgressLemmas.{node_of}
use Rattle.sweep.proofs.VisitLemmas.{stands_switch}

-- what is known of a port that was met
pub record IsKnownPort (fabric : FabricState) (met : Met) : Type 0 where
  pub held : Node
  pub there : slice_get fabric.nodes met.end.node ≡ Some held
  pub guid : met.port.node_guid ≡ node_guid held
  pub count : met.port.num_ports ≡ ports_at fabric met.end.node
  pub number : met.port.number ≡ met.end.port
  pub end_is : EndAt fabric met.end.node (met.end.port - 1) met.port.port_guid
  pub from : 1 ≤ met.end.port
  pub within : met.end.port ≤ ports_at fabric met.end.node
  pub adapter : is_switch_at fabric.nodes met.end.node ≡ false

pub known_port : (fabric : FabricState) (met : Met) → IsShownAt fabric met → IsKnownPort fabric met
known_port fabric met shown =
    let seen = adapter_seen fabric met.end shown.seen shown.adapter shown.is in
    let range = in_range fabric met.end.node met.end.port shown.there in
    record {
      held = seen.held;
      there = seen.there;
      guid = shown.node_guid ∙ seen.guid;
      count = shown.count ∙ seen.count;
      number = shown.number ∙ seen.number;
      end_is = subst (EndAt fabric met.end.node (met.end.port - 1)) (sym shown.port_guid) seen.end_is;
      from = range.0;
      within = range.1;
      adapter = shown.adapter;
    }

-- ---- each port is right
few_ports : (held : Node) → is_switch held ≡ false → has_a_right_count held ≡ true → nat_le (port_count held) (most_ports node_type.ChannelAdapter) ≡ true
few_ports (Switch held) adapter right = absurd (false≢true (sym adapter))
few_ports (Adapter ports) adapter right = (and_parts (nat_le 1 (length ports)) _ right).1

guid_of : (fabric : FabricState) (node : ℕ) (held : Node) → slice_get fabric.nodes node ≡ Some held → guid_at fabric node ≡ node_guid held
guid_of fabric node held there = ap (λ (o : Option Node). option_map_or node_guid o 0) there

held_switch : (fabric : FabricState) (node : ℕ) (o : Option Node) → slice_get fabric.nodes node ≡ o → option_map_or is_switch o false ≡ true
    → (held : Node) × (slice_get fabric.nodes node ≡ Some held)
held_switch fabric node None there switch = absurd (false≢true switch)
held_switch fabric node (Some held) there switch = (held, there)

no_switch : (fabric : FabricState) (found : List Found) (met : Met) → IsGood fabric → IsDiscovery fabric found → IsKnownPort fabric met
    → is_no_switch (map (switch_of fabric) found) met.port.node_guid ≡ true
no_switch fabric found met good so_far known = by (list_any (λ switch. switch.guid == met.port.node_guid) (map (switch_of fabric) found)) refl
  where
    clash : (k : ℕ) (switch : GraphSwitch) (o : Option Found) → slice_get found k ≡ o → option_map (switch_of fabric) o ≡ Some switch
        → (switch.guid == met.port.node_guid) ≡ true → ⊥
    clash k switch None stood is same = absurd cc
    clash k switch (Some one) stood is same =
        let guid : guid_at fabric one.node ≡ met.port.node_guid = ap (λ (s : GraphSwitch). s.guid) (same_Some _ switch is) ∙ (Decides-eqb switch.guid met.port.node_guid).0 same in
        let a_switch = stands_switch fabric found k one so_far.are stood in
        let held = held_switch fabric one.node (slice_get fabric.nodes one.node) refl a_switch in
        let node : one.node ≡ met.end.node =
        own_node fabric one.node met.end.node held.0 known.held good held.1 known.there (sym (guid_of fabric one.node held.0 held.1) ∙ guid ∙ known.guid) in
        false≢true (sym known.adapter ∙ ap (is_switch_at fabric.nodes) (sym node) ∙ a_switch)

    by : (b : Bool) → list_any (λ switch. switch.guid == met.port.node_guid) (map (switch_of fabric) found) ≡ b → not b ≡ true
    by false is = refl
    by true is =
        let at = any_at (λ switch. switch.guid == met.port.node_guid) (map (switch_of fabric) found) is in
        absurd (clash at.place at.one (slice_get found at.place) refl (sym (slice_get-map (switch_of fabric) found at.place) ∙ at.there) at.passes)

hops_found : (fabric : FabricState) (found : List Found) (place : ℕ) (one : Found) → slice_get found place ≡ Some one
    → hops_to (map (switch_of fabric) found) place ≡ length one.path
hops_found fabric found place one there =
    ap (λ (o : Option GraphSwitch). option_map_or (λ (switch : GraphSwitch). length switch.path) o 0)
    (slice_get-map (switch_of fabric) found place ∙ ap (option_map (switch_of fabric)) there)

-- each switch that was found was asked
abbrev AllAsked : FabricState → List Found → Type 0
AllAsked fabric found = (k : ℕ) (one : Found) → slice_get found k ≡ Some one → IsKnownBehind fabric found one (ports_at fabric one.node)

-- what is further than an SMP goes is no adapter
near_enough : (fabric : FabricState) (found : List Found) (i count : ℕ) (met : Met) (one : Found) → AllAsked fabric found → IsKnownPort fabric met
    → WasMet fabric found i count met → slice_get found met.port.at.node ≡ Some one → nat_lt (length one.path) PATH_HOPS ≡ true
near_enough fabric found i count met one all known was stood = by (nat_lt (length one.path) PATH_HOPS) refl
  where
    deep : (n : ℕ) → nat_lt n PATH_HOPS ≡ false → PATH_HOPS ≤ n
    deep n h = grind (arith, nat_tests, h)

    by : (b : Bool) → nat_lt (length one.path) PATH_HOPS ≡ b → b ≡ true
    by true is = refl
    by false is =
        let node = node_of found met.port.at.node one stood in
        let behind = (all met.port.at.node one stood).near_behind met.port.at.port met.end was.asked.1.0
        (omega (arith, was.within, ap (ports_at fabric) node))
        (ap (λ (n : ℕ). far_end fabric.cables (port n met.port.at.port)) (sym node) ∙ was.cable) (deep (length one.path) is) in
        absurd (false≢true (sym known.adapter ∙ behind.switch))

right_port : (fabric : FabricState) (found : List Found) (i count : ℕ) (met : Met) → IsGood fabric → IsDiscovery fabric found → AllAsked fabric found
    → IsKnownPort fabric met → WasMet fabric found i count met → is_right_port (map (switch_of fabric) found) met.port ≡ true
right_port fabric found i count met good so_far all known was = by (slice_get_cases found met.port.at.node).1
  where
    adapter : is_switch known.held ≡ false
    adapter = sym (ap (λ (o : Option Node). option_map_or is_switch o false) known.there) ∙ known.adapter

    few : nat_le met.port.num_ports (most_ports node_type.ChannelAdapter) ≡ true
    few =
        ap (λ (n : ℕ). nat_le n (most_ports node_type.ChannelAdapter)) (known.count ∙ ap (λ (o : Option Node). option_map_or port_count o 0) known.there)
        ∙ few_ports known.held adapter (all_there has_a_right_count fabric.nodes met.end.node known.held good.counts known.there)

    first : nat_le 1 met.port.number ≡ true
    first = ap (nat_le 1) known.number ∙ le-leb 1 met.end.port known.from

    last : nat_le met.port.number met.port.num_ports ≡ true
    last = ap (λ (n : ℕ). nat_le n met.port.num_ports) known.number ∙ ap (nat_le met.end.port) known.count ∙ le-leb met.end.port (ports_at fabric met.end.node) known.within

    by : ((x : Found) × (met.port.at.node < length found) × (slice_get found met.port.at.node ≡ Some x) × (get_or found met.port.at.node x ≡ x))
        ⊎ ((length found ≤ met.port.at.node) × (slice_get found met.port.at.node ≡ None)) → is_right_port (map (switch_of fabric) found) met.port ≡ true
    by (inr past) = absurd (omega (arith, past.0, was.asked.1.1))
    by (inl here) =
        let counted = count_found fabric found (map (switch_of fabric) found) met.port.at.node here.0 refl here.2 in
        let node = node_of found met.port.at.node here.0 here.2 in
        let near = ap (λ (n : ℕ). nat_lt n PATH_HOPS) (hops_found fabric found met.port.at.node here.0 here.2)
        ∙ near_enough fabric found i count met here.0 all known was here.2 in
        and_from _ _ (and_from (nat_le 1 met.port.at.port) _ (le-leb 1 met.port.at.port was.asked.1.0)
        (ap (nat_le met.port.at.port) (counted ∙ ap (ports_at fabric) (sym node)) ∙ le-leb met.port.at.port (ports_at fabric (node_at found met.port.at.node)) was.within))
        (and_from _ _ (and_from _ _ first last) (and_from _ _ few (and_from _ _ (no_switch fabric found met good so_far known) near)))

pub graph_ports : (fabric : FabricState) (found : List Found) (i count : ℕ) (ports : List GraphPort) → IsGood fabric → IsDiscovery fabric found
    → AllAsked fabric found → AreMet fabric found i count ports → list_all (is_right_port (map (switch_of fabric) found)) ports ≡ true
graph_ports fabric found i count ports good so_far all are =
    ap (list_all (is_right_port (map (switch_of fabric) found))) are.ports_are
    ∙ list_all-map (is_right_port (map (switch_of fabric) found)) (λ (one : Met). one.port) are.met
    ∙ all_by (λ one. is_right_port (map (switch_of fabric) found) one.port) are.met
    (λ k one there. right_port fabric found i count one good so_far all (known_port fabric one (all_have (IsShownAt fabric) are.met k one are.shown there))
    (all_have (WasMet fabric found i count) are.met k one are.asked there))

-- ---- two ports of one adapter
agrees : (fabric : FabricState) (one other : Met) → IsGood fabric → IsKnownPort fabric one → IsKnownPort fabric other
    → is_same_port one.end other.end ≡ false → agree one.port other.port ≡ true
agrees fabric one other good known known_other apart = by (one.port.node_guid == other.port.node_guid) refl
  where
    by : (b : Bool) → (one.port.node_guid == other.port.node_guid) ≡ b
        → not b || ((one.port.num_ports == other.port.num_ports) && not (one.port.number == other.port.number)) ≡ true
    by false is = refl
    by true is =
        let guid = (Decides-eqb one.port.node_guid other.port.node_guid).0 is in
        let node : one.end.node ≡ other.end.node =
        own_node fabric one.end.node other.end.node known.held known_other.held good known.there known_other.there (sym known.guid ∙ guid ∙ known_other.guid) in
        and_from _ _ ((Decides-eqb one.port.num_ports other.port.num_ports).1 (known.count ∙ ap (ports_at fabric) node ∙ sym known_other.count))
        (number (one.port.number == other.port.number) refl node)
      where
        number : (b : Bool) → (one.port.number == other.port.number) ≡ b → one.end.node ≡ other.end.node → not b ≡ true
        number false is node = refl
        number true is node =
            let same : one.end.port ≡ other.end.port = sym known.number ∙ (Decides-eqb one.port.number other.port.number).0 is ∙ known_other.number in
            absurd (false≢true (sym apart ∙ and_from _ _ ((Decides-eqb one.end.node other.end.node).1 node) ((Decides-eqb one.end.port other.end.port).1 same)))

head_at : (one : Met) (some : List Met) (k : ℕ) (other : Met) → AllByRecursion (λ end. is_same_port one.end end ≡ false) (ends_met some)
    → slice_get some k ≡ Some other → is_same_port one.end other.end ≡ false
head_at one [] k other all there = cc
head_at one (first ∷ some) zero other all there = subst (λ (met : Met). is_same_port one.end met.end ≡ false) (same_Some first other there) all.0
head_at one (first ∷ some) (suc k) other all there = head_at one some k other all.1 there

agree_by : (fabric : FabricState) (some : List Met) → IsGood fabric → ((k : ℕ) (one : Met) → slice_get some k ≡ Some one → IsKnownPort fabric one)
    → IsDistinct is_same_port (ends_met some) → all_agree (map (λ one. one.port) some) ≡ true
agree_by fabric [] good known once = refl
agree_by fabric (one ∷ some) good known once =
    and_from (list_all (agree one.port) (map (λ one. one.port) some)) _
    (list_all-map (agree one.port) (λ (one : Met). one.port) some
    ∙ all_by (λ other. agree one.port other.port) some (λ k other there. agrees fabric one other good (known 0 one refl) (known (suc k) other there)
    (head_at one some k other (IsDistinct-head is_same_port one.end (ends_met some) once) there)))
    (agree_by fabric some good (λ k other there. known (suc k) other there) (IsDistinct-tail is_same_port one.end (ends_met some) once))

pub graph_agrees : (fabric : FabricState) (found : List Found) (i count : ℕ) (ports : List GraphPort) → IsGood fabric → AreMet fabric found i count ports
    → all_agree ports ≡ true
graph_agrees fabric found i count ports good are =
    ap all_agree are.ports_are
    ∙ agree_by fabric are.met good (λ k one there. known_port fabric one (all_have (IsShownAt fabric) are.met k one are.shown there)) are.once

-- ---- GUIDs
distinct_by : {X : Type 0} (same : X → X → Bool) (f : X → ℕ) (xs : List X) → IsDistinct same xs
    → ((j k : ℕ) (x y : X) → slice_get xs j ≡ Some x → slice_get xs k ≡ Some y → f x ≡ f y → same x y ≡ true) → IsDistinct (λ a b. a == b) (map f xs)
distinct_by same f [] once own = IsDistinct-nil (λ a b. a == b)
distinct_by {X = X} same f (x ∷ xs) once own =
    IsDistinct-cons (λ a b. a == b) (f x) (map f xs)
    (rest xs (IsDistinct-head same x xs once) (λ k y there is. own 0 (suc k) x y refl there is))
    (distinct_by same f xs (IsDistinct-tail same x xs once) (λ j k a b at_j at_k is. own (suc j) (suc k) a b at_j at_k is))
  where
    rest : (some : List X) → AllByRecursion (λ y. same x y ≡ false) some → ((k : ℕ) (y : X) → slice_get some k ≡ Some y → f x ≡ f y → same x y ≡ true)
        → AllByRecursion (λ n. (f x == n) ≡ false) (map f some)
    rest [] all own = tt
    rest (y ∷ some) all own = (by (f x == f y) refl, rest some all.1 (λ k z there is. own (suc k) z there is))
      where
        by : (b : Bool) → (f x == f y) ≡ b → b ≡ false
        by false is = refl
        by true is = absurd (false≢true (sym all.0 ∙ own 0 y refl ((Decides-eqb (f x) (f y)).0 is)))

switches_own : (fabric : FabricState) (found : List Found) → IsGood fabric → IsDiscovery fabric found
    → IsDistinct (λ a b. a == b) (map (guid_at fabric) (nodes_of found))
switches_own fabric found good so_far =
    distinct_by (λ a b. a == b) (guid_at fabric) (nodes_of found) so_far.once
    (λ j k a b at_j at_k is. (Decides-eqb a b).1 (own_guid fabric a b good (all_there (is_switch_at fabric.nodes) (nodes_of found) j a so_far.are at_j)
    (all_there (is_switch_at fabric.nodes) (nodes_of found) k b so_far.are at_k) is))

distinct_of : {X Y : Type 0} (same : Y → Y → Bool) (f : X → Y) (xs : List X) → IsDistinct same (map f xs) → IsDistinct (λ a b. same (f a) (f b)) xs
distinct_of same f [] once = IsDistinct-nil (λ a b. same (f a) (f b))
distinct_of {X = X} same f (x ∷ xs) once =
    IsDistinct-cons (λ a b. same (f a) (f b)) x xs (rest xs (IsDistinct-head same (f x) (map f xs) once)) (distinct_of same f xs (IsDistinct-tail same (f x) (map f xs) once))
  where
    rest : (some : List X) → AllByRecursion (λ y. same (f x) y ≡ false) (map f some) → AllByRecursion (λ y. same (f x) (f y) ≡ false) some
    rest [] all = tt
    rest (y ∷ some) all = (all.0, rest some all.1)

one_less : (n m : ℕ) → 1 ≤ n → 1 ≤ m → n - 1 ≡ m - 1 → n ≡ m
one_less n m a b same = omega (arith, a, b, same)

ports_own : (fabric : FabricState) (some : List Met) → IsGood fabric → ((k : ℕ) (one : Met) → slice_get some k ≡ Some one → IsKnownPort fabric one)
    → IsDistinct is_same_port (ends_met some) → IsDistinct (λ a b. a == b) (map (λ one. one.port.port_guid) some)
ports_own fabric some good known once =
    distinct_by (λ a b. is_same_port a.end b.end) (λ one. one.port.port_guid) some (distinct_of is_same_port (λ (one : Met). one.end) some once)
    (λ j k one other at_j at_k is. by one other (known j one at_j) (known k other at_k) is)
  where
    by : (one other : Met) → IsKnownPort fabric one → IsKnownPort fabric other → one.port.port_guid ≡ other.port.port_guid → is_same_port one.end other.end ≡ true
    by one other known_one known_other is =
        let same = own_end fabric one.end.node other.end.node (one.end.port - 1) (other.end.port - 1) other.port.port_guid good
        (subst (EndAt fabric one.end.node (one.end.port - 1)) is known_one.end_is) known_other.end_is in
        and_from _ _ ((Decides-eqb one.end.node other.end.node).1 same.0)
        ((Decides-eqb one.end.port other.end.port).1 (one_less one.end.port other.end.port known_one.from known_other.from same.1))

apart : (fabric : FabricState) (found : List Found) (some : List Met) → IsGood fabric → IsDiscovery fabric found
    → ((k : ℕ) (one : Met) → slice_get some k ≡ Some one → IsKnownPort fabric one)
    → (x : ℕ) → is_among (map (guid_at fabric) (nodes_of found)) x ≡ true → is_among (map (λ one. one.port.port_guid) some) x ≡ true → ⊥
apart fabric found some good so_far known x of_switch of_port =
    let one = among_place (map (guid_at fabric) (nodes_of found)) x of_switch in
    let other = among_place (map (λ (one : Met). one.port.port_guid) some) x of_port in
    by one.0 (slice_get (nodes_of found) one.0) refl (sym (slice_get-map (guid_at fabric) (nodes_of found) one.0) ∙ one.1)
    other.0 (slice_get some other.0) refl (sym (slice_get-map (λ (one : Met). one.port.port_guid) some other.0) ∙ other.1)
  where
    by : (j : ℕ) (o : Option ℕ) → slice_get (nodes_of found) j ≡ o → option_map (guid_at fabric) o ≡ Some x
        → (k : ℕ) (p : Option Met) → slice_get some k ≡ p → option_map (λ (one : Met). one.port.port_guid) p ≡ Some x → ⊥
    by j None at_j is k p at_k port_is = absurd cc
    by j (Some node) at_j is k None at_k port_is = absurd cc
    by j (Some node) at_j is k (Some met) at_k port_is =
        let switch = all_there (is_switch_at fabric.nodes) (nodes_of found) j node so_far.are at_j in
        let known_met = known k met at_k in
        let same = own_end fabric node met.end.node 0 (met.end.port - 1) x good
        (subst (EndAt fabric node 0) (same_Some (guid_at fabric node) x is) (switch_end fabric node switch))
        (subst (EndAt fabric met.end.node (met.end.port - 1)) (same_Some met.port.port_guid x port_is) known_met.end_is) in
        false≢true (sym known_met.adapter ∙ ap (is_switch_at fabric.nodes) (sym same.0) ∙ switch)

map_twice : {X Y Z : Type 0} (g : Y → Z) (f : X → Y) (xs : List X) → map g (map f xs) ≡ map (λ x. g (f x)) xs
map_twice g f [] = refl
map_twice g f (x ∷ xs) = ap (λ (rest : List _). g (f x) ∷ rest) (map_twice g f xs)

pub graph_guids : (fabric : FabricState) (found : List Found) (i count : ℕ) (ports : List GraphPort) → IsGood fabric → IsDiscovery fabric found
    → AreMet fabric found i count ports → IsDistinct (λ a b. a == b) (end_guids (map (switch_of fabric) found) ports)
graph_guids fabric found i count ports good so_far are =
    let known : (k : ℕ) (one : Met) → slice_get are.met k ≡ Some one → IsKnownPort fabric one =
    λ k one there. known_port fabric one (all_have (IsShownAt fabric) are.met k one are.shown there) in
    let switches : map (λ (switch : GraphSwitch). switch.guid) (map (switch_of fabric) found) ≡ map (guid_at fabric) (nodes_of found) =
    map_twice (λ (switch : GraphSwitch). switch.guid) (switch_of fabric) found ∙ sym (map_twice (guid_at fabric) (λ (one : Found). one.node) found) in
    let of_ports : map (λ (port : GraphPort). port.port_guid) ports ≡ map (λ (one : Met). one.port.port_guid) are.met =
    ap (map (λ (port : GraphPort). port.port_guid)) are.ports_are ∙ map_twice (λ (port : GraphPort). port.port_guid) (λ (one : Met). one.port) are.met in
    rw (switches, of_ports)
    (joined_parts (map (guid_at fabric) (nodes_of found)) (map (λ one. one.port.port_guid) are.met) (switches_own fabric found good so_far)
    (ports_own fabric are.met good known are.once) (apart fabric found are.met good so_far known))
