-- The graph of a good fabric agrees with itself.
use Rattle.std.proofs.Common.{ℕ, zero, suc, ◌+◌, ◌<◌, ◌≤◌, ◌≡◌, ◌⊎◌, inl, inr, ◌∙◌, ◌==◌, ◌&&◌, ◌||◌, not, nat_le, nat_lt, ap, refl, sym, Bool, true}
use Rattle.std.proofs.Common.{false, if◌then◌else◌, List, [], ◌∷◌, ◌++◌, flat_map, map, take, get_or, length, slice_get, Option, Some, None}
use Rattle.std.proofs.Common.{option_map, arith}
use Rattle.std.proofs.Math.Bool.{or-true}
use Rattle.std.specs.List.{list_all, list_any, range_with_len}
use Rattle.std.specs.Option.{option_map_or}
use Rattle.std.proofs.lemmas.Bool.{and_from, and_parts, false≢true, le-leb, not-true}
use Rattle.std.proofs.lemmas.Bool.Decides.{Decides-eqb, nat_tests}
use Rattle.std.proofs.lemmas.List.{append-nil, length-map, take_all}
use Rattle.std.proofs.lemmas.List.Folds.{list_all-append, list_all-map}
use Rattle.std.proofs.lemmas.Option.{same_Some, slice_get_cases, slice_get_within, slice_get-map}
use Rattle.step_results.proofs.ListLemmas.{all_have, all_there}
use Rattle.fabric_parts.specs.Cable.{far_end, is_same_port, port}
use Rattle.fabric_parts.specs.NodeType.{most_ports}
use Rattle.fabric_parts.specs.declared.cable.Cable.{Cable}
use Rattle.fabric_parts.specs.declared.cable.PortRef.{PortRef}
use Rattle.fabric_parts.specs.declared.node_type.NodeType.TheVariants as node_type
use Rattle.smp_wire.proofs.CableLemmas.{cabled_is_port, far_ends_meet, far_is_port}
use Rattle.smp_wire.specs.FabricState.{FabricState, is_port, is_switch, is_switch_at, port_count}
use Rattle.smp_wire.specs.Good.{IsGood, has_a_right_count, is_right}
use Rattle.smp_wire.specs.declared.node.Node.{Node}
use Rattle.smp_wire.specs.declared.node.Node.TheVariants.{Switch, Adapter}
use Rattle.sweep.specs.Graph.{IsGraph, graph_with, is_joined, is_linked, is_near, is_right_link, is_right_row, is_right_switch, rise_above}
use Rattle.sweep.specs.OfFabric.{Found, Leads, is_among, link_to, node_at, nodes_of, place_of, placed, port_to, ports_at, all_ports, ports_up_to, row_of, switch_of}
use Rattle.sweep.specs.Progress.{HasNeighbour, IsDiscovery, IsProgress, StandsAt}
use Rattle.sweep.specs.Seen.{seen_at}
use Rattle.sweep.specs.Survey.{SurveyState}
use Rattle.sweep.specs.Sweeps.{IsAllAsked, IsSweepable}
use Rattle.sweep.specs.declared.graph.GraphLink.{GraphLink}
use Rattle.sweep.specs.declared.seen.Seen.{Seen}
use Rattle.sweep.specs.declared.path.TheConstants.{PATH_HOPS}
use Rattle.sweep.proofs.FoundLemmas.{all_by, among_place, found_among, found_at, node_there, place_is}
use Rattle.sweep.proofs.LeastLemmas.{in_range}
use Rattle.sweep.proofs.MetLemmas.{good_once}
use Rattle.sweep.proofs.PlaceLemmas.{count_found}
use Rattle.sweep.proofs.TurnLemmas.{any_in, row_at, row_has}
use Rattle.sweep.proofs.VisitLemmas.{link_is, port_is, stands_switch}
use Rattle.sweep.proofs.PortsLemmas.{graph_agrees, graph_guids, graph_ports}
use Rattle.sweep.proofs.ProgressLemmas.{node_of}
use Rattle.smp_wire.proofs.PresentLemmas.{present_right}

-- ---- switches
count_by : (found : Option Node) → option_map_or is_switch found false ≡ true
    → ((node : Node) → found ≡ Some node → has_a_right_count node ≡ true)
    → nat_le 1 (option_map_or port_count found 0) && nat_le (option_map_or port_count found 0) (most_ports node_type.Switch) ≡ true
count_by None switch right = absurd (false≢true switch)
count_by (Some (Adapter ports)) switch right = absurd (false≢true switch)
count_by (Some (Switch held)) switch right = right (Switch held) refl

pub right_count_at : (fabric : FabricState) (node : ℕ) → IsGood fabric → is_switch_at fabric.nodes node ≡ true
    → nat_le 1 (ports_at fabric node) && nat_le (ports_at fabric node) (most_ports node_type.Switch) ≡ true
right_count_at fabric node good switch =
    count_by (slice_get fabric.nodes node) switch (λ one there. all_there has_a_right_count fabric.nodes node one good.counts there)

right_switch : (fabric : FabricState) (one : Found) → IsGood fabric → is_switch_at fabric.nodes one.node ≡ true → Leads fabric one
    → is_right_switch (switch_of fabric one) ≡ true
right_switch fabric one good switch leads =
    and_from _ _ (right_count_at fabric one.node good switch)
    (and_from (nat_le 1 (length one.path)) _ (rw leads.leaves (le-leb 1 (suc (length leads.rest)) (omega arith))) (le-leb (length one.path) PATH_HOPS leads.short))

pub graph_switches : (fabric : FabricState) (found : List Found) → IsGood fabric → IsDiscovery fabric found
    → list_all is_right_switch (map (switch_of fabric) found) ≡ true
graph_switches fabric found good so_far =
    list_all-map is_right_switch (switch_of fabric) found
    ∙ all_by (λ one. is_right_switch (switch_of fabric one)) found
    (λ k one there. right_switch fabric one good (stands_switch fabric found k one so_far.are there) (all_have (Leads fabric) found k one so_far.lead there))

-- ---- rows rise
rises : (f : ℕ → List GraphLink) (a n last : ℕ) → last < a
    → ((k : ℕ) → (f k ≡ []) ⊎ ((to : PortRef) × (f k ≡ record { port = k; to = to } ∷ [])))
    → rise_above last (flat_map f (range_with_len a n)) ≡ true
rises f a zero last below each = refl
rises f a (suc n) last below each = by (each a) (λ from under. rises f (a + 1) n from under each)
  where
    lt_true : nat_lt last a ≡ true
    lt_true = grind (arith, nat_tests, below)

    by : (f a ≡ []) ⊎ ((to : PortRef) × (f a ≡ record { port = a; to = to } ∷ []))
        → ((from : ℕ) → from < a + 1 → rise_above from (flat_map f (range_with_len (a + 1) n)) ≡ true)
        → rise_above last (f a ++ flat_map f (range_with_len (a + 1) n)) ≡ true
    by (inl none) rest = rw none (rest last (omega (arith, below)))
    by (inr one) rest = rw (one.1, lt_true) (rest a (omega arith))

one_link : (fabric : FabricState) (nodes : List ℕ) (number : ℕ) (far : Option PortRef)
    → (option_map_or (link_to fabric nodes number) far [] ≡ []) ⊎ ((to : PortRef) × (option_map_or (link_to fabric nodes number) far [] ≡ record { port = number; to = to } ∷ []))
one_link fabric nodes number None = inl refl
one_link fabric nodes number (Some there) = by (is_switch_at fabric.nodes there.node) refl
  where
    by : (b : Bool) → is_switch_at fabric.nodes there.node ≡ b
        → (link_to fabric nodes number there ≡ []) ⊎ ((to : PortRef) × (link_to fabric nodes number there ≡ record { port = number; to = to } ∷ []))
    by true switch = inr (placed nodes there, rw switch refl)
    by false adapter = inl (rw adapter refl)

pub row_rises : (fabric : FabricState) (nodes : List ℕ) (node : ℕ) → rise_above 0 (row_of fabric nodes node) ≡ true
row_rises fabric nodes node =
    rises (λ number. option_map_or (link_to fabric nodes number) (far_end fabric.cables (port node number)) []) 1 (ports_at fabric node) 0 (omega arith)
    (λ number. one_link fabric nodes number (far_end fabric.cables (port node number)))

-- ---- links lead to other switches, and back
-- each element of what a range makes is of one of its numbers
all_made : {X : Type 0} (p : X → Bool) (f : ℕ → List X) (a n : ℕ) → ((k : ℕ) → a ≤ k → k < a + n → list_all p (f k) ≡ true)
    → list_all p (flat_map f (range_with_len a n)) ≡ true
all_made p f a zero each = refl
all_made p f a (suc n) each =
    list_all-append p (f a) (flat_map f (range_with_len (a + 1) n))
    ∙ and_from (list_all p (f a)) _ (each a (omega arith) (omega arith)) (all_made p f (a + 1) n (λ k from to. each k (omega (arith, from)) (omega (arith, to))))

pub other_node : (fabric : FabricState) (a b : PortRef) → IsGood fabric → far_end fabric.cables a ≡ Some b → (b.node == a.node) ≡ false
other_node fabric a b good is =
    far_ends_meet (λ one other. (other.node == one.node) ≡ false) (is_right fabric.nodes) apart fabric.cables a b (present_right good) is
  where
    flip : (n m : ℕ) → (n == m) ≡ false → (m == n) ≡ false
    flip n m h = grind (arith, nat_tests, h)

    apart : (cable : Cable) → is_right fabric.nodes cable ≡ true
        → ((cable.second.node == cable.first.node) ≡ false) × ((cable.first.node == cable.second.node) ≡ false)
    apart cable right =
        let one = and_parts (is_port fabric.nodes cable.first) _ right in
        let two = and_parts (is_port fabric.nodes cable.second) _ one.1 in
        let three = and_parts (not (cable.first.node == cable.second.node)) _ two.1 in
        let differ = not-true (cable.first.node == cable.second.node) three.0 in
        (flip cable.first.node cable.second.node differ, differ)

-- the rows of all switches that were found
abbrev pub rows_of : FabricState → List Found → List (List GraphLink)
rows_of fabric found = map (λ one. row_of fabric (nodes_of found) one.node) found

pub row_there : (fabric : FabricState) (found : List Found) (k : ℕ) (one : Found) → StandsAt found k one → get_or (rows_of fabric found) k [] ≡ row_of fabric (nodes_of found) one.node
row_there fabric found k one there =
    ap (λ (some : List Found). get_or (map (λ one. row_of fabric (nodes_of found) one.node) some) k []) (sym (take_all (length found) found (omega arith)))
    ∙ row_at fabric (nodes_of found) found (length found) k one (slice_get_within found k one there) there

right_link : (fabric : FabricState) (found : List Found) (k number : ℕ) (one : Found) (end : PortRef) → IsGood fabric → IsDiscovery fabric found
    → StandsAt found k one → 1 ≤ number → number ≤ ports_at fabric one.node → far_end fabric.cables (port one.node number) ≡ Some end
    → is_among (nodes_of found) end.node ≡ true
    → is_right_link (map (switch_of fabric) found) (rows_of fabric found) k (record { port = number; to = placed (nodes_of found) end }) ≡ true
right_link fabric found k number one end good so_far there from within cable among =
    let at = among_place (nodes_of found) end.node among in
    let place : place_of (nodes_of found) end.node ≡ at.0 = place_is (nodes_of found) at.0 end.node so_far.once at.1 in
    let count = count_found fabric found (map (switch_of fabric) found) k one refl there in
    and_from _ _ (rw count (le-leb number (ports_at fabric one.node) within))
    (and_from _ _ (apart at.0 place at.1) (back at.0 place at.1))
  where
    apart : (j : ℕ) → place_of (nodes_of found) end.node ≡ j → slice_get (nodes_of found) j ≡ Some end.node → not (place_of (nodes_of found) end.node == k) ≡ true
    apart j place at = by (place_of (nodes_of found) end.node == k) refl
      where
        by : (b : Bool) → (place_of (nodes_of found) end.node == k) ≡ b → not b ≡ true
        by false other = refl
        by true same =
            let same_place : j ≡ k = sym place ∙ (Decides-eqb _ k).0 same in
            let node : end.node ≡ one.node = same_Some _ _ (sym at ∙ ap (slice_get (nodes_of found)) same_place ∙ node_there found k one there) in
            absurd (false≢true (sym (other_node fabric (port one.node number) end good cable) ∙ (Decides-eqb end.node one.node).1 node))

    back : (j : ℕ) → place_of (nodes_of found) end.node ≡ j → slice_get (nodes_of found) j ≡ Some end.node
        → is_linked (rows_of fabric found) (placed (nodes_of found) end) (port k number) ≡ true
    back j place at = by (slice_get found j) refl (sym (slice_get-map (λ (one : Found). one.node) found j) ∙ at)
      where
        by : (o : Option Found) → slice_get found j ≡ o → option_map (λ (one : Found). one.node) o ≡ Some end.node
            → is_linked (rows_of fabric found) (placed (nodes_of found) end) (port k number) ≡ true
        by None stands is = absurd cc
        by (Some other) stands is =
            let node : other.node ≡ end.node = same_Some other.node end.node is in
            let range = in_range fabric end.node end.port (far_is_port fabric.nodes fabric.cables (port one.node number) end (present_right good) cable) in
            let home : far_end fabric.cables (port other.node end.port) ≡ Some (port one.node number) =
            ap (λ (n : ℕ). far_end fabric.cables (port n end.port)) node ∙ good_once fabric (port one.node number) end good cable in
            let here : placed (nodes_of found) (port one.node number) ≡ port k number =
            ap (λ (n : ℕ). port n number) (place_is (nodes_of found) k one.node so_far.once (node_there found k one there)) in
            ap (λ (n : ℕ). list_any (λ link. (link.port == end.port) && is_same_port link.to (port k number)) (get_or (rows_of fabric found) n [])) place
            ∙ ap (list_any (λ link. (link.port == end.port) && is_same_port link.to (port k number))) (row_there fabric found j other stands)
            ∙ row_has fabric (nodes_of found) other.node end.port (port one.node number) (port k number) home
            (stands_switch fabric found k one so_far.are there) here range.0 (rw node range.1)

row_right : (fabric : FabricState) (found : List Found) (survey : SurveyState) (k : ℕ) (one : Found) → IsGood fabric
    → IsProgress fabric found (length found) 0 survey [] → StandsAt found k one
    → is_right_row (map (switch_of fabric) found) (rows_of fabric found) k ≡ true
row_right fabric found survey k one good progress there =
    rw (row_there fabric found k one there) (and_from _ _ (row_rises fabric (nodes_of found) one.node)
    (all_made (is_right_link (map (switch_of fabric) found) (rows_of fabric found) k)
    (λ number. option_map_or (link_to fabric (nodes_of found) number) (far_end fabric.cables (port one.node number)) []) 1 (ports_at fabric one.node)
    (λ number from to. by number from (omega (arith, to)) (far_end fabric.cables (port one.node number)) refl)))
  where
    by : (number : ℕ) → 1 ≤ number → number ≤ ports_at fabric one.node → (far : Option PortRef) → far_end fabric.cables (port one.node number) ≡ far
        → list_all (is_right_link (map (switch_of fabric) found) (rows_of fabric found) k) (option_map_or (link_to fabric (nodes_of found) number) far []) ≡ true
    by number from within None cable = refl
    by number from within (Some end) cable = switch_or_not (is_switch_at fabric.nodes end.node) refl
      where
        switch_or_not : (b : Bool) → is_switch_at fabric.nodes end.node ≡ b
            → list_all (is_right_link (map (switch_of fabric) found) (rows_of fabric found) k)
            (if b then record { port = number; to = placed (nodes_of found) end } ∷ [] else []) ≡ true
        switch_or_not false adapter = refl
        switch_or_not true switch =
            let known = progress.asked.before k one (slice_get_within found k one there) there in
            and_from _ true (right_link fabric found k number one end good progress.discovery there from within cable
            (found_among found end.node (length one.path + 1) (known.found_behind number end from within cable switch))) refl

pub places_all : (p : ℕ → Bool) (a n : ℕ) → ((k : ℕ) → a ≤ k → k < a + n → p k ≡ true) → list_all p (range_with_len a n) ≡ true
places_all p a zero each = refl
places_all p a (suc n) each = and_from (p a) _ (each a (omega arith) (omega arith)) (places_all p (a + 1) n (λ k from to. each k (omega (arith, from)) (omega (arith, to))))

pub at_place : (found : List Found) (k : ℕ) → k < length found → (one : Found) × StandsAt found k one
at_place found k within = by (slice_get_cases found k).1
  where
    by : ((x : Found) × (k < length found) × (slice_get found k ≡ Some x) × (get_or found k x ≡ x))
        ⊎ ((length found ≤ k) × (slice_get found k ≡ None)) → (one : Found) × StandsAt found k one
    by (inl here) = (here.0, here.2)
    by (inr past) = absurd (omega (arith, past.0, within))

pub graph_rows : (fabric : FabricState) (found : List Found) (survey : SurveyState) → IsGood fabric → IsProgress fabric found (length found) 0 survey []
    → list_all (is_right_row (map (switch_of fabric) found) (rows_of fabric found)) (range_with_len 0 (length (rows_of fabric found))) ≡ true
graph_rows fabric found survey good progress =
    places_all (is_right_row (map (switch_of fabric) found) (rows_of fabric found)) 0 (length (rows_of fabric found))
    (λ k from to. let at = at_place found k (omega (arith, to, length-map found (λ (one : Found). row_of fabric (nodes_of found) one.node))) in
    row_right fabric found survey k at.0 good progress at.1)

-- ---- links join the switches
place_under : (xs : List ℕ) (k x : ℕ) → is_among (take k xs) x ≡ true → place_of xs x < k
place_under xs zero x among = absurd (false≢true among)
place_under [] (suc k) x among = absurd (false≢true among)
place_under (y ∷ xs) (suc k) x among = by (y == x) refl (λ later. place_under xs k x later)
  where
    by : (b : Bool) → (y == x) ≡ b → (is_among (take k xs) x ≡ true → place_of xs x < k) → place_of (y ∷ xs) x < suc k
    by true is later = rw (Rattle.sweep.proofs.FoundLemmas.place_by y x xs true is) (omega arith)
    by false is later =
        let under = later (ap (λ (b : Bool). b || is_among (take k xs) x) (sym is) ∙ among) in
        rw (Rattle.sweep.proofs.FoundLemmas.place_by y x xs false is) (omega (arith, under))

among_more : (xs : List ℕ) (k x : ℕ) → is_among (take k xs) x ≡ true → is_among xs x ≡ true
among_more xs zero x among = absurd (false≢true among)
among_more [] (suc k) x among = absurd (false≢true among)
among_more (y ∷ xs) (suc k) x among = by (y == x) refl (λ later. among_more xs k x later)
  where
    by : (b : Bool) → (y == x) ≡ b → (is_among (take k xs) x ≡ true → is_among xs x ≡ true) → is_among (y ∷ xs) x ≡ true
    by true is later = rw is refl
    by false is later = rw is (later (ap (λ (b : Bool). b || is_among (take k xs) x) (sym is) ∙ among))

near_there : (fabric : FabricState) (found : List Found) (k : ℕ) (one : Found) → IsGood fabric → IsDiscovery fabric found → StandsAt found k one
    → HasNeighbour fabric (take k (nodes_of found)) one.node → is_near (rows_of fabric found) k ≡ true
near_there fabric found k one good so_far there has =
    let among = among_more (nodes_of found) k has.there.node has.among in
    let at = among_place (nodes_of found) has.there.node among in
    let switch = all_there (is_switch_at fabric.nodes) (nodes_of found) at.0 has.there.node so_far.are at.1 in
    let range = in_range fabric one.node has.number (cabled_is_port fabric.nodes fabric.cables (port one.node has.number) has.there (present_right good) has.cable) in
    ap (list_any (λ link. nat_lt link.to.node k)) (row_there fabric found k one there)
    ∙ any_in (λ link. nat_lt link.to.node k) (λ number. option_map_or (link_to fabric (nodes_of found) number) (far_end fabric.cables (port one.node number)) [])
    1 (ports_at fabric one.node) has.number range.0 (omega (arith, range.1))
    (ap (λ (o : Option PortRef). list_any (λ link. nat_lt link.to.node k) (option_map_or (link_to fabric (nodes_of found) has.number) o [])) has.cable
    ∙ ap (list_any (λ link. nat_lt link.to.node k)) (link_is fabric (nodes_of found) has.number has.there switch)
    ∙ single (place_of (nodes_of found) has.there.node) (place_under (nodes_of found) k has.there.node has.among))
  where
    single : (n : ℕ) → n < k → nat_lt n k || false ≡ true
    single n h = grind (arith, nat_tests, h)

pub graph_joined : (fabric : FabricState) (found : List Found) → IsGood fabric → IsDiscovery fabric found
    → is_joined (rows_of fabric found) ≡ true
graph_joined fabric found good so_far =
    places_all (λ place. (place == 0) || is_near (rows_of fabric found) place) 0 (length (rows_of fabric found))
    (λ k from to. by k (omega (arith, to, length-map found (λ (one : Found). row_of fabric (nodes_of found) one.node))))
  where
    by : (k : ℕ) → k < length found → (k == 0) || is_near (rows_of fabric found) k ≡ true
    by zero within = refl
    by (suc k) within =
        let at = at_place found (suc k) within in
        rw (near_there fabric found (suc k) at.0 good so_far at.1 (so_far.joined (suc k) at.0 (omega arith) at.1)) (or-true (suc k == 0))

-- ---- the SM port is among the ports
manager_port : (fabric : FabricState) (at : PortRef) (manager : ℕ) (o : Option Seen) → is_switch_at fabric.nodes fabric.manager.node ≡ false
    → seen_at fabric fabric.manager ≡ o → option_map (λ seen. seen.port_guid) o ≡ Some manager
    → list_any (λ port. port.port_guid == manager) (port_to fabric at fabric.manager) ≡ true
manager_port fabric at manager None adapter shown is = absurd cc
manager_port fabric at manager (Some seen) adapter shown is =
    ap (list_any (λ port. port.port_guid == manager)) (port_is fabric at fabric.manager seen adapter shown)
    ∙ ap (λ (b : Bool). b || false) ((Decides-eqb seen.port_guid manager).1 (same_Some seen.port_guid manager is))

pub graph_manager : (fabric : FabricState) (found : List Found) (manager : ℕ) → IsGood fabric → IsDiscovery fabric found
    → option_map (λ seen. seen.port_guid) (seen_at fabric fabric.manager) ≡ Some manager
    → list_any (λ port. port.port_guid == manager) (all_ports fabric found) ≡ true
graph_manager fabric found manager good so_far is =
    let at = found_at found so_far.first.node 1 so_far.first_found in
    let home : far_end fabric.cables (port so_far.first.node so_far.first.port) ≡ Some fabric.manager = good_once fabric fabric.manager so_far.first good so_far.first_cable in
    let range = in_range fabric so_far.first.node so_far.first.port (far_is_port fabric.nodes fabric.cables fabric.manager so_far.first (present_right good) so_far.first_cable) in
    let node : node_at found at.place ≡ so_far.first.node = node_of found at.place at.one at.there ∙ at.node_is in
    any_in (λ port. port.port_guid == manager) (λ place. ports_up_to fabric place (node_at found place) (ports_at fabric (node_at found place))) 0 (length found) at.place
    (omega arith) (omega (arith, slice_get_within found at.place at.one at.there))
    (any_in (λ port. port.port_guid == manager)
    (λ number. option_map_or (port_to fabric (port at.place number)) (far_end fabric.cables (port (node_at found at.place) number)) []) 1 (ports_at fabric (node_at found at.place))
    so_far.first.port range.0 (rw node (omega (arith, range.1)))
    (ap (λ (n : ℕ). list_any (λ port. port.port_guid == manager)
    (option_map_or (port_to fabric (port at.place so_far.first.port)) (far_end fabric.cables (port n so_far.first.port)) [])) node
    ∙ ap (λ (o : Option PortRef). list_any (λ port. port.port_guid == manager) (option_map_or (port_to fabric (port at.place so_far.first.port)) o [])) home
    ∙ manager_port fabric (port at.place so_far.first.port) manager (seen_at fabric fabric.manager) good.manager_adapter refl is))

pub found_there : (found : List Found) (k node : ℕ) → slice_get (nodes_of found) k ≡ Some node → (one : Found) × StandsAt found k one × (one.node ≡ node)
found_there found k node is = by (slice_get found k) refl (sym (slice_get-map (λ (one : Found). one.node) found k) ∙ is)
  where
    by : (o : Option Found) → slice_get found k ≡ o → option_map (λ (one : Found). one.node) o ≡ Some node → (one : Found) × StandsAt found k one × (one.node ≡ node)
    by None stands is = absurd cc
    by (Some one) stands is = (one, stands, same_Some one.node node is)

-- ---- so the graph of a good fabric is one
rows_are : (fabric : FabricState) (found : List Found) (survey : SurveyState) → IsProgress fabric found (length found) 0 survey []
    → survey.rows ≡ rows_of fabric found
rows_are fabric found survey progress =
    progress.noted.rows ∙ ap (map (λ one. row_of fabric (nodes_of found) one.node)) (take_all (length found) found (omega arith))

ports_are : (fabric : FabricState) (found : List Found) (survey : SurveyState) → IsProgress fabric found (length found) 0 survey []
    → survey.ports ≡ all_ports fabric found
ports_are fabric found survey progress = progress.noted.ports ∙ append-nil (all_ports fabric found)

pub graph_is_whole : (fabric : FabricState) (found : List Found) (survey : SurveyState) (manager : ℕ) → IsSweepable fabric
    → option_map (λ seen. seen.port_guid) (seen_at fabric fabric.manager) ≡ Some manager → IsAllAsked fabric found survey
    → IsGraph (graph_with manager survey.switches survey.rows survey.ports)
graph_is_whole fabric found survey manager sweepable is all =
    let some = found ++ all.more in
    let good = sweepable.good in
    let so_far = all.progress.discovery in
    let ports = all.progress.noted.met in
    rw (all.progress.noted.switches, rows_are fabric some survey all.progress) (record {
      few_switches = omega (arith, so_far.few, length-map some (switch_of fabric));
      few_ports = all.progress.noted.few_ports;
      switches = graph_switches fabric some good so_far;
      a_row_each = length-map some (λ (one : Found). row_of fabric (nodes_of some) one.node) ∙ sym (length-map some (switch_of fabric));
      rows = graph_rows fabric some survey good all.progress;
      ports = graph_ports fabric some (length some) 0 survey.ports good so_far
          (λ k one there. all.progress.asked.before k one (slice_get_within some k one there) there) ports;
      agree = graph_agrees fabric some (length some) 0 survey.ports good ports;
      guids = graph_guids fabric some (length some) 0 survey.ports good so_far ports;
      manager_there = ap (list_any (λ port. port.port_guid == manager)) (ports_are fabric some survey all.progress) ∙ graph_manager fabric some manager good so_far is;
    })

pub rows_joined : (fabric : FabricState) (found : List Found) (survey : SurveyState) → IsSweepable fabric → IsAllAsked fabric found survey
    → is_joined survey.rows ≡ true
rows_joined fabric found survey sweepable all =
    ap is_joined (rows_are fabric (found ++ all.more) survey all.progress) ∙ graph_joined fabric (found ++ all.more) sweepable.good all.progress.discovery
