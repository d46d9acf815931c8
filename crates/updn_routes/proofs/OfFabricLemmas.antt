-- Two graphs of one fabric differ in the order of their switches alone.
use Rattle.std.proofs.Common.{ℕ, suc, ◌+◌, ◌-◌, ◌<◌, ◌≡◌, ◌∙◌, ◌==◌, ◌||◌, nat_lt, ap, refl, sym, subst, Bool, true, false, cond, if◌then◌else◌}
use Rattle.std.proofs.Common.{List, [], ◌∷◌, ◌++◌, find, flat_map, get_or, length, map, position, slice_get, Option, Some, None, option_map, arith}
use Rattle.std.specs.List.{Contains, list_all, list_any, range_with_len}
use Rattle.std.specs.Option.{option_map_or, unwrap_or}
use Rattle.std.proofs.lemmas.Bool.{eqb-false, eqb-true, eq-eqb, false≢true, lt-ltb}
use Rattle.std.proofs.lemmas.List.{length-map, map-append}
use Rattle.std.proofs.lemmas.List.Folds.{list_any-append}
use Rattle.std.proofs.lemmas.Option.{get_or_from_slice_get, none-some, same_Some, slice_get-get_or, slice_get-map, slice_get_within}
use Rattle.step_results.proofs.ListLemmas.{all_joined, any_map}
use Rattle.step_results.proofs.PlaceLemmas.{not_there}
use Rattle.fabric_parts.specs.Cable.{far_end, port}
use Rattle.fabric_parts.specs.declared.cable.PortRef.{PortRef}
use Rattle.lid_assign.specs.Lids.{AreLids, adapter_end, end_ports, switch_end}
use Rattle.smp_wire.specs.FabricState.{FabricState, is_switch_at}
use Rattle.smp_wire.specs.Good.{IsGood}
use Rattle.sweep.specs.Graph.{GraphState}
use Rattle.sweep.specs.OfFabric.{Found, IsLayoutOf, guid_at, link_to, node_at, nodes_of, place_of, port_seen, port_to, ports_at, all_ports, ports_up_to, row_of, switch_of}
use Rattle.sweep.specs.Seen.{name_at, seen_at}
use Rattle.sweep.specs.declared.graph.GraphPort.{GraphPort}
use Rattle.sweep.specs.declared.graph.GraphSwitch.{GraphSwitch}
use Rattle.sweep.specs.declared.graph.GraphLink.{GraphLink}
use Rattle.sweep.specs.declared.seen.Seen.{Seen}
use Rattle.sweep.proofs.CabledLemmas.{any_found}
use Rattle.sweep.proofs.EndPortLemmas.{of_one, one_of, there_is}
use Rattle.sweep.proofs.FoundLemmas.{among_at, among_place, any_by, node_there, place_is}
use Rattle.sweep.proofs.MetLemmas.{one_near_end}
use Rattle.sweep.proofs.OwnLemmas.{EndAt, adapter_seen, own_end, switch_end as end_of_switch}
use Rattle.sweep.proofs.PlaceLemmas.{position_at}
use Rattle.sweep.proofs.ProgressLemmas.{node_of}
use Rattle.sweep.proofs.WholeLemmas.{found_there}
use Rattle.updn_routes.specs.Cabling.{links_of}
use Rattle.updn_routes.specs.Places.{placed_link}
use Rattle.updn_routes.specs.Routes.{all_attached}
use Rattle.updn_routes.specs.Subnet.{guids_of, home_from, home_in, homes_of, link_of, place_of as place_in, row_of as row_from, rows_of, attachment_of}
use Rattle.updn_routes.specs.declared.link.Link.{Link}
use Rattle.updn_routes.specs.Alike.{IsLayout, IsPlacedIn, layout_of, placed_home}
use Rattle.updn_routes.specs.OrderLaws.{GraphsOfOneFabricAreAlike}

-- ---- lists
-- what is found stands there, and passes
found_in : {X : Type 0} (p : X → Bool) (xs : List X) (x : X) → find p xs ≡ Some x → (k : ℕ) × (slice_get xs k ≡ Some x) × (p x ≡ true)
found_in p [] x is = absurd (none-some x is)
found_in p (y ∷ xs) x is = by (p y) refl is (λ later. found_in p xs x later)
  where
    by : (b : Bool) → p y ≡ b → cond b (Some y) (find p xs) ≡ Some x
        → (find p xs ≡ Some x → (k : ℕ) × (slice_get xs k ≡ Some x) × (p x ≡ true))
        → (k : ℕ) × (slice_get (y ∷ xs) k ≡ Some x) × (p x ≡ true)
    by true e there later = (0, there, ap p (sym (same_Some y x there)) ∙ e)
    by false e there later = let more = later there in (suc more.0, more.1, more.2)

none_found : {X : Type 0} (p : X → Bool) (xs : List X) → find p xs ≡ None → list_any p xs ≡ false
none_found p xs none = by (list_any p xs) refl
  where
    by : (b : Bool) → list_any p xs ≡ b → b ≡ false
    by true any = let one = any_found p xs any in absurd (none-some one.0 (sym none ∙ one.1))
    by false any = refl

-- links of several ports, each of which is moved
all_moved : (move : Link → Link) (f g : ℕ → List GraphLink) → ((n : ℕ) → map link_of (g n) ≡ map move (map link_of (f n)))
    → (numbers : List ℕ) → map link_of (flat_map g numbers) ≡ map move (map link_of (flat_map f numbers))
all_moved move f g each [] = refl
all_moved move f g each (n ∷ numbers) =
    map-append link_of (g n) (flat_map g numbers)
    ∙ ap (λ (front : List Link). front ++ map link_of (flat_map g numbers)) (each n)
    ∙ ap (λ (rest : List Link). map move (map link_of (f n)) ++ rest) (all_moved move f g each numbers)
    ∙ sym (map-append move (map link_of (f n)) (map link_of (flat_map f numbers)))
    ∙ ap (map move) (sym (map-append link_of (f n) (flat_map f numbers)))

all_within : (p : Link → Bool) (f : ℕ → List GraphLink) → ((n : ℕ) → list_all p (map link_of (f n)) ≡ true)
    → (numbers : List ℕ) → list_all p (map link_of (flat_map f numbers)) ≡ true
all_within p f each [] = refl
all_within p f each (n ∷ numbers) =
    ap (list_all p) (map-append link_of (f n) (flat_map f numbers))
    ∙ all_joined p (map link_of (f n)) (map link_of (flat_map f numbers)) (each n) (all_within p f each numbers)

-- a link to that port
abbrev link_at : List ℕ → ℕ → PortRef → GraphLink
link_at nodes number there = record { port = number; to = port (place_of nodes there.node) there.port }

-- the links by one port of a switch, and the adapters' ports that are attached there
abbrev links_at : FabricState → List ℕ → ℕ → ℕ → List GraphLink
links_at fabric nodes node number = option_map_or (link_to fabric nodes number) (far_end fabric.cables (port node number)) []

abbrev ports_hung : FabricState → ℕ → ℕ → ℕ → List GraphPort
ports_hung fabric place node number = option_map_or (port_to fabric (port place number)) (far_end fabric.cables (port node number)) []

-- what is reported of an adapter's port that is attached there
abbrev reported_of : FabricState → ℕ → ℕ → PortRef → Seen → GraphPort
reported_of fabric place number there seen = port_seen (port place number) (unwrap_or (name_at fabric there) []) seen

-- a link to one of so many switches
abbrev is_within : ℕ → Link → Bool
is_within count link = nat_lt link.to count

-- ---- the switches of one graph
-- what stands at a place
record SwitchAt (fabric : FabricState) (graph : GraphState) (nodes : List ℕ) (k : ℕ) : Type 0 where
  node : ℕ
  there : slice_get nodes k ≡ Some node
  switch : is_switch_at fabric.nodes node ≡ true
  row : links_of (rows_of graph) k ≡ map link_of (row_of fabric nodes node)
  guid : get_or (guids_of graph) k 0 ≡ guid_at fabric node

-- the same switch, by the places of another graph
abbrev moved : List ℕ → List ℕ → ℕ → ℕ
moved from to k = place_of to (get_or from k 0)

moved_by : (from to : List ℕ) (k node : ℕ) → slice_get from k ≡ Some node → moved from to k ≡ place_of to node
moved_by from to k node there = ap (place_of to) (get_or_from_slice_get from k node 0 there)

module _ (fabric : FabricState) (graph : GraphState) (is : IsLayoutOf graph fabric) where
  long : length (rows_of graph) ≡ length (nodes_of is.found)
  long =
      length-map graph.rows row_from ∙ ap (λ (rows : List (List GraphLink)). length rows) is.rows
      ∙ length-map is.found (λ (one : Found). row_of fabric (nodes_of is.found) one.node)
      ∙ sym (length-map is.found (λ (one : Found). one.node))

  as_many : length (guids_of graph) ≡ length (rows_of graph)
  as_many =
      length-map graph.switches (λ (switch : GraphSwitch). switch.guid) ∙ ap (λ (switches : List GraphSwitch). length switches) is.switches
      ∙ length-map is.found (switch_of fabric) ∙ sym (length-map is.found (λ (one : Found). one.node)) ∙ sym long

  -- a switch that was found, in the graph
  in_switches : (k : ℕ) (one : Found) → slice_get is.found k ≡ Some one → slice_get graph.switches k ≡ Some (switch_of fabric one)
  in_switches k one there =
      ap (λ (switches : List GraphSwitch). slice_get switches k) is.switches ∙ slice_get-map (switch_of fabric) is.found k
      ∙ ap (option_map (switch_of fabric)) there

  in_rows : (k : ℕ) (one : Found) → slice_get is.found k ≡ Some one
      → slice_get graph.rows k ≡ Some (row_of fabric (nodes_of is.found) one.node)
  in_rows k one there =
      ap (λ (rows : List (List GraphLink)). slice_get rows k) is.rows
      ∙ slice_get-map (λ (one : Found). row_of fabric (nodes_of is.found) one.node) is.found k
      ∙ ap (option_map (λ (one : Found). row_of fabric (nodes_of is.found) one.node)) there

  switch_at : (k : ℕ) → k < length (rows_of graph) → SwitchAt fabric graph (nodes_of is.found) k
  switch_at k low =
      let even = long in
      let some = found_there is.found k (get_or (nodes_of is.found) k 0) (slice_get-get_or (nodes_of is.found) k 0 (omega (arith, low, even))) in
      let one = some.0 in
      let there = node_there is.found k one some.1 in
      record {
        node = one.node;
        there = there;
        switch = sym (is.all one.node) ∙ among_at (nodes_of is.found) k one.node there;
        row =
            get_or_from_slice_get (rows_of graph) k (map link_of (row_of fabric (nodes_of is.found) one.node)) []
            (slice_get-map row_from graph.rows k ∙ ap (option_map row_from) (in_rows k one some.1));
        guid =
            get_or_from_slice_get (guids_of graph) k (guid_at fabric one.node) 0
            (slice_get-map (λ (switch : GraphSwitch). switch.guid) graph.switches k
            ∙ ap (option_map (λ (switch : GraphSwitch). switch.guid)) (in_switches k one some.1));
      }

  -- each switch of the fabric stands at its place
  stands_at : (node : ℕ) → is_switch_at fabric.nodes node ≡ true
      → slice_get (nodes_of is.found) (place_of (nodes_of is.found) node) ≡ Some node
  stands_at node switch =
      let at = among_place (nodes_of is.found) node (is.all node ∙ switch) in
      subst (λ (k : ℕ). slice_get (nodes_of is.found) k ≡ Some node) (sym (place_is (nodes_of is.found) at.0 node is.once at.1)) at.1

  pub within_rows : (k node : ℕ) → slice_get (nodes_of is.found) k ≡ Some node → k < length (rows_of graph)
  within_rows k node there =
      let low = slice_get_within (nodes_of is.found) k node there in
      let even = long in
      omega (arith, low, even)

  -- links lead to switches of the graph
  leads_within : (s : ℕ) → s < length (rows_of graph)
      → list_all (λ link. nat_lt link.to (length (rows_of graph))) (links_of (rows_of graph) s) ≡ true
  leads_within s low =
      let at = switch_at s low in
      ap (list_all (is_within (length (rows_of graph)))) at.row
      ∙ all_within (is_within (length (rows_of graph))) (links_at fabric (nodes_of is.found) at.node)
      (λ number. by_far number (far_end fabric.cables (port at.node number))) (range_with_len 1 (ports_at fabric at.node))
    where
      by_kind : (number : ℕ) (there : PortRef) (b : Bool) → is_switch_at fabric.nodes there.node ≡ b
          → list_all (is_within (length (rows_of graph))) (map link_of (if b then link_at (nodes_of is.found) number there ∷ [] else [])) ≡ true
      by_kind number there true kind =
          let low = within_rows (place_of (nodes_of is.found) there.node) there.node (stands_at there.node kind) in
          rw (lt-ltb (place_of (nodes_of is.found) there.node) (length (rows_of graph)) low) refl
      by_kind number there false kind = refl

      by_far : (number : ℕ) (o : Option PortRef)
          → list_all (is_within (length (rows_of graph))) (map link_of (option_map_or (link_to fabric (nodes_of is.found) number) o [])) ≡ true
      by_far number None = refl
      by_far number (Some there) = by_kind number there (is_switch_at fabric.nodes there.node) refl

  -- ---- GUIDs of switches
  pub record HasSwitch (guid place : ℕ) : Type 0 where
    pub node : ℕ
    pub there : slice_get (nodes_of is.found) place ≡ Some node
    pub switch : is_switch_at fabric.nodes node ≡ true
    pub guid_is : guid_at fabric node ≡ guid

  pub has_switch : (guid place : ℕ) → place_in graph.switches guid ≡ Some place → HasSwitch guid place
  has_switch guid place at =
      let has = position_at (λ (switch : GraphSwitch). switch.guid == guid) graph.switches place at in
      by has.0 (eqb-true has.0.guid guid has.2) (slice_get is.found place) refl
      (sym (slice_get-map (switch_of fabric) is.found place)
      ∙ ap (λ (switches : List GraphSwitch). slice_get switches place) (sym is.switches) ∙ has.1)
    where
      by : (switch : GraphSwitch) → switch.guid ≡ guid → (o : Option Found) → slice_get is.found place ≡ o
          → option_map (switch_of fabric) o ≡ Some switch → HasSwitch guid place
      by switch same None stands made = absurd (none-some switch made)
      by switch same (Some one) stands made =
          let there = node_there is.found place one stands in
          record {
            node = one.node;
            there = there;
            switch = sym (is.all one.node) ∙ among_at (nodes_of is.found) place one.node there;
            guid_is = ap (λ (switch : GraphSwitch). switch.guid) (same_Some (switch_of fabric one) switch made) ∙ same;
          }

  -- a switch of the fabric has a place by its GUID
  pub not_without : (guid node : ℕ) → is_switch_at fabric.nodes node ≡ true → guid_at fabric node ≡ guid
      → place_in graph.switches guid ≡ None → ⊥
  not_without guid node switch same none =
      let at = among_place (nodes_of is.found) node (is.all node ∙ switch) in
      let one = found_there is.found at.0 node at.1 in
      let passes = eq-eqb (guid_at fabric one.0.node) guid (ap (guid_at fabric) one.2 ∙ same) in
      false≢true (sym (not_there (λ (switch : GraphSwitch). switch.guid == guid) graph.switches none)
      ∙ any_by (λ (switch : GraphSwitch). switch.guid == guid) graph.switches at.0 (switch_of fabric one.0) (in_switches at.0 one.0 one.1) passes)

  -- ---- GUIDs of adapters' ports
  -- such a port has a cable to that port of a switch
  record HasPort (guid : ℕ) (at : PortRef) : Type 0 where
    node : ℕ
    stands : slice_get (nodes_of is.found) at.node ≡ Some node
    there : PortRef
    far : far_end fabric.cables (port node at.port) ≡ Some there
    adapter : is_switch_at fabric.nodes there.node ≡ false
    seen : Seen
    seen_is : seen_at fabric there ≡ Some seen
    guid_is : seen.port_guid ≡ guid

  has_port_from : (guid place node number : ℕ) (one : GraphPort) → slice_get (nodes_of is.found) place ≡ Some node → one.port_guid ≡ guid
      → Contains (option_map_or (port_to fabric (port place number)) (far_end fabric.cables (port node number)) []) one → HasPort guid one.at
  has_port_from guid place node number one stands same has = by_far (far_end fabric.cables (port node number)) refl has
    where
      nothing : Contains [] one → ⊥
      nothing has = omega (arith, has.1)

      by_seen : (there : PortRef) → far_end fabric.cables (port node number) ≡ Some there → is_switch_at fabric.nodes there.node ≡ false
          → (o : Option Seen) → seen_at fabric there ≡ o
          → Contains (option_map_or (λ seen. reported_of fabric place number there seen ∷ []) o []) one → HasPort guid one.at
      by_seen there far adapter None seen has = absurd (nothing has)
      by_seen there far adapter (Some some) seen has =
          let made = one_of (reported_of fabric place number there some) one has in
          subst (HasPort guid) (ap (λ (p : GraphPort). p.at) made) (record {
            node = node;
            stands = stands;
            there = there;
            far = far;
            adapter = adapter;
            seen = some;
            seen_is = seen;
            guid_is = ap (λ (p : GraphPort). p.port_guid) made ∙ same;
          })

      by_kind : (there : PortRef) → far_end fabric.cables (port node number) ≡ Some there
          → (b : Bool) → is_switch_at fabric.nodes there.node ≡ b
          → Contains (if b then [] else option_map_or (λ seen. reported_of fabric place number there seen ∷ []) (seen_at fabric there) []) one
          → HasPort guid one.at
      by_kind there far true kind has = absurd (nothing has)
      by_kind there far false kind has = by_seen there far kind (seen_at fabric there) refl has

      by_far : (o : Option PortRef) → far_end fabric.cables (port node number) ≡ o
          → Contains (option_map_or (port_to fabric (port place number)) o []) one → HasPort guid one.at
      by_far None far has = absurd (nothing has)
      by_far (Some there) far has = by_kind there far (is_switch_at fabric.nodes there.node) refl has

  node_stands : (place : ℕ) → place < length is.found → slice_get (nodes_of is.found) place ≡ Some (node_at is.found place)
  node_stands place low =
      let many = length-map is.found (λ (one : Found). one.node) in
      let there = slice_get-get_or (nodes_of is.found) place 0 (omega (arith, low, many)) in
      let some = found_there is.found place (get_or (nodes_of is.found) place 0) there in
      node_there is.found place some.0 some.1 ∙ ap (λ (n : ℕ). Some n) (sym (node_of is.found place some.0 some.1))

  has_port_of : (guid k : ℕ) (one : GraphPort) → slice_get graph.ports k ≡ Some one → one.port_guid ≡ guid → HasPort guid one.at
  has_port_of guid k one there same =
      let among = there_is (all_ports fabric is.found) k one (ap (λ (ports : List GraphPort). slice_get ports k) (sym is.ports) ∙ there) in
      let place = of_one (λ place. ports_up_to fabric place (node_at is.found place) (ports_at fabric (node_at is.found place)))
      0 (length is.found) one among in
      let stands = node_stands place.number (omega (arith, place.to)) in
      let number = of_one (ports_hung fabric place.number (node_at is.found place.number))
      1 (ports_at fabric (node_at is.found place.number)) one place.has in
      has_port_from guid place.number (node_at is.found place.number) number.number one stands same number.has

  has_port : (guid : ℕ) (at : PortRef) → attachment_of graph.ports guid ≡ Some at → HasPort guid at
  has_port guid at attachment = by (find (λ (port : GraphPort). port.port_guid == guid) graph.ports) refl attachment
    where
      by : (o : Option GraphPort) → find (λ (port : GraphPort). port.port_guid == guid) graph.ports ≡ o
          → option_map (λ (port : GraphPort). port.at) o ≡ Some at → HasPort guid at
      by None found is_at = absurd (none-some at is_at)
      by (Some one) found is_at =
          let has = found_in (λ (port : GraphPort). port.port_guid == guid) graph.ports one found in
          subst (HasPort guid) (same_Some one.at at is_at) (has_port_of guid has.0 one has.1 (eqb-true one.port_guid guid has.2))

  -- a GUID that has a LID is one of these
  not_nowhere : (guids : List ℕ) (k guid : ℕ) → AreLids (end_ports graph) guids → slice_get guids k ≡ Some guid
      → place_in graph.switches guid ≡ None → attachment_of graph.ports guid ≡ None → ⊥
  not_nowhere guids k guid are there none no_attachment = by (position (λ other. other == guid) guids) refl (are.only guid no_end)
    where
      no_switch : list_any (λ (switch : GraphSwitch). switch.guid == guid) graph.switches ≡ false
      no_switch = not_there (λ (switch : GraphSwitch). switch.guid == guid) graph.switches none

      unfound : (o : Option GraphPort) → option_map (λ (port : GraphPort). port.at) o ≡ None → o ≡ None
      unfound None is = refl
      unfound (Some port) is = absurd (none-some port.at (sym is))

      no_port : list_any (λ (port : GraphPort). port.port_guid == guid) graph.ports ≡ false
      no_port =
          none_found (λ (port : GraphPort). port.port_guid == guid) graph.ports
          (unfound (find (λ (port : GraphPort). port.port_guid == guid) graph.ports) no_attachment)

      no_end : list_any (λ port. port.guid == guid) (end_ports graph) ≡ false
      no_end =
          list_any-append (λ port. port.guid == guid) (map switch_end graph.switches) (map (adapter_end graph.manager) graph.ports)
          ∙ ap (λ (b : Bool). b || list_any (λ port. port.guid == guid) (map (adapter_end graph.manager) graph.ports))
          (any_map (λ port. port.guid == guid) switch_end graph.switches ∙ no_switch)
          ∙ any_map (λ port. port.guid == guid) (adapter_end graph.manager) graph.ports ∙ no_port

      by : (o : Option ℕ) → position (λ other. other == guid) guids ≡ o → option_map (λ place. place + 1) o ≡ None → ⊥
      by None nowhere is =
          false≢true (sym (not_there (λ other. other == guid) guids nowhere)
          ∙ any_by (λ other. other == guid) guids k guid there (eq-eqb guid guid refl))
      by (Some place) nowhere is = none-some (place + 1) (sym is)

  -- so each is attached to a switch of the graph
  all_there : (guids : List ℕ)
      → ((guid : ℕ) → (k : ℕ) → slice_get guids k ≡ Some guid → nat_lt (home_in graph guid).node (length (rows_of graph)) ≡ true)
      → all_attached (homes_of graph guids) (length (rows_of graph)) ≡ true
  all_there [] each = refl
  all_there (guid ∷ guids) each = rw (each guid 0 refl, all_there guids (λ other k there. each other (suc k) there)) refl

  attached_there : (guids : List ℕ) → AreLids (end_ports graph) guids → all_attached (homes_of graph guids) (length (rows_of graph)) ≡ true
  attached_there guids are = all_there guids (λ guid k there. by guid k there (place_in graph.switches guid) refl (attachment_of graph.ports guid) refl)
    where
      by : (guid k : ℕ) → slice_get guids k ≡ Some guid → (o : Option ℕ) → place_in graph.switches guid ≡ o
          → (s : Option PortRef) → attachment_of graph.ports guid ≡ s
          → nat_lt (home_from o s).node (length (rows_of graph)) ≡ true
      by guid k there (Some place) at s attachment =
          let has = has_switch guid place at in
          lt-ltb place (length (rows_of graph)) (within_rows place has.node has.there)
      by guid k there None at (Some home) attachment =
          let has = has_port guid home attachment in
          lt-ltb home.node (length (rows_of graph)) (within_rows home.node has.node has.stands)
      by guid k there None at None attachment = absurd (not_nowhere guids k guid are there at attachment)

  is_layout : (guids : List ℕ) → AreLids (end_ports graph) guids → IsLayout (layout_of graph guids)
  is_layout guids are = record { count = as_many; within = leads_within; hang = attached_there guids are }

-- ---- two graphs of one fabric
module _ (fabric : FabricState) (one other : GraphState) (good : IsGood fabric) (is : IsLayoutOf one fabric) (too : IsLayoutOf other fabric) where
  abbrev to : ℕ → ℕ
  to = moved (nodes_of is.found) (nodes_of too.found)

  moved_there : (k node : ℕ) → slice_get (nodes_of is.found) k ≡ Some node → is_switch_at fabric.nodes node ≡ true
      → slice_get (nodes_of too.found) (to k) ≡ Some node
  moved_there k node there switch =
      subst (λ (n : ℕ). slice_get (nodes_of too.found) n ≡ Some node) (sym (moved_by (nodes_of is.found) (nodes_of too.found) k node there))
      (stands_at fabric other too node switch)

  -- ---- links
  keeps : (node : ℕ) → is_switch_at fabric.nodes node ≡ true → to (place_of (nodes_of is.found) node) ≡ place_of (nodes_of too.found) node
  keeps node switch =
      moved_by (nodes_of is.found) (nodes_of too.found) (place_of (nodes_of is.found) node) node (stands_at fabric one is node switch)

  link_moved : (number : ℕ) (o : Option PortRef) → map link_of (option_map_or (link_to fabric (nodes_of too.found) number) o [])
      ≡ map (placed_link to) (map link_of (option_map_or (link_to fabric (nodes_of is.found) number) o []))
  link_moved number None = refl
  link_moved number (Some there) = by (is_switch_at fabric.nodes there.node) refl
    where
      by : (b : Bool) → is_switch_at fabric.nodes there.node ≡ b
          → map link_of (if b then link_at (nodes_of too.found) number there ∷ [] else [])
          ≡ map (placed_link to) (map link_of (if b then link_at (nodes_of is.found) number there ∷ [] else []))
      by true kind = ap (λ (n : ℕ). record { port = number; to = n } ∷ []) (sym (keeps there.node kind))
      by false kind = refl

  links_moved : (s : ℕ) → s < length (rows_of one) → links_of (rows_of other) (to s) ≡ map (placed_link to) (links_of (rows_of one) s)
  links_moved s low =
      let at = switch_at fabric one is s low in
      let there = moved_there s at.node at.there at.switch in
      let far = switch_at fabric other too (to s) (within_rows fabric other too (to s) at.node there) in
      let same : far.node ≡ at.node = same_Some far.node at.node (sym far.there ∙ there) in
      far.row ∙ ap (λ (node : ℕ). map link_of (row_of fabric (nodes_of too.found) node)) same
      ∙ all_moved (placed_link to) (links_at fabric (nodes_of is.found) at.node) (links_at fabric (nodes_of too.found) at.node)
      (λ number. link_moved number (far_end fabric.cables (port at.node number))) (range_with_len 1 (ports_at fabric at.node))
      ∙ ap (map (placed_link to)) (sym at.row)

  guid_kept : (s : ℕ) → s < length (rows_of one) → get_or (guids_of other) (to s) 0 ≡ get_or (guids_of one) s 0
  guid_kept s low =
      let at = switch_at fabric one is s low in
      let there = moved_there s at.node at.there at.switch in
      let far = switch_at fabric other too (to s) (within_rows fabric other too (to s) at.node there) in
      far.guid ∙ ap (guid_at fabric) (same_Some far.node at.node (sym far.there ∙ there)) ∙ sym at.guid

  -- ---- homes
  switches_meet : (guid k m : ℕ) → HasSwitch fabric one is guid k → HasSwitch fabric other too guid m → m ≡ to k
  switches_meet guid k m here there =
      let end = subst (EndAt fabric here.node 0) here.guid_is (end_of_switch fabric here.node here.switch) in
      let far_end = subst (EndAt fabric there.node 0) there.guid_is (end_of_switch fabric there.node there.switch) in
      let same = own_end fabric here.node there.node 0 0 guid good end far_end in
      sym (place_is (nodes_of too.found) m there.node too.once there.there) ∙ ap (place_of (nodes_of too.found)) (sym same.0)
      ∙ sym (moved_by (nodes_of is.found) (nodes_of too.found) k here.node here.there)

  ports_meet : (guid : ℕ) (at home : PortRef) → HasPort fabric one is guid at → HasPort fabric other too guid home
      → home ≡ placed_home to at
  ports_meet guid at home here there =
      let mine = adapter_seen fabric here.there here.seen here.adapter here.seen_is in
      let theirs = adapter_seen fabric there.there there.seen there.adapter there.seen_is in
      let same = own_end fabric here.there.node there.there.node (here.there.port - 1) (there.there.port - 1) guid good
      (subst (EndAt fabric here.there.node (here.there.port - 1)) here.guid_is mine.end_is)
      (subst (EndAt fabric there.there.node (there.there.port - 1)) there.guid_is theirs.end_is) in
      let some = eqb-false here.there.port 0 mine.some in
      let any = eqb-false there.there.port 0 theirs.some in
      let number : here.there.port ≡ there.there.port = omega (arith, same.1, some, any) in
      let one_port : here.there ≡ there.there = λ i. record { node = same.0 i; port = number i } in
      let near : port here.node at.port ≡ port there.node home.port =
      one_near_end fabric (port here.node at.port) (port there.node home.port) there.there good
      (here.far ∙ ap (λ (p : PortRef). Some p) one_port) there.far in
      let place : home.node ≡ to at.node =
      sym (place_is (nodes_of too.found) home.node there.node too.once there.stands)
      ∙ ap (place_of (nodes_of too.found)) (sym (ap (λ (p : PortRef). p.node) near))
      ∙ sym (moved_by (nodes_of is.found) (nodes_of too.found) at.node here.node here.stands) in
      let attachment : home.port ≡ at.port = sym (ap (λ (p : PortRef). p.port) near) in
      λ i. record { node = place i; port = attachment i }

  home_moved : (guids : List ℕ) (k guid : ℕ) → AreLids (end_ports one) guids → AreLids (end_ports other) guids
      → slice_get guids k ≡ Some guid → home_in other guid ≡ placed_home to (home_in one guid)
  home_moved guids k guid are are_too there =
      by (place_in one.switches guid) refl (place_in other.switches guid) refl (attachment_of one.ports guid) refl (attachment_of other.ports guid) refl
    where
      by : (o : Option ℕ) → place_in one.switches guid ≡ o → (p : Option ℕ) → place_in other.switches guid ≡ p
          → (s : Option PortRef) → attachment_of one.ports guid ≡ s → (t : Option PortRef) → attachment_of other.ports guid ≡ t
          → home_from p t ≡ placed_home to (home_from o s)
      by (Some n) at (Some m) at_too s attachment t attachment_too =
          ap (λ (n : ℕ). port n 0) (switches_meet guid n m (has_switch fabric one is guid n at) (has_switch fabric other too guid m at_too))
      by (Some n) at None at_too s attachment t attachment_too =
          let has = has_switch fabric one is guid n at in absurd (not_without fabric other too guid has.node has.switch has.guid_is at_too)
      by None at (Some m) at_too s attachment t attachment_too =
          let has = has_switch fabric other too guid m at_too in absurd (not_without fabric one is guid has.node has.switch has.guid_is at)
      by None at None at_too (Some here) attachment (Some home) attachment_too =
          ports_meet guid here home (has_port fabric one is guid here attachment) (has_port fabric other too guid home attachment_too)
      by None at None at_too None attachment t attachment_too = absurd (not_nowhere fabric one is guids k guid are there at attachment)
      by None at None at_too (Some here) attachment None attachment_too = absurd (not_nowhere fabric other too guids k guid are_too there at_too attachment_too)

  all_homes : (guids : List ℕ) → ((k guid : ℕ) → slice_get guids k ≡ Some guid → home_in other guid ≡ placed_home to (home_in one guid))
      → homes_of other guids ≡ map (placed_home to) (homes_of one guids)
  all_homes [] each = refl
  all_homes (guid ∷ guids) each = rw (each 0 guid refl, all_homes guids (λ k other there. each (suc k) other there)) refl

  -- ---- all of it
  low_there : (s : ℕ) → s < length (rows_of one) → to s < length (rows_of other)
  low_there s low =
      let at = switch_at fabric one is s low in
      within_rows fabric other too (to s) at.node (moved_there s at.node at.there at.switch)

  is_placed : (guids : List ℕ) → AreLids (end_ports one) guids → AreLids (end_ports other) guids
      → IsPlacedIn (layout_of one guids) (layout_of other guids) to
  is_placed guids are are_too =
      record {
        below = low_there;
        links = links_moved;
        guids = guid_kept;
        homes = all_homes guids (λ k guid there. home_moved guids k guid are are_too there);
      }

  there_and_back : (s : ℕ) → s < length (rows_of one) → moved (nodes_of too.found) (nodes_of is.found) (to s) ≡ s
  there_and_back s low =
      let at = switch_at fabric one is s low in
      moved_by (nodes_of too.found) (nodes_of is.found) (to s) at.node (moved_there s at.node at.there at.switch)
      ∙ place_is (nodes_of is.found) s at.node is.once at.there

pub graphs_of_one_fabric_are_alike : GraphsOfOneFabricAreAlike
graphs_of_one_fabric_are_alike fabric one other guids good is too are are_too =
    record {
      one_is = is_layout fabric one is guids are;
      other_is = is_layout fabric other too guids are_too;
      place = moved (nodes_of is.found) (nodes_of too.found);
      back = moved (nodes_of too.found) (nodes_of is.found);
      to_other = is_placed fabric one other good is too guids are are_too;
      to_one = is_placed fabric other one good too is guids are_too are;
      there_and_back = there_and_back fabric one other good is too;
      back_and_there = there_and_back fabric other one good too is;
    }

-- where the switch of a GUID stands in the one, and in the other
pub meets : (fabric : FabricState) (one other : GraphState) (guids : List ℕ) (guid k m : ℕ) → (good : IsGood fabric)
    → (is : IsLayoutOf one fabric) → (too : IsLayoutOf other fabric) → (are : AreLids (end_ports one) guids)
    → (are_too : AreLids (end_ports other) guids) → place_in one.switches guid ≡ Some k → place_in other.switches guid ≡ Some m
    → m ≡ (graphs_of_one_fabric_are_alike fabric one other guids good is too are are_too).place k
unfolding graphs_of_one_fabric_are_alike
meets fabric one other guids guid k m good is too are are_too at at_too =
    switches_meet fabric one other good is too guid k m (has_switch fabric one is guid k at) (has_switch fabric other too guid m at_too)

-- and the same node of the fabric stands at a place of the one and where that is in the other
pub one_node_moves : (fabric : FabricState) (one other : GraphState) (guids : List ℕ) (k node : ℕ) → (good : IsGood fabric)
    → (is : IsLayoutOf one fabric) → (too : IsLayoutOf other fabric) → (are : AreLids (end_ports one) guids)
    → (are_too : AreLids (end_ports other) guids) → slice_get (nodes_of is.found) k ≡ Some node → is_switch_at fabric.nodes node ≡ true
    → slice_get (nodes_of too.found) ((graphs_of_one_fabric_are_alike fabric one other guids good is too are are_too).place k) ≡ Some node
unfolding graphs_of_one_fabric_are_alike
one_node_moves fabric one other guids k node good is too are are_too there switch = moved_there fabric one other good is too k node there switch
