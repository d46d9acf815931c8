-- A graph that lays out a good fabric: its places and the fabric's nodes, its links and the fabric's cables, and walks.
use Rattle.std.proofs.Common.{◌≡◌, ℕ, suc, ◌-◌, ◌<◌, ◌≤◌, ◌⊎◌, Bool, true, false, ◌==◌, ◌&&◌, ◌||◌, List, [], ◌∷◌, find, length, get_or}
use Rattle.std.proofs.Common.{Option, Some, None, option_map, slice_get, refl, sym, ap, subst, ◌∙◌, inl, inr, arith, if◌then◌else◌}
use Rattle.std.specs.List.{Contains, list_any}
use Rattle.std.specs.Option.{option_and_then, option_map_or, unwrap_or}
use Rattle.std.proofs.lemmas.Bool.{and_from, and_parts, eq-eqb, eqb-false, eqb-true, false≢true}
use Rattle.std.proofs.lemmas.List.{length-map}
use Rattle.std.proofs.lemmas.Option.{same_Some, slice_get_cases, slice_get_within}
use Rattle.step_results.proofs.ListLemmas.{list_any_weaker}
use Rattle.fabric_parts.specs.Cable.{far_end, is_same_port, last_of, port}
use Rattle.fabric_parts.specs.declared.cable.PortRef.{PortRef}
use Rattle.smp_wire.proofs.CableLemmas.{cabled_is_port}
use Rattle.smp_wire.proofs.PresentLemmas.{present_right}
use Rattle.smp_wire.specs.FabricState.{FabricState, is_port, is_switch_at}
use Rattle.smp_wire.specs.Good.{IsGood}
use Rattle.smp_wire.specs.Walk.{hop, walk}
use Rattle.sweep.specs.Graph.{GraphState}
use Rattle.sweep.specs.Joined.{is_next_to, is_walk_by}
use Rattle.sweep.specs.OfFabric.{Found, IsLayoutOf, link_to, node_at, nodes_of, place_of, placed, port_seen, port_to, ports_at, ports_up_to, row_of}
use Rattle.sweep.specs.Recabled.{manager_switch}
use Rattle.sweep.specs.Rounds.{AreInside}
use Rattle.sweep.specs.Seen.{name_at, seen_at}
use Rattle.sweep.specs.declared.graph.GraphLink.{GraphLink}
use Rattle.sweep.specs.declared.graph.GraphPort.{GraphPort}
use Rattle.sweep.specs.declared.seen.Seen.{Seen}
use Rattle.sweep.proofs.CabledLemmas.{far_of, hops_over}
use Rattle.sweep.proofs.EndPortLemmas.{attached, of_one, one_of, stands}
use Rattle.sweep.proofs.FoundLemmas.{among_at, among_place, node_there, one_place, place_is}
use Rattle.sweep.proofs.LeastLemmas.{goes, hops, in_range}
use Rattle.sweep.proofs.MetLemmas.{good_once}
use Rattle.sweep.proofs.OwnLemmas.{adapter_seen, own_end}
use Rattle.sweep.proofs.ProgressLemmas.{node_of}
use Rattle.sweep.proofs.RowLemmas.{row_within}
use Rattle.sweep.proofs.SmallLemmas.{held_at}
use Rattle.sweep.proofs.TurnLemmas.{any_of, row_has}
use Rattle.sweep.proofs.VisitLemmas.{link_is, no_link}
use Rattle.sweep.proofs.WholeLemmas.{at_place, found_there, row_there}

pub none_in : {X : Type 0} (x : X) → Contains [] x → ⊥
none_in x has = omega (arith, has.1)

-- what is found by a test, of elements some of which pass it
pub find_some : {X : Type 0} (p : X → Bool) (xs : List X) → list_any p xs ≡ true → (x : X) × (find p xs ≡ Some x) × Contains xs x × (p x ≡ true)
find_some p [] some = absurd (false≢true some)
find_some {X = X} p (x ∷ xs) some = by (p x) refl (λ later. find_some p xs later)
  where
    by : (b : Bool) → p x ≡ b → (list_any p xs ≡ true → (y : X) × (find p xs ≡ Some y) × Contains xs y × (p y ≡ true))
        → (y : X) × (find p (x ∷ xs) ≡ Some y) × Contains (x ∷ xs) y × (p y ≡ true)
    by true is later = (x, ap (λ (b : Bool). if b then Some x else find p xs) is, (0, omega arith, refl), is)
    by false is later =
        let more = later (ap (λ (b : Bool). b || list_any p xs) (sym is) ∙ some) in
        let at = more.2 in
        let less = at.1 in
        (more.0, ap (λ (b : Bool). if b then Some x else find p xs) is ∙ more.1, (suc at.0, omega (arith, less), at.2), more.3)

pub any_there : {X : Type 0} (p : X → Bool) (xs : List X) (x : X) → Contains xs x → p x ≡ true → list_any p xs ≡ true
any_there p xs x has passes = let at = stands xs x has in Rattle.sweep.proofs.FoundLemmas.any_by p xs at.0 x at.1 passes

module _ (fabric : FabricState) (graph : GraphState) (good : IsGood fabric) (layout : IsLayoutOf graph fabric) where
  abbrev pub nodes : List ℕ
  nodes = nodes_of layout.found

  -- that node stands at that place of the graph
  abbrev pub At : ℕ → ℕ → Type 0
  At k node = slice_get nodes k ≡ Some node

  pub switch_at : (k node : ℕ) → At k node → is_switch_at fabric.nodes node ≡ true
  switch_at k node at = sym (layout.all node) ∙ among_at nodes k node at

  pub at_switch : (node : ℕ) → is_switch_at fabric.nodes node ≡ true → (k : ℕ) × At k node
  at_switch node switch = among_place nodes node (layout.all node ∙ switch)

  pub rows_long : length graph.rows ≡ length nodes
  rows_long =
      ap (λ (rows : List (List GraphLink)). length rows) layout.rows
      ∙ length-map layout.found (λ (one : Found). row_of fabric nodes one.node) ∙ sym (length-map layout.found (λ (one : Found). one.node))

  pub at_less : (k node : ℕ) → At k node → k < length graph.rows
  at_less k node at = let within = slice_get_within nodes k node at in let long = rows_long in omega (arith, within, long)

  pub less_at : (k : ℕ) → k < length graph.rows → (node : ℕ) × At k node
  less_at k less = by (slice_get_cases nodes k).1
    where
      by : ((x : ℕ) × (k < length nodes) × (slice_get nodes k ≡ Some x) × (get_or nodes k x ≡ x)) ⊎ ((length nodes ≤ k) × (slice_get nodes k ≡ None)) → (node : ℕ) × At k node
      by (inl here) = (here.0, here.2)
      by (inr past) = let high = past.0 in let long = rows_long in absurd (omega (arith, high, less, long))

  pub same_place : (j k node : ℕ) → At j node → At k node → j ≡ k
  same_place j k node one other = one_place nodes j k node layout.once one other

  pub same_node : (k x y : ℕ) → At k x → At k y → x ≡ y
  same_node k x y one other = same_Some x y (sym one ∙ other)

  pub row_is : (k node : ℕ) → At k node → get_or graph.rows k [] ≡ row_of fabric nodes node
  row_is k node at =
      let one = found_there layout.found k node at in
      ap (λ (rows : List (List GraphLink)). get_or rows k []) layout.rows ∙ row_there fabric layout.found k one.0 one.1 ∙ ap (row_of fabric nodes) one.2

  -- ---- links and cables
  pub record NextBy (node j : ℕ) : Type 0 where
    pub number : ℕ
    pub end : PortRef
    pub cable : far_end fabric.cables (port node number) ≡ Some end
    pub at : At j end.node

  pub hop_of : (k node j : ℕ) → At k node → is_next_to graph.rows k j ≡ true → NextBy node j
  hop_of k node j at next = by one.number (far_end fabric.cables (port node one.number)) refl one.passes
    where
      one : Rattle.sweep.proofs.TurnLemmas.AnyAt (λ (link : GraphLink). link.to.node == j) (λ number. option_map_or (link_to fabric nodes number) (far_end fabric.cables (port node number)) []) 1 (ports_at fabric node)
      one =
          any_of (λ (link : GraphLink). link.to.node == j) (λ number. option_map_or (link_to fabric nodes number) (far_end fabric.cables (port node number)) []) 1 (ports_at fabric node)
          (ap (list_any (λ (link : GraphLink). link.to.node == j)) (sym (row_is k node at)) ∙ next)

      or_false : (b : Bool) → b || false ≡ true → b ≡ true
      or_false true h = refl
      or_false false h = h

      kind : (number : ℕ) (end : PortRef) → far_end fabric.cables (port node number) ≡ Some end → (b : Bool) → is_switch_at fabric.nodes end.node ≡ b
          → list_any (λ (link : GraphLink). link.to.node == j) (link_to fabric nodes number end) ≡ true → NextBy node j
      kind number end far false adapter any =
          absurd (false≢true (sym (ap (list_any (λ (link : GraphLink). link.to.node == j)) (no_link fabric nodes number end adapter)) ∙ any))
      kind number end far true switch any =
          let there = at_switch end.node switch in
          let is : (place_of nodes end.node == j) ≡ true =
          or_false _ (sym (ap (list_any (λ (link : GraphLink). link.to.node == j)) (link_is fabric nodes number end switch)) ∙ any) in
          let same : there.0 ≡ j = sym (place_is nodes there.0 end.node layout.once there.1) ∙ eqb-true _ j is in
          record { number = number; end = end; cable = far; at = subst (λ (k : ℕ). At k end.node) same there.1 }

      by : (number : ℕ) (far : Option PortRef) → far_end fabric.cables (port node number) ≡ far
          → list_any (λ (link : GraphLink). link.to.node == j) (option_map_or (link_to fabric nodes number) far []) ≡ true → NextBy node j
      by number None far any = absurd (false≢true any)
      by number (Some end) far any = kind number end far (is_switch_at fabric.nodes end.node) refl any

  pub range_of : (node number : ℕ) (end : PortRef) → far_end fabric.cables (port node number) ≡ Some end
      → (is_port fabric.nodes (port node number) ≡ true) × (1 ≤ number) × (number ≤ ports_at fabric node)
  range_of node number end far =
      let there = cabled_is_port fabric.nodes fabric.cables (port node number) end (present_right good) far in
      let range = in_range fabric node number there in
      (there, range.0, range.1)

  pub next_of : (k node j number : ℕ) (end : PortRef) → At k node → far_end fabric.cables (port node number) ≡ Some end → At j end.node
      → is_next_to graph.rows k j ≡ true
  next_of k node j number end at far there =
      let range = range_of node number end far in
      let place : place_of nodes end.node ≡ j = place_is nodes j end.node layout.once there in
      ap (list_any (λ (link : GraphLink). link.to.node == j)) (row_is k node at)
      ∙ list_any_weaker (λ (link : GraphLink). (link.port == number) && is_same_port link.to (placed nodes end)) (λ (link : GraphLink). link.to.node == j)
      (λ link h. let parts = and_parts (link.to.node == place_of nodes end.node) _ (and_parts (link.port == number) _ h).1 in
      eq-eqb link.to.node j (eqb-true link.to.node (place_of nodes end.node) parts.0 ∙ place))
      (row_of fabric nodes node)
      (row_has fabric nodes node number end (placed nodes end) far (switch_at j end.node there) refl range.1 range.2)

  pub are_inside : AreInside graph.rows
  are_inside s t next =
      let x = less_at s (row_within (λ (link : GraphLink). link.to.node == t) graph.rows s next) in
      let one = hop_of s x.0 t x.1 next in
      at_less t one.end.node one.at

  -- ---- walks
  pub record Up (here : PortRef) (j n : ℕ) : Type 0 where
    pub numbers : List ℕ
    pub ends : List PortRef
    pub walked : walk fabric.nodes fabric.cables false here numbers ≡ Some ends
    pub at : At j (last_of here ends).node
    pub long : length numbers ≡ n

  pub walk_up : (here : PortRef) (k j : ℕ) (steps : List ℕ) → At k here.node → is_walk_by (is_next_to graph.rows) k steps j ≡ true → Up here j (length steps)
  walk_up here k j [] at walks = record {
    numbers = [];
    ends = [];
    walked = refl;
    at = ap (slice_get nodes) (sym (eqb-true k j walks)) ∙ at;
    long = refl;
  }
  walk_up here k j (t ∷ steps) at walks =
      let parts = and_parts (is_next_to graph.rows k t) (is_walk_by (is_next_to graph.rows) t steps j) walks in
      let one = hop_of k here.node t at parts.0 in
      let rest = walk_up one.end t j steps one.at parts.1 in
      let range = range_of here.node one.number one.end one.cable in
      record {
        numbers = one.number ∷ rest.numbers;
        ends = one.end ∷ rest.ends;
        walked = ap (option_and_then (λ there. option_map (λ ends. there ∷ ends) (walk fabric.nodes fabric.cables false there rest.numbers)))
            (hops_over fabric here one.end one.number false (switch_at k here.node at) range.0 one.cable)
            ∙ ap (option_map (λ ends. one.end ∷ ends)) rest.walked;
        at = rest.at;
        long = ap suc rest.long;
      }

  pub record Down (here : PortRef) (ends : List PortRef) (k n : ℕ) : Type 0 where
    pub steps : List ℕ
    pub to : ℕ
    pub at : At to (last_of here ends).node
    pub leads : is_walk_by (is_next_to graph.rows) k steps to ≡ true
    pub long : length steps ≡ n

  pub walk_down : (here : PortRef) (numbers : List ℕ) (ends : List PortRef) (k : ℕ) → At k here.node → walk fabric.nodes fabric.cables false here numbers ≡ Some ends
      → is_switch_at fabric.nodes (last_of here ends).node ≡ true → Down here ends k (length numbers)
  walk_down here [] ends k at walked switch =
      subst (λ (ends : List PortRef). Down here ends k 0) (same_Some [] ends walked)
      (record { steps = []; to = k; at = at; leads = eq-eqb k k refl; long = refl })
  walk_down here (number ∷ numbers) ends k at walked switch =
      by (hop fabric.nodes fabric.cables false here number) refl walked (λ there some t. walk_down there numbers some t)
    where
      on : (there : PortRef) → hop fabric.nodes fabric.cables false here number ≡ Some there → (rest : Option (List PortRef))
          → walk fabric.nodes fabric.cables false there numbers ≡ rest → option_map (λ later. there ∷ later) rest ≡ Some ends
          → ((there : PortRef) (some : List PortRef) (t : ℕ) → At t there.node → walk fabric.nodes fabric.cables false there numbers ≡ Some some
          → is_switch_at fabric.nodes (last_of there some).node ≡ true → Down there some t (length numbers))
          → Down here ends k (suc (length numbers))
      on there hopped None goes_on is later = absurd (cc)
      on there hopped (Some some) goes_on is later =
          let same : there ∷ some ≡ ends = same_Some (there ∷ some) ends is in
          let last : is_switch_at fabric.nodes (last_of there some).node ≡ true =
          subst (λ (ends : List PortRef). is_switch_at fabric.nodes (last_of here ends).node ≡ true) (sym same) switch in
          let one = hops fabric here there number hopped in
          let place = at_switch there.node (goes fabric there numbers some goes_on last) in
          let rest = later there some place.0 place.1 goes_on last in
          subst (λ (ends : List PortRef). Down here ends k (suc (length numbers))) same (record {
            steps = place.0 ∷ rest.steps;
            to = rest.to;
            at = rest.at;
            leads = and_from (is_next_to graph.rows k place.0) _ (next_of k here.node place.0 number there at one.cable place.1) rest.leads;
            long = ap suc rest.long;
          })

      by : (next : Option PortRef) → hop fabric.nodes fabric.cables false here number ≡ next
          → option_and_then (λ there. option_map (λ later. there ∷ later) (walk fabric.nodes fabric.cables false there numbers)) next ≡ Some ends
          → ((there : PortRef) (some : List PortRef) (t : ℕ) → At t there.node → walk fabric.nodes fabric.cables false there numbers ≡ Some some
          → is_switch_at fabric.nodes (last_of there some).node ≡ true → Down there some t (length numbers))
          → Down here ends k (suc (length numbers))
      by None hopped is later = absurd (cc)
      by (Some there) hopped is later = on there hopped (walk fabric.nodes fabric.cables false there numbers) refl is later

  -- ---- ports of adapters
  pub record PortOf (one : GraphPort) : Type 0 where
    pub place : ℕ
    pub number : ℕ
    pub node : ℕ
    pub at : At place node
    pub there : PortRef
    pub far : far_end fabric.cables (port node number) ≡ Some there
    pub adapter : is_switch_at fabric.nodes there.node ≡ false
    pub seen : Seen
    pub seen_is : seen_at fabric there ≡ Some seen
    pub is : port_seen (port place number) (unwrap_or (name_at fabric there) []) seen ≡ one

  pub port_of : (one : GraphPort) → Contains graph.ports one → PortOf one
  port_of one has =
      let place = of_one (λ place. ports_up_to fabric place (node_at layout.found place) (ports_at fabric (node_at layout.found place))) 0 (length layout.found) one
      (subst (λ (ports : List GraphPort). Contains ports one) layout.ports has) in
      let number = of_one (λ number. option_map_or (port_to fabric (port place.number number)) (far_end fabric.cables (port (node_at layout.found place.number) number)) [])
      1 (ports_at fabric (node_at layout.found place.number)) one place.has in
      let low = place.to in
      let stood = at_place layout.found place.number (omega (arith, low)) in
      let node : node_at layout.found place.number ≡ stood.0.node = node_of layout.found place.number stood.0 stood.1 in
      by_far place.number number.number (node_at layout.found place.number)
      (node_there layout.found place.number stood.0 stood.1 ∙ ap (λ (n : ℕ). Some n) (sym node))
      (far_end fabric.cables (port (node_at layout.found place.number) number.number)) refl number.has
    where
      by_seen : (place number node : ℕ) → At place node → (there : PortRef) → far_end fabric.cables (port node number) ≡ Some there → is_switch_at fabric.nodes there.node ≡ false
          → (o : Option Seen) → seen_at fabric there ≡ o
          → Contains (option_map_or (λ seen. port_seen (port place number) (unwrap_or (name_at fabric there) []) seen ∷ []) o []) one → PortOf one
      by_seen place number node at there far adapter None seen has = absurd (none_in one has)
      by_seen place number node at there far adapter (Some some) seen has = record {
        place = place;
        number = number;
        node = node;
        at = at;
        there = there;
        far = far;
        adapter = adapter;
        seen = some;
        seen_is = seen;
        is = one_of (port_seen (port place number) (unwrap_or (name_at fabric there) []) some) one has;
      }

      by_kind : (place number node : ℕ) → At place node → (there : PortRef) → far_end fabric.cables (port node number) ≡ Some there
          → (b : Bool) → is_switch_at fabric.nodes there.node ≡ b
          → Contains (if b then [] else option_map_or (λ seen. port_seen (port place number) (unwrap_or (name_at fabric there) []) seen ∷ []) (seen_at fabric there) []) one
          → PortOf one
      by_kind place number node at there far true kind has = absurd (none_in one has)
      by_kind place number node at there far false kind has = by_seen place number node at there far kind (seen_at fabric there) refl has

      by_far : (place number node : ℕ) → At place node → (o : Option PortRef) → far_end fabric.cables (port node number) ≡ o
          → Contains (option_map_or (port_to fabric (port place number)) o []) one → PortOf one
      by_far place number node at None far has = absurd (none_in one has)
      by_far place number node at (Some there) far has = by_kind place number node at there far (is_switch_at fabric.nodes there.node) refl has

  -- ---- the SM port
  pub first : (there : PortRef) × (far_end fabric.cables fabric.manager ≡ Some there)
  first = far_of fabric.cables fabric.manager good.manager_cabled

  manager_seen : (o : Option Seen) → seen_at fabric fabric.manager ≡ o → option_map (λ seen. seen.port_guid) o ≡ Some graph.manager
      → (seen : Seen) × (seen_at fabric fabric.manager ≡ Some seen) × (seen.port_guid ≡ graph.manager)
  manager_seen None seen is = absurd (cc)
  manager_seen (Some some) seen is = (some, seen, same_Some some.port_guid graph.manager is)

  -- a port of the graph with its GUID is the subnet manager's
  it_is_manager : (one : GraphPort) → PortOf one → one.port_guid ≡ graph.manager → (k : ℕ) × (one.at.node ≡ k) × At k first.0.node
  it_is_manager one of guid =
      let own = manager_seen (seen_at fabric fabric.manager) refl layout.manager in
      let its = adapter_seen fabric of.there of.seen of.adapter of.seen_is in
      let managers = adapter_seen fabric fabric.manager own.0 good.manager_adapter own.1 in
      let same_guid : of.seen.port_guid ≡ own.0.port_guid = ap (λ (p : GraphPort). p.port_guid) of.is ∙ guid ∙ sym own.2 in
      let same = own_end fabric of.there.node fabric.manager.node (of.there.port - 1) (fabric.manager.port - 1) own.0.port_guid good
      (subst (Rattle.sweep.proofs.OwnLemmas.EndAt fabric of.there.node (of.there.port - 1)) same_guid its.end_is) managers.end_is in
      let some_one = eqb-false of.there.port 0 its.some in
      let some_other = eqb-false fabric.manager.port 0 managers.some in
      let less = same.1 in
      let number : of.there.port ≡ fabric.manager.port = omega (arith, less, some_one, some_other) in
      let there : of.there ≡ fabric.manager = λ i. record { node = same.0 i; port = number i } in
      let back : far_end fabric.cables fabric.manager ≡ Some (port of.node of.number) =
      ap (far_end fabric.cables) (sym there) ∙ good_once fabric (port of.node of.number) of.there good of.far in
      let end : port of.node of.number ≡ first.0 = same_Some _ first.0 (sym back ∙ first.1) in
      (of.place, ap (λ (p : GraphPort). p.at.node) (sym of.is), subst (λ (p : PortRef). At of.place p.node) end of.at)

  pub manager_at : At (manager_switch graph) first.0.node
  manager_at =
      let own = manager_seen (seen_at fabric fabric.manager) refl layout.manager in
      let held = held_at fabric fabric.manager good.manager_adapter good.manager_port in
      let hung = attached fabric layout.found fabric.manager good layout.all good.manager_adapter good.manager_cabled held in
      let shown = port_seen (port hung.place hung.number) (unwrap_or (name_at fabric fabric.manager) []) (Rattle.sweep.proofs.OwnLemmas.seen_of held.ports fabric.manager.port held.one) in
      let guid : held.one.port_guid ≡ graph.manager =
      ap (λ (seen : Seen). seen.port_guid) (same_Some _ own.0 (sym (Rattle.sweep.proofs.EndPortLemmas.seen_is fabric fabric.manager held) ∙ own.1)) ∙ own.2 in
      let any : list_any (λ port. port.port_guid == graph.manager) graph.ports ≡ true =
      any_there (λ (port : GraphPort). port.port_guid == graph.manager) graph.ports shown (subst (λ (ports : List GraphPort). Contains ports shown) (sym layout.ports) hung.among)
      (eq-eqb held.one.port_guid graph.manager guid) in
      let one = find_some (λ port. port.port_guid == graph.manager) graph.ports any in
      let is = it_is_manager one.0 (port_of one.0 one.2) (eqb-true one.0.port_guid graph.manager one.3) in
      let place : manager_switch graph ≡ is.0 = ap (λ (o : Option GraphPort). unwrap_or (option_map (λ port. port.at.node) o) 0) one.1 ∙ is.1 in
      subst (λ (k : ℕ). At k first.0.node) (sym place) is.2
