-- No channels wait for one another in a cycle.
use Rattle.std.proofs.Common.{ℕ, ◌≡◌, ◌≢◌, ◌-◌, ◌<◌, ◌==◌, ◌&&◌, ◌∙◌, nat_lt, ap, refl, sym, subst, Bool, true, false, if◌then◌else◌, List, [], ◌∷◌, length, map, Option, Some, None, option_map, arith}
use Rattle.std.specs.List.{list_all, list_any}
use Rattle.std.proofs.lemmas.Bool.{and_parts, eqb-false, eqb-true, false≢true, ltb-true, ne_eqb}
use Rattle.std.proofs.lemmas.Option.{none-some, same_Some}
use Rattle.dump_file.specs.Dump.{DumpState}
use Rattle.fabric_parts.specs.Cable.{far_end, port}
use Rattle.fabric_parts.specs.declared.cable.PortRef.{PortRef}
use Rattle.fabric_wire.specs.OfTopology.{fabric_of}
use Rattle.step_results.proofs.ListLemmas.{all_there}
use Rattle.audit_loops.proofs.CycleLawLemmas.{reported_loops_wait}
use Rattle.audit_loops.specs.Channels.{deadlock, depends, leads_to, leaves_by}
use Rattle.audit_loops.specs.Laws.{are_channels, is_cycle, wait_round}
use Rattle.audit_net.specs.Net.{NetState}
use Rattle.smp_wire.specs.FabricState.{FabricState}
use Rattle.subnet_fabric.specs.BringUp.{IsBroughtUpBy}
use Rattle.sweep.proofs.FoundLemmas.{any_at}
use Rattle.sweep.proofs.ProgressLemmas.{node_of}
use Rattle.sweep.specs.Graph.{GraphState}
use Rattle.sweep.specs.OfFabric.{Found, node_at, nodes_of, place_of}
use Rattle.table_push.proofs.HomeLemmas.{home_there}
use Rattle.table_push.proofs.AttachedLemmas.{is_hung}
use Rattle.table_push.proofs.HomeLemmas.{at_home, home_of_port}
use Rattle.topo_file.specs.Node.{is_switch_at}
use Rattle.topo_file.specs.Sound.{IsSound}
use Rattle.topo_file.specs.Topology.{TopologyState}
use Rattle.updn_routes.proofs.CycleLemmas.{no_cycle}
use Rattle.updn_routes.proofs.RouteLemmas.{arrives, first_step, same_port}
use Rattle.updn_routes.specs.Cabling.{leads}
use Rattle.updn_routes.specs.Choice.{AllChosen, is_route}
use Rattle.updn_routes.specs.Routes.{home_of, hop_to, next_hop, order_of, tie_at, tie_towards}
use Rattle.updn_routes.specs.Subnet.{RoutesState, rows_of}
use Rattle.updn_routes.specs.Waiting.{Channel, WaitsFor, WaitsOver}
use Rattle.updn_routes.specs.declared.link.Link.{Link}
use Rattle.joint_laws.specs.RouteLaws.{over}
use Rattle.joint_laws.specs.Shown.{Shows}
use Rattle.joint_laws.proofs.HeldTableLemmas.{hop_of}
use Rattle.joint_laws.proofs.RingLemmas.{is_proper, leads_by, proper_leads, ring_proper}
use Rattle.joint_laws.proofs.TurnLemmas.{leaves}
use Rattle.joint_laws.proofs.StandLemmas.{Stands, few, goes, no_switch, one_end, place_in, attachment, within}

module _ (plan : TopologyState) (sound : IsSound plan) (keys : List (List ℕ)) (routes : RoutesState) (fabric : FabricState)
    (up : IsBroughtUpBy plan keys routes fabric) (dump : DumpState) (shows : Shows (over plan dump) routes.lids fabric) where
  abbrev net : NetState
  net = over plan dump

  abbrev graph : GraphState
  graph = routes.graph

  abbrev all : List Found
  all = up.are.found.of.layout.found

  abbrev rows : List (List Link)
  rows = routes.between.rows

  abbrev next : ℕ → ℕ → Option ℕ
  next lid s = next_hop routes.between s lid

  -- the switch at which a LID is attached
  abbrev at_home_of : ℕ → Option ℕ
  at_home_of lid = option_map (λ home. home.node) (home_of routes.between.homes lid)

  chosen_home : (lid d : ℕ) → at_home_of lid ≡ Some d → AllChosen rows (order_of routes.between) (tie_at routes.between lid) (next lid) d
  chosen_home lid d is = by (home_of routes.between.homes lid) refl is
    where
      by : (o : Option PortRef) → home_of routes.between.homes lid ≡ o → option_map (λ home. home.node) o ≡ Some d
          → AllChosen rows (order_of routes.between) (tie_at routes.between lid) (next lid) d
      by None home is = absurd (none-some d is)
      by (Some at) home is =
          subst (λ (k : ℕ). AllChosen rows (order_of routes.between) (tie_at routes.between lid) (next lid) k) (same_Some at.node d is)
          (up.home.chosen.chosen lid at.node at.port home)

  abbrev at_graph : ℕ → ℕ
  at_graph node = place_of (nodes_of all) node

  abbrev chan : PortRef → Channel
  chan at = record { from = at_graph at.node; port = at.port }

  -- ---- a channel is not where a LID is attached
  not_home : (node place lid number : ℕ) (home there : PortRef) → Stands all node place → home_of routes.between.homes lid ≡ Some home → home.node ≡ place
      → home.port ≡ number → far_end plan.cables (port node number) ≡ Some there → is_switch_at plan.nodes there.node ≡ true → ⊥
  not_home node place lid number home there stands is here out cable switch =
      let low = few plan sound graph up.are.found.of node number there cable in
      let named = at_home graph routes.lids lid home (ap (λ (homes : List PortRef). home_of homes lid) (sym up.home.of.homes_are) ∙ is) in
      let one = home_of_port graph named.guid home named.is (ne_eqb home.port 0 (λ none. omega (arith, none, out, low.0))) in
      let hung = is_hung (fabric_of plan) graph one.index one.one up.are.found.of one.there in
      let node_is : node_at all one.one.at.node ≡ node =
      ap (λ (p : PortRef). node_at all p.node) one.at_is ∙ ap (node_at all) here ∙ node_of all place stands.one stands.there ∙ stands.node_is in
      let number_is : one.one.at.port ≡ number = ap (λ (p : PortRef). p.port) one.at_is ∙ out in
      let same : hung.there ≡ there =
      one_end plan.cables (port (node_at all one.one.at.node) one.one.at.port) (port node number) hung.there there hung.cable (λ i. port (node_is i) (number_is i)) cable in
      no_switch plan hung.there there hung.adapter same switch

  -- ---- so it follows what is chosen
  record Follows (lid : ℕ) (home at : PortRef) : Type 0 where
    apart : at_graph at.node ≢ home.node
    over : next lid (at_graph at.node) ≡ Some at.port

  follows : (lid : ℕ) (home at : PortRef) → is_proper net at ≡ true → home_of routes.between.homes lid ≡ Some home → leaves_by net at lid ≡ true → Follows lid home at
  follows lid home at proper is out =
      by (home.node == at_graph at.node) refl (ap (hop_to routes.between lid (at_graph at.node)) (sym is) ∙ hop)
    where
      switch : is_switch_at plan.nodes at.node ≡ true
      switch = (and_parts (is_switch_at plan.nodes at.node) _ proper).0

      hop : next_hop routes.between (at_graph at.node) lid ≡ Some at.port
      hop =
          let has = leaves net at.node lid at.port out in
          hop_of plan keys routes fabric up dump shows at.node (at_graph at.node) lid at.port switch (attachment plan sound graph up.are.found.of at.node switch) has.has
          has.some

      by : (b : Bool) → (home.node == at_graph at.node) ≡ b → (if b then Some home.port else tie_towards routes.between lid home.node (at_graph at.node)) ≡ Some at.port
          → Follows lid home at
      by true here picked =
          let far = proper_leads net at proper in
          absurd (not_home at.node (at_graph at.node) lid at.port home far.0 (attachment plan sound graph up.are.found.of at.node switch) is
          (eqb-true home.node (at_graph at.node) here) (same_Some home.port at.port picked) far.1 far.2)
      by false apart picked = record { apart = λ same. eqb-false home.node (at_graph at.node) apart (sym same); over = hop }

  -- ---- a route that goes over one channel and then over another
  goes_over : (lid d : ℕ) (a b : PortRef) → at_home_of lid ≡ Some d → is_switch_at plan.nodes a.node ≡ true → is_switch_at plan.nodes b.node ≡ true
      → leads_to net a b.node ≡ true → at_graph a.node ≢ d → at_graph b.node ≢ d → next lid (at_graph a.node) ≡ Some a.port
      → next lid (at_graph b.node) ≡ Some b.port → WaitsFor rows at_home_of next (chan a) (chan b)
  goes_over lid d a b there switch switch_too leading apart apart_too over_a over_b = by_first way.0 way.1
    where
      stands : Stands all a.node (at_graph a.node)
      stands = attachment plan sound graph up.are.found.of a.node switch

      less : at_graph a.node < length rows
      less = let low = within plan sound graph up.are.found.of a.node (at_graph a.node) stands in omega (arith, low, ap length up.home.of.rows_are)

      way : (steps : List ℕ) × (is_route rows (next lid) (at_graph a.node) steps d ≡ true)
      way =
          arrives rows (order_of routes.between) (tie_at routes.between lid) (next lid) d up.home.chosen.cabling (chosen_home lid d there) (at_graph a.node) a.port less apart over_a

      -- the first step is to where the cable leads
      first_is : (t : ℕ) (steps : List ℕ) → is_route rows (next lid) (at_graph a.node) (t ∷ steps) d ≡ true → t ≡ at_graph b.node
      first_is t steps route =
          let f = first_step rows (next lid) (at_graph a.node) t steps d route in
          let number : f.port ≡ a.port = same_port f.port a.port (sym f.picked ∙ over_a) in
          let out : leads (rows_of graph) (at_graph a.node) a.port t ≡ true =
          (λ i. leads (sym up.home.of.rows_are i) (at_graph a.node) (sym number i) t) ∙ f.out in
          let on = goes plan sound graph up.are.found.of a.node (at_graph a.node) a.port t stands out in
          let far = leads_by net a b.node leading in
          let same : on.there ≡ far.0 = one_end plan.cables (port a.node a.port) a on.there far.0 on.cable refl far.1 in
          sym (place_in plan sound graph up.are.found.of on.there.node t on.stands) ∙ ap (λ (p : PortRef). at_graph p.node) same ∙ ap at_graph far.2

      by_second : (steps : List ℕ) → is_route rows (next lid) (at_graph a.node) (at_graph b.node ∷ steps) d ≡ true → WaitsFor rows at_home_of next (chan a) (chan b)
      by_second [] route =
          let f = first_step rows (next lid) (at_graph a.node) (at_graph b.node) [] d route in absurd (apart_too (eqb-true (at_graph b.node) d f.rest))
      by_second (beyond ∷ steps) route =
          record { lid = lid; target = d; there = there; beyond = beyond; steps = steps; over_a = over_a; over_b = over_b; route = route }

      by_first : (steps : List ℕ) → is_route rows (next lid) (at_graph a.node) steps d ≡ true → WaitsFor rows at_home_of next (chan a) (chan b)
      by_first [] route = absurd (apart (eqb-true (at_graph a.node) d route))
      by_first (t ∷ steps) route =
          by_second steps (subst (λ (n : ℕ). is_route rows (next lid) (at_graph a.node) (n ∷ steps) d ≡ true) (first_is t steps route) route)

  waits : (lids : List ℕ) (a b : PortRef) → is_proper net a ≡ true → is_proper net b ≡ true → depends net lids a b ≡ true
      → WaitsFor rows at_home_of next (chan a) (chan b)
  waits lids a b proper proper_too depending = by (home_of routes.between.homes lid) refl
    where
      parts : (leads_to net a b.node ≡ true) × (list_any (λ lid. leaves_by net a lid && leaves_by net b lid) lids ≡ true)
      parts = and_parts (leads_to net a b.node) _ depending

      lid : ℕ
      lid = (any_at (λ lid. leaves_by net a lid && leaves_by net b lid) lids parts.1).one

      leave : (leaves_by net a lid ≡ true) × (leaves_by net b lid ≡ true)
      leave = and_parts (leaves_by net a lid) _ (any_at (λ lid. leaves_by net a lid && leaves_by net b lid) lids parts.1).passes

      switch : is_switch_at plan.nodes a.node ≡ true
      switch = (and_parts (is_switch_at plan.nodes a.node) _ proper).0

      by : (o : Option PortRef) → home_of routes.between.homes lid ≡ o → WaitsFor rows at_home_of next (chan a) (chan b)
      by None is =
          absurd (none-some a.port (ap (hop_to routes.between lid (at_graph a.node)) (sym is)
          ∙ hop_of plan keys routes fabric up dump shows a.node (at_graph a.node) lid a.port switch (attachment plan sound graph up.are.found.of a.node switch)
          (leaves net a.node lid a.port leave.0).has (leaves net a.node lid a.port leave.0).some))
      by (Some home) is =
          let one = follows lid home a proper is leave.0 in
          let other = follows lid home b proper_too is leave.1 in
          goes_over lid home.node a b (ap (option_map (λ home. home.node)) is) switch
          (and_parts (is_switch_at plan.nodes b.node) _ proper_too).0 parts.0 one.apart other.apart one.over other.over

  -- ---- round
  round : (lids : List ℕ) (first a : PortRef) (rest : List PortRef) → is_proper net first ≡ true → list_all (is_proper net) (a ∷ rest) ≡ true
      → wait_round (depends net lids) first (a ∷ rest) ≡ true → WaitsOver rows at_home_of next (chan a) (map chan rest) (chan first)
  round lids first a [] one proper waiting = waits lids a first (and_parts (is_proper net a) true proper).0 one waiting
  round lids first a (b ∷ rest) one proper waiting =
      let both = and_parts (depends net lids a b) _ waiting in
      let parts = and_parts (is_proper net a) _ proper in
      (waits lids a b parts.0 (and_parts (is_proper net b) _ parts.1).0 both.0, round lids first b rest one parts.1 both.1)

  none_round : (lids : List ℕ) (ring : List PortRef) → are_channels net ring ≡ true → is_cycle (depends net lids) ring ≡ true → ⊥
  none_round lids [] are cycle = false≢true cycle
  none_round lids (a ∷ rest) are cycle =
      let proper = ring_proper net (a ∷ rest) are in
      no_cycle rows (order_of routes.between) at_home_of (tie_at routes.between) next up.home.chosen.cabling up.home.chosen.order chosen_home (chan a) (map chan rest)
      (round lids a a rest (and_parts (is_proper net a) _ proper).0 proper cycle)

  pub is_free : (lids : List ℕ) → deadlock net lids ≡ None
  is_free lids = by (deadlock net lids) refl
    where
      by : (o : Option (List PortRef)) → deadlock net lids ≡ o → o ≡ None
      by None reported = refl
      by (Some ring) reported = let cycle = reported_loops_wait net lids ring reported in absurd (none_round lids ring cycle.0 cycle.1)
