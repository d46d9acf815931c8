-- The graph of a good fabric is whole if and only if a sweep of the fabric finds all of it.
use Rattle.std.proofs.Common.{◌≡◌, ℕ, ◌⊎◌, Bool, true, false, ◌==◌, ◌||◌, List, [], ◌∷◌, get_or}
use Rattle.std.proofs.Common.{Option, Some, None, option_map, slice_get, refl, sym, ap, subst, ◌∙◌, inl, inr, arith}
use Rattle.std.specs.Bool.{Decides}
use Rattle.std.specs.List.{All, Contains}
use Rattle.std.specs.Option.{option_and_then, option_map_or, unwrap_or}
use Rattle.std.proofs.lemmas.Bool.{and_parts, eq-eqb, eqb-true, false≢true, or_cases}
use Rattle.std.proofs.lemmas.List.Elements.{Contains-get_or}
use Rattle.step_results.proofs.DistinctLemmas.{differ}
use Rattle.step_results.proofs.ListLemmas.{all_there}
use Rattle.fabric_parts.specs.Cable.{far_end, is_same_port, last_of, port}
use Rattle.fabric_parts.specs.declared.cable.PortRef.{PortRef}
use Rattle.smp_wire.proofs.CableLemmas.{far_is_port}
use Rattle.smp_wire.proofs.PathLemmas.{paths_begin}
use Rattle.smp_wire.proofs.PresentLemmas.{present_once, present_right}
use Rattle.smp_wire.specs.FabricState.{FabricState, is_port, is_switch_at}
use Rattle.smp_wire.specs.Good.{IsGood, SwitchesJoined, is_right}
use Rattle.smp_wire.specs.Walk.{walk}
use Rattle.sweep.specs.Graph.{GraphState}
use Rattle.sweep.specs.Hops.{IsTooFar, IsWithin}
use Rattle.sweep.specs.Joined.{AllJoined, is_next_to, is_walk_by}
use Rattle.sweep.specs.Laws.{WholeGraphsAreSwept}
use Rattle.sweep.specs.OfFabric.{IsLayoutOf, link_to, node_at, nodes_of, place_of, placed, port_seen, ports_at}
use Rattle.sweep.specs.Recabled.{IsNear, IsWhole, manager_switch}
use Rattle.sweep.specs.Rounds.{AreDistances, is_reached}
use Rattle.sweep.specs.Seen.{name_at}
use Rattle.sweep.specs.declared.graph.GraphLink.{GraphLink}
use Rattle.sweep.specs.declared.graph.GraphPort.{GraphPort}
use Rattle.sweep.proofs.CabledLemmas.{cabled_of}
use Rattle.sweep.proofs.EndPortLemmas.{attached, in_all, of_one, one_of, stands, there_is}
use Rattle.sweep.proofs.FoundLemmas.{place_is}
use Rattle.sweep.proofs.LayoutLemmas.{At, are_inside, at_less, at_switch, first, less_at, manager_at, none_in, port_of, range_of, row_is, same_node, same_place, switch_at, walk_down, walk_up}
use Rattle.sweep.proofs.LeastLemmas.{begins}
use Rattle.sweep.proofs.MetLemmas.{good_once, one_near_end}
use Rattle.sweep.proofs.NearLemmas.{far_ends}
use Rattle.sweep.proofs.OwnLemmas.{seen_of}
use Rattle.sweep.proofs.ProgressLemmas.{node_of}
use Rattle.sweep.proofs.RoundLemmas.{distances_exist}
use Rattle.sweep.proofs.ServedLemmas.{near_decides, place_in_rows}
use Rattle.sweep.proofs.SmallLemmas.{held_at}
use Rattle.sweep.proofs.TurnLemmas.{cable_ends}
use Rattle.sweep.proofs.VisitLemmas.{link_is, no_link}
use Rattle.sweep.proofs.WholeLemmas.{found_there}

module _ (fabric : FabricState) (graph : GraphState) (good : IsGood fabric) (layout : IsLayoutOf graph fabric) where
  abbrev nodes : List ℕ
  nodes = nodes_of layout.found

  abbrev Stands : ℕ → ℕ → Type 0
  Stands k node = At fabric graph good layout k node

  -- ---- joined
  joined : AllJoined graph.rows → SwitchesJoined fabric
  joined all a b one other =
      let s = at_switch fabric graph good layout a one in
      let d = at_switch fabric graph good layout b other in
      let walks = all s.0 d.0 (at_less fabric graph good layout s.0 a s.1) (at_less fabric graph good layout d.0 b d.1) in
      let up = walk_up fabric graph good layout (port a 0) s.0 d.0 walks.0 s.1 walks.1 in
      let end : (last_of (port a 0) up.ends).node ≡ b = same_node fabric graph good layout d.0 _ b up.at d.1 in (
        up.numbers,
        ap (λ (o : Option (List PortRef)). option_map_or (λ ends. (last_of (port a 0) ends).node == b) o false) up.walked ∙ eq-eqb _ b end,
      )

  all_joined : SwitchesJoined fabric → AllJoined graph.rows
  all_joined each s d s_less d_less =
      let a = less_at fabric graph good layout s s_less in
      let b = less_at fabric graph good layout d d_less in
      let over = each a.0 b.0 (switch_at fabric graph good layout s a.0 a.1) (switch_at fabric graph good layout d b.0 b.1) in
      by a.0 b.0 a.1 b.1 over.0 (walk fabric.nodes fabric.cables false (port a.0 0) over.0) refl over.1
    where
      by : (a b : ℕ) → Stands s a → Stands d b → (numbers : List ℕ) → (o : Option (List PortRef)) → walk fabric.nodes fabric.cables false (port a 0) numbers ≡ o
          → option_map_or (λ ends. (last_of (port a 0) ends).node == b) o false ≡ true → (steps : List ℕ) × (is_walk_by (is_next_to graph.rows) s steps d ≡ true)
      by a b at_a at_b numbers None walked is = absurd (false≢true is)
      by a b at_a at_b numbers (Some ends) walked is =
          let end : (last_of (port a 0) ends).node ≡ b = eqb-true _ b is in
          let down = walk_down fabric graph good layout (port a 0) numbers ends s at_a walked (ap (is_switch_at fabric.nodes) end ∙ switch_at fabric graph good layout d b at_b) in
          let same : down.to ≡ d = same_place fabric graph good layout down.to d b (down.at ∙ ap (λ (n : ℕ). Some n) end) at_b in
          (down.steps, ap (is_walk_by (is_next_to graph.rows) s down.steps) (sym same) ∙ down.leads)

  -- ---- near
  pub near_within : (k node : ℕ) → Stands k node → IsNear graph.rows (manager_switch graph) k → IsWithin fabric 62 node
  near_within k node at near =
      let start = first fabric graph good layout in
      let up = walk_up fabric graph good layout start.0 (manager_switch graph) k near.steps (manager_at fabric graph good layout) near.leads in
      let few = near.short in
      let long = up.long in
      record {
        switch = switch_at fabric graph good layout k node at;
        rest = up.numbers;
        short = omega (arith, few, long);
        at = last_of start.0 up.ends;
        ends = ap (option_map (last_of fabric.manager)) (paths_begin fabric up.numbers good.manager_port)
            ∙ ap (λ (o : Option PortRef). option_map (last_of fabric.manager) (option_and_then (λ there. option_map (λ ends. there ∷ ends) (walk fabric.nodes fabric.cables false there up.numbers)) o)) start.1
            ∙ ap (λ (o : Option (List PortRef)). option_map (last_of fabric.manager) (option_map (λ ends. start.0 ∷ ends) o)) up.walked;
        node_is = same_node fabric graph good layout k _ node up.at at;
      }

  pub within_near : (k node : ℕ) → Stands k node → IsWithin fabric 62 node → IsNear graph.rows (manager_switch graph) k
  within_near k node at within =
      let start = first fabric graph good layout in
      let from = begins fabric within.rest within.at start.0 (far_end fabric.cables fabric.manager) start.1
      (sym (ap (option_map (last_of fabric.manager)) (paths_begin fabric within.rest good.manager_port)) ∙ within.ends) in
      let end : (last_of start.0 from.0).node ≡ node = ap (λ (p : PortRef). p.node) from.2 ∙ within.node_is in
      let down = walk_down fabric graph good layout start.0 within.rest from.0 (manager_switch graph) (manager_at fabric graph good layout) from.1 (ap (is_switch_at fabric.nodes) end ∙ within.switch) in
      let same : down.to ≡ k = same_place fabric graph good layout down.to k node (down.at ∙ ap (λ (n : ℕ). Some n) end) at in
      let few = within.short in
      let long = down.long in
      record {
        steps = down.steps;
        leads = ap (is_walk_by (is_next_to graph.rows) (manager_switch graph) down.steps) (sym same) ∙ down.leads;
        short = omega (arith, few, long);
      }

  -- ---- a whole graph's fabric is not too far
  link_there : (k node number : ℕ) (end : PortRef) → Stands k node → far_end fabric.cables (port node number) ≡ Some end → is_switch_at fabric.nodes end.node ≡ true
      → Contains (get_or graph.rows k []) (record { port = number; to = placed nodes end })
  link_there k node number end at far switch =
      let range = range_of fabric graph good layout node number end far in
      let low = range.1 in
      let high = range.2 in
      subst (λ (row : List GraphLink). Contains row (record { port = number; to = placed nodes end })) (sym (row_is fabric graph good layout k node at))
      (in_all (λ number. option_map_or (link_to fabric nodes number) (far_end fabric.cables (port node number)) []) 1 (ports_at fabric node) number
      (record { port = number; to = placed nodes end }) low (omega (arith, high))
      (subst (λ (o : Option PortRef). Contains (option_map_or (link_to fabric nodes number) o []) (record { port = number; to = placed nodes end })) (sym far)
      (subst (λ (row : List GraphLink). Contains row (record { port = number; to = placed nodes end })) (sym (link_is fabric nodes number end switch))
      (there_is (record { port = number; to = placed nodes end } ∷ []) 0 (record { port = number; to = placed nodes end }) refl))))

  one_end : IsWhole graph → (a b : PortRef) → far_end fabric.cables a ≡ Some b → is_switch_at fabric.nodes a.node ≡ true
      → IsWithin fabric 62 a.node ⊎ IsWithin fabric 62 b.node
  one_end whole a b far switch = by (is_switch_at fabric.nodes b.node) refl
    where
      s : (k : ℕ) × Stands k a.node
      s = at_switch fabric graph good layout a.node switch

      of_link : (t : (k : ℕ) × Stands k b.node)
          → IsNear graph.rows (manager_switch graph) s.0 ⊎ IsNear graph.rows (manager_switch graph) (place_of nodes b.node)
          → IsWithin fabric 62 a.node ⊎ IsWithin fabric 62 b.node
      of_link t (inl here) = inl (near_within s.0 a.node s.1 here)
      of_link t (inr there) =
          inr (near_within t.0 b.node t.1 (subst (λ (k : ℕ). IsNear graph.rows (manager_switch graph) k) (place_is nodes t.0 b.node layout.once t.1) there))

      by : (c : Bool) → is_switch_at fabric.nodes b.node ≡ c → IsWithin fabric 62 a.node ⊎ IsWithin fabric 62 b.node
      by true kind = of_link (at_switch fabric graph good layout b.node kind) (whole.links s.0 (record { port = a.port; to = placed nodes b }) (link_there s.0 a.node a.port b s.1 far kind))
      by false kind =
          let held = held_at fabric b kind (far_is_port fabric.nodes fabric.cables a b (present_right good) far) in
          let hung = attached fabric layout.found b good layout.all kind (cabled_of fabric.cables b a (good_once fabric a b good far)) held in
          let shown = port_seen (port hung.place hung.number) (unwrap_or (name_at fabric b) []) (seen_of held.ports b.port held.one) in
          let has : Contains graph.ports shown = subst (λ (ports : List GraphPort). Contains ports shown) (sym layout.ports) hung.among in
          let of = port_of fabric graph good layout shown has in
          let place : of.place ≡ hung.place = ap (λ (p : GraphPort). p.at.node) of.is in
          let stood = found_there layout.found of.place of.node of.at in
          let near_end = one_near_end fabric (port (node_at layout.found hung.place) hung.number) a b good hung.home far in
          let node : of.node ≡ a.node =
          sym stood.2 ∙ sym (node_of layout.found of.place stood.0 stood.1) ∙ ap (node_at layout.found) place ∙ ap (λ (p : PortRef). p.node) near_end in
          let near : IsNear graph.rows (manager_switch graph) hung.place =
          subst (λ (p : GraphPort). IsNear graph.rows (manager_switch graph) p.at.node) has.2 (whole.ports has.0 shown has.1) in
          inl (near_within hung.place a.node (ap (slice_get nodes) (sym place) ∙ of.at ∙ ap (λ (n : ℕ). Some n) node) near)

  not_far : IsWhole graph → IsTooFar fabric → ⊥
  not_far whole far =
      let stood = stands fabric.cables far.cable far.there in
      let ends = far_ends fabric.cables stood.0 far.cable stood.1 (differ is_same_port _ (present_once good)) in
      let right = all_there (is_right fabric.nodes) fabric.cables stood.0 far.cable (present_right good) stood.1 in
      let one = and_parts (is_port fabric.nodes far.cable.first) _ right in
      let two = and_parts (is_port fabric.nodes far.cable.second) _ one.1 in
      let three = and_parts _ (is_switch_at fabric.nodes far.cable.first.node || is_switch_at fabric.nodes far.cable.second.node) two.1 in
      elim (or_cases (is_switch_at fabric.nodes far.cable.first.node) (is_switch_at fabric.nodes far.cable.second.node) three.1) [
        | inl first ↦ neither (one_end whole far.cable.first far.cable.second ends.first first) far.first far.second
        | inr second ↦ neither (one_end whole far.cable.second far.cable.first ends.second second) far.second far.first
      ]
    where
      neither : {A B : Type 0} → A ⊎ B → (A → ⊥) → (B → ⊥) → ⊥
      neither (inl a) no_a no_b = no_a a
      neither (inr b) no_a no_b = no_b b

  -- ---- and the graph of such a fabric is whole
  module _ (each : SwitchesJoined fabric) (none : IsTooFar fabric → ⊥) where
    distances : (found : List (Option ℕ)) × AreDistances graph.rows (manager_switch graph) found
    distances =
        distances_exist graph.rows (manager_switch graph) (are_inside fabric graph good layout)
        (at_less fabric graph good layout (manager_switch graph) (first fabric graph good layout).0.node (manager_at fabric graph good layout))

    decides : (k : ℕ) → Decides (is_reached distances.0 k) (IsNear graph.rows (manager_switch graph) k)
    decides k = near_decides graph.rows (manager_switch graph) distances.0 distances.1 k

    not_within : (k node : ℕ) → Stands k node → is_reached distances.0 k ≡ false → IsWithin fabric 62 node → ⊥
    not_within k node at past within = false≢true (sym past ∙ (decides k).1 (within_near k node at within))

    too_far : (here there : PortRef) → far_end fabric.cables here ≡ Some there → (IsWithin fabric 62 here.node → ⊥) → (IsWithin fabric 62 there.node → ⊥) → ⊥
    too_far here there far one other =
        let cable = cable_ends fabric here there 62 far one other in
        none (record { cable = cable.0; there = cable.1; first = cable.2; second = cable.3 })

    abbrev Served : ℕ → GraphLink → Type 0
    Served place link = IsNear graph.rows (manager_switch graph) place ⊎ IsNear graph.rows (manager_switch graph) link.to.node

    links : (place : ℕ) (link : GraphLink) → Contains (get_or graph.rows place []) link → Served place link
    links place link has =
        let node = less_at fabric graph good layout place (place_in_rows graph.rows place link has) in
        let one = of_one (λ number. option_map_or (link_to fabric nodes number) (far_end fabric.cables (port node.0 number)) []) 1 (ports_at fabric node.0) link
        (subst (λ (row : List GraphLink). Contains row link) (row_is fabric graph good layout place node.0 node.1) has) in
        by_far node.0 node.1 one.number (far_end fabric.cables (port node.0 one.number)) refl one.has
      where
        by_reach : (node number : ℕ) → Stands place node → (end : PortRef) → far_end fabric.cables (port node number) ≡ Some end → (t : (k : ℕ) × Stands k end.node)
            → link.to.node ≡ t.0 → (x y : Bool) → is_reached distances.0 place ≡ x → is_reached distances.0 t.0 ≡ y → Served place link
        by_reach node number at end far t to true y here there = inl ((decides place).0 here)
        by_reach node number at end far t to false true here there =
            inr (subst (λ (k : ℕ). IsNear graph.rows (manager_switch graph) k) (sym to) ((decides t.0).0 there))
        by_reach node number at end far t to false false here there =
            absurd (too_far (port node number) end far (not_within place node at here) (not_within t.0 end.node t.1 there))

        by_kind : (node number : ℕ) → Stands place node → (end : PortRef) → far_end fabric.cables (port node number) ≡ Some end
            → (b : Bool) → is_switch_at fabric.nodes end.node ≡ b → Contains (link_to fabric nodes number end) link → Served place link
        by_kind node number at end far false kind has =
            absurd (none_in link (subst (λ (row : List GraphLink). Contains row link) (no_link fabric nodes number end kind) has))
        by_kind node number at end far true kind has =
            let t = at_switch fabric graph good layout end.node kind in
            let is = one_of (record { port = number; to = placed nodes end }) link (subst (λ (row : List GraphLink). Contains row link) (link_is fabric nodes number end kind) has) in
            by_reach node number at end far t (ap (λ (l : GraphLink). l.to.node) (sym is) ∙ place_is nodes t.0 end.node layout.once t.1)
            (is_reached distances.0 place) (is_reached distances.0 t.0) refl refl

        by_far : (node : ℕ) → Stands place node → (number : ℕ) → (o : Option PortRef) → far_end fabric.cables (port node number) ≡ o
            → Contains (option_map_or (link_to fabric nodes number) o []) link → Served place link
        by_far node at number None far has = absurd (none_in link has)
        by_far node at number (Some end) far has = by_kind node number at end far (is_switch_at fabric.nodes end.node) refl has

    ports : All (λ port. IsNear graph.rows (manager_switch graph) port.at.node) graph.ports
    ports k d less =
        let of = port_of fabric graph good layout (get_or graph.ports k d) (Contains-get_or graph.ports k d less) in
        subst (λ (p : GraphPort). IsNear graph.rows (manager_switch graph) p.at.node) of.is
        (by of.place of.node of.number of.at of.there of.far of.adapter (is_reached distances.0 of.place) refl)
      where
        by : (place node number : ℕ) → Stands place node → (there : PortRef) → far_end fabric.cables (port node number) ≡ Some there → is_switch_at fabric.nodes there.node ≡ false
            → (b : Bool) → is_reached distances.0 place ≡ b → IsNear graph.rows (manager_switch graph) place
        by place node number at there far adapter true is = (decides place).0 is
        by place node number at there far adapter false is =
            absurd (too_far (port node number) there far (not_within place node at is) (λ within. false≢true (sym adapter ∙ within.switch)))

    is_whole : IsWhole graph
    is_whole = record { joined = all_joined each; links = links; ports = ports }

pub whole_graphs_are_swept : WholeGraphsAreSwept
whole_graphs_are_swept fabric graph good layout =
    (λ whole. (joined fabric graph good layout whole.joined, not_far fabric graph good layout whole), λ (each, none). is_whole fabric graph good layout each none)
