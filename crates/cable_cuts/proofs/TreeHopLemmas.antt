-- By two layouts of one fabric each switch sends along the tree, towards where a LID is attached, by the same port.
use Rattle.std.proofs.Common.{ℕ, suc, ◌+◌, ◌-◌, ◌<◌, ◌≡◌, ◌==◌, ◌∙◌, ap, refl, sym, subst, Bool, true, false, cond, if◌then◌else◌, List, [], ◌∷◌, find, get_or, length, slice_get, Option, Some, None, option_map, arith}
use Rattle.std.specs.List.{Contains}
use Rattle.std.specs.Option.{option_and_then, option_map_or}
use Rattle.std.proofs.lemmas.List.{length-map}
use Rattle.std.proofs.lemmas.Option.{get_or_from_slice_get, none-some, same_Some, slice_get-map}
use Rattle.fabric_parts.specs.Cable.{far_end, port}
use Rattle.fabric_parts.specs.declared.cable.PortRef.{PortRef}
use Rattle.lid_assign.specs.Lids.{AreLids, end_ports}
use Rattle.updn_routes.proofs.OfFabricLemmas.{graphs_of_one_fabric_are_alike}
use Rattle.updn_routes.specs.Alike.{AreAlike, layout_of, placed_home}
use Rattle.smp_wire.specs.FabricState.{FabricState, is_switch_at}
use Rattle.smp_wire.specs.Good.{IsGood}
use Rattle.sweep.proofs.EndPortLemmas.{of_one, one_of}
use Rattle.sweep.proofs.LayoutLemmas.{At, less_at, none_in, row_is, switch_at}
use Rattle.sweep.proofs.OwnLemmas.{EndAt, own_end, switch_end}
use Rattle.sweep.proofs.WholeLemmas.{found_there}
use Rattle.sweep.specs.Graph.{GraphState}
use Rattle.sweep.specs.OfFabric.{IsLayoutOf, guid_at, link_to, nodes_of, placed, ports_at, switch_of}
use Rattle.sweep.specs.declared.graph.GraphLink.{GraphLink}
use Rattle.sweep.specs.declared.graph.GraphSwitch.{GraphSwitch}
use Rattle.table_push.proofs.TreeLinkLemmas.{end_is, port_is}
use Rattle.table_push.specs.Masks.{child_towards, tree_end, tree_hop}
use Rattle.table_push.specs.TreeSteps.{graph_link}
use Rattle.updn_routes.specs.Sides.{above, is_below}
use Rattle.updn_routes.specs.Subnet.{RoutesState, guids_of, row_of, rows_of}
use Rattle.updn_routes.specs.Tree.{tree_port}
use Rattle.updn_routes.specs.declared.link.Link.{Link}
use Rattle.cable_cuts.proofs.LidLemmas.{same_lids}
use Rattle.cable_cuts.proofs.TreeLemmas.{below_moved, child_low, child_moved, depths_are_alike, port_moved, same_place}
use Rattle.subnet_fabric.specs.Planning.{ArePlannedOver}

-- what is found is in the list
found_in : {X : Type 0} (p : X → Bool) (xs : List X) (x : X) → find p xs ≡ Some x → Contains xs x
found_in p [] x is = absurd (none-some x is)
found_in p (y ∷ xs) x is = by (p y) is (λ later. found_in p xs x later)
  where
    by : (b : Bool) → cond b (Some y) (find p xs) ≡ Some x → (find p xs ≡ Some x → Contains xs x) → Contains (y ∷ xs) x
    by true is later = (0, omega arith, same_Some y x is)
    by false is later = let there = later is in let less = there.1 in (suc there.0, omega (arith, less), there.2)

-- ---- what a link of the graph says of the fabric
module _ (fabric : FabricState) (graph : GraphState) (good : IsGood fabric) (layout : IsLayoutOf graph fabric) where
  record HasEnd (node : ℕ) (link : GraphLink) : Type 0 where
    there : PortRef
    far : far_end fabric.cables (port node link.port) ≡ Some there
    port_is : link.to.port ≡ there.port

  end_of : (k node : ℕ) (link : GraphLink) → At fabric graph good layout k node → Contains (get_or graph.rows k []) link → HasEnd node link
  end_of k node link at has =
      let one = of_one (λ number. option_map_or (link_to fabric (nodes_of layout.found) number) (far_end fabric.cables (port node number)) [])
      1 (ports_at fabric node) link (subst (λ (row : List GraphLink). Contains row link) (row_is fabric graph good layout k node at) has) in
      by_far one.number (far_end fabric.cables (port node one.number)) refl one.has
    where
      by_kind : (number : ℕ) (there : PortRef) → far_end fabric.cables (port node number) ≡ Some there → (b : Bool)
          → Contains (if b then record { port = number; to = placed (nodes_of layout.found) there } ∷ [] else []) link → HasEnd node link
      by_kind number there far false has = absurd (none_in link has)
      by_kind number there far true has =
          let is : record { port = number; to = placed (nodes_of layout.found) there } ≡ link =
          one_of (record { port = number; to = placed (nodes_of layout.found) there }) link has in
          record {
            there = there;
            far = ap (λ (one : GraphLink). far_end fabric.cables (port node one.port)) (sym is) ∙ far;
            port_is = ap (λ (one : GraphLink). one.to.port) (sym is);
          }

      by_far : (number : ℕ) (o : Option PortRef) → far_end fabric.cables (port node number) ≡ o
          → Contains (option_map_or (link_to fabric (nodes_of layout.found) number) o []) link → HasEnd node link
      by_far number None far has = absurd (none_in link has)
      by_far number (Some there) far has = by_kind number there far (is_switch_at fabric.nodes there.node) has

  -- the GUID of a switch of the graph is that of its node
  guid_there : (k node : ℕ) → slice_get (nodes_of layout.found) k ≡ Some node → get_or (guids_of graph) k 0 ≡ guid_at fabric node
  guid_there k node there =
      let one = found_there layout.found k node there in
      get_or_from_slice_get (guids_of graph) k (guid_at fabric node) 0
      (slice_get-map (λ (switch : GraphSwitch). switch.guid) graph.switches k
      ∙ ap (λ (switches : List GraphSwitch). option_map (λ (switch : GraphSwitch). switch.guid) (slice_get switches k)) layout.switches
      ∙ ap (option_map (λ (switch : GraphSwitch). switch.guid)) (slice_get-map (switch_of fabric) layout.found k ∙ ap (option_map (switch_of fabric)) one.1)
      ∙ ap (λ (n : ℕ). Some (guid_at fabric n)) one.2)

-- ---- by two layouts
module _ (fabric : FabricState) (good : IsGood fabric) (one other : RoutesState) (roots : List ℕ) (planned : ArePlannedOver fabric roots one)
    (planned_too : ArePlannedOver fabric roots other) where
  pub lids : other.lids ≡ one.lids
  lids =
      same_lids fabric good one.graph other.graph one.lids other.lids planned.laid.layout planned_too.laid.layout planned.assigned planned_too.assigned

  abbrev pub alike : AreAlike (layout_of one.graph one.lids) (layout_of other.graph one.lids)
  alike =
      graphs_of_one_fabric_are_alike fabric one.graph other.graph one.lids good planned.laid.layout planned_too.laid.layout planned.assigned.lids
      (subst (AreLids (end_ports other.graph)) lids planned_too.assigned.lids)

  abbrev pub place : ℕ → ℕ
  place = alike.place

  abbrev pub count : ℕ
  count = length (rows_of one.graph)

  deep : (s : ℕ) → s < count → get_or other.between.depths (place s) 0 ≡ get_or one.between.depths s 0
  deep s low =
      depths_are_alike (layout_of one.graph one.lids) (layout_of other.graph one.lids) roots one.between.depths other.between.depths s alike
      planned.made.depths_are planned_too.made.depths_are low

  port_same : (s : ℕ) → s < count → tree_port other.between.rows other.between.depths (place s) ≡ tree_port one.between.rows one.between.depths s
  port_same s low =
      ap (λ (rows : List (List Link)). tree_port rows other.between.depths (place s)) planned_too.made.rows_are
      ∙ port_moved (layout_of one.graph one.lids) (layout_of other.graph one.lids) alike one.between.depths other.between.depths deep s low
      ∙ sym (ap (λ (rows : List (List Link)). tree_port rows one.between.depths s) planned.made.rows_are)

  below_same : (s t : ℕ) → s < count → t < count
      → is_below other.between.rows other.between.depths (place s) (place t) ≡ is_below one.between.rows one.between.depths s t
  below_same s t sl tl =
      ap (λ (rows : List (List Link)). is_below rows other.between.depths (place s) (place t)) planned_too.made.rows_are
      ∙ below_moved (layout_of one.graph one.lids) (layout_of other.graph one.lids) alike one.between.depths other.between.depths deep s t sl tl
      ∙ sym (ap (λ (rows : List (List Link)). is_below rows one.between.depths s t) planned.made.rows_are)

  child_same : (s t : ℕ) → s < count → t < count → child_towards other (place s) (place t) ≡ option_map place (child_towards one s t)
  child_same s t sl tl =
      ap (λ (rows : List (List Link)). above rows other.between.depths (get_or other.between.depths (place t) 0 - get_or other.between.depths (place s) 0 - 1) (place t))
      planned_too.made.rows_are
      ∙ child_moved (layout_of one.graph one.lids) (layout_of other.graph one.lids) alike one.between.depths other.between.depths deep s t sl tl
      ∙ sym (ap (λ (rows : List (List Link)). option_map place (above rows one.between.depths (get_or one.between.depths t 0 - get_or one.between.depths s 0 - 1) t)) planned.made.rows_are)

  child_within : (s t c : ℕ) → t < count → child_towards one s t ≡ Some c → c < count
  child_within s t c tl is =
      child_low (layout_of one.graph one.lids) (layout_of other.graph one.lids) alike one.between.depths other.between.depths deep s t c tl
      (sym (ap (λ (rows : List (List Link)). above rows one.between.depths (get_or one.between.depths t 0 - get_or one.between.depths s 0 - 1) t) planned.made.rows_are) ∙ is)

  -- ---- the port at the other end of the cable of a tree port
  node_same : (c x y : ℕ) → c < count → At fabric one.graph good planned.laid.layout c x → At fabric other.graph good planned_too.laid.layout (place c) y → y ≡ x
  node_same c x y low at at_too =
      let guid : guid_at fabric y ≡ guid_at fabric x =
      sym (guid_there fabric other.graph good planned_too.laid.layout (place c) y at_too) ∙ alike.to_other.guids c low
      ∙ guid_there fabric one.graph good planned.laid.layout c x at in
      let end = switch_end fabric x (switch_at fabric one.graph good planned.laid.layout c x at) in
      let end_too = subst (EndAt fabric y 0) guid (switch_end fabric y (switch_at fabric other.graph good planned_too.laid.layout (place c) y at_too)) in
      (own_end fabric y x 0 0 (guid_at fabric x) good end_too end).0

  abbrev end_port : Option GraphLink → Option ℕ
  end_port o = option_map (λ at. at.port) (option_map (λ link. link.to) o)

  ends_meet : (c : ℕ) → c < count → option_map (λ at. at.port) (tree_end other (place c)) ≡ option_map (λ at. at.port) (tree_end one c)
  ends_meet c low =
      ap (option_map (λ (at : PortRef). at.port)) (sym (end_is other planned_too.chosen.chosen planned_too.chosen.of (place c)))
      ∙ by (graph_link one c) refl (graph_link other (place c)) refl
      (port_is other planned_too.chosen.chosen planned_too.chosen.of (place c) ∙ port_same c low
      ∙ sym (port_is one planned.chosen.chosen planned.chosen.of c))
      ∙ ap (option_map (λ (at : PortRef). at.port)) (end_is one planned.chosen.chosen planned.chosen.of c)
    where
      low_row : c < length one.graph.rows
      low_row = let long = length-map one.graph.rows row_of in omega (arith, low, long)

      low_too : place c < length other.graph.rows
      low_too = let below = alike.to_other.below c low in let long = length-map other.graph.rows row_of in omega (arith, below, long)

      by : (o : Option GraphLink) → graph_link one c ≡ o → (p : Option GraphLink) → graph_link other (place c) ≡ p
          → option_map (λ link. link.port) p ≡ option_map (λ link. link.port) o → end_port p ≡ end_port o
      by None is None too ports = refl
      by None is (Some link) too ports = absurd (none-some link.port (sym ports))
      by (Some link) is None too ports = absurd (none-some link.port ports)
      by (Some link) is (Some more) too ports =
          let x = less_at fabric one.graph good planned.laid.layout c low_row in
          let y = less_at fabric other.graph good planned_too.laid.layout (place c) low_too in
          let same = node_same c x.0 y.0 low x.1 y.1 in
          let here = end_of fabric one.graph good planned.laid.layout c x.0 link x.1
          (found_in (λ link. get_or one.between.depths link.to.node 0 + 1 == get_or one.between.depths c 0) (get_or one.graph.rows c []) link is) in
          let there = end_of fabric other.graph good planned_too.laid.layout (place c) y.0 more y.1
          (found_in (λ link. get_or other.between.depths link.to.node 0 + 1 == get_or other.between.depths (place c) 0) (get_or other.graph.rows (place c) []) more too) in
          let number : more.port ≡ link.port = same_Some more.port link.port ports in
          let end : there.there ≡ here.there =
          same_Some there.there here.there
          (sym there.far ∙ (λ i. far_end fabric.cables (port (same i) (number i))) ∙ here.far) in
          ap (λ (n : ℕ). Some n) (there.port_is ∙ ap (λ (at : PortRef). at.port) end ∙ sym here.port_is)

  -- ---- towards where a LID is attached
  pub hop_same : (s : ℕ) (home : PortRef) → s < count → home.node < count → tree_hop other (place s) (placed_home place home) ≡ tree_hop one s home
  unfolding tree_hop
  hop_same s home sl hl =
      (λ i. if same_place (layout_of one.graph one.lids) (layout_of other.graph one.lids) alike one.between.depths other.between.depths deep home.node s hl sl i
      then Some home.port
      else if below_same s home.node sl hl i
      then option_map (λ at. at.port) (option_and_then (tree_end other) (child_same s home.node sl hl i))
      else port_same s sl i)
      ∙ by (home.node == s) (is_below one.between.rows one.between.depths s home.node) (child_towards one s home.node) refl
    where
      down : (o : Option ℕ) → child_towards one s home.node ≡ o
          → option_map (λ at. at.port) (option_and_then (tree_end other) (option_map place o)) ≡ option_map (λ at. at.port) (option_and_then (tree_end one) o)
      down None is = refl
      down (Some c) is = ends_meet c (child_within s home.node c hl is)

      by : (here under : Bool) (o : Option ℕ) → child_towards one s home.node ≡ o
          → (if here then Some home.port else if under
          then option_map (λ at. at.port) (option_and_then (tree_end other) (option_map place (child_towards one s home.node)))
          else tree_port one.between.rows one.between.depths s)
          ≡ (if here then Some home.port else if under
          then option_map (λ at. at.port) (option_and_then (tree_end one) (child_towards one s home.node))
          else tree_port one.between.rows one.between.depths s)
      by true under o is = refl
      by false true o is = down (child_towards one s home.node) refl
      by false false o is = refl
