-- The hops of the spanning tree by two graphs of one fabric.
use Rattle.std.proofs.Common.{ℕ, ◌≡◌, ◌+◌, ◌*◌, ◌-◌, ◌≤◌, ◌<◌, ◌==◌, ◌&&◌, ◌∙◌, ap, refl, sym, subst, not, Bool, true, false, if◌then◌else◌, List, [], ◌∷◌, get_or, length, map, slice_get, Option, Some, None, option_map, arith}
use Rattle.std.specs.List.{list_any, range_with_len}
use Rattle.std.specs.Option.{option_and_then, option_map_or}
use Rattle.std.proofs.lemmas.Bool.{eqb-true, false≢true}
use Rattle.std.proofs.lemmas.Option.{none-some, same_Some}
use Rattle.agent_rules.specs.declared.power_up.TheConstants.{MULTICAST_TABLE}
use Rattle.fabric_parts.specs.Cable.{far_end, port}
use Rattle.fabric_parts.specs.declared.cable.PortRef.{PortRef}
use Rattle.fabric_parts.specs.declared.lid.TheConstants.{FIRST_MULTICAST_LID}
use Rattle.lid_assign.specs.Lids.{AreLids, end_ports}
use Rattle.updn_routes.specs.Alike.{AreAlike, layout_of, placed_home}
use Rattle.updn_routes.proofs.AlikeLemmas.{home_low}
use Rattle.updn_routes.proofs.ChoiceLemmas.{home_moved}
use Rattle.updn_routes.proofs.OfFabricLemmas.{graphs_of_one_fabric_are_alike, one_node_moves}
use Rattle.updn_routes.proofs.TreeOrderLemmas.{above_low, below_there, child_there, port_there, same_place}
use Rattle.smp_wire.specs.FabricState.{FabricState, is_switch_at}
use Rattle.smp_wire.specs.Good.{IsGood}
use Rattle.sweep.specs.OfFabric.{Found, nodes_of}
use Rattle.sweep.specs.declared.graph.GraphLink.{GraphLink}
use Rattle.sweep.proofs.FoundLemmas.{among_at, node_there}
use Rattle.sweep.proofs.WholeLemmas.{found_there}
use Rattle.table_push.specs.Masks.{bits_where, is_hop, is_hop_to, is_in_mask, link_at, masks_of, tree_end, tree_hop}
use Rattle.table_push.proofs.TreeCableLemmas.{IsTreeCable, stands_at, tree_cable, within_rows}
use Rattle.updn_routes.specs.Routes.{home_of}
use Rattle.updn_routes.specs.Sides.{above, is_below, parent}
use Rattle.updn_routes.specs.Subnet.{RoutesState, guids_of, homes_of, rows_of}
use Rattle.updn_routes.specs.Tree.{AreDepths, tree_link, tree_port}
use Rattle.updn_routes.specs.declared.link.Link.{Link}
use Rattle.table_push.specs.OrderLaws.{AreRoutesIn}

module _ (fabric : FabricState) (roots : List ℕ) (one other : RoutesState) (good : IsGood fabric) (are : AreRoutesIn fabric roots one)
    (too : AreRoutesIn fabric roots other) (lids : other.lids ≡ one.lids) where
  -- ---- the two graphs
  pub lids_too : AreLids (end_ports other.graph) one.lids
  lids_too = subst (AreLids (end_ports other.graph)) lids too.home.of.lids_are

  abbrev pub alike : AreAlike (layout_of one.graph one.lids) (layout_of other.graph one.lids)
  alike =
      graphs_of_one_fabric_are_alike fabric one.graph other.graph one.lids good are.graph.layout too.graph.layout are.home.of.lids_are lids_too

  abbrev pub place : ℕ → ℕ
  place = alike.place

  abbrev rows : List (List Link)
  rows = rows_of one.graph

  abbrev depths : List ℕ
  depths = one.between.depths

  abbrev depths_too : List ℕ
  depths_too = other.between.depths

  -- ---- one node stands at both places
  pub record BothStand (s : ℕ) : Type 0 where
    pub found : Found
    pub stands : slice_get are.graph.layout.found s ≡ Some found
    pub other_found : Found
    pub stands_too : slice_get too.graph.layout.found (place s) ≡ Some other_found
    pub node : other_found.node ≡ found.node

  right : (routes : RoutesState) → AreRoutesIn fabric roots routes → AreDepths routes.between.rows routes.between.guids roots routes.between.depths
  right routes are =
      subst (λ (guids : List ℕ). AreDepths routes.between.rows guids roots routes.between.depths) (sym are.made.guids_are)
      (subst (λ (rows : List (List Link)). AreDepths rows (guids_of routes.graph) roots routes.between.depths) (sym are.made.rows_are) are.made.depths_are)

  pub both_stand : (s : ℕ) → s < length rows → BothStand s
  both_stand s low =
      let here = stands_at one roots fabric are.home (right one are) good are.graph s
      (subst (λ (some : List (List Link)). s < length some) (sym are.home.of.rows_are) low) in
      let there = node_there are.graph.layout.found s here.0 here.1 in
      let switch : is_switch_at fabric.nodes here.0.node ≡ true =
      sym (are.graph.layout.all here.0.node) ∙ among_at (nodes_of are.graph.layout.found) s here.0.node there in
      let moved = one_node_moves fabric one.graph other.graph one.lids s here.0.node good are.graph.layout too.graph.layout are.home.of.lids_are lids_too there switch in
      let far = found_there too.graph.layout.found (place s) here.0.node moved in
      record { found = here.0; stands = here.1; other_found = far.0; stands_too = far.1; node = far.2 }

  -- ---- at the upper end of a tree port
  abbrev end_port : RoutesState → ℕ → Option ℕ
  end_port routes c = option_map (λ (at : PortRef). at.port) (tree_end routes c)

  -- the tree port of a switch, by its row in the graph
  own_port : (routes : RoutesState) → AreRoutesIn fabric roots routes → (s : ℕ)
      → tree_port routes.between.rows routes.between.depths s ≡ tree_port (rows_of routes.graph) routes.between.depths s
  own_port routes are s = ap (λ (some : List (List Link)). tree_port some routes.between.depths s) are.made.rows_are

  pub same_port : (s : ℕ) → s < length rows → tree_port other.between.rows depths_too (place s) ≡ tree_port one.between.rows depths s
  same_port s low =
      own_port other too (place s)
      ∙ port_there (layout_of one.graph one.lids) (layout_of other.graph one.lids) roots depths depths_too alike are.made.depths_are too.made.depths_are s low
      ∙ sym (own_port one are s)

  -- where there is a tree port it has a cable of the tree
  ends : (routes : RoutesState) → (are : AreRoutesIn fabric roots routes) → (c number : ℕ) (below : Found) → slice_get are.graph.layout.found c ≡ Some below
      → tree_port routes.between.rows routes.between.depths c ≡ Some number
      → (into : ℕ) × (end_port routes c ≡ Some into)
      × ((far : PortRef) × (far_end fabric.cables (port below.node number) ≡ Some far) × (far.port ≡ into))
  ends routes are c number below stands has = by (tree_link routes.between.rows routes.between.depths c) refl has
    where
      by : (o : Option Link) → tree_link routes.between.rows routes.between.depths c ≡ o → option_map (λ (link : Link). link.port) o ≡ Some number
          → (into : ℕ) × (end_port routes c ≡ Some into)
          × ((far : PortRef) × (far_end fabric.cables (port below.node number) ≡ Some far) × (far.port ≡ into))
      by None found number_is = absurd (none-some number number_is)
      by (Some link) found number_is =
          let up : parent routes.between.rows routes.between.depths c ≡ Some link.to = ap (option_map (λ (l : Link). l.to)) found in
          let cable = tree_cable routes roots fabric are.home (right routes are) good are.graph c link.to below stands up in
          let out : cable.out ≡ number = same_Some cable.out number (sym cable.out_is ∙ has) in (
            cable.into,
            cable.into_is,
            (
              port cable.above.node cable.into,
              ap (λ (n : ℕ). far_end fabric.cables (port below.node n)) (sym out) ∙ cable.cable,
              refl,
            ),
          )

  nowhere : (routes : RoutesState) (c : ℕ) → tree_port routes.between.rows routes.between.depths c ≡ None → end_port routes c ≡ None
  nowhere routes c none =
      ap (λ (o : Option ℕ). option_map (λ (at : PortRef). at.port)
      (option_and_then (λ number. option_map (λ (link : GraphLink). link.to) (link_at routes.graph.rows c number)) o)) none

  pub same_end : (c : ℕ) → c < length rows → end_port other (place c) ≡ end_port one c
  same_end c low = by (tree_port one.between.rows depths c) refl
    where
      both : BothStand c
      both = both_stand c low

      by : (o : Option ℕ) → tree_port one.between.rows depths c ≡ o → end_port other (place c) ≡ end_port one c
      by None has = nowhere other (place c) (same_port c low ∙ has) ∙ sym (nowhere one c has)
      by (Some number) has =
          let here = ends one are c number both.found both.stands has in
          let there = ends other too (place c) number both.other_found both.stands_too (same_port c low ∙ has) in
          let far : there.2.0 ≡ here.2.0 =
          same_Some there.2.0 here.2.0
          (sym there.2.1 ∙ ap (λ (n : ℕ). far_end fabric.cables (port n number)) both.node ∙ here.2.1) in
          let into : there.0 ≡ here.0 = sym there.2.2 ∙ ap (λ (p : PortRef). p.port) far ∙ here.2.2 in
          there.1 ∙ ap (λ (n : ℕ). Some n) into ∙ sym here.1

  -- ---- hops
  abbrev below_in : RoutesState → (s t : ℕ) → Bool
  below_in routes s t = is_below routes.between.rows routes.between.depths s t

  own_below : (routes : RoutesState) → AreRoutesIn fabric roots routes → (s t : ℕ) → below_in routes s t ≡ is_below (rows_of routes.graph) routes.between.depths s t
  own_below routes are s t = ap (λ (some : List (List Link)). is_below some routes.between.depths s t) are.made.rows_are

  same_below : (s t : ℕ) → s < length rows → t < length rows → below_in other (place s) (place t) ≡ below_in one s t
  same_below s t sl tl =
      own_below other too (place s) (place t)
      ∙ below_there (layout_of one.graph one.lids) (layout_of other.graph one.lids) roots depths depths_too alike are.made.depths_are too.made.depths_are s t sl tl
      ∙ sym (own_below one are s t)

  abbrev child_in : RoutesState → (s t : ℕ) → Option ℕ
  child_in routes s t =
      above routes.between.rows routes.between.depths (get_or routes.between.depths t 0 - get_or routes.between.depths s 0 - 1) t

  same_child : (s t : ℕ) → s < length rows → t < length rows → child_in other (place s) (place t) ≡ option_map place (child_in one s t)
  same_child s t sl tl =
      ap (λ (some : List (List Link)). above some depths_too (get_or depths_too (place t) 0 - get_or depths_too (place s) 0 - 1) (place t)) too.made.rows_are
      ∙ child_there (layout_of one.graph one.lids) (layout_of other.graph one.lids) roots depths depths_too alike are.made.depths_are too.made.depths_are s t sl tl
      ∙ ap (λ (some : List (List Link)). option_map place (above some depths (get_or depths t 0 - get_or depths s 0 - 1) t)) (sym are.made.rows_are)

  child_low : (s t c : ℕ) → t < length rows → child_in one s t ≡ Some c → c < length rows
  child_low s t c tl is =
      above_low (layout_of one.graph one.lids) (layout_of other.graph one.lids) roots depths depths_too alike are.made.depths_are too.made.depths_are
      (get_or depths t 0 - get_or depths s 0 - 1) t c tl
      (ap (λ (some : List (List Link)). above some depths (get_or depths t 0 - get_or depths s 0 - 1) t) (sym are.made.rows_are) ∙ is)

  abbrev child_end : RoutesState → (s t : ℕ) → Option ℕ
  child_end routes s t = option_map (λ (at : PortRef). at.port) (option_and_then (tree_end routes) (child_in routes s t))

  same_child_end : (s t : ℕ) → s < length rows → t < length rows → child_end other (place s) (place t) ≡ child_end one s t
  same_child_end s t sl tl =
      ap (λ (o : Option ℕ). option_map (λ (at : PortRef). at.port) (option_and_then (tree_end other) o)) (same_child s t sl tl)
      ∙ by (child_in one s t) refl
    where
      by : (o : Option ℕ) → child_in one s t ≡ o
          → option_map (λ (at : PortRef). at.port) (option_and_then (tree_end other) (option_map place o))
          ≡ option_map (λ (at : PortRef). at.port) (option_and_then (tree_end one) o)
      by None is = refl
      by (Some c) is = same_end c (child_low s t c tl is)

  pub same_hop : (s : ℕ) (home : PortRef) → s < length rows → home.node < length rows
      → tree_hop other (place s) (placed_home place home) ≡ tree_hop one s home
  unfolding tree_hop
  same_hop s home sl hl =
      let here = same_place (layout_of one.graph one.lids) (layout_of other.graph one.lids) roots depths depths_too alike are.made.depths_are too.made.depths_are
      home.node s hl sl in
      let below = same_below s home.node sl hl in
      let child = same_child_end s home.node sl hl in
      let up = same_port s sl in
      λ i. if here i then Some home.port else if below i then child i else up i

  -- ---- masks
  own_homes : (routes : RoutesState) → AreRoutesIn fabric roots routes → (lid : ℕ) → home_of routes.between.homes lid ≡ home_of (homes_of routes.graph routes.lids) lid
  own_homes routes are lid = ap (λ (homes : List PortRef). home_of homes lid) are.made.homes_are

  same_home : (lid : ℕ) → home_of other.between.homes lid ≡ option_map (placed_home place) (home_of one.between.homes lid)
  same_home lid =
      own_homes other too lid ∙ ap (λ (some : List ℕ). home_of (homes_of other.graph some) lid) lids
      ∙ home_moved (layout_of one.graph one.lids) (layout_of other.graph one.lids) alike lid
      ∙ ap (option_map (placed_home place)) (sym (own_homes one are lid))

  same_hop_to : (s number lid : ℕ) → s < length rows → is_hop_to other (place s) number lid ≡ is_hop_to one s number lid
  same_hop_to s number lid sl =
      ap (λ (o : Option PortRef). option_map_or (is_hop other (place s) number) o false) (same_home lid)
      ∙ by (home_of one.between.homes lid) refl
    where
      low : (home : PortRef) → home_of one.between.homes lid ≡ Some home → home.node < length rows
      low home is =
          home_low (layout_of one.graph one.lids) (layout_of other.graph one.lids) place alike.one_is alike.to_other lid home (sym (own_homes one are lid) ∙ is)

      by : (o : Option PortRef) → home_of one.between.homes lid ≡ o
          → option_map_or (is_hop other (place s) number) (option_map (placed_home place) o) false ≡ option_map_or (is_hop one s number) o false
      by None is = refl
      by (Some home) is =
          ap (λ (hop : Option ℕ). not (home.port == 0) && option_map_or (λ port. port == number) hop false) (same_hop s home sl (low home is))

  same_in_mask : (receives : ℕ → ℕ → Bool) (s mlid number : ℕ) → s < length rows
      → is_in_mask other receives (place s) mlid number ≡ is_in_mask one receives s mlid number
  unfolding is_in_mask
  same_in_mask receives s mlid number sl =
      λ i. list_any (λ lid. receives mlid lid && same_hop_to s number lid sl i) (range_with_len 1 (length (lids i)))

  pub same_masks : (receives : ℕ → ℕ → Bool) (s : ℕ) → s < length rows → masks_of other receives (place s) ≡ masks_of one receives s
  same_masks receives s sl =
      λ i. map (λ (position : ℕ). map (λ (k : ℕ). bits_where 16 (λ b. same_in_mask receives s (FIRST_MULTICAST_LID + k) (16 * position + b) sl i))
      (range_with_len 0 MULTICAST_TABLE)) (range_with_len 0 3)
