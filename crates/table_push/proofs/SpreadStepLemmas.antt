-- Where the hops of the tree lead in a fabric that is brought up: over cables to switches, or out to the port of a LID.
use Rattle.std.proofs.Common.{ℕ, ◌≡◌, ◌-◌, ◌≤◌, ◌<◌, ◌==◌, ◌∙◌, ap, refl, sym, nat_lt, Bool, true, false, if◌then◌else◌, List, length, slice_get, Option, Some, None, arith}
use Rattle.std.specs.Option.{option_map_or}
use Rattle.std.proofs.lemmas.Bool.{eq-eqb, false≢true, ltb-true}
use Rattle.std.proofs.lemmas.Bool.Decides.{nat_tests}
use Rattle.std.proofs.lemmas.Option.{none-some, same_Some, slice_get_within}
use Rattle.fabric_parts.specs.Cable.{far_end, port}
use Rattle.fabric_parts.specs.declared.cable.PortRef.{PortRef}
use Rattle.lid_assign.specs.Lids.{guid_in, lid_in}
use Rattle.lid_assign.proofs.LawLemmas.{lids_and_guids_name_each_other}
use Rattle.smp_wire.specs.Forwards.{IsCabledPort}
use Rattle.smp_wire.specs.Groups.{is_in_masks_at, is_in_node_masks}
use Rattle.port_model.specs.AdapterState.{AdapterState}
use Rattle.step_results.proofs.ListLemmas.{all_there}
use Rattle.smp_wire.proofs.CableLemmas.{cabled_is_port}
use Rattle.smp_wire.proofs.PresentLemmas.{present_right}
use Rattle.smp_wire.specs.FabricState.{FabricState, is_switch, is_switch_at}
use Rattle.smp_wire.specs.declared.node.Node.{Node}
use Rattle.smp_wire.specs.declared.node.Node.TheVariants.{Switch, Adapter}
use Rattle.sweep.specs.OfFabric.{Found, node_at, nodes_of}
use Rattle.sweep.specs.declared.graph.GraphPort.{GraphPort}
use Rattle.sweep.proofs.FoundLemmas.{among_at, node_there}
use Rattle.sweep.proofs.LeastLemmas.{in_range}
use Rattle.sweep.proofs.ProgressLemmas.{node_of}
use Rattle.table_push.specs.BroughtUp.{IsBroughtUp, RoutesLeadHome}
use Rattle.table_push.specs.Masks.{tree_hop}
use Rattle.table_push.proofs.AttachedLemmas.{is_hung, one_is_attached}
use Rattle.table_push.proofs.HomeLemmas.{at_home, home_at, home_of_port, home_there, port_home}
use Rattle.table_push.proofs.OwnLemmas.{few_ports}
use Rattle.table_push.proofs.AttachmentLemmas.{IsAttached}
use Rattle.table_push.proofs.TreeCableLemmas.{side_cable, within_rows}
use Rattle.table_push.proofs.TreeHopLemmas.{hop_by_side, neighbour_of, parted, side_port}
use Rattle.updn_routes.specs.Routes.{home_of}
use Rattle.updn_routes.specs.Sides.{IsSide, Side, is_behind}
use Rattle.updn_routes.specs.Subnet.{RoutesState, home_in}
use Rattle.updn_routes.specs.Tree.{AreDepths}
use Rattle.updn_routes.specs.declared.link.Link.{Link}

pub lid_range : (lids : List ℕ) (lid guid : ℕ) → guid_in lids lid ≡ Some guid → (1 ≤ lid) × (lid ≤ length lids)
lid_range lids lid guid named = by (lid == 0) refl named
  where
    by : (b : Bool) → (lid == 0) ≡ b → (if b then None else slice_get lids (lid - 1)) ≡ Some guid → (1 ≤ lid) × (lid ≤ length lids)
    by true is named = absurd (none-some guid named)
    by false is named =
        let low : 1 ≤ lid = grind (arith, nat_tests, is) in
        let within = slice_get_within lids (lid - 1) guid named in
        (low, omega (arith, within))

no_bits_by : (o : Option Node) (mlid number : ℕ) → option_map_or is_switch o false ≡ false
    → option_map_or (λ node. is_in_node_masks node mlid number) o false ≡ false
no_bits_by None mlid number is = refl
no_bits_by (Some (Switch held)) mlid number is = absurd (false≢true (sym is))
no_bits_by (Some (Adapter ports)) mlid number is = refl

-- nothing goes on from a node that is no switch
pub no_bits : (nodes : List Node) (mlid : ℕ) (at : PortRef) → is_switch_at nodes at.node ≡ false → is_in_masks_at nodes mlid at ≡ false
no_bits nodes mlid at is = no_bits_by (slice_get nodes at.node) mlid at.port is

module _ (routes : RoutesState) (roots : List ℕ) (keys : List (List ℕ)) (fabric : FabricState) (home : RoutesLeadHome routes) (right : AreDepths routes.between.rows routes.between.guids roots routes.between.depths) (up : IsBroughtUp routes keys fabric) where
  abbrev rows : List (List Link)
  rows = routes.between.rows

  abbrev depths : List ℕ
  depths = routes.between.depths

  abbrev Stands : ℕ → Found → Type 0
  Stands place found = slice_get up.graph.layout.found place ≡ Some found

  -- ---- ports and nodes
  pub out_range : (node number : ℕ) (at : PortRef) → far_end fabric.cables (port node number) ≡ Some at → (1 ≤ number) × (number ≤ 36)
  out_range node number at cable =
      let range = in_range fabric node number (cabled_is_port fabric.nodes fabric.cables (port node number) at (present_right up.good) cable) in
      (range.0, few_ports fabric.nodes node number up.good.counts range.1)

  pub stands_switch : (place : ℕ) (found : Found) → Stands place found → is_switch_at fabric.nodes found.node ≡ true
  stands_switch place found stands =
      sym (up.graph.layout.all found.node)
      ∙ among_at (nodes_of up.graph.layout.found) place found.node (node_there up.graph.layout.found place found stands)

  -- ---- hops to other switches
  pub record GoesBySide (s : ℕ) (at : PortRef) (number : ℕ) : Type 0 where
    pub q : Side
    pub side : IsSide rows depths s q
    pub behind : is_behind rows depths s q at.node ≡ true
    pub port_is : side_port routes s q ≡ Some number

  pub by_side : (s : ℕ) (at : PortRef) (number : ℕ) → s < length rows → at.node < length rows → (at.node == s) ≡ false → tree_hop routes s at ≡ Some number
      → GoesBySide s at number
  by_side s at number less there apart hop =
      let one = (parted routes roots home right s less).some at.node there (λ same. false≢true (sym apart ∙ eq-eqb at.node s same)) in
      record { q = one.0; side = one.1; behind = one.2; port_is = sym (hop_by_side routes roots home right s at less there one.0 one.1 one.2) ∙ hop }

  -- the port of a side faces a switch
  pub faces_switch : (s : ℕ) (found : Found) → Stands s found → (q : Side) (number : ℕ) (at : PortRef) → IsSide rows depths s q
      → side_port routes s q ≡ Some number → far_end fabric.cables (port found.node number) ≡ Some at → is_switch_at fabric.nodes at.node ≡ true
  faces_switch s found stands q number at side is cable =
      let less = within_rows routes roots fabric home right up.good up.graph s found stands in
      let next = neighbour_of routes roots home right s less q side in
      let one = side_cable routes roots fabric home right up.good up.graph s q next.far found stands side next.is in
      let out : one.out ≡ number = same_Some one.out number (sym one.out_is ∙ is) in
      let far : port one.there.node one.into ≡ at =
      same_Some (port one.there.node one.into) at (sym one.cable ∙ ap (λ (n : ℕ). far_end fabric.cables (port found.node n)) out ∙ cable) in
      ap (λ (p : PortRef). is_switch_at fabric.nodes p.node) (sym far) ∙ stands_switch next.far one.there one.stands

  -- ---- homes
  pub home_within : (lid : ℕ) (at : PortRef) → home_of routes.between.homes lid ≡ Some at → at.node < length rows
  home_within lid at is =
      ltb-true at.node (length rows)
      (all_there (λ (one : PortRef). nat_lt one.node (length rows)) routes.between.homes (lid - 1) at home.chosen.hang
      (home_there routes.between.homes lid at is))

  pub named : (at : PortRef) (one : AdapterState) → IsCabledPort fabric at one → guid_in routes.lids one.info.lid ≡ Some one.port_guid
  named at one cabled = (lids_and_guids_name_each_other routes.lids one.port_guid one.info.lid home.own_lids).0 (up.lids at one cabled)

  -- the LID of a port of a channel adapter is attached where its cable leads
  pub port_attached : (at back : PortRef) (one : AdapterState) → IsCabledPort fabric at one → (attachment : IsAttached fabric routes.graph up.graph at back one)
      → home_of routes.between.homes one.info.lid ≡ Some (port attachment.place back.port)
  port_attached at back one cabled attachment =
      ap (λ (homes : List PortRef). home_of homes one.info.lid) home.of.homes_are
      ∙ home_at routes.graph routes.lids one.info.lid one.port_guid (named at one cabled)
      ∙ ap (λ (guid : ℕ). Some (home_in routes.graph guid)) (sym attachment.guid_is)
      ∙ ap (λ (p : PortRef). Some p) (port_home routes.graph attachment.index attachment.hung home.graph attachment.has ∙ attachment.at_is)

  -- and no other LID is attached there
  pub one_attached : (at back : PortRef) (one : AdapterState) → IsCabledPort fabric at one → (attachment : IsAttached fabric routes.graph up.graph at back one)
      → (lid : ℕ) (h : PortRef) → home_of routes.between.homes lid ≡ Some h → h ≡ port attachment.place back.port → (h.port == 0) ≡ false
      → one.info.lid ≡ lid
  one_attached at back one cabled attachment lid h is same some =
      let whose = at_home routes.graph routes.lids lid h (ap (λ (homes : List PortRef). home_of homes lid) (sym home.of.homes_are) ∙ is) in
      let hung = home_of_port routes.graph whose.guid h whose.is some in
      let who : hung.one ≡ attachment.hung =
      one_is_attached fabric routes.graph hung.index attachment.index hung.one attachment.hung up.graph hung.there attachment.has (hung.at_is ∙ same ∙ sym attachment.at_is) in
      let guid : whose.guid ≡ one.port_guid = sym hung.guid_is ∙ ap (λ (p : GraphPort). p.port_guid) who ∙ attachment.guid_is in
      let mine : lid_in routes.lids one.port_guid ≡ Some lid =
      ap (lid_in routes.lids) (sym guid) ∙ (lids_and_guids_name_each_other routes.lids whose.guid lid home.own_lids).1 whose.named in
      same_Some one.info.lid lid (sym (up.lids at one cabled) ∙ mine)

  -- a port at which a LID is attached faces no switch
  pub faces_no_switch : (s : ℕ) (found : Found) → Stands s found → (lid : ℕ) (h at : PortRef) → home_of routes.between.homes lid ≡ Some h
      → (h.port == 0) ≡ false → h.node ≡ s → far_end fabric.cables (port found.node h.port) ≡ Some at → is_switch_at fabric.nodes at.node ≡ false
  faces_no_switch s found stands lid h at is some here cable =
      let whose = at_home routes.graph routes.lids lid h (ap (λ (homes : List PortRef). home_of homes lid) (sym home.of.homes_are) ∙ is) in
      let hung = home_of_port routes.graph whose.guid h whose.is some in
      let faces = is_hung fabric routes.graph hung.index hung.one up.graph hung.there in
      let node : node_at up.graph.layout.found hung.one.at.node ≡ found.node =
      ap (λ (p : PortRef). node_at up.graph.layout.found p.node) hung.at_is ∙ ap (node_at up.graph.layout.found) here
      ∙ node_of up.graph.layout.found s found stands in
      let number : hung.one.at.port ≡ h.port = ap (λ (p : PortRef). p.port) hung.at_is in
      let same : faces.there ≡ at =
      same_Some faces.there at (sym faces.cable ∙ (λ i. far_end fabric.cables (port (node i) (number i))) ∙ cable) in
      ap (λ (p : PortRef). is_switch_at fabric.nodes p.node) (sym same) ∙ faces.adapter
