-- An entry that leads to a port of a channel adapter is one for the LID of this port.
use Rattle.std.proofs.Common.{ℕ, ◌≡◌, ◌≤◌, ◌<◌, ◌==◌, ◌∙◌, ap, refl, sym, not, Bool, true, false, if◌then◌else◌, List, [], ◌∷◌, length, slice_get, Option, Some, None, unwrap_or, arith}
use Rattle.std.specs.List.{list_all}
use Rattle.std.specs.Option.{option_map_or}
use Rattle.std.proofs.lemmas.Bool.{and_parts, eqb-true, false≢true, leb-true}
use Rattle.std.proofs.lemmas.Bool.Decides.{nat_tests}
use Rattle.std.proofs.lemmas.Option.{none-some, same_Some}
use Rattle.fabric_parts.specs.Cable.{far_end, port}
use Rattle.fabric_parts.specs.declared.cable.PortRef.{PortRef}
use Rattle.lid_assign.specs.Lids.{lid_in}
use Rattle.lid_assign.proofs.LawLemmas.{lids_and_guids_name_each_other}
use Rattle.smp_wire.specs.Deliveries.{adapter_at}
use Rattle.smp_wire.specs.Forwards.{IsCabledPort, Leads, entry_at}
use Rattle.port_model.specs.AdapterState.{AdapterState}
use Rattle.smp_wire.proofs.CableLemmas.{cabled_is_port}
use Rattle.smp_wire.specs.FabricState.{FabricState, is_switch_at, port_count}
use Rattle.smp_wire.specs.Good.{has_a_right_count}
use Rattle.smp_wire.specs.declared.node.Node.{Node}
use Rattle.smp_wire.specs.declared.node.Node.TheVariants.{Switch, Adapter}
use Rattle.sweep.specs.declared.graph.GraphPort.{GraphPort}
use Rattle.sweep.proofs.LeastLemmas.{in_range}
use Rattle.sweep.proofs.MetLemmas.{good_once}
use Rattle.step_results.proofs.ListLemmas.{all_there}
use Rattle.table_push.proofs.AttachedLemmas.{one_is_attached}
use Rattle.updn_routes.specs.Cabling.{leads}
use Rattle.updn_routes.specs.Choice.{follows, is_route}
use Rattle.updn_routes.specs.Routes.{hop_to, home_of, next_hop, tie_towards}
use Rattle.updn_routes.specs.Subnet.{RoutesState, homes_of, rows_of}
use Rattle.table_push.specs.BroughtUp.{IsBroughtUp, RoutesLeadHome}
use Rattle.table_push.proofs.EntryLemmas.{entry_is}
use Rattle.table_push.proofs.HomeLemmas.{at_home, home_of_port}
use Rattle.table_push.proofs.RowLemmas.{linked, row_within}
use Rattle.table_push.proofs.AttachmentLemmas.{IsAttached, is_no_switch, attached}
use Rattle.smp_wire.proofs.PresentLemmas.{present_right}

-- no node has so many ports that 0xFF is one
pub few_ports : (nodes : List Node) (node number : ℕ) → list_all has_a_right_count nodes ≡ true → number ≤ option_map_or port_count (slice_get nodes node) 0
    → number ≤ 36
few_ports nodes node number right within = by (slice_get nodes node) refl within
  where
    by : (o : Option Node) → slice_get nodes node ≡ o → number ≤ option_map_or port_count o 0 → number ≤ 36
    by None there low = omega (arith, low)
    by (Some (Switch held)) there low =
        let parts = and_parts _ _ (all_there has_a_right_count nodes node (Switch held) right there) in
        omega (arith, low, leb-true (port_count (Switch held)) 36 parts.1)
    by (Some (Adapter ports)) there low =
        let parts = and_parts _ _ (all_there has_a_right_count nodes node (Adapter ports) right there) in
        omega (arith, low, leb-true (port_count (Adapter ports)) 8 parts.1)

-- an entry that is a port is a next hop
some_hop : (hop : Option ℕ) (out : ℕ) → out ≤ 36 → out ≡ unwrap_or hop 255 → hop ≡ Some out
some_hop None out few is = absurd (omega (arith, few, is))
some_hop (Some port) out few is = ap (λ (n : ℕ). Some n) (sym is)

module _ (routes : RoutesState) (keys : List (List ℕ)) (fabric : FabricState) (home : RoutesLeadHome routes) (up : IsBroughtUp routes keys fabric) where
  -- a next hop elsewhere goes to a switch
  pub goes_to_switch : (place lid out d number : ℕ) → place < length (rows_of routes.graph) → (d == place) ≡ false
      → home_of (homes_of routes.graph routes.lids) lid ≡ Some (port d number) → next_hop routes.between place lid ≡ Some out
      → (t : ℕ) × (leads (rows_of routes.graph) place out t ≡ true)
  goes_to_switch place lid out d number within apart at hop =
      let rows = home.of.rows_are in
      let routed = home.routed place lid d number (omega (arith, within, ap length rows)) (ap (λ (homes : List PortRef). home_of homes lid) home.of.homes_are ∙ at) in
      let way = routed.arrives out hop in
      by way.0 way.1.route
    where
      by : (steps : List ℕ) → is_route routes.between.rows (λ t. next_hop routes.between t lid) place steps d ≡ true
          → (t : ℕ) × (leads (rows_of routes.graph) place out t ≡ true)
      by [] route = absurd (clash (eqb-true place d route))
        where
          clash : place ≡ d → ⊥
          clash same = grind (arith, nat_tests, apart, same)
      by (t ∷ steps) route =
          let first = (and_parts (follows routes.between.rows (λ s. next_hop routes.between s lid) place t) _ (and_parts (not (place == d)) _ route).1).0 in (
            t,
            ap (λ (rows : _). leads rows place out t) (sym home.of.rows_are)
                ∙ ap (λ (o : Option ℕ). option_map_or (λ port. leads routes.between.rows place port t) o false) (sym hop) ∙ first,
          )

  pub own_lid : (lid : ℕ) (here at : PortRef) (one : AdapterState) → Leads fabric.nodes fabric.cables lid here at → adapter_at fabric.nodes at ≡ Some one
      → one.info.lid ≡ lid
  own_lid lid here at one leads there =
      let near : PortRef = port here.node leads.out in
      let back = good_once fabric near at up.good leads.cable in
      let cabled : IsCabledPort fabric at one = record { there = there; far = near; cable = back } in
      let attachment = attached fabric routes.graph at one up.good up.graph cabled in
      let entry = entry_is routes keys fabric home up attachment.place lid leads.out attachment.found attachment.there
      (ap (λ (n : ℕ). entry_at fabric.nodes n lid) attachment.node ∙ leads.entry) in
      let range = in_range fabric here.node leads.out (cabled_is_port fabric.nodes fabric.cables near at (present_right up.good) leads.cable) in
      let hop : next_hop routes.between attachment.place lid ≡ Some leads.out =
      some_hop (next_hop routes.between attachment.place lid) leads.out (few_ports fabric.nodes here.node leads.out up.good.counts range.1) entry.is in
      by attachment range.0 (home_of (homes_of routes.graph routes.lids) lid) refl hop
      (ap (λ (homes : List PortRef). hop_to routes.between lid attachment.place (home_of homes lid)) (sym home.of.homes_are) ∙ hop)
    where
      near : PortRef
      near = port here.node leads.out

      at_one : (cabled : IsCabledPort fabric at one) (attachment : IsAttached fabric routes.graph up.graph at near one) (h : PortRef)
          → home_of (homes_of routes.graph routes.lids) lid ≡ Some h → h ≡ port attachment.place leads.out → 1 ≤ leads.out → one.info.lid ≡ lid
      at_one cabled attachment h is same some =
          let named = at_home routes.graph routes.lids lid h is in
          let number : h.port ≡ leads.out = ap (λ (p : PortRef). p.port) same in
          let hung = home_of_port routes.graph named.guid h named.is (grind (arith, nat_tests, some, number)) in
          let whose : hung.one ≡ attachment.hung =
          one_is_attached fabric routes.graph hung.index attachment.index hung.one attachment.hung up.graph hung.there attachment.has (hung.at_is ∙ same ∙ sym attachment.at_is) in
          let guid : named.guid ≡ one.port_guid = sym hung.guid_is ∙ ap (λ (p : GraphPort). p.port_guid) whose ∙ attachment.guid_is in
          let mine : lid_in routes.lids one.port_guid ≡ Some lid =
          ap (lid_in routes.lids) (sym guid) ∙ (lids_and_guids_name_each_other routes.lids named.guid lid home.own_lids).1 named.named in
          same_Some one.info.lid lid (sym (up.lids at one cabled) ∙ mine)

      elsewhere : (attachment : IsAttached fabric routes.graph up.graph at near one) (h : PortRef) → home_of (homes_of routes.graph routes.lids) lid ≡ Some h
          → (h.node == attachment.place) ≡ false → next_hop routes.between attachment.place lid ≡ Some leads.out → one.info.lid ≡ lid
      elsewhere attachment h is apart hop =
          let on = goes_to_switch attachment.place lid leads.out h.node h.port (row_within fabric routes.graph attachment.place attachment.found up.graph attachment.there) apart is hop in
          let link = linked fabric routes.graph attachment.place leads.out on.0 attachment.found up.graph attachment.there on.1 in
          let there_is : link.there ≡ at =
          same_Some link.there at (sym link.cable ∙ ap (λ (n : ℕ). far_end fabric.cables (port n leads.out)) attachment.node ∙ leads.cable) in
          absurd (false≢true (sym (is_no_switch fabric.nodes at one there) ∙ ap (λ (p : PortRef). is_switch_at fabric.nodes p.node) (sym there_is) ∙ link.switch))

      by : (attachment : IsAttached fabric routes.graph up.graph at near one) → 1 ≤ leads.out → (o : Option PortRef) → home_of (homes_of routes.graph routes.lids) lid ≡ o
          → next_hop routes.between attachment.place lid ≡ Some leads.out → hop_to routes.between lid attachment.place o ≡ Some leads.out → one.info.lid ≡ lid
      by attachment some None is hop out = absurd (none-some leads.out out)
      by attachment some (Some h) is hop out = by_node (h.node == attachment.place) refl out
        where
          by_node : (b : Bool) → (h.node == attachment.place) ≡ b → (if b then Some h.port else tie_towards routes.between lid h.node attachment.place) ≡ Some leads.out
              → one.info.lid ≡ lid
          by_node false apart out = elsewhere attachment h is apart hop
          by_node true here_is out =
              let node = eqb-true h.node attachment.place here_is in
              let number = same_Some h.port leads.out out in
              at_one (record { there = there; far = near; cable = good_once fabric near at up.good leads.cable }) attachment h is
              (λ i. record { node = node i; port = number i }) some
