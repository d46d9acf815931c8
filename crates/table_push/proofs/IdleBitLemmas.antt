-- No bit of a fabric that is brought up is set in vain.
use Rattle.std.proofs.Common.{ℕ, ◌≡◌, ◌≤◌, ◌<◌, ◌==◌, ◌∙◌, ap, refl, sym, Bool, true, false, if◌then◌else◌, List, [], ◌∷◌, length, slice_get, Option, Some, None, option_map, arith}
use Rattle.std.specs.Option.{option_and_then, option_map_or}
use Rattle.std.proofs.lemmas.Bool.{eq-eqb, eqb-true, false≢true}
use Rattle.std.proofs.lemmas.Option.{none-some, same_Some}
use Rattle.fabric_parts.specs.Cable.{far_end, port}
use Rattle.fabric_parts.specs.declared.cable.PortRef.{PortRef}
use Rattle.fabric_parts.specs.declared.node_type.NodeType.TheVariants as node_type
use Rattle.lid_assign.specs.Lids.{lid_in}
use Rattle.lid_assign.proofs.LawLemmas.{lids_and_guids_name_each_other}
use Rattle.smp_wire.specs.Deliveries.{adapter_at, adapter_ports}
use Rattle.smp_wire.specs.Forwards.{IsCabledPort}
use Rattle.smp_wire.specs.Groups.{GoesByMasks, LeadsToReceiver, is_in_masks_at}
use Rattle.port_model.specs.AdapterState.{AdapterState}
use Rattle.smp_wire.specs.FabricState.{FabricState, adapter_port, is_switch, is_switch_at}
use Rattle.smp_wire.specs.Good.{node_guid}
use Rattle.smp_wire.specs.declared.node.Node.{Node}
use Rattle.smp_wire.specs.declared.node.Node.TheVariants.{Switch, Adapter}
use Rattle.sweep.specs.OfFabric.{Found, guid_at, node_at, nodes_of}
use Rattle.sweep.specs.Seen.{seen_at, seen_in}
use Rattle.sweep.specs.declared.graph.GraphPort.{GraphPort}
use Rattle.sweep.specs.declared.seen.Seen.{Seen}
use Rattle.sweep.proofs.FoundLemmas.{among_place}
use Rattle.sweep.proofs.MetLemmas.{good_once}
use Rattle.sweep.proofs.ProgressLemmas.{node_of}
use Rattle.sweep.proofs.WholeLemmas.{found_there}
use Rattle.table_push.specs.BroughtUp.{IsBroughtUp, RoutesLeadHome}
use Rattle.table_push.specs.BroughtUpLaws.{BroughtUpHasNoIdleBits, by_guid}
use Rattle.table_push.specs.Laws.{HasMasksOf}
use Rattle.table_push.specs.Masks.{tree_hop}
use Rattle.table_push.proofs.AttachedLemmas.{IsHung, is_hung}
use Rattle.table_push.proofs.HomeLemmas.{IsHome, IsPortHome, at_home, home_of_port}
use Rattle.table_push.proofs.MaskHopLemmas.{IsReached, bit_reaches, bits_at}
use Rattle.table_push.proofs.SpreadLeadLemmas.{IsEnd, Step, leads_there, step}
use Rattle.table_push.proofs.SpreadStepLemmas.{GoesBySide, by_side, home_within, lid_range, no_bits, out_range}
use Rattle.table_push.proofs.TreeCableLemmas.{side_cable, stands_at, within_rows}
use Rattle.table_push.proofs.TreeHopLemmas.{HasNeighbour, hop_home, neighbour_of}
use Rattle.updn_routes.specs.Routes.{home_of}
use Rattle.updn_routes.specs.Subnet.{RoutesState}
use Rattle.updn_routes.specs.Tree.{AreDepths}

-- ---- what is seen at a node that is no switch is a port of a channel adapter
pub record IsSeenPort (fabric : FabricState) (at : PortRef) (seen : Seen) : Type 0 where
  pub one : AdapterState
  pub there : adapter_at fabric.nodes at ≡ Some one
  pub guid : one.port_guid ≡ seen.port_guid
  pub node : seen.node_guid ≡ guid_at fabric at.node
  pub number : seen.local_port_num ≡ at.port

pub seen_port : (fabric : FabricState) (at : PortRef) (seen : Seen) → is_switch_at fabric.nodes at.node ≡ false → seen_at fabric at ≡ Some seen
    → IsSeenPort fabric at seen
seen_port fabric at seen off is = by (slice_get fabric.nodes at.node) refl off is
  where
    by_port : (ports : List AdapterState) → slice_get fabric.nodes at.node ≡ Some (Adapter ports) → (o : Option AdapterState) → adapter_port ports at.port ≡ o
        → seen_in (Adapter ports) at.port ≡ Some seen → IsSeenPort fabric at seen
    by_port ports stands None port is =
        let made : seen_in (Adapter ports) at.port ≡ None = rw port refl in absurd (none-some seen (sym made ∙ is))
    by_port ports stands (Some one) port is =
        let shown : Seen = record {
          node_type = node_type.ChannelAdapter;
          num_ports = length ports;
          node_guid = node_guid (Adapter ports);
          port_guid = one.port_guid;
          local_port_num = at.port;
        } in
        let made : seen_in (Adapter ports) at.port ≡ Some shown = rw port refl in
        let same : shown ≡ seen = same_Some shown seen (sym made ∙ is) in
        record {
          one = one;
          there = ap (option_and_then (λ (node : Node). adapter_port (adapter_ports node) at.port)) stands ∙ port;
          guid = ap (λ (s : Seen). s.port_guid) same;
          node = sym (ap (λ (s : Seen). s.node_guid) same) ∙ sym (ap (λ (o : Option Node). option_map_or node_guid o 0) stands);
          number = sym (ap (λ (s : Seen). s.local_port_num) same);
        }

    by : (o : Option Node) → slice_get fabric.nodes at.node ≡ o → option_map_or is_switch o false ≡ false → option_and_then (λ node. seen_in node at.port) o ≡ Some seen
        → IsSeenPort fabric at seen
    by None stands off is = absurd (none-some seen is)
    by (Some (Switch held)) stands off is = absurd (false≢true (sym off))
    by (Some (Adapter ports)) stands off is = by_port ports stands (adapter_port ports at.port) refl is

module _ (routes : RoutesState) (roots : List ℕ) (keys : List (List ℕ)) (fabric : FabricState) (receives : ℕ → ℕ → Bool) (home : RoutesLeadHome routes) (right : AreDepths routes.between.rows routes.between.guids roots routes.between.depths) (up : IsBroughtUp routes keys fabric) (has : HasMasksOf routes receives fabric) where
  abbrev Stands : ℕ → Found → Type 0
  Stands place found = slice_get up.graph.layout.found place ≡ Some found

  -- ---- the switch of a bit
  record HasPlace (here : PortRef) : Type 0 where
    place : ℕ
    found : Found
    stands : Stands place found
    node : found.node ≡ here.node

  place_of_bit : (mlid : ℕ) (here : PortRef) → is_in_masks_at fabric.nodes mlid here ≡ true → HasPlace here
  place_of_bit mlid here set =
      let place = among_place (nodes_of up.graph.layout.found) here.node (up.graph.layout.all here.node ∙ switch (is_switch_at fabric.nodes here.node) refl) in
      let found = found_there up.graph.layout.found place.0 here.node place.1 in
      record { place = place.0; found = found.0; stands = found.1; node = found.2 }
    where
      switch : (b : Bool) → is_switch_at fabric.nodes here.node ≡ b → b ≡ true
      switch true is = refl
      switch false is = absurd (false≢true (sym (no_bits fabric.nodes mlid here is) ∙ set))

  -- ---- the port that receives
  -- where its LID is attached a cable leads to it
  record HasReceiver (mlid lid : ℕ) (t : PortRef) : Type 0 where
    at : PortRef
    one : AdapterState
    cabled : IsCabledPort fabric at one
    member : by_guid routes.lids receives mlid one.port_guid ≡ true
    low_high : (1 ≤ lid) × (lid ≤ length routes.lids)
    last : Found
    stands : Stands t.node last
    cable : far_end fabric.cables (port last.node t.port) ≡ Some at
    off : is_switch_at fabric.nodes at.node ≡ false

  receiver_of : (mlid lid : ℕ) (t : PortRef) → receives mlid lid ≡ true → home_of routes.between.homes lid ≡ Some t → (t.port == 0) ≡ false
      → HasReceiver mlid lid t
  receiver_of mlid lid t member is some =
      record {
        at = faces.there;
        one = seen.one;
        cabled = record {
          there = seen.there;
          far = port last.0.node t.port;
          cable = good_once fabric (port last.0.node t.port) faces.there up.good cable;
        };
        member = ap (λ (o : Option ℕ). option_map_or (receives mlid) o false) named ∙ member;
        low_high = lid_range routes.lids lid whose.guid whose.named;
        last = last.0;
        stands = last.1;
        cable = cable;
        off = faces.adapter;
      }
    where
      whose : IsHome routes.graph routes.lids lid t
      whose = at_home routes.graph routes.lids lid t (ap (λ (homes : List PortRef). home_of homes lid) (sym home.of.homes_are) ∙ is)

      hung : IsPortHome routes.graph whose.guid t
      hung = home_of_port routes.graph whose.guid t whose.is some

      faces : IsHung fabric up.graph.layout.found hung.one
      faces = is_hung fabric routes.graph hung.index hung.one up.graph hung.there

      seen : IsSeenPort fabric faces.there faces.seen
      seen = seen_port fabric faces.there faces.seen faces.adapter faces.seen_is

      last : (found : Found) × Stands t.node found
      last = stands_at routes roots fabric home right up.good up.graph t.node
          (home_within routes roots keys fabric home right up lid t is)

      named : lid_in routes.lids seen.one.port_guid ≡ Some lid
      named =
          ap (lid_in routes.lids) (seen.guid ∙ faces.guid_is ∙ hung.guid_is)
          ∙ (lids_and_guids_name_each_other routes.lids whose.guid lid home.own_lids).1 whose.named

      cable : far_end fabric.cables (port last.0.node t.port) ≡ Some faces.there
      cable =
          let node : node_at up.graph.layout.found hung.one.at.node ≡ last.0.node =
          ap (λ (p : PortRef). node_at up.graph.layout.found p.node) hung.at_is ∙ node_of up.graph.layout.found t.node last.0 last.1 in
          let number : hung.one.at.port ≡ t.port = ap (λ (p : PortRef). p.port) hung.at_is in
          (λ i. far_end fabric.cables (port (sym node i) (sym number i))) ∙ faces.cable

  -- ---- the way there
  module _ (mlid : ℕ) (here : PortRef) (set : is_in_masks_at fabric.nodes mlid here ≡ true) where
    at_place : HasPlace here
    at_place = place_of_bit mlid here set

    set_there : is_in_masks_at fabric.nodes mlid (port at_place.found.node here.port) ≡ true
    set_there = ap (λ (n : ℕ). is_in_masks_at fabric.nodes mlid (port n here.port)) at_place.node ∙ set

    reach : IsReached routes receives at_place.place mlid here.port
    reach = bit_reaches routes fabric home.graph up.graph receives has at_place.place at_place.found at_place.stands mlid here.port set_there

    receiver : HasReceiver mlid reach.lid reach.home
    receiver = receiver_of mlid reach.lid reach.home reach.member reach.home_is reach.some

    end : IsEnd routes roots keys fabric receives home right up has mlid reach.home receiver.at
    end = record {
      bits = bits_at routes fabric home.graph up.graph receives has at_place.place at_place.found at_place.stands mlid here.port set_there;
      lid = reach.lid;
      low = receiver.low_high.0;
      high = receiver.low_high.1;
      member = reach.member;
      attached = reach.home_is;
      some = reach.some;
      last = receiver.last;
      stands = receiver.stands;
      cable = receiver.cable;
      off = receiver.off;
    }

    abbrev Leads : Type 0
    Leads = LeadsToReceiver fabric (by_guid routes.lids receives) mlid here

    -- out to it
    at_once : reach.home.node ≡ at_place.place → Leads
    at_once node =
        let number : reach.home.port ≡ here.port =
        same_Some reach.home.port here.port (sym (hop_home routes roots home right at_place.place reach.home node) ∙ reach.hop) in
        let last : receiver.last ≡ at_place.found =
        same_Some receiver.last at_place.found (sym receiver.stands ∙ ap (slice_get up.graph.layout.found) node ∙ at_place.stands) in
        record {
          next = receiver.at;
          cable = (λ i. far_end fabric.cables (port (sym at_place.node i) here.port))
              ∙ (λ i. far_end fabric.cables (port (sym last i).node (sym number i))) ∙ receiver.cable;
          at = receiver.at;
          way = [];
          goes = refl;
          port = receiver.one;
          cabled = receiver.cabled;
          member = receiver.member;
        }

    -- or to a switch, as if it had come in by port 0, which has no cable
    onward : (reach.home.node == at_place.place) ≡ false → Leads
    onward apart = record {
      next = on.next;
      cable = (λ i. far_end fabric.cables (port (sym at_place.node i) (sym number i))) ∙ on.cable;
      at = receiver.at;
      way = rest.0;
      goes = rest.1;
      port = receiver.one;
      cabled = receiver.cabled;
      member = receiver.member;
    }
      where
        less : at_place.place < length routes.between.rows
        less = within_rows routes roots fabric home right up.good up.graph at_place.place at_place.found at_place.stands

        one : GoesBySide routes roots keys fabric home right up at_place.place reach.home here.port
        one =
            by_side routes roots keys fabric home right up at_place.place reach.home here.port less
            (home_within routes roots keys fabric home right up reach.lid reach.home reach.home_is) apart reach.hop

        beside : HasNeighbour routes roots home right at_place.place one.q
        beside = neighbour_of routes roots home right at_place.place less one.q one.side

        from_inside : tree_hop routes at_place.place reach.home ≡ Some 0 → ⊥
        from_inside hop =
            let side = side_cable routes roots fabric home right up.good up.graph at_place.place one.q beside.far at_place.found at_place.stands one.side beside.is in
            let first : here.port ≡ 0 = same_Some here.port 0 (sym reach.hop ∙ hop) in
            let out : side.out ≡ here.port = same_Some side.out here.port (sym side.out_is ∙ one.port_is) in
            let low = (out_range routes roots keys fabric home right up at_place.found.node side.out (port side.there.node side.into) side.cable).0 in
            omega (arith, first, out, low)

        on : Step routes roots keys fabric receives home right up has mlid reach.home at_place.place at_place.found (port at_place.found.node 0) beside.far
        on =
            step routes roots keys fabric receives home right up has mlid reach.home receiver.at end at_place.place at_place.found (port at_place.found.node 0)
            at_place.stands refl from_inside one.q one.side one.behind beside.far beside.is

        number : on.number ≡ here.port
        number = same_Some on.number here.port (sym on.hop ∙ reach.hop)

        rest : (way : List PortRef) × GoesByMasks fabric.nodes fabric.cables mlid on.next way receiver.at
        rest =
            leads_there routes roots keys fabric receives home right up has mlid reach.home receiver.at end beside.far on.there on.next on.stands on.node on.away

    leads : Leads
    leads = by (reach.home.node == at_place.place) refl
      where
        by : (b : Bool) → (reach.home.node == at_place.place) ≡ b → Leads
        by true is = at_once (eqb-true reach.home.node at_place.place is)
        by false apart = onward apart

pub brought_up_has_no_idle_bits : BroughtUpHasNoIdleBits
brought_up_has_no_idle_bits routes roots keys fabric receives home right up has mlid here set =
    leads routes roots keys fabric receives home right up has mlid here set
