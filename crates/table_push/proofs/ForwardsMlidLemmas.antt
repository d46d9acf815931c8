-- All of what packets to groups ask of masks.
use Rattle.std.proofs.Common.{ℕ, ◌≡◌, ◌≢◌, ◌≤◌, ◌==◌, ◌∙◌, ap, refl, sym, Bool, true, false, List, slice_get, Option, Some, arith}
use Rattle.std.specs.Option.{option_map_or}
use Rattle.std.proofs.lemmas.Bool.{eqb-true, false≢true}
use Rattle.std.proofs.lemmas.Bool.Decides.{nat_tests}
use Rattle.std.proofs.lemmas.Option.{same_Some}
use Rattle.fabric_parts.specs.Cable.{far_end, port}
use Rattle.fabric_parts.specs.Lid.{is_multicast}
use Rattle.fabric_parts.specs.declared.cable.PortRef.{PortRef}
use Rattle.smp_wire.specs.Deliveries.{adapter_at}
use Rattle.smp_wire.specs.Forwards.{IsCabledPort}
use Rattle.smp_wire.specs.Groups.{GoesByMasks, is_in_masks_at}
use Rattle.port_model.specs.AdapterState.{AdapterState}
use Rattle.smp_wire.specs.FabricState.{FabricState}
use Rattle.sweep.proofs.MetLemmas.{good_once}
use Rattle.table_push.specs.BroughtUp.{IsBroughtUp, RoutesLeadHome}
use Rattle.table_push.specs.BroughtUpLaws.{AreOfGroups, BroughtUpForwardsByMlid, by_guid}
use Rattle.table_push.specs.Laws.{HasMasksOf}
use Rattle.table_push.specs.Masks.{tree_hop}
use Rattle.table_push.proofs.ReachLemmas.{same_answers}
use Rattle.table_push.proofs.ForwardsLemmas.{brought_up_forwards_by_lid}
use Rattle.table_push.proofs.MaskHopLemmas.{IsReached, bit_is_set, bit_reaches, in_mask}
use Rattle.table_push.proofs.AttachmentLemmas.{IsAttached, is_no_switch, attached}
use Rattle.table_push.proofs.SpreadAwayLemmas.{away_there}
use Rattle.table_push.proofs.SpreadLeadLemmas.{IsEnd, leads_there}
use Rattle.table_push.proofs.SpreadStepLemmas.{by_side, faces_switch, home_within, lid_range, named, one_attached, out_range, port_attached}
use Rattle.table_push.proofs.TreeCableLemmas.{within_rows}
use Rattle.table_push.proofs.TreeHopLemmas.{hop_home}
use Rattle.updn_routes.specs.Subnet.{RoutesState}
use Rattle.updn_routes.specs.Tree.{AreDepths}

module _ (routes : RoutesState) (roots : List ℕ) (keys : List (List ℕ)) (fabric : FabricState) (receives : ℕ → ℕ → Bool) (home : RoutesLeadHome routes) (right : AreDepths routes.between.rows routes.between.guids roots routes.between.depths) (up : IsBroughtUp routes keys fabric) (has : HasMasksOf routes receives fabric) (groups : AreOfGroups receives) where
  -- a test of GUIDs is one of their LIDs
  by_lid : (mlid : ℕ) (at : PortRef) (one : AdapterState) → IsCabledPort fabric at one
      → by_guid routes.lids receives mlid one.port_guid ≡ receives mlid one.info.lid
  by_lid mlid at one cabled = ap (λ (o : Option ℕ). option_map_or (receives mlid) o false) (up.lids at one cabled)

  -- ---- the bit of a port that faces one
  own_bit : (mlid : ℕ) (here at : PortRef) (one : AdapterState) → is_multicast mlid ≡ true → far_end fabric.cables here ≡ Some at
      → adapter_at fabric.nodes at ≡ Some one → is_in_masks_at fabric.nodes mlid here ≡ by_guid routes.lids receives mlid one.port_guid
  own_bit mlid here at one multi cable there =
      same_answers (is_in_masks_at fabric.nodes mlid here) (receives mlid one.info.lid) (λ set. receives_it (reach set)) sets ∙ sym (by_lid mlid at one cabled)
    where
      cabled : IsCabledPort fabric at one
      cabled = record { there = there; far = here; cable = good_once fabric here at up.good cable }

      attachment : IsAttached fabric routes.graph up.graph at here one
      attachment = attached fabric routes.graph at one up.good up.graph cabled

      near : far_end fabric.cables (port attachment.found.node here.port) ≡ Some at
      near = ap (λ (n : ℕ). far_end fabric.cables (port n here.port)) attachment.node ∙ cable

      range : (1 ≤ here.port) × (here.port ≤ 36)
      range = out_range routes roots keys fabric home right up here.node here.port at cable

      some : (here.port == 0) ≡ false
      some = let low = range.0 in grind (arith, nat_tests, low)

      at_it : is_in_masks_at fabric.nodes mlid (port attachment.found.node here.port) ≡ is_in_masks_at fabric.nodes mlid here
      at_it = ap (λ (n : ℕ). is_in_masks_at fabric.nodes mlid (port n here.port)) attachment.node

      reach : is_in_masks_at fabric.nodes mlid here ≡ true → IsReached routes receives attachment.place mlid here.port
      reach set = bit_reaches routes fabric home.graph up.graph receives has attachment.place attachment.found attachment.there mlid here.port (at_it ∙ set)

      receives_it : IsReached routes receives attachment.place mlid here.port → receives mlid one.info.lid ≡ true
      receives_it one_lid = by (one_lid.home.node == attachment.place) refl
        where
          by : (b : Bool) → (one_lid.home.node == attachment.place) ≡ b → receives mlid one.info.lid ≡ true
          by true is =
              let node = eqb-true one_lid.home.node attachment.place is in
              let number : one_lid.home.port ≡ here.port =
              same_Some one_lid.home.port here.port (sym (hop_home routes roots home right attachment.place one_lid.home node) ∙ one_lid.hop) in
              let same = one_attached routes roots keys fabric home right up at here one cabled attachment one_lid.lid one_lid.home one_lid.home_is
              (λ i. record { node = node i; port = number i }) one_lid.some in
              ap (receives mlid) same ∙ one_lid.member
          by false apart =
              let less = within_rows routes roots fabric home right up.good up.graph attachment.place attachment.found attachment.there in
              let beside = by_side routes roots keys fabric home right up attachment.place one_lid.home here.port less
              (home_within routes roots keys fabric home right up one_lid.lid one_lid.home one_lid.home_is) apart one_lid.hop in
              absurd (false≢true (sym (is_no_switch fabric.nodes at one there)
              ∙ faces_switch routes roots keys fabric home right up attachment.place attachment.found attachment.there beside.q here.port at beside.side beside.port_is near))

      sets : receives mlid one.info.lid ≡ true → is_in_masks_at fabric.nodes mlid here ≡ true
      sets member =
          let few = groups mlid one.info.lid member in
          let among = lid_range routes.lids one.info.lid one.port_guid (named routes roots keys fabric home right up at one cabled) in
          sym at_it ∙ bit_is_set routes fabric home.graph up.graph receives has attachment.place attachment.found attachment.there mlid here.port range.1
          (record { multicast = few.0; within = few.1 })
          (in_mask routes receives attachment.place mlid here.port one.info.lid (port attachment.place here.port) among.0 among.1 member
          (port_attached routes roots keys fabric home right up at here one cabled attachment) some
          (hop_home routes roots home right attachment.place (port attachment.place here.port) refl))

  -- ---- to each other one that receives
  lead_bits : (mlid : ℕ) (from at : PortRef) (sender one : AdapterState) (begin : IsCabledPort fabric from sender)
      → IsCabledPort fabric at one → from ≢ at → by_guid routes.lids receives mlid one.port_guid ≡ true → is_multicast mlid ≡ true
      → (way : List PortRef) × GoesByMasks fabric.nodes fabric.cables mlid begin.far way at
  lead_bits mlid from at sender one begin end apart member multi =
      leads_there routes roots keys fabric receives home right up has mlid there at is_end first.place first.found begin.far first.there first.node not_by_own
    where
      first : IsAttached fabric routes.graph up.graph from begin.far sender
      first = attached fabric routes.graph from sender up.good up.graph begin

      last : IsAttached fabric routes.graph up.graph at end.far one
      last = attached fabric routes.graph at one up.good up.graph end

      there : PortRef
      there = port last.place end.far.port

      cable : far_end fabric.cables (port last.found.node end.far.port) ≡ Some at
      cable = ap (λ (n : ℕ). far_end fabric.cables (port n end.far.port)) last.node ∙ last.home

      begins : far_end fabric.cables (port first.found.node begin.far.port) ≡ Some from
      begins = ap (λ (n : ℕ). far_end fabric.cables (port n begin.far.port)) first.node ∙ first.home

      is_end : IsEnd routes roots keys fabric receives home right up has mlid there at
      is_end =
          let it = sym (by_lid mlid at one end) ∙ member in
          let few = groups mlid one.info.lid it in
          let among = lid_range routes.lids one.info.lid one.port_guid (named routes roots keys fabric home right up at one end) in
          let low = (out_range routes roots keys fabric home right up last.found.node end.far.port at cable).0 in
          record {
            bits = record { multicast = few.0; within = few.1 };
            lid = one.info.lid;
            low = among.0;
            high = among.1;
            member = it;
            attached = port_attached routes roots keys fabric home right up at end.far one end last;
            some = grind (arith, nat_tests, low);
            last = last.found;
            stands = last.there;
            cable = cable;
            off = is_no_switch fabric.nodes at one end.there;
          }

      not_by_own : tree_hop routes first.place there ≡ Some begin.far.port → ⊥
      not_by_own hop = by (last.place == first.place) refl
        where
          by : (b : Bool) → (last.place == first.place) ≡ b → ⊥
          by true is =
              let place = eqb-true last.place first.place is in
              let number : end.far.port ≡ begin.far.port =
              same_Some end.far.port begin.far.port (sym (hop_home routes roots home right first.place there place) ∙ hop) in
              let found : last.found ≡ first.found =
              same_Some last.found first.found (sym last.there ∙ ap (slice_get up.graph.layout.found) place ∙ first.there) in
              apart (same_Some from at (sym begins ∙ (λ i. far_end fabric.cables (port (sym found i).node (sym number i))) ∙ cable))
          by false other =
              let less = within_rows routes roots fabric home right up.good up.graph first.place first.found first.there in
              let last_less = within_rows routes roots fabric home right up.good up.graph last.place last.found last.there in
              let beside = by_side routes roots keys fabric home right up first.place there begin.far.port less last_less other hop in
              false≢true (sym (is_no_switch fabric.nodes from sender begin.there)
              ∙ faces_switch routes roots keys fabric home right up first.place first.found first.there beside.q begin.far.port from beside.side beside.port_is begins)

pub brought_up_forwards_by_mlid : BroughtUpForwardsByMlid
brought_up_forwards_by_mlid routes roots keys fabric receives home right all up has groups = record {
  free = (brought_up_forwards_by_lid routes keys fabric home all up).free;
  own = own_bit routes roots keys fabric receives home right up has groups;
  lead = lead_bits routes roots keys fabric receives home right up has groups;
  away = away_there routes roots keys fabric receives home right up has;
}
