-- Along the spanning tree the bits of masks never lead back to the port that sends.
use Rattle.std.proofs.Common.{ℕ, ◌≡◌, ◌⊎◌, inl, inr, ◌<◌, ◌==◌, ◌∙◌, ap, refl, sym, Bool, true, false, List, [], ◌∷◌, length, slice_get, Some}
use Rattle.std.proofs.lemmas.Bool.{eqb-true, false≢true}
use Rattle.std.proofs.lemmas.Option.{same_Some}
use Rattle.fabric_parts.specs.Cable.{far_end, port}
use Rattle.fabric_parts.specs.declared.cable.PortRef.{PortRef}
use Rattle.smp_wire.specs.Forwards.{IsCabledPort}
use Rattle.smp_wire.specs.Groups.{Copies, GoesByMasks, is_in_masks_at}
use Rattle.port_model.specs.AdapterState.{AdapterState}
use Rattle.smp_wire.specs.FabricState.{FabricState, is_switch_at}
use Rattle.sweep.specs.OfFabric.{Found}
use Rattle.sweep.proofs.MetLemmas.{good_once}
use Rattle.table_push.specs.BroughtUp.{IsBroughtUp, RoutesLeadHome}
use Rattle.table_push.specs.Laws.{HasMasksOf}
use Rattle.table_push.proofs.MaskHopLemmas.{IsReached, bit_reaches}
use Rattle.table_push.proofs.AttachmentLemmas.{IsAttached, is_no_switch, attached}
use Rattle.table_push.proofs.SpreadStepLemmas.{by_side, faces_no_switch, home_within, no_bits, stands_switch}
use Rattle.table_push.proofs.TreeCableLemmas.{one_node, side_cable, within_rows}
use Rattle.table_push.proofs.TreeHopLemmas.{hop_home, neighbour_of, parted, side_port}
use Rattle.updn_routes.specs.Sides.{IsSide, Side, back, is_behind, neighbour}
use Rattle.updn_routes.specs.Subnet.{RoutesState}
use Rattle.updn_routes.specs.Tree.{AreDepths}
use Rattle.updn_routes.specs.declared.link.Link.{Link}

module _ (routes : RoutesState) (roots : List ℕ) (keys : List (List ℕ)) (fabric : FabricState) (receives : ℕ → ℕ → Bool) (home : RoutesLeadHome routes) (right : AreDepths routes.between.rows routes.between.guids roots routes.between.depths) (up : IsBroughtUp routes keys fabric) (has : HasMasksOf routes receives fabric) where
  abbrev rows : List (List Link)
  rows = routes.between.rows

  abbrev depths : List ℕ
  depths = routes.between.depths

  abbrev Stands : ℕ → Found → Type 0
  Stands place found = slice_get up.graph.layout.found place ≡ Some found

  -- it comes in by the sender's own port, or by a side that the sender's switch is behind
  abbrev Enters : (first own s number : ℕ) → Type 0
  Enters first own s number =
      ((s ≡ first) × (number ≡ own))
      ⊎ ((e : Side) × IsSide rows depths s e × (side_port routes s e ≡ Some number) × (is_behind rows depths s e first ≡ true))

  -- so it doesn't go out by the sender's port
  not_by_own : (first own s number out : ℕ) → s < length rows → Enters first own s number → (out ≡ number → ⊥) → s ≡ first → out ≡ own → ⊥
  not_by_own first own s number out less (inl begins) onward same is = onward (is ∙ sym begins.1)
  not_by_own first own s number out less (inr one) onward same is =
      false≢true (sym ((parted routes roots home right s less).not_itself one.0 one.1)
      ∙ ap (is_behind rows depths s one.0) same ∙ one.3)

  -- and comes in at the next switch by a side that the sender's switch is behind
  enters_next : (first own s number out far into : ℕ) → s < length rows → first < length rows → Enters first own s number → (out ≡ number → ⊥)
      → (q : Side) → IsSide rows depths s q → neighbour rows depths s q ≡ Some far → side_port routes s q ≡ Some out
      → side_port routes far (back s q) ≡ Some into → Enters first own far into
  enters_next first own s number out far into less first_less (inl begins) onward q side is q_port back_port =
      let turned = (parted routes roots home right s less).back_is q far side is in
      inr (back s q, turned.0, back_port, ap (is_behind rows depths far (back s q)) (sym begins.0) ∙ turned.1)
  enters_next first own s number out far into less first_less (inr one) onward q side is q_port back_port =
      let sides = parted routes roots home right s less in
      let apart : one.0 ≡ q → ⊥ =
      λ same. onward (same_Some out number (sym q_port ∙ ap (side_port routes s) (sym same) ∙ one.2)) in
      inr (back s q, (sides.back_is q far side is).0, back_port, sides.onward one.0 q far first first_less one.1 side apart is one.3)

  never_back : (mlid : ℕ) (from begin : PortRef) (sender : AdapterState) → (attachment : IsAttached fabric routes.graph up.graph from begin sender)
      → far_end fabric.cables from ≡ Some begin → is_switch_at fabric.nodes from.node ≡ false
      → (way : List PortRef) (here : PortRef) (s : ℕ) (found : Found) → Stands s found → found.node ≡ here.node → Enters attachment.place begin.port s here.port
      → GoesByMasks fabric.nodes fabric.cables mlid here way from → ⊥
  never_back mlid from begin sender attachment first adapter [] here s found stands node enters goes =
      false≢true (sym adapter ∙ ap (λ (p : PortRef). is_switch_at fabric.nodes p.node) (sym goes)
      ∙ ap (is_switch_at fabric.nodes) (sym node) ∙ stands_switch routes roots keys fabric home right up s found stands)
  never_back mlid from begin sender attachment first adapter (next ∷ later) here s found stands node enters goes =
      by (λ far there standing same enters_far. never_back mlid from begin sender attachment first adapter later next far there standing same enters_far goes.1)
      (reach.home.node == s) refl
    where
      copy : Copies fabric.nodes fabric.cables mlid here next
      copy = goes.0

      cable : far_end fabric.cables (port found.node copy.out) ≡ Some next
      cable = ap (λ (n : ℕ). far_end fabric.cables (port n copy.out)) node ∙ copy.cable

      less : s < length rows
      less = within_rows routes roots fabric home right up.good up.graph s found stands

      reach : IsReached routes receives s mlid copy.out
      reach =
          bit_reaches routes fabric home.graph up.graph receives has s found stands mlid copy.out
          (ap (λ (n : ℕ). is_in_masks_at fabric.nodes mlid (port n copy.out)) node ∙ copy.group)

      -- out to the port of a channel adapter, which is another one
      out_there : is_switch_at fabric.nodes next.node ≡ false → (more : List PortRef) → GoesByMasks fabric.nodes fabric.cables mlid next more from → ⊥
      out_there off [] goes =
          let back = good_once fabric (port found.node copy.out) from up.good (cable ∙ ap (λ (p : PortRef). Some p) goes) in
          let same : begin ≡ port found.node copy.out = same_Some begin (port found.node copy.out) (sym first ∙ back) in
          let place : s ≡ attachment.place =
          one_node routes roots fabric home right up.good up.graph s attachment.place found attachment.found stands attachment.there
          (sym (ap (λ (p : PortRef). p.node) same) ∙ sym attachment.node) in
          not_by_own attachment.place begin.port s here.port copy.out less enters copy.onward place (sym (ap (λ (p : PortRef). p.port) same))
      out_there off (more ∷ rest) goes =
          false≢true (sym (no_bits fabric.nodes mlid (port next.node goes.0.out) off) ∙ goes.0.group)

      by : ((far : ℕ) (there : Found) → Stands far there → there.node ≡ next.node → Enters attachment.place begin.port far next.port → ⊥)
          → (b : Bool) → (reach.home.node == s) ≡ b → ⊥
      by on true is =
          let at = eqb-true reach.home.node s is in
          let number : reach.home.port ≡ copy.out =
          same_Some reach.home.port copy.out (sym (hop_home routes roots home right s reach.home at) ∙ reach.hop) in
          out_there (faces_no_switch routes roots keys fabric home right up s found stands reach.lid reach.home next reach.home_is reach.some at
          (ap (λ (n : ℕ). far_end fabric.cables (port found.node n)) number ∙ cable)) later goes.1
      by on false apart =
          let one = by_side routes roots keys fabric home right up s reach.home copy.out less
          (home_within routes roots keys fabric home right up reach.lid reach.home reach.home_is) apart reach.hop in
          let beside = neighbour_of routes roots home right s less one.q one.side in
          let leads = side_cable routes roots fabric home right up.good up.graph s one.q beside.far found stands one.side beside.is in
          let out : leads.out ≡ copy.out = same_Some leads.out copy.out (sym leads.out_is ∙ one.port_is) in
          let same : port leads.there.node leads.into ≡ next =
          same_Some (port leads.there.node leads.into) next (sym leads.cable ∙ ap (λ (n : ℕ). far_end fabric.cables (port found.node n)) out ∙ cable) in
          on beside.far leads.there leads.stands (ap (λ (p : PortRef). p.node) same)
          (enters_next attachment.place begin.port s here.port copy.out beside.far next.port less
          (within_rows routes roots fabric home right up.good up.graph attachment.place attachment.found attachment.there) enters copy.onward one.q one.side beside.is one.port_is
          (leads.into_is ∙ ap (λ (p : PortRef). Some p.port) same))

  pub away_there : (mlid : ℕ) (from : PortRef) (sender : AdapterState) (begin : IsCabledPort fabric from sender) (way : List PortRef)
      → GoesByMasks fabric.nodes fabric.cables mlid begin.far way from → ⊥
  away_there mlid from sender begin way goes =
      let attachment = attached fabric routes.graph from sender up.good up.graph begin in
      never_back mlid from begin.far sender attachment begin.cable (is_no_switch fabric.nodes from sender begin.there) way begin.far attachment.place attachment.found
      attachment.there attachment.node (inl (refl, refl)) goes
